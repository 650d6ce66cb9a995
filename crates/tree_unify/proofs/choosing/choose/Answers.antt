use Rattle.std.proofs.Common.{◌≡◌, refl, sym, ap, ◌∙◌, Option, Some}
use Rattle.linear_cons.specs.Rows.{complement}
use Rattle.linear_cons.specs.declared.row.Row.{Row}
use Rattle.linear_cons.proofs.RowLaws.{row_same}
use Rattle.decision_tree.specs.Plans.{plan_of}
use Rattle.decision_tree.proofs.Comparing.{some_parts}
use Rattle.tree_unify.specs.Choosing.{chosen_by, only_row}
use Rattle.tree_unify.proofs.choosing.choose.Goals as goal

pub ask_from-requires-clause-number : goal.ask_from-requires-clause-number
ask_from-requires-clause-number g c =
    some_parts g.R.Rank g.met.R.Rank.greater_length_law g.met.R.Rank.more_law g.met.R.Rank.greater_law c.args.next.now

pub returns-clause-tree : goal.returns-clause-tree
returns-clause-tree g c =
    let all = g.R.Rank.where_greater c.args.next.now c.args.rank.now in
    let same : c.in_ok-complement.complement ≡ complement c.in-Some.row = row_same c.in_ok-complement.complement (complement c.in-Some.row) c.in_ok-complement.ensures.complement in
    let found : only_row all ≡ Some c.in-Some.row =
    sym (c.only_row.ensures all (g.met.R.Rank.greater_length_law c.args.next.now c.args.rank.now) c.in_ok-first.ensures.exact.1) ∙ c.in-Some.is in
    c.in_ok-tree-2.ensures
    ∙ rw (same, c.in_ok-yes.ensures, c.in_ok-no.ensures) refl
    ∙ sym (ap (λ (t : Option Row). chosen_by g.R.PartialEq.eq t all (plan_of c.args.greater.now) (plan_of c.args.other.now)) found)
