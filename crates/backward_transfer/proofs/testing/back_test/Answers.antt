use Rattle.std.proofs.Common.{◌≡◌, ◌<◌, ◌≤◌, [], List, None, sym, ap, subst, ◌∙◌}
use Rattle.std.specs.Prelude.{⊤}
use Rattle.std.proofs.lemmas.Result.{IfOk-weaker}
use Rattle.linear_cons.specs.declared.row.Row.{Row}
use Rattle.decision_tree.specs.Plans.{Plan, plan_of, size_of}
use Rattle.tree_unify.specs.Shapes.{TrimFits, trimmed}
use Rattle.tree_unify.specs.declared.fault.TreeFault.TheVariants.{Full as TooFull}
use Rattle.backward_transfer.specs.Tests.{IsLaterSmall, TriedAsks, tested, tried_tree}
use Rattle.backward_transfer.proofs.Making.{trimmed_small}
use Rattle.backward_transfer.proofs.testing.back_test.Goals as goal

pub returns-in-Ok-clause-tree : goal.returns-in-Ok-clause-tree
returns-in-Ok-clause-tree g c =
    let whole : plan_of c.in-Ok.moved.value ≡ tested g.R.PartialEq.eq g.R.Rank.where_greater g.R.Rank.greater_fits g.R.Rank.one_more (plan_of c.args.yes.now) (plan_of c.args.no.now) c.args.yes_rows.now c.args.no_rows.now
    = c.in-Ok.ensures.tree ∙ ap (λ (t : List Row). tried_tree g.R.PartialEq.eq g.R.Rank.where_greater g.R.Rank.greater_fits g.R.Rank.one_more (plan_of c.args.yes.now) (plan_of c.args.no.now) c.args.no_rows.now None c.args.yes_rows.now t) c.new-walk.ensures in
    IfOk-weaker c.trim.result _ _ (λ made is. is ∙ ap (λ (t : Plan g.row.R.Denot). trimmed g.R.PartialEq.eq [] t) (ap plan_of c.deref.ensures ∙ whole)) c.trim.ensures.tree

pub returns-in-Ok-clause-full : goal.returns-in-Ok-clause-full
returns-in-Ok-clause-full g c count is =
    let more = c.trim.ensures.full count is in
    let larger : 65536 < size_of (trimmed g.R.PartialEq.eq [] (plan_of c.in-Ok.moved.value)) = rw (← c.deref.ensures) more.1 in
    let small : size_of (plan_of c.in-Ok.moved.value) ≤ 65536 = rw (← c.in-Ok.ensures.size) c.in-Ok.ensures.small in
    absurd (trimmed_small g.R.PartialEq.eq (plan_of c.in-Ok.moved.value) 65536 small larger)

pub returns-in-Ok-clause-wide : goal.returns-in-Ok-clause-wide
returns-in-Ok-clause-wide g c w is asks fits =
    let whole : plan_of c.in-Ok.moved.value ≡ tested g.R.PartialEq.eq g.R.Rank.where_greater g.R.Rank.greater_fits g.R.Rank.one_more (plan_of c.args.yes.now) (plan_of c.args.no.now) c.args.yes_rows.now c.args.no_rows.now
    = c.in-Ok.ensures.tree ∙ ap (λ (t : List Row). tried_tree g.R.PartialEq.eq g.R.Rank.where_greater g.R.Rank.greater_fits g.R.Rank.one_more (plan_of c.args.yes.now) (plan_of c.args.no.now) c.args.no_rows.now None c.args.yes_rows.now t) c.new-walk.ensures in
    c.trim.ensures.wide w is (subst (λ (t : Plan g.row.R.Denot). TrimFits g.R.PartialEq.eq [] t) (sym (ap plan_of c.deref.ensures ∙ whole)) fits)

pub returns-clause-full : goal.returns-clause-full
returns-clause-full g c count is =
    let same : c.ask_next.new.walk.fault ≡ TooFull count = cc in
    let more = c.in-Err.ensures.full count same in (
      more.0,
      λ small least. more.1
          (subst (λ (t : List Row). TriedAsks (λ (row : Row). ⊤) (IsLaterSmall g.R.PartialEq.eq g.R.Rank.where_greater g.R.Rank.greater_fits (plan_of c.args.yes.now) (plan_of c.args.no.now)) c.args.no_rows.now None c.args.yes_rows.now t) (sym c.new-walk.ensures) small)
          (subst (λ (t : List Row). size_of (tried_tree g.R.PartialEq.eq g.R.Rank.where_greater g.R.Rank.greater_fits g.R.Rank.one_more (plan_of c.args.yes.now) (plan_of c.args.no.now) c.args.no_rows.now None c.args.yes_rows.now t) ≤ 65536) (sym c.new-walk.ensures) least),
    )
