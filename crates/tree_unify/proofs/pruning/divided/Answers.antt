use Rattle.std.proofs.Common.{ℤ, List, subst}
use Rattle.linear_cons.specs.Rows.{complement}
use Rattle.linear_cons.proofs.RowLaws.{row_same}
use Rattle.num_domain.specs.Domain.{KeepsMeeting, NoneMeets}
use Rattle.tree_unify.proofs.Cutting.{all_meet, none_meets}
use Rattle.tree_unify.proofs.pruning.divided.Goals as goal

pub returns-then-has_no_member-clause-sides : goal.returns-then-has_no_member-clause-sides
returns-then-has_no_member-clause-sides g c =
    let row = c.args.row.now in
    let has = g.D.NumDomain.has c.args.at.value in
    let below = g.D.NumDomain.has c.in_ok-below.below.value in
    let keeps = subst (λ row. KeepsMeeting row has below) (row_same c.in_ok-opposite.opposite (complement row) c.in_ok-opposite.ensures.complement) c.in_ok-below.ensures in
    let none : (store : List ℤ) → below store → ⊥ = rw (← c.deref-then-not-no_ends.ensures) (c.has_no_member.ensures c.if-has_no_member.true) in
    (all_meet row has (none_meets (complement row) has below keeps none), λ store is member met. tt)

pub returns-then-no-clause-sides : goal.returns-then-no-clause-sides
returns-then-no-clause-sides g c =
    let has = g.D.NumDomain.has c.args.at.value in
    let out : NoneMeets c.in_ok-opposite.opposite has = rw (← c.deref-2.ensures) (c.in_ok-no.ensures.none c.if-no.true) in
    let none = subst (λ row. NoneMeets row has) (row_same c.in_ok-opposite.opposite (complement c.args.row.now) c.in_ok-opposite.ensures.complement) out in
    (all_meet c.args.row.now has none, c.in_ok-inside.ensures)
