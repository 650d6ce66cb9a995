use Rattle.std.proofs.Common.{◌≡◌, ◌∙◌, ap, length, subst, sym}
use Rattle.std.specs.Int.{int_max}
use Rattle.num_domain.specs.Ends.{both_ends}
use Rattle.octagon_dom.specs.Cells.{IsBelow, bound}
use Rattle.octagon_dom.specs.Closure.{IsClosed}
use Rattle.octagon_dom.specs.Laws.Rows.{empty_none}
use Rattle.octagon_dom.proofs.Members.{joined_other, joined_own}
use Rattle.octagon_dom.proofs.Closures.{closed_cells, void_open}
use Rattle.octagon_dom.proofs.RowClosures.{closed_same, joined_bounds, joined_closed}
use Rattle.octagon_dom.proofs.Writing.{written_back}
use Rattle.octagon_dom.proofs.octagon.Octagon.unite.Goals as goal

pub returns-then-has_none-clause-others : goal.returns-then-has_none-clause-others
returns-then-has_none-clause-others c store is has = absurd (empty_none c.args.other.now store (sym c.has_none.ensures
    ∙ c.if-has_none.true) has)

pub returns-then-has_none-2-clause-own : goal.returns-then-has_none-2-clause-own
returns-then-has_none-2-clause-own c store is has =
    absurd (empty_none c.close_up.new.self store (sym c.has_none-2.ensures
    ∙ c.if-has_none-2.true) ((c.close_up.ensures.same store is).0 has))

pub returns-clause-own : goal.returns-clause-own
returns-clause-own c store is has =
    let len : c.close_up.new.self.cells.len ≡ 1024 = sym c.as_mut_slice.ensures.len ∙ ap length c.as_mut_slice.ensures.value
    ∙ c.close_up.new.self.size in
    let before = subst (λ items. IsBelow items store) (sym c.as_mut_slice.ensures.value) ((c.close_up.ensures.same store is).0 has) in
    subst (λ items. IsBelow items store) (sym (written_back _ c.join.new.cells _ c.join.ensures.long len))
    (joined_own _ _ _ c.join.ensures store before)

pub returns-clause-others : goal.returns-clause-others
returns-clause-others c store is has =
    let len : c.close_up.new.self.cells.len ≡ 1024 = sym c.as_mut_slice.ensures.len ∙ ap length c.as_mut_slice.ensures.value
    ∙ c.close_up.new.self.size in
    let before = subst (λ items. IsBelow items store) (sym c.deref.ensures.value) has in
    subst (λ items. IsBelow items store) (sym (written_back _ c.join.new.cells _ c.join.ensures.long len))
    (joined_other _ _ _ c.join.ensures store before)

pub returns-then-has_none-2-clause-closed : goal.returns-then-has_none-2-clause-closed
returns-then-has_none-2-clause-closed c own other = subst (λ items. IsClosed (bound items)) (sym c.take_over.ensures) other

pub returns-clause-closed : goal.returns-clause-closed
returns-clause-closed c own other =
    let len : c.close_up.new.self.cells.len ≡ 1024 = sym c.as_mut_slice.ensures.len ∙ ap length c.as_mut_slice.ensures.value
    ∙ c.close_up.new.self.size in
    let before = closed_same (bound c.args.self.now.cells.items) (bound c.close_up.new.self.cells.items)
    (λ a b h g. sym (c.close_up.ensures.stays own a b h g)) own in
    subst (λ items. IsClosed (bound items)) (sym (written_back _ c.join.new.cells _ c.join.ensures.long len))
    (joined_closed _ _ _ c.join.ensures (subst (λ items. IsClosed (bound items)) (sym c.as_mut_slice.ensures.value) before)
    (subst (λ items. IsClosed (bound items)) (sym c.deref.ensures.value) other))

pub returns-then-has_none-clause-hull : goal.returns-then-has_none-clause-hull
returns-then-has_none-clause-hull c own other =
    absurd (void_open c.args.other.now.cells.items (sym c.has_none.ensures ∙ c.if-has_none.true) other)

pub returns-then-has_none-2-clause-hull : goal.returns-then-has_none-2-clause-hull
returns-then-has_none-2-clause-hull c own other =
    absurd (void_open c.close_up.new.self.cells.items (sym c.has_none-2.ensures ∙ c.if-has_none-2.true)
    (closed_same (bound c.args.self.now.cells.items) (bound c.close_up.new.self.cells.items)
    (λ a b h g. sym (c.close_up.ensures.stays own a b h g)) own))

pub returns-clause-hull : goal.returns-clause-hull
returns-clause-hull c own other i j h g =
    let len : c.close_up.new.self.cells.len ≡ 1024 = sym c.as_mut_slice.ensures.len ∙ ap length c.as_mut_slice.ensures.value
    ∙ c.close_up.new.self.size in
    ap (λ items. bound items i j) (written_back _ c.join.new.cells _ c.join.ensures.long len)
    ∙ joined_bounds _ _ _ c.join.ensures i j h g
    ∙ ap (λ items. both_ends int_max (bound items i j) (bound c.deref.result.now i j)) c.as_mut_slice.ensures.value
    ∙ ap (λ end. both_ends int_max end (bound c.deref.result.now i j)) (c.close_up.ensures.stays own i j h g)
    ∙ ap (λ items. both_ends int_max (bound c.args.self.now.cells.items i j) (bound items i j)) c.deref.ensures.value

pub invariant_of-self-clause-mark : goal.invariant_of-self-clause-mark
invariant_of-self-clause-mark c is filled =
    let len : c.close_up.new.self.cells.len ≡ 1024 = sym c.as_mut_slice.ensures.len ∙ ap length c.as_mut_slice.ensures.value
    ∙ c.close_up.new.self.size in
    let own = closed_cells c.close_up.new.self.cells.items (c.close_up.new.self.mark (c.both-self.ensures.one is)
    (sym c.has_none-2.ensures ∙ c.if-has_none-2.false)) in
    let other = closed_cells c.args.other.now.cells.items (c.args.other.now.mark (c.both-self.ensures.other is)
    (sym c.has_none.ensures ∙ c.if-has_none.false)) in
    let hull = joined_closed _ _ _ c.join.ensures (subst (λ items. IsClosed (bound items)) (sym c.as_mut_slice.ensures.value) own)
    (subst (λ items. IsClosed (bound items)) (sym c.deref.ensures.value) other) in
    (subst (λ items. IsClosed (bound items)) (sym (written_back _ c.join.new.cells _ c.join.ensures.long len)) hull).ways
