use Rattle.std.proofs.Common.{◌≡◌, ◌∙◌, ◌++◌, ap, drop, length, subst, sym, take}
use Rattle.octagon_dom.specs.Cells.{IsBelow}
use Rattle.octagon_dom.specs.Closure.{IsClosedOrVoid}
use Rattle.octagon_dom.proofs.Writing.{written_back}
use Rattle.octagon_dom.proofs.octagon.Octagon.add_all.Goals as goal
use Rattle.octagon_dom.proofs.octagon.Octagon.add_all.Goals.{After-meet_all-whole}

back : (c : After-meet_all-whole)
    → take c.close_up.new.self.cells.len (c.meet_all-whole.new.cells ++ drop (length c.meet_all-whole.new.cells) c.close_up.new.self.cells.items)
    ≡ c.meet_all-whole.new.cells
back c =
    let len : c.close_up.new.self.cells.len ≡ 1024 =
    sym c.as_mut_slice.ensures.len ∙ ap length c.as_mut_slice.ensures.value ∙ c.close_up.new.self.size in
    written_back c.close_up.new.self.cells.len c.meet_all-whole.new.cells c.close_up.new.self.cells.items c.meet_all-whole.ensures.met.long len

pub returns-clause-keeps : goal.returns-clause-keeps
returns-clause-keeps c store is has met =
    let here = (goal.at.returns-clause-keeps c).After-meet_all-whole in
    subst (λ items. IsBelow items store) (sym (back here))
    (c.meet_all-whole.ensures.met.keeps store (subst (λ items. IsBelow items store) (sym c.as_mut_slice.ensures.value)
    ((c.close_up.ensures.same store is).0 has)) met)

pub returns-clause-inside : goal.returns-clause-inside
returns-clause-inside c store is has =
    let here = (goal.at.returns-clause-inside c).After-meet_all-whole in
    (c.close_up.ensures.same store is).1 (subst (λ items. IsBelow items store) c.as_mut_slice.ensures.value
    (c.meet_all-whole.ensures.met.inside store (subst (λ items. IsBelow items store) (back here) has)))

pub invariant_of-self-clause-mark : goal.invariant_of-self-clause-mark
invariant_of-self-clause-mark c is =
    let here = (goal.at.invariant_of-self-clause-mark c).After-meet_all-whole in
    subst IsClosedOrVoid (sym (back here)) (c.meet_all-whole.ensures.whole (c.both-self.ensures.other is)
    (subst IsClosedOrVoid (sym c.as_mut_slice.ensures.value) (c.close_up.new.self.mark (c.both-self.ensures.one is))))
