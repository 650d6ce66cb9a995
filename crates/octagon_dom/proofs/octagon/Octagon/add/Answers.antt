use Rattle.std.proofs.Common.{◌≡◌, ◌^◌, ◌∙◌, ◌++◌, ap, drop, length, subst, sym, take}
use Rattle.octagon_dom.specs.declared.octagon.Octagon.{Octagon}
use Rattle.octagon_dom.specs.Cells.{IsBelow}
use Rattle.octagon_dom.specs.Closure.{AreSized, ClosesRow, IsClosedOrVoid}
use Rattle.octagon_dom.specs.Octagons.{IsMarked}
use Rattle.octagon_dom.proofs.RowClosures.{closes_from}
use Rattle.octagon_dom.proofs.Writing.{written_back}
use Rattle.octagon_dom.proofs.octagon.Octagon.add.Goals as goal
use Rattle.octagon_dom.proofs.octagon.Octagon.add.Goals.{After-meet-whole}

back : (c : After-meet-whole) → take c.close_up.new.self.cells.len (c.meet-whole.new.cells ++ drop (length c.meet-whole.new.cells) c.close_up.new.self.cells.items)
    ≡ c.meet-whole.new.cells
back c =
    let len : c.close_up.new.self.cells.len ≡ 1024 =
    sym c.as_mut_slice.ensures.len ∙ ap length c.as_mut_slice.ensures.value ∙ c.close_up.new.self.size in
    written_back c.close_up.new.self.cells.len c.meet-whole.new.cells c.close_up.new.self.cells.items c.meet-whole.ensures.long len

pub returns-clause-keeps : goal.returns-clause-keeps
returns-clause-keeps c store is has met =
    let here = (goal.at.returns-clause-keeps c).After-meet-whole in
    subst (λ items. IsBelow items store) (sym (back here))
    (c.meet-whole.ensures.keeps store (subst (λ items. IsBelow items store) (sym c.as_mut_slice.ensures.value)
    ((c.close_up.ensures.same store is).0 has)) met)

pub returns-clause-inside : goal.returns-clause-inside
returns-clause-inside c store is has =
    let here = (goal.at.returns-clause-inside c).After-meet-whole in
    (c.close_up.ensures.same store is).1 (subst (λ items. IsBelow items store) c.as_mut_slice.ensures.value
    (c.meet-whole.ensures.inside store (subst (λ items. IsBelow items store) (back here) has)))

pub returns-clause-exact : goal.returns-clause-exact
returns-clause-exact c states store is =
    let here = (goal.at.returns-clause-exact c).After-meet-whole in (
      λ has.
          let below = subst (λ items. IsBelow items store) (back here) has in (
            (c.close_up.ensures.same store is).1 (subst (λ items. IsBelow items store) c.as_mut_slice.ensures.value
                (c.meet-whole.ensures.inside store below)),
            c.meet-whole.ensures.met states.shape states.half store below,
          ),
      λ both. subst (λ items. IsBelow items store) (sym (back here))
          (c.meet-whole.ensures.keeps store (subst (λ items. IsBelow items store) (sym c.as_mut_slice.ensures.value)
          ((c.close_up.ensures.same store is).0 both.0)) both.1),
    )

pub returns-clause-closed : goal.returns-clause-closed
returns-clause-closed c shape =
    let here = (goal.at.returns-clause-closed c).After-meet-whole in
    closes_from c.args.row.now c.args.self.now.cells.items c.close_up.new.self.cells.items _ (λ closed. c.close_up.ensures.stays closed)
    (subst (ClosesRow c.args.row.now c.close_up.new.self.cells.items) (sym (back here))
    (subst (λ items. ClosesRow c.args.row.now items c.meet-whole.new.cells) c.as_mut_slice.ensures.value (c.meet-whole.ensures.closes shape)))

pub returns-clause-passes : goal.returns-clause-passes
returns-clause-passes c wide shape =
    let here = (goal.at.returns-clause-passes c).After-meet-whole in
    record {
      between = c.close_up.new.self.cells.items;
      passed = c.close_up.ensures.passes wide;
      closes = subst (ClosesRow c.args.row.now c.close_up.new.self.cells.items) (sym (back here))
          (subst (λ items. ClosesRow c.args.row.now items c.meet-whole.new.cells) c.as_mut_slice.ensures.value (c.meet-whole.ensures.closes shape));
    }

pub invariant_of-self-clause-mark : goal.invariant_of-self-clause-mark
invariant_of-self-clause-mark c is =
    let here = (goal.at.invariant_of-self-clause-mark c).After-meet-whole in
    subst IsClosedOrVoid (sym (back here)) (c.meet-whole.ensures.whole (c.both-self.ensures.other is)
    (subst IsClosedOrVoid (sym c.as_mut_slice.ensures.value) (c.close_up.new.self.mark (c.both-self.ensures.one is))))

pub returns-clause-marked : goal.returns-clause-marked
returns-clause-marked c marked sized shape few =
    let kept = c.close_up.ensures.kept marked in
    let same = c.as_mut_slice.ensures.value ∙ ap (λ (set : Octagon). set.cells.items) kept in
    c.both-self.ensures.all (subst IsMarked (sym kept) marked)
    (c.meet-whole.ensures.sized shape (subst (AreSized (2 ^ 123)) (sym same) sized) few)
