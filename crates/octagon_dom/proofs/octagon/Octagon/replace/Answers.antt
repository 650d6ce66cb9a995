use Rattle.std.proofs.Common.{◌≡◌, ◌∙◌, ap, length, length-set, set, subst, sym}
use Rattle.octagon_dom.specs.Assignments.{HasModerateBounds}
use Rattle.octagon_dom.specs.declared.octagon.Octagon.{Octagon}
use Rattle.octagon_dom.specs.Cells.{IsBelow}
use Rattle.octagon_dom.specs.Octagons.{IsMarked}
use Rattle.octagon_dom.specs.Laws.Rows.{empty_none}
use Rattle.octagon_dom.proofs.Writing.{written_back}
use Rattle.octagon_dom.proofs.octagon.Octagon.replace.Goals as goal

pub returns-then-has_none-clause-keeps : goal.returns-then-has_none-clause-keeps
returns-then-has_none-clause-keeps c store z is has covers =
    absurd (empty_none c.close_up.new.self store (sym c.has_none.ensures ∙ c.if-has_none.true) ((c.close_up.ensures.same store is).0 has))

pub returns-clause-keeps : goal.returns-clause-keeps
returns-clause-keeps c store z is has covers =
    let len : c.close_up.new.self.cells.len ≡ 1024 =
    sym c.as_mut_slice.ensures.len ∙ ap length c.as_mut_slice.ensures.value ∙ c.close_up.new.self.size in
    let before = subst (λ items. IsBelow items store) (sym c.as_mut_slice.ensures.value) ((c.close_up.ensures.same store is).0 has) in
    subst (λ items. IsBelow items (set store c.args.place z)) (sym (written_back _ c.set-whole.new.cells _ c.set-whole.ensures.long len))
    (c.set-whole.ensures.keeps store z is before covers)

pub returns-then-has_none-clause-sets : goal.returns-then-has_none-clause-sets
returns-then-has_none-clause-sets c simple store long has =
    absurd (empty_none c.close_up.new.self store (sym c.has_none.ensures ∙ c.if-has_none.true) has)

pub returns-clause-sets : goal.returns-clause-sets
returns-clause-sets c simple store long has =
    let len : c.close_up.new.self.cells.len ≡ 1024 =
    sym c.as_mut_slice.ensures.len ∙ ap length c.as_mut_slice.ensures.value ∙ c.close_up.new.self.size in
    c.set-whole.ensures.sets simple store long
    (subst (λ items. IsBelow items store) (written_back _ c.set-whole.new.cells _ c.set-whole.ensures.long len) has)

pub returns-then-has_none-clause-moves : goal.returns-then-has_none-clause-moves
returns-then-has_none-clause-moves c closed bounds step store long has =
    absurd (empty_none c.close_up.new.self store (sym c.has_none.ensures ∙ c.if-has_none.true) has)

pub returns-clause-moves : goal.returns-clause-moves
returns-clause-moves c closed bounds step store long has =
    let len : c.close_up.new.self.cells.len ≡ 1024 =
    sym c.as_mut_slice.ensures.len ∙ ap length c.as_mut_slice.ensures.value ∙ c.close_up.new.self.size in
    let moderate : HasModerateBounds c.close_up.new.self.cells.items =
    λ i j end h g is. bounds i j end h g (sym (c.close_up.ensures.stays closed i j h g) ∙ is) in
    let moved = c.set-whole.ensures.moves (subst HasModerateBounds (sym c.as_mut_slice.ensures.value) moderate) step store long
    (subst (λ items. IsBelow items store) (written_back _ c.set-whole.new.cells _ c.set-whole.ensures.long len) has) in
    let before = subst (λ items. IsBelow items (set store c.args.place moved.0)) c.as_mut_slice.ensures.value moved.1 in (
      moved.0,
      (c.close_up.ensures.same (set store c.args.place moved.0) (length-set store c.args.place moved.0 ∙ long)).1 before,
      moved.2,
    )

pub returns-then-has_none-clause-marked : goal.returns-then-has_none-clause-marked
returns-then-has_none-clause-marked c marked bounds step = subst IsMarked (sym (c.close_up.ensures.kept marked)) marked

pub returns-clause-marked : goal.returns-clause-marked
returns-clause-marked c marked bounds step =
    let kept = c.close_up.ensures.kept marked in
    let same = c.as_mut_slice.ensures.value ∙ ap (λ (set : Octagon). set.cells.items) kept in
    c.both-self.ensures.all (subst IsMarked (sym kept) marked)
    (c.set-whole.ensures.moderate (subst HasModerateBounds (sym same) bounds) step)
