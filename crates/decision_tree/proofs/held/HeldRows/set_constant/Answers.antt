use Rattle.std.proofs.Common.{◌≤◌, List, ap, length, map, refl, sym, ◌∙◌, arith}
use Rattle.std.proofs.lemmas.Int.{to_z-of_z}
use Rattle.linear_cons.specs.Numbers.{Fits128}
use Rattle.linear_cons.specs.declared.row.Row.{Row}
use Rattle.decision_tree.specs.Marks.{mark_of}
use Rattle.decision_tree.specs.Trails.{with_constant_at}
use Rattle.decision_tree.proofs.Gathering.{none_moved, set_moved}
use Rattle.decision_tree.proofs.Marking.{marks_kept}
use Rattle.decision_tree.proofs.held.HeldRows.set_constant.Goals as goal

pub invariant_of-self : goal.invariant_of-self
invariant_of-self c =
    let number : Fits128 c.args.constant = record { sfits = c.ranges.constant.sfits } in
    let rows = c.self.inside.rows.items in
    c.self.invariant ∙ sym (marks_kept rows c.args.place c.args.constant)
    ∙ ap (λ (list : List Row). map (λ (row : Row). mark_of row.affine) list) (sym (set_moved rows c.args.place c.index_mut.result.now _ c.args.constant c.index_mut.ensures.value refl (simp to_z-of_z refl)))

pub returns-then-place-len : goal.returns-then-place-len
returns-then-place-len c =
    let number : Fits128 c.args.constant = record { sfits = c.ranges.constant.sfits } in
    let rows = c.self.inside.rows.items in
    set_moved rows c.args.place c.index_mut.result.now _ c.args.constant c.index_mut.ensures.value refl (simp to_z-of_z refl)
    ∙ ap (λ (list : List Row). with_constant_at list c.args.place c.args.constant) c.self.view_is

pub returns-else-place-len : goal.returns-else-place-len
returns-else-place-len c =
    let past : length c.args.self.now ≤ c.args.place = (let same = c.len.ensures in let is = ap (λ (list : List Row). length list) c.self.view_is in omega (arith, same, is, c.if-place-len.false)) in
    none_moved c.args.self.now c.args.place c.args.constant past
