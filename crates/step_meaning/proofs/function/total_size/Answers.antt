use Rattle.std.proofs.Common.{rules, ◌≡◌, unsigned_abs, SFits, to_z-of_z, arith}
use Rattle.std.specs.Int.{w128}
use Rattle.linear_cons.specs.Functions.{coefficient}
use Rattle.linear_cons.proofs.Sizes.{sizes_none, sizes_more}
use Rattle.step_meaning.proofs.function.total_size.Goals as goal

pub loop-place-init : goal.loop-place-init
loop-place-init c = let none = sizes_none c.args.function.now in omega arith

pub loop-place-preserved : goal.loop-place-preserved
loop-place-preserved c =
    let range : SFits w128 (coefficient c.args.function.now c.loop-place.place) = search rules in
    let size : c.unsigned_abs.result ≡ unsigned_abs (coefficient c.args.function.now c.loop-place.place) = simp to_z-of_z at c.unsigned_abs.ensures.value in
    let sum = c.saturating_add-sum.ensures in
    let before = c.loop-place.invariant in
    let more = sizes_more c.loop-place.place c.args.function.now in
    omega arith
