use Rattle.std.proofs.Common.{pos, ◌-ℤ◌, unsigned_abs, SFits, to_z-of_z}
use Rattle.std.specs.Int.{w64}
use Rattle.quotient_cases.specs.Cases.{number_end, plainly, where_kept, where_large, where_low, where_small}
use Rattle.quotient_cases.proofs.Adding.{three_more}
use Rattle.quotient_cases.proofs.making.add_exact.Goals as goal

pub returns : goal.returns
returns c =
    let range : SFits w64 c.args.by = c.ranges.by in
    let most = simp to_z-of_z at c.most_end.ensures in
    let least = simp to_z-of_z at c.least_end.ensures in
    let large = simp to_z-of_z at c.in_ok-large.ensures in
    let small = simp to_z-of_z at c.in_ok-small.ensures in
    let low = simp to_z-of_z at c.in_ok-low.ensures in
    three_more c.args.made.now.items c.add_between.new.made.items c.add_between-2.new.made.items c.add_between-3.new.made.items
    (where_kept (where_large c.args.by c.args.case.now) (λ rows. plainly rows (number_end (pos 0)) (number_end (pos (unsigned_abs c.args.by) -ℤ pos 1))))
    (where_kept (where_small c.args.by c.args.case.now) (λ rows. plainly rows c.args.case.now.least c.args.case.now.most))
    (where_kept (where_low c.args.by c.args.case.now) (λ rows. plainly rows (number_end (pos 1 -ℤ pos (unsigned_abs c.args.by))) (number_end (pos 0))))
    (rw (← large, ← most, ← c.nought.ensures) c.in_ok-add_between.ensures)
    (rw (← small) c.in_ok-add_between-2.ensures)
    (rw (← low, ← least, ← c.nought-2.ensures) c.in_ok-add_between-3.ensures)
