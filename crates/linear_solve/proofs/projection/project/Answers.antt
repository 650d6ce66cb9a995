use Rattle.std.proofs.Common.{arith}
use Rattle.linear_solve.proofs.Deciding.{outgrow_one, overflow_one, points_extend, points_nothing, stores_kept, stores_nothing, no_store_of_kept, tame_kept}
use Rattle.linear_solve.proofs.Extending.{no_store_of_never}
use Rattle.linear_solve.proofs.Tame.{tame_count, tame_pairs}
use Rattle.linear_solve.proofs.projection.project.Goals as goal

pub returns-in-Ok-Some : goal.returns-in-Ok-Some
returns-in-Ok-Some c =
    let eliminated = rw (c.in-Ok-Some.field-0-is, c.deref.ensures.value) at c.in-Ok-Some.ensures.left in
    let few = rw c.in-Ok-Some.field-0-is at c.in-Ok-Some.ensures.few in
    record {
      stores = stores_kept c.args.rows.now c.in_ok-kept.kept.items c.args.place c.in-Ok-Some.left.items c.requires c.in_ok-kept.ensures.stands eliminated;
      points = points_extend c.args.rows.now c.in_ok-kept.kept.items c.args.place c.in-Ok-Some.left.items c.requires c.in_ok-kept.ensures.stands eliminated;
      short = few;
    }

pub returns-in-Ok-None : goal.returns-in-Ok-None
returns-in-Ok-None c =
    let never = rw (c.in-Ok-None.field-0-is, c.deref.ensures.value) at c.in-Ok-None.ensures.left in
    let none = no_store_of_kept c.args.rows.now c.in_ok-kept.kept.items c.in_ok-kept.ensures.stands (no_store_of_never c.in_ok-kept.kept.items c.args.place never) in
    let nothing = c.in_ok-nothing-in-Ok-None.ensures in
    record {
      stores = stores_nothing c.args.rows.now c.args.place _ none;
      points = points_nothing c.args.rows.now c.args.place _ nothing.nothing;
      short = let two = nothing.short in omega (arith, two);
    }

pub returns-in-Err-Wide : goal.returns-in-Err-Wide
returns-in-Err-Wide c =
    let outside = rw c.in-Err-Wide.field-0-is at c.in-Err-Wide.ensures.wide in
    let unfit = rw (c.in-Err-Wide.field-0-is, c.deref.ensures.value) at c.in-Err-Wide.ensures.unfit in
    rw c.in-Err-Wide.field-0-is (
      outside,
      (λ octagons. tame_pairs c.in_ok-kept.kept.items c.args.place _ c.requires (tame_kept c.args.rows.now c.in_ok-kept.kept.items c.in_ok-kept.ensures.stands octagons) unfit),
      outgrow_one c.args.rows.now c.in_ok-kept.kept.items c.args.place c.requires c.in_ok-kept.ensures.stands unfit,
    )

pub returns-in-Err-Rows : goal.returns-in-Err-Rows
returns-in-Err-Rows c =
    let above = rw c.in-Err-Rows.field-0-is at c.in-Err-Rows.ensures.many in
    let many = rw (c.in-Err-Rows.field-0-is, c.deref.ensures.value) at c.in-Err-Rows.ensures.counted in
    let distinct = rw (c.in-Err-Rows.field-0-is, c.deref.ensures.value) at c.in-Err-Rows.ensures.distinct in
    rw c.in-Err-Rows.field-0-is (
      above,
      (λ octagons. tame_count c.in_ok-kept.kept.items c.args.place _ c.requires (tame_kept c.args.rows.now c.in_ok-kept.kept.items c.in_ok-kept.ensures.stands octagons) many),
      overflow_one c.args.rows.now c.in_ok-kept.kept.items c.args.place c.in_ok-kept.ensures.stands many,
      record { kept = c.in_ok-kept.kept.items; tightest = c.in_ok-kept.ensures.tightest; many = distinct },
    )
