use Rattle.std.proofs.Common.{◌≡◌, ◌<◌, ℕ, List, arith, rules, length, ap}
use Rattle.linear_cons.specs.declared.row.Row.{Row}
use Rattle.linear_solve.specs.Answers.{Outgrown, leaves_outgrown, makes_many}
use Rattle.linear_solve.specs.Elimination.{AreMany, HasUnfitPair, IsMade, made_of}
use Rattle.linear_solve.specs.Solving.{IfStopRows, IfStopWide, IsMemory, IsModest, IsTame}
use Rattle.linear_solve.specs.Systems.{occurring, rows_after}
use Rattle.linear_solve.specs.declared.answer.Stop.{Stop}
use Rattle.linear_solve.specs.declared.answer.Stop.TheVariants.{Wide}
use Rattle.linear_solve.proofs.Extending.{no_store_of_left, no_store_of_never, origin_meets, put_back_meets}
use Rattle.linear_solve.proofs.Modest.{modest_left, modest_next, modest_origin, modest_pairs, modest_put_back}
use Rattle.linear_solve.proofs.Occurring.{no_rows, occurs_positive}
use Rattle.linear_solve.proofs.Outcomes.{if_err_is, if_wide, stop_memory, stop_rows_map, stop_wide_map}
use Rattle.linear_solve.proofs.Solved.{after_left, after_made, fewer_occur}
use Rattle.linear_solve.proofs.Tame.{tame_count, tame_left, tame_next, tame_origin, tame_pairs, tame_put_back}
use Rattle.linear_solve.proofs.solver.+solve.Goals as goal

pub returns-in-None-clause-found : goal.returns-in-None-clause-found
returns-in-None-clause-found t c = origin_meets c.args.rows.now c.origin.result (no_rows c.args.rows.now c.in-None.ensures) c.origin.ensures

pub returns-in-None-clause-modest_point : goal.returns-in-None-clause-modest_point
returns-in-None-clause-modest_point t c size m root modest = modest_origin c.args.rows.now size m root c.origin.result c.origin.ensures modest

pub returns-in-None-clause-tame_point : goal.returns-in-None-clause-tame_point
returns-in-None-clause-tame_point t c bound tame = tame_origin (occurring c.args.rows.now) c.origin.result c.origin.ensures

pub returns-in_err-left-clause-immodest : goal.returns-in_err-left-clause-immodest
returns-in_err-left-clause-immodest t c =
    let none : HasUnfitPair c.args.rows.now c.in-Some.place → (size m root : ℕ) → IsModest size m root c.args.rows.now → ⊥ =
    λ unfit size m root modest. modest_pairs c.args.rows.now c.in-Some.place size m root c.in-Some.ensures.0 c.in-Some.ensures.1 modest unfit in
    if_err_is _ _ (λ (stop : Stop). IfStopWide stop (λ _. (size m root : ℕ) → IsModest size m root c.args.rows.now → ⊥)) c.from_residual.ensures.1 (stop_wide_map _ _ _ none c.in_err-left.ensures.unfit)

pub returns-in_err-left-clause-counted : goal.returns-in_err-left-clause-counted
returns-in_err-left-clause-counted t c =
    let more : 4096 < made_of c.in-Some.place c.args.rows.now → 4096 < rows_after (occurring c.args.rows.now) (length c.args.rows.now) =
    λ many. let p = after_made c.args.rows.now c.in-Some.place (occurring c.args.rows.now) (occurs_positive c.args.rows.now c.in-Some.place c.in-Some.ensures.0 c.in-Some.ensures.1) in omega (arith, p, many) in
    if_err_is _ _ (λ (stop : Stop). IfStopRows stop (λ _. 4096 < rows_after (occurring c.args.rows.now) (length c.args.rows.now))) c.from_residual.ensures.1 (stop_rows_map _ _ _ more c.in_err-left.ensures.counted)

pub returns-in_err-left-clause-wild : goal.returns-in_err-left-clause-wild
returns-in_err-left-clause-wild t c =
    if_err_is _ _ (λ (stop : Stop). (bound : ℕ) → IsTame bound c.args.rows.now → IsMemory stop) c.from_residual.ensures.1
    (λ bound tame. stop_memory _ _ _ c.in_err-left.ensures.unfit c.in_err-left.ensures.counted (tame_pairs c.args.rows.now c.in-Some.place bound c.in-Some.ensures.0 tame) (tame_count c.args.rows.now c.in-Some.place bound c.in-Some.ensures.0 tame))

pub returns-in-None-2-clause-found : goal.returns-in-None-2-clause-found
returns-in-None-2-clause-found t c =
    let never = rw c.in-None-2.is at c.in_ok-left.ensures.left in
    no_store_of_never c.args.rows.now c.in-Some.place never

pub solve-requires : goal.solve-requires
solve-requires t c =
    let eliminated = rw (c.in-Some-2.is) at c.in_ok-left.ensures.left in
    let fewer = fewer_occur c.args.rows.now c.in-Some.place c.in-Some-2.left.items c.in-Some.ensures.0 c.in-Some.ensures.1 eliminated in
    let same = ap (λ (rows : List Row). occurring rows) c.deref.ensures.value in
    let measure = c.decreases in
    (omega (arith, fewer, same, measure), tt)

pub returns-in_err-point-clause-immodest : goal.returns-in_err-point-clause-immodest
returns-in_err-point-clause-immodest t c =
    let eliminated = rw c.in-Some-2.is at c.in_ok-left.ensures.left in
    let before = rw c.deref.ensures.value at c.in_err-point.ensures.immodest in
    let none : ((size m root : ℕ) → IsModest size m root c.in-Some-2.left.items → ⊥) → (size m root : ℕ) → IsModest size m root c.args.rows.now → ⊥ =
    λ never size m root modest. never _ _ root (modest_left c.args.rows.now c.in-Some.place c.in-Some-2.left.items size m root c.in-Some.ensures.0 c.in-Some.ensures.1 eliminated modest) in
    if_err_is _ _ (λ (stop : Stop). IfStopWide stop (λ _. (size m root : ℕ) → IsModest size m root c.args.rows.now → ⊥)) c.from_residual-in_err-point.ensures.1 (stop_wide_map _ _ _ none before)

pub returns-in_err-point-clause-counted : goal.returns-in_err-point-clause-counted
returns-in_err-point-clause-counted t c =
    let eliminated = rw c.in-Some-2.is at c.in_ok-left.ensures.left in
    let fewer = fewer_occur c.args.rows.now c.in-Some.place c.in-Some-2.left.items c.in-Some.ensures.0 c.in-Some.ensures.1 eliminated in
    let before = rw c.deref.ensures.value at c.in_err-point.ensures.counted in
    let more : 4096 < rows_after (occurring c.in-Some-2.left.items) (length c.in-Some-2.left.items) → 4096 < rows_after (occurring c.args.rows.now) (length c.args.rows.now) =
    λ many. let p = after_left c.args.rows.now c.in-Some.place c.in-Some-2.left.items (occurring c.in-Some-2.left.items) (occurring c.args.rows.now) fewer eliminated in omega (arith, p, many) in
    if_err_is _ _ (λ (stop : Stop). IfStopRows stop (λ _. 4096 < rows_after (occurring c.args.rows.now) (length c.args.rows.now))) c.from_residual-in_err-point.ensures.1 (stop_rows_map _ _ _ more before)

pub returns-in_err-point-clause-wild : goal.returns-in_err-point-clause-wild
returns-in_err-point-clause-wild t c =
    let eliminated = rw c.in-Some-2.is at c.in_ok-left.ensures.left in
    let before = rw c.deref.ensures.value at c.in_err-point.ensures.wild in
    if_err_is _ _ (λ (stop : Stop). (bound : ℕ) → IsTame bound c.args.rows.now → IsMemory stop) c.from_residual-in_err-point.ensures.1
    (λ bound tame. before _ (tame_left c.args.rows.now c.in-Some.place c.in-Some-2.left.items bound c.in-Some.ensures.0 c.in-Some.ensures.1 eliminated tame))

pub returns-in_err-point-in-Some-3-clause-immodest : goal.returns-in_err-point-in-Some-3-clause-immodest
returns-in_err-point-in-Some-3-clause-immodest t c =
    let eliminated = rw c.in-Some-2.is at c.in_ok-left.ensures.left in
    let point = rw (c.in-Some-3.is, c.deref.ensures.value) at c.in_ok-point.ensures.modest_point in
    let none : (size m root : ℕ) → IsModest size m root c.args.rows.now → ⊥ =
    λ size m root modest. c.in_err-point-in-Some-3.ensures.unfit (modest_put_back c.args.rows.now c.in-Some.place size m root c.in-Some-3.point c.in-Some.ensures.0 c.in-Some.ensures.1 modest (point _ _ root (modest_left c.args.rows.now c.in-Some.place c.in-Some-2.left.items size m root c.in-Some.ensures.0 c.in-Some.ensures.1 eliminated modest))) in
    if_wide _ _ none

pub returns-in_err-point-in-Some-3-clause-wild : goal.returns-in_err-point-in-Some-3-clause-wild
returns-in_err-point-in-Some-3-clause-wild t c =
    let eliminated = rw c.in-Some-2.is at c.in_ok-left.ensures.left in
    let fewer = fewer_occur c.args.rows.now c.in-Some.place c.in-Some-2.left.items c.in-Some.ensures.0 c.in-Some.ensures.1 eliminated in
    let point = rw (c.in-Some-3.is, c.deref.ensures.value) at c.in_ok-point.ensures.tame_point in
    if_err_is _ (Wide c.in_err-point-in-Some-3.field-0.0) (λ (stop : Stop). (bound : ℕ) → IsTame bound c.args.rows.now → IsMemory stop) c.from_residual-in_err-point-in-Some-3.ensures.1
    (λ bound tame. absurd (c.in_err-point-in-Some-3.ensures.unfit (tame_put_back c.args.rows.now c.in-Some.place (occurring c.in-Some-2.left.items) bound c.in-Some-3.point c.in-Some.ensures.0 fewer tame (point _ (tame_left c.args.rows.now c.in-Some.place c.in-Some-2.left.items bound c.in-Some.ensures.0 c.in-Some.ensures.1 eliminated tame)))))

pub returns-in-Some-3-clause-found : goal.returns-in-Some-3-clause-found
returns-in-Some-3-clause-found t c =
    let eliminated = rw c.in-Some-2.is at c.in_ok-left.ensures.left in
    let meets = rw (c.in-Some-3.is, c.deref.ensures.value) at c.in_ok-point.ensures.found in
    let long : length c.in-Some-3.point.num ≡ 16 = search rules in
    put_back_meets c.args.rows.now c.in-Some.place c.in-Some-2.left.items c.in-Some-3.point.num c.in-Some-3.point.den c.in_ok-point-in-Some-3.point c.in-Some.ensures.0 long eliminated meets c.in_ok-point-in-Some-3.ensures.point

pub returns-in-Some-3-clause-modest_point : goal.returns-in-Some-3-clause-modest_point
returns-in-Some-3-clause-modest_point t c size m root modest =
    let eliminated = rw c.in-Some-2.is at c.in_ok-left.ensures.left in
    let point = rw (c.in-Some-3.is, c.deref.ensures.value) at c.in_ok-point.ensures.modest_point in
    modest_next c.args.rows.now c.in-Some.place size m root c.in-Some-3.point c.in_ok-point-in-Some-3.point c.in-Some.ensures.0 c.in-Some.ensures.1 modest (point _ _ root (modest_left c.args.rows.now c.in-Some.place c.in-Some-2.left.items size m root c.in-Some.ensures.0 c.in-Some.ensures.1 eliminated modest)) c.in_ok-point-in-Some-3.ensures.point

pub returns-in-Some-3-clause-tame_point : goal.returns-in-Some-3-clause-tame_point
returns-in-Some-3-clause-tame_point t c bound tame =
    let eliminated = rw c.in-Some-2.is at c.in_ok-left.ensures.left in
    let fewer = fewer_occur c.args.rows.now c.in-Some.place c.in-Some-2.left.items c.in-Some.ensures.0 c.in-Some.ensures.1 eliminated in
    let point = rw (c.in-Some-3.is, c.deref.ensures.value) at c.in_ok-point.ensures.tame_point in
    tame_next c.args.rows.now c.in-Some.place (occurring c.in-Some-2.left.items) bound c.in-Some-3.point c.in_ok-point-in-Some-3.point c.in-Some.ensures.0 fewer tame (point _ (tame_left c.args.rows.now c.in-Some.place c.in-Some-2.left.items bound c.in-Some.ensures.0 c.in-Some.ensures.1 eliminated tame)) c.in_ok-point-in-Some-3.ensures.point

pub returns-clause-found : goal.returns-clause-found
returns-clause-found t c =
    let eliminated = rw c.in-Some-2.is at c.in_ok-left.ensures.left in
    let none = rw (c.in-None-3.is, c.deref.ensures.value) at c.in_ok-point.ensures.found in
    no_store_of_left c.args.rows.now c.in-Some.place c.in-Some-2.left.items eliminated none

pub returns-in_err-left-clause-outgrown : goal.returns-in_err-left-clause-outgrown
returns-in_err-left-clause-outgrown t c =
    let more : AreMany (IsMade c.args.rows.now c.in-Some.place) → Outgrown c.args.rows.now = λ many. makes_many c.args.rows.now c.in-Some.place c.in-Some.ensures many in
    if_err_is _ _ (λ (stop : Stop). IfStopRows stop (λ _. Outgrown c.args.rows.now)) c.from_residual.ensures.1 (stop_rows_map _ _ _ more c.in_err-left.ensures.distinct)

pub returns-in_err-point-clause-outgrown : goal.returns-in_err-point-clause-outgrown
returns-in_err-point-clause-outgrown t c =
    let eliminated = rw c.in-Some-2.is at c.in_ok-left.ensures.left in
    let before = rw c.deref.ensures.value at c.in_err-point.ensures.outgrown in
    let more : Outgrown c.in-Some-2.left.items → Outgrown c.args.rows.now = λ outgrown. leaves_outgrown c.args.rows.now c.in-Some.place c.in-Some-2.left.items c.in-Some.ensures eliminated outgrown in
    if_err_is _ _ (λ (stop : Stop). IfStopRows stop (λ _. Outgrown c.args.rows.now)) c.from_residual-in_err-point.ensures.1 (stop_rows_map _ _ _ more before)
