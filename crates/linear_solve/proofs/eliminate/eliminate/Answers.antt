use Rattle.std.proofs.lemmas.Grind.{common_steps}
use Rattle.std.proofs.Common.{◌≤◌, ◌<◌, ◌<ℤ◌, Bool, pos, arith, rules, length, ap, Ok}
use Rattle.std.proofs.lemmas.Int.{ints}
use Rattle.linear_cons.specs.Functions.{coefficient}
use Rattle.linear_cons.specs.Numbers.{Fits128}
use Rattle.linear_solve.proofs.Growing.{above_one, eliminated, grows_further, made_within, many_made, mixtures_grow, pairs_grow, pairs_more, pairs_skipped, rest_grows, short_more, short_same, lowers_more}
use Rattle.linear_solve.proofs.Outcomes.{if_err_is, stop_rows_map}
use Rattle.linear_solve.proofs.Tightening.{stand_for}
use Rattle.linear_solve.specs.Elimination.{AreMany, IsLower, IsMade, made_of}
use Rattle.linear_solve.specs.Solving.{IfStopRows}
use Rattle.linear_solve.specs.declared.answer.Stop.{Stop}
use Rattle.linear_solve.proofs.eliminate.eliminate.Goals as goal
use Rattle.linear_solve.proofs.eliminate.eliminate.Goals.{then-lower-place-gt0+in_ok-add_mixtures+else-not-branch+in_ok-kept, else-lower-place-gt0}

pub returns-then-not-branch-clause-left : goal.returns-then-not-branch-clause-left
returns-then-not-branch-clause-left c =
    c.in_ok-add_mixtures.ensures.never (ap (λ (t : Bool). Ok t) c.if-not-branch.true)

pub loop-lower-preserved : goal.loop-lower-preserved
loop-lower-preserved c =
    let number : Fits128 (coefficient c.lower-item.result.affine c.args.place) = search rules in
    let l = lowers_more c.args.place c.args.rows.now c.loop-lower.lower-index c.lower-item.result (omega arith) c.lower-item.is in
    let i = c.loop-lower.invariant in
    elim c.if-lower-place-gt0.branch [
      | then-lower-place-gt0+in_ok-add_mixtures+else-not-branch+in_ok-kept w ↦
          let more : pos 0 <ℤ coefficient c.lower-item.result.affine c.args.place = omega (arith, ints) in
          let one = above_one _ more in
          let cut = w.in_ok-kept.ensures.grows c.args.rows.now c.args.place in
          let grown = grows_further _ _ _ _ _ (w.in_ok-add_mixtures.ensures.grows (ap (λ (t : Bool). Ok t) w.if-not-branch.false)) cut in
          let mixtures = mixtures_grow c.lower-item.result c.args.rows.now c.args.place _ _ (w.in_ok-add_mixtures.ensures.mixtures (ap (λ (t : Bool). Ok t) w.if-not-branch.false)) cut in
          let added = w.in_ok-add_mixtures.ensures.short (ap (λ (t : Bool). Ok t) w.if-not-branch.false) in
          let kept = w.in_ok-kept.ensures.short in
          rw w.made-is (record {
            grows = grows_further _ _ _ _ _ i.grows grown;
            rest = rest_grows _ _ _ _ _ i.rest grown;
            pairs = pairs_more _ _ _ _ _ _ (omega arith) c.lower-item.is i.pairs grown mixtures;
            short = let s = i.short in short_more _ _ _ _ _ _ (omega (arith, l, one)) s (omega (arith, added, kept));
          })
      | else-lower-place-gt0 w ↦
          rw w.made-is (record {
            grows = i.grows;
            rest = i.rest;
            pairs = pairs_skipped _ _ _ _ _ (omega arith) c.lower-item.is i.pairs (λ more. absurd (omega (arith, ints)));
            short = let s = i.short in short_same _ _ _ _ _ _ l s;
          })
    ]

pub returns-clause-left : goal.returns-clause-left
returns-clause-left c =
    let end : length c.args.rows.now ≤ c.loop-lower.lower-index = omega arith in
    let i = c.loop-lower.invariant in
    let cut = c.in_ok-few.ensures.grows c.args.rows.now c.args.place in
    let short = i.short in
    let fewer = c.in_ok-few.ensures.short in
    eliminated _ _ _ _ _ end (grows_further _ _ _ _ _ i.grows cut) (rest_grows _ _ _ _ _ i.rest cut) (pairs_grow _ _ _ _ _ i.pairs cut) (omega (arith, short, fewer))
    (stand_for _ _ c.tightest.ensures.tightest c.tightest.ensures.short)

pub returns-in_err-kept-clause-counted : goal.returns-in_err-kept-clause-counted
returns-in_err-kept-clause-counted c =
    let number : Fits128 (coefficient c.lower-item.result.affine c.args.place) = search rules in
    let below : IsLower c.args.place c.lower-item.result = omega (arith, ints) in
    let added = c.in_ok-add_mixtures.ensures.short (ap (λ (t : Bool). Ok t) c.if-not-branch.false) in
    let within = made_within c.args.rows.now c.args.place c.loop-lower.lower-index _ _ c.lower-item.result (omega arith) c.lower-item.is below c.loop-lower.invariant.short added in
    let more : 4096 < length c.add_mixtures.new.made.items → 4096 < made_of c.args.place c.args.rows.now = λ many. omega (arith, many, within) in
    if_err_is _ _ (λ (stop : Stop). IfStopRows stop (λ _. 4096 < made_of c.args.place c.args.rows.now)) c.from_residual-in_err-kept.ensures.1
    (stop_rows_map _ _ _ more c.in_err-kept.ensures.counted)

pub returns-in_err-kept-clause-distinct : goal.returns-in_err-kept-clause-distinct
returns-in_err-kept-clause-distinct c =
    let grown = grows_further _ _ _ _ _ c.loop-lower.invariant.grows (c.in_ok-add_mixtures.ensures.grows (ap (λ (t : Bool). Ok t) c.if-not-branch.false)) in
    if_err_is _ _ (λ (stop : Stop). IfStopRows stop (λ _. AreMany (IsMade c.args.rows.now c.args.place))) c.from_residual-in_err-kept.ensures.1
    (stop_rows_map _ _ _ (many_made _ _ _ grown) c.in_err-kept.ensures.distinct)

pub returns-in_err-few-clause-distinct : goal.returns-in_err-few-clause-distinct
returns-in_err-few-clause-distinct c =
    if_err_is _ _ (λ (stop : Stop). IfStopRows stop (λ _. AreMany (IsMade c.args.rows.now c.args.place))) c.from_residual-in_err-few.ensures.1
    (stop_rows_map _ _ _ (many_made _ _ _ c.loop-lower.invariant.grows) c.in_err-few.ensures.distinct)

pub returns-in_err-few-clause-counted : goal.returns-in_err-few-clause-counted
returns-in_err-few-clause-counted c = grind (arith, common_steps)
