use Rattle.std.proofs.lemmas.Grind.{common_steps}
use Rattle.std.proofs.Common.{◌≤ℤ◌, pos, arith, rules, subst, inr, ap, length, length-append, ◌∙◌, ◌∷◌, []}
use Rattle.std.proofs.lemmas.Int.{ints}
use Rattle.linear_cons.specs.Functions.{coefficient}
use Rattle.linear_cons.specs.Numbers.{Fits128}
use Rattle.linear_cons.specs.Rows.{IsRowOf}
use Rattle.linear_cons.specs.declared.row.RowKind.{RowKind}
use Rattle.linear_solve.specs.Elimination.{HasUnfitPair, IsUpper, mixture}
use Rattle.linear_solve.proofs.Growing.{below_one, grows_added, mixtures_always, mixtures_added, mixtures_skipped, uppers_more}
use Rattle.linear_solve.proofs.Lists.{item_in}
use Rattle.linear_solve.proofs.Outcomes.{if_wide}
use Rattle.linear_solve.proofs.eliminate.add_mixtures.Goals as goal
use Rattle.linear_solve.proofs.eliminate.add_mixtures.Goals.{then-upper-place-lt0+in_ok-mixture+in-Always, then-upper-place-lt0+in_ok-mixture+in-Row+in_ok-add-in-Row, else-upper-place-lt0}

pub returns-in_err-mixture-clause-unfit : goal.returns-in_err-mixture-clause-unfit
returns-in_err-mixture-clause-unfit c =
    let number : Fits128 (coefficient c.upper-item.result.affine c.args.place) = search rules in
    let above : IsUpper c.args.place c.upper-item.result = omega (arith, ints) in
    let pair : HasUnfitPair c.args.rows.now c.args.place = record {
      lower = c.args.lower.now;
      upper = c.upper-item.result;
      pair = record { lower_in = c.requires.lower_in; upper_in = item_in _ _ _ (omega arith) c.upper-item.is; below = c.requires.below; above = above };
      unfit = c.in_err-mixture.ensures.unfit;
    } in
    if_wide _ (HasUnfitPair c.args.rows.now c.args.place) pair

pub returns-in-Never-clause-never : goal.returns-in-Never-clause-never
returns-in-Never-clause-never c =
    let number : Fits128 (coefficient c.upper-item.result.affine c.args.place) = search rules in
    let above : IsUpper c.args.place c.upper-item.result = omega (arith, ints) in
    λ same. record {
      lower = c.args.lower.now;
      upper = c.upper-item.result;
      pair = record { lower_in = c.requires.lower_in; upper_in = item_in _ _ _ (omega arith) c.upper-item.is; below = c.requires.below; above = above };
      never = subst (λ (t : RowKind). IsRowOf (mixture c.args.lower.now c.upper-item.result c.args.place) t) c.in-Never.is c.in_ok-mixture.ensures.normal;
    }

pub loop-upper-preserved : goal.loop-upper-preserved
loop-upper-preserved c =
    let number : Fits128 (coefficient c.upper-item.result.affine c.args.place) = search rules in
    let u = uppers_more c.args.place c.args.rows.now c.loop-upper.upper-index c.upper-item.result (omega arith) c.upper-item.is in
    let i = c.loop-upper.invariant in
    elim c.if-upper-place-lt0.branch [
      | then-upper-place-lt0+in_ok-mixture+in-Always w ↦
          let normal = subst (λ (t : RowKind). IsRowOf (mixture c.args.lower.now c.upper-item.result c.args.place) t) w.in-Always.is w.in_ok-mixture.ensures.normal in
          rw w.made-is (record {
            grows = i.grows;
            mixtures = mixtures_always c.args.lower.now c.args.rows.now c.loop-upper.upper-index c.args.place c.upper-item.result _ (omega arith) c.upper-item.is i.mixtures normal;
            short = let s = i.short in omega (arith, s, u);
          })
      | then-upper-place-lt0+in_ok-mixture+in-Row+in_ok-add-in-Row w ↦
          let above : IsUpper c.args.place c.upper-item.result = omega (arith, ints) in
          let normal = subst (λ (t : RowKind). IsRowOf (mixture c.args.lower.now c.upper-item.result c.args.place) t) w.in-Row.is w.in_ok-mixture.ensures.normal in
          let one = below_one _ above in
          rw w.made-is (record {
            grows = grows_added _ _ _ _ _ _ i.grows w.in_ok-add-in-Row.ensures (inr (record {
              lower = c.args.lower.now;
              upper = c.upper-item.result;
              pair = record { lower_in = c.requires.lower_in; upper_in = item_in _ _ _ (omega arith) c.upper-item.is; below = c.requires.below; above = above };
              normal = normal;
            }));
            mixtures = mixtures_added c.args.lower.now c.args.rows.now c.loop-upper.upper-index c.args.place c.upper-item.result _ _ _ (omega arith) c.upper-item.is i.mixtures normal w.in_ok-add-in-Row.ensures;
            short = let s = i.short in let t = ap length w.in_ok-add-in-Row.ensures ∙ length-append c.loop-upper.made.items (w.in-Row.row ∷ []) in omega (arith, s, t, u, one);
          })
      | else-upper-place-lt0 w ↦
          let from : pos 0 ≤ℤ coefficient c.upper-item.result.affine c.args.place = omega (arith, ints) in
          rw w.made-is (record {
            grows = i.grows;
            mixtures = mixtures_skipped c.args.lower.now c.args.rows.now c.loop-upper.upper-index c.args.place c.upper-item.result _ (omega arith) c.upper-item.is i.mixtures (λ less. absurd (omega (arith, ints)));
            short = let s = i.short in omega (arith, s, u);
          })
    ]

pub returns-clause-mixtures : goal.returns-clause-mixtures
returns-clause-mixtures c = grind (arith, common_steps)

pub returns-clause-short : goal.returns-clause-short
returns-clause-short c = grind (arith, common_steps)
