use Rattle.std.proofs.lemmas.Grind.{common_steps}
use Rattle.std.proofs.Common.{◌≡◌, pos, arith, rules, inl, ap, length}
use Rattle.std.proofs.lemmas.Int.{ints}
use Rattle.linear_cons.specs.Functions.{coefficient}
use Rattle.linear_cons.specs.Numbers.{Fits128}
use Rattle.linear_solve.proofs.Growing.{grows_added, others_more, others_rise, rest_added, rest_skipped}
use Rattle.linear_solve.proofs.Lists.{item_in}
use Rattle.linear_solve.proofs.eliminate.rows_without.Goals as goal
use Rattle.linear_solve.proofs.eliminate.rows_without.Goals.{then-row-place-eq0+in_ok-push, else-row-place-eq0}

pub loop-row-preserved : goal.loop-row-preserved
loop-row-preserved c =
    let number : Fits128 (coefficient c.row-item.result.affine c.args.place) = search rules in
    let i = c.loop-row.invariant in
    elim c.if-row-place-eq0.branch [
      | then-row-place-eq0+in_ok-push w ↦
          let none : coefficient c.row-item.result.affine c.args.place ≡ pos 0 = omega (arith, ints) in
          let more = others_more c.args.place c.args.rows.now c.loop-row.row-index c.row-item.result (omega arith) c.row-item.is none in
          rw w.made-is (record {
            grows = grows_added _ _ _ _ _ _ i.grows w.in_ok-push.ensures.items (inl (item_in _ _ _ (omega arith) c.row-item.is, none));
            rest = rest_added _ _ _ _ _ _ (omega arith) c.row-item.is i.rest w.in_ok-push.ensures.items;
            short = let s = i.short in let t = ap length w.in_ok-push.ensures.items in omega (arith, s, t, more);
          })
      | else-row-place-eq0 w ↦
          let rise = others_rise c.args.place c.args.rows.now c.loop-row.row-index c.row-item.result (omega arith) c.row-item.is in
          rw w.made-is (record {
            grows = i.grows;
            rest = rest_skipped _ _ _ _ _ (omega arith) c.row-item.is i.rest (λ none. absurd (omega (arith, ints)));
            short = let s = i.short in omega (arith, s, rise);
          })
    ]

pub returns-clause-rest : goal.returns-clause-rest
returns-clause-rest c = grind (arith, common_steps)

pub returns-clause-short : goal.returns-clause-short
returns-clause-short c = grind (arith, common_steps)
