use Rattle.std.proofs.Common.{rules, refl}
use Rattle.std.proofs.lemmas.Fn.{dedup_same}
use Rattle.std.proofs.lemmas.List.Sorted.{answers_always}
use Rattle.linear_solve.specs.Tightest.{same_part}
use Rattle.linear_solve.proofs.Tightening.{is_less, is_less-weak, parts_rise, tightest_of, tests_part}
use Rattle.linear_solve.proofs.tighten.tightest.Goals as goal

pub returns-clause-tightest : goal.returns-clause-tightest
returns-clause-tightest c =
    let sorted = c.sort_unstable_by.ensures.sorted is_less is_less-weak (answers_always _ _ _ (λ f a r f' k. search rules)) in
    let kept = dedup_same _ same_part _ (λ x y b f' x' y' k. (tests_part b x y (search rules) (search rules), refl, search rules, search rules)) _ _ c.dedup_by.ensures.filtered in
    rw kept (tightest_of c.args.rows.items _ c.sort_unstable_by.ensures.permutation sorted)

pub returns-clause-in_order : goal.returns-clause-in_order
returns-clause-in_order c =
    let sorted = c.sort_unstable_by.ensures.sorted is_less is_less-weak (answers_always _ _ _ (λ f a r f' k. search rules)) in
    let kept = dedup_same _ same_part _ (λ x y b f' x' y' k. (tests_part b x y (search rules) (search rules), refl, search rules, search rules)) _ _ c.dedup_by.ensures.filtered in
    rw kept (parts_rise _ sorted)
