use Rattle.std.proofs.Common.{◌≡◌, ℕ, zero, suc, ◌*◌, List, [], ◌∷◌, ◌++◌, drop, length, take, refl, sym, ap, subst, arith}
use Rattle.step_meaning.specs.Syntax.{statements}
use Rattle.control_flow.specs.Actions.{AtAll}
use Rattle.control_flow.specs.Labels.{all_labels}
use Rattle.control_flow.specs.Sizing.{HoldsAt, held, held_at}
use Rattle.formula_measures.specs.Measures.{until_size}
use Rattle.formula_measures.proofs.sizes.until_sizes.Goals as goal

-- a list in place of one as long
in_place : (n : ℕ) (new old : List ℕ) → n ≡ length new → length old ≡ length new → take n (new ++ drop (length new) old) ≡ new
in_place zero [] old is same = refl
in_place zero (x ∷ xs) old is same = absurd (omega (arith, is))
in_place (suc n) [] old is same = absurd (omega (arith, is))
in_place (suc n) (x ∷ xs) [] is same = absurd (omega (arith, same))
in_place (suc n) (x ∷ xs) (y ∷ ys) is same = ap (λ list. x ∷ list) (in_place n xs ys (omega (arith, is)) (omega (arith, same)))

pub returns-clause-each : goal.returns-clause-each
returns-clause-each c = λ loopless k g one two.
    let body = statements c.args.graph.now.body in
    let value = c.deref_mut.ensures.value in
    let old = c.in_ok-sizes.sizes.items in
    let count : length c.fill.new.sizes ≡ length old = subst (λ (list : List ℕ). length c.fill.new.sizes ≡ length list) value c.fill.ensures.count in
    let ok = c.in_ok-sizes.sizes.ok in
    subst (λ list. AtAll body (HoldsAt (until_size body k g (length (all_labels body))) list)) (sym (in_place c.in_ok-sizes.sizes.len c.fill.new.sizes old (omega (arith, count, ok)) (sym count)))
    (c.fill.ensures.each loopless k g one two
    (subst (λ (list : List ℕ). held_at list 0 ≡ held (4 * (k 0 * g 0))) (sym value) (c.in_ok-sizes.ensures.each k g one two 0 (omega arith))))
