-- The growth of a formula is the greater of that of the tests and that of the atoms.
use Rattle.std.proofs.Common.{◌≡◌, ◌⊎◌, ⊎_elim, inl, inr, ℕ, zero, suc, ◌+◌, ◌*◌, ◌-◌, ◌^◌, ◌≤◌, min, max, length, sym, ap, ◌∙◌, arith}
use Rattle.std.proofs.Math.Nat.{le_refl, mul-le-mul, pow-suc, pow-zero, one-mul}
use Rattle.step_meaning.specs.Syntax.{Statements}
use Rattle.control_flow.specs.Growth.{factor_at, greatest_of_tests, growth_of, product_below}
use Rattle.control_flow.specs.Labels.{all_labels}
use Rattle.control_flow.specs.Sizing.{held}
use Rattle.control_flow.proofs.Held.{greater_kept, product_left, product_right}
use Rattle.ctl_formula.specs.Formulas.{Ctl}
use Rattle.formula_measures.specs.Measures.{atom_size, ctl_growth}

-- the factors stand in it once
once : (f g : ℕ → ℕ) → ((l : ℕ) → f l ≡ g l) → (n : ℕ) → product_below f n ≡ product_below g n
once f g same zero = ap (λ (n : ℕ). 1) (same 0)
once f g same (suc n) = ap (λ t. t * f n) (once f g same n) ∙ ap (λ t. product_below g n * t) (same n)

power_once : (n : ℕ) → n ^ (0 + 1) ≡ n
power_once n = pow-suc n 0 ∙ ap (λ t. t * n) (pow-zero n) ∙ one-mul n

of_tests : (body : Statements) → growth_of body 0 ≡ (1 + greatest_of_tests body) * product_below (factor_at body) (length (all_labels body))
of_tests body =
    ap (λ t. (1 + greatest_of_tests body) * t)
    (once (λ label. factor_at body label ^ (0 + 1)) (factor_at body) (λ label. power_once (factor_at body label)) (length (all_labels body)))

greater_or : (a b : ℕ) → (a ≤ b) ⊎ (b ≤ a)
greater_or zero b = inl (omega arith)
greater_or (suc a) zero = inr (omega arith)
greater_or (suc a) (suc b) = ⊎_elim (λ less. inl (omega (arith, less))) (λ more. inr (omega (arith, more))) (greater_or a b)

spread_max : (a b p : ℕ) → max ((1 + a) * p) ((1 + b) * p) ≡ (1 + max a b) * p
spread_max a b p =
    ⊎_elim
    (λ (less : a ≤ b). let more : (1 + a) * p ≤ (1 + b) * p = mul-le-mul (omega (arith, less)) (le_refl p) in
    let same : max a b ≡ b = omega (arith, less) in
    let one : max ((1 + a) * p) ((1 + b) * p) ≡ (1 + b) * p = omega (arith, more) in
    one ∙ ap (λ t. (1 + t) * p) (sym same))
    (λ (less : b ≤ a). let more : (1 + b) * p ≤ (1 + a) * p = mul-le-mul (omega (arith, less)) (le_refl p) in
    let same : max a b ≡ a = omega (arith, less) in
    let one : max ((1 + a) * p) ((1 + b) * p) ≡ (1 + a) * p = omega (arith, more) in
    one ∙ ap (λ t. (1 + t) * p) (sym same))
    (greater_or a b)

pub growth_is : (body : Statements) (f : Ctl) → max (growth_of body 0) ((1 + atom_size f) * product_below (factor_at body) (length (all_labels body))) ≡ ctl_growth body f
growth_is body f =
    ap (λ t. max t ((1 + atom_size f) * product_below (factor_at body) (length (all_labels body)))) (of_tests body)
    ∙ spread_max (greatest_of_tests body) (atom_size f) (product_below (factor_at body) (length (all_labels body)))

-- as far as the type holds the two
pub growth_held : (body : Statements) (f : Ctl) (tests atoms product : ℕ) → tests ≡ held (growth_of body 0)
    → product ≡ held (product_below (factor_at body) (length (all_labels body))) → atoms ≡ min (min (atom_size f + 1) (2 ^ 128 - 1) * product) (2 ^ 128 - 1)
    → max tests atoms ≡ held (ctl_growth body f)
growth_held body f tests atoms product one two three =
    let p : ℕ = product_below (factor_at body) (length (all_labels body)) in
    let next : atom_size f + 1 ≡ 1 + atom_size f = omega arith in
    let atoms_are : atoms ≡ held ((1 + atom_size f) * p) =
    three ∙ product_left (2 ^ 128 - 1) (omega arith) (atom_size f + 1) product ∙ ap (λ t. min ((atom_size f + 1) * t) (2 ^ 128 - 1)) two
    ∙ product_right (2 ^ 128 - 1) (omega arith) (atom_size f + 1) p ∙ ap (λ t. held (t * p)) next in
    greater_kept (2 ^ 128 - 1) (omega arith) tests atoms (growth_of body 0) ((1 + atom_size f) * p) one atoms_are ∙ ap held (growth_is body f)
