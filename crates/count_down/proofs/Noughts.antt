-- An assignment of a variable that a function doesn't mention leaves all numbers of the function as they are, whatever is assigned.
use Rattle.std.proofs.Common.{◌≡◌, ℕ, ◌+◌, ◌*◌, ◌^◌, ◌<◌, ◌≤◌, ℤ, pos, ◌+ℤ◌, ◌*ℤ◌, Some, refl, ap, sym, ◌∙◌, arith}
use Rattle.std.proofs.lemmas.Int.{ints}
use Rattle.linear_cons.specs.declared.affine.Affine.{Affine}
use Rattle.linear_cons.specs.declared.row.RowKind.{RowKind}
use Rattle.linear_cons.specs.declared.row.RowKind.TheVariants.{Always, Never, Row as Kept}
use Rattle.linear_cons.specs.Functions.{IsQuotient, SubstitutionFits, coefficient, complement_of, constant_of, multiple_of, products_added, substituted, without}
use Rattle.linear_cons.specs.Rows.{IsRowOf, row_kind_of}
use Rattle.linear_cons.proofs.KindLaws.{row_kind_is}
use Rattle.linear_cons.proofs.Places.{number_at_places}
use Rattle.linear_cons.proofs.Ring.{mul_zero, zero_mul}
use Rattle.linear_cons.proofs.Sizes.{sizes_fit, sizes_quotient, sizes_sum, sizes_complement, sizes_grown, sizes_without}
use Rattle.linear_cons.specs.Sizes.{SizesAtMost}
use Rattle.tree_support.specs.Certificates.{affine_ranks}
use Rattle.constraint_stack.specs.Claims.{ClaimFits, exceeding}
use Rattle.count_down.specs.Building.{IsModest}
use Rattle.count_down.specs.Trees.{bound, ranked, shifted}
use Rattle.count_down.proofs.Fitting.{bound_sizes, claim_fits, most_size, steps_sizes}
use Rattle.count_down.proofs.Stepping.{RowsFit, StepFits}
use Rattle.linear_cons.proofs.Over.{other_zero}

module _ (x : ℕ) (low : x < 16) where
  constant_spares : (z : ℤ) → coefficient (constant_of z) x ≡ pos 0
  constant_spares z = rw number_at_places refl

  complement_spares : (a : Affine) → coefficient a x ≡ pos 0 → coefficient (complement_of a) x ≡ pos 0
  complement_spares a none = rw (number_at_places, number_at_places, none) refl

  pub bound_spares : (m s : ℕ) (e : Affine) (k : ℕ) → coefficient e x ≡ pos 0 → coefficient (bound m s e k) x ≡ pos 0
  bound_spares m s e k none =
      let more : coefficient (shifted e (pos 1)) x ≡ coefficient e x +ℤ coefficient (constant_of (pos 1)) x = rw number_at_places refl in
      let one = constant_spares (pos 1) in
      let spared : coefficient (shifted e (pos 1)) x ≡ pos 0 = omega (arith, ints) in
      let product : coefficient (multiple_of (shifted e (pos 1)) (pos m)) x ≡ pos 0 =
      number_at_places (λ i. coefficient (shifted e (pos 1)) i *ℤ pos m) x low ∙ ap (λ t. t *ℤ pos m) spared ∙ zero_mul (pos m) in
      let rest = constant_spares (pos (k + 1 + s)) in
      number_at_places (λ i. coefficient (multiple_of (shifted e (pos 1)) (pos m)) i +ℤ coefficient (constant_of (pos (k + 1 + s))) i) x low
      ∙ rw (product, rest) refl

  quotient_spares : (a q : Affine) → IsQuotient a q → coefficient a x ≡ pos 0 → coefficient q x ≡ pos 0
  quotient_spares a q by none = other_zero by.divisor (coefficient q x) by.positive (sym (by.coefficients x low) ∙ none)

  module _ (v : Affine) where
    nought_products : (a : Affine) → coefficient a x ≡ pos 0 → SizesAtMost 0 (products_added a x v)
    nought_products a none = record {
      coefficients = λ i h. rw (number_at_places, none, mul_zero) (omega arith);
      constants = rw (none, mul_zero) (omega arith);
    }

    nought_put : (n : ℕ) (a : Affine) → coefficient a x ≡ pos 0 → SizesAtMost n a → SizesAtMost n (substituted a x v)
    nought_put n a none own =
        sizes_grown (n + 0) n (substituted a x v) (omega arith)
        (sizes_sum n 0 (without a x) (products_added a x v) (sizes_without n a x own) (nought_products a none))

    nought_fits : (n : ℕ) (a : Affine) → n < 2 ^ 127 → coefficient a x ≡ pos 0 → SizesAtMost n a → SubstitutionFits a x v
    nought_fits n a small none own = record {
      products = sizes_fit 0 (products_added a x v) (omega arith) (nought_products a none);
      sums = sizes_fit n (substituted a x v) small (nought_put n a none own);
    }

    -- the claim between two functions of which the first doesn't mention the variable
    nought_claim : (a b : Affine) → coefficient a x ≡ pos 0 → SizesAtMost most_size a → SizesAtMost most_size b
        → ClaimFits affine_ranks (exceeding (ranked a) (Some (x, v)) (ranked b))
    nought_claim a b none own other =
        claim_fits (Some (x, v)) a b (nought_fits most_size a (omega arith) none own)
        (sizes_grown most_size (most_size * 2 ^ 20) (substituted a x v) (omega arith) (nought_put most_size a none own)) other

    pub steps_claim : (j k : ℕ) → j ≤ 4096 → k ≤ 4096 → ClaimFits affine_ranks
        (exceeding (ranked (constant_of (pos j))) (Some (x, v)) (ranked (constant_of (pos k))))
    steps_claim j k few more = nought_claim (constant_of (pos j)) (constant_of (pos k)) (constant_spares (pos j)) (steps_sizes j few)
        (steps_sizes k more)

    rows_nought : (f : Affine) (kind : RowKind) → IsRowOf f kind → IsModest f → coefficient f x ≡ pos 0 → RowsFit (Some (x, v)) low kind
    rows_nought f Always is own none = tt
    rows_nought f Never is own none = tt
    rows_nought f (Kept row) is own none =
        let sizes = sizes_quotient (2 ^ 91) f row.affine is own in
        let turned = sizes_complement (2 ^ 91) row.affine sizes in
        let spared = quotient_spares f row.affine is none in (
          (sizes_fit (2 ^ 91) row.affine (omega arith) sizes, nought_fits (2 ^ 91) row.affine (omega arith) spared sizes),
          (
            sizes_fit (1 + 2 ^ 91) (complement_of row.affine) (omega arith) turned,
            nought_fits (1 + 2 ^ 91) (complement_of row.affine) (omega arith)
                (complement_spares row.affine spared) turned,
          ),
        )

    -- over the assignment the numbers of a step fit
    pub nought_step : (m s : ℕ) (e : Affine) (k : ℕ) (f : Affine) (j : ℕ) → m ≤ 1024 → k + 1 + s ≤ 4096 → j + 1 + s ≤ 4096 → IsModest e → IsModest f
        → coefficient f x ≡ pos 0 → StepFits (Some (x, v)) m s e k f j
    nought_step m s e k f j short few fewer own other none =
        let here = bound_sizes m s e k short few own in
        let there = bound_sizes m s f j short fewer other in
        record {
          place = low;
          rows = rows_nought f (row_kind_of f) (row_kind_is f) other none;
          bounds = nought_claim (bound m s f j) (bound m s e k) (bound_spares m s f j none) there here;
          last = nought_claim (constant_of (pos (j + 1 + s))) (bound m s e k) (constant_spares (pos (j + 1 + s)))
              (steps_sizes (j + 1 + s) fewer) here;
          lasts = steps_claim (j + 1 + s) (k + 1 + s) fewer few;
        }
