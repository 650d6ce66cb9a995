-- The claims of comparisons: what a comparison says for an outcome, and what a claim's row says at a store.
use Rattle.std.proofs.Common.{◌≡◌, ◌≢◌, ℤ, pos, ◌+ℤ◌, ◌-ℤ◌, ◌≤ℤ◌, ◌<ℤ◌, ◌↔◌, ◌⊎◌, inl, inr, ⊎_elim, Bool, true, false, cond, IsTrue, Option, Some, None, List, [], ◌∷◌, refl, ap, ◌∙◌, arith}
use Rattle.std.specs.Bool.{⊤}
use Rattle.std.proofs.lemmas.Int.{ints, by_lt_z}
use Rattle.step_meaning.specs.declared.expression.Op2.{Op2}
use Rattle.step_meaning.specs.declared.expression.Op2.TheVariants.{Less, LessEqual, Greater, GreaterEqual, Equal, NotEqual}
use Rattle.step_meaning.specs.Outcome.{Compares}
use Rattle.linear_cons.specs.declared.affine.Affine.{Affine}
use Rattle.linear_cons.specs.declared.bounds.Linear.{Linear}
use Rattle.linear_cons.specs.declared.row.Row.{Row}
use Rattle.linear_cons.specs.Bounds.{Covers, IsUpTo}
use Rattle.linear_cons.specs.Functions.{constant_of, difference_of, sum_of, value_at}
use Rattle.linear_cons.proofs.Forms.{value_constant, value_difference, value_sum}
use Rattle.linear_cons.specs.Rows.{row_kind_of}
use Rattle.linear_forms.specs.Linearising.{numbers_fit}
use Rattle.linear_forms.specs.Meeting.{MeetsOne}
use Rattle.linear_forms.specs.Spreading.{Claim, above, all_rows_of, at_least, claims, comparison_for, constraint, favoured, fitting, less_one, opposite, rows_of, with_constraint}
use Rattle.linear_cons.proofs.EndLaws.{up_to_difference}
use Rattle.linear_forms.proofs.MeetingLaws.{MeetsKept, meets_before, meets_kept, meets_later, row_meets}

-- ---- outcomes

trichotomy : (a b : ℤ) → (a <ℤ b) ⊎ (b ≤ℤ a)
trichotomy a b = by_lt_z a b (λ less. inl less) (λ from. inr from)

not_less : (a b : ℤ) → ¬ (a <ℤ b) → b ≤ℤ a
not_less a b fails = ⊎_elim (λ less. absurd (fails less)) (λ from. from) (trichotomy a b)

never : {P : Type 0} → IsTrue false → P
never h = absurd (cc)

pub holds : {P : Type 0} → P → IsTrue true ↔ P
holds p = (λ t. p, λ p. refl)

pub fails : {P : Type 0} → ¬ P → IsTrue false ↔ P
fails p = (λ t. never t, λ q. absurd (p q))

not_apart : (a b : ℤ) → ¬ (a ≢ b) → a ≡ b
not_apart a b h = by_lt_z a b
    (λ less. absurd (h (λ same. omega (arith, ints))))
    (λ from. by_lt_z b a (λ less. absurd (h (λ same. omega (arith, ints)))) (λ to. omega (arith, ints)))

-- a comparison has an outcome exactly where the comparison for this outcome holds
pub opposite_holds : (op : Op2) (a b : ℤ) → Compares op a b false → Compares (opposite op) a b true
opposite_holds Less a b h = holds (not_less a b (λ less. never (h.1 less)))
opposite_holds LessEqual a b h = holds (⊎_elim (λ less. less) (λ from. never (h.1 from)) (trichotomy b a))
opposite_holds Greater a b h = holds (not_less b a (λ less. never (h.1 less)))
opposite_holds GreaterEqual a b h = holds (⊎_elim (λ less. less) (λ from. never (h.1 from)) (trichotomy a b))
opposite_holds Equal a b h = holds (λ same. never (h.1 same))
opposite_holds NotEqual a b h = holds (not_apart a b (λ apart. never (h.1 apart)))
opposite_holds _ a b h = absurd h

pub opposite_fails : (op : Op2) (a b : ℤ) → Compares (opposite op) a b true → Compares op a b false
opposite_fails Less a b h = let from = h.0 refl in fails (λ less. omega (arith, ints))
opposite_fails LessEqual a b h = let less = h.0 refl in fails (λ from. omega (arith, ints))
opposite_fails Greater a b h = let from = h.0 refl in fails (λ less. omega (arith, ints))
opposite_fails GreaterEqual a b h = let less = h.0 refl in fails (λ from. omega (arith, ints))
opposite_fails Equal a b h = fails (λ same. h.0 refl same)
opposite_fails NotEqual a b h = fails (λ apart. apart (h.0 refl))
opposite_fails _ a b h = absurd h

pub comparison_holds : (op : Op2) (a b : ℤ) (t : Bool) → Compares op a b t → Compares (comparison_for t op) a b true
comparison_holds op a b true h = h
comparison_holds op a b false h = opposite_holds op a b h

pub outcome_holds : (op : Op2) (a b : ℤ) (t : Bool) → Compares (comparison_for t op) a b true → Compares op a b t
outcome_holds op a b true h = h
outcome_holds op a b false h = opposite_fails op a b h

-- ---- rows of claims that hold

-- what a claim takes off: 1 where it is strict
abbrev pub off : Bool → ℤ
off true = pos 1
off false = pos 0

pub less_nothing : (n : ℤ) → n ≡ n -ℤ pos 0
less_nothing n = omega (arith, ints)

module _ (s : List ℤ) where
  -- the function, if there is one, has the value; it is at least 0
  abbrev HasValue : Option Affine → ℤ → Type 0
  HasValue None z = ⊤
  HasValue (Some a) z = value_at a s ≡ z

  abbrev IsMet : Option Affine → Type 0
  IsMet None = ⊤
  IsMet (Some a) = pos 0 ≤ℤ value_at a s

  fitting_has : (b : Bool) (a : Affine) (z : ℤ) → value_at a s ≡ z → HasValue (cond b (Some a) None) z
  fitting_has true a z is = is
  fitting_has false a z is = tt

  less_one_has : (strict : Bool) (f : Option Affine) (z : ℤ) → HasValue f z → HasValue (less_one strict f) (z -ℤ off strict)
  less_one_has strict None z has = tt
  less_one_has true (Some a) z has =
      fitting_has (numbers_fit (difference_of a (constant_of (pos 1)))) (difference_of a (constant_of (pos 1))) _
      (value_difference a (constant_of (pos 1)) s ∙ ap (λ t. value_at a s -ℤ t) (value_constant (pos 1) s) ∙ ap (λ t. t -ℤ pos 1) has)
  less_one_has false (Some a) z has = has ∙ less_nothing z

  is_met : (b : Bool) (a : Affine) → pos 0 ≤ℤ value_at a s → IsMet (cond b (Some a) None)
  is_met true a from = from
  is_met false a from = tt

  favoured_met : (end : Option ℤ) (f : Option Affine) (z e : ℤ) → HasValue f z → IsUpTo end e → pos 0 ≤ℤ (z +ℤ e) → IsMet (favoured end f)
  favoured_met None f z e has high from = tt
  favoured_met (Some n) None z e has high from = tt
  favoured_met (Some n) (Some a) z e has high from =
      is_met (numbers_fit (sum_of a (constant_of n))) (sum_of a (constant_of n))
      (let sum = value_sum a (constant_of n) s in let constant = value_constant n s in omega (arith, ints))

  -- the constraint of a claim that holds between two numbers that the sides cover is met
  constraint_met : (claim : Claim) (v w : ℤ) → Covers claim.greater s v → Covers claim.smaller s w → pos 0 ≤ℤ (v -ℤ w -ℤ off claim.is_strict) → IsMet (constraint claim)
  constraint_met claim v w greater smaller from =
      let difference : Affine = difference_of claim.greater.affine claim.smaller.affine in
      let z : ℤ = value_at claim.greater.affine s -ℤ value_at claim.smaller.affine s in
      let e : ℤ = v -ℤ value_at claim.greater.affine s -ℤ (w -ℤ value_at claim.smaller.affine s) in
      let whole : pos 0 ≤ℤ (z -ℤ off claim.is_strict +ℤ e) = omega (arith, ints) in
      favoured_met _ _ (z -ℤ off claim.is_strict) e
      (less_one_has claim.is_strict (fitting difference) z (fitting_has (numbers_fit difference) difference z (value_difference claim.greater.affine claim.smaller.affine s)))
      (up_to_difference claim.greater.hi claim.smaller.lo _ _ greater.upper smaller.lower)
      whole

  with_met : (f : Option Affine) (rows : Option (List Row)) → IsMet f → MeetsKept s rows → MeetsKept s (with_constraint f rows)
  with_met None rows met rest = rest
  with_met (Some a) rows met rest = meets_before s (row_kind_of a) rows ((row_meets a s).1 met) rest

  claim_meets : (claim : Claim) (v w : ℤ) (rows : Option (List Row)) → Covers claim.greater s v → Covers claim.smaller s w → pos 0 ≤ℤ (v -ℤ w -ℤ off claim.is_strict) → MeetsKept s rows → MeetsKept s (with_constraint (constraint claim) rows)
  claim_meets claim v w rows greater smaller from rest = with_met (constraint claim) rows (constraint_met claim v w greater smaller from) rest

  single : (claim : Claim) (v w : ℤ) (more : List (List Claim)) → Covers claim.greater s v → Covers claim.smaller s w → pos 0 ≤ℤ (v -ℤ w -ℤ off claim.is_strict) → MeetsOne s (all_rows_of ((claim ∷ []) ∷ more))
  single claim v w more greater smaller from =
      meets_kept s (rows_of (claim ∷ [])) (all_rows_of more) (claim_meets claim v w (Some []) greater smaller from tt)

  -- a comparison that holds of two numbers that the forms cover
  pub claims_cover : (op : Op2) (x y : Linear) (a b : ℤ) → Covers x s a → Covers y s b → Compares op a b true → MeetsOne s (all_rows_of (claims op x y))
  claims_cover Less x y a b left right h = let less = h.0 refl in single (above y x) b a [] right left (omega (arith, ints))
  claims_cover LessEqual x y a b left right h = let less = h.0 refl in single (at_least y x) b a [] right left (omega (arith, ints))
  claims_cover Greater x y a b left right h = let less = h.0 refl in single (above x y) a b [] left right (omega (arith, ints))
  claims_cover GreaterEqual x y a b left right h = let less = h.0 refl in single (at_least x y) a b [] left right (omega (arith, ints))
  claims_cover Equal x y a b left right h =
      let same = h.0 refl in
      meets_kept s (rows_of (at_least x y ∷ at_least y x ∷ [])) []
      (claim_meets (at_least x y) a b (rows_of (at_least y x ∷ [])) left right (omega (arith, ints))
      (claim_meets (at_least y x) b a (Some []) right left (omega (arith, ints)) tt))
  claims_cover NotEqual x y a b left right h =
      by_lt_z b a
      (λ more. single (above x y) a b ((above y x ∷ []) ∷ []) left right (omega (arith, ints)))
      (λ from. by_lt_z a b
      (λ less. meets_later s (rows_of (above x y ∷ [])) (all_rows_of ((above y x ∷ []) ∷ [])) (single (above y x) b a [] right left (omega (arith, ints))))
      (λ to. absurd (h.0 refl (omega (arith, ints)))))
  claims_cover _ x y a b left right h = absurd h
