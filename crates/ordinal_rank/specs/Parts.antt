-- Affine functions in order as ranks, the highest first: `a` times ω^j for the first of j + 1, and so on.
use Rattle.std.specs.Prelude.{◌≡◌, ◌⊎◌, ℕ, zero, suc, ℤ, pos, ◌≤ℤ◌, ◌<ℤ◌, int_lt, List, [], ◌∷◌, Some, if◌then◌else◌}
use Rattle.linear_cons.specs.Functions.{NumbersFit, SubstitutionFits, coefficient, complement_of, difference_of, value_at}
use Rattle.linear_cons.specs.Rows.{row_kind_of}
use Rattle.linear_cons.specs.declared.affine.Affine.{Affine}
use Rattle.decision_tree.specs.AffineRanks.{ExcessFits, excess_of, part_of, trend_of}
use Rattle.decision_tree.specs.Alternatives.{Alternatives}
use Rattle.decision_tree.specs.declared.rank.Comparison.{Comparison}
use Rattle.decision_tree.specs.Trend.{Trend, falling, rising, unmentioned}

-- j + 1 functions, and j + 1 numbers
abbrev pub Parts : ℕ → Type 0
Parts zero = Affine
Parts (suc j) = Affine × Parts j

abbrev pub Numbers : ℕ → Type 0
Numbers zero = ℤ
Numbers (suc j) = ℤ × Numbers j

-- the values of the functions
abbrev pub values_at : (j : ℕ) → Parts j → List ℤ → Numbers j
values_at zero a store = value_at a store
values_at (suc j) parts store = (value_at parts.0 store, values_at j parts.1 store)

-- some numbers exceed others by the first of them in which they differ
abbrev pub Exceeds : (j : ℕ) → Numbers j → Numbers j → Type 0
Exceeds zero v w = w <ℤ v
Exceeds (suc j) v w = (w.0 <ℤ v.0) ⊎ ((v.0 ≡ w.0) × Exceeds j v.1 w.1)

abbrev pub AreNatural : (j : ℕ) → Numbers j → Type 0
AreNatural zero v = pos 0 ≤ℤ v
AreNatural (suc j) v = (pos 0 ≤ℤ v.0) × AreNatural j v.1

-- where the numbers fit that are formed as another function is put in for the variable at the place
abbrev pub SubstitutionsFit : (j : ℕ) → Parts j → ℕ → Affine → Type 0
SubstitutionsFit zero a place by = SubstitutionFits a place by
SubstitutionsFit (suc j) parts place by = SubstitutionFits parts.0 place by × SubstitutionsFit j parts.1 place by

-- one of the functions exceeds another, and the next ones decide where they are equal: where the one is at least the other and the other at least the one
abbrev pub compared : Affine → Affine → Comparison
compared a b = record { more = row_kind_of (excess_of a b); same = Some (row_kind_of (difference_of a b) ∷ row_kind_of (difference_of b a) ∷ []) }

-- the first functions exceed the others
abbrev pub excesses : (j : ℕ) → Parts j → Parts j → Alternatives
excesses zero a b = part_of (excess_of a b) ∷ []
excesses (suc j) a b = compared a.0 b.0 ∷ excesses j a.1 b.1

-- every number fits that is formed for it
abbrev pub ExcessesFit : (j : ℕ) → Parts j → Parts j → Type 0
ExcessesFit zero a b = ExcessFits a b
ExcessesFit (suc j) a b = ExcessFits a.0 b.0 × NumbersFit (difference_of b.0 a.0) × ExcessesFit j a.1 b.1

-- one of the functions is below 0
abbrev pub negatives : (j : ℕ) → Parts j → Alternatives
negatives zero a = part_of (complement_of a) ∷ []
negatives (suc j) parts = part_of (complement_of parts.0) ∷ negatives j parts.1

abbrev pub NegativesFit : (j : ℕ) → Parts j → Type 0
NegativesFit zero a = NumbersFit (complement_of a)
NegativesFit (suc j) parts = NumbersFit (complement_of parts.0) × NegativesFit j parts.1

-- how a function moves with the number at a place where it has this coefficient
abbrev pub trend_of_sign : ℤ → Trend
trend_of_sign number = if int_lt (pos 0) number then rising else (if int_lt number (pos 0) then falling else unmentioned)

-- several move as the first of them does that mentions the place
abbrev pub trend_of_parts : (j : ℕ) → Parts j → ℕ → Trend
trend_of_parts zero a place = trend_of a place
trend_of_parts (suc j) parts place =
    if int_lt (pos 0) (coefficient parts.0 place) then rising
    else (if int_lt (coefficient parts.0 place) (pos 0) then falling else trend_of_parts j parts.1 place)
