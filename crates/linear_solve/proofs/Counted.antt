-- Numbers that are counted place by place.
use Rattle.std.proofs.Common.{◌≡◌, ◌≢◌, ◌⊎◌, ℕ, zero, suc, ◌+◌, ◌<◌, ◌≤◌, ◌∙◌, ℤ, pos, negsuc, List, length, set, refl, ap, arith, ⊎_elim, get_or-set_other, get_or-set_same, length-set}
use Rattle.linear_cons.specs.declared.row.Row.{Row}
use Rattle.linear_solve.specs.Counts.{count_at}
use Rattle.linear_solve.specs.Elimination.{lowers_of, one_above, one_below, uppers_of}
use Rattle.linear_solve.proofs.Growing.{sides_fit}

-- the counts below a place have risen, and the others have not
pub record AreRaisedBelow (more : ℕ → ℕ) (n : ℕ) (old new : List ℕ) : Type 0 where
  pub long : length new ≡ 16
  pub below : (i : ℕ) → i < n → count_at new i ≡ count_at old i + more i
  pub rest : (i : ℕ) → n ≤ i → count_at new i ≡ count_at old i

pub raised_none : (more : ℕ → ℕ) (old : List ℕ) → length old ≡ 16 → AreRaisedBelow more 0 old old
raised_none more old long = record { long = long; below = λ i low. absurd (omega arith); rest = λ i from. refl }

pub raised_more : (more : ℕ → ℕ) (n : ℕ) (old new : List ℕ) (count : ℕ) → n < 16 → AreRaisedBelow more n old new → count ≡ count_at new n + more n → AreRaisedBelow more (n + 1) old (set new n count)
raised_more more n old new count low raised is = record {
  long = length-set new n count ∙ raised.long;
  below = λ i less. ⊎_elim
      (λ (earlier : i < n). let ne : i ≢ n = omega arith in rw get_or-set_other (raised.below i earlier))
      (λ (here : i ≡ n). rw here (let inside : n < length new = omega (arith, raised.long) in rw get_or-set_same (is ∙ ap (λ t. t + more n) (raised.rest n (omega arith)))))
      (earlier_or_same i n less);
  rest = λ i from. let ne : i ≢ n = omega arith in rw get_or-set_other (raised.rest i (omega arith));
}
  where
    earlier_or_same : (i n : ℕ) → i < n + 1 → (i < n) ⊎ (i ≡ n)
    earlier_or_same i n less = grind arith

pub above_small : (z : ℤ) → one_above z ≤ 1
above_small (pos zero) = omega arith
above_small (pos (suc n)) = omega arith
above_small (negsuc n) = omega arith

pub below_small : (z : ℤ) → one_below z ≤ 1
below_small (pos n) = omega arith
below_small (negsuc n) = omega arith

-- no place is bound by more rows than there are
pub lowers_fit : (place : ℕ) (rows : List Row) → lowers_of place rows ≤ length rows
lowers_fit place rows = let both = sides_fit place rows in omega (arith, both)

pub uppers_fit : (place : ℕ) (rows : List Row) → uppers_of place rows ≤ length rows
uppers_fit place rows = let both = sides_fit place rows in omega (arith, both)
