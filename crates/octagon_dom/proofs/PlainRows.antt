-- Rows of one variable state a bound.
use Rattle.std.proofs.Common.{◌≡◌, ◌≢◌, ⊎_elim, ℕ, ◌≤◌, ◌^◌, ◌-◌, ℤ, pos, negsuc, ◌≤ℤ◌, ◌<ℤ◌, true, false, eqb, arith, unsigned_abs}
use Rattle.std.proofs.lemmas.Bool.Decides.{eqb_tells}
use Rattle.std.proofs.lemmas.Int.{ints}
use Rattle.std.proofs.lemmas.Nat.Gcd.{dvd-zero, dvd_refl}
use Rattle.linear_cons.specs.declared.affine.Affine.{Affine}
use Rattle.linear_cons.specs.declared.row.Row.{Row}
use Rattle.linear_cons.specs.Functions.{MentionsOnly, coefficient}
use Rattle.num_domain.specs.Domain.{IsPlain}
use Rattle.octagon_dom.specs.Octagons.{StatesBound}
use Rattle.octagon_dom.specs.Terms.{IsOctagonal}

-- the coefficient of a row's one variable is 1 or -1, since it divides all of them
alone_unit : (row : Row) (place : ℕ) → MentionsOnly place row.affine → unsigned_abs (coefficient row.affine place) ≡ 1
alone_unit row place alone = row.primitive (unsigned_abs (coefficient row.affine place)) (λ i h. ⊎_elim
    (λ (same : (eqb i place ≡ true) × (i ≡ place)). rw same.1 (dvd_refl _))
    (λ (apart : (eqb i place ≡ false) × (i ≢ place)). rw (alone i h apart.1) (dvd-zero _))
    (eqb_tells i place))

pub unit_octagonal : (a : Affine) (place : ℕ) → unsigned_abs (coefficient a place) ≡ 1 → MentionsOnly place a → IsOctagonal a
unit_octagonal a place unit alone = record {
  first = place;
  second = place;
  units = λ i h. ⊎_elim
      (λ (same : (eqb i place ≡ true) × (i ≡ place)). rw same.1 (omega arith))
      (λ (apart : (eqb i place ≡ false) × (i ≢ place)). rw (alone i h apart.1) (omega arith))
      (eqb_tells i place);
  alone = λ i h apart also. alone i h apart;
}

small_half : (c : ℤ) → unsigned_abs c ≤ 2 ^ 64 → (negsuc (2 ^ 126 - 1) ≤ℤ c) × (c <ℤ pos (2 ^ 126))
small_half c small = (omega (arith, ints), omega (arith, ints))

pub plain_states : (row : Row) (place : ℕ) → IsPlain row place → StatesBound row
plain_states row place plain =
    let half = small_half row.affine.constant plain.small in
    record { shape = unit_octagonal row.affine place (alone_unit row place plain.alone) plain.alone; half = record { from = half.0; below = half.1 } }
