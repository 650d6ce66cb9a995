-- A formula's parts are within the measures where it is.
use Rattle.std.proofs.Common.{◌≡◌, ℕ, zero, suc, ◌≤◌, Bool, List, [], ◌∷◌, ◌++◌, drop, take, refl, ap, arith}
use Rattle.std.proofs.Math.Nat.{le_refl}
use Rattle.step_meaning.specs.Syntax.{Statements}
use Rattle.ctl_formula.specs.Formulas.{Ctl, both, either, next, until, weak}
use Rattle.formula_measures.specs.Measures.{AreSizesWithin, IsWithinMeasures, atom_size}
use Rattle.exact_families.proofs.Narrow.{less_growth}
use Rattle.part_families.specs.Families.{IsWithin}

-- a list is its front with its rest
pub take_drop : {A : Type 0} (n : ℕ) (xs : List A) → take n xs ++ drop n xs ≡ xs
take_drop zero xs = refl
take_drop (suc n) [] = refl
take_drop (suc n) (x ∷ xs) = ap (λ ys. x ∷ ys) (take_drop n xs)

module _ (vars : ℕ) (body : Statements) where
  measured : (h f : Ctl) → IsWithinMeasures body h → AreSizesWithin 4096 body f → atom_size f ≤ atom_size h → IsWithinMeasures body f
  measured h f own sizes less =
      let part = less_growth body f h less in let whole = own.growth in record { sizes = sizes; growth = omega (arith, part, whole) }

  pub within_next : (all : Bool) (f : Ctl) → IsWithin vars body (next all f) → IsWithin vars body f
  within_next all f own = (measured (next all f) f own.0 own.0.sizes.1 (le_refl (atom_size f)), own.1)

  pub within_both : (f g : Ctl) → IsWithin vars body (both f g) → IsWithin vars body f × IsWithin vars body g
  within_both f g own =
      ((measured (both f g) f own.0 own.0.sizes.1 (omega arith), own.1.0), (measured (both f g) g own.0 own.0.sizes.2 (omega arith), own.1.1))

  pub within_either : (f g : Ctl) → IsWithin vars body (either f g) → IsWithin vars body f × IsWithin vars body g
  within_either f g own =
      ((measured (either f g) f own.0 own.0.sizes.1 (omega arith), own.1.0), (measured (either f g) g own.0 own.0.sizes.2 (omega arith), own.1.1))

  pub within_until : (all : Bool) (f g : Ctl) → IsWithin vars body (until all f g) → IsWithin vars body f × IsWithin vars body g
  within_until all f g own =
      ((measured (until all f g) f own.0 own.0.sizes.1 (omega arith), own.1.0), (measured (until all f g) g own.0 own.0.sizes.2 (omega arith), own.1.1))

  pub within_weak : (all : Bool) (f g : Ctl) → IsWithin vars body (weak all f g) → IsWithin vars body f × IsWithin vars body g
  within_weak all f g own =
      ((measured (weak all f g) f own.0 own.0.sizes.1 (omega arith), own.1.0), (measured (weak all f g) g own.0 own.0.sizes.2 (omega arith), own.1.1))
