-- What the states of a domain tell is true of the stores that are reached.
use Rattle.std.proofs.Common.{◌≡◌, ℕ, ℤ, pos, Bool, true, false, List, [], Option, None, Some, IfSome, IsTrue, slice_get, slice_set, refl, arith}
use Rattle.step_meaning.specs.Syntax.{Statements}
use Rattle.linear_cons.specs.declared.bounds.Bounds.{Bounds}
use Rattle.linear_cons.specs.declared.row.Row.{Row}
use Rattle.linear_cons.specs.Bounds.{LiesIn}
use Rattle.linear_cons.specs.Rows.{MeetsAll}
use Rattle.control_flow.specs.Invariants.{AreInvariants}
use Rattle.control_flow.specs.Told.{IsTrueOfReached, no_bounds, told_at, told_by}

-- what holds of what each state with a store tells, and where there is no state
told_holds : {D A : Type 0} (P : A → Type 0) (tells : D → A) (none : A) (has : D → Type 0) (state : Option D) → P none
    → ((d : D) → has d → P (tells d)) → IfSome state has → P (told_at tells none state)
told_holds P tells none has None nothing each inside = nothing
told_holds P tells none has (Some d) nothing each inside = each d inside

lies_in_no_bounds : (store : List ℤ) → LiesIn no_bounds store
lies_in_no_bounds store = record { lower = λ i low. tt; upper = λ i low. tt }

not_true : (b : Bool) → (IsTrue b → ⊥) → b ≡ false
not_true true fails = absurd (fails refl)
not_true false fails = refl

module _ {D : Type 0} (has : D → List ℤ → Type 0) (bounds : D → Bounds) (rows : D → List Row) (empty : D → Bool)
    (bounded : (d : D) (store : List ℤ) → has d store → LiesIn (bounds d) store)
    (met : (d : D) (store : List ℤ) → has d store → MeetsAll store (rows d))
    (unseen : (d : D) (store : List ℤ) → IsTrue (empty d) → has d store → ⊥) where
  pub told_is_true : (vars : ℕ) (body : Statements) (states : List D) → AreInvariants has vars body states
      → IsTrueOfReached vars body (told_by bounds rows empty states)
  told_is_true vars body states invariants = record {
    bounds = λ label store z reached.
        told_holds (λ b. LiesIn b (slice_set store 15 z)) bounds no_bounds (λ d. has d (slice_set store 15 z)) (slice_get states label)
        (lies_in_no_bounds (slice_set store 15 z)) (λ d inside. bounded d (slice_set store 15 z) inside)
        (invariants.members label store z reached);
    rows = λ label store z reached.
        told_holds (λ r. MeetsAll (slice_set store 15 z) r) rows [] (λ d. has d (slice_set store 15 z)) (slice_get states label)
        (λ k d low. absurd (omega arith)) (λ d inside. met d (slice_set store 15 z) inside)
        (invariants.members label store z reached);
    dead = λ label store reached.
        told_holds (λ e. e ≡ false) empty false (λ d. has d (slice_set store 15 (pos 0))) (slice_get states label) refl
        (λ d inside. not_true (empty d) (λ is. unseen d (slice_set store 15 (pos 0)) is inside))
        (invariants.members label store (pos 0) reached);
  }
