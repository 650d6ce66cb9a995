-- How the states of a program move: what the theorem on supported families needs of the program and of what is told of its stores.
use Rattle.std.proofs.Common.{◌≡◌, ℕ, suc, ◌<◌, ℤ, pos, ◌≤ℤ◌, Bool, false, List, [], Option, None, Some, length, slice_set, All, Contains}
use Rattle.std.specs.Bool.{⊤}
use Rattle.step_meaning.specs.Syntax.{Statements}
use Rattle.step_meaning.specs.Outcome.{Store}
use Rattle.step_meaning.specs.Step.{Configuration, IsFinal, Next, front}
use Rattle.linear_cons.specs.declared.affine.Affine.{Affine}
use Rattle.linear_cons.specs.Bounds.{IsFrom, IsUpTo}
use Rattle.linear_cons.specs.Functions.{value_at}
use Rattle.linear_cons.specs.Numbers.{number_at}
use Rattle.linear_cons.specs.Rows.{MeetsAll}
use Rattle.control_flow.specs.declared.edge.Choice.TheVariants.{Branch, Range}
use Rattle.control_flow.specs.Edges.{configuration}
use Rattle.control_flow.specs.Labels.{rest}
use Rattle.control_flow.specs.States.{IsReachedState}
use Rattle.tree_support.specs.Arcs.{Arc, flow_of}
use Rattle.constraint_stack.specs.Forming.{Formed, exact}
use Rattle.control_flow.specs.Told.{Told}

-- the store meets what is asked
abbrev pub StoreMeets : Store → List Formed → Type 0
StoreMeets store asks = All (λ a. pos 0 ≤ℤ value_at (exact a) store) asks

-- the store behind what an arc sets
abbrev pub store_after : Option (ℕ × Affine) → Store → Store
store_after None store = store
store_after (Some (place, by)) store = slice_set store place (value_at by store)

-- the place that is set is a variable's
abbrev pub SetsVariable : Option (ℕ × Affine) → Type 0
SetsVariable None = ⊤
SetsVariable (Some (place, by)) = place < 15

module _ (vars : ℕ) (body : Statements) where
  -- The arc leads from the store to the configuration: with some number at place 15 the store meets what the arc asks, and behind what it
  -- sets that place has its old number again.
  pub record LeadsOver (arc : Arc) (store : Store) (next : Configuration) : Type 0 where
    pub chosen : ℤ
    pub variable : SetsVariable arc.sets
    pub asked : StoreMeets (slice_set store 15 chosen) arc.asks
    pub after : next.store ≡ slice_set (store_after arc.sets (slice_set store 15 chosen)) 15 (number_at store 15)
    pub same_front : front next.todo ≡ front (rest body arc.target)
    pub reached : IsReachedState vars body arc.target next.store

  -- one of the arcs does
  abbrev pub Taken : List Arc → Store → Configuration → Type 0
  Taken arcs store next = (arc : Arc) × Contains arcs arc × LeadsOver arc store next

  -- some successor of a label's state is led to over one of the arcs
  abbrev pub LeadsOn : List Arc → ℕ → Store → Type 0
  LeadsOn arcs label store = (next : Configuration) × Next (configuration body label store) next × Taken arcs store next

-- What holds of the states of a program that are reached, over what is told of them.
pub record Moves (vars : ℕ) (body : Statements) (told : Told) : Type 0 where
  pub ends : IsFinal (configuration body 0 [])
  pub goes_on : (label : ℕ) (store : Store) → IsReachedState vars body (suc label) store → ¬ IsFinal (configuration body (suc label) store)
  pub places : (label : ℕ) (store : Store) → IsReachedState vars body label store → length store ≡ 16
  pub alive : (label : ℕ) (store : Store) → IsReachedState vars body label store → told.dead label ≡ false
  pub members : (label : ℕ) (store : Store) (z : ℤ) → IsReachedState vars body label store → MeetsAll (slice_set store 15 z) (told.rows label)
  pub each : (label : ℕ) (store : Store) → IsReachedState vars body label store → (next : Configuration)
      → Next (configuration body label store) next → Taken vars body ((flow_of body told.bounds).arcs label) store next
  pub some : (label : ℕ) (store : Store) → IsReachedState vars body label store
      → (next : Configuration) × Next (configuration body label store) next
  pub outcomes : (label : ℕ) (store : Store) → IsReachedState vars body label store → (flow_of body told.bounds).choice label ≡ Branch
      → (outcome : Bool) → LeadsOn vars body ((flow_of body told.bounds).arcs_of label outcome) label store
  pub values : (label : ℕ) (store : Store) → IsReachedState vars body label store → (lo hi : Option ℤ)
      → (flow_of body told.bounds).choice label ≡ Range lo hi → (a : Affine) → IsFrom lo (value_at a store) → IsUpTo hi (value_at a store)
      → LeadsOn vars body ((flow_of body told.bounds).arcs_with label a) label store
