-- The search for a reason against systems, and against the alternatives of a claim.
use Rattle.std.specs.Prelude.{◌≡◌, ℕ, Bool, true, false, List, [], ◌∷◌, ◌++◌, length, take, All, Contains, Option, Result, Ok, Err, IsSomeAnd}
use Rattle.linear_cons.specs.declared.exact.Wide.{Wide}
use Rattle.linear_cons.specs.declared.row.RowKind.{RowKind}
use Rattle.linear_cons.specs.Exact.{IsOutside}
use Rattle.decision_tree.specs.Alternatives.{Alternatives, lists_of}
use Rattle.decision_tree.specs.declared.rank.Rank.{Ghosts as Ranks}
use Rattle.constraint_stack.specs.Reasons.{Justifies}
use Rattle.constraint_stack.specs.Forming.{Formed}
use Rattle.constraint_stack.specs.Claims.{ClaimFits, HasNoStore, choices, Claim, System}
use Rattle.constraint_stack.specs.declared.claim.Asked.{Asked}
use Rattle.constraint_stack.specs.declared.claim.Asked.TheVariants.{Greater, Negative}
use Rattle.constraint_stack.specs.declared.finding.Finding.{Finding}
use Rattle.constraint_stack.specs.declared.stack.ConstraintStack.{ConstraintStack}
use Rattle.constraint_stack.specs.Stacks.{Held, IsMetNowhere, IsTried, Item, Refutes, all_asked, all_chosen, is_there, restored, unformed}

-- the same rows are on the stack
abbrev pub IsSame : ConstraintStack → ConstraintStack → Type 0
IsSame old new = (new.rows ≡ old.rows) × (new.wide ≡ old.wide)

-- rows were added to those on the stack
abbrev pub IsLonger : ConstraintStack → ConstraintStack → Type 0
IsLonger old new =
    (take (length old.rows) new.rows ≡ old.rows) × (restored (is_there old.wide) new.wide ≡ old.wide)

-- what is on the stack is of the items
abbrev pub Holds : ConstraintStack → List Item → Type 0
Holds stack items = Held items stack.rows stack.wide

-- it is so of whatever items, or whatever functions that are asked to be at least 0, what is on the stack is of
abbrev pub WhereHeld : ConstraintStack → (List Item → Type 0) → Type 0
WhereHeld stack Is = (items : List Item) → Holds stack items → Is items

abbrev pub WhereAsked : ConstraintStack → (List Formed → Type 0) → Type 0
WhereAsked stack Is = (asks : List Formed) → Holds stack (all_asked asks) → Is asks

-- the search for a reason against the items with each of the lists
abbrev pub IsTriedWith : List Item → List (List RowKind) → ℕ → Bool → Option Finding → Type 0
IsTriedWith items lists edge true found =
    IsSomeAnd found (λ f. (f.edge ≡ edge) × ((choice : List RowKind) × Contains lists choice × Refutes (items ++ all_chosen choice) f.reason))
IsTriedWith items lists edge false found = All (λ choice. IsMetNowhere (items ++ all_chosen choice)) lists

-- the search against the items with a claim, whose alternatives could be formed or couldn't
abbrev pub IsClaimTried : List Item → Result Alternatives Wide → ℕ → Bool → Option Finding → Type 0
IsClaimTried items (Ok alternatives) edge refuted found = IsTriedWith items (lists_of alternatives) edge refuted found
IsClaimTried items (Err wide) edge refuted found = IsTried (items ++ unformed ∷ []) edge refuted found

module _ {R : Type 0} (ranks : Ranks R) where
  -- the reason holds for one of the systems, of this edge
  pub record Finds (systems : List (System R)) (finding : Finding) : Type 0 where
    pub system : System R
    pub system_in : Contains systems system
    pub edge : system.edge ≡ finding.edge
    pub justified : Justifies ranks finding.reason system

  -- the search for a reason against the systems: one was found for one of them, or no store meets any
  abbrev pub IsSearched : List (System R) → Bool → Option Finding → Type 0
  IsSearched systems true found = IsSomeAnd found (λ f. Finds systems f)
  IsSearched systems false found = All (HasNoStore ranks) systems

  -- the alternatives of the claim as they could be formed; or operands outside 128 bits, where a call that forms them leaves them
  abbrev pub IsClaimFormed : Claim R → Result Alternatives Wide → Type 0
  IsClaimFormed claim (Ok alternatives) = ClaimFits ranks claim × (choices ranks claim ≡ lists_of alternatives)
  IsClaimFormed claim (Err wide) = IsOutside wide × (ClaimFits ranks claim → ⊥)

  -- the alternatives of what is asked of ranks, and that they can be told
  abbrev pub alternatives_of : Asked R → Alternatives
  alternatives_of (Negative rank) = ranks.where_negative rank.now
  alternatives_of (Greater rank other) = ranks.where_greater rank.now other.now

  abbrev pub AreTold : Asked R → Type 0
  AreTold (Negative rank) = ranks.negative_fits rank.now
  AreTold (Greater rank other) = ranks.greater_fits rank.now other.now

  -- its alternatives as they could be told; or operands outside 128 bits, where a call that tells them leaves them
  abbrev pub IsToldAs : Asked R → Result Alternatives Wide → Type 0
  IsToldAs asked (Ok alternatives) = AreTold asked × (alternatives ≡ alternatives_of asked)
  IsToldAs asked (Err wide) = IsOutside wide × (AreTold asked → ⊥)
