-- The shape of two trees moved back over a test, before it is trimmed, and beside it what is asked of the rows and leaves that it makes.
use Rattle.std.specs.Prelude.{◌≤◌, ◌&&◌, ◌||◌, Bool, true, false, List, [], ◌∷◌, ◌++◌, Option, None, Some, ⊤, if◌then◌else◌}
use Rattle.linear_cons.specs.Functions.{NumbersFit, complement_of}
use Rattle.linear_cons.specs.Rows.{complement}
use Rattle.linear_cons.specs.Settling.{settles}
use Rattle.linear_cons.specs.declared.row.Row.{Row}
use Rattle.decision_tree.specs.Nodes.{node}
use Rattle.decision_tree.specs.Plans.{Plan, bottom, size_of}
use Rattle.decision_tree.specs.Alternatives.{Alternatives}
use Rattle.decision_tree.specs.declared.rank.Rank.{Ghosts as Ranks}
use Rattle.tree_unify.specs.Builds.{Build}
use Rattle.tree_unify.specs.Shapes.{JoinedFits, OnSide, on_side}
use Rattle.tree_unify.specs.declared.join.Join.TheVariants.{Later}
use Rattle.backward_transfer.specs.Ranges.{later_of}
use Rattle.backward_transfer.specs.Steps.{StepFits, stepped}

-- what is settled of a row: that it holds, or that it fails
abbrev pub is_held : Option Bool → Bool
is_held (Some true) = true
is_held (Some false) = false
is_held None = false

abbrev pub is_refuted : Option Bool → Bool
is_refuted (Some true) = false
is_refuted (Some false) = true
is_refuted None = false

-- the path settles that each row of the conjunction holds, or that one of them fails
abbrev pub all_held : List Row → List Row → Bool
all_held path [] = true
all_held path (row ∷ rest) = is_held (settles path row) && all_held path rest

abbrev pub one_refuted : List Row → List Row → Bool
one_refuted path [] = false
one_refuted path (row ∷ rest) = is_refuted (settles path row) || one_refuted path rest

-- the path settles that one of the conjunctions holds; and those of which it refutes no row
abbrev pub one_held : List Row → List (List Row) → Bool
one_held path [] = false
one_held path (rows ∷ rest) = all_held path rows || one_held path rest

abbrev pub not_refuted : List Row → List (List Row) → List (List Row)
not_refuted path [] = []
not_refuted path (rows ∷ rest) = if one_refuted path rows then not_refuted path rest else rows ∷ not_refuted path rest

module _ {R : Type 0} (same : R → R → Bool) where
  -- Rows asked one by one: what holds stands where all hold, what fails where one fails. A row that the path settles isn't asked.
  abbrev pub rows_asked : List Row → (List Row → Plan R) → (List Row → Plan R) → List Row → Plan R
  rows_asked [] holds fails path = holds path
  rows_asked (row ∷ rest) holds fails path =
      on_side (settles path row) (rows_asked rest holds fails path) (fails path)
      (node same row (rows_asked rest holds fails (path ++ row ∷ [])) (fails (path ++ complement row ∷ [])))

  -- conjunctions tried one by one, until one holds or all fail
  abbrev pub tried : List (List Row) → (Bool → List Row → Plan R) → List Row → Plan R
  tried [] found path = found false path
  tried (rows ∷ rest) found path = rows_asked rows (found true) (tried rest found) path

-- what is asked of the rows that are asked so, and of what stands where all hold or one fails
module _ (Asks : Row → Type 0) where
  abbrev pub RowsAsk : List Row → (List Row → Type 0) → (List Row → Type 0) → List Row → Type 0
  RowsAsk [] Holds Fails path = Holds path
  RowsAsk (row ∷ rest) Holds Fails path =
      OnSide (settles path row) (RowsAsk rest Holds Fails path) (Fails path)
      (RowsAsk rest Holds Fails (path ++ row ∷ []) × Asks row × Fails (path ++ complement row ∷ []))

  abbrev pub TriesAsk : List (List Row) → (Bool → List Row → Type 0) → List Row → Type 0
  TriesAsk [] Found path = Found false path
  TriesAsk (rows ∷ rest) Found path = RowsAsk rows (Found true) (TriesAsk rest Found) path

module _ {R : Type 0} (same : R → R → Bool) (where_greater : R → R → Alternatives) (greater_fits : R → R → Type 0) (one_more : R → R) where
  -- the tree of the sides that are enabled, with one more step at each leaf that is defined
  abbrev pub enabled : Plan R → Plan R → Bool → Bool → Plan R
  enabled this that true true = stepped same one_more (later_of same where_greater greater_fits this that)
  enabled this that true false = stepped same one_more this
  enabled this that false true = stepped same one_more that
  enabled this that false false = bottom

  -- Once it is settled whether the test may hold, its failure is tried: it is possible where a conjunction is settled to hold, and else
  -- those are asked of which no row is refuted.
  abbrev pub failure_tried : Plan R → Plan R → List (List Row) → Bool → List Row → Plan R
  failure_tried this that fails holds path =
      if one_held path fails then enabled this that holds true
      else tried same (not_refuted path fails) (λ other way. enabled this that holds other) path

  -- the trees behind a test that holds and one that fails, at the stores that meet a conjunction of its rows for either
  abbrev pub tested : Plan R → Plan R → List (List Row) → List (List Row) → Plan R
  tested this that holds fails = tried same holds (failure_tried this that fails) []

  module _ (more_fits : R → Type 0) where
    -- each rank and each rank difference that is formed at a leaf fits
    abbrev pub EnabledFits : Plan R → Plan R → Bool → Bool → Type 0
    EnabledFits this that true true =
        JoinedFits same where_greater greater_fits Later this that × StepFits more_fits (later_of same where_greater greater_fits this that)
    EnabledFits this that true false = StepFits more_fits this
    EnabledFits this that false true = StepFits more_fits that
    EnabledFits this that false false = ⊤

module _ {R : Type 0} (same : R → R → Bool) (where_greater : R → R → Alternatives) (greater_fits : R → R → Type 0) where
  -- the later of both trees, where it is formed, has at most 65,536 nodes
  abbrev pub IsLaterSmall : Plan R → Plan R → Bool → Bool → Type 0
  IsLaterSmall this that true true = size_of (later_of same where_greater greater_fits this that) ≤ 65536
  IsLaterSmall this that true false = ⊤
  IsLaterSmall this that false true = ⊤
  IsLaterSmall this that false false = ⊤

-- one of two claims
abbrev pub Side : Bool → Type 0 → Type 0 → Type 0
Side true Here There = Here
Side false Here There = There

-- what is asked of the rows and of the leaves that are made, where the leaves depend on the sides that are enabled
module _ (Asks : Row → Type 0) (Enabled : Bool → Bool → Type 0) (fails : List (List Row)) where
  abbrev pub FailureAsks : Bool → List Row → Type 0
  FailureAsks holds path =
      Side (one_held path fails) (Enabled holds true) (TriesAsk Asks (not_refuted path fails) (λ other way. Enabled holds other) path)

  abbrev pub TestAsks : List (List Row) → Type 0
  TestAsks holds = TriesAsk Asks holds FailureAsks []

-- the complement's numbers fit
abbrev pub ComplementFits : Row → Type 0
ComplementFits row = NumbersFit (complement_of row.affine)

-- ---- what is left to ask of a test on the way, where it may be settled that the test may hold, or may not

module _ {R : Type 0} (same : R → R → Bool) (where_greater : R → R → Alternatives) (greater_fits : R → R → Type 0) (one_more : R → R)
    (this that : Plan R) (fails : List (List Row)) where
  abbrev pub settled_tree : Option Bool → Bool → List Row → Plan R
  settled_tree None found path = failure_tried same where_greater greater_fits one_more this that fails found path
  settled_tree (Some holds) found path = enabled same where_greater greater_fits one_more this that holds found

  abbrev pub tried_tree : Option Bool → List (List Row) → List Row → Plan R
  tried_tree holds rest path = tried same rest (settled_tree holds) path

  abbrev pub asked_tree : Option Bool → List Row → List (List Row) → List Row → Plan R
  asked_tree holds rows rest path = rows_asked same rows (settled_tree holds true) (tried same rest (settled_tree holds)) path

module _ (Asks : Row → Type 0) (Enabled : Bool → Bool → Type 0) (fails : List (List Row)) where
  abbrev pub SettledAsks : Option Bool → Bool → List Row → Type 0
  SettledAsks None found path = FailureAsks Asks Enabled fails found path
  SettledAsks (Some holds) found path = Enabled holds found

  abbrev pub TriedAsks : Option Bool → List (List Row) → List Row → Type 0
  TriedAsks holds rest path = TriesAsk Asks rest (SettledAsks holds) path

  abbrev pub AskedAsks : Option Bool → List Row → List (List Row) → List Row → Type 0
  AskedAsks holds rows rest path = RowsAsk Asks rows (SettledAsks holds true) (TriesAsk Asks rest (SettledAsks holds)) path

-- ---- what is made on the way

module _ {R : Type 0} (same : R → R → Bool) (ranks : Ranks R) (this that : Plan R) where
  -- the tree of the outcomes that are possible
  abbrev pub enabling : Bool → Bool → Build R
  enabling holds fails = record {
    plan = enabled same ranks.where_greater ranks.greater_fits ranks.one_more this that holds fails;
    Fits = EnabledFits same ranks.where_greater ranks.greater_fits ranks.one_more ranks.add_one_fits this that holds fails;
    Room = IsLaterSmall same ranks.where_greater ranks.greater_fits this that holds fails;
  }

  module _ (fails : List (List Row)) where
    -- what stands where a conjunction was found to hold, or all to fail
    abbrev pub settling : Option Bool → Bool → List Row → Build R
    settling holds found path = record {
      plan = settled_tree same ranks.where_greater ranks.greater_fits ranks.one_more this that fails holds found path;
      Fits = SettledAsks ComplementFits (λ first second. (enabling first second).Fits) fails holds found path;
      Room = SettledAsks (λ row. ⊤) (λ first second. (enabling first second).Room) fails holds found path;
    }

    -- what stands where conjunctions are left to try
    abbrev pub trying : Option Bool → List (List Row) → List Row → Build R
    trying holds rest path = record {
      plan = tried_tree same ranks.where_greater ranks.greater_fits ranks.one_more this that fails holds rest path;
      Fits = TriedAsks ComplementFits (λ first second. (enabling first second).Fits) fails holds rest path;
      Room = TriedAsks (λ row. ⊤) (λ first second. (enabling first second).Room) fails holds rest path;
    }

    -- and where rows of one are left to ask before them
    abbrev pub asking : Option Bool → List Row → List (List Row) → List Row → Build R
    asking holds rows rest path = record {
      plan = asked_tree same ranks.where_greater ranks.greater_fits ranks.one_more this that fails holds rows rest path;
      Fits = AskedAsks ComplementFits (λ first second. (enabling first second).Fits) fails holds rows rest path;
      Room = AskedAsks (λ row. ⊤) (λ first second. (enabling first second).Room) fails holds rows rest path;
    }
