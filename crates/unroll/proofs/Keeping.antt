-- What holds of each row, and what of each claim, of the trees behind a step, and of those of the tree before it.
use Rattle.std.proofs.Common.{ℕ, Bool, true, false, cond, List, [], ◌∷◌, ◌++◌, Option, None, Some}
use Rattle.std.specs.Prelude.{⊤}
use Rattle.linear_cons.specs.Functions.{substituted}
use Rattle.linear_cons.specs.Rows.{complement, row_kind_of}
use Rattle.linear_cons.specs.Settling.{settles}
use Rattle.linear_cons.specs.declared.affine.Affine.{Affine}
use Rattle.linear_cons.specs.declared.row.Row.{Row}
use Rattle.linear_cons.specs.declared.row.RowKind.{RowKind}
use Rattle.linear_cons.specs.declared.row.RowKind.TheVariants.{Always, Never, Row as Kept}
use Rattle.decision_tree.specs.Equality.{same_plan}
use Rattle.decision_tree.specs.Nodes.{node}
use Rattle.decision_tree.specs.Plans.{IsEnd, Plan, bottom, branch, leaf, top}
use Rattle.decision_tree.specs.declared.affine_rank.AffineRank.{AffineRank}
use Rattle.decision_tree.specs.Alternatives.{Alternatives}
use Rattle.decision_tree.specs.declared.reason.Pick.TheVariants.{All as EveryState}
use Rattle.decision_tree.specs.declared.reason.Why.{Why}
use Rattle.decision_tree.specs.declared.reason.Why.TheVariants.{Step as Onward}
use Rattle.tree_unify.specs.Shapes.{OnSide, grafted, joined_at, leaf_met, on_side, trimmed, trimmed_with}
use Rattle.tree_unify.specs.declared.join.Join.TheVariants.{Later}
use Rattle.backward_transfer.specs.Ranges.{later_of}
use Rattle.backward_transfer.specs.Steps.{asked, assigned, stepped}
use Rattle.backward_transfer.specs.Tests.{FailureAsks, RowsAsk, Side, TestAsks, TriesAsk, enabled, failure_tried, not_refuted, one_held, rows_asked, tested, tried}
use Rattle.unroll.specs.Within.{EachIs}

-- what holds of the one holds of the other
pub each_more : (P Next : Row → Type 0) (Q Step : Why → AffineRank → Type 0) → ((row : Row) → P row → Next row)
    → ((why : Why) (rank : AffineRank) → Q why rank → Step why rank)
    → (plan : Plan AffineRank) → EachIs P Q plan → EachIs Next Step plan
each_more P Next Q Step rows ranks bottom each = tt
each_more P Next Q Step rows ranks (top cause) each = tt
each_more P Next Q Step rows ranks (leaf why rank) each = ranks why rank each
each_more P Next Q Step rows ranks (branch row this that) each =
    (rows row each.0, each_more P Next Q Step rows ranks this each.1, each_more P Next Q Step rows ranks that each.2)

-- it holds of the row, if there is one
abbrev pub KindIs : (Row → Type 0) → RowKind → Type 0
KindIs P Always = ⊤
KindIs P Never = ⊤
KindIs P (Kept row) = P row

module _ (same : AffineRank → AffineRank → Bool) where
  module _ (P : Row → Type 0) (Q : Why → AffineRank → Type 0) where
    abbrev Is : Plan AffineRank → Type 0
    Is = EachIs P Q

    cond_each : (t : Bool) (this that : Plan AffineRank) → Is this → Is that → Is (cond t this that)
    cond_each true this that first second = first
    cond_each false this that first second = second

    pub node_each : (row : Row) (this that : Plan AffineRank) → P row → Is this → Is that → Is (node same row this that)
    node_each row this that own first second = cond_each (same_plan same this that) this (branch row this that) first (own, first, second)

    side_each : (t : Option Bool) (this that neither : Plan AffineRank) (This That Neither : Type 0) → (This → Is this) → (That → Is that) → (Neither → Is neither)
        → OnSide t This That Neither → Is (on_side t this that neither)
    side_each (Some true) this that neither This That Neither first second both on = first on
    side_each (Some false) this that neither This That Neither first second both on = second on
    side_each None this that neither This That Neither first second both on = both on

    either_each : (t : Option Bool) (this that neither : Plan AffineRank) → Is this → Is that → Is neither → Is (on_side t this that neither)
    either_each (Some true) this that neither first second both = first
    either_each (Some false) this that neither first second both = second
    either_each None this that neither first second both = both

    pub cut_each : (f : Plan AffineRank → Plan AffineRank) → ((end : Plan AffineRank) → IsEnd end → Is end → Is (f end)) → (path : List Row) (plan : Plan AffineRank)
        → Is plan → Is (trimmed_with same f path plan)
    cut_each f keeps path bottom each = keeps bottom tt tt
    cut_each f keeps path (top cause) each = keeps (top cause) tt tt
    cut_each f keeps path (leaf why rank) each = keeps (leaf why rank) tt each
    cut_each f keeps path (branch row this that) each =
        either_each (settles path row) (trimmed_with same f path this) (trimmed_with same f path that)
        (node same row (trimmed_with same f (path ++ row ∷ []) this) (trimmed_with same f (path ++ complement row ∷ []) that))
        (cut_each f keeps path this each.1) (cut_each f keeps path that each.2)
        (node_each row (trimmed_with same f (path ++ row ∷ []) this) (trimmed_with same f (path ++ complement row ∷ []) that) each.0
        (cut_each f keeps (path ++ row ∷ []) this each.1) (cut_each f keeps (path ++ complement row ∷ []) that each.2))

    pub trimmed_each : (path : List Row) (plan : Plan AffineRank) → Is plan → Is (trimmed same path plan)
    trimmed_each path plan each = cut_each (λ end. end) (λ end ends kept. kept) path plan each

    asked_each : (kind : RowKind) (this that : Plan AffineRank) → KindIs P kind → Is this → Is that → Is (asked same kind this that)
    asked_each Always this that own first second = first
    asked_each Never this that own first second = second
    asked_each (Kept row) this that own first second = node_each row this that own first second

    -- rows that are asked are such, and what stands behind them is
    rows_each : (rows : List Row) (holds fails : List Row → Plan AffineRank) (Holds Fails : List Row → Type 0) → ((path : List Row) → Holds path → Is (holds path))
        → ((path : List Row) → Fails path → Is (fails path)) → (path : List Row) → RowsAsk P rows Holds Fails path → Is (rows_asked same rows holds fails path)
    rows_each [] holds fails Holds Fails first second path asks = first path asks
    rows_each (row ∷ rest) holds fails Holds Fails first second path asks =
        side_each (settles path row) (rows_asked same rest holds fails path) (fails path)
        (node same row (rows_asked same rest holds fails (path ++ row ∷ [])) (fails (path ++ complement row ∷ [])))
        (RowsAsk P rest Holds Fails path) (Fails path) (RowsAsk P rest Holds Fails (path ++ row ∷ []) × P row × Fails (path ++ complement row ∷ []))
        (λ on. rows_each rest holds fails Holds Fails first second path on) (λ on. second path on)
        (λ on. node_each row (rows_asked same rest holds fails (path ++ row ∷ [])) (fails (path ++ complement row ∷ [])) on.1
        (rows_each rest holds fails Holds Fails first second (path ++ row ∷ []) on.0) (second (path ++ complement row ∷ []) on.2)) asks

    tried_each : (conjunctions : List (List Row)) (found : Bool → List Row → Plan AffineRank) (Found : Bool → List Row → Type 0)
        → ((t : Bool) (path : List Row) → Found t path → Is (found t path)) → (path : List Row) → TriesAsk P conjunctions Found path → Is (tried same conjunctions found path)
    tried_each [] found Found each path asks = each false path asks
    tried_each (rows ∷ rest) found Found each path asks =
        rows_each rows (found true) (tried same rest found) (Found true) (TriesAsk P rest Found) (each true) (tried_each rest found Found each) path asks

    -- of the tree before a test, where it is so of the rows that it asks and of the trees that it makes at its ends
    module _ (where_greater : AffineRank → AffineRank → Alternatives) (greater_fits : AffineRank → AffineRank → Type 0) (one_more : AffineRank → AffineRank)
        (this that : Plan AffineRank) (fails : List (List Row)) where
      abbrev at_end : Bool → Bool → Plan AffineRank
      at_end = enabled same where_greater greater_fits one_more this that

      abbrev AtEnd : Bool → Bool → Type 0
      AtEnd t u = Is (at_end t u)

      failed_each : (held t : Bool) (path : List Row) → Side held (AtEnd t true) (TriesAsk P (not_refuted path fails) (λ other way. AtEnd t other) path)
          → Is (cond held (at_end t true) (tried same (not_refuted path fails) (λ other way. at_end t other) path))
      failed_each true t path asks = asks
      failed_each false t path asks =
          tried_each (not_refuted path fails) (λ other way. at_end t other) (λ other way. AtEnd t other) (λ other way each. each) path asks

      pub tested_each : (holds : List (List Row)) → TestAsks P AtEnd fails holds → Is (tested same where_greater greater_fits one_more this that holds fails)
      tested_each holds asks =
          tried_each holds (failure_tried same where_greater greater_fits one_more this that fails) (FailureAsks P AtEnd fails)
          (λ t path each. failed_each (one_held path fails) t path each) [] asks

    -- of the later of two trees, where it is so of the later of two leaves
    module _ (where_greater : AffineRank → AffineRank → Alternatives) (greater_fits : AffineRank → AffineRank → Type 0)
        (met : (why other : Why) (rank next : AffineRank) → Q why rank → Q other next → Is (leaf_met same where_greater greater_fits Later (leaf why rank) (leaf other next))) where
      met_each : (why : Why) (rank : AffineRank) → Q why rank → (end : Plan AffineRank) → IsEnd end → Is end
          → Is (leaf_met same where_greater greater_fits Later (leaf why rank) end)
      met_each why rank one bottom ends two = tt
      met_each why rank one (top cause) ends two = tt
      met_each why rank one (leaf other next) ends two = met why other rank next one two
      met_each why rank one (branch row this that) ends two = absurd ends

      grafted_each : (second : Plan AffineRank) → Is second → (path : List Row) (first : Plan AffineRank) → Is first
          → Is (grafted same (joined_at same where_greater greater_fits Later second) path first)
      grafted_each second two path bottom one = tt
      grafted_each second two path (top cause) one = tt
      grafted_each second two path (leaf why rank) one = cut_each (leaf_met same where_greater greater_fits Later (leaf why rank)) (met_each why rank one) path second two
      grafted_each second two path (branch row this that) one =
          node_each row (grafted same (joined_at same where_greater greater_fits Later second) (path ++ row ∷ []) this)
          (grafted same (joined_at same where_greater greater_fits Later second) (path ++ complement row ∷ []) that) one.0
          (grafted_each second two (path ++ row ∷ []) this one.1) (grafted_each second two (path ++ complement row ∷ []) that one.2)

      pub later_each : (this that : Plan AffineRank) → Is this → Is that → Is (later_of same where_greater greater_fits this that)
      later_each this that one two = grafted_each that two [] this one

  -- ---- a step more, after which something else holds

  module _ (P : Row → Type 0) (Q Step : Why → AffineRank → Type 0) (one_more : AffineRank → AffineRank)
      (more : (why : Why) (rank : AffineRank) → Q why rank → Step (Onward EveryState) (one_more rank)) where
    pub stepped_each : (plan : Plan AffineRank) → EachIs P Q plan → EachIs P Step (stepped same one_more plan)
    stepped_each bottom each = tt
    stepped_each (top cause) each = tt
    stepped_each (leaf why rank) each = more why rank each
    stepped_each (branch row this that) each =
        node_each P Step row (stepped same one_more this) (stepped same one_more that) each.0 (stepped_each this each.1) (stepped_each that each.2)

    -- of what stands at the ends of a test
    module _ (where_greater : AffineRank → AffineRank → Alternatives) (greater_fits : AffineRank → AffineRank → Type 0)
        (met : (why other : Why) (rank next : AffineRank) → Q why rank → Q other next → EachIs P Q (leaf_met same where_greater greater_fits Later (leaf why rank) (leaf other next)))
        (this that : Plan AffineRank) (first : EachIs P Q this) (second : EachIs P Q that) where
      pub enabled_each : (t u : Bool) → EachIs P Step (enabled same where_greater greater_fits one_more this that t u)
      enabled_each true true =
          stepped_each (later_of same where_greater greater_fits this that) (later_each P Q where_greater greater_fits met this that first second)
      enabled_each true false = stepped_each this first
      enabled_each false true = stepped_each that second
      enabled_each false false = tt

  module _ (P Next : Row → Type 0) (Q Step : Why → AffineRank → Type 0) (put : AffineRank → ℕ → Affine → AffineRank) (one_more : AffineRank → AffineRank) (place : ℕ) (by : Affine)
      (row_in : (row : Row) → P row → KindIs Next (row_kind_of (substituted row.affine place by)))
      (rank_in : (why : Why) (rank : AffineRank) → Q why rank → Step (Onward EveryState) (one_more (put rank place by))) where
    pub assigned_each : (plan : Plan AffineRank) → EachIs P Q plan → EachIs Next Step (assigned same put one_more place by plan)
    assigned_each bottom each = tt
    assigned_each (top cause) each = tt
    assigned_each (leaf why rank) each = rank_in why rank each
    assigned_each (branch row this that) each =
        asked_each Next Step (row_kind_of (substituted row.affine place by)) (assigned same put one_more place by this) (assigned same put one_more place by that)
        (row_in row each.0) (assigned_each this each.1) (assigned_each that each.2)
