-- What a test asks, where each of its rows may be asked and each of its ends may be made.
use Rattle.std.proofs.Common.{Bool, true, false, List, [], ◌∷◌, ◌++◌, Option, None, Some, cond}
use Rattle.linear_cons.specs.Rows.{complement}
use Rattle.linear_cons.specs.Settling.{settles}
use Rattle.linear_cons.specs.declared.row.Row.{Row}
use Rattle.linear_forms.specs.Duality.{EachOf}
use Rattle.tree_unify.specs.Shapes.{OnSide}
use Rattle.backward_transfer.specs.Tests.{FailureAsks, RowsAsk, Side, TestAsks, TriesAsk, not_refuted, one_held, one_refuted}

every_side : (t : Option Bool) (This That Neither : Type 0) → This → That → Neither → OnSide t This That Neither
every_side (Some true) This That Neither first second both = first
every_side (Some false) This That Neither first second both = second
every_side None This That Neither first second both = both

module _ (Asks : Row → Type 0) where
  rows_ask : (rows : List Row) (Holds Fails : List Row → Type 0) → EachOf Asks rows → ((path : List Row) → Holds path) → ((path : List Row) → Fails path)
      → (path : List Row) → RowsAsk Asks rows Holds Fails path
  rows_ask [] Holds Fails each first second path = first path
  rows_ask (row ∷ rest) Holds Fails each first second path =
      every_side (settles path row) (RowsAsk Asks rest Holds Fails path) (Fails path)
      (RowsAsk Asks rest Holds Fails (path ++ row ∷ []) × Asks row × Fails (path ++ complement row ∷ []))
      (rows_ask rest Holds Fails each.1 first second path) (second path)
      (rows_ask rest Holds Fails each.1 first second (path ++ row ∷ []), each.0, second (path ++ complement row ∷ []))

  tries_ask : (conjunctions : List (List Row)) (Found : Bool → List Row → Type 0) → EachOf (EachOf Asks) conjunctions
      → ((t : Bool) (path : List Row) → Found t path) → (path : List Row) → TriesAsk Asks conjunctions Found path
  tries_ask [] Found each found path = found false path
  tries_ask (rows ∷ rest) Found each found path =
      rows_ask rows (Found true) (TriesAsk Asks rest Found) each.0 (found true) (tries_ask rest Found each.1 found) path

  left_each : (t : Bool) (rows : List Row) (rest : List (List Row)) → EachOf Asks rows → EachOf (EachOf Asks) rest → EachOf (EachOf Asks) (cond t rest (rows ∷ rest))
  left_each true rows rest own others = others
  left_each false rows rest own others = (own, others)

  not_refuted_each : (path : List Row) (list : List (List Row)) → EachOf (EachOf Asks) list → EachOf (EachOf Asks) (not_refuted path list)
  not_refuted_each path [] each = tt
  not_refuted_each path (rows ∷ rest) each = left_each (one_refuted path rows) rows (not_refuted path rest) each.0 (not_refuted_each path rest each.1)

  module _ (Enabled : Bool → Bool → Type 0) (ends : (t u : Bool) → Enabled t u) (fails : List (List Row)) (others : EachOf (EachOf Asks) fails) where
    failure_asks : (held t : Bool) (path : List Row) → Side held (Enabled t true) (TriesAsk Asks (not_refuted path fails) (λ u way. Enabled t u) path)
    failure_asks true t path = ends t true
    failure_asks false t path = tries_ask (not_refuted path fails) (λ u way. Enabled t u) (not_refuted_each path fails others) (λ u way. ends t u) path

    pub every_ask : (holds : List (List Row)) → EachOf (EachOf Asks) holds → TestAsks Asks Enabled fails holds
    every_ask holds own = tries_ask holds (FailureAsks Asks Enabled fails) own (λ t path. failure_asks (one_held path fails) t path) []
