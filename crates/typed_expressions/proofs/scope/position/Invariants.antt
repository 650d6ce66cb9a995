use Rattle.std.proofs.Common.{ℕ, ◌<◌, ◌≢◌, slice_index_or, map, vec_items}
use Rattle.typed_expressions.proofs.scope.position.Given as goal

-- no name so far is the wanted one
abbrev pub invariant-loop-index : goal.invariant-loop-index
invariant-loop-index l = (k : ℕ) → k < l.index → slice_index_or (map vec_items l.names) k l.wanted ≢ l.wanted
