-- A block has as many offsets as statements.
use Rattle.std.proofs.Common.{◌≡◌, ℕ, ◌∷◌, [], length, length-append, refl, arith}
use Rattle.step_meaning.specs.declared.statement.Block.{Block, Then'}
use Rattle.step_meaning.specs.declared.statement.Block.TheVariants.{End}
use Rattle.step_meaning.specs.declared.statement.StmtKind.{StmtKind}
use Rattle.step_meaning.specs.declared.statement.StmtKind.TheVariants.{Assign, Skip, Return, Break, Continue, If, While, Do}
use Rattle.step_meaning.specs.Offsets.{offsets, offsets_at}
use Rattle.step_meaning.specs.Syntax.{size_of, size_of_statement, statement, statements}

mutual
  offsets_counted_at : (at : ℕ) (kind : StmtKind) → length (offsets_at at kind) ≡ size_of_statement (statement kind)
  offsets_counted_at at (Assign x e) = refl
  offsets_counted_at at Skip = refl
  offsets_counted_at at Return = refl
  offsets_counted_at at Break = refl
  offsets_counted_at at Continue = refl
  offsets_counted_at at (If c y z) =
      let both = length-append (offsets y) (offsets z) in
      let first = offsets_counted y in
      let second = offsets_counted z in
      omega arith
  offsets_counted_at at (While c y z) =
      let both = length-append (offsets y) (offsets z) in
      let first = offsets_counted y in
      let second = offsets_counted z in
      omega arith
  offsets_counted_at at (Do y c) =
      let both = length-append (offsets y) (at ∷ []) in
      let first = offsets_counted y in
      omega arith

  pub offsets_counted : (b : Block) → length (offsets b) ≡ size_of (statements b)
  offsets_counted End = refl
  offsets_counted (Then' p at kind q more) =
      let both = length-append (offsets_at at kind) (offsets more) in
      let first = offsets_counted_at at kind in
      let others = offsets_counted more in
      omega arith
