-- The offsets in the text of statements, in the order of the tree: that of a statement, then those of its parts. Only the offset of a `do` loop,
-- which is that of its test, stands behind those of its body.
use Rattle.std.specs.Prelude.{ℕ, List, [], ◌∷◌, ◌++◌}
use Rattle.std.specs.List.{flat_map}
use Rattle.step_meaning.specs.declared.statement.Block.{Block, Then'}
use Rattle.step_meaning.specs.declared.statement.Block.TheVariants.{End}
use Rattle.step_meaning.specs.declared.statement.Stmt.{Stmt}
use Rattle.step_meaning.specs.declared.statement.StmtKind.{StmtKind}
use Rattle.step_meaning.specs.declared.statement.StmtKind.TheVariants.{Assign, Skip, Return, Break, Continue, If, While, Do}

-- the offsets of a block's statements, and those of one statement that stands at `at`: of an `if` behind its own offset those of its first part
-- and then of its second, of a loop those of its body and then of its step
abbrev mutual
  pub offsets : Block → List ℕ
  offsets End = []
  offsets (Then' p at kind q rest) = offsets_at at kind ++ offsets rest

  pub offsets_at : ℕ → StmtKind → List ℕ
  offsets_at at (Assign x e) = at ∷ []
  offsets_at at Skip = at ∷ []
  offsets_at at Return = at ∷ []
  offsets_at at Break = at ∷ []
  offsets_at at Continue = at ∷ []
  offsets_at at (If c y n) = at ∷ (offsets y ++ offsets n)
  offsets_at at (While c b s) = at ∷ (offsets b ++ offsets s)
  offsets_at at (Do b c) = offsets b ++ (at ∷ [])

-- the offsets of one statement, and of a list of statements
abbrev pub statement_offsets : Stmt → List ℕ
statement_offsets s = offsets_at s.at s.kind

abbrev pub all_offsets : List Stmt → List ℕ
all_offsets all = flat_map statement_offsets all
