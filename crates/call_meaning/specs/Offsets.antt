-- The offsets in the text of statements, in the order of the tree, and how many levels of nesting are open at each of their calls. The offset of a
-- statement stands before those of its parts; only that of a `do`, which is that of its test, stands behind those of its body.
use Rattle.std.specs.Prelude.{ℕ, List, [], ◌∷◌, ◌++◌}
use Rattle.std.specs.List.{flat_map}
use Rattle.call_meaning.specs.declared.statement.UnitBlock.{UnitBlock, Then'}
use Rattle.call_meaning.specs.declared.statement.UnitBlock.TheVariants.{End}
use Rattle.call_meaning.specs.declared.statement.UnitStmt.{UnitStmt}
use Rattle.call_meaning.specs.declared.statement.UnitKind.{UnitKind}
use Rattle.call_meaning.specs.declared.statement.UnitKind.TheVariants.{Assign, Call, Skip, Return, Break, Continue, If, While, Do}

-- the offsets of a list's statements, and those of one statement that stands at `at`
abbrev mutual
  pub offsets : UnitBlock → List ℕ
  offsets End = []
  offsets (Then' p at kind q rest) = offsets_at at kind ++ offsets rest

  pub offsets_at : ℕ → UnitKind → List ℕ
  offsets_at at (Assign x e) = at ∷ []
  offsets_at at (Call target f arguments level) = at ∷ []
  offsets_at at Skip = at ∷ []
  offsets_at at (Return value) = at ∷ []
  offsets_at at Break = at ∷ []
  offsets_at at Continue = at ∷ []
  offsets_at at (If c y n) = at ∷ (offsets y ++ offsets n)
  offsets_at at (While c b s) = at ∷ (offsets b ++ offsets s)
  offsets_at at (Do b c) = offsets b ++ (at ∷ [])

-- the levels at the calls of a list's statements, and at those of one statement
abbrev mutual
  pub levels : UnitBlock → List ℕ
  levels End = []
  levels (Then' p at kind q rest) = levels_in kind ++ levels rest

  pub levels_in : UnitKind → List ℕ
  levels_in (Call target f arguments level) = level ∷ []
  levels_in (If c y n) = levels y ++ levels n
  levels_in (While c b s) = levels b ++ levels s
  levels_in (Do b c) = levels b
  levels_in (Assign x e) = []
  levels_in Skip = []
  levels_in (Return value) = []
  levels_in Break = []
  levels_in Continue = []

-- What follows has no part in the headline.

-- the same of a list of `UnitStmt`
abbrev pub statement_offsets : UnitStmt → List ℕ
statement_offsets s = offsets_at s.at s.kind

abbrev pub all_offsets : List UnitStmt → List ℕ
all_offsets all = flat_map statement_offsets all

abbrev pub statement_levels : UnitStmt → List ℕ
statement_levels s = levels_in s.kind

abbrev pub all_levels : List UnitStmt → List ℕ
all_levels all = flat_map statement_levels all
