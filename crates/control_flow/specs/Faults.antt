-- Why a program has no graph.
use Rattle.std.specs.Prelude.{◌≡◌, ℕ, ◌<◌, ◌||◌, Bool, true, false, List, [], ◌∷◌, ◌++◌, Option, None, Some, if◌then◌else◌, nat_lt, min, slice_get, ⊤}
use Rattle.step_meaning.specs.declared.statement.Block.{Block, Then'}
use Rattle.step_meaning.specs.declared.statement.Block.TheVariants.{End}
use Rattle.step_meaning.specs.declared.statement.StmtKind.{StmtKind}
use Rattle.step_meaning.specs.declared.statement.StmtKind.TheVariants.{Assign, Skip, Return, Break, Continue, If, While, Do}
use Rattle.step_meaning.specs.Syntax.{Expression, expression, statements, size_of}
use Rattle.linear_forms.specs.Counting.{conjunctions}
use Rattle.control_flow.specs.declared.fault.FlowFault.{FlowFault}
use Rattle.control_flow.specs.declared.fault.FlowFault.TheVariants.{Labels, Conjunctions, Memory}
use Rattle.step_meaning.specs.Offsets.{offsets}

-- the test, or its negation, spreads to more than 64 conjunctions
abbrev pub is_wide : Expression → Bool
is_wide c = nat_lt 64 (conjunctions c true) || nat_lt 64 (conjunctions c false)

abbrev pub offset_if_wide : ℕ → Expression → List ℕ
offset_if_wide at c = if is_wide c then at ∷ [] else []

-- the offsets of the statements with such a test
abbrev mutual
  pub wide_offsets : Block → List ℕ
  wide_offsets End = []
  wide_offsets (Then' p at kind q rest) = wide_offsets_of at kind ++ wide_offsets rest

  pub wide_offsets_of : ℕ → StmtKind → List ℕ
  wide_offsets_of at (Assign x e) = []
  wide_offsets_of at Skip = []
  wide_offsets_of at Return = []
  wide_offsets_of at Break = []
  wide_offsets_of at Continue = []
  wide_offsets_of at (If c yes_part no_part) = offset_if_wide at (expression c) ++ (wide_offsets yes_part ++ wide_offsets no_part)
  wide_offsets_of at (While c body step) = offset_if_wide at (expression c) ++ (wide_offsets body ++ wide_offsets step)
  wide_offsets_of at (Do body c) = wide_offsets body ++ offset_if_wide at (expression c)

-- the least of a offset, if there is one, and of offsets
abbrev pub lesser : Option ℕ → ℕ → ℕ
lesser None at = at
lesser (Some least) at = min least at

abbrev pub least_from : Option ℕ → List ℕ → Option ℕ
least_from least [] = least
least_from least (at ∷ more) = least_from (Some (lesser least at)) more

-- The fault is one of the body: more than 1,024 labels with label 0, at the offset of the statement that has the 1,024th besides it; or
-- else a test that is too wide, at the least offset of such a statement. The count is above the limit.
abbrev pub IsFlowFault : FlowFault → Block → Type 0
IsFlowFault (Labels at count) body = (slice_get (offsets body) 1023 ≡ Some at) × (1024 < count)
IsFlowFault (Conjunctions at count) body = (size_of (statements body) < 1024) × (least_from None (wide_offsets body) ≡ Some at) × (64 < count)
IsFlowFault (Memory error) body = ⊤
