-- The limit on levels of nesting. The levels of a function's body with the bodies in place of its calls are the greatest of its own and, at each call, of
-- those open there and those of the called function together.
use Rattle.std.specs.Prelude.{ℕ, ◌+◌, nat_lt, max, if◌then◌else◌, Option, None, Some, List, [], ◌∷◌, ◌++◌, slice_index_or}
use Rattle.call_meaning.specs.declared.statement.UnitBlock.{UnitBlock, Then'}
use Rattle.call_meaning.specs.declared.statement.UnitBlock.TheVariants.{End}
use Rattle.call_meaning.specs.declared.statement.UnitKind.{UnitKind}
use Rattle.call_meaning.specs.declared.statement.UnitKind.TheVariants.{Assign, Call, Skip, Return, Break, Continue, If, While, Do}
use Rattle.call_meaning.specs.declared.statement.Func.{Func}

-- a call: where the called name stands, the number of its function, and how many levels are open there
pub record Called : Type 0 where
  pub at : ℕ
  pub function : ℕ
  pub level : ℕ

-- the calls among statements, in the order of the text
abbrev mutual
  pub calls_in : UnitBlock → List Called
  calls_in End = []
  calls_in (Then' p at kind q rest) = calls_at at kind ++ calls_in rest

  pub calls_at : ℕ → UnitKind → List Called
  calls_at at (Call target f arguments level) = record { at = at; function = f; level = level } ∷ []
  calls_at at (Assign x e) = []
  calls_at at Skip = []
  calls_at at (Return value) = []
  calls_at at Break = []
  calls_at at Continue = []
  calls_at at (If c y n) = calls_in y ++ calls_in n
  calls_at at (While c b s) = calls_in b ++ calls_in s
  calls_at at (Do b c) = calls_in b

-- the greatest level that is open in the body that a call becomes, where `levels` are those of the functions before
abbrev pub reach : List ℕ → Called → ℕ
reach levels c = c.level + slice_index_or levels c.function 0

-- the greatest level open in a body, of which `own` are open at the least
abbrev pub deepest : List ℕ → ℕ → List Called → ℕ
deepest levels own [] = own
deepest levels own (c ∷ more) = deepest levels (max own (reach levels c)) more

-- where the first of these calls stands whose body opens level 65
abbrev pub first_deep : List ℕ → List Called → Option ℕ
first_deep levels [] = None
first_deep levels (c ∷ more) = if nat_lt 64 (reach levels c) then Some c.at else first_deep levels more

abbrev pub or_else : Option ℕ → Option ℕ → Option ℕ
or_else (Some at) other = Some at
or_else None other = other

-- the same of all calls in the text: of functions, where `levels` are those of the functions before them, and then of `main`
abbrev pub deep_call : List ℕ → List Func → UnitBlock → Option ℕ
deep_call levels [] body = first_deep levels (calls_in body)
deep_call levels (f ∷ more) body =
    let calls = calls_in f.body in or_else (first_deep levels calls) (deep_call (levels ++ deepest levels f.levels calls ∷ []) more body)
