-- The offsets of the statements that a unit becomes, in the order of their labels. A statement that is made for a call has the offset of the called name:
-- those that give parameters and variables their numbers, and the one for the `return`. Every other keeps its own.
use Rattle.std.specs.Prelude.{ℕ, zero, suc, nat_eq, if◌then◌else◌, Option, None, Some, List, [], ◌∷◌, ◌++◌, length, replicate, slice_get}
use Rattle.call_meaning.specs.declared.statement.UnitBlock.{UnitBlock, Then'}
use Rattle.call_meaning.specs.declared.statement.UnitBlock.TheVariants.{End}
use Rattle.call_meaning.specs.declared.statement.UnitKind.{UnitKind}
use Rattle.call_meaning.specs.declared.statement.UnitKind.TheVariants.{Assign, Call, Skip, Return, Break, Continue, If, While, Do}
use Rattle.call_meaning.specs.declared.statement.Func.{Func}
use Rattle.call_meaning.specs.Tables.{places_from}

-- the offsets for a call, by the number of its function and its own offset
abbrev pub Calls : Type 0
Calls = ℕ → ℕ → List ℕ

-- Those for statements, where `back` says where a `return` of this offset stands. The offset of a `do` is behind those of its body, as its label is.
abbrev mutual
  pub placed : Calls → (ℕ → ℕ) → UnitBlock → List ℕ
  placed calls back End = []
  placed calls back (Then' p at kind q rest) = placed_at calls back at kind ++ placed calls back rest

  pub placed_at : Calls → (ℕ → ℕ) → ℕ → UnitKind → List ℕ
  placed_at calls back at (Call target f arguments level) = calls f at
  placed_at calls back at (Return value) = back at ∷ []
  placed_at calls back at (Assign x e) = at ∷ []
  placed_at calls back at Skip = at ∷ []
  placed_at calls back at Break = at ∷ []
  placed_at calls back at Continue = at ∷ []
  placed_at calls back at (If c y n) = at ∷ (placed calls back y ++ placed calls back n)
  placed_at calls back at (While c b s) = at ∷ (placed calls back b ++ placed calls back s)
  placed_at calls back at (Do b c) = placed calls back b ++ at ∷ []

-- those for a call of a function
abbrev pub placed_call : Calls → Option Func → ℕ → List ℕ
placed_call calls None at = []
placed_call calls (Some f) at = replicate f.params at ++ (replicate (length (places_from 0 f.free)) at ++ placed calls (λ own. at) f.body)

-- those for calls of the functions below this number
abbrev pub placed_calls : List Func → ℕ → Calls
placed_calls funcs zero f = λ at. []
placed_calls funcs (suc n) f = if nat_eq f n then placed_call (placed_calls funcs n) (slice_get funcs n) else placed_calls funcs n f

-- those of the whole program
abbrev pub placed_unit : List Func → UnitBlock → List ℕ
placed_unit funcs body = placed (placed_calls funcs (length funcs)) (λ own. own) body
