-- What a fact about a loop hints.
use Rattle.std.specs.Prelude.{◌≡◌, ℕ, ◌==◌, pos, Bool, true, false, ◌∷◌, Option, None, Some, if◌then◌else◌}
use Rattle.linear_cons.specs.declared.row.Row.{Row}
use Rattle.linear_cons.specs.declared.row.RowKind.{RowKind}
use Rattle.linear_cons.specs.declared.row.RowKind.TheVariants.{Always, Never, Row as Kept}
use Rattle.linear_cons.specs.Functions.{NumbersFit, constant_of, sum_of}
use Rattle.linear_cons.specs.Rows.{row_kind_of}
use Rattle.advice.specs.declared.fact.FactKind.{FactKind}
use Rattle.advice.specs.declared.fact.FactKind.TheVariants.{Guard, Range}
use Rattle.advice.specs.declared.fact.Hint.{Hint}
use Rattle.advice.specs.declared.fact.LoopFact.{LoopFact}
use Rattle.advice.specs.declared.memory.Noted.{Noted}

abbrev pub same_kind : FactKind → FactKind → Bool
same_kind Guard Guard = true
same_kind Range Range = true
same_kind _ _ = false

-- what is remembered once a fact was observed in a turn: it, if it is of the kind
abbrev pub noted : FactKind → ℕ → LoopFact → Option Noted → Option Noted
noted kind turn fact last = if same_kind kind fact.kind then Some (record { turn = turn; fact = fact }) else last

-- the fact remembered, where it was observed in the turn
abbrev pub of_turn : ℕ → Option Noted → Option LoopFact
of_turn turn None = None
of_turn turn (Some last) = if last.turn == turn then Some last.fact else None

-- the row of a constraint; one of a constant has none
abbrev pub row_in : RowKind → Option Row
row_in Always = None
row_in Never = None
row_in (Kept row) = Some row

-- The hint of a fact: where its measure is at least 0, as far as that is a row, and its rows are met, its loop makes at most one turn more
-- than the measure has as value. There is none exactly where that function has a number outside 128 bits, or there is no fact.
pub record HintsAt (fact : LoopFact) (hint : Hint) : Type 0 where
  pub label : hint.label ≡ fact.label
  pub split : hint.split ≡ row_in (row_kind_of fact.measure) ∷ fact.falls
  pub turns : hint.turns ≡ sum_of fact.measure (constant_of (pos 1))

abbrev pub IsHintOf : Option LoopFact → Option Hint → Type 0
IsHintOf None hint = hint ≡ None
IsHintOf (Some fact) None = ¬ NumbersFit (sum_of fact.measure (constant_of (pos 1)))
IsHintOf (Some fact) (Some hint) = HintsAt fact hint
