-- What is known while it is tested whether a program is a countdown program.
use Rattle.std.specs.Prelude.{◌≡◌, ℕ, ◌+◌, ◌*◌, ◌^◌, ◌<◌, ◌≤◌, pos, ◌+ℤ◌, ◌⊎◌, Option, None, Some, unsigned_abs}
use Rattle.linear_cons.specs.declared.affine.Affine.{Affine}
use Rattle.linear_cons.specs.declared.row.Row.{Row}
use Rattle.linear_cons.specs.Functions.{NumbersFit, coefficient, constant_of, difference_of}
use Rattle.step_meaning.specs.declared.count.Count.{Count}
use Rattle.step_meaning.specs.Syntax.{Expression, Statement, Statements}
use Rattle.step_meaning.specs.Counts.{before, before_statement, none}
use Rattle.step_meaning.specs.declared.countdown.Differences.{Differences}
use Rattle.step_meaning.specs.declared.expression.Op2.{Op2}
use Rattle.step_meaning.specs.AffineExpressions.{ComparisonFits, ExpressionFits, IsAffine, less, strictly_less}
use Rattle.step_meaning.specs.Countdown.{AsksByComparing, IsFirst, IsFirstCompared, Lacks, form_of, IsShort, IsCounting, AreCounting, added, change_by}
use Rattle.linear_cons.specs.Sizes.{total_size}

-- each step changes by at most 2^62
abbrev pub IsModerate : Count → Type 0
IsModerate c = unsigned_abs c.change ≤ c.most * 2 ^ 62

-- the one count and then the other
abbrev pub joined : Count → Count → Count
joined c d = record { most = c.most + d.most; change = c.change +ℤ d.change }

abbrev pub MayAssign : Affine → ℕ → Expression → Type 0
MayAssign e x v = (coefficient e x ≡ pos 0) ⊎ IsShort (added x v)

-- the count of the paths through the statements
abbrev pub count_of : Affine → Statements → Count
count_of e s = before (change_by e) s none

abbrev pub count_of_one : Affine → Statement → Count
count_of_one e s = before_statement (change_by e) s none

-- they may stand in a body that counts the function down, and each path takes fewer than 2^64 steps
abbrev pub AreCounted : Affine → Statements → Type 0
AreCounted e s = AreCounting e s × ((count_of e s).most < 2 ^ 64)

abbrev pub IsCounted : Affine → Statement → Type 0
IsCounted e s = IsCounting e s × ((count_of_one e s).most < 2 ^ 64)

-- the count of a turn through body and step, and that they may count the function down in fewer than 2^64 steps
abbrev pub turn_of : Affine → Statements → Statements → Count
turn_of e body step = before (change_by e) body (before (change_by e) step none)

abbrev pub TurnIsCounted : Affine → Statements → Statements → Type 0
TurnIsCounted e body step = AreCounting e body × AreCounting e step × ((turn_of e body step).most < 2 ^ 64)

-- an affine expression, whose numbers fit and whose factor keeps the product small
abbrev pub MayPrecede : ℕ → Expression → Type 0
MayPrecede p v = IsAffine v × ExpressionFits v × (p * (1 + total_size (form_of v)) ≤ 2 ^ 60)

-- the comparison is affine, and its numbers fit; and it asks for the row
abbrev pub FitsAsComparison : Expression → Expression → Type 0
FitsAsComparison a b = IsAffine a × IsAffine b × ComparisonFits a b

abbrev pub AsksAsComparison : Op2 → Expression → Expression → Row → Type 0
AsksAsComparison op a b row = IsAffine a × IsAffine b × ComparisonFits a b × AsksByComparing op a b row

-- the first row of a comparison with the property, or of a test; or none where it asks for none with it
abbrev pub FindsCompared : Option Row → (Row → Type 0) → Op2 → Expression → Expression → Type 0
FindsCompared (Some row) P op a b = IsAffine a × IsAffine b × ComparisonFits a b × IsFirstCompared P op a b row
FindsCompared None P op a b = (row : Row) → AsksAsComparison op a b row → ¬ P row

abbrev pub FindsFirst : Option Row → (Row → Type 0) → Expression → Type 0
FindsFirst (Some row) P test = IsFirst P test row
FindsFirst None P test = Lacks P test

-- the numbers of the difference, and of it less 1, fit
abbrev pub DifferencesFit : Affine → Affine → Type 0
DifferencesFit f g = NumbersFit (difference_of f g) × NumbersFit (difference_of (difference_of f g) (constant_of (pos 1)))

abbrev pub differences_of : Expression → Expression → Differences
differences_of a b = record {
  own = form_of (less a b);
  opposite = form_of (less b a);
  strict = form_of (strictly_less a b);
  strict_opposite = form_of (strictly_less b a);
}
