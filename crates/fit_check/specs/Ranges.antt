-- Range rows: what a store has to meet so that the numbers of an expression are of 32 bits there.
use Rattle.std.specs.Prelude.{ℕ, zero, suc, ℤ, pos, negsuc, Bool, true, false, Option, None, Some, List, [], ◌∷◌, ◌++◌, All, if◌then◌else◌, ⊤}
use Rattle.std.specs.Ordering.{int_eq}
use Rattle.linear_cons.specs.declared.affine.Affine.{Affine}
use Rattle.linear_cons.specs.declared.bounds.Bounds.{Bounds}
use Rattle.linear_cons.specs.declared.bounds.Linear.{Linear}
use Rattle.linear_cons.specs.declared.row.RowKind.{RowKind}
use Rattle.linear_cons.specs.declared.row.RowKind.TheVariants.{Always, Never, Row as Kept}
use Rattle.linear_cons.specs.Functions.{complement_of, constant_of, difference_of, sum_of, variable_at}
use Rattle.linear_cons.specs.Ends.{exactly}
use Rattle.linear_cons.specs.Rows.{MeetsKind, row_kind_of}
use Rattle.linear_forms.specs.Linearising.{linear_of, numbers_fit}
use Rattle.linear_forms.specs.Spreading.{fitting}
use Rattle.step_meaning.specs.Syntax.{Expression, number, variable, free, range, divided, truth, negative, negation, pair}
use Rattle.step_meaning.specs.Outcome.{Store}
use Rattle.control_flow.specs.Labels.{Action, ends, assigns, passes, tests}
use Rattle.decision_tree.specs.declared.affine_rank.AffineRank.{AffineRank}
use Rattle.decision_tree.specs.declared.reason.Why.TheVariants.{Atom}
use Rattle.decision_tree.specs.Plans.{Plan, bottom, branch, leaf}
use Rattle.int_fit.specs.Narrowing.{joins_tests}

-- a number as it is written
abbrev pub is_literal : Expression → Bool
is_literal (number z) = true
is_literal (variable x) = false
is_literal free = false
is_literal (range lo hi) = false
is_literal (divided division e b) = false
is_literal (truth b) = false
is_literal (negative e) = false
is_literal (negation c) = false
is_literal (pair op l r) = false

-- The number expressions in a number expression of which it is asked that they stay in range, operands before their operator and left first. A literal below a sign isn't asked for by itself. Of a division it
-- is asked what is divided, and by -1 its negation: every other quotient is no larger, and what is left neither.
abbrev pub numbers_in : Expression → List Expression
numbers_in (number z) = number z ∷ []
numbers_in (variable x) = variable x ∷ []
numbers_in free = free ∷ []
numbers_in (range lo hi) = range lo hi ∷ []
numbers_in (divided division e b) = numbers_in e ++ (if int_eq b (negsuc 0) then negative e ∷ [] else [])
numbers_in (truth b) = []
numbers_in (negative e) = (if is_literal e then [] else numbers_in e) ++ negative e ∷ []
numbers_in (negation c) = []
numbers_in (pair op l r) = numbers_in l ++ (numbers_in r ++ pair op l r ∷ [])

-- those in a test
abbrev pub numbers_in_test : Expression → List Expression
numbers_in_test (number z) = []
numbers_in_test (variable x) = []
numbers_in_test free = []
numbers_in_test (range lo hi) = []
numbers_in_test (divided division e b) = []
numbers_in_test (truth b) = []
numbers_in_test (negative e) = []
numbers_in_test (negation c) = numbers_in_test c
numbers_in_test (pair op l r) =
    if joins_tests op then numbers_in_test l ++ numbers_in_test r else numbers_in l ++ numbers_in r

-- those of what is done at a label
abbrev pub numbers_at : Action → List Expression
numbers_at ends = []
numbers_at (assigns x e next) = numbers_in e
numbers_at (passes next) = []
numbers_at (tests head c then_to else_to) = numbers_in_test c

-- a row is of use where its complement fits
abbrev pub with_complement : RowKind → RowKind
with_complement Always = Always
with_complement Never = Never
with_complement (Kept row) = if numbers_fit (complement_of row.affine) then Kept row else Never

-- the row of a function that has to be at least 0; where there is none, since an end isn't known or a number doesn't fit, it is never met
abbrev pub kind_of : Option Affine → RowKind
kind_of None = Never
kind_of (Some a) = with_complement (row_kind_of a)

-- the function with a number added, and what is left of a number less the function, where their numbers fit
abbrev pub raised : Option Affine → Option ℤ → Option Affine
raised None e = None
raised (Some a) None = None
raised (Some a) (Some e) = fitting (sum_of a (constant_of e))

abbrev pub left_of : ℤ → Option Affine → Option Affine
left_of z None = None
left_of z (Some a) = fitting (difference_of (constant_of z) a)

-- no value of the form is below the least number of 32 bits; none is above the greatest
abbrev pub lower_row : Linear → RowKind
lower_row x = kind_of (raised (raised (Some x.affine) x.lo) (Some (pos 2147483648)))

abbrev pub upper_row : Linear → RowKind
upper_row x = kind_of (left_of (pos 2147483647) (raised (Some x.affine) x.hi))

-- the store meets both
abbrev pub StaysIn : Store → Linear → Type 0
StaysIn store x = MeetsKind store (lower_row x) × MeetsKind store (upper_row x)

-- it does so for the forms of all number expressions of what is done there, over the bounds
abbrev pub NumbersStay : Bounds → Action → Store → Type 0
NumbersStay bounds action store = All (λ e. StaysIn store (linear_of bounds e)) (numbers_at action)

-- the kinds of a form, the lower first; those of the forms of each number expression in a number expression, and in a test
abbrev pub own_rows : Linear → List RowKind
own_rows x = lower_row x ∷ upper_row x ∷ []

abbrev pub rows_in : Bounds → Expression → List RowKind
rows_in bounds (number z) = own_rows (linear_of bounds (number z))
rows_in bounds (variable x) = own_rows (linear_of bounds (variable x))
rows_in bounds free = own_rows (linear_of bounds free)
rows_in bounds (range lo hi) = own_rows (linear_of bounds (range lo hi))
rows_in bounds (divided division e b) = rows_in bounds e ++ (if int_eq b (negsuc 0) then own_rows (linear_of bounds (negative e)) else [])
rows_in bounds (truth b) = []
rows_in bounds (negative e) = (if is_literal e then [] else rows_in bounds e) ++ own_rows (linear_of bounds (negative e))
rows_in bounds (negation c) = []
rows_in bounds (pair op l r) = rows_in bounds l ++ (rows_in bounds r ++ own_rows (linear_of bounds (pair op l r)))

abbrev pub rows_in_test : Bounds → Expression → List RowKind
rows_in_test bounds (number z) = []
rows_in_test bounds (variable x) = []
rows_in_test bounds free = []
rows_in_test bounds (range lo hi) = []
rows_in_test bounds (divided division e b) = []
rows_in_test bounds (truth b) = []
rows_in_test bounds (negative e) = []
rows_in_test bounds (negation c) = rows_in_test bounds c
rows_in_test bounds (pair op l r) =
    if joins_tests op then rows_in_test bounds l ++ rows_in_test bounds r else rows_in bounds l ++ rows_in bounds r

-- the store meets each
abbrev pub MeetsKinds : Store → List RowKind → Type 0
MeetsKinds store [] = ⊤
MeetsKinds store (kind ∷ more) = MeetsKind store kind × MeetsKinds store more

-- the tree that asks the rows in their order, with the end behind the last: where one isn't met nothing is defined
abbrev pub nested : List RowKind → Plan AffineRank → Plan AffineRank
nested [] end = end
nested (Always ∷ more) end = nested more end
nested (Never ∷ more) end = bottom
nested (Kept row ∷ more) end = branch row (nested more end) bottom

-- the kinds of the first variables, and those of what is done at a label
unfoldable pub variable_rows : ℕ → List RowKind
variable_rows zero = []
variable_rows (suc n) = variable_rows n ++ own_rows (exactly (variable_at n))

abbrev pub rows_at : Bounds → Action → List RowKind
rows_at bounds ends = []
rows_at bounds (assigns x e next) = rows_in bounds e
rows_at bounds (passes next) = []
rows_at bounds (tests head c then_to else_to) = rows_in_test bounds c

-- the leaf behind all rows
abbrev pub whole : Plan AffineRank
whole = leaf Atom (record { value = constant_of (pos 0) })
