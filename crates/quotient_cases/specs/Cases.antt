-- The cases of a value that is made with a quotient or a remainder, by the sign or the size of what is divided, and the rows that they come down to.
use Rattle.std.specs.Prelude.{ℕ, nat_lt, ◌||◌, ◌&&◌, ℤ, pos, negsuc, ◌-ℤ◌, ◌*ℤ◌, int_lt, unsigned_abs, Bool, true, false, Option, None, Some, List, [], ◌∷◌, ◌++◌, length, map, if◌then◌else◌}
use Rattle.std.specs.List.{flat_map}
use Rattle.std.specs.Ordering.{int_eq}
use Rattle.step_meaning.specs.declared.expression.Op2.{Op2}
use Rattle.step_meaning.specs.declared.expression.Op2.TheVariants.{Add, Sub, Mul, Less, LessEqual, Greater, GreaterEqual, Equal, NotEqual}
use Rattle.step_meaning.specs.declared.expression.Op2.TheVariants.{And, Or}
use Rattle.step_meaning.specs.Syntax.{Expression, number, variable, range, negative, pair, free, truth, negation, divided, quotient, remainder}
use Rattle.linear_cons.specs.declared.affine.Affine.{Affine}
use Rattle.linear_cons.specs.declared.bounds.Bounds.{Bounds}
use Rattle.linear_cons.specs.declared.bounds.Linear.{Linear}
use Rattle.linear_cons.specs.declared.row.Row.{Row}
use Rattle.linear_cons.specs.Functions.{constant_of, variable_at}
use Rattle.linear_cons.specs.Ends.{exact_end, fits}
use Rattle.linear_forms.specs.Linearising.{is_number, is_same, linear_of}
use Rattle.linear_forms.specs.Spreading.{with_constraint}
use Rattle.quotient_cases.specs.CaseEnds.{added, lessened, raised, scaled}
use Rattle.quotient_cases.specs.declared.case.Case.{Case}

-- a quotient or a remainder stands in a number expression
abbrev pub divides : Expression → Bool
divides (divided division e b) = true
divides (negative e) = divides e
divides (pair op l r) = divides l || divides r
divides (number z) = false
divides (variable x) = false
divides (range lo hi) = false
divides free = false
divides (truth b) = false
divides (negation c) = false

-- where the rows are met the value is at least the one function and at most the other
abbrev pub plainly : List Row → Option Affine → Option Affine → Case
plainly rows least most = record { rows = rows; times = pos 1; least = least; most = most }

-- it is one of a linear form
abbrev pub of_form : Linear → List Row → Case
of_form form rows = plainly rows (raised form.lo (Some form.affine)) (raised form.hi (Some form.affine))

-- it lies there times two numbers; nothing is known where their product doesn't fit
abbrev pub timed : List Row → ℤ → ℤ → Option Affine → Option Affine → Case
timed rows m n least most =
    if fits (m *ℤ n) then record { rows = rows; times = m *ℤ n; least = least; most = most } else plainly rows None None

-- a case where the rows are met, if they aren't dropped
abbrev pub where_kept : {A : Type 0} → Option (List Row) → (List Row → A) → List A
where_kept None made = []
where_kept (Some rows) made = made rows ∷ []

-- the value times a number: a negative one exchanges the ends
abbrev pub with_factor : List Row → Case → ℤ → Case
with_factor rows case factor =
    if int_lt factor (pos 0) then record { rows = rows; times = case.times; least = scaled factor case.most; most = scaled factor case.least }
    else record { rows = rows; times = case.times; least = scaled factor case.least; most = scaled factor case.most }

abbrev pub multiple : ℤ → Case → Case
multiple factor case = with_factor case.rows case factor

-- the sum of two values
abbrev pub sum : Case → Case → Case
sum x y =
    timed (x.rows ++ y.rows) x.times y.times (added (scaled y.times x.least) (scaled x.times y.least))
    (added (scaled y.times x.most) (scaled x.times y.most))

abbrev pub sums : List Case → List Case → List Case
sums xs ys = flat_map (λ (x : Case). map (sum x) ys) xs

-- The quotient of a natural by the divisor's size, times that size, is at most the natural and is less by less than the size; of a negative number
-- it is at least that. The quotient by a negative divisor is the negative of this one.
abbrev pub with_sign : ℤ → Case → Case
with_sign b case =
    if int_lt b (pos 0) then record { rows = case.rows; times = case.times; least = scaled (negsuc 0) case.most; most = scaled (negsuc 0) case.least }
    else case

abbrev pub natural_quotient : Case → ℤ → List Row → Case
natural_quotient case b rows =
    with_sign b
    (timed rows case.times (pos (unsigned_abs b)) (raised (exact_end (case.times *ℤ (pos 1 -ℤ pos (unsigned_abs b)))) case.least) case.most)

abbrev pub negative_quotient : Case → ℤ → List Row → Case
negative_quotient case b rows =
    with_sign b
    (timed rows case.times (pos (unsigned_abs b)) case.least (raised (exact_end (case.times *ℤ (pos (unsigned_abs b) -ℤ pos 1))) case.most))

-- what is divided is at least 0, or at most -1
abbrev pub where_natural : Case → Option (List Row)
where_natural case = with_constraint case.most (Some case.rows)

abbrev pub where_negative : Case → Option (List Row)
where_negative case = with_constraint (raised (exact_end (case.times *ℤ negsuc 0)) (scaled (negsuc 0) case.least)) (Some case.rows)

abbrev pub quotients : ℤ → Case → List Case
quotients b case =
    where_kept (where_natural case) (natural_quotient case b) ++ where_kept (where_negative case) (negative_quotient case b)

-- the value is that of a function
abbrev pub same_ends : ℤ → Option Affine → Option Affine → Bool
same_ends m (Some a) (Some b) = int_eq m (pos 1) && is_same a b
same_ends m (Some a) None = false
same_ends m None b = false

abbrev pub is_exact : Case → Bool
is_exact case = same_ends case.times case.least case.most

-- What is left of the value of a function: where that is smaller in size than the divisor it stays as it is, and where it is at least as large a
-- natural is left of a natural and the negative of one of a negative number.
abbrev pub number_end : ℤ → Option Affine
number_end z = Some (constant_of z)

abbrev pub where_large : ℤ → Case → Option (List Row)
where_large b case = with_constraint (raised (Some (pos 0 -ℤ pos (unsigned_abs b))) case.least) (Some case.rows)

abbrev pub where_small : ℤ → Case → Option (List Row)
where_small b case =
    with_constraint (raised (Some (pos (unsigned_abs b) -ℤ pos 1)) (scaled (negsuc 0) case.most))
    (with_constraint (raised (Some (pos (unsigned_abs b) -ℤ pos 1)) case.least) (Some case.rows))

abbrev pub where_low : ℤ → Case → Option (List Row)
where_low b case = with_constraint (raised (Some (pos 0 -ℤ pos (unsigned_abs b))) (scaled (negsuc 0) case.most)) (Some case.rows)

abbrev pub exact_remainders : ℤ → Case → List Case
exact_remainders b case =
    where_kept (where_large b case) (λ rows. plainly rows (number_end (pos 0)) (number_end (pos (unsigned_abs b) -ℤ pos 1)))
    ++ (where_kept (where_small b case) (λ rows. plainly rows case.least case.most)
    ++ where_kept (where_low b case) (λ rows. plainly rows (number_end (pos 1 -ℤ pos (unsigned_abs b))) (number_end (pos 0))))

-- of any other value no more is known than the form of the whole expression
abbrev pub remainders : ℤ → Linear → Case → List Case
remainders b whole case = if is_exact case then exact_remainders b case else of_form whole case.rows ∷ []

-- sums, differences and products with a number take each case with each
abbrev pub products : Linear → Linear → Linear → List Case → List Case → List Case
products whole x y xs ys =
    if is_number x then map (multiple x.affine.constant) ys
    else (if is_number y then map (multiple y.affine.constant) xs else of_form whole [] ∷ [])

abbrev pub paired : Op2 → Linear → Linear → Linear → List Case → List Case → List Case
paired Add whole x y xs ys = sums xs ys
paired Sub whole x y xs ys = sums xs (map (multiple (negsuc 0)) ys)
paired Mul whole x y xs ys = products whole x y xs ys
paired Less whole x y xs ys = of_form whole [] ∷ []
paired LessEqual whole x y xs ys = of_form whole [] ∷ []
paired Greater whole x y xs ys = of_form whole [] ∷ []
paired GreaterEqual whole x y xs ys = of_form whole [] ∷ []
paired Equal whole x y xs ys = of_form whole [] ∷ []
paired NotEqual whole x y xs ys = of_form whole [] ∷ []
paired And whole x y xs ys = of_form whole [] ∷ []
paired Or whole x y xs ys = of_form whole [] ∷ []

-- the cases, or the form for the only one where they are more than 16
abbrev pub few : Linear → List Case → List Case
few whole cases = if nat_lt 16 (length cases) then of_form whole [] ∷ [] else cases

abbrev pub cases_of : Bounds → Expression → List Case
cases_of bounds (negative e) = few (linear_of bounds (negative e)) (map (multiple (negsuc 0)) (cases_of bounds e))
cases_of bounds (pair op l r) =
    few (linear_of bounds (pair op l r))
    (paired op (linear_of bounds (pair op l r)) (linear_of bounds l) (linear_of bounds r) (cases_of bounds l) (cases_of bounds r))
cases_of bounds (divided quotient e b) = few (linear_of bounds (divided quotient e b)) (flat_map (quotients b) (cases_of bounds e))
cases_of bounds (divided remainder e b) =
    few (linear_of bounds (divided remainder e b)) (flat_map (remainders b (linear_of bounds (divided remainder e b))) (cases_of bounds e))
cases_of bounds (number z) = of_form (linear_of bounds (number z)) [] ∷ []
cases_of bounds (variable x) = of_form (linear_of bounds (variable x)) [] ∷ []
cases_of bounds (range lo hi) = of_form (linear_of bounds (range lo hi)) [] ∷ []
cases_of bounds free = of_form (linear_of bounds free) [] ∷ []
cases_of bounds (truth b) = of_form (linear_of bounds (truth b)) [] ∷ []
cases_of bounds (negation c) = of_form (linear_of bounds (negation c)) [] ∷ []

-- the rows of a case, where the value stands at the place
abbrev pub rows_at : ℕ → Case → Option (List Row)
rows_at place case =
    with_constraint (lessened (scaled case.times (Some (variable_at place))) case.least)
    (with_constraint (lessened case.most (scaled case.times (Some (variable_at place)))) (Some case.rows))

abbrev pub rows_kept : ℕ → Case → List (List Row)
rows_kept place case = where_kept (rows_at place case) (λ rows. rows)

-- The conjunctions of rows that the value of an expression comes down to, where it stands at the place. Of an expression without a quotient or a
-- remainder that is one without rows.
abbrev pub value_rows : Bounds → ℕ → Expression → List (List Row)
value_rows bounds place e = if divides e then flat_map (rows_kept place) (cases_of bounds e) else [] ∷ []
