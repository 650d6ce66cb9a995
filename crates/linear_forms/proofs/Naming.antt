-- What names only declared variables names only variables below a larger number.
use Rattle.std.proofs.Common.{ℕ, ◌≤◌, arith}
use Rattle.step_meaning.specs.declared.expression.Op2.{Op2}
use Rattle.step_meaning.specs.declared.expression.Op2.TheVariants.{Add, Sub, Mul, Less, LessEqual, Greater, GreaterEqual, Equal, NotEqual, And, Or}
use Rattle.step_meaning.specs.Syntax.{Expression, number, variable, free, range, truth, negative, negation, pair, divided}
use Rattle.step_meaning.specs.Naming.{NamesBelow}
use Rattle.step_meaning.specs.Valid.{IsNumber, IsTest, MakesNumber, MakesTest}

numbers_of : (op : Op2) (both : Type 0) → MakesNumber op both → both
numbers_of Add both h = h
numbers_of Sub both h = h
numbers_of Mul both h = h
numbers_of _ both h = absurd h

tests_of : (op : Op2) (numbers tests named : Type 0) → (numbers → named) → (tests → named) → MakesTest op numbers tests → named
tests_of Add numbers tests named f g h = absurd h
tests_of Sub numbers tests named f g h = absurd h
tests_of Mul numbers tests named f g h = absurd h
tests_of And numbers tests named f g h = g h
tests_of Or numbers tests named f g h = g h
tests_of Less numbers tests named f g h = f h
tests_of LessEqual numbers tests named f g h = f h
tests_of Greater numbers tests named f g h = f h
tests_of GreaterEqual numbers tests named f g h = f h
tests_of Equal numbers tests named f g h = f h
tests_of NotEqual numbers tests named f g h = f h

pub number_names : (vars places : ℕ) → vars ≤ places → (e : Expression) → IsNumber vars e → NamesBelow places e
number_names vars places few (number z) sort = tt
number_names vars places few (variable x) sort = omega arith
number_names vars places few free sort = tt
number_names vars places few (range lo hi) sort = tt
number_names vars places few (truth b) sort = absurd sort
number_names vars places few (negative e) sort = number_names vars places few e sort
number_names vars places few (negation c) sort = absurd sort
number_names vars places few (divided division e b) sort = number_names vars places few e sort.0
number_names vars places few (pair op l r) sort =
    let both = numbers_of op (IsNumber vars l × IsNumber vars r) sort in
    (number_names vars places few l both.0, number_names vars places few r both.1)

pub test_names : (vars places : ℕ) → vars ≤ places → (c : Expression) → IsTest vars c → NamesBelow places c
test_names vars places few (number z) sort = absurd sort
test_names vars places few (variable x) sort = absurd sort
test_names vars places few free sort = tt
test_names vars places few (range lo hi) sort = absurd sort
test_names vars places few (truth b) sort = tt
test_names vars places few (negative e) sort = absurd sort
test_names vars places few (divided division e b) sort = absurd sort
test_names vars places few (negation c) sort = test_names vars places few c sort
test_names vars places few (pair op l r) sort =
    tests_of op (IsNumber vars l × IsNumber vars r) (IsTest vars l × IsTest vars r) (NamesBelow places l × NamesBelow places r)
    (λ both. (number_names vars places few l both.0, number_names vars places few r both.1))
    (λ both. (test_names vars places few l both.0, test_names vars places few r both.1)) sort
