-- The names of a program are names of variables, and no two of them are equal.
use Rattle.std.proofs.Common.{◌≡◌, ◌≢◌, ℕ, ◌+◌, ◌||◌, ◌==◌, List, [], ◌∷◌, ◌++◌, length, IsTrue, All, AllPairs, sym, subst, refl, arith}
use Rattle.std.specs.Char.{is_ascii_digit}
use Rattle.std.proofs.lemmas.Bool.{or_left}
use Rattle.std.proofs.lemmas.List.{get_or_append_left, length-append}
use Rattle.std.proofs.lemmas.List.Elements.{All-nil, All-cons, All-head, All-tail, All-append, All-weaker}
use Rattle.source_lex.specs.Bytes.{is_letter, is_digit, is_name_byte}
use Rattle.source_lex.specs.Spellings.{SpellsName}
use Rattle.call_meaning.specs.declared.statement.Func.{Func}
use Rattle.call_meaning.specs.Tables.{all_qualified, qualified}
use Rattle.source_parse.specs.Laws.{NamesOfUnitsAreNames}
use Rattle.line_text.specs.Names.{AreNames, IsName, begins_name}
use Rattle.function_top.specs.ProgramText.{OwnNamesAreNames, ProgramsAreNamed}

letter_begins : (byte : ℕ) → IsTrue (is_letter byte) → IsTrue (begins_name byte)
unfolding is_letter
letter_begins byte h = h

name_byte : (byte : ℕ) → IsTrue (is_name_byte byte) → IsTrue (begins_name byte || is_ascii_digit byte || byte == 46)
unfolding is_letter is_digit is_name_byte
name_byte byte h = or_left _ _ h

spelled_name : (name : List ℕ) → SpellsName name → IsName name
spelled_name name is = record {
  nonempty = is.nonempty;
  begins = letter_begins _ is.starts;
  each = All-weaker (λ byte. IsTrue (is_name_byte byte)) (λ byte. IsTrue (begins_name byte || is_ascii_digit byte || byte == 46)) name_byte name is.each;
}

spelled_names : (names : List (List ℕ)) → All SpellsName names → All IsName names
spelled_names names all = All-weaker SpellsName IsName spelled_name names all

-- a function's name, a dot and a variable's name
qualified_name : (function name : List ℕ) → SpellsName function → SpellsName name → IsName (function ++ 46 ∷ name)
qualified_name [] name is other = absurd (let none = is.nonempty in omega (arith, none))
qualified_name (c ∷ rest) name is other =
    let own = spelled_name (c ∷ rest) is in
    let behind = spelled_name name other in
    record {
      nonempty = omega arith;
      begins = own.begins;
      each = All-append (λ byte. IsTrue (begins_name byte || is_ascii_digit byte || byte == 46)) (c ∷ rest) (46 ∷ name) own.each
          (All-cons (λ byte. IsTrue (begins_name byte || is_ascii_digit byte || byte == 46)) 46 name refl behind.each);
    }

qualified_names : (function : List ℕ) (names : List (List ℕ)) → SpellsName function → All SpellsName names → All IsName (qualified function names)
qualified_names function [] is all = All-nil IsName
qualified_names function (name ∷ more) is all =
    All-cons IsName (function ++ 46 ∷ name) (qualified function more) (qualified_name function name is (All-head SpellsName name more all))
    (qualified_names function more is (All-tail SpellsName name more all))

all_qualified_names : (func_names : List (List ℕ)) (funcs : List Func) → All SpellsName func_names → All (λ f. All SpellsName f.names) funcs
    → All IsName (all_qualified func_names funcs)
all_qualified_names [] funcs each own = All-nil IsName
all_qualified_names (function ∷ more) [] each own = All-nil IsName
all_qualified_names (function ∷ more) (f ∷ rest) each own =
    All-append IsName (qualified function f.names) (all_qualified more rest)
    (qualified_names function f.names (All-head SpellsName function more each) (All-head (λ f. All SpellsName f.names) f rest own))
    (all_qualified_names more rest (All-tail SpellsName function more each) (All-tail (λ f. All SpellsName f.names) f rest own))

-- the names of `main` stand before the others
first_pairs : (xs ys : List (List ℕ)) → AllPairs (λ a b. a ≢ b) (xs ++ ys) → AllPairs (λ a b. a ≢ b) xs
first_pairs xs ys h i j d lt within =
    let longer : length (xs ++ ys) ≡ length xs + length ys = length-append xs ys in
    let first = get_or_append_left xs ys d i (omega (arith, lt, within)) in
    let second = get_or_append_left xs ys d j within in
    rw (first, second) at (h i j d lt (omega (arith, longer, within)))

pub programs_named : NamesOfUnitsAreNames → ProgramsAreNamed
programs_named spelled text names body is =
    let unit = is.unit in
    let own = spelled text unit is.derived in
    subst AreNames (sym is.names_are) record {
      each = All-append IsName unit.names (all_qualified unit.func_names unit.funcs) (spelled_names unit.names own.main)
          (all_qualified_names unit.func_names unit.funcs own.functions own.variables);
      distinct = unit.valid.distinct;
    }

pub own_named : NamesOfUnitsAreNames → OwnNamesAreNames
own_named spelled text own is =
    let unit = is.unit in
    subst AreNames (sym is.names_are) record {
      each = spelled_names unit.names (spelled text unit is.derived).main;
      distinct = first_pairs unit.names (all_qualified unit.func_names unit.funcs) unit.valid.distinct;
    }
