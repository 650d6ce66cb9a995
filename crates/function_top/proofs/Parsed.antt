-- A text is at most one program, since it is at most one unit.
use Rattle.std.proofs.Common.{◌≡◌, ◌∙◌, ℕ, zero, suc, false, ◌+◌, ◌≤◌, List, [], ◌∷◌, ◌++◌, length, map, refl, sym, ap, ap₂, arith}
use Rattle.std.proofs.lemmas.List.{length-append, length-map}
use Rattle.std.proofs.Math.Path.{fun_ext}
use Rattle.call_meaning.specs.Units.{Commands, Routine}
use Rattle.call_meaning.specs.declared.unit.Unit.{Unit}
use Rattle.call_meaning.specs.declared.statement.Func.{Func}
use Rattle.call_meaning.specs.Tables.{all_qualified, gives_value, main_routine, places_from, qualified, table_from, table_of, whole_names}
use Rattle.call_inline.specs.Inlined.{inlined_body}
use Rattle.elaboration.specs.Elaborates.{Made, made_of}
use Rattle.source_parse.specs.Laws.{AreSameUnits, UnitsAreUnique, UnitsHaveNoFault}
use Rattle.function_top.specs.ProgramText.{HasOwnNames, OwnNamesAreFewer, OwnNamesAreUnique, ProgramsHaveNoFault, TextsAreUnique}

-- ---- what is said of functions alone decides the names and the table

names_same : (functions : List (List ℕ)) (one other : List Func) → map made_of one ≡ map made_of other → all_qualified functions one ≡ all_qualified functions other
names_same [] one other same = refl
names_same (function ∷ more) [] [] same = refl
names_same (function ∷ more) [] (g ∷ others) same = absurd (cc)
names_same (function ∷ more) (f ∷ rest) [] same = absurd (cc)
names_same (function ∷ more) (f ∷ rest) (g ∷ others) same =
    let first : made_of f ≡ made_of g = cc in
    let behind : map made_of rest ≡ map made_of others = cc in
    let names : f.names ≡ g.names = ap (λ made. made.names) first in
    ap₂ (λ own. λ all. qualified function own ++ all) names (names_same more rest others behind)

-- a routine, by what is said of its function
abbrev of_made : ℕ → Made → Routine
of_made base made = record {
  base = base;
  vars = length made.names;
  params = made.params;
  free = places_from 0 made.free;
  valued = gives_value made.body;
  body = made.body;
}

table_same : (base : ℕ) (one other : List Func) (main : Routine) (k : ℕ) → map made_of one ≡ map made_of other
    → table_from base one main k ≡ table_from base other main k
table_same base [] [] main k same = refl
table_same base [] (g ∷ others) main k same = absurd (cc)
table_same base (f ∷ rest) [] main k same = absurd (cc)
table_same base (f ∷ rest) (g ∷ others) main zero same = let first : made_of f ≡ made_of g = cc in ap (of_made base) first
table_same base (f ∷ rest) (g ∷ others) main (suc k) same =
    let first : made_of f ≡ made_of g = cc in
    let behind : map made_of rest ≡ map made_of others = cc in
    let names : f.names ≡ g.names = ap (λ made. made.names) first in
    table_same (base + length f.names) rest others main k behind ∙ ap (λ own. table_from (base + length own) others main k) names

-- ---- so one text is one program

module _ (unit other : Unit) (same : AreSameUnits unit other) where
  same_names : whole_names unit.func_names unit.funcs unit.names ≡ whole_names other.func_names other.funcs other.names
  same_names =
      ap₂ (λ own. λ functions. own ++ all_qualified functions unit.funcs) same.names same.known
      ∙ ap (λ all. other.names ++ all) (names_same other.func_names unit.funcs other.funcs same.functions)

  main_same : main_routine unit.names unit.body ≡ main_routine other.names other.body
  main_same =
      ap₂ (λ (names : List (List ℕ)) (body : Commands). of_main names body) same.names same.body
    where
      of_main : List (List ℕ) → Commands → Routine
      of_main names body = record { base = 0; vars = length names; params = 0; free = []; valued = false; body = body }

  same_table : table_of unit.funcs unit.names unit.body ≡ table_of other.funcs other.names other.body
  same_table = fun_ext (λ k.
      table_same (length unit.names) unit.funcs other.funcs (main_routine unit.names unit.body) k same.functions
      ∙ ap₂ (λ base. λ main. table_from base other.funcs main k) (ap length same.names) main_same)

  same_count : length unit.funcs ≡ length other.funcs
  same_count = sym (length-map unit.funcs made_of) ∙ ap length same.functions ∙ length-map other.funcs made_of

  same_body : inlined_body (table_of unit.funcs unit.names unit.body) (length unit.funcs) ≡ inlined_body (table_of other.funcs other.names other.body) (length other.funcs)
  same_body = ap₂ inlined_body same_table same_count

pub one_program : UnitsAreUnique → TextsAreUnique
one_program unique text names others body other is there =
    let same = unique text is.unit there.unit is.derived there.derived in
    (is.names_are ∙ same_names is.unit there.unit same ∙ sym there.names_are, is.means ∙ same_body is.unit there.unit same ∙ sym there.means)

pub one_main : UnitsAreUnique → OwnNamesAreUnique
one_main unique text own other is there = is.names_are ∙ (unique text is.unit there.unit is.derived there.derived).names ∙ sym there.names_are

pub own_fewer : UnitsAreUnique → OwnNamesAreFewer
own_fewer unique text names own body is there =
    let same : there.unit.names ≡ is.unit.names = (unique text there.unit is.unit there.derived is.derived).names in
    let whole : length names ≡ length (is.unit.names) + length (all_qualified is.unit.func_names is.unit.funcs) =
    ap length is.names_are ∙ length-append is.unit.names (all_qualified is.unit.func_names is.unit.funcs) in
    let mine : length own ≡ length (is.unit.names) = ap length (there.names_are ∙ same) in
    omega (arith, whole, mine)

pub no_fault : UnitsHaveNoFault → ProgramsHaveNoFault
no_fault law text names body fault is of = law text is.unit fault is.derived of

pub own_few : (text : List ℕ) (own : List (List ℕ)) → HasOwnNames text own → length own ≤ 15
own_few text own is =
    let unit = is.unit in
    let few : length (whole_names unit.func_names unit.funcs unit.names) ≤ 15 = unit.valid.few in
    let whole = length-append unit.names (all_qualified unit.func_names unit.funcs) in
    let mine : length own ≡ length (unit.names) = ap length is.names_are in
    omega (arith, few, whole, mine)
