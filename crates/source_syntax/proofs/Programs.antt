-- How the reading of programs goes on, by the next word: preludes, functions and `main`.
use Rattle.std.proofs.Common.{◌≡◌, inl, inr, ℕ, List, [], ◌∷◌, Bool, true, false, refl}
use Rattle.derivation.specs.declared.symbol.Symbol.{Symbol}
use Rattle.derivation.specs.declared.symbol.Symbol.TheVariants as Sym
use Rattle.derivation.specs.Pieces.{Fits}
use Rattle.derivation.proofs.Grammars.{turns}
use Rattle.derivation.proofs.Choices.{begins, Way, Choice, Sides, Fork}
use Rattle.source_syntax.specs.declared.opening.PreludeOpening.{PreludeOpening}
use Rattle.source_syntax.specs.Openings.{opening_of_prelude}
use Rattle.concrete_syntax.specs.Trees.{Name, Items, Prelude, extern_call, typedef_bool, Parameters, nothing, named as named_parameters, Function}
use Rattle.source_syntax.specs.Language.{Rest}
use Rattle.source_syntax.specs.Spelling.{sign}
use Rattle.source_syntax.specs.Ends.{Definitions, DefinitionsEnd, is_main, is_function, function_of, after_function}
use Rattle.source_syntax.specs.Pending.{Pending, exactly, a_name, a_void, parameters, further_parameters, definitions_end, definitions, a_program, Trees, pieces, grammar, Leads}
use Rattle.source_syntax.specs.Reads.{main_end, function_end}
use Rattle.source_syntax.proofs.Answering.{AreQuiet, in_turn, units, behind_units}
use Rattle.source_syntax.proofs.Expressions.{Same}

module _ (S : List Pending) where
  -- what stands in the parentheses of a function, and its `)`
  pub all_parameters : Fork grammar (parameters ∷ S) (sign Sym.Int) (a_name ∷ further_parameters ∷ S) (λ g. (named_parameters g.0 g.1.0, g.1.1))
      (a_void ∷ S) (λ g. (nothing g.0, g.1))
  all_parameters = record { spells = λ g. refl; spells_other = λ g. refl; view = λ f. view f.0 f.1 }
    where
      view : (all : Parameters) (rest : Trees S) → Sides grammar (parameters ∷ S) (sign Sym.Int) (a_name ∷ further_parameters ∷ S)
          (λ g. (named_parameters g.0 g.1.0, g.1.1)) (a_void ∷ S) (λ g. (nothing g.0, g.1)) (all, rest)
      view (named_parameters x more) rest = inl ((x, (more, rest)), refl)
      view (nothing true) rest = inr ((true, rest), refl, λ e. cc)
      view (nothing false) rest = inr ((false, rest), refl, λ e. cc)

  pub more_parameters : Fork grammar (further_parameters ∷ S) (sign Sym.Comma) (exactly (sign Sym.Int) (refl, refl) ∷ a_name ∷ further_parameters ∷ S)
      (λ g. (g.1.0 ∷ g.1.1.0, g.1.1.1)) (exactly (sign Sym.CloseParenthesis) (refl, refl) ∷ S) (λ g. ([], g.1))
  more_parameters = record { spells = λ g. refl; spells_other = λ g. refl; view = λ f. view f.0 f.1 }
    where
      view : (all : List Name) (rest : Trees S) → Sides grammar (further_parameters ∷ S) (sign Sym.Comma) (exactly (sign Sym.Int) (refl, refl) ∷ a_name ∷ further_parameters ∷ S)
          (λ g. (g.1.0 ∷ g.1.1.0, g.1.1.1)) (exactly (sign Sym.CloseParenthesis) (refl, refl) ∷ S) (λ g. ([], g.1)) (all, rest)
      view (x ∷ more) rest = inl ((tt, (x, (more, rest))), refl)
      view [] rest = inr ((tt, rest), refl, λ e. cc)

  -- where functions are allowed: one of no value, or what begins with `int`
  abbrev pub with_function : Bool → Trees (function_end (definitions true ∷ S)) → Trees (definitions true ∷ S)
  with_function valued g = (after_function (function_of valued g.0 g.1.1.0 g.1.1.1.1.0 g.1.1.1.1.1.0) g.1.1.1.1.1.1.0, g.1.1.1.1.1.1.1)

  abbrev pub ended_so : DefinitionsEnd → Definitions
  ended_so (is_main void all) = record { functions = []; void = void; items = all }
  ended_so (is_function x inner all at rest) = after_function (function_of true x inner all at) rest

  abbrev IsSided : Trees (definitions true ∷ S) → Type 0
  IsSided = Sides grammar (definitions true ∷ S) (sign Sym.Void) (function_end (definitions true ∷ S)) (with_function false)
      (exactly (sign Sym.Int) (refl, refl) ∷ definitions_end ∷ S) (λ g. (ended_so g.1.0, g.1.1))

  pub all_definitions : Fork grammar (definitions true ∷ S) (sign Sym.Void) (function_end (definitions true ∷ S)) (with_function false)
      (exactly (sign Sym.Int) (refl, refl) ∷ definitions_end ∷ S) (λ g. (ended_so g.1.0, g.1.1))
  all_definitions = record { spells = λ g. refl; spells_other = λ g. ended_spells g.1.0 g.1.1; view = λ f. view f.0.functions f.0.void f.0.items f.1 }
    where
      ended_spells : (end : DefinitionsEnd) (rest : Trees S)
          → pieces (definitions true ∷ S) (ended_so end, rest) ≡ pieces (exactly (sign Sym.Int) (refl, refl) ∷ definitions_end ∷ S) (tt, (end, rest))
      ended_spells (is_main void all) rest = refl
      ended_spells (is_function x inner all at others) rest = refl

      by_type : (valued : Bool) (x : Name) (inner : Parameters) (all : Items) (at : ℕ) (others : Definitions) (rest : Trees S)
          → IsSided (after_function (function_of valued x inner all at) others, rest)
      by_type true x inner all at others rest = inr ((tt, (is_function x inner all at others, rest)), refl, λ e. cc)
      by_type false x inner all at others rest = inl ((x, (tt, (inner, (tt, (all, (at, (others, rest))))))), refl)

      view : (before : List Function) (void : Bool) (all : Items) (rest : Trees S) → IsSided (record { functions = before; void = void; items = all }, rest)
      view [] void all rest = inr ((tt, (is_main void all, rest)), refl, λ e. cc)
      view (f ∷ more) void all rest = by_type f.valued f.name f.parameters f.items f.behind (record { functions = more; void = void; items = all }) rest

  pub definitions_ends : Fork grammar (definitions_end ∷ S) (sign Sym.Main) (main_end true S) (λ g. (is_main g.1.0 g.1.1.1.0, g.1.1.1.1))
      (function_end (definitions true ∷ S)) (λ g. (is_function g.0 g.1.1.0 g.1.1.1.1.0 g.1.1.1.1.1.0 g.1.1.1.1.1.1.0, g.1.1.1.1.1.1.1))
  definitions_ends = record { spells = λ g. refl; spells_other = λ g. refl; view = λ f. view f.0 f.1 }
    where
      view : (end : DefinitionsEnd) (rest : Trees S) → Sides grammar (definitions_end ∷ S) (sign Sym.Main) (main_end true S) (λ g. (is_main g.1.0 g.1.1.1.0, g.1.1.1.1))
          (function_end (definitions true ∷ S)) (λ g. (is_function g.0 g.1.1.0 g.1.1.1.1.0 g.1.1.1.1.1.0 g.1.1.1.1.1.1.0, g.1.1.1.1.1.1.1)) (end, rest)
      view (is_main void all) rest = inl ((tt, (void, (tt, (all, rest)))), refl)
      view (is_function x inner all at others) rest = inr ((x, (tt, (inner, (tt, (all, (at, (others, rest))))))), refl, λ e. cc)

-- where they aren't: `main` alone
abbrev pub main_signs : List Symbol
main_signs = Sym.Int ∷ Sym.Main ∷ []

abbrev pub main_quiet : AreQuiet main_signs
main_quiet = ((refl, refl), ((refl, refl), tt))

abbrev pub only_main : (S : List Pending) → Trees (in_turn main_signs main_quiet (main_end false S)) → Trees (definitions false ∷ S)
only_main S g =
    let h = behind_units main_signs main_quiet (main_end false S) g in (record { functions = []; void = h.1.0; items = h.1.1.1.0 }, h.1.1.1.1)

pub no_functions : (c : ℕ) (S : List Pending) (from : Rest)
    → Leads c (definitions false ∷ S) from c (in_turn main_signs main_quiet (main_end false S)) from (only_main S)
no_functions c S from =
    turns (λ next. Unit {0}) (λ g. refl) (λ f fits any. view f.0.functions f.0.void f.0.items f.1 fits) tt
  where
    view : (before : List Function) (void : Bool) (all : Items) (rest : Trees S)
        → Fits from.number (pieces (definitions false ∷ S) (record { functions = before; void = void; items = all }, rest))
        → (g : Trees (in_turn main_signs main_quiet (main_end false S)))
        × Same (definitions false ∷ S) (record { functions = before; void = void; items = all }, rest) (only_main S g)
    view [] void all rest fits = (units main_signs main_quiet (main_end false S) (tt, (void, (tt, (all, rest)))), refl)
    view (f ∷ more) void all rest fits = absurd fits.1.0

-- preludes
abbrev pub extern_signs : List Symbol
extern_signs = Sym.Extern ∷ Sym.Int ∷ Sym.Nondeterministic ∷ Sym.OpenParenthesis ∷ []

abbrev pub extern_quiet : AreQuiet extern_signs
extern_quiet = ((refl, refl), ((refl, refl), ((refl, refl), ((refl, refl), tt))))

abbrev pub typedef_signs : List Symbol
typedef_signs = Sym.Typedef ∷ Sym.Enum ∷ Sym.OpenBrace ∷ Sym.False ∷ Sym.Comma ∷ Sym.True ∷ Sym.CloseBrace ∷ Sym.Bool ∷ Sym.Semicolon ∷ []

abbrev pub typedef_quiet : AreQuiet typedef_signs
typedef_quiet = ((refl, refl), ((refl, refl), ((refl, refl), ((refl, refl), ((refl, refl), ((refl, refl), ((refl, refl), ((refl, refl), ((refl, refl), tt)))))))))

module _ (functions : Bool) where
  abbrev pub program_rest : PreludeOpening → List Pending → List Pending
  program_rest PreludeOpening.Extern S = in_turn extern_signs extern_quiet (a_void ∷ exactly (sign Sym.Semicolon) (refl, refl) ∷ a_program functions ∷ S)
  program_rest PreludeOpening.Typedef S = in_turn typedef_signs typedef_quiet (a_program functions ∷ S)
  program_rest PreludeOpening.Main S = definitions functions ∷ S

  abbrev behind_prelude : (S : List Pending) → Prelude → Trees (a_program functions ∷ S) → Trees (a_program functions ∷ S)
  behind_prelude S prelude g = (record { preludes = prelude ∷ g.0.preludes; functions = g.0.functions; void = g.0.void; items = g.0.items }, g.1)

  abbrev pub program_tree : (o : PreludeOpening) → (S : List Pending) → Trees (program_rest o S) → Trees (a_program functions ∷ S)
  program_tree PreludeOpening.Extern S g =
      let h = behind_units extern_signs extern_quiet (a_void ∷ exactly (sign Sym.Semicolon) (refl, refl) ∷ a_program functions ∷ S) g in
      behind_prelude S (extern_call h.0) h.1.1
  program_tree PreludeOpening.Typedef S g = behind_prelude S typedef_bool (behind_units typedef_signs typedef_quiet (a_program functions ∷ S) g)
  program_tree PreludeOpening.Main S g = (record { preludes = []; functions = g.0.functions; void = g.0.void; items = g.0.items }, g.1)

  abbrev pub whole : (S : List Pending) → List Prelude → Definitions → Trees S → Trees (a_program functions ∷ S)
  whole S before all rest = (record { preludes = before; functions = all.functions; void = all.void; items = all.items }, rest)

  abbrev IsBegun : (S : List Pending) → Trees (a_program functions ∷ S) → Type 0
  IsBegun S f = Way grammar (a_program functions ∷ S) (λ o. Unit {0}) (λ o. program_rest o S) (λ o. program_tree o S)
      (opening_of_prelude (begins grammar (a_program functions ∷ S) f)) f

  pub beginnings : (S : List Pending) → Choice grammar (a_program functions ∷ S) opening_of_prelude (λ o. Unit {0}) (λ o. program_rest o S) (λ o. program_tree o S)
  beginnings S = record {
    spells = spells;
    view = λ f. view f.0.preludes (record { functions = f.0.functions; void = f.0.void; items = f.0.items }) f.1;
  }
    where
      spells : (o : PreludeOpening) → (g : Trees (program_rest o S)) → pieces (a_program functions ∷ S) (program_tree o S g) ≡ pieces (program_rest o S) g
      spells PreludeOpening.Main g = refl
      spells _ g = refl

      by_type : (valued : Bool) (x : Name) (inner : Parameters) (all : Items) (at : ℕ) (others : Definitions) (rest : Trees S)
          → IsBegun S (whole S [] (after_function (function_of valued x inner all at) others) rest)
      by_type true x inner all at others rest = (tt, (after_function (function_of true x inner all at) others, rest), refl)
      by_type false x inner all at others rest = (tt, (after_function (function_of false x inner all at) others, rest), refl)

      by_functions : (before : List Function) (void : Bool) (all : Items) (rest : Trees S) → IsBegun S (whole S [] (record { functions = before; void = void; items = all }) rest)
      by_functions [] void all rest = (tt, (record { functions = []; void = void; items = all }, rest), refl)
      by_functions (f ∷ more) void all rest = by_type f.valued f.name f.parameters f.items f.behind (record { functions = more; void = void; items = all }) rest

      view : (before : List Prelude) (all : Definitions) (rest : Trees S) → IsBegun S (whole S before all rest)
      view (extern_call w ∷ more) all rest =
          (tt, units extern_signs extern_quiet (a_void ∷ exactly (sign Sym.Semicolon) (refl, refl) ∷ a_program functions ∷ S) (w, (tt, whole S more all rest)), refl)
      view (typedef_bool ∷ more) all rest = (tt, units typedef_signs typedef_quiet (a_program functions ∷ S) (whole S more all rest), refl)
      view [] all rest = by_functions all.functions all.void all.items rest
