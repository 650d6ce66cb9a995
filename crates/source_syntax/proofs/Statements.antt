-- How the reading of statements, declarations and programs goes on, by the next word.
use Rattle.std.proofs.Common.{◌≡◌, ◌≢◌, inl, inr, ℕ, ◌+◌, List, [], ◌∷◌, Option, None, Some, Bool, true, false, refl, sym, subst}
use Rattle.std.specs.Bool.{IsFalse}
use Rattle.derivation.specs.declared.symbol.Symbol.{Symbol}
use Rattle.derivation.specs.declared.symbol.Symbol.TheVariants as Sym
use Rattle.derivation.specs.Word.{Word, symbol, name as named}
use Rattle.derivation.specs.Pieces.{first, Fits}
use Rattle.source_syntax.specs.Language.{Rest, is_else, no_else, IsQuiet}
use Rattle.source_syntax.specs.Pending.{Leads, Pending, exactly, a_place, a_name, a_tail, an_expression, an_optional, a_test, an_action, a_simple, an_initialiser, a_part_end, parts, a_declaration, a_start, a_finish, a_statement_end, a_statement, a_statement_kind, an_otherwise, items, a_void, Trees, pieces, grammar}
use Rattle.derivation.proofs.Grammars.{turns, looks, becomes, Headed}
use Rattle.concrete_syntax.specs.declared.sign.Assignment.{Assignment}
use Rattle.concrete_syntax.specs.declared.sign.Step.{Step}
use Rattle.source_syntax.specs.declared.opening.ActionOpening.{ActionOpening}
use Rattle.source_syntax.specs.declared.opening.SimpleOpening.{SimpleOpening}
use Rattle.source_syntax.specs.declared.opening.StatementOpening.{StatementOpening}
use Rattle.source_syntax.specs.declared.opening.ItemOpening.{ItemOpening}
use Rattle.source_syntax.specs.declared.opening.StartOpening.{StartOpening}
use Rattle.source_syntax.specs.Openings.{opening_of_simple, opening_of_action, opening_of_statement, opening_of_item, opening_of_start, opening_of_operand}
use Rattle.concrete_syntax.specs.Trees.{Expression, assigns, steps, Simple, acts, steps_before, Value, evaluates, answers, Part, starts_with_nothing, starts_with, declares, Name, Statement, statement_at, simple, calls, gives, skip, braces, conditional, while_loop, do_loop, for_loop, return, break, continue, Otherwise, without, otherwise, none, declaration, statement}
use Rattle.source_syntax.specs.Ends.{StatementEnd, does, applied, given, kind_of}
use Rattle.source_syntax.specs.Spelling.{sign, leading, opening, leading_opening, assignment_sign, step_sign}
use Rattle.source_syntax.proofs.Completions.{lawful}
use Rattle.source_syntax.proofs.Answering.{AreQuiet, in_turn}
use Rattle.derivation.proofs.Choices.{begins, Way, Choice, Sides, Fork, Held}
use Rattle.source_syntax.proofs.Expressions.{Same, IsOperand, operand_begins}

pub assignment_quiet : (a : Assignment) → IsQuiet (Some (symbol (assignment_sign a)))
assignment_quiet Assignment.Assign = (refl, refl)
assignment_quiet _ = (refl, refl)

pub step_quiet : (s : Step) → IsQuiet (Some (symbol (step_sign s)))
step_quiet Step.Increment = (refl, refl)
step_quiet Step.Decrement = (refl, refl)

-- what a simple statement does to its name
abbrev pub IsAction : ActionOpening → Type 0
IsAction ActionOpening.Nothing = ⊥
IsAction _ = Unit {0}

module _ (n : ℕ) where
  abbrev pub action_rest : ActionOpening → List Pending → List Pending
  action_rest (ActionOpening.Assigns a) S = exactly (leading (assignment_sign a)) (assignment_quiet a) ∷ an_expression n ∷ S
  action_rest (ActionOpening.Steps s) S = exactly (sign (step_sign s)) (step_quiet s) ∷ S
  action_rest ActionOpening.Nothing S = an_action n ∷ S

  abbrev pub action_tree : (o : ActionOpening) → (S : List Pending) → Trees (action_rest o S) → Trees (an_action n ∷ S)
  action_tree (ActionOpening.Assigns a) S g = (assigns a g.1.0, g.1.1)
  action_tree (ActionOpening.Steps s) S g = (steps s, g.1)
  action_tree ActionOpening.Nothing S g = g

  pub actions : (S : List Pending) → Choice grammar (an_action n ∷ S) opening_of_action IsAction (λ o. action_rest o S) (λ o. action_tree o S)
  actions S = record { spells = spells; view = view }
    where
      spells : (o : ActionOpening) → (g : Trees (action_rest o S)) → pieces (an_action n ∷ S) (action_tree o S g) ≡ pieces (action_rest o S) g
      spells ActionOpening.Nothing g = refl
      spells _ g = refl

      view : (f : Trees (an_action n ∷ S))
          → Way grammar (an_action n ∷ S) IsAction (λ o. action_rest o S) (λ o. action_tree o S) (opening_of_action (begins grammar (an_action n ∷ S) f)) f
      view (assigns Assignment.Assign x, rest) = (tt, (tt, (x, rest)), refl)
      view (assigns _ x, rest) = (tt, (tt, (x, rest)), refl)
      view (steps Step.Increment, rest) = (tt, (tt, rest), refl)
      view (steps Step.Decrement, rest) = (tt, (tt, rest), refl)

-- a simple statement
abbrev pub IsSimple : SimpleOpening → Type 0
IsSimple SimpleOpening.Nothing = ⊥
IsSimple _ = Unit {0}

module _ (n : ℕ) where
  abbrev pub simple_rest : SimpleOpening → List Pending → List Pending
  simple_rest SimpleOpening.Name S = a_name ∷ an_action n ∷ S
  simple_rest (SimpleOpening.Steps s) S = a_place ∷ exactly (sign (step_sign s)) (step_quiet s) ∷ a_name ∷ S
  simple_rest SimpleOpening.Nothing S = a_simple n ∷ S

  abbrev pub simple_tree : (o : SimpleOpening) → (S : List Pending) → Trees (simple_rest o S) → Trees (a_simple n ∷ S)
  simple_tree SimpleOpening.Name S g = (acts g.0 g.1.0, g.1.1)
  simple_tree (SimpleOpening.Steps s) S g = (steps_before g.0 s g.1.1.0, g.1.1.1)
  simple_tree SimpleOpening.Nothing S g = g

  pub simples : (S : List Pending) → Choice grammar (a_simple n ∷ S) opening_of_simple IsSimple (λ o. simple_rest o S) (λ o. simple_tree o S)
  simples S = record { spells = spells; view = view }
    where
      spells : (o : SimpleOpening) → (g : Trees (simple_rest o S)) → pieces (a_simple n ∷ S) (simple_tree o S g) ≡ pieces (simple_rest o S) g
      spells SimpleOpening.Nothing g = refl
      spells _ g = refl

      view : (f : Trees (a_simple n ∷ S))
          → Way grammar (a_simple n ∷ S) IsSimple (λ o. simple_rest o S) (λ o. simple_tree o S) (opening_of_simple (begins grammar (a_simple n ∷ S) f)) f
      view (acts x action, rest) = (tt, (x, (action, rest)), refl)
      view (steps_before at Step.Increment x, rest) = (tt, (at, (tt, (x, rest))), refl)
      view (steps_before at Step.Decrement x, rest) = (tt, (at, (tt, (x, rest))), refl)

-- the parts of a declaration
module _ (functions : Bool) (n : ℕ) (S : List Pending) where
  -- what stands behind a declared name: an initialiser or none, and further parts
  pub part_ends : Fork grammar (a_part_end functions n ∷ S) (leading Sym.Assign) (an_initialiser functions n ∷ S) (λ g. ((Some g.0.0, g.0.1), g.1))
      (parts functions n ∷ S) (λ g. ((None, g.0), g.1))
  part_ends = record { spells = λ g. refl; spells_other = λ g. refl; view = λ f. view f.0.0 f.0.1 f.1 }
    where
      view : (i : Option Value) (more : List Part) (rest : Trees S)
          → Sides grammar (a_part_end functions n ∷ S) (leading Sym.Assign) (an_initialiser functions n ∷ S) (λ g. ((Some g.0.0, g.0.1), g.1))
          (parts functions n ∷ S) (λ g. ((None, g.0), g.1)) ((i, more), rest)
      view (Some value) more rest = inl (((value, more), rest), refl)
      view None [] rest = inr (([], rest), refl, λ e. cc)
      view None (part ∷ more) rest = inr ((part ∷ more, rest), refl, λ e. cc)

  -- further parts of a declaration
  pub further_parts : Fork grammar (parts functions n ∷ S) (sign Sym.Comma) (a_name ∷ a_part_end functions n ∷ S)
      (λ g. (record { declared = g.0; initialiser = g.1.0.0 } ∷ g.1.0.1, g.1.1)) (exactly (leading Sym.Semicolon) (refl, refl) ∷ S) (λ g. ([], g.1))
  further_parts = record { spells = λ g. refl; spells_other = λ g. refl; view = view }
    where
      view : (f : Trees (parts functions n ∷ S)) → Sides grammar (parts functions n ∷ S) (sign Sym.Comma) (a_name ∷ a_part_end functions n ∷ S)
          (λ g. (record { declared = g.0; initialiser = g.1.0.0 } ∷ g.1.0.1, g.1.1)) (exactly (leading Sym.Semicolon) (refl, refl) ∷ S) (λ g. ([], g.1)) f
      view (part ∷ more, rest) = inl ((part.declared, ((part.initialiser, more), rest)), refl)
      view ([], rest) = inr ((tt, rest), refl, λ e. cc)

-- an initialiser, where functions aren't allowed
pub no_called_initialisers : (n c : ℕ) (S : List Pending) (from : Rest)
    → Leads c (an_initialiser false n ∷ S) from c (an_expression n ∷ parts false n ∷ S) from (λ g. ((evaluates g.0, g.1.0), g.1.1))
no_called_initialisers n c S from =
    turns (λ next. Unit {0}) (λ g. refl) (λ f fits any. view f.0.0 f.0.1 f.1 fits) tt
  where
    view : (value : Value) (more : List Part) (rest : Trees S) → Fits from.number (pieces (an_initialiser false n ∷ S) ((value, more), rest))
        → (g : Trees (an_expression n ∷ parts false n ∷ S)) × Same (an_initialiser false n ∷ S) ((value, more), rest) ((evaluates g.0, g.1.0), g.1.1)
    view (evaluates e) more rest fits = ((e, (more, rest)), refl)
    view (answers c) more rest fits = absurd fits.1.0

module _ (n : ℕ) (S : List Pending) where
  -- an expression that may be missing, and the `;` behind it
  pub no_semicolon : (e : Expression) (rest : Trees S) → begins grammar (an_optional n ∷ S) (Some e, rest) ≢ Some (symbol Sym.Semicolon)
  no_semicolon e rest is =
      subst (λ next. IsOperand (opening_of_operand next)) is
      (operand_begins n (a_tail n ∷ exactly (sign Sym.Semicolon) (refl, refl) ∷ S) e.operand (e.tail, (tt, rest)))

  pub optionals : Fork grammar (an_optional n ∷ S) (sign Sym.Semicolon) S (λ g. (None, g))
      (an_expression n ∷ exactly (sign Sym.Semicolon) (refl, refl) ∷ S) (λ g. (Some g.0, g.1.1))
  optionals = record { spells = λ g. refl; spells_other = λ g. refl; view = view }
    where
      view : (f : Trees (an_optional n ∷ S)) → Sides grammar (an_optional n ∷ S) (sign Sym.Semicolon) S (λ g. (None, g))
          (an_expression n ∷ exactly (sign Sym.Semicolon) (refl, refl) ∷ S) (λ g. (Some g.0, g.1.1)) f
      view (None, rest) = inl (rest, refl)
      view (Some x, rest) = inr ((x, (tt, rest)), refl, no_semicolon x rest)

  -- the last part of a `for`, and the `)` behind it
  pub no_parenthesis : (s : Simple) (rest : Trees S) → begins grammar (a_finish n ∷ S) (Some s, rest) ≢ Some (symbol Sym.CloseParenthesis)
  no_parenthesis s rest is =
      subst (λ next. IsSimple (opening_of_simple next)) is ((simples n (exactly (sign Sym.CloseParenthesis) (refl, refl) ∷ S)).view (s, (tt, rest))).0

  pub finishes : Fork grammar (a_finish n ∷ S) (sign Sym.CloseParenthesis) S (λ g. (None, g))
      (a_simple n ∷ exactly (sign Sym.CloseParenthesis) (refl, refl) ∷ S) (λ g. (Some g.0, g.1.1))
  finishes = record { spells = λ g. refl; spells_other = λ g. refl; view = view }
    where
      view : (f : Trees (a_finish n ∷ S)) → Sides grammar (a_finish n ∷ S) (sign Sym.CloseParenthesis) S (λ g. (None, g))
          (a_simple n ∷ exactly (sign Sym.CloseParenthesis) (refl, refl) ∷ S) (λ g. (Some g.0, g.1.1)) f
      view (None, rest) = inl (rest, refl)
      view (Some s, rest) = inr ((s, (tt, rest)), refl, no_parenthesis s rest)

-- a `)`, and before it perhaps the word `void`
pub voids : (S : List Pending) → Fork grammar (a_void ∷ S) (sign Sym.Void) (exactly (sign Sym.CloseParenthesis) (refl, refl) ∷ S) (λ g. (true, g.1))
    (exactly (sign Sym.CloseParenthesis) (refl, refl) ∷ S) (λ g. (false, g.1))
voids S = record { spells = λ g. refl; spells_other = λ g. refl; view = view }
  where
    view : (f : Trees (a_void ∷ S)) → Sides grammar (a_void ∷ S) (sign Sym.Void) (exactly (sign Sym.CloseParenthesis) (refl, refl) ∷ S) (λ g. (true, g.1))
        (exactly (sign Sym.CloseParenthesis) (refl, refl) ∷ S) (λ g. (false, g.1)) f
    view (true, rest) = inl ((tt, rest), refl)
    view (false, rest) = inr ((tt, rest), refl, λ e. cc)

-- a declaration
module _ (functions : Bool) (n c : ℕ) (S : List Pending) (from : Rest) where
  pub declaration_goes : Leads c ((a_declaration functions n ∷ S)) from c ((exactly (sign Sym.Int) (refl, refl) ∷ a_name ∷ a_part_end functions n ∷ S)) from
      (λ g. (record { part = record { declared = g.1.0; initialiser = g.1.1.0.0 }; more = g.1.1.0.1 }, g.1.1.1))
  declaration_goes = becomes (λ g. refl) (λ f. ((tt, (f.0.part.declared, ((f.0.part.initialiser, f.0.more), f.1))), refl))

-- the test of an `if` or a loop
module _ (n c : ℕ) (S : List Pending) (from : Rest) where
  pub test_goes : Leads c ((a_test n ∷ S)) from c
      ((exactly (leading_opening Sym.OpenParenthesis (n + 1)) (refl, refl) ∷ an_expression (n + 1) ∷ exactly (sign Sym.CloseParenthesis) (refl, refl) ∷ S)) from
      (λ g. (g.1.0, g.1.1.1))
  test_goes = becomes (λ g. refl) (λ f. ((tt, (f.0, (tt, f.1))), refl))

-- how a `for` goes on that begins with a simple statement
pub opens_simply : (next : Option Word) → IsSimple (opening_of_simple next) → opening_of_start next ≡ StartOpening.Simple
opens_simply (Some (named x)) h = refl
opens_simply (Some (symbol Sym.Increment)) h = refl
opens_simply (Some (symbol Sym.Decrement)) h = refl
opens_simply _ h = absurd h

pub simple_begins : (n : ℕ) (S : List Pending) (s : Simple) (rest : Trees S) → IsSimple (opening_of_simple (begins grammar (a_simple n ∷ S) (s, rest)))
simple_begins n S s rest = ((simples n S).view (s, rest)).0

-- what stands before the first `;` of a `for`
module _ (functions : Bool) (n : ℕ) where
  abbrev pub start_rest : StartOpening → List Pending → List Pending
  start_rest StartOpening.Nothing S = exactly (leading Sym.Semicolon) (refl, refl) ∷ S
  start_rest StartOpening.Declaration S = a_declaration functions n ∷ S
  start_rest StartOpening.Simple S = a_simple n ∷ exactly (leading Sym.Semicolon) (refl, refl) ∷ S

  abbrev pub start_tree : (o : StartOpening) → (S : List Pending) → Trees (start_rest o S) → Trees (a_start functions n ∷ S)
  start_tree StartOpening.Nothing S g = (starts_with_nothing, g.1)
  start_tree StartOpening.Declaration S g = (declares g.0, g.1)
  start_tree StartOpening.Simple S g = (starts_with g.0, g.1.1)

  pub starts : (S : List Pending) → Choice grammar (a_start functions n ∷ S) opening_of_start (λ o. Unit {0}) (λ o. start_rest o S) (λ o. start_tree o S)
  starts S = record { spells = spells; view = view }
    where
      spells : (o : StartOpening) → (g : Trees (start_rest o S)) → pieces (a_start functions n ∷ S) (start_tree o S g) ≡ pieces (start_rest o S) g
      spells StartOpening.Nothing g = refl
      spells _ g = refl

      view : (f : Trees (a_start functions n ∷ S))
          → Way grammar (a_start functions n ∷ S) (λ o. Unit {0}) (λ o. start_rest o S) (λ o. start_tree o S) (opening_of_start (begins grammar (a_start functions n ∷ S) f)) f
      view (starts_with_nothing, rest) = (tt, (tt, rest), refl)
      view (declares d, rest) = (tt, (d, rest), refl)
      view (starts_with s, rest) =
          subst (λ o. Way grammar (a_start functions n ∷ S) (λ o. Unit {0}) (λ o. start_rest o S) (λ o. start_tree o S) o (starts_with s, rest))
          (sym (opens_simply _ (simple_begins n (exactly (leading Sym.Semicolon) (refl, refl) ∷ S) s (tt, rest)))) (tt, (s, (tt, rest)), refl)

-- a word that jumps, and the `;` behind it
abbrev pub break_signs : List Symbol
break_signs = Sym.Break ∷ Sym.Semicolon ∷ []

abbrev pub break_quiet : AreQuiet break_signs
break_quiet = ((refl, refl), ((refl, refl), tt))

abbrev pub continue_signs : List Symbol
continue_signs = Sym.Continue ∷ Sym.Semicolon ∷ []

abbrev pub continue_quiet : AreQuiet continue_signs
continue_quiet = ((refl, refl), ((refl, refl), tt))

-- a statement
abbrev pub IsStatement : StatementOpening → Type 0
IsStatement StatementOpening.Nothing = ⊥
IsStatement _ = Unit {0}

module _ (functions : Bool) (n : ℕ) where
  abbrev pub statement_rest : StatementOpening → List Pending → List Pending
  statement_rest StatementOpening.Name S = a_name ∷ a_statement_end functions n ∷ S
  statement_rest StatementOpening.Steps S = a_simple n ∷ exactly (sign Sym.Semicolon) (refl, refl) ∷ S
  statement_rest StatementOpening.Skip S = exactly (sign Sym.Semicolon) (refl, refl) ∷ S
  statement_rest StatementOpening.Braces S = exactly (opening Sym.OpenBrace (n + 1)) (refl, refl) ∷ items functions (n + 1) ∷ S
  statement_rest StatementOpening.If S = exactly (opening Sym.If (n + 1)) (refl, refl) ∷ a_test (n + 1) ∷ a_statement functions (n + 1) ∷ an_otherwise functions (n + 1) ∷ S
  statement_rest StatementOpening.While S = exactly (opening Sym.While (n + 1)) (refl, refl) ∷ a_test (n + 1) ∷ a_statement functions (n + 1) ∷ S
  statement_rest StatementOpening.Do S = exactly (opening Sym.Do (n + 1)) (refl, refl) ∷ a_statement functions (n + 1) ∷ a_place ∷ exactly (sign Sym.While) (refl, refl) ∷ a_test (n + 1) ∷ exactly (sign Sym.Semicolon) (refl, refl) ∷ S
  statement_rest StatementOpening.For S = exactly (opening Sym.For (n + 1)) (refl, refl) ∷ exactly (sign Sym.OpenParenthesis) (refl, refl) ∷ a_start functions (n + 1) ∷ an_optional (n + 1) ∷ a_finish (n + 1) ∷ a_statement functions (n + 1) ∷ S
  statement_rest StatementOpening.Return S = exactly (leading Sym.Return) (refl, refl) ∷ an_optional n ∷ S
  statement_rest StatementOpening.Break S = in_turn break_signs break_quiet S
  statement_rest StatementOpening.Continue S = in_turn continue_signs continue_quiet S
  statement_rest StatementOpening.Nothing S = a_statement_kind functions n ∷ S

  abbrev pub statement_tree : (o : StatementOpening) → (S : List Pending) → Trees (statement_rest o S) → Trees (a_statement_kind functions n ∷ S)
  statement_tree StatementOpening.Name S g = (kind_of g.0 g.1.0, g.1.1)
  statement_tree StatementOpening.Steps S g = (simple g.0, g.1.1)
  statement_tree StatementOpening.Skip S g = (skip, g.1)
  statement_tree StatementOpening.Braces S g = (braces g.1.0, g.1.1)
  statement_tree StatementOpening.If S g = (conditional g.1.0 g.1.1.0 g.1.1.1.0, g.1.1.1.1)
  statement_tree StatementOpening.While S g = (while_loop g.1.0 g.1.1.0, g.1.1.1)
  statement_tree StatementOpening.Do S g = (do_loop g.1.0 g.1.1.0 g.1.1.1.1.0, g.1.1.1.1.1.1)
  statement_tree StatementOpening.For S g = (for_loop g.1.1.0 g.1.1.1.0 g.1.1.1.1.0 g.1.1.1.1.1.0, g.1.1.1.1.1.1)
  statement_tree StatementOpening.Return S g = (return g.1.0, g.1.1)
  statement_tree StatementOpening.Break S g = (break, g.1.1)
  statement_tree StatementOpening.Continue S g = (continue, g.1.1)
  statement_tree StatementOpening.Nothing S g = g

  pub statements : (S : List Pending) → Choice grammar (a_statement_kind functions n ∷ S) opening_of_statement IsStatement (λ o. statement_rest o S) (λ o. statement_tree o S)
  statements S = record { spells = spells; view = view }
    where
      named_spells : (x : Name) (end : StatementEnd) (rest : Trees S)
          → pieces (a_statement_kind functions n ∷ S) (kind_of x end, rest) ≡ pieces (a_name ∷ a_statement_end functions n ∷ S) (x, (end, rest))
      named_spells x (does action) rest = refl
      named_spells x (applied arguments) rest = refl
      named_spells x (given c) rest = refl

      spells : (o : StatementOpening) → (g : Trees (statement_rest o S)) → pieces (a_statement_kind functions n ∷ S) (statement_tree o S g) ≡ pieces (statement_rest o S) g
      spells StatementOpening.Name g = named_spells g.0 g.1.0 g.1.1
      spells _ g = refl

      view : (f : Trees (a_statement_kind functions n ∷ S))
          → Way grammar (a_statement_kind functions n ∷ S) IsStatement (λ o. statement_rest o S) (λ o. statement_tree o S)
          (opening_of_statement (begins grammar (a_statement_kind functions n ∷ S) f)) f
      view (simple (acts x action), rest) = (tt, (x, (does action, rest)), refl)
      view (simple (steps_before at Step.Increment x), rest) = (tt, (steps_before at Step.Increment x, (tt, rest)), refl)
      view (simple (steps_before at Step.Decrement x), rest) = (tt, (steps_before at Step.Decrement x, (tt, rest)), refl)
      view (calls c, rest) = (tt, (c.function, (applied c.arguments, rest)), refl)
      view (gives x c, rest) = (tt, (x, (given c, rest)), refl)
      view (skip, rest) = (tt, (tt, rest), refl)
      view (braces all, rest) = (tt, (tt, (all, rest)), refl)
      view (conditional test part other, rest) = (tt, (tt, (test, (part, (other, rest)))), refl)
      view (while_loop test body, rest) = (tt, (tt, (test, (body, rest))), refl)
      view (do_loop body end test, rest) = (tt, (tt, (body, (end, (tt, (test, (tt, rest)))))), refl)
      view (for_loop start test step body, rest) = (tt, (tt, (tt, (start, (test, (step, (body, rest)))))), refl)
      view (return value, rest) = (tt, (tt, (value, rest)), refl)
      view (break, rest) = (tt, (tt, (tt, rest)), refl)
      view (continue, rest) = (tt, (tt, (tt, rest)), refl)

  pub located_statements : (S : List Pending) → Held lawful (a_statement functions n ∷ S) (λ m. a_statement_kind functions n ∷ S) (λ m g. (statement_at m g.0, g.1))
  located_statements S = record { spells = λ m g. refl; view = λ f. view f.0 f.1 }
    where
      view : (s : Statement) (rest : Trees S)
          → (m : ℕ) × (g : Trees (a_statement_kind functions n ∷ S)) × Same (a_statement functions n ∷ S) (s, rest) (statement_at m g.0, g.1)
      view (statement_at m kind) rest = (m, (kind, rest), refl)

-- what begins with a statement among items
pub is_statement : (next : Option Word) → IsStatement (opening_of_statement next) → opening_of_item next ≡ ItemOpening.Statement
is_statement (Some (symbol Sym.CloseBrace)) h = absurd h
is_statement (Some (symbol Sym.Int)) h = absurd h
is_statement _ h = refl

-- items, and the `}` behind them
module _ (functions : Bool) (n : ℕ) where
  abbrev pub items_rest : ItemOpening → List Pending → List Pending
  items_rest ItemOpening.Close S = exactly (sign Sym.CloseBrace) (refl, refl) ∷ S
  items_rest ItemOpening.Declaration S = a_declaration functions n ∷ items functions n ∷ S
  items_rest ItemOpening.Statement S = a_statement functions n ∷ items functions n ∷ S

  abbrev pub items_tree : (o : ItemOpening) → (S : List Pending) → Trees (items_rest o S) → Trees (items functions n ∷ S)
  items_tree ItemOpening.Close S g = (none, g.1)
  items_tree ItemOpening.Declaration S g = (declaration g.0 g.1.0, g.1.1)
  items_tree ItemOpening.Statement S g = (statement g.0 g.1.0, g.1.1)

  pub statement_among : (S : List Pending) (s : Statement) (rest : Trees S) → opening_of_item (begins grammar (a_statement functions n ∷ S) (s, rest)) ≡ ItemOpening.Statement
  statement_among S (statement_at at kind) rest = is_statement _ ((statements functions n S).view (kind, rest)).0

  pub all_items : (S : List Pending) → Choice grammar (items functions n ∷ S) opening_of_item (λ o. Unit {0}) (λ o. items_rest o S) (λ o. items_tree o S)
  all_items S = record { spells = spells; view = view }
    where
      spells : (o : ItemOpening) → (g : Trees (items_rest o S)) → pieces (items functions n ∷ S) (items_tree o S g) ≡ pieces (items_rest o S) g
      spells ItemOpening.Close g = refl
      spells _ g = refl

      view : (f : Trees (items functions n ∷ S))
          → Way grammar (items functions n ∷ S) (λ o. Unit {0}) (λ o. items_rest o S) (λ o. items_tree o S) (opening_of_item (begins grammar (items functions n ∷ S) f)) f
      view (none, rest) = (tt, (tt, rest), refl)
      view (declaration d more, rest) = (tt, (d, (more, rest)), refl)
      view (statement s more, rest) =
          subst (λ o. Way grammar (items functions n ∷ S) (λ o. Unit {0}) (λ o. items_rest o S) (λ o. items_tree o S) o (statement s more, rest))
          (sym (statement_among (items functions n ∷ S) s (more, rest))) (tt, (s, (more, rest)), refl)

-- the second part of an `if`: none where no `else` follows
module _ (functions : Bool) (n c : ℕ) (S : List Pending) (from : Rest) where
  pub otherwise_ends : IsFalse (is_else (first from.words)) → Leads c (an_otherwise functions n ∷ S) from c S from (λ g. (without, g))
  otherwise_ends e =
      looks (λ next. IsFalse (is_else next)) no_else e (λ g. refl) (λ f fits missing. view f.0 f.1 missing) e
    where
      view : (t : Otherwise) (rest : Trees S) → IsFalse (is_else (begins grammar (an_otherwise functions n ∷ S) (t, rest)))
          → (g : Trees S) × Same (an_otherwise functions n ∷ S) (t, rest) (without, g)
      view without rest missing = (rest, refl)
      view (otherwise part) rest missing = absurd (cc)

-- a second part that begins with an `else`
pub elses : (functions : Bool) (n : ℕ) (S : List Pending) → Headed grammar (an_otherwise functions n ∷ S) (opening Sym.Else (n + 1)) (a_statement functions (n + 1) ∷ S) (λ g. (otherwise g.0, g.1))
elses functions n S = record { spells = λ g. refl; view = λ m f fits next. view m f.0 f.1 fits next }
  where
    view : (m : ℕ) (t : Otherwise) (rest : Trees S) → Fits m (pieces (an_otherwise functions n ∷ S) (t, rest))
        → begins grammar (an_otherwise functions n ∷ S) (t, rest) ≡ Some (symbol Sym.Else)
        → (g : Trees (a_statement functions (n + 1) ∷ S)) × Same (an_otherwise functions n ∷ S) (t, rest) (otherwise g.0, g.1)
    view m without rest fits found = absurd (let seen = subst (λ next. IsFalse (is_else next)) found fits.0 in cc)
    view m (otherwise part) rest fits found = ((part, rest), refl)

-- where the next word isn't `else`
pub not_else : (ws : List Word) → ((to : List Word) → ws ≢ symbol Sym.Else ∷ to) → IsFalse (is_else (first ws))
not_else (symbol Sym.Else ∷ ws) h = absurd (h ws refl)
not_else _ h = refl
