-- How the reading goes on of what begins with a name: statements, where functions are allowed and where they aren't, and calls.
use Rattle.std.proofs.Common.{◌≡◌, ◌≢◌, inl, inr, ℕ, List, [], ◌∷◌, Some, Bool, true, false, refl, sym, ap, ◌∙◌, subst}
use Rattle.derivation.specs.declared.symbol.Symbol.TheVariants as Sym
use Rattle.derivation.specs.Word.{symbol}
use Rattle.derivation.specs.Pieces.{Fits}
use Rattle.derivation.proofs.Grammars.{turns, becomes}
use Rattle.derivation.proofs.Choices.{begins, Way, Choice, Sides, Fork}
use Rattle.concrete_syntax.specs.declared.sign.Assignment.{Assignment}
use Rattle.concrete_syntax.specs.declared.sign.Step.{Step}
use Rattle.concrete_syntax.specs.Trees.{Operand, operand_at, name, operation, division, Tail, ended, further, Expression, Name, assigns, steps, Value, evaluates, answers}
use Rattle.source_syntax.specs.declared.opening.EndOpening.{EndOpening}
use Rattle.source_syntax.specs.declared.opening.LinkOpening.TheVariants as Link
use Rattle.source_syntax.specs.Language.{Rest, link_opening}
use Rattle.source_syntax.specs.Openings.{opening_of_operand, opening_of_end, is_name}
use Rattle.source_syntax.specs.Spelling.{sign, leading}
use Rattle.source_syntax.specs.Ends.{Closing, ValueEnd, continues, called, value_of, StatementEnd, does, applied, given, given_value}
use Rattle.source_syntax.specs.Pending.{Pending, exactly, a_name, a_tail, an_expression, an_action, an_initialiser, parts, a_value, a_value_end, a_closing, arguments, further_arguments, a_statement_end, Trees, pieces, grammar, Leads}
use Rattle.source_syntax.specs.Reads.{ReadsValue}
use Rattle.source_syntax.proofs.Expressions.{Same, IsOperand, operand_begins, reads_back}

abbrev Anything : {X : Type 0} → X → Type 0
Anything x = Unit {0}

-- what stands behind the name of a statement: where functions are allowed
module _ (n : ℕ) where
  abbrev pub end_rest : EndOpening → List Pending → List Pending
  end_rest EndOpening.Call S = exactly (leading Sym.OpenParenthesis) (refl, refl) ∷ arguments n ∷ exactly (sign Sym.Semicolon) (refl, refl) ∷ S
  end_rest EndOpening.Value S = exactly (leading Sym.Assign) (refl, refl) ∷ a_value false n ∷ S
  end_rest EndOpening.Action S = an_action n ∷ exactly (sign Sym.Semicolon) (refl, refl) ∷ S

  abbrev pub end_tree : (o : EndOpening) → (S : List Pending) → Trees (end_rest o S) → Trees (a_statement_end true n ∷ S)
  end_tree EndOpening.Call S g = (applied g.1.0, g.1.1.1)
  end_tree EndOpening.Value S g = (given_value g.1.0.0, g.1.1)
  end_tree EndOpening.Action S g = (does g.0, g.1.1)

  pub statement_ends : (S : List Pending) → Choice grammar (a_statement_end true n ∷ S) opening_of_end Anything (λ o. end_rest o S) (λ o. end_tree o S)
  statement_ends S = record { spells = spells; view = view }
    where
      value_spells : (value : Value) (rest : Trees S)
          → pieces (a_statement_end true n ∷ S) (given_value value, rest) ≡ pieces (end_rest EndOpening.Value S) (tt, ((value, tt), rest))
      value_spells (evaluates e) rest = refl
      value_spells (answers c) rest = refl

      spells : (o : EndOpening) → (g : Trees (end_rest o S)) → pieces (a_statement_end true n ∷ S) (end_tree o S g) ≡ pieces (end_rest o S) g
      spells EndOpening.Value g = value_spells g.1.0.0 g.1.1
      spells _ g = refl

      view : (f : Trees (a_statement_end true n ∷ S))
          → Way grammar (a_statement_end true n ∷ S) Anything (λ o. end_rest o S) (λ o. end_tree o S) (opening_of_end (begins grammar (a_statement_end true n ∷ S) f)) f
      view (does (assigns Assignment.Assign e), rest) = (tt, (tt, ((evaluates e, tt), rest)), refl)
      view (does (steps Step.Increment), rest) = (tt, (steps Step.Increment, (tt, rest)), refl)
      view (does action, rest) = (tt, (action, (tt, rest)), refl)
      view (applied all, rest) = (tt, (tt, (all, (tt, rest))), refl)
      view (given c, rest) = (tt, (tt, ((answers c, tt), rest)), refl)

  -- and where they aren't
  pub no_calls : (c : ℕ) (S : List Pending) (from : Rest)
      → Leads c (a_statement_end false n ∷ S) from c (an_action n ∷ exactly (sign Sym.Semicolon) (refl, refl) ∷ S) from (λ g. (does g.0, g.1.1))
  no_calls c S from =
      turns Anything (λ g. refl) (λ f fits any. view f.0 f.1 fits) tt
    where
      view : (end : StatementEnd) (rest : Trees S) → Fits from.number (pieces (a_statement_end false n ∷ S) (end, rest))
          → (g : Trees (an_action n ∷ exactly (sign Sym.Semicolon) (refl, refl) ∷ S)) × Same (a_statement_end false n ∷ S) (end, rest) (does g.0, g.1.1)
      view (does action) rest fits = ((action, (tt, rest)), refl)
      view (applied all) rest fits = absurd fits.0
      view (given c) rest fits = absurd fits.1.0

-- what stands behind a value
module _ (n c : ℕ) (S : List Pending) (from : Rest) where
  pub closes_statement : Leads c (a_closing false n ∷ S) from c (exactly (sign Sym.Semicolon) (refl, refl) ∷ S) from (λ g. (tt, g.1))
  closes_statement = becomes (λ g. refl) (λ f. ((tt, f.1), refl))

  pub closes_part : Leads c (a_closing true n ∷ S) from c (parts true n ∷ S) from (λ g. g)
  closes_part = becomes (λ g. refl) (λ f. (f, refl))

  pub initialiser_goes : Leads c (an_initialiser true n ∷ S) from c (a_value true n ∷ S) from (λ g. g)
  initialiser_goes = becomes (λ g. refl) (λ f. (f, refl))

-- the right side of an `=`
module _ (initialises : Bool) (n : ℕ) where
  abbrev pub value_rest : Bool → List Pending → List Pending
  value_rest true S = a_name ∷ a_value_end initialises n ∷ S
  value_rest false S = an_expression n ∷ a_closing initialises n ∷ S

  abbrev pub value_tree : (o : Bool) → (S : List Pending) → Trees (value_rest o S) → Trees (a_value initialises n ∷ S)
  value_tree true S g = ((value_of g.0 g.1.0.0, g.1.0.1), g.1.1)
  value_tree false S g = ((evaluates g.0, g.1.0), g.1.1)

  abbrev IsMade : (S : List Pending) → Value → Closing initialises → Trees S → Type 0
  IsMade S value end rest =
      Way grammar (a_value initialises n ∷ S) Anything (λ o. value_rest o S) (λ o. value_tree o S)
      (is_name (begins grammar (a_value initialises n ∷ S) ((value, end), rest))) ((value, end), rest)

  pub values : (S : List Pending) → Choice grammar (a_value initialises n ∷ S) is_name Anything (λ o. value_rest o S) (λ o. value_tree o S)
  values S = record { spells = spells; view = λ f. view f.0.0 f.0.1 f.1 }
    where
      named_spells : (x : Name) (named : ValueEnd) (end : Closing initialises) (rest : Trees S)
          → pieces (a_value initialises n ∷ S) ((value_of x named, end), rest) ≡ pieces (a_name ∷ a_value_end initialises n ∷ S) (x, ((named, end), rest))
      named_spells x (continues t) end rest = refl
      named_spells x (called all) end rest = refl

      spells : (o : Bool) → (g : Trees (value_rest o S)) → pieces (a_value initialises n ∷ S) (value_tree o S g) ≡ pieces (value_rest o S) g
      spells true g = named_spells g.0 g.1.0.0 g.1.0.1 g.1.1
      spells false g = refl

      opened : (e : Operand) (t : Tail) (end : Closing initialises) (rest : Trees S) → IsMade S (evaluates (record { operand = e; tail = t })) end rest
      opened (operand_at at (name x)) t end rest = (tt, (record { at = at; bytes = x }, ((continues t, end), rest)), refl)
      opened e t end rest = (tt, (record { operand = e; tail = t }, (end, rest)), refl)

      view : (v : Value) (end : Closing initialises) (rest : Trees S) → IsMade S v end rest
      view (evaluates e) end rest = opened e.operand e.tail end rest
      view (answers c) end rest = (tt, (c.function, ((called c.arguments, end), rest)), refl)

  -- the rest of an expression doesn't begin with a `(`, nor does what stands behind it
  pub closing_begins : (S : List Pending) (end : Closing initialises) (rest : Trees S)
      → begins grammar (a_closing initialises n ∷ S) (end, rest) ≢ Some (symbol Sym.OpenParenthesis)
  closing_begins S end rest e = by_kind initialises end e
    where
      by_kind : (initialises : Bool) (end : Closing initialises) → begins grammar (a_closing initialises n ∷ S) (end, rest) ≡ Some (symbol Sym.OpenParenthesis) → ⊥
      by_kind true [] e = cc
      by_kind true (part ∷ more) e = cc
      by_kind false end e = cc

  pub tail_begins : (S : List Pending) (t : Tail) (end : Closing initialises) (rest : Trees S)
      → begins grammar (a_value_end initialises n ∷ S) ((continues t, end), rest) ≢ Some (symbol Sym.OpenParenthesis)
  tail_begins S ended end rest e = closing_begins S end rest e
  tail_begins S (further (operation op x) more) end rest e = absurd (let both = sym (reads_back (Link.Operation op)) ∙ ap link_opening e in cc)
  tail_begins S (further (division sign d) more) end rest e = absurd (let both = sym (reads_back (Link.Division sign)) ∙ ap link_opening e in cc)

  -- behind a name: arguments, or the rest of an expression
  pub value_ends : (S : List Pending)
      → Fork grammar (a_value_end initialises n ∷ S) (leading Sym.OpenParenthesis) (arguments n ∷ a_closing initialises n ∷ S) (λ g. ((called g.0, g.1.0), g.1.1))
      (a_tail n ∷ a_closing initialises n ∷ S) (λ g. ((continues g.0, g.1.0), g.1.1))
  value_ends S = record { spells = λ g. refl; spells_other = λ g. refl; view = λ f. view f.0.0 f.0.1 f.1 }
    where
      view : (named : ValueEnd) (end : Closing initialises) (rest : Trees S) → Sides grammar (a_value_end initialises n ∷ S) (leading Sym.OpenParenthesis)
          (arguments n ∷ a_closing initialises n ∷ S) (λ g. ((called g.0, g.1.0), g.1.1))
          (a_tail n ∷ a_closing initialises n ∷ S) (λ g. ((continues g.0, g.1.0), g.1.1)) ((named, end), rest)
      view (called all) end rest = inl ((all, (end, rest)), refl)
      view (continues t) end rest = inr ((t, (end, rest)), refl, tail_begins S t end rest)

-- a value that is told by an equation
pub told_value : {n : ℕ} {v w : Value} {from to : Rest} → v ≡ w → ReadsValue n w from to → ReadsValue n v from to
told_value {n} {v} {w} {from} {to} e r = subst (λ v. ReadsValue n v from to) (sym e) r

module _ (n : ℕ) (S : List Pending) where
  -- arguments
  pub argument_begins : (e : Expression) (more : List Expression) (rest : Trees S) → begins grammar (arguments n ∷ S) (e ∷ more, rest) ≢ Some (symbol Sym.CloseParenthesis)
  argument_begins e more rest is =
      subst (λ next. IsOperand (opening_of_operand next)) is (operand_begins n (a_tail n ∷ further_arguments n ∷ S) e.operand (e.tail, (more, rest)))

  pub first_arguments : Fork grammar (arguments n ∷ S) (sign Sym.CloseParenthesis) S (λ g. ([], g)) (an_expression n ∷ further_arguments n ∷ S) (λ g. (g.0 ∷ g.1.0, g.1.1))
  first_arguments = record { spells = λ g. refl; spells_other = λ g. refl; view = λ f. view f.0 f.1 }
    where
      view : (all : List Expression) (rest : Trees S) → Sides grammar (arguments n ∷ S) (sign Sym.CloseParenthesis) S (λ g. ([], g))
          (an_expression n ∷ further_arguments n ∷ S) (λ g. (g.0 ∷ g.1.0, g.1.1)) (all, rest)
      view [] rest = inl (rest, refl)
      view (e ∷ more) rest = inr ((e, (more, rest)), refl, argument_begins e more rest)

  pub more_arguments : Fork grammar (further_arguments n ∷ S) (leading Sym.Comma) (an_expression n ∷ further_arguments n ∷ S) (λ g. (g.0 ∷ g.1.0, g.1.1))
      (exactly (sign Sym.CloseParenthesis) (refl, refl) ∷ S) (λ g. ([], g.1))
  more_arguments = record { spells = λ g. refl; spells_other = λ g. refl; view = λ f. view f.0 f.1 }
    where
      view : (all : List Expression) (rest : Trees S) → Sides grammar (further_arguments n ∷ S) (leading Sym.Comma) (an_expression n ∷ further_arguments n ∷ S)
          (λ g. (g.0 ∷ g.1.0, g.1.1)) (exactly (sign Sym.CloseParenthesis) (refl, refl) ∷ S) (λ g. ([], g.1)) (all, rest)
      view (e ∷ more) rest = inl ((e, (more, rest)), refl)
      view [] rest = inr ((tt, rest), refl, λ e. cc)
