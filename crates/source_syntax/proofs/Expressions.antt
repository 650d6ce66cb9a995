-- How the reading of expressions goes on, by the next word.
use Rattle.std.proofs.Common.{◌≡◌, inl, inr, ℕ, ◌+◌, ℤ, List, ◌∷◌, Option, None, Some, Bool, true, false, refl, sym, ap, ◌∙◌}
use Rattle.concrete_syntax.specs.declared.sign.Division.{Division}
use Rattle.concrete_syntax.specs.declared.sign.Operator.{Operator}
use Rattle.derivation.specs.declared.symbol.Symbol.TheVariants as Sym
use Rattle.derivation.specs.Word.{symbol, name as named, number as numbered}
use Rattle.derivation.specs.Pieces.{token, first, Fits}
use Rattle.source_syntax.specs.Language.{Token, Rest, link_opening, no_operator, IsQuiet}
use Rattle.source_syntax.specs.declared.opening.LinkOpening.{LinkOpening}
use Rattle.source_syntax.specs.declared.opening.LinkOpening.TheVariants as Link
use Rattle.source_syntax.specs.Reads.{right_of, link_of}
use Rattle.source_syntax.proofs.Words.{link_sign}
use Rattle.source_syntax.specs.Pending.{Leads, Pending, exactly, a_name, bytes_of_a_name, a_size, an_end, a_number, a_place, a_divisor, an_operand, an_operand_kind, a_tail, an_expression, Trees, pieces, grammar}
use Rattle.derivation.proofs.Grammars.{looks, becomes, Headed}
use Rattle.concrete_syntax.specs.declared.sign.Prefix.{Prefix}
use Rattle.source_syntax.specs.declared.opening.OperandOpening.{OperandOpening}
use Rattle.source_syntax.specs.declared.opening.SizeOpening.{SizeOpening}
use Rattle.source_syntax.specs.Openings.{opening_of_operand, size_opening}
use Rattle.concrete_syntax.specs.Trees.{Operand, operand_at, OperandKind, number, name, truth, unknown, call, signed, parentheses, range, operation, division, Tail, ended, further}
use Rattle.source_syntax.specs.Spelling.{plain, sign, opening, counted, prefix_sign, truth_word}
use Rattle.source_syntax.proofs.Completions.{lawful}
use Rattle.derivation.proofs.Choices.{begins, Way, Choice, Sides, Fork, Held}

abbrev pub Same : (all : List Pending) → Trees all → Trees all → Type 0
Same all x y = x ≡ y

-- a token that has to stand here
pub tokens : (t : Token) (quiet : IsQuiet (Some t.word)) (S : List Pending) → Headed grammar (exactly t quiet ∷ S) t S (λ g. (tt, g))
tokens t quiet S = record { spells = λ g. refl; view = λ n f fits next. (f.1, refl) }

-- the number of the next token
pub places : (S : List Pending) → Held lawful (a_place ∷ S) (λ m. S) (λ m g. (m, g))
places S = record { spells = λ m g. refl; view = λ f. (f.0, f.1, refl) }

-- names
pub names : (S : List Pending) → Held lawful (a_name ∷ S) (λ m. bytes_of_a_name ∷ S) (λ m g. (record { at = m; bytes = g.0 }, g.1))
names S = record { spells = λ m g. refl; view = λ f. (f.0.at, (f.0.bytes, f.1), refl) }

pub name_bytes : (x : List ℕ) (S : List Pending) → Headed grammar (bytes_of_a_name ∷ S) (plain (named x)) S (λ g. (x, g))
name_bytes x S = record { spells = λ g. refl; view = λ n f fits next. (f.1, let same : f.0 ≡ x = cc in ap (λ y. (y, f.1)) same) }

-- numbers
pub numbers : (z : ℤ) (S : List Pending) → Headed grammar (a_number ∷ S) (plain (numbered z)) S (λ g. (z, g))
numbers z S = record { spells = λ g. refl; view = λ n f fits next. (f.1, let same : f.0 ≡ z = cc in ap (λ y. (y, f.1)) same) }

-- a divisor, with a `-` and without
module _ (S : List Pending) where
  abbrev pub divisor_of : Bool → Trees (a_place ∷ a_number ∷ S) → Trees (a_divisor ∷ S)
  divisor_of negative g = (record { negative = negative; at = g.0; size = g.1.0 }, g.1.1)

  pub divisors : Fork grammar (a_divisor ∷ S) (sign Sym.Minus) (a_place ∷ a_number ∷ S) (divisor_of true) (a_place ∷ a_number ∷ S) (divisor_of false)
  divisors = record { spells = λ g. refl; spells_other = λ g. refl; view = λ f. view f.0.negative (f.0.at, (f.0.size, f.1)) }
    where
      view : (negative : Bool) (g : Trees (a_place ∷ a_number ∷ S))
          → Sides grammar (a_divisor ∷ S) (sign Sym.Minus) (a_place ∷ a_number ∷ S) (divisor_of true) (a_place ∷ a_number ∷ S) (divisor_of false) (divisor_of negative g)
      view true g = inl (g, refl)
      view false g = inr (g, refl, λ e. cc)

-- the end of a range
abbrev pub IsSize : SizeOpening → Type 0
IsSize SizeOpening.Nothing = ⊥
IsSize _ = Unit {0}

abbrev pub size_rest : SizeOpening → List Pending → List Pending
size_rest (SizeOpening.Number z) S = exactly (plain (numbered z)) (refl, refl) ∷ S
size_rest SizeOpening.Infinite S = exactly (sign Sym.Infinite) (refl, refl) ∷ S
size_rest SizeOpening.Nothing S = a_size ∷ S

abbrev pub size_tree : (o : SizeOpening) → (S : List Pending) → Trees (size_rest o S) → Trees (a_size ∷ S)
size_tree (SizeOpening.Number z) S g = (Some z, g.1)
size_tree SizeOpening.Infinite S g = (None, g.1)
size_tree SizeOpening.Nothing S g = g

module _ (S : List Pending) where
  pub sizes : Choice grammar (a_size ∷ S) size_opening IsSize (λ o. size_rest o S) (λ o. size_tree o S)
  sizes = record { spells = spells; view = view }
    where
      spells : (o : SizeOpening) → (g : Trees (size_rest o S)) → pieces (a_size ∷ S) (size_tree o S g) ≡ pieces (size_rest o S) g
      spells SizeOpening.Nothing g = refl
      spells _ g = refl

      view : (f : Trees (a_size ∷ S)) → Way grammar (a_size ∷ S) IsSize (λ o. size_rest o S) (λ o. size_tree o S) (size_opening (begins grammar (a_size ∷ S) f)) f
      view (Some z, rest) = (tt, (tt, rest), refl)
      view (None, rest) = (tt, (tt, rest), refl)

  -- with a `-` and without
  pub ends : Fork grammar (an_end ∷ S) (sign Sym.Minus) (a_size ∷ S) (λ g. (record { negative = true; size = g.0 }, g.1))
      (a_size ∷ S) (λ g. (record { negative = false; size = g.0 }, g.1))
  ends = record { spells = λ g. refl; spells_other = λ g. refl; view = λ f. view f.0.negative f.0.size f.1 }
    where
      view : (negative : Bool) (size : Option ℤ) (rest : Trees S)
          → Sides grammar (an_end ∷ S) (sign Sym.Minus) (a_size ∷ S) (λ g. (record { negative = true; size = g.0 }, g.1))
          (a_size ∷ S) (λ g. (record { negative = false; size = g.0 }, g.1)) (record { negative = negative; size = size }, rest)
      view true size rest = inl ((size, rest), refl)
      view false (Some z) rest = inr ((Some z, rest), refl, λ e. cc)
      view false None rest = inr ((None, rest), refl, λ e. cc)

-- an operand
pub truth_quiet : (b : Bool) → IsQuiet (Some (symbol (truth_word b)))
truth_quiet true = (refl, refl)
truth_quiet false = (refl, refl)

abbrev pub IsOperand : OperandOpening → Type 0
IsOperand OperandOpening.Nothing = ⊥
IsOperand _ = Unit {0}

module _ (n : ℕ) where
  abbrev pub operand_rest : OperandOpening → List Pending → List Pending
  operand_rest (OperandOpening.Number z) S = exactly (plain (numbered z)) (refl, refl) ∷ S
  operand_rest OperandOpening.Name S = bytes_of_a_name ∷ S
  operand_rest (OperandOpening.Truth b) S = exactly (sign (truth_word b)) (truth_quiet b) ∷ S
  operand_rest OperandOpening.Unknown S = exactly (sign Sym.Question) (refl, refl) ∷ S
  operand_rest OperandOpening.Call S =
      exactly (sign Sym.Nondeterministic) (refl, refl) ∷ exactly (opening Sym.OpenParenthesis (n + 1)) (refl, refl)
      ∷ exactly (sign Sym.CloseParenthesis) (refl, refl) ∷ S
  operand_rest (OperandOpening.Signed prefix) S = an_operand_kind n ∷ S
  operand_rest OperandOpening.Parenthesis S =
      exactly (opening Sym.OpenParenthesis (n + 1)) (refl, refl) ∷ an_expression (n + 1) ∷ exactly (sign Sym.CloseParenthesis) (refl, refl) ∷ S
  operand_rest OperandOpening.Bracket S =
      exactly (sign Sym.OpenBracket) (refl, refl) ∷ an_end ∷ exactly (sign Sym.Comma) (refl, refl) ∷ an_end
      ∷ exactly (sign Sym.CloseBracket) (refl, refl) ∷ S
  operand_rest OperandOpening.Nothing S = an_operand_kind n ∷ S

  abbrev pub operand_tree : (o : OperandOpening) → (S : List Pending) → Trees (operand_rest o S) → Trees (an_operand_kind n ∷ S)
  operand_tree (OperandOpening.Number z) S g = (number z, g.1)
  operand_tree OperandOpening.Name S g = (name g.0, g.1)
  operand_tree (OperandOpening.Truth b) S g = (truth b, g.1)
  operand_tree OperandOpening.Unknown S g = (unknown, g.1)
  operand_tree OperandOpening.Call S g = (call, g.1.1.1)
  operand_tree (OperandOpening.Signed prefix) S g = g
  operand_tree OperandOpening.Parenthesis S g = (parentheses g.1.0.operand g.1.0.tail, g.1.1.1)
  operand_tree OperandOpening.Bracket S g = (range g.1.0 g.1.1.1.0, g.1.1.1.1.1)
  operand_tree OperandOpening.Nothing S g = g

  module _ (S : List Pending) where
    pub operands : Choice grammar (an_operand_kind n ∷ S) opening_of_operand IsOperand (λ o. operand_rest o S) (λ o. operand_tree o S)
    operands = record { spells = spells; view = view }
      where
        spells : (o : OperandOpening) → (g : Trees (operand_rest o S)) → pieces (an_operand_kind n ∷ S) (operand_tree o S g) ≡ pieces (operand_rest o S) g
        spells OperandOpening.Nothing g = refl
        spells _ g = refl

        view : (f : Trees (an_operand_kind n ∷ S))
            → Way grammar (an_operand_kind n ∷ S) IsOperand (λ o. operand_rest o S) (λ o. operand_tree o S) (opening_of_operand (begins grammar (an_operand_kind n ∷ S) f)) f
        view (number z, rest) = (tt, (tt, rest), refl)
        view (name x, rest) = (tt, (x, rest), refl)
        view (truth true, rest) = (tt, (tt, rest), refl)
        view (truth false, rest) = (tt, (tt, rest), refl)
        view (unknown, rest) = (tt, (tt, rest), refl)
        view (call, rest) = (tt, (tt, (tt, (tt, rest))), refl)
        view (signed Prefix.Plus t, rest) = (tt, (signed Prefix.Plus t, rest), refl)
        view (signed Prefix.Minus t, rest) = (tt, (signed Prefix.Minus t, rest), refl)
        view (signed Prefix.Not t, rest) = (tt, (signed Prefix.Not t, rest), refl)
        view (parentheses t more, rest) = (tt, (tt, (record { operand = t; tail = more }, (tt, rest))), refl)
        view (range lo hi, rest) = (tt, (tt, (lo, (tt, (hi, (tt, rest))))), refl)

  pub located_operands : (S : List Pending) → Held lawful (an_operand n ∷ S) (λ m. an_operand_kind n ∷ S) (λ m g. (operand_at m g.0, g.1))
  located_operands S = record { spells = λ m g. refl; view = λ f. view f.0 f.1 }
    where
      view : (e : Operand) (rest : Trees S) → (m : ℕ) × (g : Trees (an_operand_kind n ∷ S)) × Same (an_operand n ∷ S) (e, rest) (operand_at m g.0, g.1)
      view (operand_at m kind) rest = (m, (kind, rest), refl)

  pub operand_begins : (S : List Pending) (e : Operand) (rest : Trees S) → IsOperand (opening_of_operand (begins grammar (an_operand n ∷ S) (e, rest)))
  operand_begins S (operand_at m kind) rest = ((operands S).view (kind, rest)).0

  -- operands that begin with a sign
  opening_of_prefix : (p : Prefix) → opening_of_operand (Some (symbol (prefix_sign p))) ≡ OperandOpening.Signed p
  opening_of_prefix Prefix.Plus = refl
  opening_of_prefix Prefix.Minus = refl
  opening_of_prefix Prefix.Not = refl

  pub prefixes : (S : List Pending) (prefix : Prefix)
      → Headed grammar (an_operand_kind n ∷ S) (opening (prefix_sign prefix) (n + 1)) (an_operand (n + 1) ∷ S) (λ g. (signed prefix g.0, g.1))
  prefixes S prefix = record { spells = λ g. refl; view = λ m f fits next. view f.0 f.1 (ap opening_of_operand next ∙ opening_of_prefix prefix) }
    where
      view : (t : OperandKind) (rest : Trees S) → opening_of_operand (begins grammar (an_operand_kind n ∷ S) (t, rest)) ≡ OperandOpening.Signed prefix
          → (g : Trees (an_operand (n + 1) ∷ S)) × Same (an_operand_kind n ∷ S) (t, rest) (signed prefix g.0, g.1)
      view (signed Prefix.Plus t) rest e = ((t, rest), let same : Prefix.Plus ≡ prefix = cc in ap (λ p. (signed p t, rest)) same)
      view (signed Prefix.Minus t) rest e = ((t, rest), let same : Prefix.Minus ≡ prefix = cc in ap (λ p. (signed p t, rest)) same)
      view (signed Prefix.Not t) rest e = ((t, rest), let same : Prefix.Not ≡ prefix = cc in ap (λ p. (signed p t, rest)) same)
      view (truth true) rest e = absurd (cc)
      view (truth false) rest e = absurd (cc)
      view _ rest e = absurd (cc)

-- the links behind the first operand
pub reads_back : (o : LinkOpening) → link_opening (Some (symbol (link_sign o))) ≡ Some o
reads_back (Link.Operation Operator.Add) = refl
reads_back (Link.Operation _) = refl
reads_back (Link.Division Division.Quotient) = refl
reads_back (Link.Division _) = refl

module _ (n c : ℕ) (S : List Pending) (from : Rest) where
  -- where no operator follows, the expression has ended
  pub tail_ends : None ≡ link_opening (first from.words)
      → Leads c ((a_tail n ∷ S)) from c S from (λ g. (ended, g))
  tail_ends e =
      looks (λ next. link_opening next ≡ None) no_operator (sym e) (λ g. refl) (λ f fits none. view f.0 f.1 none) (sym e)
    where
      view : (t : Tail) (rest : Trees S) → link_opening (begins grammar (a_tail n ∷ S) (t, rest)) ≡ None
          → (g : Trees S) × Same (a_tail n ∷ S) (t, rest) (ended, g)
      view ended rest none = (rest, refl)
      view (further (operation op t) more) rest none = absurd (let both = sym (reads_back (Link.Operation op)) ∙ none in cc)
      view (further (division sign d) more) rest none = absurd (let both = sym (reads_back (Link.Division sign)) ∙ none in cc)

  -- an expression is an operand and what stands behind it
  pub expression_goes : Leads c ((an_expression n ∷ S)) from c ((an_operand n ∷ a_tail n ∷ S)) from
      (λ g. (record { operand = g.0; tail = g.1.0 }, g.1.1))
  expression_goes = becomes (λ g. refl) (λ f. ((f.0.operand, (f.0.tail, f.1)), refl))

-- a tail that begins with a link
module _ (n : ℕ) (S : List Pending) where
  abbrev pub tail_with : (o : LinkOpening) → Trees (right_of n o ∷ a_tail n ∷ S) → Trees (a_tail n ∷ S)
  tail_with o g = (further (link_of n o g.0) g.1.0, g.1.1)

  pub link_signs : (o : LinkOpening) → Headed grammar (a_tail n ∷ S) (counted (link_sign o)) (right_of n o ∷ a_tail n ∷ S) (tail_with o)
  link_signs o = record { spells = spells o; view = λ m f fits next. view m o f.0 f.1 fits (ap link_opening next ∙ reads_back o) }
    where
      spells : (o : LinkOpening) (g : Trees (right_of n o ∷ a_tail n ∷ S))
          → pieces (a_tail n ∷ S) (tail_with o g) ≡ token (counted (link_sign o)) ∷ pieces (right_of n o ∷ a_tail n ∷ S) g
      spells (Link.Operation op) g = refl
      spells (Link.Division sign) g = refl

      view : (m : ℕ) (o : LinkOpening) (t : Tail) (rest : Trees S) → Fits m (pieces (a_tail n ∷ S) (t, rest))
          → link_opening (begins grammar (a_tail n ∷ S) (t, rest)) ≡ Some o
          → (g : Trees (right_of n o ∷ a_tail n ∷ S)) × Same (a_tail n ∷ S) (t, rest) (tail_with o g)
      view m o ended rest fits found = absurd (let both = sym fits.0 ∙ found in cc)
      view m (Link.Operation op) (further (operation other t) more) rest fits found = (
        (t, (more, rest)),
        let both : Some (Link.Operation other) ≡ Some (Link.Operation op) = sym (reads_back (Link.Operation other)) ∙ found in
            let same : other ≡ op = cc in ap (λ o. (further (operation o t) more, rest)) same,
      )
      view m (Link.Operation op) (further (division other d) more) rest fits found =
          absurd (let both : Some (Link.Division other) ≡ Some (Link.Operation op) = sym (reads_back (Link.Division other)) ∙ found in cc)
      view m (Link.Division sign) (further (operation other t) more) rest fits found =
          absurd (let both : Some (Link.Operation other) ≡ Some (Link.Division sign) = sym (reads_back (Link.Operation other)) ∙ found in cc)
      view m (Link.Division sign) (further (division other d) more) rest fits found = (
        (d, (more, rest)),
        let both : Some (Link.Division other) ≡ Some (Link.Division sign) = sym (reads_back (Link.Division other)) ∙ found in
            let same : other ≡ sign = cc in ap (λ o. (further (division o d) more, rest)) same,
      )
