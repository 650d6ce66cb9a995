-- How the reading of words, factors and sums goes on, by the next word.
use Rattle.std.proofs.Common.{◌≡◌, ℕ, ◌+◌, List, None, Some, Bool, true, false, refl, sym, ap, ◌∙◌, subst}
use Rattle.derivation.specs.declared.rule.Rule.TheVariants.{Expected}
use Rattle.derivation.specs.Pieces.{first, first_before, Fits}
use Rattle.formula_syntax.specs.declared.sign.Comparison.{Comparison}
use Rattle.formula_syntax.specs.declared.sign.Operator.{Operator}
use Rattle.formula_syntax.specs.declared.sign.Sign.TheVariants as Mark
use Rattle.formula_syntax.specs.declared.opening.FactorOpening.{FactorOpening}
use Rattle.formula_syntax.specs.Words.{sign, name as named, number as numbered}
use Rattle.formula_syntax.specs.Language.{Token, Rest, operator_of, no_operator, IsQuiet}
use Rattle.formula_syntax.specs.Openings.{opening_of_factor, comparison_of, until_of, IsFactor}
use Rattle.formula_syntax.specs.Trees.{Factor, factor_at, FactorKind, number, name, signed, summed, Tail, ended, further, Sum}
use Rattle.formula_syntax.specs.Spelling.{plain, mark, opening, counted, counted_opening, sign_of}
use Rattle.formula_syntax.specs.Pending.{Right, exactly, bytes_of_a_name, a_factor, a_factor_kind, a_tail, a_sum, a_right, an_until, Sequence, first_read, then_read, Trees, pieces, grammar, Leads, Stops}
use Rattle.derivation.proofs.Grammars.{looks, becomes, sticks, Headed}
use Rattle.formula_syntax.proofs.Completions.{lawful}
use Rattle.derivation.proofs.Choices.{begins, Way, Choice, Held}

abbrev pub Same : (all : Sequence) → Trees all → Trees all → Type 0
Same all x y = x ≡ y

-- a token that has to stand here
pub tokens : (t : Token) (quiet : IsQuiet (Some t.word)) (S : Sequence) → Headed grammar (then_read (exactly t quiet) S) t S (λ g. (tt, g))
tokens t quiet S = record { spells = λ g. refl; view = λ n f fits next. (f.1, refl) }

-- names
pub names : (x : List ℕ) (S : List ℕ → Sequence) → Headed grammar (first_read bytes_of_a_name S) (plain (named x)) (S x) (λ g. (x, g))
names x S = record { spells = λ g. refl; view = λ n f fits next. view f.0 f.1 (cc) }
  where
    view : (y : List ℕ) (rest : Trees (S y)) → y ≡ x → (g : Trees (S x)) × Same (first_read bytes_of_a_name S) (y, rest) (x, g)
    view y rest e = subst (λ z. (g : Trees (S z)) × Same (first_read bytes_of_a_name S) (y, rest) (z, g)) e (rest, refl)

-- factors
module _ (n : ℕ) where
  pub located_factors : (S : Factor → Sequence) → Held lawful (first_read (a_factor n) S) (λ m. first_read (a_factor_kind n) (λ kind. S (factor_at m kind)))
      (λ m g. (factor_at m g.0, g.1))
  located_factors S = record { spells = λ m g. refl; view = λ f. view f.0 f.1 }
    where
      view : (e : Factor) (rest : Trees (S e))
          → (m : ℕ) × (g : Trees (first_read (a_factor_kind n) (λ kind. S (factor_at m kind)))) × Same (first_read (a_factor n) S) (e, rest) (factor_at m g.0, g.1)
      view (factor_at m kind) rest = (m, (kind, rest), refl)

  module _ (S : FactorKind → Sequence) where
    abbrev pub factor_rest : FactorOpening → Sequence
    factor_rest (FactorOpening.Number z) = then_read (exactly (plain (numbered z)) (refl, refl)) (S (number z))
    factor_rest FactorOpening.Name = first_read bytes_of_a_name (λ x. S (name x))
    factor_rest (FactorOpening.Signed negative) = first_read (a_factor_kind n) S
    factor_rest FactorOpening.Parenthesis =
        then_read (exactly (opening Mark.OpenParenthesis (n + 1)) (refl, refl)) (first_read (a_sum (n + 1)) (λ s.
        then_read (exactly (mark Mark.CloseParenthesis) (refl, refl)) (S (summed s.factor s.tail))))
    factor_rest FactorOpening.Nothing = first_read (a_factor_kind n) S

    abbrev pub factor_tree : (o : FactorOpening) → Trees (factor_rest o) → Trees (first_read (a_factor_kind n) S)
    factor_tree (FactorOpening.Number z) g = (number z, g.1)
    factor_tree FactorOpening.Name g = (name g.0, g.1)
    factor_tree (FactorOpening.Signed negative) g = g
    factor_tree FactorOpening.Parenthesis g = (summed g.1.0.factor g.1.0.tail, g.1.1.1)
    factor_tree FactorOpening.Nothing g = g

    pub factors : Choice grammar (first_read (a_factor_kind n) S) opening_of_factor IsFactor factor_rest factor_tree
    factors = record { spells = spells; view = λ f. view f.0 f.1 }
      where
        spells : (o : FactorOpening) → (g : Trees (factor_rest o)) → pieces (first_read (a_factor_kind n) S) (factor_tree o g) ≡ pieces (factor_rest o) g
        spells FactorOpening.Nothing g = refl
        spells _ g = refl

        view : (kind : FactorKind) (rest : Trees (S kind))
            → Way grammar (first_read (a_factor_kind n) S) IsFactor factor_rest factor_tree (opening_of_factor (begins grammar (first_read (a_factor_kind n) S) (kind, rest))) (kind, rest)
        view (number z) rest = (tt, (tt, rest), refl)
        view (name x) rest = (tt, (x, rest), refl)
        view (signed true e) rest = (tt, (signed true e, rest), refl)
        view (signed false e) rest = (tt, (signed false e, rest), refl)
        view (summed e more) rest = (tt, (tt, (record { factor = e; tail = more }, (tt, rest))), refl)

    opening_of_sign : (negative : Bool) → opening_of_factor (Some (sign (Mark.Operator (sign_of negative)))) ≡ FactorOpening.Signed negative
    opening_of_sign true = refl
    opening_of_sign false = refl

    -- a sign before a factor
    pub signs : (negative : Bool) → Headed grammar (first_read (a_factor_kind n) S) (counted_opening (Mark.Operator (sign_of negative)) (n + 1))
        (first_read (a_factor (n + 1)) (λ e. S (signed negative e))) (λ g. (signed negative g.0, g.1))
    signs negative = record { spells = λ g. refl; view = λ m f fits next. view negative f.0 f.1 (ap opening_of_factor next ∙ opening_of_sign negative) }
      where
        view : (negative : Bool) (kind : FactorKind) (rest : Trees (S kind))
            → opening_of_factor (begins grammar (first_read (a_factor_kind n) S) (kind, rest)) ≡ FactorOpening.Signed negative
            → (g : Trees (first_read (a_factor (n + 1)) (λ e. S (signed negative e)))) × Same (first_read (a_factor_kind n) S) (kind, rest) (signed negative g.0, g.1)
        view true (signed true t) rest e = ((t, rest), refl)
        view false (signed false t) rest e = ((t, rest), refl)
        view true (signed false t) rest e = absurd (cc)
        view false (signed true t) rest e = absurd (cc)
        view negative (number z) rest e = absurd (cc)
        view negative (name x) rest e = absurd (cc)
        view negative (summed t more) rest e = absurd (cc)

-- what stands behind the first factor of a sum
module _ (n c : ℕ) (S : Tail → Sequence) (from : Rest) where
  pub tail_ends : None ≡ operator_of (first from.words)
      → Leads c (first_read (a_tail n) S) from c (S ended) from (λ g. (ended, g))
  tail_ends e =
      looks (λ next. operator_of next ≡ None) no_operator (sym e) (λ g. refl) (λ f fits none. view f.0 f.1 none) (sym e)
    where
      view : (t : Tail) (rest : Trees (S t)) → operator_of (first_before (pieces (first_read (a_tail n) S) (t, rest)) None) ≡ None
          → (g : Trees (S ended)) × Same (first_read (a_tail n) S) (t, rest) (ended, g)
      view ended rest none = (rest, refl)
      view (further op t more) rest none = absurd (cc)

-- an operator there
module _ (n : ℕ) (S : Tail → Sequence) where
  abbrev operator_rest : Operator → Sequence
  operator_rest op = first_read (a_factor n) (λ e. first_read (a_tail n) (λ t. S (further op e t)))

  pub operators : (op : Operator) → Headed grammar (first_read (a_tail n) S) (counted (Mark.Operator op))
      (first_read (a_factor n) (λ e. first_read (a_tail n) (λ t. S (further op e t)))) (λ g. (further op g.0 g.1.0, g.1.1))
  operators op = record { spells = λ g. refl; view = λ m f fits next. view m f.0 f.1 fits (ap operator_of next) }
    where
      view : (m : ℕ) (t : Tail) (rest : Trees (S t)) → Fits m (pieces (first_read (a_tail n) S) (t, rest))
          → operator_of (begins grammar (first_read (a_tail n) S) (t, rest)) ≡ Some op
          → (g : Trees (operator_rest op)) × Same (first_read (a_tail n) S) (t, rest) (further op g.0 g.1.0, g.1.1)
      view m ended rest fits found = absurd (let both = sym fits.0 ∙ found in cc)
      view m (further other t more) rest fits found =
          let same : other ≡ op = cc in
          subst (λ o. (g : Trees (operator_rest o)) × Same (first_read (a_tail n) S) (further other t more, rest) (further o g.0 g.1.0, g.1.1)) same
          ((t, (more, rest)), refl)

-- a sum is a factor and what stands behind it
pub sum_goes : (n c : ℕ) (S : Sum → Sequence) (from : Rest)
    → Leads c (first_read (a_sum n) S) from c (first_read (a_factor n) (λ e. first_read (a_tail n) (λ t. S (record { factor = e; tail = t })))) from
    (λ g. (record { factor = g.0; tail = g.1.0 }, g.1.1))
sum_goes n c S from = becomes (λ g. refl) (λ f. ((f.0.factor, (f.0.tail, f.1)), refl))

-- a comparison and the sum at its right
module _ (n : ℕ) (S : Right → Sequence) where
  abbrev right_rest : Comparison → Sequence
  right_rest comparison = first_read (a_sum n) (λ s. S (record { comparison = comparison; sum = s }))

  pub rights : (comparison : Comparison) → Headed grammar (first_read (a_right n) S) (counted (Mark.Comparison comparison))
      (first_read (a_sum n) (λ s. S (record { comparison = comparison; sum = s }))) (λ g. (record { comparison = comparison; sum = g.0 }, g.1))
  rights comparison = record { spells = λ g. refl; view = λ m f fits next. view f.0 f.1 (ap comparison_of next) }
    where
      view : (r : Right) (rest : Trees (S r)) → comparison_of (begins grammar (first_read (a_right n) S) (r, rest)) ≡ Some comparison
          → (g : Trees (right_rest comparison)) × Same (first_read (a_right n) S) (r, rest) (record { comparison = comparison; sum = g.0 }, g.1)
      view r rest found =
          let same : r.comparison ≡ comparison = cc in
          subst (λ x. (g : Trees (right_rest x)) × Same (first_read (a_right n) S) (r, rest) (record { comparison = x; sum = g.0 }, g.1)) same
          ((r.sum, rest), refl)

  pub right_missing : (c : ℕ) (from : Rest) → None ≡ comparison_of (first from.words) → Stops c (first_read (a_right n) S) from Expected from
  right_missing c from e = sticks lawful (first_read (a_right n) S) c from (λ next. comparison_of next ≡ None) (λ f fits none. cc) (sym e)

-- `U` or `W`
module _ (S : Bool → Sequence) where
  pub untils : (weak : Bool) → Headed grammar (first_read an_until S) (mark (Mark.Until weak)) (S weak) (λ g. (weak, g))
  untils weak = record { spells = λ g. refl; view = λ n f fits next. view f.0 f.1 (ap until_of next) }
    where
      view : (other : Bool) (rest : Trees (S other)) → Some other ≡ Some weak → (g : Trees (S weak)) × Same (first_read an_until S) (other, rest) (weak, g)
      view other rest found =
          let same : other ≡ weak = cc in
          subst (λ x. (g : Trees (S x)) × Same (first_read an_until S) (other, rest) (x, g)) same (rest, refl)

  pub until_missing : (c : ℕ) (from : Rest) → None ≡ until_of (first from.words) → Stops c (first_read an_until S) from Expected from
  until_missing c from e = sticks lawful (first_read an_until S) c from (λ next. until_of next ≡ None) (λ f fits none. cc) (sym e)
