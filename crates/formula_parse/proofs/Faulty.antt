-- A text has one fault.
use Rattle.std.proofs.Common.{◌≡◌, ℕ, ◌<◌, ◌≤◌, List, Option, None, Some, length, refl, sym, ap, ◌∙◌, subst, arith}
use Rattle.std.proofs.lemmas.Option.{none-some, same_Some}
use Rattle.derivation.specs.declared.rule.Rule.{Rule as SyntaxRule}
use Rattle.source_lex.specs.Laws.{TokensAreUnique}
use Rattle.source_lex.specs.declared.fault.LexFault.{LexFault}
use Rattle.source_lex.specs.declared.fault.LexFault.TheVariants.{BadByte, BigNumber, OpenComment, Memory as LexMemory}
use Rattle.derivation.specs.declared.fault.SyntaxFault.{SyntaxFault}
use Rattle.derivation.specs.declared.fault.SyntaxFault.TheVariants as S
use Rattle.formula_syntax.specs.Trees.{Formula}
use Rattle.formula_syntax.specs.Laws.{IsMemory as IsSyntaxMemory, IsSameFault as IsSameSyntaxFault, FormulasHaveNoFault as SyntaxHasNoFault, TreesAreUnique, FirstFaultsAgree}
use Rattle.formula_syntax.specs.Texts.{IsFaultOf as IsSyntaxFaultOf, offset_in}
use Rattle.formula_parse.specs.declared.fault.FormulaFault.{FormulaFault}
use Rattle.formula_parse.specs.declared.fault.FormulaFault.TheVariants.{Lex, Expected, Unknown, NotAffine, Limit, Memory}
use Rattle.formula_parse.specs.declared.fault.FormulaLimit.{FormulaLimit}
use Rattle.formula_parse.specs.FaultOf.{HasNamesFault, FirstIsUnknown, FirstIsAtom, IsFaultOf}
use Rattle.formula_parse.specs.Laws.{FaultsAgree, numbered}
use Rattle.formula_parse.proofs.Firsts.{one_break}

-- the numbers of the faults of tokens and of syntax
abbrev rule_number : SyntaxRule → ℕ
rule_number SyntaxRule.Expected = 4
rule_number SyntaxRule.Nesting = 10
rule_number SyntaxRule.Operators = 11

abbrev syntax_numbered : SyntaxFault → Option (ℕ × ℕ)
syntax_numbered (S.Lex (BadByte at)) = Some (1, at)
syntax_numbered (S.Lex (BigNumber at)) = Some (2, at)
syntax_numbered (S.Lex (OpenComment at)) = Some (3, at)
syntax_numbered (S.Lex (LexMemory error)) = None
syntax_numbered (S.Broken rule at) = Some (rule_number rule, at)
syntax_numbered (S.Memory error) = None

-- what a fault of a text is
data Kind (text : List ℕ) (names : List (List ℕ)) (fault : FormulaFault) : Type 0 where
  of_bytes : 4096 < length text → numbered fault ≡ Some (14, 4096) → Kind text names fault
  of_syntax : (s : SyntaxFault) → length text ≤ 4096 → IsSyntaxFaultOf text s → numbered fault ≡ syntax_numbered s → Kind text names fault
  of_unknown : (at : ℕ) → HasNamesFault text (FirstIsUnknown names) at → numbered fault ≡ Some (5, at) → Kind text names fault
  of_atom : (at : ℕ) → HasNamesFault text (FirstIsAtom names) at → numbered fault ≡ Some (16, at) → Kind text names fault
  of_memory : numbered fault ≡ None → Kind text names fault

lex_number : (f : LexFault) → numbered (Lex f) ≡ syntax_numbered (S.Lex f)
lex_number (BadByte at) = refl
lex_number (BigNumber at) = refl
lex_number (OpenComment at) = refl
lex_number (LexMemory error) = refl

kind : (text : List ℕ) (names : List (List ℕ)) (fault : FormulaFault) → IsFaultOf text names fault → Kind text names fault
kind text names (Lex f) is = of_syntax (S.Lex f) is.0 is.1 (lex_number f)
kind text names (Expected at) is = of_syntax (S.Broken SyntaxRule.Expected at) is.0 is.1 refl
kind text names (Unknown at) is = of_unknown at is refl
kind text names (NotAffine at) is = of_atom at is refl
kind text names (Limit FormulaLimit.Bytes at count) is = of_bytes is.0 (ap (λ n. Some (14, n)) is.1)
kind text names (Limit FormulaLimit.Nesting at count) is = of_syntax (S.Broken SyntaxRule.Nesting at) is.0 is.1 refl
kind text names (Limit FormulaLimit.Operators at count) is = of_syntax (S.Broken SyntaxRule.Operators at) is.0 is.1 refl
kind text names (Memory error) is = of_memory refl

told_same : (s t : SyntaxFault) (x y : ℕ × ℕ) → s ≡ t → syntax_numbered s ≡ Some x → syntax_numbered t ≡ Some y → x ≡ y
told_same s t x y same first second = same_Some x y (sym first ∙ ap syntax_numbered same ∙ second)

same_syntax : (s t : SyntaxFault) (x y : ℕ × ℕ) → IsSameSyntaxFault s t → syntax_numbered s ≡ Some x → syntax_numbered t ≡ Some y → x ≡ y
same_syntax (S.Memory error) t x y same first second = absurd (none-some x first)
same_syntax (S.Lex f) (S.Memory error) x y same first second = absurd (none-some y second)
same_syntax (S.Broken rule at) (S.Memory error) x y same first second = absurd (none-some y second)
same_syntax (S.Lex f) (S.Lex g) x y same first second = told_same _ _ x y same first second
same_syntax (S.Lex f) (S.Broken rule at) x y same first second = told_same _ _ x y same first second
same_syntax (S.Broken rule at) (S.Lex g) x y same first second = told_same _ _ x y same first second
same_syntax (S.Broken rule at) (S.Broken other offset) x y same first second = told_same _ _ x y same first second

-- want of memory has no number
memory_number : (s : SyntaxFault) (x : ℕ × ℕ) → IsSyntaxMemory s → syntax_numbered s ≡ Some x → ⊥
memory_number (S.Memory error) x is told = none-some x told
memory_number (S.Lex f) x is told = is
memory_number (S.Broken rule at) x is told = is

-- two tokens of one text
module _ (unique : TreesAreUnique) (tokens : TokensAreUnique) (text : List ℕ) (names : List (List ℕ)) where
  same_at : (First Other : Formula → ℕ → Type 0) → ((t : Formula) (a b : ℕ) → First t a → Other t b → a ≡ b) → (at offset : ℕ)
      → HasNamesFault text First at → HasNamesFault text Other offset → at ≡ offset
  same_at First Other agree at offset h k =
      let trees = unique text k.tree h.tree k.spelled h.spelled in
      let lists = tokens text k.tokens h.tokens k.lexed h.lexed in
      let there : Other h.tree k.token = subst (λ t. Other t k.token) trees k.first in
      h.offset ∙ ap (λ n. offset_in text h.tokens n) (agree h.tree h.token k.token h.first there) ∙ ap (λ ts. offset_in text ts k.token) (sym lists) ∙ sym k.offset

  never_both : (at offset : ℕ) → HasNamesFault text (FirstIsUnknown names) at → HasNamesFault text (FirstIsAtom names) offset → ⊥
  never_both at offset h k =
      let trees = unique text k.tree h.tree k.spelled h.spelled in
      let there : FirstIsAtom names h.tree k.token = subst (λ t. FirstIsAtom names t k.token) trees k.first in
      let one = h.first.before k.token there.breaks in
      let two = there.before h.token h.first.unknown in
      omega (arith, one, two)

  unknown_one : (t : Formula) (a b : ℕ) → FirstIsUnknown names t a → FirstIsUnknown names t b → a ≡ b
  unknown_one t a b h k = same_Some a b (sym h.unknown ∙ k.unknown)

  atom_one : (t : Formula) (a b : ℕ) → FirstIsAtom names t a → FirstIsAtom names t b → a ≡ b
  atom_one t a b h k = one_break names t a b h.breaks k.breaks

  module _ (clean : SyntaxHasNoFault) (law : FirstFaultsAgree) (fault other : FormulaFault) (x y : ℕ × ℕ)
      (told : numbered fault ≡ Some x) (tells : numbered other ≡ Some y) where
    same_number : (p q : ℕ × ℕ) → numbered fault ≡ Some p → numbered other ≡ Some q → p ≡ q → x ≡ y
    same_number p q e i same = same_Some x y (sym told ∙ e ∙ ap Some same ∙ sym i ∙ tells)

    agree : Kind text names fault → Kind text names other → x ≡ y
    agree (of_memory none) second = absurd (none-some x (sym none ∙ told))
    agree first (of_memory none) = absurd (none-some y (sym none ∙ tells))
    agree (of_bytes long e) (of_bytes larger i) = same_number _ _ e i refl
    agree (of_bytes long e) (of_syntax t short at i) = absurd (omega (arith, long, short))
    agree (of_bytes long e) (of_unknown at h i) = absurd (let short = h.short in omega (arith, long, short))
    agree (of_bytes long e) (of_atom at h i) = absurd (let short = h.short in omega (arith, long, short))
    agree (of_syntax s short is e) (of_bytes long i) = absurd (omega (arith, long, short))
    agree (of_syntax s short is e) (of_syntax t small at i) = same_syntax s t x y (law text s t is at) (sym e ∙ told) (sym i ∙ tells)
    agree (of_syntax s short is e) (of_unknown at h i) = absurd (memory_number s x (clean text h.tree s h.spelled is) (sym e ∙ told))
    agree (of_syntax s short is e) (of_atom at h i) = absurd (memory_number s x (clean text h.tree s h.spelled is) (sym e ∙ told))
    agree (of_unknown at h e) (of_bytes long i) = absurd (let short = h.short in omega (arith, long, short))
    agree (of_unknown at h e) (of_syntax s short is i) = absurd (memory_number s y (clean text h.tree s h.spelled is) (sym i ∙ tells))
    agree (of_unknown at h e) (of_unknown offset k i) =
        same_number _ _ e i (ap (λ n. (5, n)) (same_at (FirstIsUnknown names) (FirstIsUnknown names) unknown_one at offset h k))
    agree (of_unknown at h e) (of_atom offset k i) = absurd (never_both at offset h k)
    agree (of_atom at h e) (of_bytes long i) = absurd (let short = h.short in omega (arith, long, short))
    agree (of_atom at h e) (of_syntax s short is i) = absurd (memory_number s y (clean text h.tree s h.spelled is) (sym i ∙ tells))
    agree (of_atom at h e) (of_unknown offset k i) = absurd (never_both offset at k h)
    agree (of_atom at h e) (of_atom offset k i) =
        same_number _ _ e i (ap (λ n. (16, n)) (same_at (FirstIsAtom names) (FirstIsAtom names) atom_one at offset h k))

pub one_fault : TreesAreUnique → TokensAreUnique → SyntaxHasNoFault → FirstFaultsAgree → FaultsAgree
one_fault unique tokens clean law text names fault other x y first second told tells =
    agree unique tokens text names clean law fault other x y told tells (kind text names fault first) (kind text names other second)
