-- A text has one fault.
use Rattle.std.proofs.Common.{◌≡◌, ℕ, Bool, List, Option, None, Some, refl, sym, ap, ◌∙◌, subst}
use Rattle.std.proofs.lemmas.Option.{none-some, same_Some}
use Rattle.derivation.specs.declared.rule.Rule.{Rule as SyntaxRule}
use Rattle.source_lex.specs.Laws.{TokensAreUnique}
use Rattle.source_lex.specs.declared.fault.LexFault.{LexFault}
use Rattle.source_lex.specs.declared.fault.LexFault.TheVariants.{BadByte, BigNumber, OpenComment, Memory as LexMemory}
use Rattle.derivation.specs.declared.fault.SyntaxFault.{SyntaxFault}
use Rattle.derivation.specs.declared.fault.SyntaxFault.TheVariants as S
use Rattle.source_syntax.specs.Laws.{IsMemory as IsSyntaxMemory, IsSameFault as IsSameSyntaxFault, ProgramsHaveNoFault as SyntaxHasNoFault, TreesAreUnique, FirstFaultsAgree}
use Rattle.source_syntax.specs.Texts.{IsFaultOf as IsSyntaxFaultOf, offset_in}
use Rattle.typed_expressions.specs.declared.fault.Fault.{Fault}
use Rattle.typed_expressions.specs.declared.fault.Rule.{Rule}
use Rattle.typed_expressions.specs.Faults.{fault as fault_at, IsFirstOf}
use Rattle.elaboration.specs.Elaborates.{faults_of}
use Rattle.typed_expressions.proofs.Firsts.{one_first}
use Rattle.source_parse.specs.declared.fault.ParseFault.{ParseFault}
use Rattle.source_parse.specs.declared.fault.ParseFault.TheVariants.{Lex, Expected, Unknown, Twice, Mixed, BadRange, Outside, ZeroDivisor, Placed, Arguments, Limit, Memory}
use Rattle.source_parse.specs.declared.fault.Which.TheVariants as Which
use Rattle.source_parse.specs.Faults.{HasNamesFault, IsFaultIn, numbered, number_of}
use Rattle.source_parse.specs.Laws.{FaultsAgree}

-- the numbers of the faults of tokens and of syntax
abbrev rule_number : SyntaxRule → ℕ
rule_number SyntaxRule.Expected = 4
rule_number SyntaxRule.Nesting = 10
rule_number SyntaxRule.Operators = 11

abbrev syntax_numbered : SyntaxFault → Option (ℕ × ℕ)
syntax_numbered (S.Lex (BadByte at)) = Some (1, at)
syntax_numbered (S.Lex (BigNumber at)) = Some (2, at)
syntax_numbered (S.Lex (OpenComment at)) = Some (3, at)
syntax_numbered (S.Lex (LexMemory error)) = None
syntax_numbered (S.Broken rule at) = Some (rule_number rule, at)
syntax_numbered (S.Memory error) = None

-- a fault of a text is one of its syntax, or one of names, sorts, jumps, divisors, returns and calls, or none
data Kind (functions : Bool) (text : List ℕ) (fault : ParseFault) : Type 0 where
  of_syntax : (s : SyntaxFault) → IsSyntaxFaultOf functions text s → numbered fault ≡ syntax_numbered s → Kind functions text fault
  of_names : (rule : Rule) (at : ℕ) → HasNamesFault functions text rule at → numbered fault ≡ Some (number_of rule, at) → Kind functions text fault
  of_memory : numbered fault ≡ None → Kind functions text fault

lex_number : (f : LexFault) → numbered (Lex f) ≡ syntax_numbered (S.Lex f)
lex_number (BadByte at) = refl
lex_number (BigNumber at) = refl
lex_number (OpenComment at) = refl
lex_number (LexMemory error) = refl

kind : (functions : Bool) (text : List ℕ) (fault : ParseFault) → IsFaultIn functions text fault → Kind functions text fault
kind functions text (Lex f) is = of_syntax (S.Lex f) is (lex_number f)
kind functions text (Expected at) is = of_syntax (S.Broken SyntaxRule.Expected at) is refl
kind functions text (Unknown at) is = of_names Rule.Unknown at is refl
kind functions text (Twice at) is = of_names Rule.Twice at is refl
kind functions text (Mixed at) is = of_names Rule.Mixed at is refl
kind functions text (BadRange at) is = of_names Rule.BadRange at is refl
kind functions text (Outside at) is = of_names Rule.Outside at is refl
kind functions text (ZeroDivisor at) is = of_names Rule.ZeroDivisor at is refl
kind functions text (Placed at) is = of_names Rule.Placed at is refl
kind functions text (Arguments at) is = of_names Rule.Arguments at is refl
kind functions text (Limit Which.Variables at count) is = of_names Rule.Variables at is.0 refl
kind functions text (Limit Which.Nesting at count) is = of_syntax (S.Broken SyntaxRule.Nesting at) is.0 refl
kind functions text (Limit Which.Operators at count) is = of_syntax (S.Broken SyntaxRule.Operators at) is.0 refl
kind functions text (Memory error) is = of_memory refl

told_same : (s t : SyntaxFault) (x y : ℕ × ℕ) → s ≡ t → syntax_numbered s ≡ Some x → syntax_numbered t ≡ Some y → x ≡ y
told_same s t x y same first second = same_Some x y (sym first ∙ ap syntax_numbered same ∙ second)

same_syntax : (s t : SyntaxFault) (x y : ℕ × ℕ) → IsSameSyntaxFault s t → syntax_numbered s ≡ Some x → syntax_numbered t ≡ Some y → x ≡ y
same_syntax (S.Memory error) t x y same first second = absurd (none-some x first)
same_syntax (S.Lex f) (S.Memory error) x y same first second = absurd (none-some y second)
same_syntax (S.Broken rule at) (S.Memory error) x y same first second = absurd (none-some y second)
same_syntax (S.Lex f) (S.Lex g) x y same first second = told_same _ _ x y same first second
same_syntax (S.Lex f) (S.Broken rule at) x y same first second = told_same _ _ x y same first second
same_syntax (S.Broken rule at) (S.Lex g) x y same first second = told_same _ _ x y same first second
same_syntax (S.Broken rule at) (S.Broken other offset) x y same first second = told_same _ _ x y same first second

-- want of memory has no number
memory_number : (s : SyntaxFault) (x : ℕ × ℕ) → IsSyntaxMemory s → syntax_numbered s ≡ Some x → ⊥
memory_number (S.Memory error) x is told = none-some x told
memory_number (S.Lex f) x is told = is
memory_number (S.Broken rule at) x is told = is

-- two first faults of names, sorts, jumps, divisors, returns and calls of one text are at one offset and of one rule
same_names : TreesAreUnique → TokensAreUnique → (functions : Bool) (text : List ℕ) (rule other : Rule) (at offset : ℕ)
    → HasNamesFault functions text rule at → HasNamesFault functions text other offset → (rule ≡ other) × (at ≡ offset)
same_names unique tokens functions text rule other at offset h k =
    let trees = unique functions text k.tree h.tree k.spelled h.spelled in
    let lists = tokens text k.tokens h.tokens k.lexed h.lexed in
    let there : IsFirstOf (faults_of h.tree) (fault_at other k.token) = subst (λ t. IsFirstOf (faults_of t) (fault_at other k.token)) trees k.first in
    let same = one_first (faults_of h.tree) (fault_at rule h.token) (fault_at other k.token) h.first there in (
      ap (λ (f : Fault). f.rule) same,
      h.offset ∙ ap (λ (f : Fault). offset_in text h.tokens f.token) same ∙ ap (λ ts. offset_in text ts k.token) (sym lists) ∙ sym k.offset,
    )

agree : TreesAreUnique → TokensAreUnique → SyntaxHasNoFault → FirstFaultsAgree → (functions : Bool) (text : List ℕ) (fault other : ParseFault) (x y : ℕ × ℕ)
    → Kind functions text fault → Kind functions text other → numbered fault ≡ Some x → numbered other ≡ Some y → x ≡ y
agree unique tokens clean law functions text fault other x y (of_memory none) second told tells = absurd (none-some x (sym none ∙ told))
agree unique tokens clean law functions text fault other x y first (of_memory none) told tells = absurd (none-some y (sym none ∙ tells))
agree unique tokens clean law functions text fault other x y (of_syntax s is e) (of_syntax t at i) told tells =
    same_syntax s t x y (law functions text s t is at) (sym e ∙ told) (sym i ∙ tells)
agree unique tokens clean law functions text fault other x y (of_syntax s is e) (of_names rule at h i) told tells =
    absurd (memory_number s x (clean functions text h.tree s h.spelled is) (sym e ∙ told))
agree unique tokens clean law functions text fault other x y (of_names rule at h i) (of_syntax s is e) told tells =
    absurd (memory_number s y (clean functions text h.tree s h.spelled is) (sym e ∙ tells))
agree unique tokens clean law functions text fault other x y (of_names rule at h e) (of_names another offset k i) told tells =
    let same = same_names unique tokens functions text rule another at offset h k in
    same_Some x y
    (sym told ∙ e ∙ ap (λ r. Some (number_of r, at)) same.0 ∙ ap (λ n. Some (number_of another, n)) same.1 ∙ sym i ∙ tells)

pub one_fault : TreesAreUnique → TokensAreUnique → SyntaxHasNoFault → FirstFaultsAgree → FaultsAgree
one_fault unique tokens clean law functions text fault other x y first second told tells =
    agree unique tokens clean law functions text fault other x y (kind functions text fault first) (kind functions text other second) told tells
