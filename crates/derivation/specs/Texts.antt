-- The texts of a language, whose tokens are its words, and the first fault of the others.
use Rattle.std.specs.Prelude.{◌≡◌, ℕ, List, length, map, drop, ⊤}
use Rattle.source_lex.specs.Spans.{start_of}
use Rattle.source_lex.specs.Tokens.{TokensOf}
use Rattle.source_lex.specs.Faults.{FirstFault as FirstLexFault}
use Rattle.source_lex.specs.declared.token.Token.{Token}
use Rattle.derivation.specs.declared.rule.Rule.{Rule}
use Rattle.derivation.specs.declared.fault.SyntaxFault.{SyntaxFault}
use Rattle.derivation.specs.declared.fault.SyntaxFault.TheVariants.{Lex, Broken, Memory}
use Rattle.derivation.specs.Languages.{Language}
use Rattle.derivation.specs.Comes.{Phrase, FirstFault, IsSpelledBy}

-- the text is what this tree spells, where a token of a text is such a word
pub record IsTextOf {L : Language} (word : List ℕ → Token → L.Word) (A : Phrase L) (text : List ℕ) (tree : A.Tree) : Type 0 where
  pub tokens : List Token
  pub lexed : TokensOf text tokens
  pub spelled : IsSpelledBy A (map (word text) tokens) tree

-- What follows has no part in the headline.

-- the offset in the text of the token of this number, counted from 0; the end is a token too, at the text's length
abbrev pub offset_in : List ℕ → List Token → ℕ → ℕ
offset_in text tokens number = start_of tokens number (length text)

-- the text has tokens, and its first fault breaks this rule at this offset
pub record HasFaultOf {L : Language} (word : List ℕ → Token → L.Word) (A : Phrase L) (text : List ℕ) (rule : Rule) (at : ℕ) : Type 0 where
  pub tokens : List Token
  pub lexed : TokensOf text tokens
  pub number : ℕ
  pub fault : FirstFault A (map (word text) tokens) rule (drop number (map (word text) tokens))
  pub offset : at ≡ offset_in text tokens number

-- what may be answered in place of Ok: the first fault of the text, or that memory ran out
abbrev pub MayRefuse : {L : Language} → (List ℕ → Token → L.Word) → Phrase L → List ℕ → SyntaxFault → Type 0
MayRefuse word A text (Lex fault) = FirstLexFault text fault
MayRefuse word A text (Broken rule at) = HasFaultOf word A text rule at
MayRefuse word A text (Memory _) = ⊤
