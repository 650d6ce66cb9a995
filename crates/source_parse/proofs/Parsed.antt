-- A text is one program, or has one fault.
use Rattle.std.proofs.Common.{◌≡◌, ℕ, Bool, true, false, List, [], Contains, sym, ap, ◌∙◌, subst, arith}
use Rattle.source_lex.specs.Laws.{TokensAreUnique}
use Rattle.derivation.specs.declared.fault.SyntaxFault.TheVariants as S
use Rattle.derivation.specs.declared.rule.Rule.TheVariants as SyntaxRule
use Rattle.concrete_syntax.specs.Trees.{Program}
use Rattle.source_syntax.specs.Laws.{ProgramsHaveNoFault as SyntaxHasNoFault, TreesAreUnique}
use Rattle.source_syntax.specs.Texts.{IsTreeText as IsSyntaxOf}
use Rattle.typed_expressions.specs.declared.fault.Rule.{Rule}
use Rattle.typed_expressions.specs.Faults.{fault as fault_at}
use Rattle.elaboration.specs.Elaborates.{StandsFor, StandsForUnit, faults_of}
use Rattle.source_parse.specs.declared.fault.ParseFault.{ParseFault}
use Rattle.source_parse.specs.declared.fault.ParseFault.TheVariants.{Lex, Expected, Unknown, Twice, Mixed, BadRange, Outside, ZeroDivisor, Placed, Arguments, Limit, Memory}
use Rattle.source_parse.specs.declared.fault.Which.TheVariants as Which
use Rattle.source_parse.specs.Faults.{HasNamesFault, IsFaultIn, IsMemory}
use Rattle.source_parse.specs.Laws.{ProgramsHaveNoFault, TextsAreUnique, UnitsAreUnique, UnitsHaveNoFault}

-- a text of one tree is one program
pub one_program : TreesAreUnique → TextsAreUnique
one_program unique text names others body other h k =
    let there : StandsFor h.tree others other = subst (λ t. StandsFor t others other) (sym (unique false text h.tree k.tree h.spelled k.spelled)) k.stands in
    (h.stands.declares ∙ sym there.declares, h.stands.means ∙ sym there.means)

pub one_unit : TreesAreUnique → TokensAreUnique → UnitsAreUnique
one_unit unique lexed text unit other h k =
    let there : StandsForUnit h.tokens h.tree other.func_names other.funcs other.names other.body =
    subst (λ ts. StandsForUnit ts h.tree other.func_names other.funcs other.names other.body) (sym (lexed text h.tokens k.tokens h.lexed k.lexed))
    (subst (λ t. StandsForUnit k.tokens t other.func_names other.funcs other.names other.body) (sym (unique true text h.tree k.tree h.spelled k.spelled)) k.stands) in
    record {
      known = h.stands.knows ∙ sym there.knows;
      functions = h.stands.functions ∙ sym there.functions;
      names = h.stands.declares ∙ sym there.declares;
      body = h.stands.means ∙ sym there.means;
      offsets = h.stands.stands ∙ sym there.stands;
      levels = h.stands.levels ∙ sym there.levels;
    }

module _ (unique : TreesAreUnique) (clean : SyntaxHasNoFault) (functions : Bool) (text : List ℕ) (tree : Program) (is : IsSyntaxOf functions text tree)
    (none : faults_of tree ≡ []) where
  -- a tree without such faults has none of names, sorts, jumps, divisors, returns and calls
  named : (rule : Rule) (at : ℕ) → HasNamesFault functions text rule at → ⊥
  named rule at k =
      let nothing : faults_of k.tree ≡ [] = ap faults_of (unique functions text k.tree tree k.spelled is) ∙ none in
      let found : Contains [] (fault_at rule k.token) = subst (λ fs. Contains fs (fault_at rule k.token)) nothing k.first.among in
      omega (arith, found.1)

  pub no_fault : (fault : ParseFault) → IsFaultIn functions text fault → IsMemory fault
  no_fault (Lex fault) of = clean functions text tree (S.Lex fault) is of
  no_fault (Expected at) of = clean functions text tree (S.Broken SyntaxRule.Expected at) is of
  no_fault (Unknown at) of = named _ at of
  no_fault (Twice at) of = named _ at of
  no_fault (Mixed at) of = named _ at of
  no_fault (BadRange at) of = named _ at of
  no_fault (Outside at) of = named _ at of
  no_fault (ZeroDivisor at) of = named _ at of
  no_fault (Placed at) of = named _ at of
  no_fault (Arguments at) of = named _ at of
  no_fault (Limit Which.Variables at count) of = named _ at of.0
  no_fault (Limit Which.Nesting at count) of = clean functions text tree (S.Broken SyntaxRule.Nesting at) is of.0
  no_fault (Limit Which.Operators at count) of = clean functions text tree (S.Broken SyntaxRule.Operators at) is of.0
  no_fault (Memory error) of = tt

pub programs_clean : TreesAreUnique → SyntaxHasNoFault → ProgramsHaveNoFault
programs_clean unique clean text names body fault h of = no_fault unique clean false text h.tree h.spelled h.stands.faultless fault of

pub units_clean : TreesAreUnique → SyntaxHasNoFault → UnitsHaveNoFault
units_clean unique clean text unit fault h of = no_fault unique clean true text h.tree h.spelled h.stands.faultless fault of
