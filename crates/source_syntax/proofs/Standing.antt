-- Where an expression that is read stands in its text.
use Rattle.std.proofs.Common.{◌≡◌, ℕ, List, [], ◌++◌, drop, sym, ap, ◌∙◌, subst, append-nil}
use Rattle.std.proofs.lemmas.List.{drop-map}
use Rattle.source_lex.specs.declared.token.Token.{Token}
use Rattle.derivation.specs.declared.lexeme.Lexeme.{Lexeme}
use Rattle.derivation.specs.declared.rule.Rule.{Rule}
use Rattle.derivation.specs.Limits.{AllWithin}
use Rattle.derivation.specs.Pieces.{spelling, first, FitsBefore}
use Rattle.derivation.specs.Spelled.{spelled, all_spelled}
use Rattle.derivation.specs.Word.{words}
use Rattle.concrete_syntax.specs.Trees.{Expression}
use Rattle.source_syntax.specs.Language.{Piece, rest_from}
use Rattle.source_syntax.specs.Pending.{an_expression}
use Rattle.source_syntax.specs.Places.{left_from, IsExpressionAt}
use Rattle.source_syntax.specs.Reads.{ReadsCounting, RefusesCounting}
use Rattle.source_syntax.specs.Spelling.{expression_pieces}

module _ (text : List ℕ) (tokens : List Token) (lexemes : List Lexeme) (same : all_spelled lexemes ≡ words text tokens) where
  rest_is : (at : ℕ) → rest_from lexemes at ≡ left_from text tokens at
  rest_is at = ap (λ ws. record { number = at; words = ws }) (sym (drop-map spelled at lexemes) ∙ ap (drop at) same)

  pub expression_at : (level at next now : ℕ) (tree : Expression)
      → ReadsCounting 0 (an_expression level) tree (rest_from lexemes at) now (rest_from lexemes next) → IsExpressionAt text tokens level at tree next
  expression_at level at next now tree reads =
      let there : ReadsCounting 0 (an_expression level) tree (left_from text tokens at) now (left_from text tokens next) =
      subst (λ to. ReadsCounting 0 (an_expression level) tree (left_from text tokens at) now to) (rest_is next)
      (subst (λ from. ReadsCounting 0 (an_expression level) tree from now (rest_from lexemes next)) (rest_is at) reads) in
      let all = (there []).comes in
      let is : all.front ≡ expression_pieces level tree [] = sym (append-nil all.front) ∙ sym (all.spells tt) in
      record {
        spelled = subst (λ (front : List Piece). drop at (words text tokens) ≡ spelling front ++ drop next (words text tokens)) is all.parted;
        fits = subst (λ (front : List Piece). FitsBefore at front (first (drop next (words text tokens)))) is all.fits;
        within = subst (λ (front : List Piece). AllWithin 0 front) is all.within;
      }

  pub stopped_at : (level at stop : ℕ) (rule : Rule) → RefusesCounting 0 (an_expression level) (rest_from lexemes at) rule (rest_from lexemes stop)
      → RefusesCounting 0 (an_expression level) (left_from text tokens at) rule (left_from text tokens stop)
  stopped_at level at stop rule refuses =
      subst (λ to. RefusesCounting 0 (an_expression level) (left_from text tokens at) rule to) (rest_is stop)
      (subst (λ from. RefusesCounting 0 (an_expression level) from rule (rest_from lexemes stop)) (rest_is at) refuses)
