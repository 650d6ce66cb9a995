-- The trees of demo programs spell their words and stand for them.
use Rattle.std.proofs.Common.{◌≡◌, ℕ, zero, suc, ◌+◌, List, [], ◌∷◌, None, true, false, pos, replicate, refl, sym, ap, subst, arith}
use Rattle.std.specs.Prelude.{slice_set}
use Rattle.step_meaning.specs.Syntax as syntax
use Rattle.derivation.specs.declared.symbol.Symbol.TheVariants as S
use Rattle.derivation.specs.Word.{symbol, name as named, number as numbered}
use Rattle.step_meaning.specs.declared.expression.Op2.TheVariants.{Add}
use Rattle.derivation.specs.Comes.{IsSpelledBy}
use Rattle.derivation.specs.Limits.{AllWithin}
use Rattle.derivation.specs.Pieces.{FitsBefore, spelling, token}
use Rattle.source_syntax.specs.Language.{Piece}
use Rattle.source_syntax.specs.Spelling.{items_pieces, sign}
use Rattle.source_syntax.specs.Texts.{programs}
use Rattle.call_meaning.specs.Units.{of_list}
use Rattle.elaboration.specs.declared.context.Body.TheVariants.{Main}
use Rattle.elaboration.specs.Contexts.{Context, at_top, deeper, looping}
use Rattle.elaboration.specs.Elaborates.{StandsFor, plain}
use Rattle.elaboration.specs.Functions.{no_functions}
use Rattle.typed_expressions.specs.Scopes.{Scope}
use Rattle.elaboration.specs.Statements.{items_walked}
use Rattle.demo_program.specs.Demo.{demo_body, demo_names, turn_from}
use Rattle.demo_program.proofs.Trees.{a_bytes, x_bytes, demo_tree, demo_words, turn_at, turn_words}

-- what stands behind a turn
abbrev behind : List Piece
behind = token (sign S.CloseBrace) ∷ (token (sign S.CloseBrace) ∷ [])

spelled : (at left first : ℕ) → turn_words left first ≡ spelling (items_pieces false 3 (turn_at at left first) behind)
spelled at zero first = refl
spelled at (suc left) first =
    ap (λ t. named a_bytes ∷ (symbol S.Assign ∷ (named a_bytes ∷ (symbol S.Plus ∷ (numbered (pos first) ∷ (symbol S.Semicolon ∷ t))))))
    (spelled (at + 6) left (suc first))

fits : (at left first : ℕ) → FitsBefore at (items_pieces false 3 (turn_at at left first) behind) None
fits at zero first = (refl, (refl, (omega arith, (omega arith, (refl, tt)))))
fits at (suc left) first =
    let same : at + 6 ≡ at + 1 + 1 + 1 + 1 + 1 + 1 = omega arith in (
      refl,
      (
        refl,
        (
          omega arith,
          (
            omega arith,
            (
              refl,
              subst (λ m. FitsBefore m (items_pieces false 3 (turn_at (at + 6) left (suc first)) behind) None) same (fits (at + 6) left (suc first)),
            ),
          ),
        ),
      ),
    )

within : (count at left first : ℕ) → AllWithin count (items_pieces false 3 (turn_at at left first) behind)
within count at zero first = ((omega arith, tt), ((omega arith, tt), ((omega arith, tt), ((omega arith, omega arith), ((omega arith, tt), ((omega arith, tt), ((omega arith, tt), ((omega arith, tt), tt))))))))
within count at (suc left) first = ((omega arith, tt), ((omega arith, tt), ((omega arith, tt), ((omega arith, omega arith), ((omega arith, tt), ((omega arith, tt), within 1 (at + 6) left (suc first)))))))

-- the names in the loop, and what is around its statements
abbrev scope : Scope
scope = record { others = 0; declared = demo_names; visible = demo_names; free = slice_set (slice_set (replicate 16 false) 0 true) 1 true }

abbrev around : Context
around = deeper (looping (at_top no_functions Main))

faultless : (at left first : ℕ) → (items_walked around scope (turn_at at left first)).faults ≡ []
faultless at zero first = refl
faultless at (suc left) first = faultless (at + 6) left (suc first)

means : (at left first : ℕ) → plain (of_list (items_walked around scope (turn_at at left first)).body) ≡ turn_from left first
means at zero first = refl
means at (suc left) first =
    ap (λ t. syntax.sequence (syntax.assign 0 (syntax.pair Add (syntax.variable 0) (syntax.number (pos first)))) t) (means (at + 6) left (suc first))

same_scope : (at left first : ℕ) → (items_walked around scope (turn_at at left first)).scope ≡ scope
same_scope at zero first = refl
same_scope at (suc left) first = same_scope (at + 6) left (suc first)

pub words_spelled : (n : ℕ) → IsSpelledBy (programs false) (demo_words n) (demo_tree n)
words_spelled n = record {
  spelled = ap (λ t. symbol S.Int ∷ (symbol S.Main ∷ (symbol S.OpenParenthesis ∷ (symbol S.CloseParenthesis ∷ (symbol S.OpenBrace
      ∷ (symbol S.Int ∷ (named a_bytes ∷ (symbol S.Comma ∷ (named x_bytes ∷ (symbol S.Semicolon
      ∷ (symbol S.While ∷ (symbol S.OpenParenthesis ∷ (named x_bytes ∷ (symbol S.Greater ∷ (numbered (pos 0) ∷ (symbol S.CloseParenthesis
      ∷ (symbol S.OpenBrace ∷ t))))))))))))))))) (spelled 17 n 1);
  fits = (refl, (refl, (refl, (refl, (refl, (refl, (refl, fits 17 n 1)))))));
  within = ((omega arith, tt), ((omega arith, tt), ((omega arith, tt), ((omega arith, tt), ((omega arith, tt), ((omega arith, tt), ((omega arith, tt), ((omega arith, tt), ((omega arith, tt), ((omega arith, tt), ((omega arith, tt), ((omega arith, tt), ((omega arith, tt), ((omega arith, omega arith), ((omega arith, tt), ((omega arith, tt), ((omega arith, tt), within 1 17 n 1)))))))))))))))));
}

pub stands : (n : ℕ) → StandsFor (demo_tree n) demo_names (demo_body n)
stands n = record {
  faultless = rw (faultless 17 n 1) refl;
  declares = ap (λ (s : Scope). s.declared) (sym (same_scope 17 n 1));
  means = rw (means 17 n 1) refl;
}
