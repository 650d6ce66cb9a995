-- The words and the concrete trees of demo programs.
use Rattle.std.specs.Prelude.{ℕ, zero, suc, ◌+◌, pos, false, List, [], ◌∷◌, None, codes}
use Rattle.derivation.specs.declared.symbol.Symbol.TheVariants as S
use Rattle.derivation.specs.Word.{Word, symbol, name as named, number as numbered}
use Rattle.concrete_syntax.specs.declared.sign.Assignment.{Assignment}
use Rattle.concrete_syntax.specs.declared.sign.Operator.{Operator}
use Rattle.concrete_syntax.specs.Trees.{operand_at, number, name, ended, further, operation, acts, assigns, statement_at, simple, braces, while_loop, Items, none, declaration, statement, Program, Statement}

abbrev pub a_bytes : List ℕ
a_bytes = codes "a"

abbrev pub x_bytes : List ℕ
x_bytes = codes "x"

-- ---- words

abbrev pub turn_words : (left first : ℕ) → List Word
turn_words zero first =
    named x_bytes ∷ (symbol S.Assign ∷ (named x_bytes ∷ (symbol S.Minus ∷ (numbered (pos 1) ∷ (symbol S.Semicolon
    ∷ (symbol S.CloseBrace ∷ (symbol S.CloseBrace ∷ [])))))))
turn_words (suc left) first =
    named a_bytes ∷ (symbol S.Assign ∷ (named a_bytes ∷ (symbol S.Plus ∷ (numbered (pos first) ∷ (symbol S.Semicolon ∷ turn_words left (suc first))))))

abbrev pub demo_words : ℕ → List Word
demo_words n =
    symbol S.Int ∷ (symbol S.Main ∷ (symbol S.OpenParenthesis ∷ (symbol S.CloseParenthesis ∷ (symbol S.OpenBrace
    ∷ (symbol S.Int ∷ (named a_bytes ∷ (symbol S.Comma ∷ (named x_bytes ∷ (symbol S.Semicolon
    ∷ (symbol S.While ∷ (symbol S.OpenParenthesis ∷ (named x_bytes ∷ (symbol S.Greater ∷ (numbered (pos 0) ∷ (symbol S.CloseParenthesis
    ∷ (symbol S.OpenBrace ∷ turn_words n 1))))))))))))))))

-- ---- trees, with the numbers of their tokens

abbrev pub step_at : (at : ℕ) → List ℕ → Operator → ℕ → Statement
step_at at bytes op amount =
    statement_at at (simple (acts (record { at = at; bytes = bytes }) (assigns Assignment.Assign (record {
      operand = operand_at (at + 2) (name bytes);
      tail = further (operation op (operand_at (at + 4) (number (pos amount)))) ended;
    }))))

abbrev pub turn_at : (at left first : ℕ) → Items
turn_at at zero first = statement (step_at at x_bytes Operator.Subtract 1) none
turn_at at (suc left) first = statement (step_at at a_bytes Operator.Add first) (turn_at (at + 6) left (suc first))

abbrev pub loop_at : ℕ → Statement
loop_at n =
    statement_at 10 (while_loop (record {
      operand = operand_at 12 (name x_bytes);
      tail = further (operation Operator.Greater (operand_at 14 (number (pos 0)))) ended;
    }) (statement_at 16 (braces (turn_at 17 n 1))))

abbrev pub demo_tree : ℕ → Program
demo_tree n = record {
  preludes = [];
  functions = [];
  void = false;
  items = declaration (record {
    part = record { declared = record { at = 6; bytes = a_bytes }; initialiser = None };
    more = record { declared = record { at = 8; bytes = x_bytes }; initialiser = None } ∷ [];
  }) (statement (loop_at n) none);
}
