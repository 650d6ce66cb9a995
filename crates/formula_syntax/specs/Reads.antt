-- What the readers answer, for whatever is to be read behind.
use Rattle.std.specs.Prelude.{ℕ, ◌≤◌, List, length}
use Rattle.derivation.specs.declared.rule.Rule.{Rule}
use Rattle.formula_syntax.specs.declared.lexeme.Lexeme.{Lexeme}
use Rattle.formula_syntax.specs.Language.{Rest}
use Rattle.formula_syntax.specs.Pending.{Pending, TreeOf, Sequence, first_read, Leads, Stops}

-- the words up to `to` are this tree of a `p`, and its operators raise the count from `count` to `now`
abbrev pub Reads : (count : ℕ) (p : Pending) → TreeOf p → Rest → ℕ → Rest → Type 0
Reads count p tree from now to = (behind : TreeOf p → Sequence) → Leads count (first_read p behind) from now (behind tree) to (λ trees. (tree, trees))

abbrev pub Refuses : ℕ → Pending → Rest → Rule → Rest → Type 0
Refuses count p from rule to = (behind : TreeOf p → Sequence) → Stops count (first_read p behind) from rule to

-- the second number is the first or behind it, and no farther than the end, where the first is no farther
pub record IsFrom (lexemes : List Lexeme) (at next : ℕ) : Type 0 where
  pub forward : at ≤ next
  pub inside : at ≤ length lexemes → next ≤ length lexemes
