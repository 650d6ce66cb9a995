-- What the calculus of reading has to know of a language.
use Rattle.std.specs.Prelude.{ℕ, Option}

-- Its words; what may be asked of what comes next, by the number of the next token and its word (of the end: no word); and how many binary
-- operators one expression may have.
pub record Language : Type 1 where
  pub Word : Type 0
  pub Look : Type 0
  pub Meets : Look → ℕ → Option Word → Type 0
  pub most_operators : ℕ
