-- Where framed runs and runs of the program without calls begin together.
use Rattle.std.specs.Prelude.{◌≡◌, ℕ, ◌<◌, length}
use Rattle.linear_cons.specs.Numbers.{number_at}
use Rattle.step_meaning.specs.Outcome.{Store}

-- A store for `main`'s frame, an input of the program without calls, and the store with which frames of calls begin, each of sixteen places: of `main`'s
-- variables the first two say the same, and whatever else the three hold is left open.
pub record AreStores (vars : ℕ) (mine input fresh : Store) : Type 0 where
  pub mine_long : length mine ≡ 16
  pub input_long : length input ≡ 16
  pub fresh_long : length fresh ≡ 16
  pub same : (y : ℕ) → y < vars → number_at mine y ≡ number_at input y
