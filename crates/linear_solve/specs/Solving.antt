-- What the recursion over places answers, and the bounds under which it does not give up.
use Rattle.std.specs.Prelude.{◌≡◌, ℕ, ◌*◌, ◌<◌, ◌≤◌, ◌^◌, pos, List, All, unsigned_abs, ⊤}
use Rattle.linear_cons.specs.declared.row.Row.{Row}
use Rattle.linear_cons.specs.declared.exact.Wide.{Wide as Operands}
use Rattle.linear_cons.specs.Numbers.{number_at}
use Rattle.linear_cons.specs.Tightest.{AreDistinct}
use Rattle.linear_solve.specs.Systems.{IsOctagonRow, IsSized, occurring}
use Rattle.linear_solve.specs.declared.answer.Stop.{Stop}
use Rattle.linear_solve.specs.declared.answer.Stop.TheVariants.{Memory, Wide, Rows}
use Rattle.linear_solve.specs.declared.point.Point.{Point}

-- the cause, where it is of the kind, has the property
abbrev pub IfStopWide : Stop → (Operands → Type 0) → Type 0
IfStopWide (Wide operands) P = P operands
IfStopWide _ P = ⊤

abbrev pub IfStopRows : Stop → (ℕ → Type 0) → Type 0
IfStopRows (Rows count) P = P count
IfStopRows _ P = ⊤

-- every number of the rows has at most the size, 34 times it is at most c, and c^(2^n) for the n
-- places that occur is at most the root, which is at most 2^63. An elimination takes the size to
-- 2 * size * size, c to c * c and n to n - 1 or less; the root stays.
pub record IsModest (size c root : ℕ) (rows : List Row) : Type 0 where
  pub sized : All (IsSized size) rows
  pub factor : 34 * size ≤ c
  pub power : c ^ (2 ^ occurring rows) ≤ root
  pub root_fits : root ≤ 2 ^ 63

-- the point's numbers, times c, are at most the root
pub record IsModestPoint (c root : ℕ) (point : Point) : Type 0 where
  pub numerators : (i : ℕ) → i < 16 → unsigned_abs (number_at point.num i) * c ≤ root
  pub denominator : unsigned_abs point.den * c ≤ root

-- a list of octagon rows, one for each linear part, with constants of at most the bound, which can
-- double for each place that occurs and stay within 2^80
pub record IsTame (bound : ℕ) (rows : List Row) : Type 0 where
  pub distinct : AreDistinct rows
  pub octagons : All (IsOctagonRow bound) rows
  pub power : bound * 2 ^ occurring rows ≤ 2 ^ 80

-- a whole point with numbers of at most n times 2^80
pub record IsTamePoint (n : ℕ) (point : Point) : Type 0 where
  pub numerators : (i : ℕ) → i < 16 → unsigned_abs (number_at point.num i) ≤ n * 2 ^ 80
  pub denominator : point.den ≡ pos 1

-- only want of memory stopped it
abbrev pub IsMemory : Stop → Type 0
IsMemory (Memory fault) = ⊤
IsMemory (Wide operands) = ⊥
IsMemory (Rows count) = ⊥
