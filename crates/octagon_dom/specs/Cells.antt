-- Bounds on differences of signed places, kept as a matrix in one flat list.
use Rattle.std.specs.Prelude.{◌≡◌, ◌≢◌, ◌≤◌, ℕ, zero, suc, ◌+◌, ◌*◌, ◌-◌, ◌/◌, ◌%◌, ◌<◌, ◌==◌, ◌||◌, ℤ, pos, neg_ℤ, ◌+ℤ◌, ◌-ℤ◌, ◌≤ℤ◌, Bool, false}
use Rattle.std.specs.Prelude.{List, length, Option, None, Some, if◌then◌else◌, int_lt, slice_index_or}
use Rattle.std.specs.Int.{int_max, int_min}
use Rattle.linear_cons.specs.Bounds.{IsUpTo}
use Rattle.linear_cons.specs.Ends.{end_from, ends_from}
use Rattle.linear_cons.specs.Numbers.{number_at}
use Rattle.num_domain.specs.declared.bound.Bound.{Bound}
use Rattle.num_domain.specs.declared.bound.Bound.TheVariants.{Without}
use Rattle.num_domain.specs.Ends.{both_ends, some_end}

-- a place has two signed places: the even one is its number, and the odd one after it the negative of that
abbrev pub signed : List ℤ → ℕ → ℤ
signed store i = if i % 2 == 0 then number_at store (i / 2) else neg_ℤ (number_at store (i / 2))

-- the other signed place of the same place
abbrev pub turned : ℕ → ℕ
turned i = if i % 2 == 0 then i + 1 else i - 1

-- an upper bound for each pair of the 32 signed places, which may be missing
abbrev pub Matrix : Type 0
Matrix = ℕ → ℕ → Option ℤ

-- the end in a cell
abbrev pub cell : List (Bound ℤ) → ℕ → Option ℤ
cell cells k = some_end (slice_index_or cells k Without)

-- the upper bound on the signed place i less the signed place j; where they are one this is 0, and its cell is never read
abbrev pub bound : List (Bound ℤ) → Matrix
bound cells i j = if i == j then Some (pos 0) else cell cells (32 * i + j)

-- the store keeps to every bound
abbrev pub IsBelow : List (Bound ℤ) → List ℤ → Type 0
IsBelow cells store = (i j : ℕ) → i < 32 → j < 32 → IsUpTo (bound cells i j) (signed store i -ℤ signed store j)

-- the cells are those of the matrix
pub record AreCellsOf (matrix : Matrix) (cells : List (Bound ℤ)) : Type 0 where
  pub long : length cells ≡ 1024
  pub each : (i j : ℕ) → i < 32 → j < 32 → cell cells (32 * i + j) ≡ matrix i j

-- the sum of two ends: missing where one of them is, or where the sum doesn't fit 128 bits
abbrev pub sum_end : Option ℤ → Option ℤ → Option ℤ
sum_end left right = ends_from (λ s t. s +ℤ t) left right

-- the negative of an end: missing where that doesn't fit 128 bits
abbrev pub negative_end : Option ℤ → Option ℤ
negative_end end = end_from neg_ℤ end

-- the smaller of two upper ends: a missing one is greater than every number
abbrev pub least_end : Option ℤ → Option ℤ → Option ℤ
least_end None right = right
least_end (Some a) None = Some a
least_end (Some a) (Some b) = Some (int_min a b)

-- the end is there and is not above the other one
abbrev pub IsWithin : Option ℤ → Option ℤ → Type 0
IsWithin None most = ⊥
IsWithin (Some a) None = ⊥
IsWithin (Some a) (Some b) = a ≤ℤ b

-- the bound that goes from a to i, over a new bound to j, and from there to b
abbrev pub way_over : List (Bound ℤ) → ℕ → ℕ → Option ℤ → Matrix
way_over cells i j step a b = sum_end (sum_end (bound cells a i) step) (bound cells j b)

-- each cell is the smaller of itself and the way over a new bound on i less j
abbrev pub tightened : List (Bound ℤ) → ℕ → ℕ → Option ℤ → Matrix
tightened cells i j step a b = least_end (cell cells (32 * a + b)) (way_over cells i j step a b)

-- how far a signed place rises where the number at the place rises by at most `up` and falls by at most `down`
abbrev pub rise : ℕ → Option ℤ → Option ℤ → ℕ → Option ℤ
rise place up down i = if i == 2 * place then up else (if i == 2 * place + 1 then down else Some (pos 0))

-- each bound and how far its signed places move apart
abbrev pub shifted : List (Bound ℤ) → ℕ → Option ℤ → Option ℤ → Matrix
shifted cells place up down i j =
    sum_end (sum_end (rise place up down i) (cell cells (32 * i + j))) (rise place up down (turned j))

-- the signed place with those of the place exchanged
abbrev pub exchanged : ℕ → ℕ → ℕ
exchanged place i = if i / 2 == place then turned i else i

-- the cell that a cell is exchanged with
abbrev pub exchanged_cell : ℕ → ℕ → ℕ
exchanged_cell place k = 32 * exchanged place (k / 32) + exchanged place (k % 32)

-- each bound with the signed places of the place exchanged
abbrev pub flipped : List (Bound ℤ) → ℕ → Matrix
flipped cells place i j = cell cells (32 * exchanged place i + exchanged place j)

-- the cell and the one that it is exchanged with have each other's end, if it comes first, and all other cells stay
pub record IsExchanged (place k : ℕ) (old new : List (Bound ℤ)) : Type 0 where
  pub long : length new ≡ 1024
  pub here : k < exchanged_cell place k → cell new k ≡ cell old (exchanged_cell place k)
  pub there : k < exchanged_cell place k → cell new (exchanged_cell place k) ≡ cell old k
  pub others : (m : ℕ) → m ≢ k → m ≢ exchanged_cell place k → cell new m ≡ cell old m
  pub stays : exchanged_cell place k ≤ k → (m : ℕ) → cell new m ≡ cell old m

-- each cell the greater of the two
abbrev pub joined : List (Bound ℤ) → List (Bound ℤ) → Matrix
joined own other i j = both_ends int_max (cell own (32 * i + j)) (cell other (32 * i + j))

-- the own end where the newer one doesn't pass it, and else none
abbrev pub stable_end : Option ℤ → Option ℤ → Option ℤ
stable_end None newer = None
stable_end (Some a) None = None
stable_end (Some a) (Some b) = if int_lt a b then None else Some a

-- each own cell that the newer one doesn't pass
abbrev pub widened : List (Bound ℤ) → List (Bound ℤ) → Matrix
widened own newer i j = stable_end (cell own (32 * i + j)) (cell newer (32 * i + j))

-- two ends sum below 0
abbrev pub is_negative : Option ℤ → Option ℤ → Bool
is_negative None right = false
is_negative (Some a) None = false
is_negative (Some a) (Some b) = int_lt (a +ℤ b) (pos 0)

-- among the first n cells one contradicts its opposite: together they ask that 0 be less than 0
unfoldable pub void_below : ℕ → List (Bound ℤ) → Bool
void_below zero cells = false
void_below (suc n) cells = void_below n cells || is_negative (bound cells (n / 32) (n % 32)) (bound cells (n % 32) (n / 32))

-- some cell contradicts its opposite
abbrev pub is_void : List (Bound ℤ) → Bool
is_void cells = void_below 1024 cells
