-- Rows on the stack: what the things that a system asks for come to, as far as they could be formed.
use Rattle.std.specs.Prelude.{◌≡◌, ◌≢◌, ◌⊎◌, ℕ, ◌<◌, ◌≤◌, ℤ, Bool, true, false, List, [], ◌∷◌, ◌++◌, length, map, All, Contains, Option, None, Some, Result, Ok, Err, IfSome, IsSomeAnd, if◌then◌else◌, ⊤}
use Rattle.linear_cons.specs.declared.exact.Wide.{Wide}
use Rattle.linear_cons.specs.declared.row.Row.{Row}
use Rattle.linear_cons.specs.declared.row.RowKind.{RowKind}
use Rattle.linear_cons.specs.declared.row.RowKind.TheVariants.{Always, Never, Row as Kept}
use Rattle.linear_cons.specs.Exact.{IsOutside}
use Rattle.linear_cons.specs.Rows.{MeetsKind, row_kind_of}
use Rattle.linear_cons.specs.Settling.{tells}
use Rattle.linear_cons.specs.Tightest.{IsCovered}
use Rattle.linear_solve.specs.Answers.{IsPointOf, MayOutgrow, MayOverflow}
use Rattle.linear_solve.specs.Systems.{HasOpposed, IsOctagonList, IsOpposedToOne, occurring}
use Rattle.constraint_stack.specs.declared.reason.Reason.{Reason}
use Rattle.constraint_stack.specs.declared.reason.Reason.TheVariants.{Point, Wide as TooWide, Rows}
use Rattle.constraint_stack.specs.Reasons.{IsReasonable, rows_in}
use Rattle.constraint_stack.specs.Forming.{Formed, FormsWhole, exact}
use Rattle.constraint_stack.specs.declared.finding.Finding.{Finding}

-- something that a system asks for: a function that is at least 0, a row of one of its claim's alternatives, or alternatives that can't be
-- formed
pub data Item : Type 0 where
  asked : Formed → Item
  chosen : RowKind → Item
  unformed : Item

-- the row that it is
abbrev pub kind_of : Item → RowKind
kind_of (asked a) = row_kind_of (exact a)
kind_of (chosen kind) = kind
kind_of unformed = Always

abbrev pub kinds : List Item → List RowKind
kinds items = map kind_of items

-- no call that forms it leaves 128 bits
abbrev pub IsFormed : Item → Type 0
IsFormed (asked a) = FormsWhole a
IsFormed (chosen kind) = ⊤
IsFormed unformed = ⊥

abbrev pub all_asked : List Formed → List Item
all_asked asks = map (λ a. asked a) asks

abbrev pub all_chosen : List RowKind → List Item
all_chosen choice = map (λ kind. chosen kind) choice

-- it isn't known already that some call leaves them
abbrev pub may_form : Item → Bool
may_form (asked a) = true
may_form (chosen kind) = true
may_form unformed = false

-- what was formed for it: its row; or operands outside 128 bits, where a call that forms it leaves them
abbrev pub Forms : Item → Result RowKind Wide → Type 0
Forms item (Ok kind) = (kind ≡ kind_of item) × (may_form item ≡ true)
Forms item (Err wide) = IsOutside wide × (¬ IsFormed item)

-- what was formed for at most one function
abbrev pub AreFormed : List Formed → Option (Result RowKind Wide) → Type 0
AreFormed [] None = ⊤
AreFormed (a ∷ []) (Some formed) = Forms (asked a) formed
AreFormed _ _ = ⊥

-- no store meets all of them
abbrev pub IsMetNowhere : List Item → Type 0
IsMetNowhere items = (store : List ℤ) → All (λ kind. MeetsKind store kind) (kinds items) → ⊥

-- the rows are some of them all, and imply each of these: one has its linear part and a constant that isn't greater
pub record Cover (rows all : List Row) : Type 0 where
  pub among : All (λ row. Contains all row) rows
  pub covers : All (λ row. IsCovered rows row.affine) all
  pub few : length rows ≤ length all

-- The rows are of the items that could be formed, and imply the row of each of these; none of them is never met and no two of the rows are
-- opposed; and these operands are the first that left 128 bits, where any did.
pub record Held (items : List Item) (rows : List Row) (wide : Option Wide) : Type 0 where
  pub among : All (λ row. Contains (kinds items) (Kept row)) rows
  pub shown : (item : Item) (row : Row) → Contains items item → IsFormed item → kind_of item ≡ Kept row → IsCovered rows row.affine
  pub there : (item : Item) → Contains items item → IsFormed item → kind_of item ≡ Never → ⊥
  pub whole : wide ≡ None → Cover rows (rows_in (kinds items)) × All (λ kind. kind ≢ Never) (kinds items)
  pub apart : HasOpposed rows → ⊥
  pub missing : (item : Item) → Contains items item → may_form item ≡ false → wide ≡ None → ⊥
  pub outside : IfSome wide (λ w. IsOutside w × (All IsFormed items → ⊥))

abbrev pub is_there : {X : Type 0} → Option X → Bool
is_there None = false
is_there (Some x) = true

-- where there was none before, there is none again
abbrev pub restored : {X : Type 0} → Bool → Option X → Option X
restored was after = if was then after else None

-- the first of the two that is there
abbrev pub first_of : {X : Type 0} → Option X → X → Option X
first_of None x = Some x
first_of (Some first) x = Some first

-- no two of the new rows are opposed, where no two of the old ones were
abbrev pub KeepsApart : List Row → List Row → Type 0
KeepsApart old new = (HasOpposed old → ⊥) → HasOpposed new → ⊥

-- one of the rows has the row's linear part and a constant that isn't greater, and so tells it
pub record IsToldByOne (row : Row) (rows : List Row) : Type 0 where
  pub given : Row
  pub given_in : Contains rows given
  pub tells_it : tells given.affine row.affine ≡ true

-- what adding a row does: it comes last, and nothing is added for what always holds; what is never met, or is opposed to one of the rows,
-- isn't added
abbrev pub Adds : Result RowKind Wide → List Row → Option Wide → Bool → List Row → Option Wide → Type 0
Adds (Ok Always) rows wide added new wider = (added ≡ true) × (new ≡ rows) × (wider ≡ wide)
Adds (Ok Never) rows wide added new wider = (added ≡ false) × (new ≡ rows) × (wider ≡ wide)
Adds (Ok (Kept row)) rows wide true new wider = (new ≡ rows ++ row ∷ []) × (wider ≡ wide) × KeepsApart rows new
Adds (Ok (Kept row)) rows wide false new wider = IsOpposedToOne row rows × (new ≡ rows) × (wider ≡ wide)
Adds (Err w) rows wide added new wider = (added ≡ true) × (new ≡ rows) × (wider ≡ first_of wide w)

-- what the rows give as a reason: a point that meets them, a store where splits tell; operands that left 128 bits where they may be left in eliminating; or that there
-- are too many of them, or may come to be
abbrev pub Gives : List Row → Reason → Type 0
Gives rows (Point num den) = IsPointOf rows num den × IsReasonable rows den
Gives rows (TooWide w) = IsOutside w × (¬ IsOctagonList rows) × MayOutgrow (occurring rows) rows
Gives rows (Rows count) =
    (4096 < count) × ((4096 < length rows) ⊎ ((¬ IsOctagonList rows) × MayOverflow (occurring rows) rows))

-- what rows and the operands that are there give: these come first
abbrev pub GivesWith : List Row → Option Wide → Reason → Type 0
GivesWith rows None reason = Gives rows reason
GivesWith rows (Some w) reason = reason ≡ TooWide w

-- rows on the stack for the items give the reason
pub record Refutes (items : List Item) (reason : Reason) : Type 0 where
  pub rows : List Row
  pub wide : Option Wide
  pub held : Held items rows wide
  pub gives : GivesWith rows wide reason

-- the search for a reason against the items: one was found, of this edge, or no store meets them
abbrev pub IsTried : List Item → ℕ → Bool → Option Finding → Type 0
IsTried items edge true found = IsSomeAnd found (λ f. (f.edge ≡ edge) × Refutes items f.reason)
IsTried items edge false found = IsMetNowhere items
