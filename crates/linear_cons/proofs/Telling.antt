-- The laws of rows that settle whether another holds.
use Rattle.std.proofs.Common.{◌≡◌, ◌↔◌, ℕ, ℤ, pos, ◌+ℤ◌, ◌≤ℤ◌, neg_ℤ, Bool, true, false, cond, int_le, ◌||◌, List, [], ◌∷◌, suc, ◌<◌, length, Some, None, refl, sym, ap, ◌∙◌, arith, All, IsTrue, get_or, take, ◌≤◌, ◌+◌}
use Rattle.std.specs.Bool.{Decides}
use Rattle.std.specs.List.{list_any}
use Rattle.std.proofs.lemmas.Int.{ints}
use Rattle.std.proofs.lemmas.Bool.{false≢true}
use Rattle.std.proofs.lemmas.Bool.Decides.{Decides-and, Decides-int_eq, same_from_decides}
use Rattle.std.proofs.lemmas.Option.{same_Some}
use Rattle.std.proofs.lemmas.List.{take_all}
use Rattle.std.proofs.lemmas.List.Elements.{All-map}
use Rattle.std.proofs.lemmas.List.Folds.{list_any_at, list_any_more}
use Rattle.std.proofs.lemmas.Slice.Eq.{slice_eq-Decides}
use Rattle.linear_cons.specs.Numbers.{number_at}
use Rattle.linear_cons.specs.LinearForm.{products_below}
use Rattle.linear_cons.specs.Functions.{coefficient, complement_of, value_at}
use Rattle.linear_cons.specs.Rows.{AreOpposed, Meets, MeetsAll, complement}
use Rattle.linear_cons.specs.Settling.{functions_of_rows, settled, settles, tells}
use Rattle.linear_cons.specs.declared.affine.Affine.{Affine}
use Rattle.linear_cons.specs.declared.row.Row.{Row}
use Rattle.linear_cons.proofs.Places.{length-at_places, number_at_places, places-ext}
use Rattle.linear_cons.proofs.RowLaws.{complement_met}
use Rattle.linear_cons.proofs.Sums.{value_is}

le_Decides : (a b : ℤ) (t : Bool) → int_le a b ≡ t → Decides t (a ≤ℤ b)
le_Decides a b true is = (λ e. omega (arith, ints), λ le. refl)
le_Decides a b false is = (λ e. absurd (false≢true e), λ le. absurd (omega (arith, ints)))

pub tells-Decides : (given a : Affine) → Decides (tells given a) ((given.coef ≡ a.coef) × (given.constant ≤ℤ a.constant))
tells-Decides given a =
    Decides-and _ _ (slice_eq-Decides Decides-int_eq given.coef a.coef _ refl) (le_Decides given.constant a.constant _ refl)

-- a function of the same linear part and a constant not greater is at least 0 only where the other is
pub told_holds : (given a : Affine) (store : List ℤ) → tells given a ≡ true → pos 0 ≤ℤ value_at given store → pos 0 ≤ℤ value_at a store
told_holds given a store tell met =
    let both = (tells-Decides given a).0 tell in
    let own : value_at given store ≡ products_below 16 a.coef store +ℤ given.constant =
    value_is given.coef given.constant store ∙ ap (λ t. products_below 16 t store +ℤ given.constant) both.0 in
    let other = value_is a.coef a.constant store in
    let less = both.1 in
    omega (arith, ints)

pub settled_holds : (path : List Affine) (a : Affine) (store : List ℤ) → settled path a ≡ true → All (λ given. pos 0 ≤ℤ value_at given store) path → pos 0 ≤ℤ value_at a store
settled_holds [] a store is met = absurd (false≢true is)
settled_holds (given ∷ rest) a store is met =
    first (tells given a) refl is (λ settle. settled_holds rest a store settle (λ k d h. met (suc k) d (omega arith)))
  where
    first : (t : Bool) → tells given a ≡ t → (t || settled rest a) ≡ true → (settled rest a ≡ true → pos 0 ≤ℤ value_at a store) → pos 0 ≤ℤ value_at a store
    first true tell settle later = told_holds given a store tell (met 0 given (omega arith))
    first false tell settle later = later settle

rows_settle : (rows : List Row) (a : Affine) (store : List ℤ) → settled (functions_of_rows rows) a ≡ true → MeetsAll store rows → pos 0 ≤ℤ value_at a store
rows_settle rows a store is met =
    settled_holds (functions_of_rows rows) a store is (All-map (λ given. pos 0 ≤ℤ value_at given store) (λ (row : Row). row.affine) rows met)

module _ (rows : List Row) (row : Row) (store : List ℤ) where
  holds_at : (this that : Bool) → settled (functions_of_rows rows) row.affine ≡ this → cond this (Some true) (cond that (Some false) None) ≡ Some true → MeetsAll store rows → Meets store row
  holds_at true that is settle met = rows_settle rows row.affine store is met
  holds_at false true is settle met = absurd (false≢true (same_Some false true settle))
  holds_at false false is settle met = absurd (cc)

  fails_at : (this that : Bool) → settled (functions_of_rows rows) (complement_of row.affine) ≡ that → cond this (Some true) (cond that (Some false) None) ≡ Some false → MeetsAll store rows → Meets store row → ⊥
  fails_at true that is settle met own = absurd (false≢true (sym (same_Some true false settle)))
  fails_at false true is settle met own = (complement_met row.affine store).0 (rows_settle rows (complement_of row.affine) store is met) own
  fails_at false false is settle met own = absurd (cc)

pub settled_row_holds : (rows : List Row) (row : Row) (store : List ℤ) → settles rows row ≡ Some true → MeetsAll store rows → Meets store row
settled_row_holds rows row store = holds_at rows row store (settled (functions_of_rows rows) row.affine) (settled (functions_of_rows rows) (complement_of row.affine)) refl

pub settled_row_fails : (rows : List Row) (row : Row) (store : List ℤ) → settles rows row ≡ Some false → MeetsAll store rows → Meets store row → ⊥
settled_row_fails rows row store = fails_at rows row store (settled (functions_of_rows rows) row.affine) (settled (functions_of_rows rows) (complement_of row.affine)) refl

-- ---- opposed rows

pub opposed_told : (given row : Row) → length given.affine.coef ≡ 16 → IsTrue (tells given.affine (complement row).affine) ↔ AreOpposed given row
opposed_told given row long =
    let told = tells-Decides given.affine (complement row).affine in (
      λ tell. let both = told.0 tell in let less = both.1 in record {
        negatives = λ i h. let is : coefficient given.affine i ≡ coefficient (complement_of row.affine) i = ap (λ t. number_at t i) both.0 in let turned = turned_at i h in omega (arith, ints);
        constants = omega (arith, ints);
      },
      λ opposed. told.1 (
        places-ext given.affine.coef (complement_of row.affine).coef long (length-at_places _) (λ i h. let is = opposed.negatives i h in let turned = turned_at i h in omega (arith, ints)),
        let low = opposed.constants in omega (arith, ints),
      ),
    )
  where
    turned_at : (i : ℕ) → i < 16 → coefficient (complement_of row.affine) i ≡ neg_ℤ (coefficient row.affine i)
    turned_at i h = simp number_at_places (omega (arith, ints))

-- rows that tell a row and its complement are opposed
pub both_told : (given other row : Row) → length other.affine.coef ≡ 16 → IsTrue (tells given.affine row.affine) → IsTrue (tells other.affine (complement row).affine) → AreOpposed given other
both_told given other row long tell against =
    let both = (tells-Decides given.affine row.affine).0 tell in
    let opposed = (opposed_told other row long).0 against in
    let less = both.1 in
    let low = opposed.constants in
    record {
      negatives = λ i h. let is : coefficient given.affine i ≡ coefficient row.affine i = ap (λ t. number_at t i) both.0 in let turned = opposed.negatives i h in omega (arith, ints);
      constants = omega (arith, ints);
    }

-- ---- looking for a row that tells

-- a test of the rows' functions is one of the rows
pub settled_by : (rows : List Row) (a : Affine) → settled (functions_of_rows rows) a ≡ list_any (λ (given : Row). tells given.affine a) rows
settled_by [] a = refl
settled_by (given ∷ rest) a = ap (λ t. tells given.affine a || t) (settled_by rest a)

pub found_tells : (rows : List Row) (a : Affine) (i : ℕ) (given : Row) → i < length rows → given ≡ get_or rows i given → tells given.affine a ≡ true → true ≡ settled (functions_of_rows rows) a
found_tells rows a i given low is tell =
    sym (settled_by rows a ∙ list_any_at (λ (r : Row). tells r.affine a) rows i given low (ap (λ (r : Row). tells r.affine a) (sym is) ∙ tell))

pub none_more : (rows : List Row) (a : Affine) (i : ℕ) (given : Row) → i < length rows → given ≡ get_or rows i given → list_any (λ (r : Row). tells r.affine a) (take i rows) ≡ false → tells given.affine a ≡ false → list_any (λ (r : Row). tells r.affine a) (take (i + 1) rows) ≡ false
none_more rows a i given low is none untold =
    list_any_more (λ (r : Row). tells r.affine a) rows i given low ∙ rw (none, ← is) untold

pub none_tells : (rows : List Row) (a : Affine) (i : ℕ) → length rows ≤ i → list_any (λ (r : Row). tells r.affine a) (take i rows) ≡ false → false ≡ settled (functions_of_rows rows) a
none_tells rows a i end none =
    sym (settled_by rows a ∙ ap (λ (t : List Row). list_any (λ (r : Row). tells r.affine a) t) (sym (take_all i rows end)) ∙ none)

-- what tells whether two rows are opposed tells whether the one tells the other's complement
pub refuted : (given row : Row) (t : Bool) → length given.affine.coef ≡ 16 → IsTrue t ↔ AreOpposed given row → t ≡ tells given.affine (complement_of row.affine)
refuted given row t long tell =
    let told = opposed_told given row long in
    same_from_decides t (tells given.affine (complement_of row.affine)) (tell.0, tell.1) (told.0, told.1)
