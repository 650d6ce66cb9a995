-- The tightest rows of a way, kept step by step.
use Rattle.std.proofs.Common.{◌≡◌, ◌≢◌, ℕ, zero, suc, ◌+◌, ◌-◌, ◌<◌, ◌≤◌, ℤ, Bool, true, false, cond, int_le, ◌||◌, Some, List, [], ◌∷◌, ◌++◌, length, drop, take, set, get_or, reverse, refl, sym, ap, subst, ◌∙◌, arith, All, AllPairs, Contains, ◌≤ℤ◌}
use Rattle.std.specs.Bool.{Decides}
use Rattle.std.proofs.Math.Seq.{get_or-append_seam, take-append_seam}
use Rattle.std.proofs.lemmas.Int.{ints}
use Rattle.std.proofs.lemmas.Bool.{false≢true}
use Rattle.std.proofs.lemmas.Bool.Decides.{Decides-int_eq, not_from_Decides}
use Rattle.std.proofs.lemmas.List.{length-append, length-map, length-reverse, map-append, reverse-append, reverse-reverse}
use Rattle.std.proofs.lemmas.Option.{get_or_from_slice_get, slice_get_within}
use Rattle.std.specs.List.{slice_get}
use Rattle.std.proofs.lemmas.List.Elements.{All-cons, All-contains_itself, All-map, All-weaker, Contains-append_left, Contains-append_right}
use Rattle.std.proofs.lemmas.List.Folds.{list_any-append, list_any_at}
use Rattle.std.proofs.lemmas.List.Kept.{AllPairs-cons}
use Rattle.std.proofs.lemmas.Slice.Eq.{slice_eq-Decides}
use Rattle.linear_cons.specs.Settling.{SameSettling, functions_of_rows, settled, settles, tells}
use Rattle.linear_cons.specs.Functions.{complement_of}
use Rattle.linear_cons.specs.declared.affine.Affine.{Affine}
use Rattle.linear_cons.specs.declared.row.Row.{Row}
use Rattle.linear_cons.specs.Numbers.{number_at}
use Rattle.linear_cons.specs.Tightest.{AreTightest, IsCovered}
use Rattle.linear_cons.proofs.Forms.{affine_of_parts}
use Rattle.linear_cons.proofs.Places.{places-ext}
use Rattle.linear_cons.proofs.RowLaws.{row_same}
use Rattle.linear_cons.proofs.Telling.{settled_by, tells-Decides}
use Rattle.decision_tree.specs.Trails.{AreTightestOf, HaveLed, IsEntered, IsLeft, IsShortened, IsTurned, same_part, tightened, undone, way_of, with_constant, with_constant_at}
use Rattle.decision_tree.specs.declared.trail.Change.TheVariants.{Added, Tightened}
use Rattle.decision_tree.specs.declared.trail.Step.{Step}

pub part_Decides : (held row : Row) → Decides (same_part held row) (held.affine.coef ≡ row.affine.coef)
part_Decides held row = slice_eq-Decides Decides-int_eq held.affine.coef row.affine.coef _ refl

-- ---- one row more

-- what holds of the rows and of one more holds of the tightest with it
tightened_all : (P : Row → Type 0) (rows : List Row) (row : Row) → All P rows → P row → All P (tightened rows row)
tightened_all P [] row all one = All-cons P row [] one all
tightened_all P (held ∷ rest) row all one =
    by_test (same_part held row) (int_le held.affine.constant row.affine.constant) (tightened_all P rest row (λ k d h. all (suc k) d (omega arith)) one)
  where
    by_test : (t u : Bool) → All P (tightened rest row) → All P (cond t (cond u (held ∷ rest) (row ∷ rest)) (held ∷ tightened rest row))
    by_test true true later = all
    by_test true false later = All-cons P row rest one (λ k d h. all (suc k) d (omega arith))
    by_test false u later = All-cons P held (tightened rest row) (all 0 held (omega arith)) later

or_false : (p : Bool) → (p || false) ≡ p
or_false true = refl
or_false false = refl

or_assoc : (p q r : Bool) → (p || (q || r)) ≡ ((p || q) || r)
or_assoc true q r = refl
or_assoc false q r = refl

-- a test that passes only where the first does adds nothing
absorbed : (p q r : Bool) → (r ≡ true → p ≡ true) → (p || q) ≡ ((p || q) || r)
absorbed true q r only = refl
absorbed false true r only = refl
absorbed false false true only = absurd (false≢true (only refl))
absorbed false false false only = refl

-- a test that passes wherever the first does takes its place
replaced : (p q r : Bool) → (p ≡ true → r ≡ true) → (r || q) ≡ ((p || q) || r)
replaced true q true only = refl
replaced true q false only = absurd (false≢true (only refl))
replaced false true true only = refl
replaced false true false only = refl
replaced false false true only = refl
replaced false false false only = refl

tells_through : (first second : Row) (a : Affine) → first.affine.coef ≡ second.affine.coef → first.affine.constant ≤ℤ second.affine.constant → tells second.affine a ≡ true → tells first.affine a ≡ true
tells_through first second a same less tell =
    let both = (tells-Decides second.affine a).0 tell in
    let more = both.1 in
    (tells-Decides first.affine a).1 (same ∙ both.0, omega (arith, ints))

-- the tightest with one more settle what the rows and it settle
tightened_settles : (rows : List Row) (row : Row) (a : Affine) → settled (functions_of_rows (tightened rows row)) a ≡ (settled (functions_of_rows rows) a || tells row.affine a)
tightened_settles [] row a = or_false (tells row.affine a)
tightened_settles (held ∷ rest) row a =
    by_test (same_part held row) (int_le held.affine.constant row.affine.constant) refl refl (tightened_settles rest row a)
  where
    by_test : (t u : Bool) → same_part held row ≡ t → int_le held.affine.constant row.affine.constant ≡ u → settled (functions_of_rows (tightened rest row)) a ≡ (settled (functions_of_rows rest) a || tells row.affine a)
        → settled (functions_of_rows (cond t (cond u (held ∷ rest) (row ∷ rest)) (held ∷ tightened rest row))) a ≡ ((tells held.affine a || settled (functions_of_rows rest) a) || tells row.affine a)
    by_test true true same less later =
        absorbed (tells held.affine a) (settled (functions_of_rows rest) a) (tells row.affine a)
        (tells_through held row a ((part_Decides held row).0 same) (omega (arith, ints)))
    by_test true false same less later =
        replaced (tells held.affine a) (settled (functions_of_rows rest) a) (tells row.affine a)
        (tells_through row held a (sym ((part_Decides held row).0 same)) (omega (arith, ints)))
    by_test false u same less later =
        ap (λ t. tells held.affine a || t) later ∙ or_assoc (tells held.affine a) (settled (functions_of_rows rest) a) (tells row.affine a)

-- no two rows have the same coefficients
abbrev AreApart : List Row → Type 0
AreApart [] = Unit {0}
AreApart (held ∷ rest) = All (λ (other : Row). held.affine.coef ≢ other.affine.coef) rest × AreApart rest

tightened_apart : (rows : List Row) (row : Row) → AreApart rows → AreApart (tightened rows row)
tightened_apart [] row apart = (λ k d h. absurd (omega arith), tt)
tightened_apart (held ∷ rest) row apart =
    by_test (same_part held row) (int_le held.affine.constant row.affine.constant) refl (tightened_apart rest row apart.1)
  where
    by_test : (t u : Bool) → same_part held row ≡ t → AreApart (tightened rest row) → AreApart (cond t (cond u (held ∷ rest) (row ∷ rest)) (held ∷ tightened rest row))
    by_test true true same later = apart
    by_test true false same later = (subst (λ (t : List ℤ). All (λ (other : Row). t ≢ other.affine.coef) rest) ((part_Decides held row).0 same) apart.0, apart.1)
    by_test false u other later =
        (tightened_all (λ (r : Row). held.affine.coef ≢ r.affine.coef) rest row apart.0 (not_from_Decides (same_part held row) (part_Decides held row) other), later)

none_pairs : AllPairs (λ (row other : Row). row.affine.coef ≢ other.affine.coef) []
none_pairs i j d first last = absurd (omega arith)

apart_pairs : (rows : List Row) → AreApart rows → AllPairs (λ (row other : Row). row.affine.coef ≢ other.affine.coef) rows
apart_pairs [] apart = none_pairs
apart_pairs (held ∷ rest) apart = AllPairs-cons (λ (row other : Row). row.affine.coef ≢ other.affine.coef) held rest apart.0 (apart_pairs rest apart.1)

-- ---- where the row with the same coefficients stands

pub place_none : (rows : List Row) (row : Row) → ((k : ℕ) (d : Row) → k < length rows → same_part (get_or rows k d) row ≡ false) → tightened rows row ≡ rows ++ row ∷ []
place_none [] row none = refl
place_none (held ∷ rest) row none =
    rw (none 0 held (omega arith)) (ap (λ t. held ∷ t) (place_none rest row (λ k d h. none (suc k) d (omega arith))))

pub place_found : (rows : List Row) (row : Row) (i : ℕ) (d : Row) → i < length rows → ((k : ℕ) (d : Row) → k < i → same_part (get_or rows k d) row ≡ false) → same_part (get_or rows i d) row ≡ true
    → tightened rows row ≡ cond (int_le (get_or rows i d).affine.constant row.affine.constant) rows (set rows i row)
place_found [] row i d low none same = absurd (omega arith)
place_found (held ∷ rest) row zero d low none same = rw same refl
place_found (held ∷ rest) row (suc i) d low none same =
    rw (none 0 held (omega arith))
    (ap (λ t. held ∷ t) (place_found rest row i d (omega arith) (λ k e h. none (suc k) e (omega arith)) same) ∙ cons_cond (int_le (get_or rest i d).affine.constant row.affine.constant))
  where
    cons_cond : (t : Bool) → (held ∷ cond t rest (set rest i row)) ≡ cond t (held ∷ rest) (held ∷ set rest i row)
    cons_cond true = refl
    cons_cond false = refl

pub item_any : (rows : List Row) (i : ℕ) (d e : Row) → i < length rows → get_or rows i d ≡ get_or rows i e
item_any [] i d e low = absurd (omega arith)
item_any (row ∷ rest) zero d e low = refl
item_any (row ∷ rest) (suc i) d e low = item_any rest i d e (omega arith)

-- what was seen of one element
pub seen_at : (rows : List Row) (row held : Row) (i : ℕ) (t : Bool) → i < length rows → held ≡ get_or rows i held → same_part (get_or rows i held) row ≡ t → (d : Row) → same_part (get_or rows i d) row ≡ t
seen_at rows row held i t low is seen d = ap (λ (r : Row). same_part r row) (item_any rows i d held low) ∙ seen

-- rows that settle the same settle each row the same
pub settles_same : (rows other : List Row) (row : Row) → SameSettling (functions_of_rows rows) (functions_of_rows other) → settles rows row ≡ settles other row
settles_same rows other row same = rw (same row.affine, same (complement_of row.affine)) refl

-- ---- back

pub back_added : (rows : List Row) (row : Row) → undone Added (rows ++ row ∷ []) ≡ rows
back_added rows row =
    let long : length (rows ++ row ∷ []) - 1 ≡ length rows = let sum = length-append rows (row ∷ []) in omega arith in
    ap (λ n. take n (rows ++ row ∷ [])) long ∙ take-append_seam rows (row ∷ [])

-- putting a row with the same coefficients at the place is giving the one there another constant
pub set_moved : (rows : List Row) (place : ℕ) (held moved : Row) (constant : ℤ) → held ≡ get_or rows place held → moved.affine.coef ≡ held.affine.coef → moved.affine.constant ≡ constant
    → set rows place moved ≡ with_constant_at rows place constant
set_moved [] place held moved constant is coef same = refl
set_moved (row ∷ rest) zero held moved constant is coef same =
    ap (λ t. t ∷ rest) (row_same moved (with_constant row constant) (affine_of_parts moved.affine (with_constant row constant).affine (coef ∙ ap (λ (r : Row). r.affine.coef) is) same))
set_moved (row ∷ rest) (suc place) held moved constant is coef same = ap (λ t. row ∷ t) (set_moved rest place held moved constant is coef same)

-- past the end there is none
pub none_moved : (rows : List Row) (place : ℕ) (constant : ℤ) → length rows ≤ place → rows ≡ with_constant_at rows place constant
none_moved [] place constant past = refl
none_moved (row ∷ rest) zero constant past = absurd (omega arith)
none_moved (row ∷ rest) (suc place) constant past = ap (λ t. row ∷ t) (none_moved rest place constant (omega arith))

constant_back : (row : Row) (constant : ℤ) → with_constant (with_constant row constant) row.affine.constant ≡ row
constant_back row constant = row_same _ row refl

pub back_tightened : (rows : List Row) (place : ℕ) (constant looser : ℤ) (d : Row) → looser ≡ (get_or rows place d).affine.constant
    → undone (Tightened place looser) (with_constant_at rows place constant) ≡ rows
back_tightened [] place constant looser d is = refl
back_tightened (row ∷ rest) zero constant looser d is = ap (λ n. with_constant (with_constant row constant) n ∷ rest) is ∙ ap (λ t. t ∷ rest) (constant_back row constant)
back_tightened (row ∷ rest) (suc place) constant looser d is = ap (λ t. row ∷ t) (back_tightened rest place constant looser d is)

-- a row of the same part with the constant of another is the other
moved_part : (held row : Row) → same_part held row ≡ true → with_constant held row.affine.constant ≡ row
moved_part held row same = row_same _ row (ap (λ (coef : List ℤ). let moved : Affine = record { coef = coef; constant = row.affine.constant } in moved) ((part_Decides held row).0 same))

moved_to : (rows : List Row) (row : Row) (place : ℕ) → ((d : Row) → same_part (get_or rows place d) row ≡ true) → with_constant_at rows place row.affine.constant ≡ set rows place row
moved_to [] row place same = refl
moved_to (held ∷ rest) row zero same = ap (λ t. t ∷ rest) (moved_part held row (same held))
moved_to (held ∷ rest) row (suc place) same = ap (λ t. held ∷ t) (moved_to rest row place same)

-- ---- the steps have led to the tightest rows

last_first : (front : List Step) (step : Step) → reverse (front ++ step ∷ []) ≡ step ∷ reverse front
last_first front step = reverse-append front (step ∷ [])

first_last : (step : Step) (rest : List Step) → reverse (step ∷ rest) ≡ reverse rest ++ step ∷ []
first_last step rest = reverse-append (step ∷ []) rest

pub way_more : (front : List Step) (step : Step) → way_of (front ++ step ∷ []) ≡ way_of front ++ step.row ∷ []
way_more front step = map-append (λ (s : Step). s.row) front (step ∷ [])

way_reversed : (step : Step) (rest : List Step) → way_of (reverse (step ∷ rest)) ≡ way_of (reverse rest) ++ step.row ∷ []
way_reversed step rest = ap way_of (first_last step rest) ∙ way_more (reverse rest) step

functions_more : (rows : List Row) (row : Row) → functions_of_rows (rows ++ row ∷ []) ≡ functions_of_rows rows ++ row.affine ∷ []
functions_more rows row = map-append (λ (r : Row). r.affine) rows (row ∷ [])

led_settles : (steps : List Step) (held : List Row) (a : Affine) → HaveLed steps held → settled (functions_of_rows held) a ≡ settled (functions_of_rows (way_of (reverse steps))) a
led_settles [] held a led = ap (λ (t : List Row). settled (functions_of_rows t) a) led
led_settles (step ∷ older) held a led =
    let before : settled (functions_of_rows (undone step.change held)) a ≡ settled (functions_of_rows (way_of (reverse older))) a = led_settles older (undone step.change held) a led.2 in
    let way : functions_of_rows (way_of (reverse (step ∷ older))) ≡ functions_of_rows (way_of (reverse older)) ++ step.row.affine ∷ [] =
    ap (λ (t : List Step). functions_of_rows (way_of t)) (first_last step older) ∙ ap (λ (t : List Row). functions_of_rows t) (way_more (reverse older) step) ∙ functions_more (way_of (reverse older)) step.row in
    ap (λ (t : List Row). settled (functions_of_rows t) a) led.1
    ∙ tightened_settles (undone step.change held) step.row a
    ∙ ap (λ t. t || tells step.row.affine a) before
    ∙ ap (λ t. settled (functions_of_rows (way_of (reverse older))) a || t) (sym (or_false (tells step.row.affine a)))
    ∙ sym (list_any-append (λ given. tells given a) (functions_of_rows (way_of (reverse older))) (step.row.affine ∷ []))
    ∙ sym (ap (λ (t : List Affine). settled t a) way)

led_all : (P : Row → Type 0) (steps : List Step) (held : List Row) → ((step : Step) → Contains steps step → length step.row.affine.coef ≡ 16 → P step.row) → HaveLed steps held → All P held
led_all P [] held each led = subst (λ (t : List Row). All P t) (sym led) (λ k d h. absurd (omega arith))
led_all P (step ∷ older) held each led =
    subst (λ (t : List Row). All P t) (sym led.1)
    (tightened_all P (undone step.change held) step.row (led_all P older (undone step.change held) (λ s member. each s (suc member.0, omega (arith, member.1), member.2)) led.2) (each step (0, omega arith, refl) led.0))

led_apart : (steps : List Step) (held : List Row) → HaveLed steps held → AreApart held
led_apart [] held led = subst AreApart (sym led) tt
led_apart (step ∷ older) held led = subst AreApart (sym led.1) (tightened_apart (undone step.change held) step.row (led_apart older (undone step.change held) led.2))

-- a row more makes them at most one longer
tightened_short : (rows : List Row) (row : Row) → length (tightened rows row) ≤ length rows + 1
tightened_short [] row = omega arith
tightened_short (held ∷ rest) row = by_part (same_part held row) (int_le held.affine.constant row.affine.constant) (tightened_short rest row)
  where
    by_part : (same tighter : Bool) → length (tightened rest row) ≤ length rest + 1
        → length (cond same (cond tighter (held ∷ rest) (row ∷ rest)) (held ∷ tightened rest row)) ≤ suc (length rest) + 1
    by_part true true short = omega arith
    by_part true false short = omega arith
    by_part false tighter short = omega (arith, short)

led_short : (steps : List Step) (held : List Row) → HaveLed steps held → length held ≤ length steps
led_short [] held led = let none : length held ≡ 0 = ap length led in omega (arith, none)
led_short (step ∷ older) held led =
    let is : length held ≡ length (tightened (undone step.change held) step.row) = ap length led.1 in
    let short = tightened_short (undone step.change held) step.row in
    let before = led_short older (undone step.change held) led.2 in
    omega (arith, is, short, before)

stands_on_way : (steps : List Step) (step : Step) → Contains steps step → Contains (way_of (reverse steps)) step.row
stands_on_way [] step member = absurd (omega (arith, member.1))
stands_on_way (first ∷ rest) step (zero, low, is) =
    subst (λ (t : List Row). Contains t step.row) (sym (way_reversed first rest))
    (Contains-append_right (way_of (reverse rest)) (first.row ∷ []) step.row (0, omega arith, ap (λ (s : Step). s.row) is))
stands_on_way (first ∷ rest) step (suc k, low, is) =
    subst (λ (t : List Row). Contains t step.row) (sym (way_reversed first rest))
    (Contains-append_left (way_of (reverse rest)) (first.row ∷ []) step.row (stands_on_way rest step (k, omega arith, is)))

-- ---- what is held

contains_function : (rows : List Row) (row : Row) → Contains rows row → Contains (functions_of_rows rows) row.affine
contains_function [] row member = absurd (omega (arith, member.1))
contains_function (first ∷ rest) row (zero, low, is) = (0, omega arith, ap (λ (r : Row). r.affine) is)
contains_function (first ∷ rest) row (suc k, low, is) =
    let later = contains_function rest row (k, omega arith, is) in
    (suc later.0, omega (arith, later.1), later.2)

tells_itself : (row : Row) → tells row.affine row.affine ≡ true
tells_itself row = (tells-Decides row.affine row.affine).1 (refl, omega (arith, ints))

settles_its_own : (rows : List Row) (row : Row) → Contains rows row → settled (functions_of_rows rows) row.affine ≡ true
settles_its_own rows row member =
    settled_by rows row.affine ∙ list_any_at (λ (r : Row). tells r.affine row.affine) rows member.0 row member.1 (ap (λ (r : Row). tells r.affine row.affine) member.2 ∙ tells_itself row)

covered_by : (held : List Row) (a : Affine) → settled (functions_of_rows held) a ≡ true → IsCovered held a
covered_by [] a is = absurd (false≢true is)
covered_by (row ∷ rest) a is = by_test (tells row.affine a) refl is (λ later. covered_by rest a later)
  where
    by_test : (t : Bool) → tells row.affine a ≡ t → (t || settled (functions_of_rows rest) a) ≡ true → (settled (functions_of_rows rest) a ≡ true → IsCovered rest a) → IsCovered (row ∷ rest) a
    by_test true tell settle later =
        let both = (tells-Decides row.affine a).0 tell in
        record { row = row; row_in = (0, omega arith, refl); part = λ i h. ap (λ (t : List ℤ). number_at t i) both.0; tighter = both.1 }
    by_test false tell settle later =
        let covered = later settle in
        let member = covered.row_in in
        record { row = covered.row; row_in = (suc member.0, omega (arith, member.1), member.2); part = covered.part; tighter = covered.tighter }

-- the rows that are held are the tightest of the way
held_tightest : (way held : List Row) → All (λ row. Contains way row) held → SameSettling (functions_of_rows held) (functions_of_rows way)
    → All (λ row. length row.affine.coef ≡ 16) held → AllPairs (λ row other. row.affine.coef ≢ other.affine.coef) held
    → AreTightest (functions_of_rows way) held
held_tightest way held among settling places distinct = record {
  among = All-weaker (λ row. Contains way row) (λ (row : Row). Contains (functions_of_rows way) row.affine) (λ row member. contains_function way row member) held among;
  covers = All-map (λ a. IsCovered held a) (λ (row : Row). row.affine) way
      (All-weaker (λ row. Contains way row) (λ (row : Row). IsCovered held row.affine) (λ row member. covered_by held row.affine (settling row.affine ∙ settles_its_own way row member)) way (All-contains_itself way));
  distinct = λ i j d before low same. distinct i j d before low (places-ext _ _ (places i d (omega arith)) (places j d low) same);
}

pub led_tightest : (steps : List Step) (held : List Row) → HaveLed (reverse steps) held → AreTightestOf (way_of steps) held
led_tightest steps held led = subst (λ (t : List Step). AreTightestOf (way_of t) held) (reverse-reverse steps) (
    let way : List Row = way_of (reverse (reverse steps)) in
    let among : All (λ row. Contains way row) held = led_all (λ (row : Row). Contains way row) (reverse steps) held (λ step member long. stands_on_way (reverse steps) step member) led in
    let settling : SameSettling (functions_of_rows held) (functions_of_rows way) = λ a. led_settles (reverse steps) held a led in
    let places : All (λ (row : Row). length row.affine.coef ≡ 16) held = led_all (λ (row : Row). length row.affine.coef ≡ 16) (reverse steps) held (λ step member long. long) led in
    record {
      among = among;
      tightest = held_tightest way held among settling places (apart_pairs held (led_apart (reverse steps) held led));
      settling = settling;
      few =
          let short = led_short (reverse steps) held led in
          let whole : length way ≡ length (reverse (reverse steps)) = length-map (reverse (reverse steps)) (λ (step : Step). step.row) in
          let turned : length (reverse (reverse steps)) ≡ length (reverse steps) = length-reverse (reverse steps) in
          omega (arith, short, whole, turned);
    })

-- ---- a step down and a step up

pub led_entered : (old new : List Row) (steps later : List Step) (row : Row) → length row.affine.coef ≡ 16 → IsEntered old new steps later row → HaveLed (reverse steps) old → HaveLed (reverse later) new
led_entered old new steps later row long entered led =
    let step : Step = record { row = row; change = entered.change } in
    let last : reverse later ≡ step ∷ reverse steps = ap reverse entered.step ∙ last_first steps step in
    let back : undone entered.change new ≡ old = entered.tightening.back in
    subst (λ (t : List Step). HaveLed t new) (sym last) (
      long,
      entered.tightening.tighter ∙ ap (λ (t : List Row). tightened t row) (sym back),
      subst (λ (t : List Row). HaveLed (reverse steps) t) (sym back) led,
    )

pub way_entered : (old new : List Row) (steps later : List Step) (row : Row) → IsEntered old new steps later row → way_of later ≡ way_of steps ++ row ∷ []
way_entered old new steps later row entered = ap way_of entered.step ∙ way_more steps (record { row = row; change = entered.change })

pub led_left : (old new : List Row) (steps earlier : List Step) → IsLeft old new steps earlier → HaveLed (reverse steps) old → HaveLed (reverse earlier) new
led_left old new steps earlier left led = by_last (reverse steps) (sym (reverse-reverse steps)) led
  where
    by_last : (back : List Step) → steps ≡ reverse back → HaveLed back old → HaveLed (reverse earlier) new
    by_last [] is ends =
        let start = left.start is in
        subst (λ (t : List Step). HaveLed (reverse t) new) (sym start.0) (start.1 ∙ ends)
    by_last (step ∷ older) is goes =
        let gone = left.back (reverse older) step (is ∙ first_last step older) in
        let same : reverse earlier ≡ older = ap reverse gone.0 ∙ reverse-reverse older in
        subst (λ (t : List Step). HaveLed t new) (sym same) (subst (λ (t : List Row). HaveLed older t) (sym gone.1) goes.2)

-- the last of a list and what is before it
last_is : (front more : List Row) (row other : Row) → front ++ row ∷ [] ≡ more ++ other ∷ [] → (front ≡ more) × (row ≡ other)
last_is front more row other same =
    let turned : row ∷ reverse front ≡ other ∷ reverse more = sym (reverse-append front (row ∷ [])) ∙ ap reverse same ∙ reverse-append more (other ∷ []) in
    let rests : reverse front ≡ reverse more = ap (λ t. drop 1 t) turned in
    (sym (reverse-reverse front) ∙ ap reverse rests ∙ reverse-reverse more, ap (λ t. get_or t 0 row) turned)

pub way_left : (old new : List Row) (steps earlier : List Step) → IsLeft old new steps earlier → IsShortened (way_of steps) (way_of earlier)
way_left old new steps earlier left front row ends = by_last (reverse steps) (sym (reverse-reverse steps))
  where
    by_last : (back : List Step) → steps ≡ reverse back → way_of earlier ≡ front
    by_last [] is =
        let none : [] ≡ front ++ row ∷ [] = ap way_of (sym is) ∙ ends in
        let long = length-append front (row ∷ []) in
        absurd (let count = ap length none in omega (arith, count))
    by_last (step ∷ older) is =
        let whole : steps ≡ reverse older ++ step ∷ [] = is ∙ first_last step older in
        let gone = left.back (reverse older) step whole in
        ap way_of gone.0 ∙ (last_is (way_of (reverse older)) front step.row row (sym (way_more (reverse older) step) ∙ ap way_of (sym whole) ∙ ends)).0

-- ---- the row took the place of a looser one

pub took_place : (rows : List Row) (row : Row) (looser : ℤ) (place : ℕ) (d : Row) → looser ≡ (get_or rows place d).affine.constant → int_le looser row.affine.constant ≡ false
    → ((e : Row) → same_part (get_or rows place e) row ≡ true)
    → tightened rows row ≡ cond (int_le (get_or rows place d).affine.constant row.affine.constant) rows (set rows place row) → with_constant_at rows place row.affine.constant ≡ tightened rows row
took_place rows row looser place d is more same found =
    let test : int_le (get_or rows place d).affine.constant row.affine.constant ≡ false = ap (λ n. int_le n row.affine.constant) (sym is) ∙ more in
    moved_to rows row place same ∙ sym (found ∙ ap (λ t. cond t rows (set rows place row)) test)

-- ---- over to the other side

pub last_split : (steps : List Step) (step : Step) → Some step ≡ slice_get steps (length steps - 1) → (rest : List Step) × (steps ≡ rest ++ step ∷ [])
last_split steps step is = by_last (reverse steps) (sym (reverse-reverse steps))
  where
    by_last : (back : List Step) → steps ≡ reverse back → (rest : List Step) × (steps ≡ rest ++ step ∷ [])
    by_last [] none =
        let within : length steps - 1 < length steps = slice_get_within steps (length steps - 1) step (sym is) in
        absurd (let count : length steps ≡ 0 = ap length none in omega (arith, count))
    by_last (last ∷ older) ends =
        let whole : steps ≡ reverse older ++ last ∷ [] = ends ∙ first_last last older in
        let long : length steps - 1 ≡ length (reverse older) = let sum = length-append (reverse older) (last ∷ []) in let count : length steps ≡ length (reverse older ++ last ∷ []) = ap length whole in omega (arith, sum, count) in
        let same : last ≡ step =
        sym (get_or-append_seam (reverse older) last [] step) ∙ ap (λ t. get_or t (length (reverse older)) step) (sym whole) ∙ ap (λ n. get_or steps n step) (sym long) ∙ get_or_from_slice_get steps (length steps - 1) step step (sym is) in
        (reverse older, whole ∙ ap (λ (t : Step). reverse older ++ t ∷ []) same)

-- the last step's row is the last of the way
pub last_row : (steps rest : List Step) (step : Step) (front : List Row) (row : Row) → steps ≡ rest ++ step ∷ [] → way_of steps ≡ front ++ row ∷ [] → (way_of rest ≡ front) × (step.row ≡ row)
last_row steps rest step front row split ends = last_is (way_of rest) front step.row row (sym (way_more rest step) ∙ ap way_of (sym split) ∙ ends)

pub way_turned : (held between after : List Row) (steps earlier later rest : List Step) (step : Step) (complement : Row) → steps ≡ rest ++ step ∷ [] → IsLeft held between steps earlier → IsEntered between after earlier later complement
    → complement.affine ≡ complement_of step.row.affine → IsTurned (way_of steps) (way_of later)
way_turned held between after steps earlier later rest step complement split left entered opposite front row ends =
    let gone = left.back rest step split in
    let last = last_row steps rest step front row split ends in (
      complement,
      opposite ∙ ap (λ (t : Row). complement_of t.affine) last.1,
      way_entered between after earlier later complement entered ∙ ap (λ (t : List Step). way_of t ++ complement ∷ []) gone.0 ∙ ap (λ (t : List Row). t ++ complement ∷ []) last.0,
    )

-- ---- at the root

pub way_starts : (old new : List Row) (steps earlier : List Step) → IsLeft old new steps earlier → way_of steps ≡ [] → way_of earlier ≡ []
way_starts old new steps earlier left none = by_first steps refl none
  where
    by_first : (own : List Step) → steps ≡ own → way_of own ≡ [] → way_of earlier ≡ []
    by_first [] is empty = ap way_of (left.start is).0
    by_first (step ∷ rest) is empty = absurd (let count : suc (length (way_of rest)) ≡ 0 = ap length empty in omega (arith, count))

-- with a last step there is a row on the way
pub way_goes : (steps rest : List Step) (step : Step) → steps ≡ rest ++ step ∷ [] → way_of steps ≡ [] → ⊥
way_goes steps rest step split none =
    let whole : way_of rest ++ step.row ∷ [] ≡ [] = sym (way_more rest step) ∙ ap way_of (sym split) ∙ none in
    let sum = length-append (way_of rest) (step.row ∷ []) in
    let count = ap length whole in
    omega (arith, sum, count)
