-- The lines of a report on what fits: which store meets them, and over which names they are.
use Rattle.std.proofs.Common.{◌≡◌, ℕ, ◌+◌, ◌<◌, ◌≤◌, length, take, get_or, inl, inr, ℤ, pos, ◌≤ℤ◌, ◌+ℤ◌, ◌-ℤ◌, Bool, true, false, cond, not, int_le, List, [], ◌∷◌, ◌++◌, All, Result, Ok, Err, IfOk, OkIff, refl, sym, ap, ap₂, subst, ◌∙◌, append_assoc, arith}
use Rattle.std.specs.Prelude.{MatchBool}
use Rattle.std.proofs.lemmas.Bool.{false≢true}
use Rattle.std.proofs.lemmas.Int.{ints}
use Rattle.std.proofs.lemmas.List.Elements.{All-append, All-cons, All-filter, All-head, All-tail}
use Rattle.linear_solve.proofs.Lists.{take_snoc}
use Rattle.linear_cons.specs.declared.affine.Affine.{Affine}
use Rattle.linear_cons.specs.declared.exact.Wide.{Wide}
use Rattle.linear_cons.specs.declared.row.Row.{Row}
use Rattle.linear_cons.specs.Functions.{IsOver, NumbersFit, complement_of, constant_of, difference_of, sum_of, value_at, variable_at}
use Rattle.linear_cons.specs.Numbers.{number_at}
use Rattle.linear_cons.specs.Rows.{Meets, MeetsAll}
use Rattle.linear_cons.specs.Tightest.{AreTightest}
use Rattle.linear_cons.proofs.Forms.{value_constant, value_difference, value_sum, value_variable}
use Rattle.linear_cons.proofs.Over.{over_constant}
use Rattle.linear_solve.specs.Answers.{HasNoStore}
use Rattle.integer_point.specs.Hard.{MayHaveStore}
use Rattle.decision_tree.specs.declared.affine_rank.AffineRank.{AffineRank}
use Rattle.decision_tree.specs.Evaluation.{eval}
use Rattle.decision_tree.specs.Extent.{ComplementsFit, IsTreeOver}
use Rattle.decision_tree.specs.Plans.{Plan, bottom, branch, is_defined, leaf, top}
use Rattle.tree_unify.specs.Shapes.{trimmed}
use Rattle.int_fit.specs.Fitting.{AreInts, FitsInt}
use Rattle.line_text.specs.LineText.{functions_of}
use Rattle.line_text.proofs.Rows.{met_as_condition}
use Rattle.report_text.specs.declared.line.Line.{Line}
use Rattle.report_text.specs.declared.line.Top.TheVariants.{Fits}
use Rattle.report_text.specs.Fitting.{AreFitLines, AreLeft, IsAddedIfMet, IsMadeOf, ListsFit, goes, none, plain, stays}
use Rattle.report_text.specs.Leaves.{MeetsOneLine, NoneOf, OneOf, claim_at, is_unknown}
use Rattle.report_text.specs.Printed.{IsLineOver}
use Rattle.report_text.proofs.Over.{tree_lines_over}
use Rattle.report_text.proofs.Standing.{one_line_met, one_of_parts}
use Rattle.report_text.proofs.Tightening.{tightest_met}
use Rattle.report_text.proofs.Trimming.{trimmed_fits}

-- ---- the tree with one claim in place of each

plain_alike : (tree : Plan AffineRank) (store : List ℤ) → is_defined (eval (plain tree) store) ≡ is_defined (eval tree store)
plain_alike bottom store = refl
plain_alike (top cause) store = refl
plain_alike (leaf why rank) store = refl
plain_alike (branch row this that) store =
    at_side (int_le (pos 0) (value_at row.affine store)) (plain_alike this store) (plain_alike that store)
  where
    at_side : (t : Bool) → is_defined (eval (plain this) store) ≡ is_defined (eval this store)
        → is_defined (eval (plain that) store) ≡ is_defined (eval that store)
        → is_defined (cond t (eval (plain this) store) (eval (plain that) store)) ≡ is_defined (cond t (eval this store) (eval that store))
    at_side true first second = first
    at_side false first second = second

plain_over : (vars : ℕ) (tree : Plan AffineRank) → IsTreeOver vars tree → IsTreeOver vars (plain tree)
plain_over vars bottom over = tt
plain_over vars (top cause) over = tt
plain_over vars (leaf why rank) over = (over_constant vars (pos 0), tt)
plain_over vars (branch row this that) over = (over.0, plain_over vars this over.1, plain_over vars that over.2)

pub plain_complements : (tree : Plan AffineRank) → ComplementsFit tree → ComplementsFit (plain tree)
plain_complements bottom fit = tt
plain_complements (top cause) fit = tt
plain_complements (leaf why rank) fit = tt
plain_complements (branch row this that) fit = (fit.0, plain_complements this fit.1, plain_complements that fit.2)

pub plain_made : (tree made : Plan AffineRank) → made ≡ plain tree → IsMadeOf made tree
plain_made tree made is = record {
  alike = λ store. ap (λ t. is_defined (eval t store)) is ∙ plain_alike tree store;
  over = λ vars over. subst (IsTreeOver vars) (sym is) (plain_over vars tree over);
}

-- and trimmed
module _ (same : AffineRank → AffineRank → Bool) (tree made : Plan AffineRank) (is : made ≡ trimmed same [] (plain tree)) where
  pub trimmed_made : ((store : List ℤ) → eval (trimmed same [] (plain tree)) store ≡ eval (plain tree) store) → IsMadeOf made tree
  trimmed_made keeps = record {
    alike = λ store. ap (λ t. is_defined (eval t store)) is ∙ ap is_defined (keeps store) ∙ plain_alike tree store;
    over = λ vars over.
        subst (IsTreeOver vars) (sym is) (trimmed_fits same (IsTreeOver vars) (λ row. IsOver vars row.affine) (λ row this that own. own)
        (λ row this that own first second. (own, first, second)) [] (plain tree) (plain_over vars tree over));
  }

  pub trimmed_complements : ComplementsFit tree → ComplementsFit made
  trimmed_complements fit =
      subst ComplementsFit (sym is) (trimmed_fits same ComplementsFit (λ row. NumbersFit (complement_of row.affine)) (λ row this that own. own)
      (λ row this that own first second. (own, first, second)) [] (plain tree) (plain_complements tree fit))

-- ---- which lines are left

stays_behind : {vars : ℕ} {lines left : List Line} (line : Line) → AreLeft vars lines left → AreLeft vars (lines ++ line ∷ []) (left ++ line ∷ [])
stays_behind line none = stays none
stays_behind line (stays more) = stays (stays_behind line more)
stays_behind line (goes nowhere more) = goes nowhere (stays_behind line more)

goes_behind : {vars : ℕ} {lines left : List Line} (line : Line) → ((store : List ℤ) → AreInts vars store → ¬ MeetsAll store line.rows)
    → AreLeft vars lines left → AreLeft vars (lines ++ line ∷ []) left
goes_behind line nowhere none = goes nowhere none
goes_behind line nowhere (stays more) = stays (goes_behind line nowhere more)
goes_behind line nowhere (goes other more) = goes other (goes_behind line nowhere more)

-- one line more, that was appended or left out
pub one_more_left : (vars : ℕ) (whole : List Line) (i : ℕ) (line : Line) (ranges : List Row) (old new : List Line) → i < length whole
    → line ≡ get_or whole i line → ((store : List ℤ) → AreInts vars store → MeetsAll store ranges) → AreLeft vars (take i whole) old
    → IsAddedIfMet line ranges old new → AreLeft vars (take (i + 1) whole) new
one_more_left vars whole i line ranges old new low item small so_far (inl appended) =
    rw (take_snoc whole i line low item, appended) (stays_behind line so_far)
one_more_left vars whole i line ranges old new low item small so_far (inr (same, nowhere)) =
    rw (take_snoc whole i line low item, same) (goes_behind line (λ store ints met. nowhere store met (small store ints)) so_far)

-- it was appended as a copy
pub copy_added : (line : Line) (ranges rows : List Row) (old new : List Line) → rows ≡ line.rows
    → new ≡ old ++ record { rows = rows; claim = line.claim } ∷ [] → IsAddedIfMet line ranges old new
copy_added line ranges rows old new same is = inl (is ∙ ap (λ rs. old ++ record { rows = rs; claim = line.claim } ∷ []) same)

-- what holds of all lines holds of those that are left
pub all_left : (P : Line → Type 0) {vars : ℕ} {lines left : List Line} → AreLeft vars lines left → All P lines → All P left
all_left P none all = all
all_left P (stays {line} {lines} {left} more) all = All-cons P line left (All-head P line lines all) (all_left P more (All-tail P line lines all))
all_left P (goes {line} {lines} {left} nowhere more) all = all_left P more (All-tail P line lines all)

-- ---- a store of such numbers meets one line

module _ (vars : ℕ) (store : List ℤ) (small : AreInts vars store) (Is : Line → Type 0) where
  abbrev Met : Line → Type 0
  Met line = MeetsAll store line.rows

  none_left : {lines left : List Line} → AreLeft vars lines left → NoneOf Met lines → NoneOf Met left
  none_left none unmet = tt
  none_left (stays more) unmet = (unmet.0, none_left more unmet.1)
  none_left (goes nowhere more) unmet = none_left more unmet.1

  one_left : {lines left : List Line} → AreLeft vars lines left → OneOf Met Is lines → OneOf Met Is left
  one_left none one = absurd one
  one_left (stays more) (inl met) = inl (met.0, met.1, none_left more met.2)
  one_left (stays more) (inr later) = inr (later.0, one_left more later.1)
  one_left (goes nowhere more) (inl met) = absurd (nowhere store small met.0)
  one_left (goes nowhere more) (inr later) = one_left more later.1

  none_behind : (front : List Line) {lines left : List Line} → AreLeft vars lines left → NoneOf Met (front ++ lines) → NoneOf Met (front ++ left)
  none_behind [] are unmet = none_left are unmet
  none_behind (line ∷ front) are unmet = (unmet.0, none_behind front are unmet.1)

  one_behind : (front : List Line) {lines left : List Line} → AreLeft vars lines left → OneOf Met Is (front ++ lines) → OneOf Met Is (front ++ left)
  one_behind [] are one = one_left are one
  one_behind (line ∷ front) are (inl met) = inl (met.0, met.1, none_behind front are met.2)
  one_behind (line ∷ front) are (inr later) = inr (later.0, one_behind front are later.1)

pub fit_line_met : (vars : ℕ) (tree : Plan AffineRank) (fits unknown : List Line) → (lists : ListsFit vars tree fits unknown) → (store : List ℤ)
    → AreInts vars store → MeetsOneLine store (claim_at Fits (eval tree store)) (fits ++ unknown)
fit_line_met vars tree fits unknown lists store small =
    let Own : Line → Type 0 = λ (line : Line). line.claim ≡ claim_at Fits (eval tree store) in
    let parts = one_of_parts (λ (line : Line). MeetsAll store line.rows) Own (λ (line : Line). is_unknown line.claim) lists.lines
    (one_line_met Fits store tree lists.lines lists.lines_of) in
    rw lists.claimed (one_behind vars store small Own _ lists.left parts)

-- ---- over names

pub fit_lines_over : (names : List (List ℕ)) → length names ≤ 15 → (vars : ℕ) (tree : Plan AffineRank) (fits unknown : List Line)
    → IsTreeOver (length names) tree → AreFitLines vars tree fits unknown → All (IsLineOver names) fits × All (IsLineOver names) unknown
fit_lines_over names few vars tree fits unknown over are =
    let lists = are.lists in
    let all = tree_lines_over names few Fits are.made lists.lines (are.made_of.over (length names) over) lists.lines_of in (
      subst (All (IsLineOver names)) (sym lists.claimed) (All-filter (λ line. not (is_unknown line.claim)) (IsLineOver names) lists.lines all),
      all_left (IsLineOver names) lists.left (All-filter (λ line. is_unknown line.claim) (IsLineOver names) lists.lines all),
    )

-- ---- rows that no store meets together with others

pub one_down : (rows ranges old new : List Row) (i : ℕ) (row : Row) → i < length ranges → row ≡ get_or ranges i row → old ≡ rows ++ take i ranges
    → new ≡ old ++ row ∷ [] → new ≡ rows ++ take (i + 1) ranges
one_down rows ranges old new i row low item before after =
    after ∙ ap (λ t. t ++ row ∷ []) before ∙ append_assoc rows (take i ranges) (row ∷ [])
    ∙ ap (λ t. rows ++ t) (sym (take_snoc ranges i row low item))

pub both_met_nowhere : (rows ranges way kept : List Row) (nowhere : Bool) → way ≡ rows ++ ranges → AreTightest (functions_of way) kept
    → MatchBool nowhere (HasNoStore kept) (MayHaveStore kept) → nowhere ≡ true → (store : List ℤ) → MeetsAll store rows → ¬ MeetsAll store ranges
both_met_nowhere rows ranges way kept true is tightest empty holds store met other =
    let both : MeetsAll store way = subst (MeetsAll store) (sym is) (All-append (Meets store) rows ranges met other) in
    empty store ((tightest_met (functions_of way) kept store tightest).1 ((met_as_condition store way).0 both))
both_met_nowhere rows ranges way kept false is tightest may holds store met other = absurd (false≢true holds)

-- ---- the rows of ranges

from_least : (z : ℤ) → FitsInt z → pos 0 ≤ℤ (z +ℤ pos 2147483648)
from_least z fits = let small = fits.sfits in omega (arith, ints)

to_greatest : (z : ℤ) → FitsInt z → pos 0 ≤ℤ (pos 2147483647 -ℤ z)
to_greatest z fits = let small = fits.sfits in omega (arith, ints)

pub lower_met : (store : List ℤ) (place : ℕ) → place < 16 → FitsInt (number_at store place)
    → pos 0 ≤ℤ value_at (sum_of (variable_at place) (constant_of (pos 2147483648))) store
lower_met store place low fits =
    let value = value_sum (variable_at place) (constant_of (pos 2147483648)) store
    ∙ ap₂ ◌+ℤ◌ (value_variable place store low) (value_constant (pos 2147483648) store) in
    subst (λ z. pos 0 ≤ℤ z) (sym value) (from_least (number_at store place) fits)

pub upper_met : (store : List ℤ) (place : ℕ) → place < 16 → FitsInt (number_at store place)
    → pos 0 ≤ℤ value_at (difference_of (constant_of (pos 2147483647)) (variable_at place)) store
upper_met store place low fits =
    let value = value_difference (constant_of (pos 2147483647)) (variable_at place) store
    ∙ ap₂ ◌-ℤ◌ (value_constant (pos 2147483647) store) (value_variable place store low) in
    subst (λ z. pos 0 ≤ℤ z) (sym value) (to_greatest (number_at store place) fits)

-- a function is at least 0 at the store, where it was made
pub made_met : (store : List ℤ) (made : Result Affine Wide) (a : Affine) → OkIff made (NumbersFit a) a → pos 0 ≤ℤ value_at a store
    → IfOk made (λ b. pos 0 ≤ℤ value_at b store)
made_met store (Ok b) a exact met = subst (λ f. pos 0 ≤ℤ value_at f store) (sym exact.1) met
made_met store (Err wide) a exact met = tt
