-- Each store meets exactly one of a tree's lines, and exactly one of those that claim something and those that claim nothing together.
use Rattle.std.proofs.Common.{◌≡◌, inl, inr, suc, ℤ, pos, ◌≤ℤ◌, Bool, true, false, not, cond, int_le, List, [], ◌∷◌, ◌++◌, filter, refl, ◌∙◌, arith}
use Rattle.std.specs.Bool.{⊤}
use Rattle.std.proofs.lemmas.Int.{ints}
use Rattle.std.proofs.lemmas.List.Elements.{All-cons, All-push}
use Rattle.linear_cons.specs.declared.affine.Affine.{Affine}
use Rattle.linear_cons.specs.declared.row.Row.{Row}
use Rattle.linear_cons.specs.Functions.{complement_of, value_at}
use Rattle.linear_cons.specs.Rows.{MeetsAll}
use Rattle.linear_cons.proofs.RowLaws.{complement_met}
use Rattle.decision_tree.specs.declared.affine_rank.AffineRank.{AffineRank}
use Rattle.decision_tree.specs.Evaluation.{eval}
use Rattle.decision_tree.specs.Plans.{Plan, bottom, top, leaf, branch}
use Rattle.decision_tree.specs.Paths.{MeetsPath}
use Rattle.line_text.specs.declared.claim.Claim.{Claim}
use Rattle.report_text.specs.declared.line.Line.{Line}
use Rattle.report_text.specs.declared.line.Top.{Top}
use Rattle.report_text.specs.Leaves.{AreLines, AreLinesOf, MeetsOneLine, NoneOf, OneOf, claim_at, claim_by, claim_of, leaves_below, none, skipped, stands}
use Rattle.report_text.proofs.Tightening.{tightest_met}

-- ---- one of a list

module _ {X : Type 0} (Met Is : X → Type 0) where
  pub none_of_both : (xs ys : List X) → NoneOf Met xs → NoneOf Met ys → NoneOf Met (xs ++ ys)
  none_of_both [] ys here there = there
  none_of_both (x ∷ xs) ys here there = (here.0, none_of_both xs ys here.1 there)

  pub one_of_first : (xs ys : List X) → OneOf Met Is xs → NoneOf Met ys → OneOf Met Is (xs ++ ys)
  one_of_first [] ys here there = absurd here
  one_of_first (x ∷ xs) ys (inl met) there = inl (met.0, met.1, none_of_both xs ys met.2 there)
  one_of_first (x ∷ xs) ys (inr later) there = inr (later.0, one_of_first xs ys later.1 there)

  pub one_of_second : (xs ys : List X) → NoneOf Met xs → OneOf Met Is ys → OneOf Met Is (xs ++ ys)
  one_of_second [] ys here there = there
  one_of_second (x ∷ xs) ys here there = inr (here.0, one_of_second xs ys here.1 there)

  -- an element may stand between the two parts of a list as well as before both
  none_between : (x : X) (xs ys : List X) → ¬ Met x → NoneOf Met (xs ++ ys) → NoneOf Met (xs ++ x ∷ ys)
  none_between x [] ys unmet rest = (unmet, rest)
  none_between x (y ∷ xs) ys unmet rest = (rest.0, none_between x xs ys unmet rest.1)

  one_between : (x : X) (xs ys : List X) → OneOf Met Is (x ∷ (xs ++ ys)) → OneOf Met Is (xs ++ x ∷ ys)
  one_between x [] ys one = one
  one_between x (y ∷ xs) ys (inl met) = inr (met.2.0, one_between x xs ys (inl (met.0, met.1, met.2.1)))
  one_between x (y ∷ xs) ys (inr (unmet, inl met)) = inl (met.0, met.1, none_between x xs ys unmet met.2)
  one_between x (y ∷ xs) ys (inr (unmet, inr later)) = inr (later.0, one_between x xs ys (inr (unmet, later.1)))

  -- a list in the two parts that a test makes
  module _ (test : X → Bool) where
    abbrev pub parts : List X → List X
    parts xs = filter (λ x. not (test x)) xs ++ filter test xs

    at_front : (t : Bool) (x : X) (xs ys : List X) → OneOf Met Is (x ∷ (xs ++ ys)) → OneOf Met Is (cond (not t) (x ∷ xs) xs ++ cond t (x ∷ ys) ys)
    at_front true x xs ys one = one_between x xs ys one
    at_front false x xs ys one = one

    none_at_front : (t : Bool) (x : X) (xs ys : List X) → ¬ Met x → NoneOf Met (xs ++ ys)
        → NoneOf Met (cond (not t) (x ∷ xs) xs ++ cond t (x ∷ ys) ys)
    none_at_front true x xs ys unmet rest = none_between x xs ys unmet rest
    none_at_front false x xs ys unmet rest = (unmet, rest)

    pub none_of_parts : (xs : List X) → NoneOf Met xs → NoneOf Met (parts xs)
    none_of_parts [] h = h
    none_of_parts (x ∷ xs) h =
        none_at_front (test x) x (filter (λ y. not (test y)) xs) (filter test xs) h.0 (none_of_parts xs h.1)

    pub one_of_parts : (xs : List X) → OneOf Met Is xs → OneOf Met Is (parts xs)
    one_of_parts [] h = absurd h
    one_of_parts (x ∷ xs) (inl met) =
        at_front (test x) x (filter (λ y. not (test y)) xs) (filter test xs) (inl (met.0, met.1, none_of_parts xs met.2))
    one_of_parts (x ∷ xs) (inr later) =
        at_front (test x) x (filter (λ y. not (test y)) xs) (filter test xs) (inr (later.0, one_of_parts xs later.1))

-- ---- the leaf at which a store stands

module _ {R : Type 0} (claims : R → Claim) (store : List ℤ) where
  abbrev LeafMet : List Affine × Claim → Type 0
  LeafMet leaf_found = MeetsPath store leaf_found.0

  front_met : (above : List Affine) (a : Affine) → MeetsPath store (above ++ a ∷ []) → MeetsPath store above × (pos 0 ≤ℤ value_at a store)
  front_met [] a met = ((λ k d low. absurd (omega arith)), met 0 a (omega arith))
  front_met (b ∷ above) a met =
      let later = front_met above a (λ k d low. met (suc k) d (omega arith)) in
      (All-cons (λ c. pos 0 ≤ℤ value_at c store) b above (met 0 b (omega arith)) later.0, later.1)

  -- where the path above isn't met no leaf is
  none_below : (above : List Affine) (plan : Plan R) → ¬ MeetsPath store above → NoneOf LeafMet (leaves_below claims above plan)
  none_below above bottom unmet = (unmet, tt)
  none_below above (top cause) unmet = (unmet, tt)
  none_below above (leaf why rank) unmet = (unmet, tt)
  none_below above (branch row this that) unmet =
      none_of_both LeafMet (λ leaf_found. ⊤) (leaves_below claims (above ++ row.affine ∷ []) this)
      (leaves_below claims (above ++ complement_of row.affine ∷ []) that)
      (none_below (above ++ row.affine ∷ []) this (λ met. unmet (front_met above row.affine met).0))
      (none_below (above ++ complement_of row.affine ∷ []) that (λ met. unmet (front_met above (complement_of row.affine) met).0))

  -- the leaf claims what this one does
  abbrev ClaimsWhat : Plan R → List Affine × Claim → Type 0
  ClaimsWhat found leaf_found = leaf_found.1 ≡ claim_by claims found

  -- at a branch only the leaves of the store's side may be met
  at_branch : (above : List Affine) (row : Row) (this that : Plan R) (t : Bool) → int_le (pos 0) (value_at row.affine store) ≡ t
      → MeetsPath store above
      → (MeetsPath store (above ++ row.affine ∷ []) → OneOf LeafMet (ClaimsWhat (eval this store)) (leaves_below claims (above ++ row.affine ∷ []) this))
      → (MeetsPath store (above ++ complement_of row.affine ∷ [])
      → OneOf LeafMet (ClaimsWhat (eval that store)) (leaves_below claims (above ++ complement_of row.affine ∷ []) that))
      → OneOf LeafMet (ClaimsWhat (cond t (eval this store) (eval that store))) (leaves_below claims above (branch row this that))
  at_branch above row this that true is met here there =
      let holds : pos 0 ≤ℤ value_at row.affine store = omega (arith, ints) in
      one_of_first LeafMet (ClaimsWhat (eval this store)) (leaves_below claims (above ++ row.affine ∷ []) this)
      (leaves_below claims (above ++ complement_of row.affine ∷ []) that)
      (here (All-push (λ a. pos 0 ≤ℤ value_at a store) above row.affine met holds))
      (none_below (above ++ complement_of row.affine ∷ []) that
      (λ other. (complement_met row.affine store).0 (front_met above (complement_of row.affine) other).1 holds))
  at_branch above row this that false is met here there =
      let fails : ¬ (pos 0 ≤ℤ value_at row.affine store) = λ holds. omega (arith, ints) in
      one_of_second LeafMet (ClaimsWhat (eval that store)) (leaves_below claims (above ++ row.affine ∷ []) this)
      (leaves_below claims (above ++ complement_of row.affine ∷ []) that)
      (none_below (above ++ row.affine ∷ []) this (λ other. fails (front_met above row.affine other).1))
      (there (All-push (λ a. pos 0 ≤ℤ value_at a store) above (complement_of row.affine) met ((complement_met row.affine store).1 fails)))

  -- where it is met, one leaf is: the one at which the store stands
  one_below : (above : List Affine) (plan : Plan R) → MeetsPath store above
      → OneOf LeafMet (ClaimsWhat (eval plan store)) (leaves_below claims above plan)
  one_below above bottom met = inl (met, refl, tt)
  one_below above (top cause) met = inl (met, refl, tt)
  one_below above (leaf why rank) met = inl (met, refl, tt)
  one_below above (branch row this that) met =
      at_branch above row this that (int_le (pos 0) (value_at row.affine store)) refl met
      (one_below (above ++ row.affine ∷ []) this) (one_below (above ++ complement_of row.affine ∷ []) that)

  -- ---- from leaves to lines

  abbrev LineMet : Line → Type 0
  LineMet line = MeetsAll store line.rows

  no_line : {leaves : List (List Affine × Claim)} {lines : List Line} → AreLines leaves lines → NoneOf LeafMet leaves → NoneOf LineMet lines
  no_line none h = h
  no_line (skipped nowhere more) h = no_line more h.1
  no_line (stands {path} {claim} {line} is more) h =
      ((λ met. h.0 ((tightest_met path line.rows store is.rows).0 met)), no_line more h.1)

  one_line : (found : Plan R) {leaves : List (List Affine × Claim)} {lines : List Line} → AreLines leaves lines
      → OneOf LeafMet (ClaimsWhat found) leaves → OneOf LineMet (λ line. line.claim ≡ claim_by claims found) lines
  one_line found none h = absurd h
  one_line found (skipped nowhere more) (inl met) = absurd (nowhere store met.0)
  one_line found (skipped nowhere more) (inr later) = one_line found more later.1
  one_line found (stands {path} {claim} {line} is more) (inl met) =
      inl ((tightest_met path line.rows store is.rows).1 met.0, is.claims ∙ met.1, no_line more met.2)
  one_line found (stands {path} {claim} {line} is more) (inr later) =
      inr ((λ met. later.0 ((tightest_met path line.rows store is.rows).0 met)), one_line found more later.1)

  -- of the lines of all leaves below a path that is met exactly one is met, and none of those below one that isn't
  pub one_line_below : (above : List Affine) (plan : Plan R) (lines : List Line) → AreLines (leaves_below claims above plan) lines → MeetsPath store above
      → MeetsOneLine store (claim_by claims (eval plan store)) lines
  one_line_below above plan lines are met = one_line (eval plan store) are (one_below above plan met)

  pub no_line_below : (above : List Affine) (plan : Plan R) (lines : List Line) → AreLines (leaves_below claims above plan) lines → ¬ MeetsPath store above
      → NoneOf LineMet lines
  no_line_below above plan lines are unmet = no_line are (none_below above plan unmet)

pub one_line_met : (claims : Top) (store : List ℤ) (plan : Plan AffineRank) (lines : List Line) → AreLinesOf claims plan lines
    → MeetsOneLine store (claim_at claims (eval plan store)) lines
one_line_met claims store plan lines are = one_line_below (claim_of claims) store [] plan lines are (λ k d low. absurd (omega arith))
