-- Each store is a judge.
use Rattle.std.proofs.Common.{◌≡◌, ◌↔◌, ◌⊎◌, inl, inr, ⊎_elim, ℤ, pos, ◌≤ℤ◌, int_le, Bool, true, false, not, List, refl, sym, arith}
use Rattle.std.proofs.lemmas.Int.{ints}
use Rattle.linear_cons.specs.declared.affine.Affine.{Affine}
use Rattle.linear_cons.specs.declared.row.RowKind.{RowKind}
use Rattle.linear_cons.specs.declared.row.RowKind.TheVariants.{Always, Never, Row as Kept}
use Rattle.linear_cons.specs.Functions.{complement_of, value_at}
use Rattle.linear_cons.specs.Rows.{MeetsKind, row_kind_of}
use Rattle.linear_cons.proofs.Forms.{value_complement}
use Rattle.linear_cons.proofs.Telling.{told_holds}
use Rattle.linear_forms.proofs.MeetingLaws.{row_meets}
use Rattle.decision_tree.specs.Evaluation.{eval}
use Rattle.decision_tree.specs.Plans.{Plan, bottom, branch, leaf, top}
use Rattle.exact_families.proofs.Judges.{IsJudge, judge_kind, judged}

-- what the store says of functions
abbrev pub store_says : List ℤ → Affine → Bool
store_says store a = int_le (pos 0) (value_at a store)

least : (z : ℤ) (t : Bool) → int_le (pos 0) z ≡ t → pos 0 ≤ℤ z → t ≡ true
least z true is above = refl
least z false is above = absurd (omega (arith, ints))

above : (z : ℤ) (t : Bool) → int_le (pos 0) z ≡ t → t ≡ true → pos 0 ≤ℤ z
above z true is own = omega (arith, ints)
above z false is own = absurd (cc)

pub says_true : (store : List ℤ) (a : Affine) → pos 0 ≤ℤ value_at a store → store_says store a ≡ true
says_true store a at_least = least (value_at a store) (store_says store a) refl at_least

pub true_says : (store : List ℤ) (a : Affine) → store_says store a ≡ true → pos 0 ≤ℤ value_at a store
true_says store a own = above (value_at a store) (store_says store a) refl own

turned_at : (z w : ℤ) (t u : Bool) → int_le (pos 0) z ≡ t → int_le (pos 0) w ≡ u → (pos 0 ≤ℤ w) ↔ (pos 0 ≤ℤ z → ⊥) → u ≡ not t
turned_at z w true true one two law = absurd (law.0 (omega (arith, ints)) (omega (arith, ints)))
turned_at z w true false one two law = refl
turned_at z w false true one two law = refl
turned_at z w false false one two law = let met = law.1 (λ own. omega (arith, ints)) in absurd (omega (arith, ints))

rounded_at : (store : List ℤ) (kind : RowKind) (z : ℤ) (t : Bool) → int_le (pos 0) z ≡ t → MeetsKind store kind ↔ (pos 0 ≤ℤ z) → t ≡ judge_kind (store_says store) kind
rounded_at store Always z t is law = least z t is (law.0 tt)
rounded_at store Never z true is law = absurd (law.1 (omega (arith, ints)))
rounded_at store Never z false is law = refl
rounded_at store (Kept row) z true is law = sym (says_true store row.affine (law.1 (omega (arith, ints))))
rounded_at store (Kept row) z false is law = at (store_says store row.affine) refl
  where
    at : (t : Bool) → store_says store row.affine ≡ t → false ≡ t
    at true own = absurd (let up = law.0 (true_says store row.affine own) in omega (arith, ints))
    at false own = refl

pub stores_judge : (store : List ℤ) → IsJudge (store_says store)
stores_judge store = record {
  turned = λ a. turned_at (value_at a store) (value_at (complement_of a) store) (store_says store a) (store_says store (complement_of a)) refl refl (
    λ met own. let v = value_complement a store in omega (arith, ints),
    λ none. let v = value_complement a store in ⊎_elim (λ own. absurd (none own)) (λ (t : pos 0 ≤ℤ value_at (complement_of a) store). t) (met_or a),
  );
  more = λ a b tell own. says_true store b (told_holds a b store tell (true_says store a own));
  rounded = λ a. rounded_at store (row_kind_of a) (value_at a store) (store_says store a) refl (row_meets a store);
}
  where
    met_or : (a : Affine) → (pos 0 ≤ℤ value_at a store) ⊎ (pos 0 ≤ℤ value_at (complement_of a) store)
    met_or a = at (store_says store a) refl
      where
        at : (t : Bool) → store_says store a ≡ t → (pos 0 ≤ℤ value_at a store) ⊎ (pos 0 ≤ℤ value_at (complement_of a) store)
        at true own = inl (omega (arith, ints))
        at false own = inr (let v = value_complement a store in omega (arith, ints))

-- the leaf by a store is that at which the store stands
pub judged_eval : {R : Type 0} (plan : Plan R) (store : List ℤ) → judged (store_says store) plan ≡ eval plan store
judged_eval bottom store = refl
judged_eval (top cause) store = refl
judged_eval (leaf why rank) store = refl
judged_eval (branch row this that) store = rw (judged_eval this store, judged_eval that store) refl
