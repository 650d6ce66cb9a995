-- At which leaf of a tree a store stands that was moved back over a test or an assignment of which one outcome or value is picked.
use Rattle.std.proofs.Common.{◌≡◌, ◌↔◌, ◌⊎◌, inl, inr, ⊎_elim, ℕ, ◌<◌, ℤ, pos, negsuc, ◌≤ℤ◌, Bool, true, false, List, [], ◌∷◌, Option, None, Some, length, IsTrue, refl, sym, ap, ◌∙◌, arith, set}
use Rattle.std.proofs.lemmas.Bool.{false≢true}
use Rattle.std.proofs.lemmas.Int.{ints}
use Rattle.linear_cons.specs.declared.affine.Affine.{Affine}
use Rattle.linear_cons.specs.declared.row.RowKind.{RowKind}
use Rattle.linear_cons.specs.Bounds.{IsFrom, IsUpTo}
use Rattle.linear_cons.specs.Functions.{constant_of, difference_of, value_at}
use Rattle.linear_cons.specs.Rows.{MeetsKind}
use Rattle.linear_cons.proofs.Forms.{value_constant, value_difference}
use Rattle.linear_forms.proofs.MeetingLaws.{row_meets}
use Rattle.decision_tree.specs.Evaluation.{eval}
use Rattle.decision_tree.specs.Plans.{IsEnd, Plan, bottom, branch, is_defined, leaf, top}
use Rattle.decision_tree.specs.Alternatives.{Alternatives}
use Rattle.decision_tree.specs.declared.reason.Pick.{Pick}
use Rattle.decision_tree.specs.declared.reason.Pick.TheVariants.{No, Value, Yes}
use Rattle.decision_tree.specs.declared.reason.Why.{Why}
use Rattle.tree_unify.specs.Shapes.{trimmed}
use Rattle.tree_unify.proofs.Meeting.{eval_is_end}
use Rattle.backward_transfer.specs.Chosen.{LeadsToClaim, from_end, to_end, up_to, with_more, with_some, with_value}
use Rattle.backward_transfer.specs.Picks.{either_of, picked}
use Rattle.backward_transfer.specs.Steps.{asked, assigned_by, step_by, stepped_by}
use Rattle.backward_transfer.specs.Values.{tried_values}
use Rattle.backward_transfer.proofs.Standing.{asked_met, asked_missed, assign_by_eval, cut_eval, step_by_eval, step_same}

-- a leaf that claims something is defined
defined_leaf : {R : Type 0} (end : Plan R) (why : Why) (rank : R) → end ≡ leaf why rank → is_defined end ≡ true
defined_leaf end why rank is = ap is_defined is

not_claimed : {R : Type 0} (end : Plan R) (why : Why) (rank : R) → is_defined end ≡ false → end ≡ leaf why rank → ⊥
not_claimed end why rank none is = false≢true (sym none ∙ defined_leaf end why rank is)

-- what a step or an assignment makes of a leaf that is claimed comes of one
assigned_claim : {R : Type 0} (same : R → R → Bool) (put : R → ℕ → Affine → R) (one_more : R → R) (pick : Pick) (place : ℕ) (by : Affine) (end : Plan R) (why : Why) (rank : R)
    → IsEnd end → assigned_by same put one_more pick place by end ≡ leaf why rank
    → (reason : Why) × (behind : R) × (end ≡ leaf reason behind) × (leaf why rank ≡ step_by pick (one_more (put behind place by)))
assigned_claim same put one_more pick place by bottom why rank ends own = absurd (not_claimed bottom why rank refl own)
assigned_claim same put one_more pick place by (top cause) why rank ends own = absurd (not_claimed (top cause) why rank refl own)
assigned_claim same put one_more pick place by (leaf reason behind) why rank ends own = (reason, behind, refl, sym own)
assigned_claim same put one_more pick place by (branch row this that) why rank ends own = absurd ends

-- a store meets a constraint or doesn't
kind_met_or_not : (a : Affine) (kind : RowKind) (store : List ℤ) → (MeetsKind store kind ↔ (pos 0 ≤ℤ value_at a store)) → MeetsKind store kind ⊎ (MeetsKind store kind → ⊥)
kind_met_or_not a kind store meets = at (value_at a store) refl
  where
    at : (z : ℤ) → value_at a store ≡ z → MeetsKind store kind ⊎ (MeetsKind store kind → ⊥)
    at (pos n) is = inl (meets.1 (rw is (omega (arith, ints))))
    at (negsuc n) is = inr (λ met. let least = rw is at (meets.0 met) in omega (arith, ints, least))

-- the value lies above the lower end, and below the upper one, where the store meets what is asked of it
from_met : (lo : Option ℤ) (a : Affine) (store : List ℤ) → MeetsKind store (from_end lo a) → IsFrom lo (value_at a store)
from_met None a store met = tt
from_met (Some n) a store met =
    let least = (row_meets (difference_of a (constant_of n)) store).0 met in
    let difference = value_difference a (constant_of n) store in
    let constant = value_constant n store in
    omega (arith, ints, least, difference, constant)

to_met : (hi : Option ℤ) (a : Affine) (store : List ℤ) → MeetsKind store (to_end hi a) → IsUpTo hi (value_at a store)
to_met None a store met = tt
to_met (Some n) a store met =
    let least = (row_meets (difference_of (constant_of n) a) store).0 met in
    let difference = value_difference (constant_of n) a store in
    let constant = value_constant n store in
    omega (arith, ints, least, difference, constant)

from_known : (lo : Option ℤ) (a : Affine) (store : List ℤ) → MeetsKind store (from_end lo a) ⊎ (MeetsKind store (from_end lo a) → ⊥)
from_known None a store = inl tt
from_known (Some n) a store = kind_met_or_not (difference_of a (constant_of n)) (from_end (Some n) a) store (row_meets (difference_of a (constant_of n)) store)

to_known : (hi : Option ℤ) (a : Affine) (store : List ℤ) → MeetsKind store (to_end hi a) ⊎ (MeetsKind store (to_end hi a) → ⊥)
to_known None a store = inl tt
to_known (Some n) a store = kind_met_or_not (difference_of (constant_of n) a) (to_end (Some n) a) store (row_meets (difference_of (constant_of n) a) store)

-- what is claimed where a constraint is asked, and nothing elsewhere
only_met : {R : Type 0} (same : R → R → Bool) (alike : (rank other : R) → IsTrue (same rank other) ↔ (rank ≡ other)) (kind : RowKind) (tree : Plan R) (store : List ℤ) (why : Why)
    (rank : R) → MeetsKind store kind ⊎ (MeetsKind store kind → ⊥) → eval (asked same kind tree bottom) store ≡ leaf why rank
    → MeetsKind store kind × (eval tree store ≡ leaf why rank)
only_met same alike kind tree store why rank (inl met) own = (met, sym (asked_met same alike kind tree bottom store met) ∙ own)
only_met same alike kind tree store why rank (inr missed) own =
    absurd (not_claimed bottom why rank refl (sym (asked_missed same alike kind tree bottom store missed) ∙ own))

module _ {R : Type 0} (same : R → R → Bool) (alike : (rank other : R) → IsTrue (same rank other) ↔ (rank ≡ other)) (where_greater : R → R → Alternatives)
    (greater_fits : R → R → Type 0) (put : R → ℕ → Affine → R) (one_more : R → R)
    (first : (a b : Plan R) (store : List ℤ) → is_defined (eval a store) ≡ true → eval (either_of same where_greater greater_fits a b) store ≡ eval a store)
    (second : (a b : Plan R) (store : List ℤ) → is_defined (eval a store) ≡ false → is_defined (eval b store) ≡ true
    → eval (either_of same where_greater greater_fits a b) store ≡ eval b store)
    (neither : (a b : Plan R) (store : List ℤ) → is_defined (eval a store) ≡ false → is_defined (eval b store) ≡ false
    → eval (either_of same where_greater greater_fits a b) store ≡ eval a store)
    (lo hi : Option ℤ) (place : ℕ) (plan : Plan R) (store : List ℤ) (low : place < 16) (long : length store ≡ 16)
  where
    abbrev Leads : Why → R → Type 0
    Leads why rank = LeadsToClaim put one_more lo hi place plan store why rank

    -- a claim of either tree is one of the two
    either_claim : (a b : Plan R) (why : Why) (rank : R) → eval (either_of same where_greater greater_fits a b) store ≡ leaf why rank
        → (eval a store ≡ leaf why rank) ⊎ (eval b store ≡ leaf why rank)
    either_claim a b why rank own = at (is_defined (eval a store)) (is_defined (eval b store)) refl refl
      where
        at : (t u : Bool) → is_defined (eval a store) ≡ t → is_defined (eval b store) ≡ u → (eval a store ≡ leaf why rank) ⊎ (eval b store ≡ leaf why rank)
        at true u one two = inl (sym (first a b store one) ∙ own)
        at false true one two = inr (sym (second a b store one two) ∙ own)
        at false false one two = absurd (not_claimed (eval a store) why rank one (sym (neither a b store one two) ∙ own))

    value_claim : (a : Affine) (why : Why) (rank : R) → eval (with_value same put one_more lo hi place plan a) store ≡ leaf why rank → Leads why rank
    value_claim a why rank own =
        let from = only_met same alike (from_end lo a) (up_to same put one_more hi place plan a) store why rank (from_known lo a store) own in
        let to = only_met same alike (to_end hi a) (assigned_by same put one_more (Value a) place a plan) store why rank (to_known hi a store) from.1 in
        let behind = set store place (value_at a store) in
        let found = assigned_claim same put one_more (Value a) place a (eval plan behind) why rank (eval_is_end plan behind)
        (sym (assign_by_eval same alike one_more put place a store low long (Value a) plan) ∙ to.1) in
        record { value = a; from = from_met lo a store from.0; to = to_met hi a store to.0; reason = found.0; behind = found.1; claimed = found.2; here = found.3 }

    more_claim : (made : Plan R) (values : List Affine) (why : Why) (rank : R) → (eval made store ≡ leaf why rank → Leads why rank)
        → eval (with_more same where_greater greater_fits put one_more lo hi place plan made values) store ≡ leaf why rank → Leads why rank
    more_claim made [] why rank begun own = begun own
    more_claim made (a ∷ rest) why rank begun own =
        more_claim (either_of same where_greater greater_fits made (with_value same put one_more lo hi place plan a)) rest why rank
        (λ both. ⊎_elim begun (value_claim a why rank) (either_claim made (with_value same put one_more lo hi place plan a) why rank both)) own

    some_claim : (values : List Affine) (why : Why) (rank : R)
        → eval (with_some same where_greater greater_fits put one_more lo hi place plan values) store ≡ leaf why rank → Leads why rank
    some_claim [] why rank own = absurd (not_claimed bottom why rank refl own)
    some_claim (a ∷ rest) why rank own = more_claim (with_value same put one_more lo hi place plan a) rest why rank (value_claim a why rank) own

    -- each claim is of a value in the range that leads to one
    pub picked_claim : (why : Why) (rank : R)
        → eval (trimmed same [] (with_some same where_greater greater_fits put one_more lo hi place plan (tried_values lo hi place plan))) store ≡ leaf why rank
        → Leads why rank
    picked_claim why rank own =
        some_claim (tried_values lo hi place plan) why rank
        (sym (cut_eval same alike (with_some same where_greater greater_fits put one_more lo hi place plan (tried_values lo hi place plan)) store) ∙ own)

-- ---- a test of which one outcome is picked

module _ {R : Type 0} (same : R → R → Bool) (alike : (rank other : R) → IsTrue (same rank other) ↔ (rank ≡ other)) (where_greater : R → R → Alternatives)
    (greater_fits : R → R → Type 0) (one_more : R → R)
  where
    same_claim : (pick : Pick) (plan : Plan R) (store : List ℤ) → is_defined (eval (stepped_by same one_more pick plan) store) ≡ is_defined (eval plan store)
    same_claim pick plan store =
        ap is_defined (step_by_eval same alike one_more pick plan store) ∙ step_same same alike one_more pick (eval plan store) (eval_is_end plan store)

    cut_picked : (this that : Plan R) (store : List ℤ)
        → eval (trimmed same [] (picked same where_greater greater_fits one_more this that)) store ≡ eval (picked same where_greater greater_fits one_more this that) store
    cut_picked this that store = cut_eval same alike (picked same where_greater greater_fits one_more this that) store

    pub outcome_holds : ((a b : Plan R) (store : List ℤ) → is_defined (eval a store) ≡ true → eval (either_of same where_greater greater_fits a b) store ≡ eval a store)
        → (this that : Plan R) (store : List ℤ) (why : Why) (rank : R) → eval this store ≡ leaf why rank
        → eval (trimmed same [] (picked same where_greater greater_fits one_more this that)) store ≡ step_by Yes (one_more rank)
    outcome_holds first this that store why rank is =
        cut_picked this that store
        ∙ first (stepped_by same one_more Yes this) (stepped_by same one_more No that) store (same_claim Yes this store ∙ ap is_defined is)
        ∙ step_by_eval same alike one_more Yes this store ∙ ap (stepped_by same one_more Yes) is

    pub outcome_fails : ((a b : Plan R) (store : List ℤ) → is_defined (eval a store) ≡ false → is_defined (eval b store) ≡ true
        → eval (either_of same where_greater greater_fits a b) store ≡ eval b store)
        → (this that : Plan R) (store : List ℤ) (why : Why) (rank : R) → is_defined (eval this store) ≡ false → eval that store ≡ leaf why rank
        → eval (trimmed same [] (picked same where_greater greater_fits one_more this that)) store ≡ step_by No (one_more rank)
    outcome_fails second this that store why rank none is =
        cut_picked this that store
        ∙ second (stepped_by same one_more Yes this) (stepped_by same one_more No that) store (same_claim Yes this store ∙ none) (same_claim No that store ∙ ap is_defined is)
        ∙ step_by_eval same alike one_more No that store ∙ ap (stepped_by same one_more No) is

    pub outcome_none : ((a b : Plan R) (store : List ℤ) → is_defined (eval a store) ≡ false → is_defined (eval b store) ≡ false
        → eval (either_of same where_greater greater_fits a b) store ≡ eval a store)
        → (this that : Plan R) (store : List ℤ) → is_defined (eval this store) ≡ false → is_defined (eval that store) ≡ false
        → is_defined (eval (trimmed same [] (picked same where_greater greater_fits one_more this that)) store) ≡ false
    outcome_none neither this that store none other =
        ap is_defined (cut_picked this that store
        ∙ neither (stepped_by same one_more Yes this) (stepped_by same one_more No that) store (same_claim Yes this store ∙ none) (same_claim No that store ∙ other))
        ∙ same_claim Yes this store ∙ none
