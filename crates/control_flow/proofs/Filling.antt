-- What holds at labels while something is put in at one after the other.
use Rattle.std.proofs.Common.{◌≡◌, ◌⊎◌, inl, inr, ℕ, zero, suc, ◌<◌, ◌≤◌, true, false, List, get_or, length, set, refl, sym, ap, subst, arith, ⊎_elim}
use Rattle.std.proofs.lemmas.List.{get_or-set_other, get_or-set_same}
use Rattle.step_meaning.specs.Syntax.{Statements}
use Rattle.control_flow.specs.Actions.{AtAll, AtBehind, AtFirst, AtNext, IsBehind, IsDoneFirst, LeadsBelow, LeadsOn}
use Rattle.control_flow.specs.Edges.{is_head_by}
use Rattle.control_flow.specs.Labels.{Action, ends, assigns, passes, tests, action_at, all_labels}
use Rattle.control_flow.proofs.LabelLaws.{edges_lead_to_labels}
use Rattle.control_flow.proofs.Onward.{labels_lead_on}

pub same_or : (k l : ℕ) → (k ≡ l) ⊎ (k ≡ l → ⊥)
same_or zero zero = inl refl
same_or zero (suc l) = inr (λ same. absurd (omega arith))
same_or (suc k) zero = inr (λ same. absurd (omega arith))
same_or (suc k) (suc l) = ⊎_elim (λ same. inl (ap suc same)) (λ apart. inr (λ same. apart (omega arith))) (same_or k l)

-- ---- what follows

on_next : (body : Statements) (P : ℕ → Type 0) (l : ℕ) → AtBehind body (suc l) P → (action : Action)
    → LeadsOn body l action → LeadsBelow (length (all_labels body)) action → is_head_by action ≡ false → AtNext action P
on_next body P l holds ends on below plain = tt
on_next body P l holds (assigns x e next) on below plain = holds next below on
on_next body P l holds (passes next) on below plain = holds next below on
on_next body P l holds (tests true c p q) on below plain = absurd (cc)
on_next body P l holds (tests false c p q) on below plain = (holds p below.0 on.0, holds q below.1 on.1)

pub behind_next : (body : Statements) (P : ℕ → Type 0) (l : ℕ) → l < length (all_labels body) → is_head_by (action_at body l) ≡ false → AtBehind body (suc l) P
    → AtNext (action_at body l) P
behind_next body P l low plain holds = on_next body P l holds (action_at body l) (labels_lead_on body l low) (edges_lead_to_labels body l low) plain

below_next : (body : Statements) (P : ℕ → Type 0) → AtAll body P → (action : Action) → LeadsBelow (length (all_labels body)) action → AtNext action P
below_next body P holds ends below = tt
below_next body P holds (assigns x e next) below = holds next below
below_next body P holds (passes next) below = holds next below
below_next body P holds (tests head c p q) below = (holds p below.0, holds q below.1)

pub all_next : (body : Statements) (P : ℕ → Type 0) (l : ℕ) → l < length (all_labels body) → AtAll body P → AtNext (action_at body l) P
all_next body P l low holds = below_next body P holds (action_at body l) (edges_lead_to_labels body l low)

-- ---- an element put in

module _ {A : Type 0} (d : A) where
  module _ (Q : ℕ → A → Type 0) (body : Statements) (list : List A) (l : ℕ) where
    abbrev In : List A → ℕ → Type 0
    In xs k = Q k (get_or xs k d)

    put_in : (x : A) (k : ℕ) → l < length list → Q l x → ((k ≡ l → ⊥) → In list k) → In (set list l x) k
    put_in x k low here others =
        ⊎_elim
        (λ (same : k ≡ l). subst (λ i. Q i (get_or (set list l x) i d)) (sym same) (subst (Q l) (sym (get_or-set_same list l x d low)) here))
        (λ (apart : k ≡ l → ⊥). subst (Q k) (sym (get_or-set_other list l k x d apart)) (others apart)) (same_or k l)

    pub put_behind : (x : A) → l < length list → AtBehind body (suc l) (In list) → Q l x → AtBehind body l (In (set list l x))
    put_behind x low holds here k below behind =
        put_in x k low here (λ apart. holds k below (⊎_elim {C = IsBehind body (suc l) k} (λ (on : l ≤ k). inl (omega arith)) (λ known. inr known) behind))

    pub put_first : (x : A) → l < length list → AtFirst body l (In list) → Q l x → AtFirst body (suc l) (In (set list l x))
    put_first x low holds here k below first = put_in x k low here (λ apart. holds k (omega arith) first)

module _ (P : ℕ → Type 0) (body : Statements) (l : ℕ) where
  pub skip_behind : is_head_by (action_at body l) ≡ true → AtBehind body (suc l) P → AtBehind body l P
  skip_behind head holds k below behind = holds k below (⊎_elim {C = IsBehind body (suc l) k} (λ (on : l ≤ k).
      ⊎_elim {C = IsBehind body (suc l) k} (λ (same : k ≡ l). inr (inr (subst (λ i. is_head_by (action_at body i) ≡ true) (sym same) head))) (λ (apart : k ≡ l → ⊥). inl (omega arith)) (same_or k l))
      (λ known. inr known) behind)

  never_first : (k : ℕ) → 0 < l → is_head_by (action_at body l) ≡ false → IsDoneFirst body k → k ≡ l → ⊥
  never_first k some plain (inl nought) same = absurd (omega arith)
  never_first k some plain (inr head) same = let here : is_head_by (action_at body l) ≡ true = subst (λ i. is_head_by (action_at body i) ≡ true) same head in absurd (cc)

  pub skip_first : 0 < l → is_head_by (action_at body l) ≡ false → AtFirst body l P → AtFirst body (suc l) P
  skip_first some plain holds k below first = ⊎_elim
      (λ (same : k ≡ l). absurd (never_first k some plain first same)) (λ (apart : k ≡ l → ⊥). holds k (omega arith) first) (same_or k l)

pub behind_first : (P : ℕ → Type 0) (body : Statements) → AtFirst body (length (all_labels body)) P → AtBehind body (length (all_labels body)) P
behind_first P body holds k below (inl on) = absurd (omega arith)
behind_first P body holds k below (inr known) = holds k below known

pub all_behind : (P : ℕ → Type 0) (body : Statements) (n : ℕ) → n ≤ 1 → AtBehind body n P → AtAll body P
all_behind P body n few holds zero below = holds 0 below (inr (inl refl))
all_behind P body n few holds (suc k) below = holds (suc k) below (inl (omega arith))
