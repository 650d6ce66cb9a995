-- What holds of each label: it has something to do, its edges lead to labels, and it mentions what its program declares.
use Rattle.std.proofs.Common.{◌≡◌, ℕ, zero, suc, ◌+◌, ◌<◌, ◌≤◌, [], ◌∷◌, ◌++◌, length, refl, arith}
use Rattle.step_meaning.specs.Step.{behind_body, Todo, front, items_of, one}
use Rattle.step_meaning.specs.Syntax.{Statement, Statements, assign, skip, return, break, continue, if_else, while_loop, do_while, empty, sequence, size_of, size_of_statement}
use Rattle.step_meaning.specs.Valid.{IsBody, IsStatement}
use Rattle.control_flow.specs.Actions.{IsSorted, LeadsBelow}
use Rattle.control_flow.specs.Labels.{Jumps, action_at, all_labels, entry_label, entry_of, first_label, inside, labels_of, labels_of_statement, rest, stray}
use Rattle.control_flow.proofs.Standing.{EachFrom, each_at, each_both, length-labels_of, length-labels_of_statement}

-- ---- something is to be done at each label but 0

mutual
  busy_statement : (n after : ℕ) (jumps : Jumps) (left : Todo) (s : Statement) → EachFrom (λ l x. front x.todo ≡ [] → ⊥) n (labels_of_statement n after jumps left s)
  busy_statement n after jumps left (assign x e) = ((λ h. absurd (cc)), tt)
  busy_statement n after jumps left skip = ((λ h. absurd (cc)), tt)
  busy_statement n after jumps left return = ((λ h. absurd (cc)), tt)
  busy_statement n after jumps left break = ((λ h. absurd (cc)), tt)
  busy_statement n after jumps left continue = ((λ h. absurd (cc)), tt)
  busy_statement n after jumps left (if_else c y z) =
      let size = length-labels_of (n + 1) after jumps left y in
      ((λ h. absurd (cc)), each_both (λ l x. front x.todo ≡ [] → ⊥) (n + 1) (n + 1 + size_of y) (labels_of (n + 1) after jumps left y) _ (omega arith) (busy_list (n + 1) after jumps left y) (busy_list (n + 1 + size_of y) after jumps left z))
  busy_statement n after jumps left (while_loop c body step) =
      let turn : ℕ = entry_label (n + 1 + size_of body) n step in
      let size = length-labels_of (n + 1) turn (inside after turn) (behind_body c body step left) body in
      ((λ h. absurd (cc)), each_both (λ l x. front x.todo ≡ [] → ⊥) (n + 1) (n + 1 + size_of body) (labels_of (n + 1) turn (inside after turn) (behind_body c body step left) body) _ (omega arith) (busy_list (n + 1) turn (inside after turn) (behind_body c body step left) body) (busy_list (n + 1 + size_of body) n jumps (one (while_loop c body step) ∷ left) step))
  busy_statement n after jumps left (do_while body c) =
      let size = length-labels_of n (n + size_of body) (inside after (n + size_of body)) (behind_body c body empty left) body in
      each_both (λ l x. front x.todo ≡ [] → ⊥) n (n + size_of body) (labels_of n (n + size_of body) (inside after (n + size_of body)) (behind_body c body empty left) body) _ (omega arith) (busy_list n (n + size_of body) (inside after (n + size_of body)) (behind_body c body empty left) body) ((λ h. absurd (cc)), tt)

  busy_list : (n after : ℕ) (jumps : Jumps) (left : Todo) (s : Statements) → EachFrom (λ l x. front x.todo ≡ [] → ⊥) n (labels_of n after jumps left s)
  busy_list n after jumps left empty = tt
  busy_list n after jumps left (sequence first more) =
      let next : ℕ = entry_label (n + size_of_statement first) after more in
      let size = length-labels_of_statement n next jumps (items_of more ++ left) first in
      each_both (λ l x. front x.todo ≡ [] → ⊥) n (n + size_of_statement first) (labels_of_statement n next jumps (items_of more ++ left) first) _ (omega arith) (busy_statement n next jumps (items_of more ++ left) first) (busy_list (n + size_of_statement first) after jumps left more)

pub only_end_is_final : (body : Statements) (l : ℕ) → l < length (all_labels body) → front (rest body l) ≡ [] → l ≡ 0
only_end_is_final body zero low h = refl
only_end_is_final body (suc k) low h =
    absurd (each_at (λ l x. front x.todo ≡ [] → ⊥) 1 (labels_of 1 0 stray [] body) (busy_list 1 0 stray [] body) k (suc k) (omega arith) (omega arith) h)

-- ---- each edge leads to a label

module _ (labels : ℕ) (some : 0 < labels) where
  mutual
    first_below : (n : ℕ) (s : Statement) → n + size_of_statement s ≤ labels → first_label n s < labels
    first_below n (assign x e) few = omega arith
    first_below n skip few = omega arith
    first_below n return few = omega arith
    first_below n break few = omega arith
    first_below n continue few = omega arith
    first_below n (if_else c y z) few = omega arith
    first_below n (while_loop c body step) few = omega arith
    first_below n (do_while body c) few = entry_below n (n + size_of body) body (omega arith) (omega arith)

    entry_below : (n after : ℕ) (s : Statements) → n + size_of s ≤ labels → after < labels → entry_label n after s < labels
    entry_below n after empty few follows = follows
    entry_below n after (sequence first more) few follows = first_below n first (omega arith)

  mutual
    below_statement : (n after : ℕ) (jumps : Jumps) (left : Todo) (s : Statement) → n + size_of_statement s ≤ labels → after < labels → jumps.out < labels → jumps.mark < labels → EachFrom (λ l x. LeadsBelow labels x.action) n (labels_of_statement n after jumps left s)
    below_statement n after jumps left (assign x e) few follows out mark = (follows, tt)
    below_statement n after jumps left skip few follows out mark = (follows, tt)
    below_statement n after jumps left return few follows out mark = (some, tt)
    below_statement n after jumps left break few follows out mark = (out, tt)
    below_statement n after jumps left continue few follows out mark = (mark, tt)
    below_statement n after jumps left (if_else c y z) few follows out mark =
        let size = length-labels_of (n + 1) after jumps left y in (
          (entry_below (n + 1) after y (omega arith) follows, entry_below (n + 1 + size_of y) after z (omega arith) follows),
          each_both (λ l x. LeadsBelow labels x.action) (n + 1) (n + 1 + size_of y) (labels_of (n + 1) after jumps left y) _ (omega arith)
              (below_list (n + 1) after jumps left y (omega arith) follows out mark) (below_list (n + 1 + size_of y) after jumps left z (omega arith) follows out mark),
        )
    below_statement n after jumps left (while_loop c body step) few follows out mark =
        let turn : ℕ = entry_label (n + 1 + size_of body) n step in
        let turned : turn < labels = entry_below (n + 1 + size_of body) n step (omega arith) (omega arith) in
        let size = length-labels_of (n + 1) turn (inside after turn) (behind_body c body step left) body in (
          (entry_below (n + 1) turn body (omega arith) turned, follows),
          each_both (λ l x. LeadsBelow labels x.action) (n + 1) (n + 1 + size_of body) (labels_of (n + 1) turn (inside after turn) (behind_body c body step left) body) _ (omega arith)
              (below_list (n + 1) turn (inside after turn) (behind_body c body step left) body (omega arith) turned follows turned)
              (below_list (n + 1 + size_of body) n jumps (one (while_loop c body step) ∷ left) step (omega arith) (omega arith) out mark),
        )
    below_statement n after jumps left (do_while body c) few follows out mark =
        let last : ℕ = n + size_of body in
        let low : last < labels = omega arith in
        let size = length-labels_of n last (inside after last) (behind_body c body empty left) body in
        each_both (λ l x. LeadsBelow labels x.action) n last (labels_of n last (inside after last) (behind_body c body empty left) body) _ (omega arith)
        (below_list n last (inside after last) (behind_body c body empty left) body (omega arith) low follows low)
        ((entry_below n last body (omega arith) low, follows), tt)

    below_list : (n after : ℕ) (jumps : Jumps) (left : Todo) (s : Statements) → n + size_of s ≤ labels → after < labels → jumps.out < labels → jumps.mark < labels → EachFrom (λ l x. LeadsBelow labels x.action) n (labels_of n after jumps left s)
    below_list n after jumps left empty few follows out mark = tt
    below_list n after jumps left (sequence first more) few follows out mark =
        let behind_it : ℕ = n + size_of_statement first in
        let next : ℕ = entry_label behind_it after more in
        let size = length-labels_of_statement n next jumps (items_of more ++ left) first in
        each_both (λ l x. LeadsBelow labels x.action) n behind_it (labels_of_statement n next jumps (items_of more ++ left) first) _ (omega arith)
        (below_statement n next jumps (items_of more ++ left) first (omega arith) (entry_below behind_it after more (omega arith) follows) out mark)
        (below_list behind_it after jumps left more (omega arith) follows out mark)

pub count_of_labels : (body : Statements) → length (all_labels body) ≡ 1 + size_of body
count_of_labels body = let size = length-labels_of 1 0 stray [] body in omega arith

pub edges_lead_to_labels : (body : Statements) (l : ℕ) → l < length (all_labels body) → LeadsBelow (length (all_labels body)) (action_at body l)
edges_lead_to_labels body zero low = tt
edges_lead_to_labels body (suc k) low =
    let count = count_of_labels body in
    each_at (λ l x. LeadsBelow (length (all_labels body)) x.action) 1 (labels_of 1 0 stray [] body)
    (below_list (length (all_labels body)) (omega arith) 1 0 stray [] body (omega arith) (omega arith) (omega arith) (omega arith)) k (suc k) (omega arith) (omega arith)

pub entry_is_a_label : (body : Statements) → entry_of body < length (all_labels body)
entry_is_a_label body =
    let count = count_of_labels body in
    entry_below (length (all_labels body)) (omega arith) 1 0 body (omega arith) (omega arith)

-- ---- each label of a valid body is over its variables

module _ (vars : ℕ) where
  mutual
    sorted_statement : (n after : ℕ) (jumps : Jumps) (left : Todo) (s : Statement) → IsStatement vars s → EachFrom (λ l x. IsSorted vars x.action) n (labels_of_statement n after jumps left s)
    sorted_statement n after jumps left (assign x e) valid = (valid, tt)
    sorted_statement n after jumps left skip valid = (tt, tt)
    sorted_statement n after jumps left return valid = (tt, tt)
    sorted_statement n after jumps left break valid = (tt, tt)
    sorted_statement n after jumps left continue valid = (tt, tt)
    sorted_statement n after jumps left (if_else c y z) valid =
        let size = length-labels_of (n + 1) after jumps left y in (
          valid.0,
          each_both (λ l x. IsSorted vars x.action) (n + 1) (n + 1 + size_of y) (labels_of (n + 1) after jumps left y) _ (omega arith)
              (sorted_list (n + 1) after jumps left y valid.1) (sorted_list (n + 1 + size_of y) after jumps left z valid.2),
        )
    sorted_statement n after jumps left (while_loop c body step) valid =
        let turn : ℕ = entry_label (n + 1 + size_of body) n step in
        let size = length-labels_of (n + 1) turn (inside after turn) (behind_body c body step left) body in (
          valid.0,
          each_both (λ l x. IsSorted vars x.action) (n + 1) (n + 1 + size_of body) (labels_of (n + 1) turn (inside after turn) (behind_body c body step left) body) _ (omega arith)
              (sorted_list (n + 1) turn (inside after turn) (behind_body c body step left) body valid.1) (sorted_list (n + 1 + size_of body) n jumps (one (while_loop c body step) ∷ left) step valid.2),
        )
    sorted_statement n after jumps left (do_while body c) valid =
        let last : ℕ = n + size_of body in
        let size = length-labels_of n last (inside after last) (behind_body c body empty left) body in
        each_both (λ l x. IsSorted vars x.action) n last (labels_of n last (inside after last) (behind_body c body empty left) body) _ (omega arith)
        (sorted_list n last (inside after last) (behind_body c body empty left) body valid.0) (valid.1, tt)

    sorted_list : (n after : ℕ) (jumps : Jumps) (left : Todo) (s : Statements) → IsBody vars s → EachFrom (λ l x. IsSorted vars x.action) n (labels_of n after jumps left s)
    sorted_list n after jumps left empty valid = tt
    sorted_list n after jumps left (sequence first more) valid =
        let next : ℕ = entry_label (n + size_of_statement first) after more in
        let size = length-labels_of_statement n next jumps (items_of more ++ left) first in
        each_both (λ l x. IsSorted vars x.action) n (n + size_of_statement first) (labels_of_statement n next jumps (items_of more ++ left) first) _ (omega arith)
        (sorted_statement n next jumps (items_of more ++ left) first valid.0) (sorted_list (n + size_of_statement first) after jumps left more valid.1)

  pub labels_are_sorted : (body : Statements) → IsBody vars body → (l : ℕ) → l < length (all_labels body) → IsSorted vars (action_at body l)
  labels_are_sorted body valid zero low = tt
  labels_are_sorted body valid (suc k) low = each_at (λ l x. IsSorted vars x.action) 1 (labels_of 1 0 stray [] body) (sorted_list 1 0 stray [] body valid) k (suc k) (omega arith) (omega arith)
