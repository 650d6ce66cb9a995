-- Each edge leads onward, but from and to the test of a loop, and to the end.
use Rattle.std.proofs.Common.{inl, inr, ℕ, zero, suc, ◌+◌, ◌<◌, ◌≤◌, true, List, [], ◌∷◌, ◌++◌, length, refl, ap, arith}
use Rattle.step_meaning.specs.Step.{Todo, behind_body, items_of, one}
use Rattle.step_meaning.specs.Syntax.{Statement, Statements, assign, skip, return, break, continue, if_else, while_loop, do_while, empty, sequence, size_of, size_of_statement}
use Rattle.control_flow.specs.Actions.{IsBehind, IsDoneFirst, LeadsOn}
use Rattle.control_flow.specs.Edges.{is_head_by}
use Rattle.control_flow.specs.Labels.{Jumps, Label, tests, action_at, all_labels, end, entry_label, first_label, inside, labels_of, labels_of_statement, stray}
use Rattle.control_flow.proofs.Standing.{EachFrom, StandsIn, each_at, each_both, each_left, each_right, length-labels_of, length-labels_of_statement, stands_behind}

module _ (whole : Statements) where
  abbrev On : ℕ → Label → Type 0
  On l x = LeadsOn whole l x.action

  nearer : (n m l : ℕ) → n ≤ m → IsBehind whole m l → IsBehind whole n l
  nearer n m l less (inl more) = inl (omega arith)
  nearer n m l less (inr known) = inr known

  mutual
    first_on : (n : ℕ) (s : Statement) → n ≤ first_label n s
    first_on n (assign x e) = omega arith
    first_on n skip = omega arith
    first_on n return = omega arith
    first_on n break = omega arith
    first_on n continue = omega arith
    first_on n (if_else c y z) = omega arith
    first_on n (while_loop c body step) = omega arith
    first_on n (do_while body c) = entry_on n (n + size_of body) body (omega arith)

    entry_on : (n after : ℕ) (s : Statements) → n ≤ after → n ≤ entry_label n after s
    entry_on n after empty less = less
    entry_on n after (sequence first more) less = first_on n first

  entry_behind : (n k after : ℕ) (s : Statements) → k ≤ n → IsBehind whole k after → IsBehind whole k (entry_label n after s)
  entry_behind n k after empty less follows = follows
  entry_behind n k after (sequence first more) less follows = let on = first_on n first in inl (omega arith)

  -- what follows a list, and what jumps lead to from it, is at least m or is done first
  record Ahead (m after : ℕ) (jumps : Jumps) : Type 0 where
    here : IsBehind whole m after
    out : IsBehind whole m jumps.out
    mark : IsBehind whole m jumps.mark

  ahead : (n m after : ℕ) (jumps : Jumps) → n ≤ m → Ahead m after jumps → Ahead n after jumps
  ahead n m after jumps less follows = record {
    here = nearer n m after less follows.here;
    out = nearer n m jumps.out less follows.out;
    mark = nearer n m jumps.mark less follows.mark;
  }

  mutual
    on_statement : (n after : ℕ) (jumps : Jumps) (left : Todo) (s : Statement) → EachFrom (StandsIn (all_labels whole)) n (labels_of_statement n after jumps left s)
        → Ahead (n + size_of_statement s) after jumps → EachFrom On n (labels_of_statement n after jumps left s)
    on_statement n after jumps left (assign x e) stands follows = (nearer (suc n) (n + 1) after (omega arith) follows.here, tt)
    on_statement n after jumps left skip stands follows = (nearer (suc n) (n + 1) after (omega arith) follows.here, tt)
    on_statement n after jumps left return stands follows = (inr (inl refl), tt)
    on_statement n after jumps left break stands follows = (nearer (suc n) (n + 1) jumps.out (omega arith) follows.out, tt)
    on_statement n after jumps left continue stands follows = (nearer (suc n) (n + 1) jumps.mark (omega arith) follows.mark, tt)
    on_statement n after jumps left (if_else c y z) stands follows =
        let first : List Label = labels_of (n + 1) after jumps left y in
        let second : List Label = labels_of (n + 1 + size_of y) after jumps left z in
        let size = length-labels_of (n + 1) after jumps left y in
        let behind_first : Ahead (n + 1 + size_of y) after jumps = ahead (n + 1 + size_of y) (n + size_of_statement (if_else c y z)) after jumps (omega arith) follows in
        let behind_second : Ahead (n + 1 + size_of y + size_of z) after jumps = ahead (n + 1 + size_of y + size_of z) (n + size_of_statement (if_else c y z)) after jumps (omega arith) follows in
        let near : IsBehind whole (suc n) after = nearer (suc n) (n + 1 + size_of y) after (omega arith) behind_first.here in (
          (entry_behind (n + 1) (suc n) after y (omega arith) near, entry_behind (n + 1 + size_of y) (suc n) after z (omega arith) near),
          each_both On (n + 1) (n + 1 + size_of y) first second (omega arith)
              (on_list (n + 1) after jumps left y (each_left (StandsIn (all_labels whole)) (n + 1) first second stands.1) behind_first)
              (on_list (n + 1 + size_of y) after jumps left z (each_right (StandsIn (all_labels whole)) (n + 1) (n + 1 + size_of y) first second (omega arith) stands.1) behind_second),
        )
    on_statement n after jumps left (while_loop c body step) stands follows =
        let turn : ℕ = entry_label (n + 1 + size_of body) n step in
        let loop : Todo = one (while_loop c body step) ∷ left in
        let first : List Label = labels_of (n + 1) turn (inside after turn) (behind_body c body step left) body in
        let second : List Label = labels_of (n + 1 + size_of body) n jumps loop step in
        let size = length-labels_of (n + 1) turn (inside after turn) (behind_body c body step left) body in
        let head : IsDoneFirst whole n = inr (ap (λ (x : Label). is_head_by x.action) stands.0) in
        let turned : IsBehind whole (n + 1 + size_of body) turn = entry_behind (n + 1 + size_of body) (n + 1 + size_of body) n step (omega arith) (inr head) in
        let left_to : IsBehind whole (n + 1 + size_of body) after = nearer (n + 1 + size_of body) (n + size_of_statement (while_loop c body step)) after (omega arith) follows.here in
        let behind_body_it : Ahead (n + 1 + size_of body) turn (inside after turn) = record { here = turned; out = left_to; mark = turned } in
        let far : Ahead (n + 1 + size_of body + size_of step) after jumps = ahead (n + 1 + size_of body + size_of step) (n + size_of_statement (while_loop c body step)) after jumps (omega arith) follows in
        let behind_step : Ahead (n + 1 + size_of body + size_of step) n jumps = record { here = inr head; out = far.out; mark = far.mark } in (
          tt,
          each_both On (n + 1) (n + 1 + size_of body) first second (omega arith)
              (on_list (n + 1) turn (inside after turn) (behind_body c body step left) body (each_left (StandsIn (all_labels whole)) (n + 1) first second stands.1) behind_body_it)
              (on_list (n + 1 + size_of body) n jumps loop step (each_right (StandsIn (all_labels whole)) (n + 1) (n + 1 + size_of body) first second (omega arith) stands.1) behind_step),
        )
    on_statement n after jumps left (do_while body c) stands follows =
        let last : ℕ = n + size_of body in
        let behind_it : Todo = behind_body c body empty left in
        let inner : List Label = labels_of n last (inside after last) behind_it body in
        let head : Label = record { todo = one (while_loop c body empty) ∷ left; action = tests true c (entry_label n last body) after } in
        let size = length-labels_of n last (inside after last) behind_it body in
        let here : IsBehind whole last last = inl (omega arith) in
        let left_to : IsBehind whole last after = nearer last (n + size_of_statement (do_while body c)) after (omega arith) follows.here in
        each_both On n last inner (head ∷ []) (omega arith)
        (on_list n last (inside after last) behind_it body (each_left (StandsIn (all_labels whole)) n inner (head ∷ []) stands) (record { here = here; out = left_to; mark = here })) (tt, tt)

    on_list : (n after : ℕ) (jumps : Jumps) (left : Todo) (s : Statements) → EachFrom (StandsIn (all_labels whole)) n (labels_of n after jumps left s)
        → Ahead (n + size_of s) after jumps → EachFrom On n (labels_of n after jumps left s)
    on_list n after jumps left empty stands follows = tt
    on_list n after jumps left (sequence first more) stands follows =
        let behind_it : ℕ = n + size_of_statement first in
        let next : ℕ = entry_label behind_it after more in
        let ones : List Label = labels_of_statement n next jumps (items_of more ++ left) first in
        let others : List Label = labels_of behind_it after jumps left more in
        let size = length-labels_of_statement n next jumps (items_of more ++ left) first in
        let near : Ahead behind_it after jumps = ahead behind_it (n + size_of (sequence first more)) after jumps (omega arith) follows in
        let far : Ahead (behind_it + size_of more) after jumps = ahead (behind_it + size_of more) (n + size_of (sequence first more)) after jumps (omega arith) follows in
        let entered : IsBehind whole behind_it next = entry_behind behind_it behind_it after more (omega arith) near.here in
        each_both On n behind_it ones others (omega arith)
        (on_statement n next jumps (items_of more ++ left) first (each_left (StandsIn (all_labels whole)) n ones others stands) (record { here = entered; out = near.out; mark = near.mark }))
        (on_list behind_it after jumps left more (each_right (StandsIn (all_labels whole)) n behind_it ones others (omega arith) stands) far)

pub labels_lead_on : (body : Statements) (l : ℕ) → l < length (all_labels body) → LeadsOn body l (action_at body l)
labels_lead_on body zero low = tt
labels_lead_on body (suc k) low =
    each_at (On body) 1 (labels_of 1 0 stray [] body)
    (on_list body 1 0 stray [] body (stands_behind (end ∷ []) (labels_of 1 0 stray [] body) 1 refl) (record { here = inr (inl refl); out = inr (inl refl); mark = inr (inl refl) })) k (suc k) (omega arith) (omega arith)
