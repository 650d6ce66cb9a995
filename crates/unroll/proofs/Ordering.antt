-- What holds of each label: the tests of loops stand before loops, and something is done at each but the end.
use Rattle.std.proofs.Common.{◌≡◌, ℕ, zero, suc, ◌+◌, ◌<◌, slice_index_or, Bool, true, false, [], ◌∷◌, ◌++◌, length, refl, arith}
use Rattle.step_meaning.specs.Step.{Todo, behind_body, front, items_of, one}
use Rattle.step_meaning.specs.Syntax.{Statement, Statements, assign, skip, return, break, continue, if_else, while_loop, do_while, empty, sequence, size_of, size_of_statement}
use Rattle.control_flow.specs.Edges.{is_head_by}
use Rattle.control_flow.specs.Labels.{Jumps, Action, Label, ends, assigns, passes, tests, action_at, all_labels, end, entry_label, inside, labels_of, labels_of_statement, rest, stray}
use Rattle.control_flow.proofs.Standing.{EachFrom, each_at, each_both, length-labels_of, length-labels_of_statement}
use Rattle.unroll.proofs.LevelLaws.{is_loop}

-- ---- a loop is done where its test is

-- something is done
abbrev pub does : Action → Bool
does ends = false
does (assigns x e next) = true
does (passes next) = true
does (tests head c then_to else_to) = true

abbrev AtLoop : ℕ → Label → Type 0
AtLoop l x = (is_head_by x.action ≡ is_loop (front x.todo)) × (does x.action ≡ true)

mutual
  loop_statement : (n after : ℕ) (jumps : Jumps) (left : Todo) (s : Statement) → EachFrom AtLoop n (labels_of_statement n after jumps left s)
  loop_statement n after jumps left (assign x e) = ((refl, refl), tt)
  loop_statement n after jumps left skip = ((refl, refl), tt)
  loop_statement n after jumps left return = ((refl, refl), tt)
  loop_statement n after jumps left break = ((refl, refl), tt)
  loop_statement n after jumps left continue = ((refl, refl), tt)
  loop_statement n after jumps left (if_else c y z) =
      let size = length-labels_of (n + 1) after jumps left y in
      ((refl, refl), each_both AtLoop (n + 1) (n + 1 + size_of y) (labels_of (n + 1) after jumps left y) _ (omega arith) (loop_list (n + 1) after jumps left y) (loop_list (n + 1 + size_of y) after jumps left z))
  loop_statement n after jumps left (while_loop c body step) =
      let turn : ℕ = entry_label (n + 1 + size_of body) n step in
      let size = length-labels_of (n + 1) turn (inside after turn) (behind_body c body step left) body in (
        (refl, refl),
        each_both AtLoop (n + 1) (n + 1 + size_of body) (labels_of (n + 1) turn (inside after turn) (behind_body c body step left) body) _ (omega arith)
            (loop_list (n + 1) turn (inside after turn) (behind_body c body step left) body) (loop_list (n + 1 + size_of body) n jumps (one (while_loop c body step) ∷ left) step),
      )
  loop_statement n after jumps left (do_while body c) =
      let size = length-labels_of n (n + size_of body) (inside after (n + size_of body)) (behind_body c body empty left) body in
      each_both AtLoop n (n + size_of body) (labels_of n (n + size_of body) (inside after (n + size_of body)) (behind_body c body empty left) body) _ (omega arith)
      (loop_list n (n + size_of body) (inside after (n + size_of body)) (behind_body c body empty left) body) ((refl, refl), tt)

  loop_list : (n after : ℕ) (jumps : Jumps) (left : Todo) (s : Statements) → EachFrom AtLoop n (labels_of n after jumps left s)
  loop_list n after jumps left empty = tt
  loop_list n after jumps left (sequence first more) =
      let next : ℕ = entry_label (n + size_of_statement first) after more in
      let size = length-labels_of_statement n next jumps (items_of more ++ left) first in
      each_both AtLoop n (n + size_of_statement first) (labels_of_statement n next jumps (items_of more ++ left) first) _ (omega arith)
      (loop_statement n next jumps (items_of more ++ left) first) (loop_list (n + size_of_statement first) after jumps left more)

loops_at : (body : Statements) (k : ℕ) → suc k < length (all_labels body) → AtLoop (suc k) (slice_index_or (all_labels body) (suc k) end)
loops_at body k low = each_at AtLoop 1 (labels_of 1 0 stray [] body) (loop_list 1 0 stray [] body) k (suc k) (omega arith) (omega arith)

pub heads_are_loops : (body : Statements) (l : ℕ) → l < length (all_labels body) → is_head_by (action_at body l) ≡ is_loop (front (rest body l))
heads_are_loops body zero low = refl
heads_are_loops body (suc k) low = (loops_at body k low).0

-- something is done at each label but 0
pub does_something : (body : Statements) (l : ℕ) → l < length (all_labels body) → 0 < l → does (action_at body l) ≡ true
does_something body zero low some = absurd (omega arith)
does_something body (suc k) low some = (loops_at body k low).1
