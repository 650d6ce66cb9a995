-- In a program without loops no label is that of a loop's test.
use Rattle.std.proofs.Common.{◌≡◌, ℕ, zero, suc, ◌+◌, ◌<◌, false, [], ◌++◌, length, refl, arith}
use Rattle.step_meaning.specs.Counts.{HasNoLoop, IsLoopFree}
use Rattle.step_meaning.specs.Step.{Todo, items_of}
use Rattle.step_meaning.specs.Syntax.{Statement, Statements, assign, skip, return, break, continue, if_else, while_loop, do_while, empty, sequence, size_of, size_of_statement}
use Rattle.control_flow.specs.Edges.{is_head_by}
use Rattle.control_flow.specs.Labels.{Jumps, Label, action_at, all_labels, entry_label, labels_of, labels_of_statement, stray}
use Rattle.control_flow.proofs.Standing.{EachFrom, each_at, each_both, length-labels_of, length-labels_of_statement}

abbrev NoHead : ℕ → Label → Type 0
NoHead l x = is_head_by x.action ≡ false

mutual
  free_statement : (n after : ℕ) (jumps : Jumps) (left : Todo) (s : Statement) → IsLoopFree s → EachFrom NoHead n (labels_of_statement n after jumps left s)
  free_statement n after jumps left (assign x e) loopless = (refl, tt)
  free_statement n after jumps left skip loopless = (refl, tt)
  free_statement n after jumps left return loopless = (refl, tt)
  free_statement n after jumps left break loopless = (refl, tt)
  free_statement n after jumps left continue loopless = (refl, tt)
  free_statement n after jumps left (if_else c y z) loopless =
      let size = length-labels_of (n + 1) after jumps left y in (
        refl,
        each_both NoHead (n + 1) (n + 1 + size_of y) (labels_of (n + 1) after jumps left y) _ (omega arith)
            (free_list (n + 1) after jumps left y loopless.0) (free_list (n + 1 + size_of y) after jumps left z loopless.1),
      )
  free_statement n after jumps left (while_loop c body step) loopless = absurd loopless
  free_statement n after jumps left (do_while body c) loopless = absurd loopless

  free_list : (n after : ℕ) (jumps : Jumps) (left : Todo) (s : Statements) → HasNoLoop s → EachFrom NoHead n (labels_of n after jumps left s)
  free_list n after jumps left empty loopless = tt
  free_list n after jumps left (sequence first more) loopless =
      let next : ℕ = entry_label (n + size_of_statement first) after more in
      let size = length-labels_of_statement n next jumps (items_of more ++ left) first in
      each_both NoHead n (n + size_of_statement first) (labels_of_statement n next jumps (items_of more ++ left) first) _ (omega arith)
      (free_statement n next jumps (items_of more ++ left) first loopless.0) (free_list (n + size_of_statement first) after jumps left more loopless.1)

pub no_heads : (body : Statements) → HasNoLoop body → (l : ℕ) → l < length (all_labels body) → is_head_by (action_at body l) ≡ false
no_heads body loopless zero low = refl
no_heads body loopless (suc k) low = each_at NoHead 1 (labels_of 1 0 stray [] body) (free_list 1 0 stray [] body loopless) k (suc k) (omega arith) (omega arith)
