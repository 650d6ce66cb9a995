-- What a plain program does at its labels is plain.
use Rattle.std.proofs.Common.{ℕ, zero, suc, ◌+◌, ◌<◌, [], ◌∷◌, ◌++◌, length, arith}
use Rattle.step_meaning.specs.Step.{Todo, behind_body, items_of, one}
use Rattle.step_meaning.specs.Syntax.{Statement, Statements, assign, skip, return, break, continue, if_else, while_loop, do_while, empty, sequence, size_of, size_of_statement}
use Rattle.control_flow.specs.Labels.{Jumps, Label, action_at, all_labels, entry_label, inside, labels_of, labels_of_statement, stray}
use Rattle.control_flow.proofs.Standing.{EachFrom, each_at, each_both, length-labels_of, length-labels_of_statement}
use Rattle.step_meaning.specs.Plain.{IsPlain, IsPlainStatement}
use Rattle.control_flow.specs.Fitting.{IsPlainAction}

abbrev DoesPlain : ℕ → Label → Type 0
DoesPlain l x = IsPlainAction x.action

mutual
  plain_statement : (n after : ℕ) (jumps : Jumps) (left : Todo) (s : Statement) → IsPlainStatement s → EachFrom DoesPlain n (labels_of_statement n after jumps left s)
  plain_statement n after jumps left (assign x e) plain = (plain, tt)
  plain_statement n after jumps left skip plain = (tt, tt)
  plain_statement n after jumps left return plain = (tt, tt)
  plain_statement n after jumps left break plain = (tt, tt)
  plain_statement n after jumps left continue plain = (tt, tt)
  plain_statement n after jumps left (if_else c y z) plain =
      let size = length-labels_of (n + 1) after jumps left y in (
        plain.0,
        each_both DoesPlain (n + 1) (n + 1 + size_of y) (labels_of (n + 1) after jumps left y) _ (omega arith)
            (plain_list (n + 1) after jumps left y plain.1) (plain_list (n + 1 + size_of y) after jumps left z plain.2),
      )
  plain_statement n after jumps left (while_loop c body step) plain =
      let turn : ℕ = entry_label (n + 1 + size_of body) n step in
      let size = length-labels_of (n + 1) turn (inside after turn) (behind_body c body step left) body in (
        plain.0,
        each_both DoesPlain (n + 1) (n + 1 + size_of body) (labels_of (n + 1) turn (inside after turn) (behind_body c body step left) body) _ (omega arith)
            (plain_list (n + 1) turn (inside after turn) (behind_body c body step left) body plain.1) (plain_list (n + 1 + size_of body) n jumps (one (while_loop c body step) ∷ left) step plain.2),
      )
  plain_statement n after jumps left (do_while body c) plain =
      let size = length-labels_of n (n + size_of body) (inside after (n + size_of body)) (behind_body c body empty left) body in
      each_both DoesPlain n (n + size_of body) (labels_of n (n + size_of body) (inside after (n + size_of body)) (behind_body c body empty left) body) _ (omega arith)
      (plain_list n (n + size_of body) (inside after (n + size_of body)) (behind_body c body empty left) body plain.0) (plain.1, tt)

  plain_list : (n after : ℕ) (jumps : Jumps) (left : Todo) (s : Statements) → IsPlain s → EachFrom DoesPlain n (labels_of n after jumps left s)
  plain_list n after jumps left empty plain = tt
  plain_list n after jumps left (sequence first more) plain =
      let next : ℕ = entry_label (n + size_of_statement first) after more in
      let size = length-labels_of_statement n next jumps (items_of more ++ left) first in
      each_both DoesPlain n (n + size_of_statement first) (labels_of_statement n next jumps (items_of more ++ left) first) _ (omega arith)
      (plain_statement n next jumps (items_of more ++ left) first plain.0) (plain_list (n + size_of_statement first) after jumps left more plain.1)

pub labels_are_plain : (body : Statements) → IsPlain body → (l : ℕ) → l < length (all_labels body) → IsPlainAction (action_at body l)
labels_are_plain body plain zero low = tt
labels_are_plain body plain (suc k) low = each_at DoesPlain 1 (labels_of 1 0 stray [] body) (plain_list 1 0 stray [] body plain) k (suc k) (omega arith) (omega arith)
