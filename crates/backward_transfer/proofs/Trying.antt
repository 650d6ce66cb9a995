-- How conjunctions are tried one by one: it ends, and each part of what is made is no larger than the whole.
use Rattle.std.specs.Prelude.{◌&&◌, ◌||◌}
use Rattle.std.proofs.Common.{◌≡◌, ◌↔◌, ◌⊎◌, inl, inr, ⊎_elim, ℕ, ◌<◌, ◌≤◌, ◌+◌, ℤ, Bool, true, false, cond, List, [], ◌∷◌, ◌++◌, Option, None, Some, length, IsTrue, refl, ◌∙◌, arith}
use Rattle.linear_cons.specs.Rows.{Meets, MeetsAll, complement}
use Rattle.linear_cons.specs.Settling.{settles}
use Rattle.linear_cons.specs.declared.row.Row.{Row}
use Rattle.linear_cons.proofs.RowLaws.{complement_met}
use Rattle.linear_cons.proofs.Telling.{settled_row_fails, settled_row_holds}
use Rattle.linear_forms.specs.Meeting.{MeetsEach, MeetsOne}
use Rattle.decision_tree.specs.Evaluation.{eval}
use Rattle.decision_tree.specs.Nodes.{node}
use Rattle.decision_tree.specs.Plans.{Plan}
use Rattle.decision_tree.specs.Alternatives.{Alternatives}
use Rattle.tree_unify.specs.Shapes.{on_side}
use Rattle.tree_unify.proofs.Meeting.{eval_met, eval_missed, meets_more, meets_or_not, node_eval}
use Rattle.backward_transfer.specs.Tests.{all_held, enabled, failure_tried, is_held, is_refuted, not_refuted, one_held, one_refuted, rows_asked, tested, tried}

-- rows and conjunctions that are left to ask
abbrev pub rows_left : List (List Row) → ℕ
rows_left [] = 0
rows_left (rows ∷ rest) = length rows + 2 + rows_left rest

-- until it is settled whether the test may hold the conjunctions of its failure are left too
abbrev pub stage_left : Option Bool → List (List Row) → ℕ
stage_left None fails = rows_left fails + 2
stage_left (Some holds) fails = 0

fewer_at : (t : Bool) (rows : List Row) (left rest : List (List Row)) → rows_left left ≤ rows_left rest
    → rows_left (cond t left (rows ∷ left)) ≤ rows_left (rows ∷ rest)
fewer_at true rows left rest fewer = omega arith
fewer_at false rows left rest fewer = omega arith

pub fewer_left : (path : List Row) (fails : List (List Row)) → rows_left (not_refuted path fails) ≤ rows_left fails
fewer_left path [] = omega arith
fewer_left path (rows ∷ rest) = fewer_at (one_refuted path rows) rows (not_refuted path rest) rest (fewer_left path rest)

pub settle_falls : (holds : Option Bool) (found : Bool) (path : List Row) (left fails : List (List Row)) → holds ≡ None → left ≡ not_refuted path fails
    → rows_left left + 1 + stage_left (Some found) fails < stage_left holds fails
settle_falls holds found path left fails none is = let fewer = fewer_left path fails in rw (none, is) (omega arith)

-- ---- at which leaf a store stands

held_row : (path : List Row) (row : Row) (store : List ℤ) → is_held (settles path row) ≡ true → MeetsAll store path → Meets store row
held_row path row store is all = at (settles path row) refl is
  where
    at : (t : Option Bool) → settles path row ≡ t → is_held t ≡ true → Meets store row
    at (Some true) settle is = settled_row_holds path row store settle all
    at (Some false) settle is = absurd (cc)
    at None settle is = absurd (cc)

refuted_row : (path : List Row) (row : Row) (store : List ℤ) → is_refuted (settles path row) ≡ true → MeetsAll store path → Meets store row → ⊥
refuted_row path row store is all = at (settles path row) refl is
  where
    at : (t : Option Bool) → settles path row ≡ t → is_refuted t ≡ true → Meets store row → ⊥
    at (Some true) settle is = absurd (cc)
    at (Some false) settle is = settled_row_fails path row store settle all
    at None settle is = absurd (cc)

and_both : (a b : Bool) → (a && b) ≡ true → (a ≡ true) × (b ≡ true)
and_both true b is = (refl, is)
and_both false b is = absurd (cc)

or_one : (a b : Bool) → (a || b) ≡ true → (a ≡ true) ⊎ (b ≡ true)
or_one true b is = inl refl
or_one false b is = inr is

module _ (path : List Row) (store : List ℤ) (all : MeetsAll store path) where
  held_rows : (rows : List Row) → all_held path rows ≡ true → MeetsEach store rows
  held_rows [] is = tt
  held_rows (row ∷ rest) is = let parts = and_both (is_held (settles path row)) (all_held path rest) is in (held_row path row store parts.0 all, held_rows rest parts.1)

  refuted_rows : (rows : List Row) → one_refuted path rows ≡ true → MeetsEach store rows → ⊥
  refuted_rows [] is met = absurd (cc)
  refuted_rows (row ∷ rest) is met =
      ⊎_elim (λ here. refuted_row path row store here all met.0) (λ later. refuted_rows rest later met.1) (or_one (is_refuted (settles path row)) (one_refuted path rest) is)

  pub held_one : (fails : List (List Row)) → one_held path fails ≡ true → MeetsOne store fails
  held_one [] is = absurd (cc)
  held_one (rows ∷ rest) is = ⊎_elim (λ here. inl (held_rows rows here)) (λ later. inr (held_one rest later)) (or_one (all_held path rows) (one_held path rest) is)

  -- the conjunctions that are left out are met nowhere on the path
  left_at : (t : Bool) (rows : List Row) (left rest : List (List Row)) → one_refuted path rows ≡ t → (MeetsOne store left ↔ MeetsOne store rest)
      → MeetsOne store (cond t left (rows ∷ left)) ↔ MeetsOne store (rows ∷ rest)
  left_at true rows left rest is same = (λ met. inr (same.0 met), λ met. ⊎_elim (λ here. absurd (refuted_rows rows is here)) (λ later. same.1 later) met)
  left_at false rows left rest is same = (λ met. ⊎_elim (λ here. inl here) (λ later. inr (same.0 later)) met, λ met. ⊎_elim (λ here. inl here) (λ later. inr (same.1 later)) met)

  pub left_met : (fails : List (List Row)) → MeetsOne store (not_refuted path fails) ↔ MeetsOne store fails
  left_met [] = (λ met. met, λ met. met)
  left_met (rows ∷ rest) = left_at (one_refuted path rows) rows (not_refuted path rest) rest refl (left_met rest)

module _ {R : Type 0} (same : R → R → Bool) (alike : (rank other : R) → IsTrue (same rank other) ↔ (rank ≡ other)) (store : List ℤ) (target : Plan R) where
  -- where a row is asked
  row_stands : (row : Row) (rest : List Row) (holds fails : List Row → Plan R) (path : List Row) (t : Option Bool) → settles path row ≡ t → MeetsAll store path
      → (Meets store row → (way : List Row) → MeetsAll store way → eval (rows_asked same rest holds fails way) store ≡ target)
      → ((Meets store row → ⊥) → (way : List Row) → MeetsAll store way → eval (fails way) store ≡ target)
      → eval (on_side t (rows_asked same rest holds fails path) (fails path) (node same row (rows_asked same rest holds fails (path ++ row ∷ [])) (fails (path ++ complement row ∷ [])))) store ≡ target
  row_stands row rest holds fails path (Some true) settle all here there = here (settled_row_holds path row store settle all) path all
  row_stands row rest holds fails path (Some false) settle all here there = there (settled_row_fails path row store settle all) path all
  row_stands row rest holds fails path None settle all here there =
      node_eval same alike row _ _ store ∙ ⊎_elim
      (λ meets. eval_met row _ _ store meets ∙ here meets (path ++ row ∷ []) (meets_more store path row all meets))
      (λ apart. eval_missed row _ _ store apart ∙ there apart (path ++ complement row ∷ []) (meets_more store path (complement row) all ((complement_met row.affine store).1 apart)))
      (meets_or_not row store)

  -- and rows one by one
  rows_stand : (rows : List Row) (holds fails : List Row → Plan R) (path : List Row)
      → (MeetsEach store rows → (way : List Row) → MeetsAll store way → eval (holds way) store ≡ target)
      → ((MeetsEach store rows → ⊥) → (way : List Row) → MeetsAll store way → eval (fails way) store ≡ target)
      → MeetsAll store path → eval (rows_asked same rows holds fails path) store ≡ target
  rows_stand [] holds fails path met missed all = met tt path all
  rows_stand (row ∷ rest) holds fails path met missed all =
      row_stands row rest holds fails path (settles path row) refl all
      (λ meets way on_way. rows_stand rest holds fails way (λ each. met (meets, each)) (λ apart. missed (λ both. apart both.1)) on_way)
      (λ apart way on_way. missed (λ both. apart both.0) way on_way)

  -- and conjunctions
  tries_stand : (conjunctions : List (List Row)) (found : Bool → List Row → Plan R) (path : List Row)
      → (MeetsOne store conjunctions → (way : List Row) → MeetsAll store way → eval (found true way) store ≡ target)
      → ((MeetsOne store conjunctions → ⊥) → (way : List Row) → MeetsAll store way → eval (found false way) store ≡ target)
      → MeetsAll store path → eval (tried same conjunctions found path) store ≡ target
  tries_stand [] found path met missed all = missed (λ one. one) path all
  tries_stand (rows ∷ rest) found path met missed all =
      rows_stand rows (found true) (tried same rest found) path (λ each. met (inl each))
      (λ apart way on_way. tries_stand rest found way (λ one. met (inr one)) (λ none. missed (λ one. ⊎_elim (λ each. apart each) (λ later. none later) one)) on_way) all

  module _ (where_greater : R → R → Alternatives) (greater_fits : R → R → Type 0) (one_more : R → R) (this that : Plan R) (fails : List (List Row)) where
    failure_stands : (holds : Bool) (path : List Row) → MeetsAll store path
        → (MeetsOne store fails → eval (enabled same where_greater greater_fits one_more this that holds true) store ≡ target)
        → ((MeetsOne store fails → ⊥) → eval (enabled same where_greater greater_fits one_more this that holds false) store ≡ target)
        → eval (failure_tried same where_greater greater_fits one_more this that fails holds path) store ≡ target
    failure_stands holds path all met missed = at (one_held path fails) refl
      where
        at : (t : Bool) → one_held path fails ≡ t
            → eval (cond t (enabled same where_greater greater_fits one_more this that holds true) (tried same (not_refuted path fails) (λ other way. enabled same where_greater greater_fits one_more this that holds other) path)) store ≡ target
        at true is = met (held_one path store all fails is)
        at false is =
            tries_stand (not_refuted path fails) (λ other way. enabled same where_greater greater_fits one_more this that holds other) path
            (λ one way on_way. met ((left_met path store all fails).0 one)) (λ none way on_way. missed (λ one. none ((left_met path store all fails).1 one))) all

    -- before a test stands the leaf of the tree of the outcomes that the store meets
    pub test_stands : (holds : List (List Row))
        → (MeetsOne store holds → MeetsOne store fails → eval (enabled same where_greater greater_fits one_more this that true true) store ≡ target)
        → (MeetsOne store holds → (MeetsOne store fails → ⊥) → eval (enabled same where_greater greater_fits one_more this that true false) store ≡ target)
        → ((MeetsOne store holds → ⊥) → MeetsOne store fails → eval (enabled same where_greater greater_fits one_more this that false true) store ≡ target)
        → ((MeetsOne store holds → ⊥) → (MeetsOne store fails → ⊥) → eval (enabled same where_greater greater_fits one_more this that false false) store ≡ target)
        → eval (tested same where_greater greater_fits one_more this that holds fails) store ≡ target
    test_stands holds both yes_alone no_alone neither =
        tries_stand holds (failure_tried same where_greater greater_fits one_more this that fails) []
        (λ one way on_way. failure_stands true way on_way (both one) (yes_alone one))
        (λ none way on_way. failure_stands false way on_way (no_alone none) (neither none))
        (λ k d low. absurd (omega arith))
