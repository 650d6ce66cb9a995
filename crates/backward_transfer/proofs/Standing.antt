-- At which leaf of a transferred tree a store stands.
use Rattle.std.proofs.Common.{◌≡◌, ◌↔◌, ◌⊎◌, ℕ, ◌<◌, ℤ, Bool, true, false, List, [], length, IsTrue, refl, sym, ap, ◌∙◌, ⊎_elim, arith, set}
use Rattle.std.proofs.lemmas.Bool.{false≢true}
use Rattle.linear_cons.specs.Functions.{substituted, value_at}
use Rattle.linear_cons.specs.Rows.{Meets, MeetsKind, row_kind_of}
use Rattle.linear_cons.specs.declared.affine.Affine.{Affine}
use Rattle.linear_cons.specs.declared.row.Row.{Row}
use Rattle.linear_cons.specs.declared.row.RowKind.{RowKind}
use Rattle.linear_cons.specs.declared.row.RowKind.TheVariants.{Always, Never, Row as Kept}
use Rattle.linear_cons.proofs.Forms.{value_substituted}
use Rattle.linear_forms.proofs.MeetingLaws.{row_meets}
use Rattle.decision_tree.specs.Evaluation.{eval}
use Rattle.decision_tree.specs.Plans.{IsEnd, Plan, bottom, branch, is_defined, leaf, top}
use Rattle.decision_tree.specs.declared.reason.Why.{Why}
use Rattle.tree_unify.specs.Shapes.{trimmed}
use Rattle.tree_unify.proofs.Asking.{trimmed_leaf}
use Rattle.tree_unify.proofs.Meeting.{eval_is_end, eval_met, eval_missed, meets_or_not, node_eval}
use Rattle.decision_tree.specs.declared.reason.Pick.{Pick}
use Rattle.decision_tree.specs.declared.reason.Pick.TheVariants.{All as EveryState}
use Rattle.backward_transfer.specs.Steps.{asked, assigned, assigned_by, step_to, stepped, stepped_by}

module _ {R : Type 0} (same : R → R → Bool) (alike : (rank other : R) → IsTrue (same rank other) ↔ (rank ≡ other)) where
  -- where a constraint is asked stands the side that the store is on
  pub asked_met : (kind : RowKind) (this that : Plan R) (store : List ℤ) → MeetsKind store kind → eval (asked same kind this that) store ≡ eval this store
  asked_met Always this that store met = refl
  asked_met Never this that store met = absurd met
  asked_met (Kept row) this that store met = node_eval same alike row this that store ∙ eval_met row this that store met

  pub asked_missed : (kind : RowKind) (this that : Plan R) (store : List ℤ) → (MeetsKind store kind → ⊥) → eval (asked same kind this that) store ≡ eval that store
  asked_missed Always this that store missed = absurd (missed tt)
  asked_missed Never this that store missed = refl
  asked_missed (Kept row) this that store missed = node_eval same alike row this that store ∙ eval_missed row this that store missed

  module _ (one_more : R → R) where
    -- the step of a tree is that of the leaf at which a store stands
    pub step_by_eval : (pick : Pick) (plan : Plan R) (store : List ℤ) → eval (stepped_by same one_more pick plan) store ≡ stepped_by same one_more pick (eval plan store)
    step_by_eval pick bottom store = refl
    step_by_eval pick (top cause) store = refl
    step_by_eval pick (leaf why rank) store = refl
    step_by_eval pick (branch row this that) store =
        node_eval same alike row (stepped_by same one_more pick this) (stepped_by same one_more pick that) store ∙ ⊎_elim
        (λ met. eval_met row (stepped_by same one_more pick this) (stepped_by same one_more pick that) store met ∙ step_by_eval pick this store
        ∙ ap (stepped_by same one_more pick) (sym (eval_met row this that store met)))
        (λ missed. eval_missed row (stepped_by same one_more pick this) (stepped_by same one_more pick that) store missed ∙ step_by_eval pick that store
        ∙ ap (stepped_by same one_more pick) (sym (eval_missed row this that store missed)))
        (meets_or_not row store)

    pub step_eval : (plan : Plan R) (store : List ℤ) → eval (stepped same one_more plan) store ≡ stepped same one_more (eval plan store)
    step_eval plan store = step_by_eval EveryState plan store

    -- one more step changes nothing of whether something is claimed
    pub step_same : (pick : Pick) (end : Plan R) → IsEnd end → is_defined (stepped_by same one_more pick end) ≡ is_defined end
    step_same pick bottom ends = refl
    step_same pick (top cause) ends = refl
    step_same pick (leaf why rank) ends = refl
    step_same pick (branch row this that) ends = absurd ends

    pub step_undefined : (end : Plan R) → IsEnd end → is_defined end ≡ false → stepped same one_more end ≡ end
    step_undefined bottom ends none = refl
    step_undefined (top cause) ends none = refl
    step_undefined (leaf why rank) ends none = absurd (cc)
    step_undefined (branch row this that) ends none = absurd ends

    -- before a step stands the leaf behind it, with a step more
    pub step_defined : (plan : Plan R) (store : List ℤ) (why : Why) (rank : R) → eval plan store ≡ leaf why rank
        → eval (stepped same one_more plan) store ≡ step_to (one_more rank)
    step_defined plan store why rank is = step_eval plan store ∙ ap (stepped same one_more) is

    pub step_none : (plan : Plan R) (store : List ℤ) → is_defined (eval plan store) ≡ false → eval (stepped same one_more plan) store ≡ eval plan store
    step_none plan store none = step_eval plan store ∙ step_undefined (eval plan store) (eval_is_end plan store) none

    module _ (put : R → ℕ → Affine → R) (place : ℕ) (by : Affine) (store : List ℤ) (low : place < 16) (long : length store ≡ 16) where
      -- the store behind the assignment
      abbrev pub after : List ℤ
      after = set store place (value_at by store)

      moved_value : (row : Row) → value_at (substituted row.affine place by) store ≡ value_at row.affine after
      moved_value row = value_substituted row.affine place by store low (omega arith)

      moved_met : (row : Row) → Meets after row → MeetsKind store (row_kind_of (substituted row.affine place by))
      moved_met row met = (row_meets (substituted row.affine place by) store).1 (rw (moved_value row) met)

      moved_missed : (row : Row) → (Meets after row → ⊥) → MeetsKind store (row_kind_of (substituted row.affine place by)) → ⊥
      moved_missed row missed met = missed (rw (moved_value row) at ((row_meets (substituted row.affine place by) store).0 met))

      -- a function put into a tree is put into the leaf at which the store behind the assignment stands
      pub assign_by_eval : (pick : Pick) (plan : Plan R)
          → eval (assigned_by same put one_more pick place by plan) store ≡ assigned_by same put one_more pick place by (eval plan after)
      assign_by_eval pick bottom = refl
      assign_by_eval pick (top cause) = refl
      assign_by_eval pick (leaf why rank) = refl
      assign_by_eval pick (branch row this that) =
          ⊎_elim
          (λ met. asked_met (row_kind_of (substituted row.affine place by)) (assigned_by same put one_more pick place by this)
          (assigned_by same put one_more pick place by that) store (moved_met row met)
          ∙ assign_by_eval pick this ∙ ap (assigned_by same put one_more pick place by) (sym (eval_met row this that after met)))
          (λ missed. asked_missed (row_kind_of (substituted row.affine place by)) (assigned_by same put one_more pick place by this)
          (assigned_by same put one_more pick place by that) store (moved_missed row missed)
          ∙ assign_by_eval pick that ∙ ap (assigned_by same put one_more pick place by) (sym (eval_missed row this that after missed)))
          (meets_or_not row after)

      assign_eval : (plan : Plan R) → eval (assigned same put one_more place by plan) store ≡ assigned same put one_more place by (eval plan after)
      assign_eval plan = assign_by_eval EveryState plan

      assign_undefined : (end : Plan R) → IsEnd end → is_defined end ≡ false → assigned same put one_more place by end ≡ end
      assign_undefined bottom ends none = refl
      assign_undefined (top cause) ends none = refl
      assign_undefined (leaf why rank) ends none = absurd (cc)
      assign_undefined (branch row this that) ends none = absurd ends

      -- before an assignment stands the leaf at which the store behind it stands, with the function put in and a step more
      pub assign_defined : (plan : Plan R) (why : Why) (rank : R) → eval plan after ≡ leaf why rank
          → eval (assigned same put one_more place by plan) store ≡ step_to (one_more (put rank place by))
      assign_defined plan why rank is = assign_eval plan ∙ ap (assigned same put one_more place by) is

      pub assign_none : (plan : Plan R) → is_defined (eval plan after) ≡ false → eval (assigned same put one_more place by plan) store ≡ eval plan after
      assign_none plan none = assign_eval plan ∙ assign_undefined (eval plan after) (eval_is_end plan after) none

  -- trimmed by no rows a tree has its own leaves
  pub cut_eval : (plan : Plan R) (store : List ℤ) → eval (trimmed same [] plan) store ≡ eval plan store
  cut_eval plan store = trimmed_leaf same alike [] plan store (λ k d low. absurd (omega arith))

-- a step more at a leaf that is known
pub both_defined : {R : Type 0} (same : R → R → Bool) (one_more : R → R) (end : Plan R) (why : Why) (rank : R) → end ≡ leaf why rank
    → stepped same one_more end ≡ step_to (one_more rank)
both_defined same one_more end why rank is = ap (stepped same one_more) is

-- the later of two leaves of which one is undefined
pub either_undefined : {R : Type 0} (t : Bool) (first second later : Plan R) → is_defined first ≡ t → (is_defined first ≡ false → later ≡ first)
    → (is_defined first ≡ true → is_defined second ≡ false → later ≡ second) → (is_defined first ≡ false) ⊎ (is_defined second ≡ false) → is_defined later ≡ false
either_undefined true first second later is none one undefined =
    ⊎_elim (λ apart. absurd (false≢true (sym apart ∙ is))) (λ other. ap is_defined (one is other) ∙ other) undefined
either_undefined false first second later is none one undefined = ap is_defined (none is) ∙ is
