-- What stands as it does in a supported family is supported, and so told of.
use Rattle.std.proofs.Common.{◌≡◌, ◌≢◌, ◌⊎◌, inl, inr, ℕ, zero, suc, ◌<◌, Bool, true, false, if◌then◌else◌, List, [], ◌∷◌, ◌++◌, length, slice_index_or, All, Option, None, Some, refl, sym, ap, subst, ◌∙◌}
use Rattle.decision_tree.specs.declared.rank.Rank.{Ghosts as Ranks}
use Rattle.decision_tree.specs.Paths.{leaf_numbered}
use Rattle.decision_tree.specs.Plans.{Plan, leaves_of}
use Rattle.tree_support.specs.declared.dropped.Dropped.{Dropped}
use Rattle.tree_support.specs.Arcs.{Arc}
use Rattle.tree_support.specs.Setting.{Setting, trees_in}
use Rattle.tree_support.specs.Support.{IsSupported}
use Rattle.tree_support.specs.Systems.{of_leaf, region, systems}
use Rattle.tree_support.proofs.Readers.{IsSameAhead, SameBehind, leaf_same}
use Rattle.constraint_stack.specs.Claims.{HasNoStore, System}
use Rattle.tree_check.specs.Rounds.{Avoid, IsSupportedAt}
use Rattle.tree_check.specs.Telling.{AreSame, AreTold, AreToldBeside, IsSameAround, IsTold}
use Rattle.tree_check.proofs.Telling.{told_by_survey}

module _ {R : Type 0} (at : Setting R) (known trees : List (Plan R)) (same : List Bool) (are : AreSame known trees same) where
  -- arcs that lead to no label that isn't marked lead to the same trees
  same_behind : (arcs : List Arc) → ((other : ℕ) → slice_index_or same other false ≡ false → Avoid arcs other)
      → SameBehind at (trees_in known) (trees_in trees) arcs
  same_behind arcs avoid arc member = by_mark (slice_index_or same arc.target false) refl where
    by_mark : (mark : Bool) → slice_index_or same arc.target false ≡ mark → trees_in trees arc.target ≡ trees_in known arc.target
    by_mark true is = are arc.target is
    by_mark false is = absurd (avoid arc.target is arc member refl)

  same_ahead : (label : ℕ) → IsSameAround at same label → IsSameAhead at (trees_in known) (trees_in trees) label
  same_ahead label around = record {
    every = same_behind (at.flow.arcs label) (λ other is. (around.ahead other is).every);
    outcomes = λ outcome. same_behind (at.flow.arcs_of label outcome) (λ other is. (around.ahead other is).outcomes outcome);
    values = λ a. same_behind (at.flow.arcs_with label a) (λ other is. (around.ahead other is).values a);
  }

  systems_beside : (label place : ℕ) → IsSameAround at same label → systems at (trees_in trees) label place ≡ systems at (trees_in known) label place
  systems_beside label place around =
      ap (λ (tree : Plan R). if at.dead label then [] else of_leaf at (leaf_numbered tree place) (trees_in trees) label (region at tree label place))
      (are label around.own)
      ∙ ap (λ (all : List (System R)). if at.dead label then [] else all)
      (leaf_same at (trees_in known) (trees_in trees) (leaf_numbered (trees_in known label) place) label (region at (trees_in known label) label place)
      (same_ahead label around))

  module _ (ranks : Ranks R) (supported : IsSupported ranks at (trees_in known)) where
    supported_beside : (label : ℕ) → IsSameAround at same label → IsSupportedAt ranks at (trees_in trees) label
    supported_beside label around place below =
        subst (λ all. All (HasNoStore ranks) all) (sym (systems_beside label place around))
        (supported label place (subst (λ (tree : Plan R). place < leaves_of tree) (are label around.own) below))

    pub told_beside : (drops : List Dropped) (told : List (Option ℕ)) → AreToldBeside at same (length drops) told
        → AreTold ranks at (trees_in trees) drops told
    told_beside drops told beside label from is =
        subst (λ number. IsTold ranks at (trees_in trees) drops number label) (sym (beside label from is).0)
        (told_by_survey ranks at (trees_in trees) drops label (supported_beside label (beside label from is).1))

module _ {R : Type 0} (at : Setting R) (same : List Bool) (number : ℕ) where
  pub none_told : AreToldBeside at same number []
  none_told label from is = absurd (cc)

  heard_last : (told : List (Option ℕ)) (heard : Option ℕ) (label from : ℕ) → slice_index_or (told ++ heard ∷ []) label None ≡ Some from
      → (slice_index_or told label None ≡ Some from) ⊎ ((label ≡ length told) × (heard ≡ Some from))
  heard_last [] heard zero from is = inr (refl, is)
  heard_last [] heard (suc label) from is = absurd (cc)
  heard_last (first ∷ told) heard zero from is = inl is
  heard_last (first ∷ told) heard (suc label) from is = elim (heard_last told heard label from is) [
    | inl before ↦ inl before
    | inr last ↦ inr (ap suc last.0, last.1)
  ]

  pub more_told : (told : List (Option ℕ)) (heard : Option ℕ) → AreToldBeside at same number told
      → ((from : ℕ) → heard ≡ Some from → (from ≡ number) × IsSameAround at same (length told))
      → AreToldBeside at same number (told ++ heard ∷ [])
  more_told told heard before here label from is = elim (heard_last told heard label from is) [
    | inl earlier ↦ before label from earlier
    | inr last ↦
        subst (λ place. (from ≡ number) × IsSameAround at same place) (sym last.0) (here from last.1)
  ]

-- a marked label is another than one that isn't
pub marked_apart : (same : List Bool) (a b : ℕ) → slice_index_or same a false ≡ true → slice_index_or same b false ≡ false → a ≢ b
marked_apart same a b marked unmarked equal = absurd (let both : true ≡ false = sym marked ∙ ap (λ l. slice_index_or same l false) equal ∙ unmarked in cc)

mark_last : (same : List Bool) (mark : Bool) (label : ℕ) → slice_index_or (same ++ mark ∷ []) label false ≡ true
    → (slice_index_or same label false ≡ true) ⊎ ((label ≡ length same) × (mark ≡ true))
mark_last [] mark zero is = inr (refl, is)
mark_last [] mark (suc label) is = absurd (cc)
mark_last (first ∷ same) mark zero is = inl is
mark_last (first ∷ same) mark (suc label) is = elim (mark_last same mark label is) [
  | inl before ↦ inl before
  | inr last ↦ inr (ap suc last.0, last.1)
]

module _ {R : Type 0} (known trees : List (Plan R)) where
  pub none_same : AreSame known trees []
  none_same label is = absurd (cc)

  pub more_same : (same : List Bool) (mark : Bool) → AreSame known trees same
      → (mark ≡ true → trees_in trees (length same) ≡ trees_in known (length same)) → AreSame known trees (same ++ mark ∷ [])
  more_same same mark before here label is = elim (mark_last same mark label is) [
    | inl earlier ↦ before label earlier
    | inr last ↦ subst (λ place. trees_in trees place ≡ trees_in known place) (sym last.0) (here last.1)
  ]
