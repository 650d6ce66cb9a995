-- What legal eliminations keep of each tree.
use Rattle.std.proofs.Common.{◌≡◌, inl, inr, ℕ, ◌==◌, Bool, true, false, if◌then◌else◌, nat_lt, ◌-◌, List, [], ◌∷◌, sym, subst, ◌∙◌}
use Rattle.linear_cons.specs.declared.row.Row.{Row}
use Rattle.decision_tree.specs.Extent.{ComplementsFit, IsTreeOver}
use Rattle.decision_tree.specs.declared.affine_rank.AffineRank.{AffineRank}
use Rattle.decision_tree.specs.declared.rank.Rank.{Ghosts as Ranks}
use Rattle.decision_tree.specs.declared.reason.Cause.{Cause}
use Rattle.decision_tree.specs.Paths.{with_leaf}
use Rattle.decision_tree.specs.Plans.{Plan, bottom, branch, leaf, leaves_of, top}
use Rattle.tree_support.specs.declared.dropped.Dropped.{Dropped}
use Rattle.tree_support.specs.Elimination.{Eliminates, cause_of, without_dropped}
use Rattle.tree_support.specs.Certificates.{affine_ranks}
use Rattle.tree_support.specs.Setting.{Setting, Trees, trees_in}
use Rattle.tree_support.proofs.Dropping.{changes}
use Rattle.exact_families.specs.Completeness.{NoneGivenUp}

-- whatever a tree keeps when a leaf of it becomes undefined, each tree of a family keeps
module _ {R : Type 0} (ranks : Ranks R) (at : Setting R) (P : Plan R → Type 0)
    (undefined : (plan : Plan R) (place : ℕ) (cause : Cause) → P plan → P (with_leaf plan place (top cause))) where
  one_dropped : (here : Bool) (plan : Plan R) (dropped : Dropped) → P plan
      → P (if here then with_leaf plan dropped.leaf (top (cause_of dropped.reason)) else plan)
  one_dropped true plan dropped h = undefined plan dropped.leaf (cause_of dropped.reason) h
  one_dropped false plan dropped h = h

  pub kept_at : (drops : List Dropped) (old new : Trees R) → Eliminates ranks at old drops new → (label : ℕ) → P (old label) → P (new label)
  kept_at [] old new same label h = subst P (sym (same label)) h
  kept_at (dropped ∷ more) old new legal label h =
      kept_at more (without_dropped old dropped) new legal.1 label (one_dropped (label == dropped.label) (old label) dropped h)

  pub each_kept : (drops : List Dropped) (old new : Trees R) → Eliminates ranks at old drops new → ((label : ℕ) → P (old label)) → (label : ℕ) → P (new label)
  each_kept drops old new legal all label = kept_at drops old new legal label (all label)

-- the side on which the leaf stands has lost it
abbrev undefined_side : Bool → Row → Plan AffineRank → Plan AffineRank → ℕ → Cause → Plan AffineRank
undefined_side here row this that number cause =
    if here then branch row (with_leaf this number (top cause)) that else branch row this (with_leaf that (number - leaves_of this) (top cause))

-- an undefined leaf mentions nothing and has no row
pub over_undefined : (vars : ℕ) (plan : Plan AffineRank) (number : ℕ) (cause : Cause) → IsTreeOver vars plan
    → IsTreeOver vars (with_leaf plan number (top cause))
over_undefined vars (branch row this that) number cause over =
    elim (nat_lt number (leaves_of this)) as (λ t. IsTreeOver vars (undefined_side t row this that number cause)) [
      | true ↦ (over.0, over_undefined vars this number cause over.1, over.2)
      | false ↦ (over.0, over.1, over_undefined vars that (number - leaves_of this) cause over.2)
    ]
over_undefined vars bottom number cause over = tt
over_undefined vars (top other) number cause over = tt
over_undefined vars (leaf why rank) number cause over = tt

pub complements_undefined : (plan : Plan AffineRank) (number : ℕ) (cause : Cause) → ComplementsFit plan
    → ComplementsFit (with_leaf plan number (top cause))
complements_undefined (branch row this that) number cause fits =
    elim (nat_lt number (leaves_of this)) as (λ t. ComplementsFit (undefined_side t row this that number cause)) [
      | true ↦ (fits.0, complements_undefined this number cause fits.1, fits.2)
      | false ↦ (fits.0, fits.1, complements_undefined that (number - leaves_of this) cause fits.2)
    ]
complements_undefined bottom number cause fits = tt
complements_undefined (top other) number cause fits = tt
complements_undefined (leaf why rank) number cause fits = tt

-- ---- a tree of which no leaf was given up is as it was

given_up_there : (plan : Plan AffineRank) (place : ℕ) (cause : Cause) → NoneGivenUp (with_leaf plan place (top cause)) → ⊥
given_up_there (branch row this that) place cause none =
    elim (nat_lt place (leaves_of this)) as (λ t. NoneGivenUp (undefined_side t row this that place cause) → ⊥) [
      | true ↦ (λ both. given_up_there this place cause both.0)
      | false ↦ (λ both. given_up_there that (place - leaves_of this) cause both.1)
    ] none
given_up_there bottom place cause none = none
given_up_there (top other) place cause none = none
given_up_there (leaf why rank) place cause none = none

pub uncut_kept : (at : Setting AffineRank) (drops : List Dropped) (old new : Trees AffineRank) → Eliminates affine_ranks at old drops new → (label : ℕ)
    → NoneGivenUp (new label) → new label ≡ old label
uncut_kept at [] old new same label none = same label
uncut_kept at (dropped ∷ more) old new legal label none =
    let later : new label ≡ without_dropped old dropped label = uncut_kept at more (without_dropped old dropped) new legal.1 label none in
    elim (changes old dropped label) [
      | inl same ↦ absurd (given_up_there (old label) dropped.leaf (cause_of dropped.reason) (subst NoneGivenUp (later ∙ same.1) none))
      | inr apart ↦ later ∙ apart.1
    ]

-- where nothing was dropped no tree has changed
pub unchanged : (at : Setting AffineRank) (old new : List (Plan AffineRank)) (drops : List Dropped) → drops ≡ []
    → Eliminates affine_ranks at (trees_in old) drops (trees_in new) → (label : ℕ) → trees_in new label ≡ trees_in old label
unchanged at old new drops none legal = subst (λ d. Eliminates affine_ranks at (trees_in old) d (trees_in new)) none legal
