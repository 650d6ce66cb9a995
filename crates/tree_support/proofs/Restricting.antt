-- Trees in which the leaves outside a set are undefined.
use Rattle.std.proofs.Common.{◌≡◌, ℕ, ◌+◌, ◌-◌, ◌<◌, ◌≤◌, Bool, true, false, cond, nat_lt, [], refl, sym, subst, ap, ◌∙◌, arith}
use Rattle.std.proofs.lemmas.Bool.{ltb-false, ltb-true}
use Rattle.linear_cons.specs.declared.row.Row.{Row}
use Rattle.decision_tree.specs.declared.reason.Cause.{Cause}
use Rattle.decision_tree.specs.Paths.{leaf_numbered, path_of, with_leaf}
use Rattle.decision_tree.specs.Plans.{Plan, bottom, branch, leaf, leaves_of, top}
use Rattle.decision_tree.proofs.Replacing.{leaves_kept}
use Rattle.tree_support.specs.Elimination.{restricted}

module _ {R : Type 0} where
  -- ---- as many leaves

  one_leaf : (t : Bool) (end : Plan R) → leaves_of end ≡ 1 → leaves_of (cond t end bottom) ≡ 1
  one_leaf true end one = one
  one_leaf false end one = refl

  pub same_leaves : (keeps : ℕ → Bool) (plan : Plan R) → leaves_of (restricted keeps plan) ≡ leaves_of plan
  same_leaves keeps bottom = refl
  same_leaves keeps (top cause) = one_leaf (keeps 0) (top cause) refl
  same_leaves keeps (leaf why rank) = one_leaf (keeps 0) (leaf why rank) refl
  same_leaves keeps (branch row this that) =
      let first = same_leaves keeps this in
      let second = same_leaves (λ place. keeps (leaves_of this + place)) that in
      omega arith

  -- ---- the same paths

  no_path : (t : Bool) (end : Plan R) (place : ℕ) → path_of end place ≡ [] → path_of (cond t end bottom) place ≡ []
  no_path true end place none = none
  no_path false end place none = refl

  path_side : (row : Row) (this that first second : Plan R) (place : ℕ) → leaves_of first ≡ leaves_of this
      → path_of first place ≡ path_of this place → path_of second (place - leaves_of this) ≡ path_of that (place - leaves_of this)
      → path_of (branch row first second) place ≡ path_of (branch row this that) place
  path_side row this that first second place same near far = rw (same, near, far) refl

  pub same_path : (keeps : ℕ → Bool) (plan : Plan R) (place : ℕ) → path_of (restricted keeps plan) place ≡ path_of plan place
  same_path keeps bottom place = refl
  same_path keeps (top cause) place = no_path (keeps 0) (top cause) place refl
  same_path keeps (leaf why rank) place = no_path (keeps 0) (leaf why rank) place refl
  same_path keeps (branch row this that) place =
      path_side row this that (restricted keeps this) (restricted (λ place. keeps (leaves_of this + place)) that) place
      (same_leaves keeps this) (same_path keeps this place)
      (same_path (λ place. keeps (leaves_of this + place)) that (place - leaves_of this))

  -- ---- a leaf of the set is as it was

  kept_end : (t : Bool) (end : Plan R) (place : ℕ) → t ≡ true → leaf_numbered (cond t end bottom) place ≡ leaf_numbered end place
  kept_end true end place is = refl
  kept_end false end place is = absurd (cc)

  numbered_side : (row : Row) (this that first second : Plan R) (place : ℕ) (t : Bool) → nat_lt place (leaves_of this) ≡ t
      → leaves_of first ≡ leaves_of this → (place < leaves_of this → leaf_numbered first place ≡ leaf_numbered this place)
      → (leaves_of this ≤ place → leaf_numbered second (place - leaves_of this) ≡ leaf_numbered that (place - leaves_of this))
      → leaf_numbered (branch row first second) place ≡ leaf_numbered (branch row this that) place
  numbered_side row this that first second place true is same near far = rw (same, is) (near (ltb-true _ _ is))
  numbered_side row this that first second place false is same near far = rw (same, is) (far (ltb-false _ _ is))

  pub kept_leaf : (keeps : ℕ → Bool) (plan : Plan R) (place : ℕ) → place < leaves_of plan → keeps place ≡ true
      → leaf_numbered (restricted keeps plan) place ≡ leaf_numbered plan place
  kept_leaf keeps bottom place low inside = refl
  kept_leaf keeps (top cause) place low inside =
      let first : place ≡ 0 = omega arith in
      kept_end (keeps 0) (top cause) place (subst (λ n. keeps n ≡ true) first inside)
  kept_leaf keeps (leaf why rank) place low inside =
      let first : place ≡ 0 = omega arith in
      kept_end (keeps 0) (leaf why rank) place (subst (λ n. keeps n ≡ true) first inside)
  kept_leaf keeps (branch row this that) place low inside =
      numbered_side row this that (restricted keeps this) (restricted (λ place. keeps (leaves_of this + place)) that) place
      (nat_lt place (leaves_of this)) refl (same_leaves keeps this)
      (λ early. kept_leaf keeps this place early inside)
      (λ late.
      let behind : place ≡ leaves_of this + (place - leaves_of this) = omega arith in
      kept_leaf (λ place. keeps (leaves_of this + place)) that (place - leaves_of this) (omega arith) (subst (λ n. keeps n ≡ true) behind inside))

  -- ---- a leaf outside the set may be given up

  undefined_end : (t : Bool) (end : Plan R) → t ≡ false → cond t end bottom ≡ bottom
  undefined_end true end is = absurd (cc)
  undefined_end false end is = refl

  same_sides : (row : Row) (keeps : ℕ → Bool) (this that first : Plan R) → leaves_of first ≡ leaves_of this → restricted keeps first ≡ restricted keeps this
      → restricted keeps (branch row first that) ≡ restricted keeps (branch row this that)
  same_sides row keeps this that first same near =
      ap (λ (side : Plan R). branch row side (restricted (λ place. keeps (leaves_of first + place)) that)) near
      ∙ ap (λ n. branch row (restricted keeps this) (restricted (λ place. keeps (n + place)) that)) same

  dropped_side : (row : Row) (keeps : ℕ → Bool) (this that first second : Plan R) (number : ℕ) (t : Bool) → nat_lt number (leaves_of this) ≡ t
      → leaves_of first ≡ leaves_of this → (number < leaves_of this → restricted keeps first ≡ restricted keeps this)
      → (leaves_of this ≤ number
      → restricted (λ place. keeps (leaves_of this + place)) second ≡ restricted (λ place. keeps (leaves_of this + place)) that)
      → restricted keeps (cond t (branch row first that) (branch row this second)) ≡ restricted keeps (branch row this that)
  dropped_side row keeps this that first second number true is same near far = same_sides row keeps this that first same (near (ltb-true _ _ is))
  dropped_side row keeps this that first second number false is same near far = ap (branch row (restricted keeps this)) (far (ltb-false _ _ is))

  pub dropped_leaf : (keeps : ℕ → Bool) (plan : Plan R) (number : ℕ) (cause : Cause) → number < leaves_of plan → keeps number ≡ false
      → restricted keeps (with_leaf plan number (top cause)) ≡ restricted keeps plan
  dropped_leaf keeps bottom number cause low outside =
      let first : number ≡ 0 = omega arith in
      undefined_end (keeps 0) (top cause) (subst (λ n. keeps n ≡ false) first outside)
  dropped_leaf keeps (top old) number cause low outside =
      let first : number ≡ 0 = omega arith in
      let none : keeps 0 ≡ false = subst (λ n. keeps n ≡ false) first outside in
      undefined_end (keeps 0) (top cause) none ∙ sym (undefined_end (keeps 0) (top old) none)
  dropped_leaf keeps (leaf why rank) number cause low outside =
      let first : number ≡ 0 = omega arith in
      let none : keeps 0 ≡ false = subst (λ n. keeps n ≡ false) first outside in
      undefined_end (keeps 0) (top cause) none ∙ sym (undefined_end (keeps 0) (leaf why rank) none)
  dropped_leaf keeps (branch row this that) number cause low outside =
      dropped_side row keeps this that (with_leaf this number (top cause)) (with_leaf that (number - leaves_of this) (top cause)) number
      (nat_lt number (leaves_of this)) refl (leaves_kept this (top cause) number tt)
      (λ early. dropped_leaf keeps this number cause early outside)
      (λ late.
      let behind : number ≡ leaves_of this + (number - leaves_of this) = omega arith in
      dropped_leaf (λ place. keeps (leaves_of this + place)) that (number - leaves_of this) cause (omega arith)
      (subst (λ n. keeps n ≡ false) behind outside))
