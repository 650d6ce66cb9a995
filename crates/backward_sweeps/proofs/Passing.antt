-- A tree put in among those of the labels changes none that is made at its label or behind it.
use Rattle.std.proofs.Common.{◌≡◌, ◌⊎◌, inl, inr, ℕ, zero, suc, ◌<◌, ◌≤◌, ◌&&◌, Bool, true, false, List, [], ◌∷◌, ◌++◌, get_or, length, set, refl, sym, subst, ◌∙◌, arith, ⊎_elim, Ok, Err, IfOk, Result}
use Rattle.std.specs.declared.alloc.AllocError.{AllocError}
use Rattle.linear_cons.specs.Exact.{IsOutside}
use Rattle.linear_cons.specs.declared.exact.Wide.{Wide}
use Rattle.decision_tree.specs.Plans.{Plan, bottom, plan_of, top}
use Rattle.decision_tree.specs.declared.reason.Cause.TheVariants.{Nodes, Wide as WideNumber}
use Rattle.decision_tree.specs.declared.affine_rank.AffineRank.{AffineRank}
use Rattle.decision_tree.specs.declared.tree.Tree.{Tree}
use Rattle.tree_unify.specs.declared.fault.TreeFault.{TreeFault}
use Rattle.tree_unify.specs.declared.fault.TreeFault.TheVariants.{Full as TooFull, Memory, Wide as TooWide}
use Rattle.backward_transfer.specs.AffineShapes.{plans, tree_at}
use Rattle.backward_transfer.proofs.Putting.{more_each, plans_length, plans_more, put_other, put_same, same_or}
use Rattle.control_flow.specs.declared.transition.Transition.{Transition}
use Rattle.control_flow.specs.declared.transition.Transition.TheVariants.{Assign, Choose, Dead, End, Pass, Test}
use Rattle.control_flow.specs.Transitions.{AreOnward, IsOn, transition_in, first_target, is_given, is_idle, second_target}
use Rattle.backward_sweeps.specs.Remaking.{AreEndsGiven, AreEndsStarted, AreGiven, AreKept, AreRemadeFrom, IsOrTop, IsRefused, IsRemade, IsStarted, IsTop, Parts, end_for, given_for, goal_at, remade}

-- what holds of the tree of a label and of those behind what is done there, at each label from the number on whose tree isn't given
abbrev pub AreFrom : (ℕ → Transition → Plan AffineRank → Plan AffineRank → Plan AffineRank → Type 0) → ℕ → List Transition → List (Plan AffineRank) → Type 0
AreFrom Is n transitions trees =
    (label : ℕ) → n ≤ label → label < length transitions → is_given (transition_in transitions label) ≡ false
    → Is label (transition_in transitions label) (tree_at trees (first_target (transition_in transitions label)))
    (tree_at trees (second_target (transition_in transitions label))) (tree_at trees label)

module _ (Is : ℕ → Transition → Plan AffineRank → Plan AffineRank → Plan AffineRank → Type 0) (transitions : List Transition) (trees : List (Plan AffineRank)) (l : ℕ) where
  module _ (x : Plan AffineRank) (open_there : is_given (transition_in transitions l) ≡ false) where
    away : (label to : ℕ) → l ≤ label → IsOn transitions label to → to ≡ l → ⊥
    away label to least (inl on) is = absurd (omega arith)
    away label to least (inr given) is =
        let here : is_given (transition_in transitions l) ≡ true = subst (λ k. is_given (transition_in transitions k) ≡ true) is given in absurd (cc)

    apart : (label : ℕ) (transition : Transition) (plan : Plan AffineRank) → l ≤ label → IsOn transitions label (first_target transition)
        → IsOn transitions label (second_target transition)
        → Is label transition (tree_at trees (first_target transition)) (tree_at trees (second_target transition)) plan
        → Is label transition (tree_at (set trees l x) (first_target transition)) (tree_at (set trees l x) (second_target transition)) plan
    apart label transition plan least first second is =
        subst (λ (t : Plan AffineRank). Is label transition t (tree_at (set trees l x) (second_target transition)) plan)
        (sym (put_other bottom trees l (first_target transition) x (away label (first_target transition) least first)))
        (subst (λ (t : Plan AffineRank). Is label transition (tree_at trees (first_target transition)) t plan)
        (sym (put_other bottom trees l (second_target transition) x (away label (second_target transition) least second))) is)

    pub put_before : l < length trees → AreOnward transitions
        → Is l (transition_in transitions l) (tree_at trees (first_target (transition_in transitions l))) (tree_at trees (second_target (transition_in transitions l))) x
        → AreFrom Is (suc l) transitions trees → AreFrom Is l transitions (set trees l x)
    put_before low onward here there label least below open_label =
        let on = onward.on label below open_label in
        apart label (transition_in transitions label) (tree_at (set trees l x) label) least on.0 on.1
        (⊎_elim
        (λ (is : label ≡ l).
        subst (λ (k : ℕ). Is k (transition_in transitions k) (tree_at trees (first_target (transition_in transitions k))) (tree_at trees (second_target (transition_in transitions k))) (tree_at (set trees l x) k)) (sym is)
        (subst (λ (t : Plan AffineRank). Is l (transition_in transitions l) (tree_at trees (first_target (transition_in transitions l))) (tree_at trees (second_target (transition_in transitions l))) t)
        (sym (put_same bottom trees l x low)) here))
        (λ (other : label ≡ l → ⊥).
        subst (λ (t : Plan AffineRank). Is label (transition_in transitions label) (tree_at trees (first_target (transition_in transitions label)))
        (tree_at trees (second_target (transition_in transitions label))) t) (sym (put_other bottom trees l label x other)) (there label (omega arith) below open_label))
        (same_or label l))

  -- a label whose tree is given asks nothing
  pub passed_over : is_given (transition_in transitions l) ≡ true → AreFrom Is (suc l) transitions trees → AreFrom Is l transitions trees
  passed_over given there label least below open_label =
      ⊎_elim
      (λ (is : label ≡ l). let here : is_given (transition_in transitions l) ≡ false = subst (λ k. is_given (transition_in transitions k) ≡ false) is open_label in absurd (cc))
      (λ (other : label ≡ l → ⊥). there label (omega arith) below open_label) (same_or label l)

module _ (parts : Parts) where
  -- what holds of the trees behind a transition, and of its own tree
  abbrev Held : Bool → ℕ → Transition → Plan AffineRank → Plan AffineRank → Plan AffineRank → Type 0
  Held all label transition this that plan =
      (plan ≡ remade parts label transition this that) ⊎ ((all ≡ false) × IsRefused parts label transition this that plan)

  weaker : (label : ℕ) (all more : Bool) (transition : Transition) (this that plan : Plan AffineRank) → Held all label transition this that plan
      → Held (more && all) label transition this that plan
  weaker label all true transition this that plan held = held
  weaker label all false transition this that plan (inl made) = inl made
  weaker label all false transition this that plan (inr refused) = inr (refl, refused.1)

  pub put_made : (transitions : List Transition) (trees : List (Plan AffineRank)) (l : ℕ) (x : Plan AffineRank) → is_given (transition_in transitions l) ≡ false
      → (all more : Bool) → l < length trees → AreOnward transitions → IsRemade parts l (more && all) (transition_in transitions l) trees x
      → AreRemadeFrom (suc l) all parts transitions trees → AreRemadeFrom l (more && all) parts transitions (set trees l x)
  put_made transitions trees l x open_there all more low onward here there =
      put_before (Held (more && all)) transitions trees l x open_there low onward here
      (λ label least below open_label.
      weaker label all more (transition_in transitions label) (tree_at trees (first_target (transition_in transitions label)))
      (tree_at trees (second_target (transition_in transitions label))) (tree_at trees label) (there label least below open_label))

-- the trees of labels at which such a thing is done stay
pub put_kept : (which : Transition → Bool) (transitions : List Transition) (trees : List (Plan AffineRank)) (l : ℕ) (x : Plan AffineRank)
    → which (transition_in transitions l) ≡ false → AreKept which transitions trees (set trees l x)
put_kept which transitions trees l x not_here label below such =
    put_other bottom trees l label x
    (λ (is : label ≡ l). let here : which (transition_in transitions l) ≡ true = subst (λ k. which (transition_in transitions k) ≡ true) is such in absurd (cc))

-- where nothing is done the tree is given
pub idle_given : (transition : Transition) → is_idle transition ≡ true → is_given transition ≡ true
idle_given End idle = refl
idle_given Dead idle = refl
idle_given (Pass to) idle = absurd (cc)
idle_given (Assign place value to) idle = absurd (cc)
idle_given (Choose place range choice cases to) idle = absurd (cc)
idle_given (Test is_head choice holds fails to other) idle = absurd (cc)

end_given : (goal old : Plan AffineRank) (transition : Transition) → is_idle transition ≡ true → given_for goal transition old ≡ end_for goal transition
end_given goal old End idle = refl
end_given goal old Dead idle = refl
end_given goal old (Pass to) idle = absurd (cc)
end_given goal old (Assign place value to) idle = absurd (cc)
end_given goal old (Choose place range choice cases to) idle = absurd (cc)
end_given goal old (Test is_head choice holds fails to other) idle = absurd (cc)

-- the trees that are given are so where nothing is done, also after they were kept
pub ends_given : (parts : Parts) (transitions : List Transition) (heads begun trees : List (Plan AffineRank)) → AreGiven parts transitions heads begun
    → AreKept is_idle transitions begun trees → AreEndsGiven parts transitions trees
ends_given parts transitions heads begun trees given kept label below idle =
    kept label below idle ∙ given label below (idle_given (transition_in transitions label) idle)
    ∙ end_given (goal_at parts label) (tree_at heads label) (transition_in transitions label) idle

pub ends_started : (parts : Parts) (transitions : List Transition) (begun trees : List (Plan AffineRank)) → AreEndsStarted parts transitions begun
    → AreKept is_idle transitions begun trees → AreEndsStarted parts transitions trees
ends_started parts transitions begun trees started kept label below idle =
    subst (IsStarted parts label (transition_in transitions label)) (sym (kept label below idle)) (started label below idle)

-- what is made so, whether all are or not
pub still_remade : (n : ℕ) (all : Bool) (parts : Parts) (transitions : List Transition) (trees : List (Plan AffineRank))
    → AreRemadeFrom n all parts transitions trees → AreRemadeFrom n false parts transitions trees
still_remade n all parts transitions trees remade label least below open_label =
    weaker parts label all false (transition_in transitions label) (tree_at trees (first_target (transition_in transitions label)))
    (tree_at trees (second_target (transition_in transitions label))) (tree_at trees label) (remade label least below open_label)

pub given_kept : (transitions : List Transition) (old trees : List (Plan AffineRank)) → AreKept is_given transitions old trees → AreKept is_idle transitions old trees
given_kept transitions old trees kept label below idle = kept label below (idle_given (transition_in transitions label) idle)

-- what holds of each tree of a list and of one more holds of each of both
pub plans_each : (P : ℕ → Plan AffineRank → Type 0) (trees : List (Tree AffineRank)) (tree : Tree AffineRank)
    → ((label : ℕ) → label < length trees → P label (tree_at (plans trees) label)) → P (length trees) (plan_of tree)
    → (label : ℕ) → label < suc (length trees) → P label (tree_at (plans (trees ++ tree ∷ [])) label)
plans_each P trees tree each here label below =
    let long = plans_length trees in
    subst (λ t. P label (tree_at t label)) (sym (plans_more trees tree))
    (more_each bottom P (plans trees) (plan_of tree) (λ l low. each l (omega (arith, low, long))) (subst (λ n. P n (plan_of tree)) (sym long) here)
    label (omega (arith, below, long)))

-- what was read at a label is what is done there
pub action_read : (transitions : List Transition) (l : ℕ) (transition : Transition) → transition ≡ get_or transitions l transition → l < length transitions → transition ≡ transition_in transitions l
action_read [] l transition is low = absurd (omega arith)
action_read (first ∷ more) zero transition is low = is
action_read (first ∷ more) (suc l) transition is low = action_read more l transition is (omega arith)

-- what stands in place of a tree that can't be made
pub top_by : (Fits IsSmall : Type 0) (fault : TreeFault) (plan : Plan AffineRank)
    → ((count : ℕ) → fault ≡ TooFull count → (n : ℕ) × (plan ≡ top (Nodes n))) → ((w : Wide) → fault ≡ TooWide w → plan ≡ top (WideNumber w))
    → ((error : AllocError) → fault ≡ Memory error → ⊥) → ((count : ℕ) → fault ≡ TooFull count → IsSmall → ⊥)
    → ((w : Wide) → fault ≡ TooWide w → Fits → ⊥) → ((w : Wide) → fault ≡ TooWide w → IsOutside w) → IsTop Fits IsSmall plan
top_by Fits IsSmall (TooFull count) plan full wide none small fits outside = inr ((full count refl).0, (full count refl).1, small count refl)
top_by Fits IsSmall (TooWide w) plan full wide none small fits outside = inl (w, wide w refl, outside w refl, fits w refl)
top_by Fits IsSmall (Memory error) plan full wide none small fits outside = absurd (none error refl)

-- the same of a call's answer
pub or_top : (that : Plan AffineRank) (Fits IsSmall : Type 0) (fault : TreeFault) (result : Result (Tree AffineRank) AllocError)
    → ((count : ℕ) → fault ≡ TooFull count → IfOk result (λ tree. (n : ℕ) × (plan_of tree ≡ top (Nodes n))))
    → ((w : Wide) → fault ≡ TooWide w → IfOk result (λ tree. plan_of tree ≡ top (WideNumber w)))
    → ((error : AllocError) → fault ≡ Memory error → IfOk result (λ tree. ⊥)) → ((count : ℕ) → fault ≡ TooFull count → IsSmall → ⊥)
    → ((w : Wide) → fault ≡ TooWide w → Fits → ⊥) → ((w : Wide) → fault ≡ TooWide w → IsOutside w)
    → IfOk result (λ tree. IsOrTop that Fits IsSmall (plan_of tree))
or_top that Fits IsSmall fault (Ok tree) full wide none small fits outside =
    inr (top_by Fits IsSmall fault (plan_of tree) full wide none small fits outside)
or_top that Fits IsSmall fault (Err error) full wide none small fits outside = tt

-- what holds of two values holds of two that are equal to them
pub both_carried : {A : Type 0} (P : A → A → Type 0) (a b c d : A) → a ≡ b → c ≡ d → P a c → P b d
both_carried P a b c d first second holds = subst (λ x. P x d) first (subst (λ y. P a y) second holds)
