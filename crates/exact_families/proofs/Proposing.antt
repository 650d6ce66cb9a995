-- The trees that are proposed for a part of a formula are those that are made by what is done at the labels, where none is given up.
use Rattle.std.specs.Prelude.{⊤}
use Rattle.std.proofs.Common.{◌≡◌, inl, inr, ⊎_elim, ℕ, zero, suc, ◌<◌, ◌≤◌, Bool, true, false, not, List, [], ◌∷◌, length, map, refl, sym, ap, subst, ◌∙◌, arith}
use Rattle.std.proofs.lemmas.Bool.{false≢true}
use Rattle.step_meaning.specs.Counts.{HasNoLoop}
use Rattle.step_meaning.specs.Syntax.{Statements}
use Rattle.step_meaning.specs.Valid.{IsBody}
use Rattle.linear_cons.specs.declared.row.RowKind.TheVariants.{Always, Never, Row as Kept}
use Rattle.decision_tree.specs.Plans.{Plan, bottom, size_of}
use Rattle.decision_tree.specs.declared.affine_rank.AffineRank.{AffineRank}
use Rattle.decision_tree.specs.declared.reason.Pick.TheVariants.{All as Every}
use Rattle.decision_tree.specs.declared.reason.Why.TheVariants.{Dead as NeverReached, Left, Now, Right, Step}
use Rattle.control_flow.specs.Fitting.{IsFitting}
use Rattle.control_flow.specs.Labels.{Action, ends, assigns, passes, tests, action_at, all_labels}
use Rattle.ctl_formula.specs.declared.formula.Formula.{Formula, Not', And', Or', Next', Until', Weak'}
use Rattle.ctl_formula.specs.declared.formula.Formula.TheVariants.{True, False, Exit, NotExit, Holds}
use Rattle.ctl_formula.specs.Formulas.{Ctl, exit, next, not_exit, until, weak}
use Rattle.ctl_formula.specs.Mirror.{ctl}
use Rattle.control_flow.specs.Told.{Told}
use Rattle.control_flow.specs.Transitions.{AreTold, HasNoHead, IsOver, IsTold, first_target, is_given, is_head, is_idle, second_target, transition_in}
use Rattle.control_flow.specs.declared.transition.Transition.{Transition}
use Rattle.control_flow.specs.declared.transition.Transition.TheVariants.{Assign, Choose, Dead, End, Pass, Test}
use Rattle.backward_transfer.specs.AffineShapes.{tree_at}
use Rattle.backward_sweeps.specs.Before.{BeforeFits, IsBeforeSmall}
use Rattle.backward_sweeps.specs.Claiming.{claimed, reranked}
use Rattle.backward_sweeps.specs.Moving.{at_once}
use Rattle.backward_sweeps.specs.Remaking.{AreRemadeFrom, BothFit, EitherFits, IsOrTop, IsRefused, IsStarted, IsTop, Parts, StartFits, either_of, end_for, goal_at, keep_at, made, started}
use Rattle.part_trees.specs.Local.{AreLocal, IsLocal, IsReached, end_tree, going_tree, met}
use Rattle.part_trees.specs.Next.{AreNexts, IsNext}
use Rattle.part_trees.specs.Proposed.{AreKeptFor, AreProposed, AreSweptFor, until_of}
use Rattle.tree_support.specs.Setting.{Trees}
use Rattle.unroll.proofs.Ordering.{does_something}
use Rattle.exact_families.specs.Completeness.{NoneGivenUp, two_parts}
use Rattle.exact_families.proofs.Deeds.{Deed, IsMadeAt, before as before_deed}
use Rattle.formula_measures.proofs.Loopless.{no_heads}
use Rattle.exact_families.proofs.Programs.{deeds, fits_at}
use Rattle.exact_families.proofs.Transiting.{end_as, head_as, is_end, open_as, reached_as, reached_by}
use Rattle.exact_families.proofs.Whole.{IsMade}

-- a tree of which no leaf was given up isn't given up itself
no_top : (plan : Plan AffineRank) (Fits IsSmall : Type 0) → NoneGivenUp plan → IsTop Fits IsSmall plan → ⊥
no_top plan Fits IsSmall none (inl wide) = subst NoneGivenUp wide.1 none
no_top plan Fits IsSmall none (inr full) = subst NoneGivenUp full.1 none

-- nor is one that is formed within the limits
pub never_top : (plan : Plan AffineRank) (Fits IsSmall : Type 0) → Fits → IsSmall → IsTop Fits IsSmall plan → ⊥
never_top plan Fits IsSmall fits small (inl wide) = wide.3 fits
never_top plan Fits IsSmall fits small (inr full) = full.2 small

or_held : (that plan : Plan AffineRank) (Fits IsSmall : Type 0) → (IsTop Fits IsSmall plan → ⊥) → IsOrTop that Fits IsSmall plan → plan ≡ that
or_held that plan Fits IsSmall held (inl is) = is
or_held that plan Fits IsSmall held (inr given_up) = absurd (held given_up)

-- a tree of a part at the same label is given up for such a reason
abbrev pub IsReachedTop : Formula → Plan AffineRank → Plan AffineRank → Plan AffineRank → Type 0
IsReachedTop (And' p f q g) first second plan = IsTop (BothFit (reranked first) (reranked second)) (size_of (met first second) ≤ 65536) plan
IsReachedTop (Or' p f q g) first second plan =
    IsTop (EitherFits (claimed Left first) (claimed Right second)) (size_of (either_of (claimed Left first) (claimed Right second)) ≤ 65536) plan
IsReachedTop (Next' all p f) first second plan = ⊥
IsReachedTop (Until' all p f q g) first second plan = ⊥
IsReachedTop (Weak' all p f q g) first second plan = ⊥
IsReachedTop True first second plan = ⊥
IsReachedTop False first second plan = ⊥
IsReachedTop Exit first second plan = ⊥
IsReachedTop NotExit first second plan = ⊥
IsReachedTop (Holds kind) first second plan = ⊥
IsReachedTop (Not' p f) first second plan = ⊥

-- a tree of a list that is taken over
taken_at : (f : Plan AffineRank → Plan AffineRank) → f bottom ≡ bottom → (trees : List (Plan AffineRank)) (l : ℕ) → tree_at (map f trees) l ≡ f (tree_at trees l)
taken_at f none [] l = sym none
taken_at f none (x ∷ xs) zero = refl
taken_at f none (x ∷ xs) (suc l) = taken_at f none xs l

-- the label is the end
abbrev EndIs : ℕ → Bool → Type 0
EndIs zero t = t ≡ true
EndIs (suc l) t = t ≡ false

-- the formula's trees are made of those of its parts at the same label
abbrev IsLocalPart : Formula → Type 0
IsLocalPart (Next' all p f) = ⊥
IsLocalPart (Until' all p f q g) = ⊥
IsLocalPart (Weak' all p f q g) = ⊥
IsLocalPart True = ⊤
IsLocalPart False = ⊤
IsLocalPart Exit = ⊤
IsLocalPart NotExit = ⊤
IsLocalPart (Holds kind) = ⊤
IsLocalPart (Not' p f) = ⊤
IsLocalPart (And' p f q g) = ⊤
IsLocalPart (Or' p f q g) = ⊤

module _ (body : Statements) (vars : ℕ) (few : vars ≤ 15) (valid : IsBody vars body) (fitting : IsFitting body) (loopless : HasNoLoop body) (told : Told)
    (transitions : List Transition) (same : length transitions ≡ length (all_labels body)) (told_are : AreTold body told transitions) where
  abbrev n : ℕ
  n = length (all_labels body)

  abbrev done : ℕ → Deed
  done = deeds body vars few valid fitting told.bounds

  abbrev Over : ℕ → Transition → Type 0
  Over l t = IsOver (told.bounds l) (action_at body l) t

  pub told_over : (l : ℕ) → l < n → told.dead l ≡ false → Over l (transition_in transitions l)
  told_over l low alive = subst (λ dead. IsTold (told.bounds l) dead (action_at body l) (transition_in transitions l)) alive (told_are l low)

  told_dead : (l : ℕ) → l < n → told.dead l ≡ true → transition_in transitions l ≡ Dead
  told_dead l low dead = subst (λ dead. IsTold (told.bounds l) dead (action_at body l) (transition_in transitions l)) dead (told_are l low)

  -- no transition is that of a loop's test
  pub no_head : HasNoHead transitions
  no_head l below = at (told.dead l) refl
    where
      low : l < n
      low = omega (arith, same, below)

      at : (t : Bool) → told.dead l ≡ t → is_head (transition_in transitions l) ≡ false
      at true dead = ap is_head (told_dead l low dead)
      at false alive = head_as (told.bounds l) (action_at body l) (transition_in transitions l) (told_over l low alive) (no_heads body loopless l low)

  end_is : (l : ℕ) → l < n → (t : Transition) → Over l t → EndIs l (is_end t)
  end_is zero low t over = end_as (told.bounds 0) (action_at body 0) t over
  end_is (suc l) low t over =
      end_as (told.bounds (suc l)) (action_at body (suc l)) t over ∙ ap not (does_something body (suc l) low (omega arith))

  -- ---- parts at the same label

  module _ (parts : ℕ → Trees AffineRank) (family : Trees AffineRank) where
    exit_made : (l : ℕ) (t : Bool) → EndIs l t → family l ≡ end_tree t → IsMadeAt exit done parts family l
    exit_made zero t end own = own ∙ ap end_tree end
    exit_made (suc l) t end own = own ∙ ap end_tree end

    going_made : (l : ℕ) (t : Bool) → EndIs l t → family l ≡ going_tree t → IsMadeAt not_exit done parts family l
    going_made zero t end own = own ∙ ap going_tree end
    going_made (suc l) t end own = own ∙ ap going_tree end

    reached_made : (formula : Formula) (l : ℕ) (t : Bool) → IsLocalPart formula → EndIs l t → IsReached formula t (parts 0 l) (parts 1 l) (family l)
        → (IsReachedTop formula (parts 0 l) (parts 1 l) (family l) → ⊥) → IsMadeAt (ctl formula) done parts family l
    reached_made True l t here end own held = own
    reached_made False l t here end own held = own
    reached_made Exit l t here end own held = exit_made l t end own
    reached_made NotExit l t here end own held = going_made l t end own
    reached_made (Holds Always) l t here end own held = own
    reached_made (Holds Never) l t here end own held = own
    reached_made (Holds (Kept row)) l t here end own held = (row, refl, own)
    reached_made (Not' p f) l t here end own held = own
    reached_made (And' p f q g) l t here end own held = or_held _ (family l) _ _ held own
    reached_made (Or' p f q g) l t here end own held = or_held _ (family l) _ _ held own
    reached_made (Next' all p f) l t here end own held = absurd here
    reached_made (Until' all p f q g) l t here end own held = absurd here
    reached_made (Weak' all p f q g) l t here end own held = absurd here

    reached_by_local : (formula : Formula) (l : ℕ) (t : Transition) → Over l t → IsLocal formula t (parts 0 l) (parts 1 l) (family l)
        → IsReached formula (is_end t) (parts 0 l) (parts 1 l) (family l)
    reached_by_local formula l End over own = own
    reached_by_local formula l Dead over own = absurd (never_dead (action_at body l) over)
      where
        never_dead : (action : Action) → IsOver (told.bounds l) action Dead → ⊥
        never_dead ends over = over
        never_dead (assigns x e to) over = over
        never_dead (passes to) over = over
        never_dead (tests head c p q) over = over
    reached_by_local formula l (Pass to) over own = own
    reached_by_local formula l (Assign place value to) over own = own
    reached_by_local formula l (Choose place values choice cases to) over own = own
    reached_by_local formula l (Test head_there choice holds fails to other) over own = own

  module _ (first second trees : List (Plan AffineRank)) where
    abbrev parts : ℕ → Trees AffineRank
    parts = two_parts first second

    abbrev family : Trees AffineRank
    family l = tree_at trees l

    below : (l : ℕ) → l < n → l < length transitions
    below l low = omega (arith, low, same)

    -- the tree of a label at which this is done is given up for such a reason: of a next, an until and a weak until
    abbrev pub IsNextTop : Bool → ℕ → Transition → Type 0
    IsNextTop all l t =
        IsTop (BeforeFits all t (reranked (tree_at first (first_target t))) (reranked (tree_at first (second_target t))))
        (IsBeforeSmall all t (reranked (tree_at first (first_target t))) (reranked (tree_at first (second_target t)))) (family l)

    abbrev pub IsSweptTop : Bool → ℕ → Transition → Type 0
    IsSweptTop all zero t = ⊥
    IsSweptTop all (suc l) t = IsRefused (until_of all first second) (suc l) t (family (first_target t)) (family (second_target t)) (family (suc l))

    abbrev pub IsKeptTop : Bool → ℕ → Transition → Type 0
    IsKeptTop all zero t = IsTop (StartFits (until_of all first second) 0) (size_of (started (until_of all first second) 0) ≤ 65536) (family 0)
    IsKeptTop all (suc l) t = IsRefused (until_of all first second) (suc l) t (family (first_target t)) (family (second_target t)) (family (suc l))

    abbrev pub IsTopAt : Formula → ℕ → Transition → Type 0
    IsTopAt (Next' all p f) l t = IsNextTop all l t
    IsTopAt (Until' all p f q g) l t = IsSweptTop all l t
    IsTopAt (Weak' all p f q g) l t = IsKeptTop all l t
    IsTopAt True l t = ⊥
    IsTopAt False l t = ⊥
    IsTopAt Exit l t = ⊥
    IsTopAt NotExit l t = ⊥
    IsTopAt (Holds kind) l t = ⊥
    IsTopAt (Not' p f) l t = ⊥
    IsTopAt (And' p f q g) l t = IsReachedTop (And' p f q g) (tree_at first l) (tree_at second l) (family l)
    IsTopAt (Or' p f q g) l t = IsReachedTop (Or' p f q g) (tree_at first l) (tree_at second l) (family l)

    -- it isn't
    abbrev pub IsHeldAt : Formula → ℕ → Type 0
    IsHeldAt formula l = IsTopAt formula l (transition_in transitions l) → ⊥

    local_at : (formula : Formula) → IsLocalPart formula → AreLocal formula transitions first second trees → (l : ℕ) → l < n → told.dead l ≡ false
        → (IsReachedTop formula (parts 0 l) (parts 1 l) (family l) → ⊥) → IsMadeAt (ctl formula) done parts family l
    local_at formula here are l low alive held =
        let over = told_over l low alive in
        reached_made parts family formula l (is_end (transition_in transitions l)) here (end_is l low (transition_in transitions l) over)
        (reached_by_local parts family formula l (transition_in transitions l) over (are l (below l low))) held

    local_dead : (formula : Formula) → AreLocal formula transitions first second trees → (l : ℕ) → l < n → told.dead l ≡ true → family l ≡ at_once NeverReached
    local_dead formula are l low dead =
        subst (λ t. IsLocal formula t (tree_at first l) (tree_at second l) (tree_at trees l)) (told_dead l low dead) (are l (below l low))

    -- ---- a next

    module _ (all : Bool) where
      next_end : (t : Transition) → EndIs 0 (is_end t) → IsNext all first 0 t (family 0) → family 0 ≡ claimed Now (parts 0 0)
      next_end End end own = own
      next_end Dead end own = absurd (false≢true end)
      next_end (Pass to) end own = absurd (false≢true end)
      next_end (Assign place value to) end own = absurd (false≢true end)
      next_end (Choose place values choice cases to) end own = absurd (false≢true end)
      next_end (Test head_there choice holds fails to other) end own = absurd (false≢true end)

      next_step : (l : ℕ) (t : Transition) → EndIs (suc l) (is_end t) → IsNext all first (suc l) t (family (suc l))
          → (IsTop (BeforeFits all t (reranked (tree_at first (first_target t))) (reranked (tree_at first (second_target t))))
          (IsBeforeSmall all t (reranked (tree_at first (first_target t))) (reranked (tree_at first (second_target t)))) (family (suc l)) → ⊥)
          → family (suc l) ≡ reached_by all t (λ target. reranked (tree_at first target))
      next_step l End end own held = absurd (false≢true (sym end))
      next_step l Dead end own held = or_held _ (family (suc l)) _ _ held own
      next_step l (Pass to) end own held = or_held _ (family (suc l)) _ _ held own
      next_step l (Assign place value to) end own held = or_held _ (family (suc l)) _ _ held own
      next_step l (Choose place values choice cases to) end own held = or_held _ (family (suc l)) _ _ held own
      next_step l (Test head_there choice holds fails to other) end own held = or_held _ (family (suc l)) _ _ held own

      next_at : (f : Ctl) (l : ℕ) → l < n → told.dead l ≡ false → IsNext all first l (transition_in transitions l) (family l) → (IsNextTop all l (transition_in transitions l) → ⊥)
          → IsMadeAt (next all f) done parts family l
      next_at f zero low alive own held = next_end (transition_in transitions 0) (end_is 0 low (transition_in transitions 0) (told_over 0 low alive)) own
      next_at f (suc l) low alive own held =
          let t : Transition = transition_in transitions (suc l) in
          next_step l t (end_is (suc l) low t (told_over (suc l) low alive)) own held
          ∙ reached_as (told.bounds (suc l)) (λ target. reranked (tree_at first target)) all (action_at body (suc l)) t
          (fits_at body vars few valid fitting (suc l)) (told_over (suc l) low alive)

      next_dead : (all : Bool) (plan : Plan AffineRank) (l : ℕ) → IsNext all first l Dead plan → plan ≡ at_once NeverReached
      next_dead true plan l own = or_held (at_once NeverReached) plan _ _ (never_top plan _ _ tt tt) own
      next_dead false plan l own = or_held (at_once NeverReached) plan _ _ (never_top plan _ _ tt tt) own

      next_is_dead : AreNexts all transitions first trees → (l : ℕ) → l < n → told.dead l ≡ true → family l ≡ at_once NeverReached
      next_is_dead are l low dead = next_dead all (family l) l (subst (λ t. IsNext all first l t (family l)) (told_dead l low dead) (are l (below l low)))

    -- ---- an until and a weak until

    module _ (all : Bool) where
      abbrev swept : Parts
      swept = until_of all first second

      pub goal_is : (l : ℕ) → goal_at swept l ≡ claimed Now (tree_at second l)
      goal_is l = taken_at (claimed Now) refl second l

      pub keep_is : (l : ℕ) → keep_at swept l ≡ reranked (tree_at first l)
      keep_is l = taken_at reranked refl first l

      remade_at : AreRemadeFrom 0 false swept transitions trees → (l : ℕ) → suc l < n → told.dead (suc l) ≡ false
          → (IsRefused swept (suc l) (transition_in transitions (suc l)) (family (first_target (transition_in transitions (suc l))))
          (family (second_target (transition_in transitions (suc l)))) (family (suc l)) → ⊥)
          → family (suc l) ≡ made (claimed Now (parts 1 (suc l))) (reranked (parts 0 (suc l))) (before_deed all (done (suc l)) family)
      remade_at are l low alive held =
          let t : Transition = transition_in transitions (suc l) in
          let over : Over (suc l) t = told_over (suc l) low alive in
          let open_there : is_given t ≡ false =
          open_as (told.bounds (suc l)) (action_at body (suc l)) t over (does_something body (suc l) low (omega arith)) (no_heads body loopless (suc l) low) in
          let own : family (suc l) ≡ made (goal_at swept (suc l)) (keep_at swept (suc l)) (reached_by all t family) =
          ⊎_elim (λ is. is) (λ given_up. absurd (held given_up.1)) (are (suc l) (omega arith) (below (suc l) low) open_there) in
          own ∙ ap (λ g. made g (keep_at swept (suc l)) (reached_by all t family)) (goal_is (suc l))
          ∙ ap (λ k. made (claimed Now (parts 1 (suc l))) k (reached_by all t family)) (keep_is (suc l))
          ∙ ap (made (claimed Now (parts 1 (suc l))) (reranked (parts 0 (suc l))))
          (reached_as (told.bounds (suc l)) family all (action_at body (suc l)) t (fits_at body vars few valid fitting (suc l)) over)

      idle_end : (t : Transition) → is_end t ≡ true → t ≡ End
      idle_end End end = refl
      idle_end Dead end = absurd (false≢true end)
      idle_end (Pass to) end = absurd (false≢true end)
      idle_end (Assign place value to) end = absurd (false≢true end)
      idle_end (Choose place values choice cases to) end = absurd (false≢true end)
      idle_end (Test head_there choice holds fails to other) end = absurd (false≢true end)

      -- the transition of label 0, where a store is there
      pub start_is : (low : 0 < n) → told.dead 0 ≡ false → transition_in transitions 0 ≡ End
      start_is low alive = idle_end (transition_in transitions 0) (end_is 0 low (transition_in transitions 0) (told_over 0 low alive))

      until_at : (f g : Ctl) → AreSweptFor all first second transitions trees → (l : ℕ) → l < n → told.dead l ≡ false → (IsSweptTop all l (transition_in transitions l) → ⊥)
          → IsMadeAt (until all f g) done parts family l
      until_at f g are zero low alive held =
          are.0 0 (below 0 low) (ap is_idle (start_is low alive)) ∙ ap (end_for (goal_at swept 0)) (start_is low alive) ∙ goal_is 0
      until_at f g are (suc l) low alive held = remade_at (are.1 no_head) l low alive held

      until_dead : AreSweptFor all first second transitions trees → (l : ℕ) → l < n → told.dead l ≡ true → family l ≡ at_once NeverReached
      until_dead are l low dead = are.0 l (below l low) (ap is_idle (told_dead l low dead)) ∙ ap (end_for (goal_at swept l)) (told_dead l low dead)

      pub started_is : (l : ℕ) → started swept l ≡ either_of (claimed Now (parts 1 l)) (claimed (Step Every) (reranked (parts 0 l)))
      started_is l =
          ap (λ g. either_of g (claimed (Step Every) (keep_at swept l))) (goal_is l)
          ∙ ap (λ k. either_of (claimed Now (parts 1 l)) (claimed (Step Every) k)) (keep_is l)

      weak_at : (f g : Ctl) → AreKeptFor all first second transitions trees → (l : ℕ) → l < n → told.dead l ≡ false → (IsKeptTop all l (transition_in transitions l) → ⊥)
          → IsMadeAt (weak all f g) done parts family l
      weak_at f g are zero low alive held =
          or_held (started swept 0) (family 0) _ _ held
          (subst (λ t. IsStarted swept 0 t (family 0)) (start_is low alive) (are.0 0 (below 0 low) (ap is_idle (start_is low alive)))) ∙ started_is 0
      weak_at f g are (suc l) low alive held = remade_at (are.1 no_head) l low alive held

      weak_dead : AreKeptFor all first second transitions trees → (l : ℕ) → l < n → told.dead l ≡ true → family l ≡ at_once NeverReached
      weak_dead are l low dead = subst (λ t. IsStarted swept l t (family l)) (told_dead l low dead) (are.0 l (below l low) (ap is_idle (told_dead l low dead)))

    -- the tree of a label is made, where it isn't given up
    pub made_at : (formula : Formula) → AreProposed formula transitions first second trees → (l : ℕ) → l < n → told.dead l ≡ false → IsHeldAt formula l
        → IsMadeAt (ctl formula) done parts family l
    made_at True are l low alive held = local_at True tt are l low alive (λ none. none)
    made_at False are l low alive held = local_at False tt are l low alive (λ none. none)
    made_at Exit are l low alive held = local_at Exit tt are l low alive (λ none. none)
    made_at NotExit are l low alive held = local_at NotExit tt are l low alive (λ none. none)
    made_at (Holds kind) are l low alive held = local_at (Holds kind) tt are l low alive (λ none. none)
    made_at (Not' p f) are l low alive held = local_at (Not' p f) tt are l low alive (λ none. none)
    made_at (And' p f q g) are l low alive held = local_at (And' p f q g) tt are l low alive held
    made_at (Or' p f q g) are l low alive held = local_at (Or' p f q g) tt are l low alive held
    made_at (Next' all p f) are l low alive held = next_at all (ctl f) l low alive (are l (below l low)) held
    made_at (Until' all p f q g) are l low alive held = until_at all (ctl f) (ctl g) are l low alive held
    made_at (Weak' all p f q g) are l low alive held = weak_at all (ctl f) (ctl g) are l low alive held

    -- and where no run comes it claims everything
    pub dead_is : (formula : Formula) → AreProposed formula transitions first second trees → (l : ℕ) → l < n → told.dead l ≡ true → family l ≡ at_once NeverReached
    dead_is True are l low dead = local_dead True are l low dead
    dead_is False are l low dead = local_dead False are l low dead
    dead_is Exit are l low dead = local_dead Exit are l low dead
    dead_is NotExit are l low dead = local_dead NotExit are l low dead
    dead_is (Holds kind) are l low dead = local_dead (Holds kind) are l low dead
    dead_is (Not' p f) are l low dead = local_dead (Not' p f) are l low dead
    dead_is (And' p f q g) are l low dead = local_dead (And' p f q g) are l low dead
    dead_is (Or' p f q g) are l low dead = local_dead (Or' p f q g) are l low dead
    dead_is (Next' all p f) are l low dead = next_is_dead all are l low dead
    dead_is (Until' all p f q g) are l low dead = until_dead all are l low dead
    dead_is (Weak' all p f q g) are l low dead = weak_dead all are l low dead

    -- a tree of which no leaf was given up isn't
    held_none : (formula : Formula) (l : ℕ) (t : Transition) → NoneGivenUp (family l) → IsTopAt formula l t → ⊥
    held_none True l t none is = is
    held_none False l t none is = is
    held_none Exit l t none is = is
    held_none NotExit l t none is = is
    held_none (Holds kind) l t none is = is
    held_none (Not' p f) l t none is = is
    held_none (And' p f q g) l t none is = no_top (family l) _ _ none is
    held_none (Or' p f q g) l t none is = no_top (family l) _ _ none is
    held_none (Next' all p f) l t none is = no_top (family l) _ _ none is
    held_none (Until' all p f q g) zero t none is = is
    held_none (Until' all p f q g) (suc l) t none is = no_top (family (suc l)) _ _ none is
    held_none (Weak' all p f q g) zero t none is = no_top (family 0) _ _ none is
    held_none (Weak' all p f q g) (suc l) t none is = no_top (family (suc l)) _ _ none is

    -- the trees that are proposed are made
    pub proposed_held : (formula : Formula) → AreProposed formula transitions first second trees
        → ((l : ℕ) → l < n → told.dead l ≡ false → IsHeldAt formula l) → IsMade n done told.dead (ctl formula) parts family
    proposed_held formula are held = record {
      made = λ l low alive. made_at formula are l low alive (held l low alive);
      dead_ones = λ l low dead. dead_is formula are l low dead;
    }

    pub proposed_made : ((l : ℕ) → NoneGivenUp (tree_at trees l)) → (formula : Formula) → AreProposed formula transitions first second trees
        → IsMade n done told.dead (ctl formula) parts family
    proposed_made none formula are = proposed_held formula are (λ l low alive. held_none formula l (transition_in transitions l) (none l))
