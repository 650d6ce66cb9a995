-- What holds of each row and each rank of all families that sweeps make for a formula: for bounds on numbers, and for ranks as numbers of steps.
use Rattle.std.specs.Prelude.{⊤}
use Rattle.std.proofs.Common.{◌≡◌, ℕ, zero, suc, ◌<◌, Bool, true, false, refl, sym, subst, arith}
use Rattle.linear_cons.specs.declared.row.Row.{Row}
use Rattle.decision_tree.specs.Plans.{Plan, bottom, branch, leaf}
use Rattle.decision_tree.specs.declared.affine_rank.AffineRank.{AffineRank}
use Rattle.decision_tree.specs.declared.reason.Pick.TheVariants.{All as Every}
use Rattle.decision_tree.specs.declared.reason.Why.{Why}
use Rattle.decision_tree.specs.declared.reason.Why.TheVariants.{Atom, Both, Dead as NeverReached, Left, Right, Now, Step}
use Rattle.ctl_formula.specs.Formulas.{Ctl, truth, falsity, exit, not_exit, always, never, least, negation, both, either, next, until, weak}
use Rattle.tree_unify.specs.Shapes.{leaf_met}
use Rattle.tree_unify.specs.declared.join.Join.TheVariants.{Later}
use Rattle.tree_support.specs.Certificates.{affine_ranks}
use Rattle.tree_support.specs.Setting.{Trees}
use Rattle.backward_sweeps.specs.Claiming.{claimed, reranked}
use Rattle.exact_families.proofs.Deeds.{Deed, IsMadeAt, asks, before, finishes, frees, passes, sets, tree_made}
use Rattle.exact_families.specs.Narrowness.{NoValue}
use Rattle.exact_families.proofs.Bounds.{EachAre, RanksAre, RowsAre, Suits, before_each, claimed_each, made_each, meet_each, or_each, ranks_only, ranks_rows, reranked_each}
use Rattle.exact_families.proofs.Complete.{AreAfter, AtAfter, upward}
use Rattle.exact_families.proofs.Whole.{IsMade}
use Rattle.backward_sweeps.specs.Moving.{nought, at_once}
use Rattle.backward_transfer.specs.AffineShapes.{same_rank}
use Rattle.backward_sweeps.specs.Remaking.{both_of, either_of, made}
use Rattle.exact_families.specs.Completeness.{EachPart}

module _ (n : ℕ) (deeds : ℕ → Deed) (dead : ℕ → Bool) (after : (l : ℕ) → l < n → AreAfter n l (deeds l))
    (P : ℕ → Row → Type 0) (Q Behind : ℕ → AffineRank → Type 0)
    (suits : (l : ℕ) → l < n → Suits P Q Behind l (deeds l)) (fresh : (l : ℕ) → Q l nought)
    (more : (l : ℕ) (rank : AffineRank) → Behind l rank → Q l (affine_ranks.one_more rank))
    (met : (l : ℕ) (why other : Why) (rank next : AffineRank) → Behind l rank → Behind l next
    → RanksAre (P l) (Behind l) (leaf_met same_rank affine_ranks.where_greater affine_ranks.greater_fits Later (leaf why rank) (leaf other next))) where
  -- each row of an atom is such everywhere
  abbrev pub AtomIs : Ctl → Type 0
  AtomIs (least a) = (l : ℕ) → l < n → (row : Row) → row.affine ≡ a → P l row
  AtomIs f = ⊤

  abbrev pub At : Trees AffineRank → ℕ → Type 0
  At family l = EachAre (P l) (Q l) (family l)

  abbrev pub AreBounded : Trees AffineRank → Type 0
  AreBounded family = (l : ℕ) → l < n → At family l

  -- of the rows alone
  abbrev pub HaveRows : Trees AffineRank → Type 0
  HaveRows family = (l : ℕ) → l < n → RowsAre (P l) (family l)

  pub is_at : (family : Trees AffineRank) (l : ℕ) (plan : Plan AffineRank) → EachAre (P l) (Q l) plan → family l ≡ plan → At family l
  is_at family l plan own is = subst (λ (t : Plan AffineRank). EachAre (P l) (Q l) t) (sym is) own

  pub all_after : (l : ℕ) (deed : Deed) (Good : ℕ → Type 0) → AreAfter n l deed → ((t : ℕ) → t < n → Good t) → AtAfter deed Good
  all_after l finishes Good on each = tt
  all_after l (sets x by target) Good on each = each target on.0
  all_after l (passes target) Good on each = each target on.0
  all_after l (asks holds fails then_to else_to) Good on each = (each then_to on.0.0, each else_to on.1.0)
  all_after l (frees then_to else_to) Good on each = (each then_to on.0.0, each else_to on.1.0)

  after_more : (deed : Deed) (Good More : ℕ → Type 0) → ((t : ℕ) → Good t → More t) → AtAfter deed Good → AtAfter deed More
  after_more finishes Good More more each = tt
  after_more (sets x by target) Good More more each = more target each
  after_more (passes target) Good More more each = more target each
  after_more (asks holds fails then_to else_to) Good More more each = (more then_to each.0, more else_to each.1)
  after_more (frees then_to else_to) Good More more each = (more then_to each.0, more else_to each.1)

  pub anew : (why : Why) → NoValue why → (family : Trees AffineRank) → HaveRows family → (l : ℕ) → l < n → EachAre (P l) (Q l) (claimed why (family l))
  anew why plain family own l low = claimed_each (P l) (Q l) (fresh l) why plain (family l) (own l low)

  pub again : (family : Trees AffineRank) → HaveRows family → (l : ℕ) → l < n → RanksAre (P l) (Q l) (reranked (family l))
  again family own l low = reranked_each (P l) (Q l) (fresh l) (family l) (own l low)

  pub keeping : (family : Trees AffineRank) → HaveRows family → (l : ℕ) → l < n → RowsAre (P l) (reranked (family l))
  keeping family own l low = ranks_rows (P l) (Q l) (reranked (family l)) (again family own l low)

  -- the targets' trees as they stand behind the step
  abbrev pub AreBehind : Trees AffineRank → ℕ → Type 0
  AreBehind trees l = AtAfter (deeds l) (λ target. RanksAre (P target) (Q target) (trees target))

  pub behind_at : (family : Trees AffineRank) (l : ℕ) → AtAfter (deeds l) (At family) → AreBehind family l
  behind_at family l each = after_more (deeds l) (At family) (λ target. RanksAre (P target) (Q target) (family target))
      (λ target own. ranks_only (P target) (Q target) (family target) own) each

  pub behind_again : (part : Trees AffineRank) → HaveRows part → (l : ℕ) → l < n → AreBehind (λ target. reranked (part target)) l
  behind_again part own l low =
      all_after l (deeds l) (λ target. RanksAre (P target) (Q target) (reranked (part target))) (after l low) (λ t t_low. again part own t t_low)

  pub stepped_at : (all : Bool) (trees : Trees AffineRank) (l : ℕ) → l < n → AreBehind trees l → EachAre (P l) (Q l) (before all (deeds l) trees)
  stepped_at all trees l low each = before_each P Q Behind l (more l) (met l) all (deeds l) trees (suits l low) each

  pub swept_at : (all : Bool) (parts : ℕ → Trees AffineRank) (family : Trees AffineRank) → HaveRows (parts 0) → HaveRows (parts 1) → (l : ℕ) → l < n
      → AtAfter (deeds l) (At family)
      → EachAre (P l) (Q l) (made (claimed Now (parts 1 l)) (reranked (parts 0 l)) (before all (deeds l) family))
  swept_at all parts family first second l low each =
      made_each (P l) (λ why rank. NoValue why × Q l rank) (claimed Now (parts 1 l)) (reranked (parts 0 l)) (before all (deeds l) family)
      (anew Now tt (parts 1) second l low) (keeping (parts 0) first l low) (stepped_at all family l low (behind_at family l each))

  pub started_at : (parts : ℕ → Trees AffineRank) → HaveRows (parts 0) → HaveRows (parts 1) → (l : ℕ) → l < n
      → EachAre (P l) (Q l) (either_of (claimed Now (parts 1 l)) (claimed (Step Every) (reranked (parts 0 l))))
  started_at parts first second l low =
      or_each (P l) (λ why rank. NoValue why × Q l rank) (claimed Now (parts 1 l)) (claimed (Step Every) (reranked (parts 0 l)))
      (anew Now tt (parts 1) second l low) (claimed_each (P l) (Q l) (fresh l) (Step Every) tt (reranked (parts 0 l)) (keeping (parts 0) first l low))

  -- the tree that is made at a label, by those of the labels behind it
  module _ (parts : ℕ → Trees AffineRank) (family : Trees AffineRank) where
    exit_at : (l : ℕ) → EachAre (P l) (Q l) (tree_made exit deeds parts family l)
    exit_at zero = (tt, fresh 0)
    exit_at (suc l) = tt

    not_exit_at : (l : ℕ) → EachAre (P l) (Q l) (tree_made not_exit deeds parts family l)
    not_exit_at zero = tt
    not_exit_at (suc l) = (tt, fresh (suc l))

    next_at : (all : Bool) (f : Ctl) → HaveRows (parts 0) → (l : ℕ) → l < n → EachAre (P l) (Q l) (tree_made (next all f) deeds parts family l)
    next_at all f own zero low = anew Now tt (parts 0) own 0 low
    next_at all f own (suc l) low =
        stepped_at all (λ target. reranked (parts 0 target)) (suc l) low (behind_again (parts 0) own (suc l) low)

    until_at : (all : Bool) (f g : Ctl) → HaveRows (parts 0) → HaveRows (parts 1) → (l : ℕ) → l < n → AtAfter (deeds l) (At family)
        → EachAre (P l) (Q l) (tree_made (until all f g) deeds parts family l)
    until_at all f g first second zero low each = anew Now tt (parts 1) second 0 low
    until_at all f g first second (suc l) low each = swept_at all parts family first second (suc l) low each

    weak_at : (all : Bool) (f g : Ctl) → HaveRows (parts 0) → HaveRows (parts 1) → (l : ℕ) → l < n → AtAfter (deeds l) (At family)
        → EachAre (P l) (Q l) (tree_made (weak all f g) deeds parts family l)
    weak_at all f g first second zero low each = started_at parts first second 0 low
    weak_at all f g first second (suc l) low each = swept_at all parts family first second (suc l) low each

    -- it is such, if those of an until and a weak until behind it are
    pub label_at : (formula : Ctl) → AtomIs formula → EachPart (λ f. HaveRows) formula parts → (l : ℕ) → l < n → AtAfter (deeds l) (At family)
        → IsMadeAt formula deeds parts family l → At family l
    label_at truth atom each l low behind made = is_at family l (at_once Atom) (tt, fresh l) made
    label_at always atom each l low behind made = is_at family l (at_once Atom) (tt, fresh l) made
    label_at falsity atom each l low behind made = is_at family l bottom tt made
    label_at never atom each l low behind made = is_at family l bottom tt made
    label_at exit atom each l low behind made = is_at family l (tree_made exit deeds parts family l) (exit_at l) made
    label_at not_exit atom each l low behind made = is_at family l (tree_made not_exit deeds parts family l) (not_exit_at l) made
    label_at (least a) atom each l low behind made = is_at family l (branch made.0 (at_once Atom) bottom) (atom l low made.0 made.1, (tt, fresh l), tt) made.2
    label_at (negation f) atom each l low behind made = absurd each
    label_at (both f g) atom each l low behind made =
        is_at family l (claimed Both (both_of (reranked (parts 0 l)) (reranked (parts 1 l))))
        (claimed_each (P l) (Q l) (fresh l) Both tt (both_of (reranked (parts 0 l)) (reranked (parts 1 l)))
        (meet_each (P l) (λ why rank. ⊤) (reranked (parts 0 l)) (reranked (parts 1 l)) (keeping (parts 0) each.0 l low) (keeping (parts 1) each.1 l low))) made
    label_at (either f g) atom each l low behind made =
        is_at family l (either_of (claimed Left (parts 0 l)) (claimed Right (parts 1 l)))
        (or_each (P l) (λ why rank. NoValue why × Q l rank) (claimed Left (parts 0 l)) (claimed Right (parts 1 l)) (anew Left tt (parts 0) each.0 l low)
        (anew Right tt (parts 1) each.1 l low)) made
    label_at (next all f) atom each l low behind made = is_at family l (tree_made (next all f) deeds parts family l) (next_at all f each l low) made
    label_at (until all f g) atom each l low behind made =
        is_at family l (tree_made (until all f g) deeds parts family l) (until_at all f g each.0 each.1 l low behind) made
    label_at (weak all f g) atom each l low behind made =
        is_at family l (tree_made (weak all f g) deeds parts family l) (weak_at all f g each.0 each.1 l low behind) made

    -- where no store is the tree claims at once
    dead_at : (l : ℕ) → family l ≡ at_once NeverReached → At family l
    dead_at l is = is_at family l (at_once NeverReached) (tt, fresh l) is

    -- so is each tree, of a family that is made wherever those behind are such
    pub grown : (formula : Ctl) → AtomIs formula → EachPart (λ f. HaveRows) formula parts → (deeds 0 ≡ finishes)
        → ((l : ℕ) → l < n → dead l ≡ true → family l ≡ at_once NeverReached)
        → ((l : ℕ) → l < n → dead l ≡ false → AtAfter (deeds l) (At family) → IsMadeAt formula deeds parts family l) → AreBounded family
    grown formula atom each ends none made l low =
        upward n deeds after (At family) (at 0 (omega (arith, low)) (subst (λ (d : Deed). AtAfter d (At family)) (sym ends) tt)) (λ k k_low behind. at (suc k) k_low behind) l low
      where
        at : (l : ℕ) → l < n → AtAfter (deeds l) (At family) → At family l
        at l low behind = by (dead l) refl
          where
            by : (t : Bool) → dead l ≡ t → At family l
            by true is = dead_at l (none l low is)
            by false is = label_at formula atom each l low behind (made l low is behind)

    pub bounded : (formula : Ctl) → IsMade n deeds dead formula parts family → AtomIs formula → EachPart (λ f. HaveRows) formula parts → deeds 0 ≡ finishes
        → AreBounded family
    bounded formula is atom each ends = grown formula atom each ends is.dead_ones (λ l low alive behind. is.made l low alive)
