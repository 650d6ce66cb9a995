-- The families that sweeps make for a formula in a program without loops are defined wherever the formula's parts are satisfied.
use Rattle.std.proofs.Common.{◌≡◌, ⊎_elim, ℕ, zero, suc, ◌<◌, ℤ, pos, ◌≤ℤ◌, Bool, true, false, ◌||◌, List, length, refl, sym, ap, subst, ◌∙◌, arith}
use Rattle.step_meaning.specs.Step.{Configuration, IsFinal}
use Rattle.linear_cons.specs.declared.affine.Affine.{Affine}
use Rattle.linear_cons.specs.Functions.{value_at}
use Rattle.decision_tree.specs.Plans.{bottom, is_defined}
use Rattle.decision_tree.specs.declared.affine_rank.AffineRank.{AffineRank}
use Rattle.decision_tree.specs.declared.reason.Pick.TheVariants.{All as Every}
use Rattle.decision_tree.specs.declared.reason.Why.TheVariants.{Atom, Both, Left, Right, Now, Dead as NeverReached, Step}
use Rattle.ctl_formula.specs.Formulas.{Ctl, truth, falsity, exit, not_exit, always, never, least, negation, both, either, next, until, weak}
use Rattle.ctl_formula.specs.Satisfaction.{Sat, UntilIn, WeakIn}
use Rattle.tree_support.specs.Certificates.{affine_ranks}
use Rattle.tree_support.specs.Setting.{Trees}
use Rattle.backward_sweeps.specs.Claiming.{claimed, reranked}
use Rattle.exact_families.proofs.Deeds.{Deed, IsMadeAt, asks, before, finishes, frees, passes, sets}
use Rattle.exact_families.proofs.Judges.{judged}
use Rattle.exact_families.proofs.Assembly.{nought_counts}
use Rattle.exact_families.proofs.Complete.{AreAfter, AtAfter, GoesAs, ahead_reaches, step_there, upward, weak_reaches}
use Rattle.exact_families.proofs.Completing.{Goes, GoesOnly, and_both, one_ahead, or_left, or_right, sat_like, stable, until_end, until_like, until_there, weak_there}
use Rattle.exact_families.proofs.Definedness.{both_defined, either_defined, made_defined}
use Rattle.exact_families.proofs.Judging.{on_yes}
use Rattle.exact_families.proofs.Making.{claim_defined, rerank_defined, rank_alike}
use Rattle.exact_families.proofs.StoreJudges.{says_true, store_says, stores_judge}
use Rattle.backward_sweeps.specs.Moving.{at_once}
use Rattle.unroll.specs.Levels.{RanksCount}
use Rattle.backward_transfer.specs.AffineShapes.{same_rank}
use Rattle.backward_sweeps.specs.Remaking.{both_of}
use Rattle.exact_families.specs.Completeness.{EachPart}

-- a program without loops: what each of its n labels does, and what follows it
pub record IsProgram (conf : ℕ → List ℤ → Configuration) (n : ℕ) (deeds : ℕ → Deed) : Type 0 where
  pub ends : deeds 0 ≡ finishes
  pub goes_on : (l : ℕ) → suc l < n → deeds (suc l) ≡ finishes → ⊥
  pub goes : (l : ℕ) (s : List ℤ) → l < n → length s ≡ 16 → GoesAs conf l (deeds l) s
  pub after : (l : ℕ) → l < n → AreAfter n l (deeds l)
  pub stores : (l : ℕ) (s : List ℤ) → (conf l s).store ≡ s

-- the family is the one that is made of those of the parts; where no store is it claims all
pub record IsMade (n : ℕ) (deeds : ℕ → Deed) (dead : ℕ → Bool) (formula : Ctl) (parts : ℕ → Trees AffineRank) (family : Trees AffineRank) : Type 0 where
  pub made : (l : ℕ) → l < n → dead l ≡ false → IsMadeAt formula deeds parts family l
  pub dead_ones : (l : ℕ) → l < n → dead l ≡ true → family l ≡ at_once NeverReached

module _ (conf : ℕ → List ℤ → Configuration) (n : ℕ) (deeds : ℕ → Deed) (dead : ℕ → Bool) (program : IsProgram conf n deeds) where
  abbrev Made : Ctl → (ℕ → Trees AffineRank) → Trees AffineRank → Type 0
  Made formula parts family = IsMade n deeds dead formula parts family

  abbrev Holds : Trees AffineRank → ℕ → List ℤ → Type 0
  Holds trees l s = is_defined (judged (store_says s) (trees l)) ≡ true

  -- at a label where no store is all is claimed
  alive : (formula : Ctl) (parts : ℕ → Trees AffineRank) (family : Trees AffineRank) → Made formula parts family → (l : ℕ) (s : List ℤ) → l < n → (IsMadeAt formula deeds parts family l → Holds family l s) → Holds family l s
  alive formula parts family is l s low own = at (dead l) refl
    where
      at : (t : Bool) → dead l ≡ t → Holds family l s
      at true none = ap (λ t. is_defined (judged (store_says s) t)) (is.dead_ones l low none)
      at false some = own (is.made l low some)

  end_goes : (s : List ℤ) → 0 < n → length s ≡ 16 → IsFinal (conf 0 s) × Goes (conf 0 s) (conf 0 s) × GoesOnly (conf 0 s) (conf 0 s)
  end_goes s low long = subst (λ (d : Deed). GoesAs conf 0 d s) program.ends (program.goes 0 s low long)

  not_final_by : (l : ℕ) (deed : Deed) (s : List ℤ) → (deed ≡ finishes → ⊥) → GoesAs conf l deed s → IsFinal (conf l s) → ⊥
  not_final_by l finishes s live goes final = live refl
  not_final_by l (sets x by target) s live goes final = goes.0 final
  not_final_by l (passes target) s live goes final = goes.0 final
  not_final_by l (asks holds fails then_to else_to) s live goes final = goes.0 final
  not_final_by l (frees then_to else_to) s live goes final = goes.0 final

  not_final : (l : ℕ) (s : List ℤ) → suc l < n → length s ≡ 16 → IsFinal (conf (suc l) s) → ⊥
  not_final l s low long = not_final_by (suc l) (deeds (suc l)) s (program.goes_on l low) (program.goes (suc l) s low long)

  at_after : (l : ℕ) (deed : Deed) (P : ℕ → Type 0) → AreAfter n l deed → ((t : ℕ) → t < n → P t) → AtAfter deed P
  at_after l finishes P on each = tt
  at_after l (sets x by target) P on each = each target on.0
  at_after l (passes target) P on each = each target on.0
  at_after l (asks holds fails then_to else_to) P on each = (each then_to on.0.0, each else_to on.1.0)
  at_after l (frees then_to else_to) P on each = (each then_to on.0.0, each else_to on.1.0)

  map_after : (deed : Deed) (P Q : ℕ → Type 0) → ((t : ℕ) → P t → Q t) → AtAfter deed P → AtAfter deed Q
  map_after finishes P Q more own = tt
  map_after (sets x by target) P Q more own = more target own
  map_after (passes target) P Q more own = more target own
  map_after (asks holds fails then_to else_to) P Q more own = (more then_to own.0, more else_to own.1)
  map_after (frees then_to else_to) P Q more own = (more then_to own.0, more else_to own.1)

  abbrev pub Complete : Ctl → Trees AffineRank → Type 0
  Complete f family = (l : ℕ) (s : List ℤ) → l < n → length s ≡ 16 → Sat f (conf l s) → Holds family l s

  -- ---- next

  next_complete : (all : Bool) (f : Ctl) (parts : ℕ → Trees AffineRank) (family : Trees AffineRank) → Made (next all f) parts family → Complete f (parts 0) → Complete (next all f) family
  next_complete all f parts family is part zero s low long own =
      alive (next all f) parts family is 0 s low
      (λ made. ap (λ t. is_defined (judged (store_says s) t)) made ∙ claim_defined (store_says s) Now (parts 0 0)
      ∙ stable (is_defined (judged (store_says s) (parts 0 0)))
      (λ none. let goes = end_goes s low long in one_ahead all (Sat f) (sat_like f) (conf 0 s) (conf 0 s) goes.1 goes.2 own (λ good. none (part 0 s low long good))))
  next_complete all f parts family is part (suc l) s low long own =
      let trees : Trees AffineRank = λ target. reranked (parts 0 target) in
      alive (next all f) parts family is (suc l) s low
      (λ made. ap (λ t. is_defined (judged (store_says s) t)) made
      ∙ stable (is_defined (judged (store_says s) (before all (deeds (suc l)) trees)))
      (step_there conf all trees (λ target. nought_counts (parts 0 target)) (Sat f) (suc l) (deeds (suc l)) s long (program.goes (suc l) s low long)
      (at_after (suc l) (deeds (suc l)) (λ t. (s : List ℤ) → length s ≡ 16 → Sat f (conf t s) → Holds trees t s) (program.after (suc l) low)
      (λ t t_low u u_long good. rerank_defined (store_says u) (parts 0 t) ∙ part t u t_low u_long good))
      (program.goes_on l low) (ahead_reaches all (conf (suc l) s) (Sat f) (sat_like f) own)))

  -- ---- until

  module _ (all : Bool) (f g : Ctl) (parts : ℕ → Trees AffineRank) (family : Trees AffineRank) (counts : (l : ℕ) → RanksCount (family l))
      (first : Complete f (parts 0)) (second : Complete g (parts 1)) where
    abbrev kept : ℕ → List ℤ → Bool
    kept l s = is_defined (judged (store_says s) (reranked (parts 0 l)))

    abbrev met : ℕ → List ℤ → Bool
    met l s = is_defined (judged (store_says s) (claimed Now (parts 1 l)))

    of_keep : (l : ℕ) (s : List ℤ) → l < n → length s ≡ 16 → Sat f (conf l s) → kept l s ≡ true
    of_keep l s low long own = rerank_defined (store_says s) (parts 0 l) ∙ first l s low long own

    of_goal : (l : ℕ) (s : List ℤ) → l < n → length s ≡ 16 → Sat g (conf l s) → met l s ≡ true
    of_goal l s low long own = claim_defined (store_says s) Now (parts 1 l) ∙ second l s low long own

    abbrev UntilAt : ℕ → Type 0
    UntilAt l = (s : List ℤ) → length s ≡ 16 → (k : ℕ) → UntilIn k all (Sat f) (Sat g) (conf l s) → Holds family l s

    until_start : 0 < n → Made (until all f g) parts family → UntilAt 0
    until_start low is s long k own =
        alive (until all f g) parts family is 0 s low
        (λ made. ap (λ t. is_defined (judged (store_says s) t)) made
        ∙ stable (met 0 s)
        (λ none. let goes = end_goes s low long in until_end all (Sat f) (Sat g) (sat_like f) (sat_like g) (conf 0 s) goes.1 goes.2 k own (λ good. none (of_goal 0 s low long good))))

    until_step : Made (until all f g) parts family → (l : ℕ) → suc l < n → AtAfter (deeds (suc l)) UntilAt → UntilAt (suc l)
    until_step is l low later s long k own =
        alive (until all f g) parts family is (suc l) s low
        (λ made. ap (λ t. is_defined (judged (store_says s) t)) made
        ∙ made_defined same_rank rank_alike (store_says s) (stores_judge s) affine_ranks.where_greater affine_ranks.greater_fits (claimed Now (parts 1 (suc l))) (reranked (parts 0 (suc l)))
        (before all (deeds (suc l)) family)
        ∙ until_there all (Sat f) (Sat g) (conf (suc l) s) (met (suc l) s) (kept (suc l) s) (is_defined (judged (store_says s) (before all (deeds (suc l)) family)))
        (of_goal (suc l) s low long) (of_keep (suc l) s low long)
        (λ m ahead. step_there conf all family counts (λ d. UntilIn m all (Sat f) (Sat g) d) (suc l) (deeds (suc l)) s long (program.goes (suc l) s low long)
        (map_after (deeds (suc l)) UntilAt (λ t. (u : List ℤ) → length u ≡ 16 → UntilIn m all (Sat f) (Sat g) (conf t u) → Holds family t u) (λ t at u u_long good. at u u_long m good) later)
        (program.goes_on l low) (ahead_reaches all (conf (suc l) s) (λ d. UntilIn m all (Sat f) (Sat g) d) (until_like all (Sat f) (Sat g) (sat_like f) (sat_like g) m) ahead))
        k own)

    until_complete : Made (until all f g) parts family → Complete (until all f g) family
    until_complete is l s low long own =
        stable (is_defined (judged (store_says s) (family l)))
        (λ none. own (λ some. none
        (upward n deeds program.after UntilAt (until_start (omega (arith, low)) is) (until_step is) l low s long some.0 some.1)))

    -- ---- weak until

    abbrev WeakAt : ℕ → Type 0
    WeakAt l = (s : List ℤ) → length s ≡ 16 → ((k : ℕ) → WeakIn k all (Sat f) (Sat g) (conf l s)) → Holds family l s

    weak_start : 0 < n → Made (weak all f g) parts family → WeakAt 0
    weak_start low is s long own =
        alive (weak all f g) parts family is 0 s low
        (λ made. ap (λ t. is_defined (judged (store_says s) t)) made
        ∙ either_defined same_rank rank_alike (store_says s) (stores_judge s) affine_ranks.where_greater affine_ranks.greater_fits (claimed Now (parts 1 0)) (claimed (Step Every) (reranked (parts 0 0)))
        ∙ stable (met 0 s || is_defined (judged (store_says s) (claimed (Step Every) (reranked (parts 0 0)))))
        (λ none. own 1 (λ some. ⊎_elim
        (λ good. none (or_left (met 0 s) _ (of_goal 0 s low long good)))
        (λ both. none (or_right (met 0 s) _ (claim_defined (store_says s) (Step Every) (reranked (parts 0 0)) ∙ of_keep 0 s low long both.0))) some)))

    weak_step : Made (weak all f g) parts family → (l : ℕ) → suc l < n → AtAfter (deeds (suc l)) WeakAt → WeakAt (suc l)
    weak_step is l low later s long own =
        alive (weak all f g) parts family is (suc l) s low
        (λ made. ap (λ t. is_defined (judged (store_says s) t)) made
        ∙ made_defined same_rank rank_alike (store_says s) (stores_judge s) affine_ranks.where_greater affine_ranks.greater_fits (claimed Now (parts 1 (suc l))) (reranked (parts 0 (suc l)))
        (before all (deeds (suc l)) family)
        ∙ weak_there all (Sat f) (Sat g) (conf (suc l) s) (met (suc l) s) (kept (suc l) s) (is_defined (judged (store_says s) (before all (deeds (suc l)) family)))
        (of_goal (suc l) s low long) (of_keep (suc l) s low long)
        (λ ahead. step_there conf all family counts (λ d. (k : ℕ) → WeakIn k all (Sat f) (Sat g) d) (suc l) (deeds (suc l)) s long (program.goes (suc l) s low long)
        later (program.goes_on l low) (weak_reaches all (Sat f) (Sat g) (sat_like f) (sat_like g) (conf (suc l) s) ahead))
        own)

    weak_complete : Made (weak all f g) parts family → Complete (weak all f g) family
    weak_complete is l s low long own = upward n deeds program.after WeakAt (weak_start (omega (arith, low)) is) (weak_step is) l low s long own

  -- ---- formulas

  module _ (parts : ℕ → Trees AffineRank) (family : Trees AffineRank) (counts : (l : ℕ) → RanksCount (family l)) where
    exit_complete : Made exit parts family → Complete exit family
    exit_complete is zero s low long own = alive exit parts family is 0 s low (λ made. ap (λ t. is_defined (judged (store_says s) t)) made)
    exit_complete is (suc l) s low long own = absurd (not_final l s low long own)

    not_exit_complete : Made not_exit parts family → Complete not_exit family
    not_exit_complete is zero s low long own = absurd (own (end_goes s low long).0)
    not_exit_complete is (suc l) s low long own =
        alive not_exit parts family is (suc l) s low (λ made. ap (λ t. is_defined (judged (store_says s) t)) made)

    -- where the parts are defined wherever they are satisfied, so is the whole
    pub complete : (formula : Ctl) → Made formula parts family → EachPart Complete formula parts → Complete formula family
    complete truth is each l s low long own = alive truth parts family is l s low (λ made. ap (λ t. is_defined (judged (store_says s) t)) made)
    complete always is each l s low long own = alive always parts family is l s low (λ made. ap (λ t. is_defined (judged (store_says s) t)) made)
    complete falsity is each l s low long own = absurd own
    complete never is each l s low long own = absurd own
    complete exit is each l s low long own = exit_complete is l s low long own
    complete not_exit is each l s low long own = not_exit_complete is l s low long own
    complete (least a) is each l s low long own =
        alive (least a) parts family is l s low
        (λ made. ap (λ t. is_defined (judged (store_says s) t)) made.2
        ∙ ap is_defined (on_yes (store_says s) made.0 (at_once Atom) bottom
        (says_true s made.0.affine (subst (λ (b : Affine). pos 0 ≤ℤ value_at b s) (sym made.1) (subst (λ t. pos 0 ≤ℤ value_at a t) (program.stores l s) own)))))
    complete (negation f) is each l s low long own = absurd each
    complete (both f g) is each l s low long own =
        alive (both f g) parts family is l s low
        (λ made. ap (λ t. is_defined (judged (store_says s) t)) made
        ∙ claim_defined (store_says s) Both (both_of (reranked (parts 0 l)) (reranked (parts 1 l)))
        ∙ both_defined same_rank rank_alike (store_says s) (stores_judge s) affine_ranks.where_greater affine_ranks.greater_fits (reranked (parts 0 l)) (reranked (parts 1 l))
        ∙ and_both _ _ (rerank_defined (store_says s) (parts 0 l) ∙ each.0 l s low long own.0) (rerank_defined (store_says s) (parts 1 l) ∙ each.1 l s low long own.1))
    complete (either f g) is each l s low long own =
        alive (either f g) parts family is l s low
        (λ made. ap (λ t. is_defined (judged (store_says s) t)) made
        ∙ either_defined same_rank rank_alike (store_says s) (stores_judge s) affine_ranks.where_greater affine_ranks.greater_fits (claimed Left (parts 0 l)) (claimed Right (parts 1 l))
        ∙ stable (is_defined (judged (store_says s) (claimed Left (parts 0 l))) || is_defined (judged (store_says s) (claimed Right (parts 1 l))))
        (λ none. own (λ some. ⊎_elim
        (λ here. none (or_left _ _ (claim_defined (store_says s) Left (parts 0 l) ∙ each.0 l s low long here)))
        (λ there. none (or_right _ _ (claim_defined (store_says s) Right (parts 1 l) ∙ each.1 l s low long there))) some)))
    complete (next all f) is each l s low long own = next_complete all f parts family is each l s low long own
    complete (until all f g) is each l s low long own = until_complete all f g parts family counts each.0 each.1 is l s low long own
    complete (weak all f g) is each l s low long own = weak_complete all f g parts family counts each.0 each.1 is l s low long own
