-- The trees of a program without loops: the one at the entry, and that none has a row.
use Rattle.std.proofs.Common.{◌≡◌, ◌⊎◌, inl, inr, ℕ, zero, suc, ◌+◌, ◌*◌, pos, List, [], ◌∷◌, Some, map, refl, sym, ap, subst}
use Rattle.linear_cons.specs.declared.row.Row.{Row}
use Rattle.linear_cons.specs.Functions.{constant_of}
use Rattle.control_flow.specs.Labels.{entry_of, stray}
use Rattle.decision_tree.specs.declared.affine_rank.AffineRank.{AffineRank}
use Rattle.decision_tree.specs.declared.reason.Pick.TheVariants.{All as Every}
use Rattle.decision_tree.specs.declared.reason.Why.{Why}
use Rattle.decision_tree.specs.declared.reason.Why.TheVariants.{End, Step}
use Rattle.decision_tree.specs.Plans.{Plan, bottom, leaf, rank_of}
use Rattle.step_meaning.specs.declared.count.Count.{Count}
use Rattle.step_meaning.specs.declared.countdown.Countdown.TheVariants.{Straight, Loop}
use Rattle.step_meaning.specs.Counts.{HasNoLoop, none}
use Rattle.step_meaning.specs.Countdown.{CountsFrom, change_by, form_of}
use Rattle.linear_cons.specs.Sizes.{total_size}
use Rattle.step_meaning.specs.Syntax.{Statements, assign, skip, return, break, continue, if_else, while_loop, do_while, empty, sequence}
use Rattle.tree_support.specs.Setting.{Trees, trees_in}
use Rattle.count_down.specs.Candidates.{IsCandidate, behind, candidate_without, last_steps, most_within, nothing}
use Rattle.count_down.specs.LabelCounts.{counts_of}
use Rattle.count_down.specs.Trees.{ended, ranked}
use Rattle.count_down.proofs.CountingLaws.{entry_stands, measured_walked, stand_mapped}
use Rattle.count_down.proofs.Measured.{free_measured}
use Rattle.count_down.proofs.Settled.{trees_stand}

-- a program without loops counts no loop down
no_loop_counted : (row : Row) (p : ℕ) (s : Statements) → HasNoLoop s → CountsFrom row p s → ⊥
no_loop_counted row p (sequence (assign x v) more) free counts = no_loop_counted row (p * (1 + total_size (form_of v))) more free.1 counts.3
no_loop_counted row p (sequence (while_loop test body step) more) free counts = free.0
no_loop_counted row p (sequence skip more) free counts = counts
no_loop_counted row p (sequence return more) free counts = counts
no_loop_counted row p (sequence break more) free counts = counts
no_loop_counted row p (sequence continue more) free counts = counts
no_loop_counted row p (sequence (if_else test first second) more) free counts = counts
no_loop_counted row p (sequence (do_while body test) more) free counts = counts
no_loop_counted row p empty free counts = counts

module _ (body : Statements) (free : HasNoLoop body) where
  abbrev family : Trees AffineRank
  family = trees_in (candidate_without body)

  -- the tree of the label is so many steps; the leaf of the label promises them
  abbrev Own : ℕ → Count → Type 0
  Own l c = family l ≡ most_within c

  abbrev Promises : ℕ → Count → Type 0
  Promises l c = rank_of (family l) ≡ Some (ranked (constant_of (pos c.most)))

  weaker : (l : ℕ) (c : Count) → Own l c → Promises l c
  weaker l c is = ap rank_of is

  -- the leaf at the entry promises the most steps of a path
  entry_rank : Promises (entry_of body) (record { most = last_steps body; change = pos 0 })
  entry_rank =
      entry_stands nothing Promises Own weaker 1 0 stray body none (measured_walked nothing Promises Own weaker refl body (free_measured body free)) refl
      (stand_mapped (λ l (tree : Plan AffineRank). family l ≡ tree) most_within 1 (counts_of (change_by nothing) body none) (trees_stand (ended ∷ []) (behind body) 1 refl))

pub loopless_entry : (trees : List (Plan AffineRank)) (body : Statements) → HasNoLoop body → IsCandidate trees body
    → rank_of (trees_in trees (entry_of body)) ≡ Some (ranked (constant_of (pos (last_steps body))))
loopless_entry trees body free (Straight, counts, is) =
    subst (λ list. rank_of (trees_in list (entry_of body)) ≡ Some (ranked (constant_of (pos (last_steps body))))) (sym is) (entry_rank body free)
loopless_entry trees body free (Loop row, counts, is) = absurd (no_loop_counted row 1 body free counts.0)

-- the tree is one leaf
abbrev pub IsAlone : Plan AffineRank → Type 0
IsAlone plan = (plan ≡ bottom) ⊎ ((why : Why) × (rank : AffineRank) × (plan ≡ leaf why rank))

each_alone : (counts : List Count) (label : ℕ) → IsAlone (trees_in (map most_within counts) label)
each_alone [] label = inl refl
each_alone (c ∷ more) zero = inr (Step Every, ranked (constant_of (pos c.most)), refl)
each_alone (c ∷ more) (suc label) = each_alone more label

pub loopless_alone : (trees : List (Plan AffineRank)) (body : Statements) → HasNoLoop body → IsCandidate trees body → (label : ℕ) → IsAlone (trees_in trees label)
loopless_alone trees body free (Straight, counts, is) label = subst (λ list. IsAlone (trees_in list label)) (sym is) (own label)
  where
    own : (label : ℕ) → IsAlone (trees_in (candidate_without body) label)
    own zero = inr (End, ranked (constant_of (pos 0)), refl)
    own (suc label) = each_alone (counts_of (change_by nothing) body none) label
loopless_alone trees body free (Loop row, counts, is) label = absurd (no_loop_counted row 1 body free counts.0)
