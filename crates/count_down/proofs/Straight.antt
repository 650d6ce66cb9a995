-- The systems at the end, and at labels whose trees are constants.
use Rattle.std.proofs.Common.{◌≡◌, ℕ, ◌<◌, ◌≤◌, pos, negsuc, ◌-ℤ◌, inr, List, [], ◌++◌, All, Contains, refl, sym, subst, arith}
use Rattle.std.proofs.lemmas.Int.{ints}
use Rattle.linear_cons.specs.declared.affine.Affine.{Affine}
use Rattle.linear_cons.specs.Functions.{complement_of, constant_of}
use Rattle.linear_cons.proofs.Forms.{value_complement, value_constant}
use Rattle.step_meaning.specs.Syntax.{Statements}
use Rattle.decision_tree.specs.declared.affine_rank.AffineRank.{AffineRank}
use Rattle.decision_tree.specs.declared.reason.Why.{Why}
use Rattle.decision_tree.specs.Paths.{leaf_numbered}
use Rattle.decision_tree.specs.Plans.{leaf}
use Rattle.tree_support.specs.Certificates.{affine_ranks}
use Rattle.tree_support.specs.Arcs.{Arc, flow_of, rows_given}
use Rattle.constraint_stack.specs.Forming.{Formed}
use Rattle.tree_support.specs.Setting.{Trees}
use Rattle.constraint_stack.specs.Claims.{ClaimFits, exceeding}
use Rattle.tree_support.specs.Systems.{at_leaves, moved_by, of_leaf, region, systems, unless_less}
use Rattle.control_flow.specs.Told.{Told}
use Rattle.tree_support.proofs.Lists.{all_one}
use Rattle.count_down.specs.Blocking.{IsBlocked}
use Rattle.count_down.specs.Trees.{ended, ranked, within}
use Rattle.decision_tree.specs.Extent.{IsWhole}
use Rattle.count_down.proofs.Fitting.{natural_fits, steps_sizes}
use Rattle.count_down.proofs.Heading.{steps_less}
use Rattle.count_down.proofs.Labelled.{at, leaf_blocked, not_natural, where_alive}
use Rattle.count_down.proofs.Lining.{by_claim}
use Rattle.count_down.proofs.Stepping.{SetsPlace}

module _ (body : Statements) (told : Told) (parts : ℕ → Trees AffineRank) (family : Trees AffineRank) where
  -- what is asked at a leaf without a path
  abbrev rows_at : ℕ → List Formed
  rows_at label = rows_given (told.rows label) ++ []

  -- a number of steps is a natural
  natural : (label k : ℕ) → k ≤ 4096
      → IsBlocked (not_natural body told parts family label (ranked (constant_of (pos k))) (rows_at label))
  natural label k short =
      let last : Affine = constant_of (pos k) in
      by_claim (not_natural body told parts family label (ranked last) (rows_at label)) (complement_of last) (negsuc 0 -ℤ pos k)
      (inr (natural_fits last (steps_sizes k short), refl)) (omega (arith, ints))
      (λ store long. let own = value_complement last store in let value = value_constant (pos k) store in omega (arith, ints))

  pub end_blocked : family 0 ≡ ended → (place : ℕ) → All IsBlocked (systems (at body told parts family 0) family 0 place)
  end_blocked is place =
      where_alive IsBlocked (told.dead 0)
      (of_leaf (at body told parts family 0) (leaf_numbered (family 0) place) family 0 (region (at body told parts family 0) (family 0) 0 place))
      (subst
      (λ tree. All IsBlocked (of_leaf (at body told parts family 0) (leaf_numbered tree place) family 0 (region (at body told parts family 0) tree 0 place)))
      (sym is)
      (all_one IsBlocked (not_natural body told parts family 0 (ranked (constant_of (pos 0))) (rows_at 0)) (natural 0 0 (omega arith))))

  -- the arc leads to a tree that is a smaller number of steps
  pub record IsStep (label k : ℕ) (arc : Arc) : Type 0 where
    pub place : SetsPlace arc.sets
    pub why : Why
    pub steps : ℕ
    pub tree : family arc.target ≡ leaf why (ranked (constant_of (pos steps)))
    pub less : steps < k
    pub fits : ClaimFits affine_ranks (exceeding (ranked (constant_of (pos steps))) arc.sets (ranked (constant_of (pos k))))

  pub steps_blocked : (label k : ℕ) → family label ≡ within (constant_of (pos k)) → IsWhole (parts 0 label) → k ≤ 4096
      → ((arc : Arc) → Contains ((flow_of body told.bounds).arcs label) arc → IsStep label k arc)
      → (place : ℕ) → All IsBlocked (systems (at body told parts family label) family label place)
  steps_blocked label k is kept short each place =
      where_alive IsBlocked (told.dead label)
      (of_leaf (at body told parts family label) (leaf_numbered (family label) place) family label
      (region (at body told parts family label) (family label) label place))
      (subst
      (λ tree. All IsBlocked (of_leaf (at body told parts family label) (leaf_numbered tree place) family label
      (region (at body told parts family label) tree label place)))
      (sym is)
      (leaf_blocked body told parts family label (ranked (constant_of (pos k))) (rows_at label) kept (natural label k short)
      (λ arc inside.
      let step : IsStep label k arc = each arc inside in
      subst (λ tree. All IsBlocked (at_leaves (moved_by arc.sets) (unless_less arc.edge arc.sets (ranked (constant_of (pos k)))) tree (rows_at label ++ arc.asks)))
      (sym step.tree)
      (steps_less arc.sets step.place arc.edge (rows_at label ++ arc.asks) step.why step.steps k step.less step.fits))))
