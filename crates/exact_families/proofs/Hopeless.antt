-- Where no judge grants what is asked, all systems behind it are shut, whatever the why.
use Rattle.std.proofs.Common.{ℕ, zero, suc, ℤ, pos, Bool, true, false, cond, List, [], ◌∷◌, ◌++◌, Option, None, Some, All}
use Rattle.std.proofs.lemmas.List.Elements.{All-append}
use Rattle.linear_cons.specs.declared.affine.Affine.{Affine}
use Rattle.linear_cons.specs.Functions.{complement_of, constant_of}
use Rattle.decision_tree.specs.Plans.{Plan, bottom, branch, leaf, top}
use Rattle.decision_tree.specs.declared.affine_rank.AffineRank.{AffineRank}
use Rattle.decision_tree.specs.declared.reason.Pick.{Pick}
use Rattle.decision_tree.specs.declared.reason.Pick.TheVariants.{All as Every, Yes, No, Value}
use Rattle.decision_tree.specs.declared.reason.Why.{Why}
use Rattle.decision_tree.specs.declared.reason.Why.TheVariants.{End, Atom, Both, Left, Right, Now, Dead, Step}
use Rattle.control_flow.specs.declared.edge.Choice.{Choice}
use Rattle.control_flow.specs.declared.edge.Choice.TheVariants.{None as NoChoice, Branch, Range}
use Rattle.ctl_formula.specs.Formulas.{Ctl, truth, falsity, exit, not_exit, always, never, least, negation, both, either, next, until, weak}
use Rattle.tree_support.specs.Arcs.{Arc}
use Rattle.constraint_stack.specs.Forming.{Formed, given, minus}
use Rattle.tree_support.specs.Setting.{Setting, Trees}
use Rattle.constraint_stack.specs.Claims.{System, exceeding, unnatural}
use Rattle.tree_support.specs.Systems.{above_range, at_leaves, below_range, if_undefined, is_existential, moved_by, of_arcs, of_atom, of_both, of_end, of_keep, of_now, of_outcome, of_pick, of_rank, of_side, of_value, of_why, unedged, undefined_at, unless_less}
use Rattle.tree_support.proofs.Lists.{all_none, all_one}
use Rattle.exact_families.proofs.Judges.{Granted, IsJudge}
use Rattle.exact_families.specs.Shut.{IsShut}
use Rattle.exact_families.proofs.Shutting.{granted_left, plain_shut, shut_by}
use Rattle.exact_families.proofs.Whys.{flat_all}

abbrev pub Hopeless : List Formed → Type 0
Hopeless asks = (v : Affine → Bool) → IsJudge v → Granted v asks → ⊥

pub hopeless_more : (asks more : List Formed) → Hopeless asks → Hopeless (asks ++ more)
hopeless_more asks more none v is own = none v is (granted_left v asks more own)

module _ (moved : Affine → Formed) (ending : Plan AffineRank → List Formed → List (System AffineRank))
    (ends : (end : Plan AffineRank) (asks : List Formed) → Hopeless asks → All IsShut (ending end asks)) where
  pub leaves_hopeless : (plan : Plan AffineRank) (asks : List Formed) → Hopeless asks → All IsShut (at_leaves moved ending plan asks)
  leaves_hopeless bottom asks none = ends bottom asks none
  leaves_hopeless (top cause) asks none = ends (top cause) asks none
  leaves_hopeless (leaf why rank) asks none = ends (leaf why rank) asks none
  leaves_hopeless (branch row this that) asks none =
      All-append IsShut (at_leaves moved ending this (asks ++ moved row.affine ∷ [])) (at_leaves moved ending that (asks ++ moved (complement_of row.affine) ∷ []))
      (leaves_hopeless this (asks ++ moved row.affine ∷ []) (hopeless_more asks (moved row.affine ∷ []) none))
      (leaves_hopeless that (asks ++ moved (complement_of row.affine) ∷ []) (hopeless_more asks (moved (complement_of row.affine) ∷ []) none))

undefined_ends : (edge : ℕ) (end : Plan AffineRank) (asks : List Formed) → Hopeless asks → All IsShut (if_undefined edge end asks)
undefined_ends edge bottom asks none = plain_shut edge asks none
undefined_ends edge (top cause) asks none = plain_shut edge asks none
undefined_ends edge (leaf why rank) asks none = all_none IsShut
undefined_ends edge (branch row this that) asks none = plain_shut edge asks none

less_ends : (edge : ℕ) (sets : Option (ℕ × Affine)) (rank : AffineRank) (end : Plan AffineRank) (asks : List Formed) → Hopeless asks
    → All IsShut (unless_less edge sets rank end asks)
less_ends edge sets rank bottom asks none = plain_shut edge asks none
less_ends edge sets rank (top cause) asks none = plain_shut edge asks none
less_ends edge sets rank (branch row this that) asks none = plain_shut edge asks none
less_ends edge sets rank (leaf why other) asks none =
    all_one IsShut (record { edge = edge; asks = asks; claim = exceeding other sets rank })
    (shut_by (record { edge = edge; asks = asks; claim = exceeding other sets rank }) (λ v is own choice inside possible. none v is own))

pub undefined_hopeless : (tree : Plan AffineRank) (asks : List Formed) → Hopeless asks → All IsShut (undefined_at tree asks)
undefined_hopeless tree asks none = leaves_hopeless given (if_undefined unedged) (undefined_ends unedged) tree asks none

cond_all : (t : Bool) (xs ys : List (System AffineRank)) → All IsShut xs → All IsShut ys → All IsShut (cond t xs ys)
cond_all true xs ys first second = first
cond_all false xs ys first second = second

module _ (at : Setting AffineRank) (family : Trees AffineRank) (rank : AffineRank) (asks : List Formed) (none : Hopeless asks) where
  pub arcs_hopeless : (formula : Ctl) (arcs : List Arc) → All IsShut (of_arcs at formula family rank arcs asks)
  arcs_hopeless (next all f) arcs =
      flat_all IsShut (λ (arc : Arc). at_leaves (moved_by arc.sets) (if_undefined arc.edge) (at.parts 0 arc.target) (asks ++ arc.asks)) arcs
      (λ arc inside. leaves_hopeless (moved_by arc.sets) (if_undefined arc.edge) (undefined_ends arc.edge) (at.parts 0 arc.target) (asks ++ arc.asks) (hopeless_more asks arc.asks none))
  arcs_hopeless (until all f g) arcs =
      flat_all IsShut (λ (arc : Arc). at_leaves (moved_by arc.sets) (unless_less arc.edge arc.sets rank) (family arc.target) (asks ++ arc.asks)) arcs
      (λ arc inside. leaves_hopeless (moved_by arc.sets) (unless_less arc.edge arc.sets rank) (less_ends arc.edge arc.sets rank) (family arc.target) (asks ++ arc.asks) (hopeless_more asks arc.asks none))
  arcs_hopeless (weak all f g) arcs =
      flat_all IsShut (λ (arc : Arc). at_leaves (moved_by arc.sets) (if_undefined arc.edge) (family arc.target) (asks ++ arc.asks)) arcs
      (λ arc inside. leaves_hopeless (moved_by arc.sets) (if_undefined arc.edge) (undefined_ends arc.edge) (family arc.target) (asks ++ arc.asks) (hopeless_more asks arc.asks none))
  arcs_hopeless truth arcs = plain_shut unedged asks none
  arcs_hopeless falsity arcs = plain_shut unedged asks none
  arcs_hopeless exit arcs = plain_shut unedged asks none
  arcs_hopeless not_exit arcs = plain_shut unedged asks none
  arcs_hopeless always arcs = plain_shut unedged asks none
  arcs_hopeless never arcs = plain_shut unedged asks none
  arcs_hopeless (least a) arcs = plain_shut unedged asks none
  arcs_hopeless (negation f) arcs = plain_shut unedged asks none
  arcs_hopeless (both f g) arcs = plain_shut unedged asks none
  arcs_hopeless (either f g) arcs = plain_shut unedged asks none

  outcome_hopeless : (choice : Choice) (outcome : Bool) (label : ℕ) → All IsShut (of_outcome at choice outcome family rank label asks)
  outcome_hopeless Branch outcome label = arcs_hopeless at.formula (at.flow.arcs_of label outcome)
  outcome_hopeless NoChoice outcome label = plain_shut unedged asks none
  outcome_hopeless (Range lo hi) outcome label = plain_shut unedged asks none

  below_hopeless : (lo : Option ℤ) (a : Affine) → All IsShut (below_range at lo a asks)
  below_hopeless None a = all_none IsShut
  below_hopeless (Some lo) a = plain_shut unedged _ (hopeless_more asks (minus (minus (given (constant_of lo)) (given a)) (given (constant_of (pos 1))) ∷ []) none)

  above_hopeless : (hi : Option ℤ) (a : Affine) → All IsShut (above_range at hi a asks)
  above_hopeless None a = all_none IsShut
  above_hopeless (Some hi) a = plain_shut unedged _ (hopeless_more asks (minus (minus (given a) (given (constant_of hi))) (given (constant_of (pos 1))) ∷ []) none)

  value_hopeless : (choice : Choice) (a : Affine) (label : ℕ) → All IsShut (of_value at choice a family rank label asks)
  value_hopeless (Range lo hi) a label =
      All-append IsShut (below_range at lo a asks) (above_range at hi a asks ++ of_arcs at at.formula family rank (at.flow.arcs_with label a) asks) (below_hopeless lo a)
      (All-append IsShut (above_range at hi a asks) (of_arcs at at.formula family rank (at.flow.arcs_with label a) asks) (above_hopeless hi a) (arcs_hopeless at.formula (at.flow.arcs_with label a)))
  value_hopeless NoChoice a label = plain_shut unedged asks none
  value_hopeless Branch a label = plain_shut unedged asks none

  pub pick_hopeless : (pick : Pick) (label : ℕ) → All IsShut (of_pick at pick family rank label asks)
  pick_hopeless Every label = arcs_hopeless at.formula (at.flow.arcs label)
  pick_hopeless Yes label = cond_all (is_existential at at.formula) _ _ (outcome_hopeless (at.flow.choice label) true label) (plain_shut unedged asks none)
  pick_hopeless No label = cond_all (is_existential at at.formula) _ _ (outcome_hopeless (at.flow.choice label) false label) (plain_shut unedged asks none)
  pick_hopeless (Value a) label = cond_all (is_existential at at.formula) _ _ (value_hopeless (at.flow.choice label) a label) (plain_shut unedged asks none)

  pub keep_hopeless : (formula : Ctl) (label : ℕ) → All IsShut (of_keep at formula label asks)
  keep_hopeless (until all f g) label = undefined_hopeless (at.parts 0 label) asks none
  keep_hopeless (weak all f g) label = undefined_hopeless (at.parts 0 label) asks none
  keep_hopeless (next all f) label = all_none IsShut
  keep_hopeless truth label = all_none IsShut
  keep_hopeless falsity label = all_none IsShut
  keep_hopeless exit label = all_none IsShut
  keep_hopeless not_exit label = all_none IsShut
  keep_hopeless always label = all_none IsShut
  keep_hopeless never label = all_none IsShut
  keep_hopeless (least a) label = all_none IsShut
  keep_hopeless (negation f) label = all_none IsShut
  keep_hopeless (both f g) label = all_none IsShut
  keep_hopeless (either f g) label = all_none IsShut

  pub end_hopeless : (formula : Ctl) (label : ℕ) → All IsShut (of_end at formula label asks)
  end_hopeless exit zero = all_none IsShut
  end_hopeless exit (suc l) = plain_shut unedged asks none
  end_hopeless (until all f g) label = end_until g label
    where
      end_until : (g : Ctl) (label : ℕ) → All IsShut (of_end at (until all f g) label asks)
      end_until exit zero = all_none IsShut
      end_until exit (suc l) = plain_shut unedged asks none
      end_until truth label = plain_shut unedged asks none
      end_until falsity label = plain_shut unedged asks none
      end_until not_exit label = plain_shut unedged asks none
      end_until always label = plain_shut unedged asks none
      end_until never label = plain_shut unedged asks none
      end_until (least a) label = plain_shut unedged asks none
      end_until (negation h) label = plain_shut unedged asks none
      end_until (both h k) label = plain_shut unedged asks none
      end_until (either h k) label = plain_shut unedged asks none
      end_until (next t h) label = plain_shut unedged asks none
      end_until (until t h k) label = plain_shut unedged asks none
      end_until (weak t h k) label = plain_shut unedged asks none
  end_hopeless truth label = plain_shut unedged asks none
  end_hopeless falsity label = plain_shut unedged asks none
  end_hopeless not_exit label = plain_shut unedged asks none
  end_hopeless always label = plain_shut unedged asks none
  end_hopeless never label = plain_shut unedged asks none
  end_hopeless (least a) label = plain_shut unedged asks none
  end_hopeless (negation h) label = plain_shut unedged asks none
  end_hopeless (both h k) label = plain_shut unedged asks none
  end_hopeless (either h k) label = plain_shut unedged asks none
  end_hopeless (next t h) label = plain_shut unedged asks none
  end_hopeless (weak t h k) label = plain_shut unedged asks none

  pub atom_hopeless : (formula : Ctl) (label : ℕ) → All IsShut (of_atom at formula label asks)
  atom_hopeless truth label = all_none IsShut
  atom_hopeless falsity label = plain_shut unedged asks none
  atom_hopeless exit label = plain_shut unedged asks none
  atom_hopeless not_exit zero = plain_shut unedged asks none
  atom_hopeless not_exit (suc l) = all_none IsShut
  atom_hopeless always label = all_none IsShut
  atom_hopeless never label = plain_shut unedged asks none
  atom_hopeless (least a) label = plain_shut unedged _ (hopeless_more asks (given (complement_of a) ∷ []) none)
  atom_hopeless (negation h) label = plain_shut unedged asks none
  atom_hopeless (both h k) label = plain_shut unedged asks none
  atom_hopeless (either h k) label = plain_shut unedged asks none
  atom_hopeless (next t h) label = plain_shut unedged asks none
  atom_hopeless (until t h k) label = plain_shut unedged asks none
  atom_hopeless (weak t h k) label = plain_shut unedged asks none

  pub both_hopeless : (formula : Ctl) (label : ℕ) → All IsShut (of_both at formula label asks)
  both_hopeless truth label = plain_shut unedged asks none
  both_hopeless falsity label = plain_shut unedged asks none
  both_hopeless exit label = plain_shut unedged asks none
  both_hopeless not_exit label = plain_shut unedged asks none
  both_hopeless always label = plain_shut unedged asks none
  both_hopeless never label = plain_shut unedged asks none
  both_hopeless (least a) label = plain_shut unedged asks none
  both_hopeless (negation h) label = plain_shut unedged asks none
  both_hopeless (both h k) label =
      All-append IsShut (undefined_at (at.parts 0 label) asks) (undefined_at (at.parts 1 label) asks) (undefined_hopeless (at.parts 0 label) asks none) (undefined_hopeless (at.parts 1 label) asks none)
  both_hopeless (either h k) label = plain_shut unedged asks none
  both_hopeless (next t h) label = plain_shut unedged asks none
  both_hopeless (until t h k) label = plain_shut unedged asks none
  both_hopeless (weak t h k) label = plain_shut unedged asks none

  pub side_hopeless : (formula : Ctl) (side label : ℕ) → All IsShut (of_side at formula side label asks)
  side_hopeless truth side label = plain_shut unedged asks none
  side_hopeless falsity side label = plain_shut unedged asks none
  side_hopeless exit side label = plain_shut unedged asks none
  side_hopeless not_exit side label = plain_shut unedged asks none
  side_hopeless always side label = plain_shut unedged asks none
  side_hopeless never side label = plain_shut unedged asks none
  side_hopeless (least a) side label = plain_shut unedged asks none
  side_hopeless (negation h) side label = plain_shut unedged asks none
  side_hopeless (both h k) side label = plain_shut unedged asks none
  side_hopeless (either h k) side label = undefined_hopeless (at.parts side label) asks none
  side_hopeless (next t h) side label = plain_shut unedged asks none
  side_hopeless (until t h k) side label = plain_shut unedged asks none
  side_hopeless (weak t h k) side label = plain_shut unedged asks none

  pub now_hopeless : (formula : Ctl) (label : ℕ) → All IsShut (of_now at formula label asks)
  now_hopeless truth label = plain_shut unedged asks none
  now_hopeless falsity label = plain_shut unedged asks none
  now_hopeless exit label = plain_shut unedged asks none
  now_hopeless not_exit label = plain_shut unedged asks none
  now_hopeless always label = plain_shut unedged asks none
  now_hopeless never label = plain_shut unedged asks none
  now_hopeless (least a) label = plain_shut unedged asks none
  now_hopeless (negation h) label = plain_shut unedged asks none
  now_hopeless (both h k) label = plain_shut unedged asks none
  now_hopeless (either h k) label = plain_shut unedged asks none
  now_hopeless (next t h) zero = undefined_hopeless (at.parts 0 0) asks none
  now_hopeless (next t h) (suc l) = plain_shut unedged asks none
  now_hopeless (until t h k) label = undefined_hopeless (at.parts 1 label) asks none
  now_hopeless (weak t h k) label = undefined_hopeless (at.parts 1 label) asks none

  -- whatever the why
  pub why_hopeless : (why : Why) (label : ℕ) → All IsShut (of_why at why family rank label asks)
  why_hopeless End label = end_hopeless at.formula label
  why_hopeless Atom label = atom_hopeless at.formula label
  why_hopeless Both label = both_hopeless at.formula label
  why_hopeless Left label = side_hopeless at.formula 0 label
  why_hopeless Right label = side_hopeless at.formula 1 label
  why_hopeless Now label = now_hopeless at.formula label
  why_hopeless Dead label = plain_shut unedged asks none
  why_hopeless (Step pick) label =
      All-append IsShut (of_keep at at.formula label asks) (of_pick at pick family rank label asks) (keep_hopeless at.formula label) (pick_hopeless pick label)

  pub rank_hopeless : (formula : Ctl) → All IsShut (of_rank at formula rank asks)
  rank_hopeless truth = all_none IsShut
  rank_hopeless falsity = all_none IsShut
  rank_hopeless exit = all_none IsShut
  rank_hopeless not_exit = all_none IsShut
  rank_hopeless always = all_none IsShut
  rank_hopeless never = all_none IsShut
  rank_hopeless (least a) = all_none IsShut
  rank_hopeless (negation h) = all_none IsShut
  rank_hopeless (both h k) = all_none IsShut
  rank_hopeless (either h k) = all_none IsShut
  rank_hopeless (next t h) = all_none IsShut
  rank_hopeless (until t h k) =
      all_one IsShut (record { edge = unedged; asks = asks; claim = unnatural rank }) (shut_by (record { edge = unedged; asks = asks; claim = unnatural rank }) (λ v is own choice inside possible. none v is own))
  rank_hopeless (weak t h k) = all_none IsShut
