-- Behind what no store meets no system of a leaf has a store, for every formula, why and pick.
use Rattle.std.proofs.Common.{ℕ, zero, suc, ℤ, Bool, true, false, if◌then◌else◌, List, [], ◌∷◌, ◌++◌, get_or, map, Option, None, Some, All, sym, subst}
use Rattle.std.specs.List.{flat_map}
use Rattle.std.proofs.lemmas.List.{map-append}
use Rattle.std.proofs.lemmas.List.Concat.{flat_map-cons}
use Rattle.std.proofs.lemmas.List.Elements.{All-append}
use Rattle.linear_cons.specs.declared.affine.Affine.{Affine}
use Rattle.linear_cons.specs.Functions.{complement_of}
use Rattle.linear_cons.specs.Rows.{MeetsKind, row_kind_of}
use Rattle.control_flow.specs.declared.edge.Choice.{Choice}
use Rattle.control_flow.specs.declared.edge.Choice.TheVariants.{None as NoChoice, Branch, Range}
use Rattle.decision_tree.specs.declared.rank.Rank.{Ghosts as Ranks}
use Rattle.decision_tree.specs.declared.reason.Pick.{Pick}
use Rattle.decision_tree.specs.declared.reason.Pick.TheVariants.{All as Every, Yes, No, Value}
use Rattle.decision_tree.specs.declared.reason.Why.{Why}
use Rattle.decision_tree.specs.declared.reason.Why.TheVariants.{End, Atom, Both, Left, Right, Now, Dead, Step}
use Rattle.decision_tree.specs.Plans.{Plan, bottom, top, leaf, branch}
use Rattle.ctl_formula.specs.Formulas.{Ctl, truth, exit, not_exit, always, least, both, either, next, until, weak}
use Rattle.tree_support.specs.Arcs.{Arc}
use Rattle.constraint_stack.specs.Forming.{Formed, exact, given}
use Rattle.tree_support.specs.Setting.{Setting, Trees}
use Rattle.constraint_stack.specs.Claims.{HasNoStore, choices, System, exceeding, nothing, unnatural}
use Rattle.tree_support.specs.Systems.{above_range, at_leaves, below_range, if_undefined, is_existential, moved_by, of_arcs, of_atom, of_both, of_end, of_keep, of_leaf, of_now, of_outcome, of_pick, of_rank, of_side, of_value, of_why, plain, undefined_at, unedged, unless_less}
use Rattle.tree_support.proofs.Lists.{all_left, all_none, all_one}

-- no store meets all of them
abbrev pub IsNowhere : List Formed → Type 0
IsNowhere asks = (store : List ℤ) → All (λ kind. MeetsKind store kind) (map (λ a. row_kind_of (exact a)) asks) → ⊥

nowhere_more : (asks more : List Formed) → IsNowhere asks → IsNowhere (asks ++ more)
nowhere_more asks more none store met =
    none store (all_left (λ kind. MeetsKind store kind) (map (λ a. row_kind_of (exact a)) asks) (map (λ a. row_kind_of (exact a)) more)
    (subst (All (λ kind. MeetsKind store kind)) (map-append (λ a. row_kind_of (exact a)) asks more) met))

module _ {R : Type 0} (ranks : Ranks R) where
  abbrev Free : List (System R) → Type 0
  Free systems = All (HasNoStore ranks) systems

  one : (s : System R) → IsNowhere s.asks → Free (s ∷ [])
  one s none =
      all_one (HasNoStore ranks) s
      (λ k choice low store met. none store (all_left (λ kind. MeetsKind store kind) (map (λ a. row_kind_of (exact a)) s.asks) (get_or (choices ranks s.claim) k choice) met))

  plain_free : (edge : ℕ) (asks : List Formed) → IsNowhere asks → Free (plain edge asks)
  plain_free edge asks none = one (record { edge = edge; asks = asks; claim = nothing }) none

  abbrev Ending : (Plan R → List Formed → List (System R)) → Type 0
  Ending ending = (end : Plan R) (asks : List Formed) → IsNowhere asks → Free (ending end asks)

  undefined_free : (edge : ℕ) → Ending (if_undefined edge)
  undefined_free edge (leaf why rank) asks none = all_none (HasNoStore ranks)
  undefined_free edge bottom asks none = plain_free edge asks none
  undefined_free edge (top cause) asks none = plain_free edge asks none
  undefined_free edge (branch row this that) asks none = plain_free edge asks none

  less_free : (edge : ℕ) (sets : Option (ℕ × Affine)) (rank : R) → Ending (unless_less edge sets rank)
  less_free edge sets rank (leaf why other) asks none = one (record { edge = edge; asks = asks; claim = exceeding other sets rank }) none
  less_free edge sets rank bottom asks none = plain_free edge asks none
  less_free edge sets rank (top cause) asks none = plain_free edge asks none
  less_free edge sets rank (branch row this that) asks none = plain_free edge asks none

  leaves_free : (moved : Affine → Formed) (ending : Plan R → List Formed → List (System R)) → Ending ending → Ending (at_leaves moved ending)
  leaves_free moved ending free (branch row this that) asks none =
      All-append (HasNoStore ranks) (at_leaves moved ending this (asks ++ moved row.affine ∷ [])) (at_leaves moved ending that (asks ++ moved (complement_of row.affine) ∷ []))
      (leaves_free moved ending free this (asks ++ moved row.affine ∷ []) (nowhere_more asks (moved row.affine ∷ []) none))
      (leaves_free moved ending free that (asks ++ moved (complement_of row.affine) ∷ []) (nowhere_more asks (moved (complement_of row.affine) ∷ []) none))
  leaves_free moved ending free bottom asks none = free bottom asks none
  leaves_free moved ending free (top cause) asks none = free (top cause) asks none
  leaves_free moved ending free (leaf why rank) asks none = free (leaf why rank) asks none

  each_free : (f : Arc → List (System R)) → ((arc : Arc) → Free (f arc)) → (arcs : List Arc) → Free (flat_map f arcs)
  each_free f free [] = all_none (HasNoStore ranks)
  each_free f free (arc ∷ arcs) = subst Free (sym (flat_map-cons f arc arcs)) (All-append (HasNoStore ranks) (f arc) (flat_map f arcs) (free arc) (each_free f free arcs))

  there_free : (tree : Plan R) (asks : List Formed) → IsNowhere asks → Free (undefined_at tree asks)
  there_free tree asks none = leaves_free given (if_undefined unedged) (undefined_free unedged) tree asks none

  module _ (at : Setting R) (family : Trees R) (rank : R) (label : ℕ) (asks : List Formed) (none : IsNowhere asks) where
    same : Free (plain unedged asks)
    same = plain_free unedged asks none

    arcs_free : (f : Ctl) (arcs : List Arc) → Free (of_arcs at f family rank arcs asks)
    arcs_free (next all f) arcs = each_free _ (λ arc. leaves_free (moved_by arc.sets) (if_undefined arc.edge) (undefined_free arc.edge) (at.parts 0 arc.target) (asks ++ arc.asks) (nowhere_more asks arc.asks none)) arcs
    arcs_free (until all f g) arcs = each_free _ (λ arc. leaves_free (moved_by arc.sets) (unless_less arc.edge arc.sets rank) (less_free arc.edge arc.sets rank) (family arc.target) (asks ++ arc.asks) (nowhere_more asks arc.asks none)) arcs
    arcs_free (weak all f g) arcs = each_free _ (λ arc. leaves_free (moved_by arc.sets) (if_undefined arc.edge) (undefined_free arc.edge) (family arc.target) (asks ++ arc.asks) (nowhere_more asks arc.asks none)) arcs
    arcs_free other arcs = same

    when : (t : Bool) (systems : List (System R)) → Free systems → Free (if t then systems else plain unedged asks)
    when true systems free = free
    when false systems free = same

    below_free : (lo : Option ℤ) (a : Affine) → Free (below_range at lo a asks)
    below_free None a = all_none (HasNoStore ranks)
    below_free (Some lo) a = plain_free unedged _ (nowhere_more asks _ none)

    above_free : (hi : Option ℤ) (a : Affine) → Free (above_range at hi a asks)
    above_free None a = all_none (HasNoStore ranks)
    above_free (Some hi) a = plain_free unedged _ (nowhere_more asks _ none)

    outcome_free : (choice : Choice) (outcome : Bool) → Free (of_outcome at choice outcome family rank label asks)
    outcome_free Branch outcome = arcs_free at.formula (at.flow.arcs_of label outcome)
    outcome_free NoChoice outcome = same
    outcome_free (Range lo hi) outcome = same

    value_free : (choice : Choice) (a : Affine) → Free (of_value at choice a family rank label asks)
    value_free (Range lo hi) a =
        All-append (HasNoStore ranks) (below_range at lo a asks) (above_range at hi a asks ++ of_arcs at at.formula family rank (at.flow.arcs_with label a) asks) (below_free lo a)
        (All-append (HasNoStore ranks) (above_range at hi a asks) (of_arcs at at.formula family rank (at.flow.arcs_with label a) asks) (above_free hi a) (arcs_free at.formula (at.flow.arcs_with label a)))
    value_free NoChoice a = same
    value_free Branch a = same

    pick_free : (pick : Pick) → Free (of_pick at pick family rank label asks)
    pick_free Every = arcs_free at.formula (at.flow.arcs label)
    pick_free Yes = when (is_existential at at.formula) (of_outcome at (at.flow.choice label) true family rank label asks) (outcome_free (at.flow.choice label) true)
    pick_free No = when (is_existential at at.formula) (of_outcome at (at.flow.choice label) false family rank label asks) (outcome_free (at.flow.choice label) false)
    pick_free (Value a) = when (is_existential at at.formula) (of_value at (at.flow.choice label) a family rank label asks) (value_free (at.flow.choice label) a)

    keep_free : (f : Ctl) → Free (of_keep at f label asks)
    keep_free (until all f g) = there_free (at.parts 0 label) asks none
    keep_free (weak all f g) = there_free (at.parts 0 label) asks none
    keep_free other = all_none (HasNoStore ranks)

    end_until : (all : Bool) (f g : Ctl) (l : ℕ) → Free (of_end at (until all f g) l asks)
    end_until all f exit zero = all_none (HasNoStore ranks)
    end_until all f exit (suc l) = same
    end_until all f other l = same

    end_free : (f : Ctl) (l : ℕ) → Free (of_end at f l asks)
    end_free exit zero = all_none (HasNoStore ranks)
    end_free exit (suc l) = same
    end_free (until all f g) l = end_until all f g l
    end_free other l = same

    atom_free : (f : Ctl) (l : ℕ) → Free (of_atom at f l asks)
    atom_free truth l = all_none (HasNoStore ranks)
    atom_free always l = all_none (HasNoStore ranks)
    atom_free (least a) l = plain_free unedged _ (nowhere_more asks _ none)
    atom_free not_exit zero = same
    atom_free not_exit (suc l) = all_none (HasNoStore ranks)
    atom_free other l = same

    both_free : (f : Ctl) → Free (of_both at f label asks)
    both_free (both f g) = All-append (HasNoStore ranks) (undefined_at (at.parts 0 label) asks) (undefined_at (at.parts 1 label) asks) (there_free (at.parts 0 label) asks none) (there_free (at.parts 1 label) asks none)
    both_free other = same

    side_free : (f : Ctl) (side : ℕ) → Free (of_side at f side label asks)
    side_free (either f g) side = there_free (at.parts side label) asks none
    side_free other side = same

    now_free : (f : Ctl) (l : ℕ) → Free (of_now at f l asks)
    now_free (until all f g) l = there_free (at.parts 1 l) asks none
    now_free (weak all f g) l = there_free (at.parts 1 l) asks none
    now_free (next all f) zero = there_free (at.parts 0 0) asks none
    now_free (next all f) (suc l) = same
    now_free other l = same

    why_free : (why : Why) → Free (of_why at why family rank label asks)
    why_free End = end_free at.formula label
    why_free Atom = atom_free at.formula label
    why_free Both = both_free at.formula
    why_free Left = side_free at.formula 0
    why_free Right = side_free at.formula 1
    why_free Now = now_free at.formula label
    why_free Dead = same
    why_free (Step pick) = All-append (HasNoStore ranks) (of_keep at at.formula label asks) (of_pick at pick family rank label asks) (keep_free at.formula) (pick_free pick)

    rank_free : (f : Ctl) → Free (of_rank at f rank asks)
    rank_free (until all f g) = one (record { edge = unedged; asks = asks; claim = unnatural rank }) none
    rank_free other = all_none (HasNoStore ranks)

  pub leaf_nowhere : (at : Setting R) (end : Plan R) (family : Trees R) (label : ℕ) (asks : List Formed) → IsNowhere asks → Free (of_leaf at end family label asks)
  leaf_nowhere at (leaf why rank) family label asks none =
      All-append (HasNoStore ranks) (of_rank at at.formula rank asks) (of_why at why family rank label asks) (rank_free at family rank label asks none at.formula) (why_free at family rank label asks none why)
  leaf_nowhere at bottom family label asks none = all_none (HasNoStore ranks)
  leaf_nowhere at (top cause) family label asks none = all_none (HasNoStore ranks)
  leaf_nowhere at (branch row this that) family label asks none = all_none (HasNoStore ranks)
