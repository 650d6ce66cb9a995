-- What invariants tell is only asked before the rest: the systems of a family with them are those without them, with more asked. So where those
-- are shut and whole no leaf is given up.
use Rattle.std.proofs.Common.{◌≡◌, inl, inr, ℕ, zero, suc, ℤ, pos, Bool, true, false, if◌then◌else◌, List, [], ◌∷◌, ◌++◌, map, flat_map, Option, None, Some, All, Contains, append_assoc, refl, sym, ap, subst, ◌∙◌}
use Rattle.std.proofs.lemmas.List.{map-append}
use Rattle.std.proofs.lemmas.List.Elements.{All-contains, Contains-append_right}
use Rattle.linear_cons.specs.Functions.{complement_of, constant_of}
use Rattle.linear_cons.specs.declared.affine.Affine.{Affine}
use Rattle.linear_cons.specs.declared.row.RowKind.{RowKind}
use Rattle.linear_cons.specs.declared.row.RowKind.TheVariants.{Never, Row as Kept}
use Rattle.linear_cons.specs.Rows.{PointMeetsKind, row_kind_of}
use Rattle.control_flow.specs.declared.edge.Choice.{Choice}
use Rattle.control_flow.specs.declared.edge.Choice.TheVariants.{Branch, None as NoChoice, Range}
use Rattle.decision_tree.specs.Paths.{leaf_numbered, path_of}
use Rattle.decision_tree.specs.Plans.{Plan, bottom, branch, leaf, top}
use Rattle.decision_tree.specs.declared.affine_rank.AffineRank.{AffineRank}
use Rattle.decision_tree.specs.declared.reason.Pick.{Pick}
use Rattle.decision_tree.specs.declared.reason.Pick.TheVariants.{All as Every, Yes, No, Value}
use Rattle.decision_tree.specs.declared.reason.Why.{Why}
use Rattle.decision_tree.specs.declared.reason.Why.TheVariants.{End, Atom, Both, Left, Right, Now, Dead, Step}
use Rattle.ctl_formula.specs.Formulas.{Ctl, truth, falsity, exit, not_exit, always, never, least, negation, both, either, next, until, weak}
use Rattle.constraint_stack.specs.declared.reason.Reason.{Reason}
use Rattle.constraint_stack.specs.declared.reason.Reason.TheVariants.{Point, Wide as TooWide, Rows}
use Rattle.constraint_stack.specs.Claims.{System, kinds_of}
use Rattle.constraint_stack.specs.Forming.{Formed, exact, given, minus}
use Rattle.constraint_stack.specs.Reasons.{IsOpen, IsWhole, Justifies, Shows}
use Rattle.tree_support.specs.declared.dropped.Dropped.{Dropped}
use Rattle.tree_support.specs.Arcs.{Arc, rows_given}
use Rattle.tree_support.specs.Certificates.{affine_ranks}
use Rattle.tree_support.specs.Elimination.{Eliminates}
use Rattle.tree_support.specs.Setting.{Setting, Trees}
use Rattle.tree_support.specs.Systems.{above_range, at_leaves, below_range, if_undefined, is_existential, moved_by, of_arcs, of_atom, of_both, of_end, of_keep, of_leaf, of_now, of_outcome, of_pick, of_rank, of_side, of_value, of_why, plain, region, systems, undefined_at, unedged, unless_less}
use Rattle.exact_families.specs.Shut.{AllShut, AllWhole, IsShut}
use Rattle.exact_families.proofs.Shutting.{all_of, map_contains, open_fair, point_fair}

module _ (rows : List Formed) where
  -- the rows are asked before
  abbrev pub more_asked : System AffineRank → System AffineRank
  more_asked system = record { edge = system.edge; asks = rows ++ system.asks; claim = system.claim }

  -- what is built behind them is so
  abbrev Lifts : (List Formed → List (System AffineRank)) → Type 0
  Lifts build = (asks : List Formed) → build (rows ++ asks) ≡ map more_asked (build asks)

  joined : (one two : List Formed → List (System AffineRank)) → Lifts one → Lifts two → Lifts (λ asks. one asks ++ two asks)
  joined one two first second asks =
      ap (λ xs. xs ++ two (rows ++ asks)) (first asks) ∙ ap (λ ys. map more_asked (one asks) ++ ys) (second asks)
      ∙ sym (map-append more_asked (one asks) (two asks))

  plain_lifts : (edge : ℕ) → Lifts (plain edge)
  plain_lifts edge asks = refl

  -- where more is asked behind
  behind : (build : List Formed → List (System AffineRank)) (extra : List Formed) → Lifts build → Lifts (λ asks. build (asks ++ extra))
  behind build extra lifts asks = ap build (append_assoc rows asks extra) ∙ lifts (asks ++ extra)

  undefined_lifts : (edge : ℕ) (end : Plan AffineRank) → Lifts (if_undefined edge end)
  undefined_lifts edge (leaf why rank) asks = refl
  undefined_lifts edge bottom asks = refl
  undefined_lifts edge (top cause) asks = refl
  undefined_lifts edge (branch row this that) asks = refl

  less_lifts : (edge : ℕ) (sets : Option (ℕ × Affine)) (rank : AffineRank) (end : Plan AffineRank) → Lifts (unless_less edge sets rank end)
  less_lifts edge sets rank (leaf why other) asks = refl
  less_lifts edge sets rank bottom asks = refl
  less_lifts edge sets rank (top cause) asks = refl
  less_lifts edge sets rank (branch row this that) asks = refl

  leaves_lift : (moved : Affine → Formed) (ending : Plan AffineRank → List Formed → List (System AffineRank)) → ((end : Plan AffineRank) → Lifts (ending end))
      → (plan : Plan AffineRank) → Lifts (at_leaves moved ending plan)
  leaves_lift moved ending ends (branch row this that) asks =
      joined (λ asks. at_leaves moved ending this (asks ++ moved row.affine ∷ [])) (λ asks. at_leaves moved ending that (asks ++ moved (complement_of row.affine) ∷ []))
      (behind (at_leaves moved ending this) (moved row.affine ∷ []) (leaves_lift moved ending ends this))
      (behind (at_leaves moved ending that) (moved (complement_of row.affine) ∷ []) (leaves_lift moved ending ends that)) asks
  leaves_lift moved ending ends bottom asks = ends bottom asks
  leaves_lift moved ending ends (top cause) asks = ends (top cause) asks
  leaves_lift moved ending ends (leaf why rank) asks = ends (leaf why rank) asks

  undefined_at_lifts : (plan : Plan AffineRank) → Lifts (undefined_at plan)
  undefined_at_lifts plan asks = leaves_lift given (if_undefined unedged) (undefined_lifts unedged) plan asks

  each_arc : (build : Arc → List Formed → List (System AffineRank)) → ((arc : Arc) → Lifts (build arc)) → (arcs : List Arc)
      → Lifts (λ asks. flat_map (λ (arc : Arc). build arc asks) arcs)
  each_arc build lifts [] asks = refl
  each_arc build lifts (arc ∷ rest) asks =
      joined (build arc) (λ asks. flat_map (λ (arc : Arc). build arc asks) rest) (lifts arc) (each_arc build lifts rest) asks

  if_lifts : (t : Bool) (one two : List Formed → List (System AffineRank)) → Lifts one → Lifts two → Lifts (λ asks. if t then one asks else two asks)
  if_lifts true one two first second asks = first asks
  if_lifts false one two first second asks = second asks

  module _ (at : Setting AffineRank) (family : Trees AffineRank) (rank : AffineRank) where
    arcs_lift : (formula : Ctl) (arcs : List Arc) → Lifts (of_arcs at formula family rank arcs)
    arcs_lift (next all f) arcs asks =
        each_arc (λ arc asks. at_leaves (moved_by arc.sets) (if_undefined arc.edge) (at.parts 0 arc.target) (asks ++ arc.asks))
        (λ arc. behind (at_leaves (moved_by arc.sets) (if_undefined arc.edge) (at.parts 0 arc.target)) arc.asks
        (leaves_lift (moved_by arc.sets) (if_undefined arc.edge) (undefined_lifts arc.edge) (at.parts 0 arc.target))) arcs asks
    arcs_lift (until all f g) arcs asks =
        each_arc (λ arc asks. at_leaves (moved_by arc.sets) (unless_less arc.edge arc.sets rank) (family arc.target) (asks ++ arc.asks))
        (λ arc. behind (at_leaves (moved_by arc.sets) (unless_less arc.edge arc.sets rank) (family arc.target)) arc.asks
        (leaves_lift (moved_by arc.sets) (unless_less arc.edge arc.sets rank) (less_lifts arc.edge arc.sets rank) (family arc.target))) arcs asks
    arcs_lift (weak all f g) arcs asks =
        each_arc (λ arc asks. at_leaves (moved_by arc.sets) (if_undefined arc.edge) (family arc.target) (asks ++ arc.asks))
        (λ arc. behind (at_leaves (moved_by arc.sets) (if_undefined arc.edge) (family arc.target)) arc.asks
        (leaves_lift (moved_by arc.sets) (if_undefined arc.edge) (undefined_lifts arc.edge) (family arc.target))) arcs asks
    arcs_lift truth arcs asks = refl
    arcs_lift falsity arcs asks = refl
    arcs_lift exit arcs asks = refl
    arcs_lift not_exit arcs asks = refl
    arcs_lift always arcs asks = refl
    arcs_lift never arcs asks = refl
    arcs_lift (least a) arcs asks = refl
    arcs_lift (negation f) arcs asks = refl
    arcs_lift (both f g) arcs asks = refl
    arcs_lift (either f g) arcs asks = refl

    outcome_lifts : (choice : Choice) (outcome : Bool) (label : ℕ) → Lifts (of_outcome at choice outcome family rank label)
    outcome_lifts Branch outcome label asks = arcs_lift at.formula (at.flow.arcs_of label outcome) asks
    outcome_lifts NoChoice outcome label asks = refl
    outcome_lifts (Range lo hi) outcome label asks = refl

    below_lifts : (lo : Option ℤ) (a : Affine) → Lifts (below_range at lo a)
    below_lifts None a asks = refl
    below_lifts (Some lo) a asks =
        behind (plain unedged) (minus (minus (given (constant_of lo)) (given a)) (given (constant_of (pos 1))) ∷ []) (plain_lifts unedged) asks

    above_lifts : (hi : Option ℤ) (a : Affine) → Lifts (above_range at hi a)
    above_lifts None a asks = refl
    above_lifts (Some hi) a asks =
        behind (plain unedged) (minus (minus (given a) (given (constant_of hi))) (given (constant_of (pos 1))) ∷ []) (plain_lifts unedged) asks

    value_lifts : (choice : Choice) (a : Affine) (label : ℕ) → Lifts (of_value at choice a family rank label)
    value_lifts (Range lo hi) a label asks =
        joined (below_range at lo a) (λ asks. above_range at hi a asks ++ of_arcs at at.formula family rank (at.flow.arcs_with label a) asks) (below_lifts lo a)
        (joined (above_range at hi a) (of_arcs at at.formula family rank (at.flow.arcs_with label a)) (above_lifts hi a) (arcs_lift at.formula (at.flow.arcs_with label a))) asks
    value_lifts NoChoice a label asks = refl
    value_lifts Branch a label asks = refl

    pick_lifts : (pick : Pick) (label : ℕ) → Lifts (of_pick at pick family rank label)
    pick_lifts Every label asks = arcs_lift at.formula (at.flow.arcs label) asks
    pick_lifts Yes label asks =
        if_lifts (is_existential at at.formula) (of_outcome at (at.flow.choice label) true family rank label) (plain unedged) (outcome_lifts (at.flow.choice label) true label)
        (plain_lifts unedged) asks
    pick_lifts No label asks =
        if_lifts (is_existential at at.formula) (of_outcome at (at.flow.choice label) false family rank label) (plain unedged)
        (outcome_lifts (at.flow.choice label) false label) (plain_lifts unedged) asks
    pick_lifts (Value a) label asks =
        if_lifts (is_existential at at.formula) (of_value at (at.flow.choice label) a family rank label) (plain unedged) (value_lifts (at.flow.choice label) a label)
        (plain_lifts unedged) asks

    keep_lifts : (formula : Ctl) (label : ℕ) → Lifts (of_keep at formula label)
    keep_lifts (until all f g) label asks = undefined_at_lifts (at.parts 0 label) asks
    keep_lifts (weak all f g) label asks = undefined_at_lifts (at.parts 0 label) asks
    keep_lifts (next all f) label asks = refl
    keep_lifts truth label asks = refl
    keep_lifts falsity label asks = refl
    keep_lifts exit label asks = refl
    keep_lifts not_exit label asks = refl
    keep_lifts always label asks = refl
    keep_lifts never label asks = refl
    keep_lifts (least a) label asks = refl
    keep_lifts (negation f) label asks = refl
    keep_lifts (both f g) label asks = refl
    keep_lifts (either f g) label asks = refl

    end_lifts : (formula : Ctl) (label : ℕ) → Lifts (of_end at formula label)
    end_lifts exit zero asks = refl
    end_lifts exit (suc label) asks = refl
    end_lifts (until all f (until also h k)) zero asks = refl
    end_lifts (until all f (weak also h k)) zero asks = refl
    end_lifts (until all f (next also h)) zero asks = refl
    end_lifts (until all f truth) zero asks = refl
    end_lifts (until all f falsity) zero asks = refl
    end_lifts (until all f exit) zero asks = refl
    end_lifts (until all f not_exit) zero asks = refl
    end_lifts (until all f always) zero asks = refl
    end_lifts (until all f never) zero asks = refl
    end_lifts (until all f (least b)) zero asks = refl
    end_lifts (until all f (negation h)) zero asks = refl
    end_lifts (until all f (both h k)) zero asks = refl
    end_lifts (until all f (either h k)) zero asks = refl
    end_lifts (until all f (until also h k)) (suc label) asks = refl
    end_lifts (until all f (weak also h k)) (suc label) asks = refl
    end_lifts (until all f (next also h)) (suc label) asks = refl
    end_lifts (until all f truth) (suc label) asks = refl
    end_lifts (until all f falsity) (suc label) asks = refl
    end_lifts (until all f exit) (suc label) asks = refl
    end_lifts (until all f not_exit) (suc label) asks = refl
    end_lifts (until all f always) (suc label) asks = refl
    end_lifts (until all f never) (suc label) asks = refl
    end_lifts (until all f (least b)) (suc label) asks = refl
    end_lifts (until all f (negation h)) (suc label) asks = refl
    end_lifts (until all f (both h k)) (suc label) asks = refl
    end_lifts (until all f (either h k)) (suc label) asks = refl
    end_lifts (weak all f g) label asks = refl
    end_lifts (next all f) label asks = refl
    end_lifts truth label asks = refl
    end_lifts falsity label asks = refl
    end_lifts not_exit label asks = refl
    end_lifts always label asks = refl
    end_lifts never label asks = refl
    end_lifts (least a) label asks = refl
    end_lifts (negation f) label asks = refl
    end_lifts (both f g) label asks = refl
    end_lifts (either f g) label asks = refl

    atom_lifts : (formula : Ctl) (label : ℕ) → Lifts (of_atom at formula label)
    atom_lifts (until all f g) label asks = refl
    atom_lifts (weak all f g) label asks = refl
    atom_lifts (next all f) label asks = refl
    atom_lifts truth label asks = refl
    atom_lifts falsity label asks = refl
    atom_lifts exit label asks = refl
    atom_lifts not_exit zero asks = refl
    atom_lifts not_exit (suc label) asks = refl
    atom_lifts always label asks = refl
    atom_lifts never label asks = refl
    atom_lifts (least a) label asks = behind (plain unedged) (given (complement_of a) ∷ []) (plain_lifts unedged) asks
    atom_lifts (negation f) label asks = refl
    atom_lifts (both f g) label asks = refl
    atom_lifts (either f g) label asks = refl

    both_lifts : (formula : Ctl) (label : ℕ) → Lifts (of_both at formula label)
    both_lifts (until all f g) label asks = refl
    both_lifts (weak all f g) label asks = refl
    both_lifts (next all f) label asks = refl
    both_lifts truth label asks = refl
    both_lifts falsity label asks = refl
    both_lifts exit label asks = refl
    both_lifts not_exit label asks = refl
    both_lifts always label asks = refl
    both_lifts never label asks = refl
    both_lifts (least a) label asks = refl
    both_lifts (negation f) label asks = refl
    both_lifts (both f g) label asks = joined (undefined_at (at.parts 0 label)) (undefined_at (at.parts 1 label)) (undefined_at_lifts (at.parts 0 label)) (undefined_at_lifts (at.parts 1 label)) asks
    both_lifts (either f g) label asks = refl

    side_lifts : (formula : Ctl) (side label : ℕ) → Lifts (of_side at formula side label)
    side_lifts (until all f g) side label asks = refl
    side_lifts (weak all f g) side label asks = refl
    side_lifts (next all f) side label asks = refl
    side_lifts truth side label asks = refl
    side_lifts falsity side label asks = refl
    side_lifts exit side label asks = refl
    side_lifts not_exit side label asks = refl
    side_lifts always side label asks = refl
    side_lifts never side label asks = refl
    side_lifts (least a) side label asks = refl
    side_lifts (negation f) side label asks = refl
    side_lifts (both f g) side label asks = refl
    side_lifts (either f g) side label asks = undefined_at_lifts (at.parts side label) asks

    now_lifts : (formula : Ctl) (label : ℕ) → Lifts (of_now at formula label)
    now_lifts (until all f g) label asks = undefined_at_lifts (at.parts 1 label) asks
    now_lifts (weak all f g) label asks = undefined_at_lifts (at.parts 1 label) asks
    now_lifts (next all f) zero asks = undefined_at_lifts (at.parts 0 0) asks
    now_lifts (next all f) (suc label) asks = refl
    now_lifts truth label asks = refl
    now_lifts falsity label asks = refl
    now_lifts exit label asks = refl
    now_lifts not_exit label asks = refl
    now_lifts always label asks = refl
    now_lifts never label asks = refl
    now_lifts (least a) label asks = refl
    now_lifts (negation f) label asks = refl
    now_lifts (both f g) label asks = refl
    now_lifts (either f g) label asks = refl

    why_lifts : (why : Why) (label : ℕ) → Lifts (of_why at why family rank label)
    why_lifts End label asks = end_lifts at.formula label asks
    why_lifts Atom label asks = atom_lifts at.formula label asks
    why_lifts Both label asks = both_lifts at.formula label asks
    why_lifts Left label asks = side_lifts at.formula 0 label asks
    why_lifts Right label asks = side_lifts at.formula 1 label asks
    why_lifts Now label asks = now_lifts at.formula label asks
    why_lifts Dead label asks = refl
    why_lifts (Step pick) label asks =
        joined (of_keep at at.formula label) (of_pick at pick family rank label) (keep_lifts at.formula label) (pick_lifts pick label) asks

    rank_lifts : (formula : Ctl) → Lifts (of_rank at formula rank)
    rank_lifts (until all f g) asks = refl
    rank_lifts (weak all f g) asks = refl
    rank_lifts (next all f) asks = refl
    rank_lifts truth asks = refl
    rank_lifts falsity asks = refl
    rank_lifts exit asks = refl
    rank_lifts not_exit asks = refl
    rank_lifts always asks = refl
    rank_lifts never asks = refl
    rank_lifts (least a) asks = refl
    rank_lifts (negation f) asks = refl
    rank_lifts (both f g) asks = refl
    rank_lifts (either f g) asks = refl

  leaf_lifts : (at : Setting AffineRank) (end : Plan AffineRank) (family : Trees AffineRank) (label : ℕ) → Lifts (of_leaf at end family label)
  leaf_lifts at (leaf why rank) family label asks =
      joined (of_rank at at.formula rank) (of_why at why family rank label) (rank_lifts at family rank at.formula) (why_lifts at family rank why label) asks
  leaf_lifts at bottom family label asks = refl
  leaf_lifts at (top cause) family label asks = refl
  leaf_lifts at (branch row this that) family label asks = refl

  -- ---- reasons

  more_kinds : (system : System AffineRank) (choice : List RowKind) (kind : RowKind) → Contains (kinds_of affine_ranks system choice) kind
      → Contains (kinds_of affine_ranks (more_asked system) choice) kind
  more_kinds system choice kind inside =
      subst (λ kinds. Contains (kinds ++ choice) kind) (sym (map-append (λ a. row_kind_of (exact a)) rows system.asks))
      (subst (λ kinds. Contains kinds kind) (sym (append_assoc (map (λ a. row_kind_of (exact a)) rows) (map (λ a. row_kind_of (exact a)) system.asks) choice))
      (Contains-append_right (map (λ a. row_kind_of (exact a)) rows) (kinds_of affine_ranks system choice) kind inside))

  more_shown : (system : System AffineRank) (choice : List RowKind) (kind : RowKind) → Shows affine_ranks system choice kind
      → Shows affine_ranks (more_asked system) choice kind
  more_shown system choice kind (inl asked) = inl (asked.0, Contains-append_right rows system.asks asked.0 asked.1, asked.2, asked.3)
  more_shown system choice kind (inr claimed) = inr claimed

  less_open : (system : System AffineRank) (choice : List RowKind) → IsOpen affine_ranks (more_asked system) choice → IsOpen affine_ranks system choice
  less_open system choice opens = record {
    there = λ shown. opens.there (more_shown system choice Never shown);
    apart = λ row other here there opposed. opens.apart row other (more_shown system choice (Kept row) here) (more_shown system choice (Kept other) there) opposed;
  }

  pub reasonless : (reason : Reason) (system : System AffineRank) → IsShut system → IsWhole affine_ranks system → Justifies affine_ranks reason (more_asked system) → ⊥
  reasonless (Point num den) system shut whole holds =
      shut holds.1.0 holds.1.1
      (point_fair system (kinds_of affine_ranks system holds.1.0) num den holds.0
      (all_of_more (kinds_of affine_ranks system holds.1.0) (kinds_of affine_ranks (more_asked system) holds.1.0) (more_kinds system holds.1.0) holds.1.2))
    where
      all_of_more : (some all : List RowKind) → ((kind : RowKind) → Contains some kind → Contains all kind) → All (λ kind. PointMeetsKind num den kind) all
          → All (λ kind. PointMeetsKind num den kind) some
      all_of_more some all more each = all_of (λ kind. PointMeetsKind num den kind) some (λ kind inside. All-contains (λ kind. PointMeetsKind num den kind) all kind each (more kind inside))
  reasonless (TooWide operands) system shut whole holds =
      shut holds.1.0 (holds.1.1.one_of whole.1) (open_fair system holds.1.0 whole (less_open system holds.1.0 holds.1.2))
  reasonless (Rows count) system shut whole holds =
      shut holds.1.0 holds.1.1 (open_fair system holds.1.0 whole (less_open system holds.1.0 holds.1.2))

-- ---- families

-- the same setting, in which nothing is told of the stores
abbrev pub untold : Setting AffineRank → Setting AffineRank
untold at = record { flow = at.flow; dead = at.dead; rows = λ label. []; formula = at.formula; parts = at.parts }

module _ (at : Setting AffineRank) (family : Trees AffineRank) where
  systems_lift : (label place : ℕ) → systems at family label place ≡ map (more_asked (rows_given (at.rows label))) (systems (untold at) family label place)
  systems_lift label place = by (at.dead label)
    where
      end : Plan AffineRank
      end = leaf_numbered (family label) place

      by : (t : Bool) → (if t then [] else of_leaf at end family label (region at (family label) label place))
          ≡ map (more_asked (rows_given (at.rows label))) (if t then [] else of_leaf (untold at) end family label (region (untold at) (family label) label place))
      by true = refl
      by false = leaf_lifts (rows_given (at.rows label)) at end family label (map given (path_of (family label) place))

  pub untold_keeps : (new : Trees AffineRank) (drops : List Dropped) → AllShut (untold at) family → AllWhole (untold at) family
      → Eliminates affine_ranks at family drops new → drops ≡ []
  untold_keeps new [] shut whole eliminates = refl
  untold_keeps new (dropped ∷ rest) shut whole eliminates =
      let drop = eliminates.0 in
      let rows : List Formed = rows_given (at.rows dropped.label) in
      let found = map_contains (more_asked rows) (systems (untold at) family dropped.label dropped.leaf) drop.system
      (subst (λ list. Contains list drop.system) (systems_lift dropped.label dropped.leaf) drop.system_in) in
      absurd (reasonless rows dropped.reason found.0
      (All-contains IsShut (systems (untold at) family dropped.label dropped.leaf) found.0 (shut dropped.label dropped.leaf) found.1)
      (All-contains (IsWhole affine_ranks) (systems (untold at) family dropped.label dropped.leaf) found.0 (whole dropped.label dropped.leaf) found.1)
      (subst (λ system. Justifies affine_ranks dropped.reason system) (sym found.2) drop.justified))
