use Rattle.std.proofs.Common.{ℕ, List, All, length}
use Rattle.step_meaning.specs.Syntax.{statements}
use Rattle.control_flow.specs.Told.{Told, told_by}
use Rattle.ctl_formula.specs.Formulas.{af_exit}
use Rattle.decision_tree.specs.Plans.{Plan}
use Rattle.leaf_search.specs.Operands.{families_of}
use Rattle.tree_support.specs.declared.dropped.Dropped.{Dropped}
use Rattle.tree_support.specs.Elimination.{Eliminates}
use Rattle.tree_support.specs.Setting.{Setting, Trees, setting_of, trees_in}
use Rattle.tree_support.specs.Support.{IsSupported}
use Rattle.ordinal_rank.specs.declared.ordinal.OrdinalRank.{OrdinalRank}
use Rattle.ordinal_rank.specs.Families.{IsFit, IsFreeOf, ordinal_ranks}
use Rattle.ordinal_rank.proofs.Fit.{fit_spares}
use Rattle.tree_check.proofs.Sparing.{eliminated_spares}
use Rattle.ordinal_rank.proofs.family.left_of.Goals as goal

pub returns-clause-bounded : goal.returns-clause-bounded
returns-clause-bounded g c =
    let program = c.args.graph.now in
    let body = statements program.body in
    let vars = length program.names in
    let told : Told = told_by g.D.NumDomain.told_bounds g.D.NumDomain.told_rows g.D.NumDomain.seen_empty c.args.inv.now in
    let parts : ℕ → Trees OrdinalRank = families_of c.in_ok-parts.parts.items in
    let old : List (Plan OrdinalRank) = c.in_ok-trees.trees in
    let new : List (Plan OrdinalRank) = c.check_over.new.family.trees in
    let at : Setting OrdinalRank = setting_of body told af_exit parts in
    let drops : List Dropped = c.in_ok-_dropped._dropped.items in
    let legal : Eliminates ordinal_ranks at (trees_in old) drops (trees_in new) =
    rw (← c.in_ok-formula.ensures, ← c.deref.ensures.value) c.in_ok-_dropped.ensures.legal in
    let supported : IsSupported ordinal_ranks at (trees_in new) =
    rw (← c.in_ok-formula.ensures, ← c.deref.ensures.value) c.in_ok-_dropped.ensures.supported in
    let fit : All (IsFit vars) old = rw c.program.ensures at c.in_ok-trees.ensures.fit in
    c.ranked_families_bound_ends.ensures vars body told program.valid.few program.valid.well_sorted
    (c.invariants_tell_the_truth.ensures vars body c.args.inv.now c.requires.invariants) parts (trees_in new) (record {
      goal = c.in_ok-parts.ensures;
      supported = supported;
      spares = eliminated_spares ordinal_ranks (IsFreeOf 15) 15 at drops (trees_in old) (trees_in new) legal (fit_spares vars old program.valid.few fit);
    })
