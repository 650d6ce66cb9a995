use Rattle.std.proofs.Common.{◌≡◌, length, ◌∙◌, sym, subst}
use Rattle.step_meaning.specs.Syntax.{statements}
use Rattle.control_flow.specs.Labels.{entry_of}
use Rattle.part_families.specs.Families.{trees_of}
use Rattle.decision_tree.specs.Extent.{ComplementsFit, IsTreeOver}
use Rattle.decision_tree.specs.Plans.{plan_of}
use Rattle.fit_check.proofs.AtEntry.{entry_fits}
use Rattle.fit_check.proofs.entry.at_entry.Goals as goal

pub tree_at_entry-requires : goal.tree_at_entry-requires
tree_at_entry-requires g c = c.in_ok-family.ensures.printable.labels

pub returns : goal.returns
returns g c =
    let program = c.args.graph.now in
    let body = statements program.body in
    let vars = length program.names in
    let family = c.in_ok-family.family in
    let same : plan_of c.in_ok-tree.tree ≡ trees_of family (entry_of body) = c.in_ok-tree.ensures ∙ c.tree_at_entry.ensures in
    let printable = c.in_ok-family.ensures.printable in record {
      fits = entry_fits vars body (trees_of family) c.in_ok-family.ensures.fits (plan_of c.in_ok-tree.tree) same;
      over = subst (IsTreeOver vars) (sym same) (printable.over (entry_of body));
      complements = subst ComplementsFit (sym same) (printable.complements (entry_of body));
    }
