use Rattle.std.proofs.Common.{List}
use Rattle.step_meaning.specs.Syntax.{statements}
use Rattle.ctl_formula.specs.Mirror.{ctl}
use Rattle.tree_check.specs.Checking.{families_of}
use Rattle.tree_support.specs.Certificates.{affine_ranks}
use Rattle.tree_support.specs.declared.dropped.Dropped.{Dropped}
use Rattle.tree_support.specs.Elimination.{Eliminates}
use Rattle.tree_support.specs.Setting.{setting_of, trees_in}
use Rattle.part_families.specs.Knowing.{told_on}
use Rattle.part_families.specs.Showing.{Shows}
use Rattle.part_families.proofs.premises.Premises.checked.Goals as goal

pub returns-clause-legal : goal.returns-clause-legal
returns-clause-legal g c =
    let legal : (drops : List Dropped) × Eliminates affine_ranks
    (setting_of (statements c.args.self.now.graph.now.body) (told_on g.D.NumDomain c.args.self.now) (ctl c.args.formula.now)
    (families_of c.args.smaller.now.operands.items)) (trees_in c.args.trees) drops (trees_in c.in_ok-checked.checked.family.trees) =
    rw c.deref.ensures.value at c.in_ok-checked.ensures.legal in
    legal

pub returns-clause-shows : goal.returns-clause-shows
returns-clause-shows g c =
    let shows : Shows c.args.self.now.graph.now (told_on g.D.NumDomain c.args.self.now) (ctl c.args.formula.now) c.args.smaller.now.number
    c.args.smaller.now.operands.items c.in_ok-checked.checked.family =
    rw c.deref.ensures.value at c.in_ok-checked.ensures.shows in
    shows
