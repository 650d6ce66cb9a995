use Rattle.ctl_formula.specs.Mirror.{ctl}
use Rattle.formula_text.proofs.Named.{rows_are_named}
use Rattle.formula_text.proofs.printing.print.Goals as goal

pub push_formula-requires : goal.push_formula-requires
push_formula-requires c = rows_are_named c.args.names.now c.requires.few (ctl c.args.formula.now) c.requires.over
