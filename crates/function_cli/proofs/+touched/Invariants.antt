use Rattle.function_cli.proofs.+touched.Given as goal

abbrev pub decreases-touched : goal.decreases-touched
decreases-touched l = l.levels
