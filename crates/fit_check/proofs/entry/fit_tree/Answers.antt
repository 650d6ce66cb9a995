use Rattle.fit_check.proofs.entry.fit_tree.Goals as goal

pub returns-then-labels-lt-LABELS : goal.returns-then-labels-lt-LABELS
returns-then-labels-lt-LABELS g c = rw (c.narrow-program.ensures.body, c.narrow-program.ensures.names) at c.guarded.ensures

pub returns-else-labels-lt-LABELS : goal.returns-else-labels-lt-LABELS
returns-else-labels-lt-LABELS g c = rw (c.narrow-program.ensures.body, c.narrow-program.ensures.names) at c.unguarded.ensures
