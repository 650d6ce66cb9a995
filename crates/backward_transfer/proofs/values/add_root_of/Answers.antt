use Rattle.backward_transfer.proofs.values.add_root_of.Goals as goal

pub returns-clause-values : goal.returns-clause-values
returns-clause-values c = rw (← c.deref-row.ensures) c.in_ok-add_root.ensures.values

pub returns-clause-fits : goal.returns-clause-fits
returns-clause-fits c = rw (← c.deref-row.ensures) c.in_ok-add_root.ensures.fits
