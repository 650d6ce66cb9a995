use Rattle.std.proofs.lemmas.Grind.{common_steps}
use Rattle.std.proofs.Common.{[], ◌∷◌, Ok, Err, refl, arith}
use Rattle.std.proofs.lemmas.Bool.{false≢true}
use Rattle.linear_cons.specs.declared.row.RowKind.TheVariants.{Row as Kept}
use Rattle.linear_cons.specs.Functions.{complement_of}
use Rattle.tree_support.specs.Systems.{moved_by}
use Rattle.leaf_search.proofs.Following.{end_held, end_nowhere}
use Rattle.leaf_search.proofs.Keeping.{complement_forms, kept_forms, told_nowhere, unformed_complement}
use Rattle.leaf_search.proofs.walk.Way.enter_kept.Goals as goal

pub returns-then-holds-clause-held : goal.returns-then-holds-clause-held
returns-then-holds-clause-held g c is asks held =
    let forms = kept_forms c.args.self.now.sets c.args.row.now c.requires.places c.requires.kept in
    rw c.if-holds.true (end_held asks (moved_by c.args.self.now.sets c.args.row.now.affine ∷ []) (Ok (Kept c.args.row.now)) c.args.stack.now.rows c.add_row.new.self.rows c.args.stack.now.wide c.add_row.new.self.wide forms held (rw is at c.in_ok-added.ensures))

pub returns-then-holds-clause-nowhere : goal.returns-then-holds-clause-nowhere
returns-then-holds-clause-nowhere g c is asks held =
    let forms = kept_forms c.args.self.now.sets c.args.row.now c.requires.places c.requires.kept in
    rw c.if-holds.true (end_nowhere asks (moved_by c.args.self.now.sets c.args.row.now.affine ∷ []) (Ok (Kept c.args.row.now)) c.args.stack.now.rows c.add_row.new.self.rows c.args.stack.now.wide c.add_row.new.self.wide forms held (rw is at c.in_ok-added.ensures))

pub returns-then-tells-clause-nowhere : goal.returns-then-tells-clause-nowhere
returns-then-tells-clause-nowhere g c is asks held =
    rw c.if-holds.false (told_nowhere c.args.self.now.sets c.args.row.now c.args.stack.now.rows asks c.requires.places c.requires.place c.requires.kept held.among (c.if-tells.ensures refl))

pub returns-in_ok-added-in-Ok-clause-held : goal.returns-in_ok-added-in-Ok-clause-held
returns-in_ok-added-in-Ok-clause-held g c is asks held =
    let forms = complement_forms c.args.self.now.sets c.args.row.now.affine c.in-Ok.complement c.in-Ok.ensures.complement c.requires.place c.requires.kept in
    rw c.if-holds.false (end_held asks (moved_by c.args.self.now.sets (complement_of c.args.row.now.affine) ∷ []) (Ok (Kept c.in-Ok.complement)) c.args.stack.now.rows c.add_row-in-Ok.new.self.rows c.args.stack.now.wide c.add_row-in-Ok.new.self.wide forms held (rw is at c.in_ok-added-in-Ok.ensures))

pub returns-in_ok-added-in-Ok-clause-nowhere : goal.returns-in_ok-added-in-Ok-clause-nowhere
returns-in_ok-added-in-Ok-clause-nowhere g c is asks held =
    let forms = complement_forms c.args.self.now.sets c.args.row.now.affine c.in-Ok.complement c.in-Ok.ensures.complement c.requires.place c.requires.kept in
    rw c.if-holds.false (end_nowhere asks (moved_by c.args.self.now.sets (complement_of c.args.row.now.affine) ∷ []) (Ok (Kept c.in-Ok.complement)) c.args.stack.now.rows c.add_row-in-Ok.new.self.rows c.args.stack.now.wide c.add_row-in-Ok.new.self.wide forms held (rw is at c.in_ok-added-in-Ok.ensures))

pub returns-in_ok-added-in-Err-clause-held : goal.returns-in_ok-added-in-Err-clause-held
returns-in_ok-added-in-Err-clause-held g c is asks held =
    let forms = unformed_complement c.args.self.now.sets c.args.row.now.affine c.in-Err.wide c.in-Err.ensures.wide (λ fits. false≢true (c.in-Err.ensures.fits.1 fits)) in
    rw c.if-holds.false (end_held asks (moved_by c.args.self.now.sets (complement_of c.args.row.now.affine) ∷ []) (Err c.in-Err.wide) c.args.stack.now.rows c.add.new.self.rows c.args.stack.now.wide c.add.new.self.wide forms held (rw is at c.in_ok-added-in-Err.ensures))

pub returns-then-holds-clause-longer : goal.returns-then-holds-clause-longer
returns-then-holds-clause-longer g c = grind (arith, common_steps)

pub returns-then-tells-clause-longer : goal.returns-then-tells-clause-longer
returns-then-tells-clause-longer g c = grind (arith, common_steps)

pub returns-in_ok-added-in-Ok-clause-longer : goal.returns-in_ok-added-in-Ok-clause-longer
returns-in_ok-added-in-Ok-clause-longer g c = grind (arith, common_steps)

pub returns-in_ok-added-in-Err-clause-longer : goal.returns-in_ok-added-in-Err-clause-longer
returns-in_ok-added-in-Err-clause-longer g c = grind (arith, common_steps)
