use Rattle.std.proofs.Common.{◌≡◌, ap, sym, ◌∙◌, arith}
use Rattle.std.proofs.lemmas.Grind.{common_steps}
use Rattle.linear_cons.specs.Functions.{substituted}
use Rattle.linear_cons.specs.Rows.{row_kind_of}
use Rattle.linear_cons.specs.declared.row.RowKind.TheVariants.{Row as Kept}
use Rattle.tree_unify.proofs.Building.{stopped_in}
use Rattle.tree_unify.proofs.Meeting.{node_size}
use Rattle.backward_transfer.specs.Moved.{kind_of}
use Rattle.backward_transfer.proofs.assigning.+put.Goals as goal

pub returns : goal.returns
returns g t c =
    let kind : row_kind_of (substituted c.in-Node.row.affine c.args.place c.args.by.now) ≡ Kept c.in-Row.moved = sym c.in_ok-kind-in-Node.ensures.kind ∙ ap kind_of c.in-Row.is in
    let part = rw c.deref-in-Row-2.ensures at c.in-Err.ensures in
    rw (c.in-Node.is, kind) (stopped_in _ _ part (node_size g.R.PartialEq.eq g.met.R.Rank.equal_law _ _ _).1 (λ fits. fits.1.1) (λ room. room))

pub returns-in-Bottom : goal.returns-in-Bottom
returns-in-Bottom g c = grind (arith, common_steps)

pub returns-in-Top : goal.returns-in-Top
returns-in-Top g c = grind (arith, common_steps)

pub put_leaf-requires : goal.put_leaf-requires
put_leaf-requires g c = grind (arith, common_steps)

pub put_row-requires : goal.put_row-requires
put_row-requires g c = grind (arith, common_steps)
