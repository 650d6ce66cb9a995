use Rattle.std.proofs.Common.{refl}
use Rattle.leaf_search.proofs.Keeping.{kept_forms}
use Rattle.leaf_search.proofs.Leading.{always_settled, never_settled, row_settled}
use Rattle.leaf_search.proofs.walk.Way.settled.Goals as goal

pub returns-then-keeps : goal.returns-then-keeps
returns-then-keeps g c =
    rw (← c.deref-row.ensures) (row_settled c.args.self.now.sets c.deref-row.result.now.affine c.deref-row.result.now c.args.stack.now.rows c.settles.result c.requires
    (kept_forms c.args.self.now.sets c.deref-row.result.now c.keeps.ensures.places (c.if-keeps.ensures.kept refl)) c.settles.ensures)

pub returns-in-Ok-Always : goal.returns-in-Ok-Always
returns-in-Ok-Always g c =
    rw (← c.deref-row.ensures) (always_settled c.args.self.now.sets c.deref-row.result.now.affine c.args.stack.now.rows c.requires (rw c.in-Ok-Always.field-0-is at c.in-Ok-Always.ensures))

pub returns-in-Ok-Never : goal.returns-in-Ok-Never
returns-in-Ok-Never g c =
    rw (← c.deref-row.ensures) (never_settled c.args.self.now.sets c.deref-row.result.now.affine c.args.stack.now.rows c.requires (rw c.in-Ok-Never.field-0-is at c.in-Ok-Never.ensures))

pub returns-in-Ok-Row : goal.returns-in-Ok-Row
returns-in-Ok-Row g c =
    rw (← c.deref-row.ensures) (row_settled c.args.self.now.sets c.deref-row.result.now.affine c.in-Ok-Row.moved c.args.stack.now.rows c.settles-in-Ok-Row.result c.requires
    (rw c.in-Ok-Row.field-0-is at c.in-Ok-Row.ensures) c.settles-in-Ok-Row.ensures)
