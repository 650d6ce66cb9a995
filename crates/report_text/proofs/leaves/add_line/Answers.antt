use Rattle.std.proofs.Common.{refl}
use Rattle.report_text.proofs.Walking.{none_added, one_added}
use Rattle.report_text.proofs.leaves.add_line.Goals as goal

pub has_no_store-requires : goal.has_no_store-requires
has_no_store-requires c = rw c.items.ensures c.in_ok-rows.ensures.distinct

pub returns-then-branch : goal.returns-then-branch
returns-then-branch c =
    let empty = rw (c.if-branch.true, c.items.ensures) at c.in_ok-has_no_store.ensures in
    none_added _ _ _ _ c.in_ok-rows.ensures empty

pub returns : goal.returns
returns c =
    let standing = rw (c.if-branch.false, c.items.ensures) at c.in_ok-has_no_store.ensures in
    one_added _ _ _ _ _ c.in_ok-push.ensures.items (record { rows = c.in_ok-rows.ensures; claims = refl; stands = standing })
