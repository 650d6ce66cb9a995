use Rattle.std.proofs.Common.{Contains, subst, sym}
use Rattle.linear_cons.specs.Rows.{MeetsAll}
use Rattle.poly_dom.proofs.poly.PolyNumDomain.join.Goals as goal

pub returns-clause-own : goal.returns-clause-own
returns-clause-own c store is has =
    let common = rw (c.deref.ensures.value, c.deref-2.ensures.value) at c.in_ok-rows.ensures in
    (is, subst (MeetsAll store) (sym c.in_ok-self-2.ensures) (common.own store has.1))

pub returns-clause-others : goal.returns-clause-others
returns-clause-others c store is has =
    let common = rw (c.deref.ensures.value, c.deref-2.ensures.value) at c.in_ok-rows.ensures in
    (is, subst (MeetsAll store) (sym c.in_ok-self-2.ensures) (common.other store has.1))

pub returns-clause-among : goal.returns-clause-among
returns-clause-among c row member =
    let common = rw (c.deref.ensures.value, c.deref-2.ensures.value) at c.in_ok-rows.ensures in
    common.among row (subst (λ rows. Contains rows row) c.in_ok-self-2.ensures member)
