use Rattle.std.proofs.Common.{Contains, subst, sym}
use Rattle.linear_cons.specs.Rows.{Meets, MeetsAll}
use Rattle.num_domain.proofs.LineLaws.{all_none}
use Rattle.poly_dom.proofs.AddedRows.{one_of}
use Rattle.poly_dom.proofs.poly.PolyNumDomain.widen.Goals as goal

pub returns-clause-own : goal.returns-clause-own
returns-clause-own c store is has =
    let added = rw (c.new-rows.ensures.items, c.deref.ensures.value, c.deref-2.ensures.value) at c.in_ok-add_implied.ensures in
    (is, subst (MeetsAll store) (sym c.in_ok-self-2.ensures) (added.keeps store (all_none (λ r. Meets store r)) has.1))

pub returns-clause-newer : goal.returns-clause-newer
returns-clause-newer c store is has =
    let added = rw (c.new-rows.ensures.items, c.deref.ensures.value, c.deref-2.ensures.value) at c.in_ok-add_implied.ensures in
    (is, subst (MeetsAll store) (sym c.in_ok-self-2.ensures) (added.keeps_given store (all_none (λ r. Meets store r)) has.1))

pub returns-clause-among : goal.returns-clause-among
returns-clause-among c filled row member =
    let added = rw (c.new-rows.ensures.items, c.deref.ensures.value, c.deref-2.ensures.value) at c.in_ok-add_implied.ensures in
    one_of _ row (added.among row (subst (λ rows. Contains rows row) c.in_ok-self-2.ensures member))
