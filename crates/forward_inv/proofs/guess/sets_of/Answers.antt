use Rattle.std.proofs.Common.{◌∷◌, [], arith, refl, subst, sym}
use Rattle.std.proofs.lemmas.List.{length-append}
use Rattle.linear_cons.specs.Rows.{MeetsAll}
use Rattle.forward_inv.specs.Sets.{HoldsRows, kept_at}
use Rattle.forward_inv.proofs.Holding.{none_hold, one_more_holds}
use Rattle.forward_inv.proofs.guess.sets_of.Goals as goal

pub loop-label-init : goal.loop-label-init
loop-label-init g c = rw c.new-sets.ensures.items
    (none_hold g.D.NumDomain.has (kept_at g.D.NumDomain.told_rows c.args.guesses.now c.args.marks.now), refl)

pub loop-label-preserved : goal.loop-label-preserved
loop-label-preserved g c =
    let has = g.D.NumDomain.has in
    let rows_at = kept_at g.D.NumDomain.told_rows c.args.guesses.now c.args.marks.now in
    let met = rw c.deref.ensures.value at c.in_ok-meet_rows.ensures.keeps in
    let here : HoldsRows has (rows_at c.loop-label.label) c.meet_rows.new.self =
    λ store long rows. met store long (c.in_ok-set.ensures store long) (subst (MeetsAll store) (sym c.in_ok-rows.ensures) rows) in
    let whole = length-append c.loop-label.sets.items (c.meet_rows.new.self ∷ []) in
    let count = c.loop-label.invariant.1 in
    rw c.in_ok-push.ensures.items (
      one_more_holds has rows_at c.loop-label.sets.items c.meet_rows.new.self c.loop-label.invariant.0
          (subst (λ label. HoldsRows has (rows_at label) c.meet_rows.new.self) (sym count) here),
      omega (arith, whole, count),
    )
