use Rattle.std.proofs.Common.{◌++◌, sym, ap, ◌∙◌, arith}
use Rattle.call_inline.proofs.Naming.{name_added, names_done}
use Rattle.call_inline.proofs.inlining.add_names.Goals as goal

pub loop-name-preserved : goal.loop-name-preserved
loop-name-preserved c =
    name_added c.args.before.now c.loop-name.list.items c.push.new.self.items c.args.names.now c.loop-name.name-index c.name-item.result c.in_ok-joined.field-0 (omega arith)
    c.name-item.is c.in_ok-push.ensures.items (c.in_ok-joined.ensures ∙ ap (λ l. c.args.before.now ++ l) c.deref.ensures.value)
    ∙ c.loop-name.invariant

pub returns : goal.returns
returns c = sym (names_done c.args.before.now c.loop-name.list.items c.args.names.now c.loop-name.name-index (omega arith)) ∙ c.loop-name.invariant
