use Rattle.std.proofs.Common.{◌++◌, map, vec_items, ap, ◌∙◌}
use Rattle.std.proofs.lemmas.Result.{on_ok_weaker}
use Rattle.call_inline.proofs.Naming.{behind_function}
use Rattle.call_inline.proofs.inlining.add_qualified.Goals as goal

pub returns : goal.returns
returns c =
    on_ok_weaker c.add_names.result
    (λ step. step ∙ ap (λ l. map vec_items c.args.list.now.items ++ l) (behind_function c.args.function.now c.deref.result.now (map vec_items c.args.names.now)
    (c.deref.ensures.value ∙ c.in_ok-before.ensures))) c.add_names.ensures
