use Rattle.std.proofs.Common.{◌≡◌, take, map, vec_items, sym, ap, ◌∙◌}
use Rattle.std.proofs.lemmas.List.{take-map}
use Rattle.typed_expressions.specs.contracts.scope.Scope.{the_view}
use Rattle.typed_expressions.specs.Scopes.{Scope}
use Rattle.typed_expressions.proofs.Names.{with_visible}
use Rattle.typed_expressions.proofs.scope.Scope.close.Goals as goal

pub returns : goal.returns
returns c =
    let seen : map vec_items c.truncate.new.self.items ≡ take c.args.depth (map vec_items c.self.inside.visible.items) =
    ap (map vec_items) c.truncate.ensures.items ∙ sym (take-map vec_items c.args.depth c.self.inside.visible.items)
    in
    ap (with_visible (the_view c.self.inside)) seen ∙ ap (λ (scope : Scope). with_visible scope (take c.args.depth scope.visible)) c.self.view_is
