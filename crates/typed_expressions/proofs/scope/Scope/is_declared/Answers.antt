use Rattle.std.proofs.Common.{ap, ◌∙◌}
use Rattle.typed_expressions.specs.Scopes.{Scope, is_among}
use Rattle.typed_expressions.proofs.Names.{among_any}
use Rattle.typed_expressions.proofs.scope.Scope.is_declared.Goals as goal

pub returns : goal.returns
returns c =
    c.contains.ensures ∙ among_any c.self.inside.declared.keys c.args.name.now
    ∙ ap (λ (scope : Scope). is_among scope.declared c.args.name.now) c.self.view_is
