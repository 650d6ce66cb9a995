use Rattle.std.proofs.Common.{ap, ◌∙◌}
use Rattle.elaboration.specs.Functions.{Functions}
use Rattle.typed_expressions.specs.Scopes.{is_among}
use Rattle.typed_expressions.proofs.Names.{among_any}
use Rattle.elaboration.proofs.functions.Functions.is_known.Goals as goal

pub returns : goal.returns
returns c =
    c.contains.ensures ∙ among_any c.self.inside.names.keys c.args.name.now
    ∙ ap (λ (functions : Functions). is_among functions.names c.args.name.now) c.self.view_is
