use Rattle.std.proofs.Common.{ap, sym, ◌∙◌, is_some}
use Rattle.elaboration.specs.Functions.{Functions}
use Rattle.typed_expressions.specs.Scopes.{place_of}
use Rattle.typed_expressions.proofs.Names.{place_found, place_missing}
use Rattle.elaboration.proofs.functions.Functions.place.Goals as goal

pub returns-in-Some : goal.returns-in-Some
returns-in-Some c =
    place_found c.self.inside.names.keys c.args.name.now c.in-Some.place (sym c.get_index_of.ensures.index ∙ c.in-Some.is)
    ∙ ap (λ (functions : Functions). place_of functions.names c.args.name.now) c.self.view_is

pub returns-in-None : goal.returns-in-None
returns-in-None c =
    c.len.ensures.len ∙ place_missing c.self.inside.names.keys c.args.name.now (sym c.get_index_of.ensures.found ∙ ap is_some c.in-None.is)
    ∙ ap (λ (functions : Functions). place_of functions.names c.args.name.now) c.self.view_is
