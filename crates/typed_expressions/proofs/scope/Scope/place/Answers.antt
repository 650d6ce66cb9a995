use Rattle.std.proofs.Common.{ap, sym, ◌∙◌, is_some}
use Rattle.typed_expressions.specs.Scopes.{Scope, place_of}
use Rattle.typed_expressions.proofs.Names.{place_found, place_missing}
use Rattle.typed_expressions.proofs.scope.Scope.place.Goals as goal

pub returns-in-Some : goal.returns-in-Some
returns-in-Some c =
    place_found c.self.inside.declared.keys c.args.name.now c.in-Some.place (sym c.get_index_of.ensures.index ∙ c.in-Some.is)
    ∙ ap (λ (scope : Scope). place_of scope.declared c.args.name.now) c.self.view_is

pub returns-in-None : goal.returns-in-None
returns-in-None c =
    c.len.ensures.len ∙ place_missing c.self.inside.declared.keys c.args.name.now (sym c.get_index_of.ensures.found ∙ ap is_some c.in-None.is)
    ∙ ap (λ (scope : Scope). place_of scope.declared c.args.name.now) c.self.view_is
