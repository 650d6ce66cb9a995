use Rattle.std.proofs.Common.{◌≡◌, true, None, Some, sym, ap, ◌∙◌, if◌then◌else◌}
use Rattle.std.proofs.lemmas.Bool.{ltb-true}
use Rattle.std.proofs.lemmas.Option.{slice_get-get_or}
use Rattle.std.specs.List.{slice_get}
use Rattle.elaboration.specs.Functions.{Functions}
use Rattle.typed_expressions.specs.Scopes.{is_among, place_of}
use Rattle.elaboration.proofs.functions.Functions.signature.Goals as goal

pub returns-in_ok-found : goal.returns-in_ok-found
returns-in_ok-found c =
    let now = c.args.self.now in
    let x = c.args.name.now in
    let known : is_among now.names x ≡ true = sym c.if-is_known.ensures in
    let found = c.in_ok-found.found.now in
    let lookup = c.in_ok-found.ensures.lookup in
    let got : Some found ≡ slice_get c.self.inside.signatures.items c.place.result =
    ap Some lookup.1 ∙ sym (slice_get-get_or c.deref.result.now c.place.result found (ltb-true _ _ (sym lookup.0)))
    ∙ ap (λ l. slice_get l c.place.result) c.deref.ensures.value
    in
    got ∙ ap (slice_get c.self.inside.signatures.items) c.place.ensures
    ∙ ap (λ (functions : Functions). slice_get functions.signatures (place_of now.names x)) c.self.view_is
    ∙ sym (ap (λ among. if among then slice_get now.signatures (place_of now.names x) else None) known)
