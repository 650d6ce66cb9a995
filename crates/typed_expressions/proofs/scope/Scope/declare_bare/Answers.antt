use Rattle.std.proofs.Common.{◌≡◌, true, length, vec_items, sym, ap, ◌∙◌, arith}
use Rattle.std.proofs.lemmas.List.{length-map}
use Rattle.typed_expressions.specs.Scopes.{Scope, is_among}
use Rattle.typed_expressions.proofs.Names.{place_below}
use Rattle.typed_expressions.proofs.scope.Scope.declare_bare.Goals as goal

pub bounds-self-inside-place : goal.bounds-self-inside-place
bounds-self-inside-place c =
    let behind = c.declare.new.self in
    let known : is_among behind.declared c.args.name.now ≡ true = sym c.if-is_declared.ensures in
    let below = place_below behind.declared c.args.name.now known in
    let long : length c.self.inside.declared.keys ≡ length behind.declared =
    sym (length-map c.self.inside.declared.keys vec_items) ∙ ap (λ (scope : Scope). length scope.declared) c.self.view_is
    in
    omega (arith, below, long, c.place-place.ensures, c.self.invariant)
