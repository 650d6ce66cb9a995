use Rattle.std.proofs.Common.{◌≡◌, ◌+◌, nat_lt, true, [], ◌∷◌, ◌++◌, length, map, vec_items, sym, ap, ◌∙◌, rules}
use Rattle.typed_expressions.specs.contracts.scope.Scope.{the_view}
use Rattle.typed_expressions.specs.Scopes.{Scope, with_variable, most_variables}
use Rattle.typed_expressions.proofs.Names.{added, with_declared, with_room, not_false}
use Rattle.typed_expressions.proofs.scope.Scope.add_variable.Goals as goal

pub returns-in_ok-insert : goal.returns-in_ok-insert
returns-in_ok-insert c =
    let now = c.args.self.now in
    let x = c.args.name.now in
    let copied : vec_items c.in_ok-to_vec.field-0 ≡ x = search rules in
    let keys : map vec_items c.insert.new.self.keys ≡ now.declared ++ x ∷ [] =
    ap (map vec_items) c.in_ok-insert.ensures.keys
    ∙ added c.self.inside.declared.keys c.in_ok-to_vec.field-0 now.declared x (ap (λ (scope : Scope). scope.declared) c.self.view_is) copied c.requires
    in
    let room : nat_lt (now.others + length now.declared) most_variables ≡ true = not_false _ c.if-not-is_full.ensures in
    ap (with_declared (the_view c.self.inside)) (keys ∙ sym (with_room now.others now.declared x true c.requires room))
    ∙ ap (λ (scope : Scope). with_declared scope (with_variable now.others now.declared x)) c.self.view_is
