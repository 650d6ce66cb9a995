use Rattle.std.proofs.Common.{◌≡◌, false, [], ◌∷◌, ◌++◌, map, vec_items, sym, ap, ◌∙◌, rules}
use Rattle.elaboration.specs.Functions.{Functions}
use Rattle.typed_expressions.specs.Scopes.{is_among}
use Rattle.typed_expressions.proofs.Names.{added}
use Rattle.elaboration.proofs.Signatures.{functions_of, with_new}
use Rattle.elaboration.proofs.functions.Functions.add.Goals as goal

pub returns-in_ok-push : goal.returns-in_ok-push
returns-in_ok-push c =
    let now = c.args.self.now in
    let x = c.args.name.now in
    let copied : vec_items c.in_ok-to_vec.field-0 ≡ x = search rules in
    let none : is_among now.names x ≡ false = sym c.if-not-is_known.ensures in
    let names : map vec_items c.insert.new.self.keys ≡ now.names ++ x ∷ [] =
    ap (map vec_items) c.in_ok-insert.ensures.keys
    ∙ added c.self.inside.names.keys c.in_ok-to_vec.field-0 now.names x (ap (λ (functions : Functions). functions.names) c.self.view_is) copied none
    in
    let signatures : c.push.new.self.items ≡ now.signatures ++ c.args.signature ∷ [] =
    c.in_ok-push.ensures.items ∙ ap (λ (functions : Functions). functions.signatures ++ c.args.signature ∷ []) c.self.view_is
    in
    ap (λ ns. functions_of ns c.push.new.self.items) names ∙ ap (functions_of (now.names ++ x ∷ [])) signatures
    ∙ sym (with_new now x c.args.signature none)
