use Rattle.std.proofs.Common.{◌≡◌, length, vec_items, sym, ap, ◌∙◌, arith}
use Rattle.std.proofs.lemmas.List.{length-map}
use Rattle.concrete_syntax.specs.Mirror.{function as function_tree}
use Rattle.elaboration.specs.Contexts.{at_top, body_of}
use Rattle.elaboration.specs.Elaborates.{behind_parameters, entered, function_walked, parameters_of, parameters_faults, twice_faults}
use Rattle.typed_expressions.specs.Faults.{earliest}
use Rattle.elaboration.specs.Statements.{Walked, items_walked}
use Rattle.elaboration.specs.Walking.{context_of}
use Rattle.elaboration.proofs.Behind.{others_few}
use Rattle.elaboration.proofs.Whole.{function_found, function_is}
use Rattle.elaboration.proofs.function.Whole.function.Goals as goal

pub returns-clause-few : goal.returns-clause-few
returns-clause-few c =
    let tree = function_tree c.args.tree.now in
    let old = c.args.self.now in
    let w = function_walked old.functions old.others tree in
    let named = c.need_new_function.ensures in
    let declared = c.in_ok-parameters.ensures in
    let scope = named.1 ∙ c.new-walk.ensures.scope in
    let around : context_of c.top-context.result ≡ at_top old.functions (body_of tree.valued) = c.top-context.ensures ∙ ap (at_top old.functions) c.of.ensures in
    let start : c.parameters.new.walk.scope ≡ entered old.others tree = declared.1 ∙ ap (λ s. behind_parameters s (parameters_of tree.parameters)) scope in
    let is = function_is old.functions old.others tree (context_of c.top-context.result) c.parameters.new.walk.scope around start in
    let all : c.in_ok-names.field-0.names ≡ w.scope.declared =
    c.in_ok-names.ensures.names ∙ ap (λ s. s.declared) (c.need_return.ensures.1 ∙ c.in_ok-items.ensures.gone.1) ∙ ap (λ (v : Walked). v.scope.declared) is
    in
    let count : length c.items-2.result.now ≡ length w.scope.declared =
    sym (length-map c.items-2.result.now vec_items) ∙ ap length (c.items-2.ensures ∙ all)
    in
    omega (arith, count, others_few old.functions old.others c.requires tree)

pub returns-clause-least : goal.returns-clause-least
returns-clause-least c =
    let tree = function_tree c.args.tree.now in
    let old = c.args.self.now in
    let own = parameters_of tree.parameters in
    let named = c.need_new_function.ensures in
    let declared = c.in_ok-parameters.ensures in
    let gone = c.in_ok-items.ensures.gone in
    let scope = named.1 ∙ c.new-walk.ensures.scope in
    let around : context_of c.top-context.result ≡ at_top old.functions (body_of tree.valued) = c.top-context.ensures ∙ ap (at_top old.functions) c.of.ensures in
    let start : c.parameters.new.walk.scope ≡ entered old.others tree = declared.1 ∙ ap (λ s. behind_parameters s own) scope in
    let w = items_walked (context_of c.top-context.result) c.parameters.new.walk.scope tree.items in
    function_found old.functions old.others tree old.least c.need_new_function.new.walk.least c.parameters.new.walk.least c.items.new.walk.least
    c.need_return.new.walk.least c.items_return.result w
    (function_is old.functions old.others tree (context_of c.top-context.result) c.parameters.new.walk.scope around start)
    (named.2 ∙ ap (λ least. earliest least (twice_faults old.functions tree.name)) c.new-walk.ensures.least)
    (declared.2 ∙ ap (λ s. earliest c.need_new_function.new.walk.least (parameters_faults s own)) scope)
    gone.2 c.need_return.ensures.2 c.items_return.ensures
