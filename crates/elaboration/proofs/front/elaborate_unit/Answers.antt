use Rattle.std.proofs.Common.{◌+◌, ◌++◌, drop, map, sym, ap, ◌∙◌, subst}
use Rattle.std.proofs.lemmas.List.{drop_all}
use Rattle.concrete_syntax.specs.Mirror.{function as function_of, functions as functions_of, program as program_of}
use Rattle.call_meaning.specs.Offsets.{all_offsets, all_levels}
use Rattle.call_meaning.specs.Tables.{parts}
use Rattle.call_meaning.specs.Units.{of_list}
use Rattle.elaboration.specs.Elaborates.{faults_of, made_of}
use Rattle.typed_expressions.specs.Offsets.{offsets_in}
use Rattle.elaboration.specs.Statements.{Walked, items_walked}
use Rattle.elaboration.specs.Walking.{context_of}
use Rattle.typed_expressions.proofs.Firsts.{first_is, none_is}
use Rattle.elaboration.proofs.Walks.{drop_next}
use Rattle.elaboration.proofs.Whole.{AreLeft, left_first, taken_on, none_left, walk_is, all_found}
use Rattle.elaboration.proofs.front.elaborate_unit.Goals as goal

pub loop-function-init : goal.loop-function-init
loop-function-init c =
    let new = c.new-whole.ensures in
    left_first c.args.tokens.now c.new-whole.result (functions_of c.deref-function-items.result.now) (program_of c.args.tree.now)
    new.tokens new.functions new.funcs new.others new.least (ap functions_of c.deref-function-items.ensures.value)

pub loop-function-preserved : goal.loop-function-preserved
loop-function-preserved c =
    let items = c.deref-function-items.result.now in
    let i = c.loop-function.function-index in
    let item = c.function-item.result in
    let more = functions_of (drop (i + 1) items) in
    let p = program_of c.args.tree.now in
    let now = c.loop-function.whole in
    let split = ap functions_of (drop_next items i item c.loop-function-test.true c.function-item.is) in
    let taken = c.in_ok-function.ensures in
    taken_on c.args.tokens.now now c.function.new.self (function_of item) more p
    (subst (λ l. AreLeft c.args.tokens.now now l p) split c.loop-function.invariant)
    record { reads = taken.tokens; few = taken.few; knows = taken.functions; counts = taken.others; finds = taken.least; makes = taken.funcs }

pub returns-in-Some-clause-refusal : goal.returns-in-Some-clause-refusal
returns-in-Some-clause-refusal c =
    let p = program_of c.args.tree.now in
    let now = c.loop-function.whole in
    let left = functions_of (drop c.loop-function.function-index c.deref-function-items.result.now) in
    let done = ap functions_of (drop_all c.loop-function.function-index c.deref-function-items.result.now c.loop-function-test.false) in
    let behind = none_left c.args.tokens.now now left p done c.loop-function.invariant in
    let new = c.new-walk.ensures in
    let is = walk_is p (context_of c.top.result) c.new-walk.result.scope now.functions now.others c.top.ensures new.scope behind.knows behind.counts in
    first_is (faults_of p) c.in-Some.fault
    (sym (all_found p now.least c.new-walk.result c.items.new.walk (items_walked (context_of c.top.result) c.new-walk.result.scope p.items) c.in_ok-items.ensures.gone is new.least behind.finds) ∙ c.in-Some.is)

pub returns-clause-unit : goal.returns-clause-unit
returns-clause-unit c =
    let p = program_of c.args.tree.now in
    let tokens = c.args.tokens.now in
    let now = c.loop-function.whole in
    let left = functions_of (drop c.loop-function.function-index c.deref-function-items.result.now) in
    let done = ap functions_of (drop_all c.loop-function.function-index c.deref-function-items.result.now c.loop-function-test.false) in
    let behind = none_left tokens now left p done c.loop-function.invariant in
    let new = c.new-walk.ensures in
    let is = walk_is p (context_of c.top.result) c.new-walk.result.scope now.functions now.others c.top.ensures new.scope behind.knows behind.counts in
    let gone = c.in_ok-items.ensures.gone in
    let added = c.in_ok-items.ensures.added in
    let w = items_walked (context_of c.top.result) c.new-walk.result.scope p.items in
    let fresh = c.new-list.ensures.items in
    let block = c.in_ok-of.ensures in
    record {
      faultless = none_is (faults_of p) (sym (all_found p now.least c.new-walk.result c.items.new.walk w gone is new.least behind.finds) ∙ c.in_default.is);
      knows = c.in_ok-into_names.ensures ∙ ap (λ f. f.names) behind.knows;
      functions = ap (λ l. map made_of l) c.of.ensures ∙ behind.makes;
      declares = c.in_ok-variables.ensures.names ∙ ap (λ s. s.declared) gone.1 ∙ ap (λ (v : Walked). v.scope.declared) is;
      means =
          block.meaning ∙ ap of_list (added.0 ∙ ap (λ l. parts l ++ w.body) fresh) ∙ ap (λ (v : Walked). of_list v.body) is;
      stands =
          block.offsets ∙ added.1 ∙ ap (λ l. all_offsets l ++ offsets_in c.new-walk.result.tokens.now w.tokens) fresh
          ∙ ap (λ t. offsets_in t w.tokens) new.tokens ∙ ap (λ (v : Walked). offsets_in tokens v.tokens) is;
      levels = block.levels ∙ added.2 ∙ ap (λ l. all_levels l ++ w.levels) fresh ∙ ap (λ (v : Walked). v.levels) is;
    }
