use Rattle.std.proofs.Common.{◌∷◌, [], ◌++◌, sym, ap, subst, ◌∙◌, arith}
use Rattle.call_inline.specs.Faults.{IsTooDeep}
use Rattle.call_inline.specs.Levels.{calls_in, deepest, deep_call, first_deep}
use Rattle.call_inline.proofs.Deepest.{next_deep, here_deep, last_deep}
use Rattle.call_inline.proofs.nesting.check_nesting.Goals as goal

pub loop-func-init : goal.loop-func-init
loop-func-init c = ap (λ levels. deep_call levels c.args.funcs.now c.args.body.now) c.new-levels.ensures.items

pub loop-func-preserved : goal.loop-func-preserved
loop-func-preserved c =
    let same = c.deref.ensures.value in
    let none = ap (λ levels. first_deep levels (calls_in c.func-item.result.body)) (sym same) ∙ c.in-Ok.ensures.none in
    let more = c.in_ok-add-in-Ok.ensures ∙ ap (λ most. c.loop-func.levels.items ++ most ∷ [])
    (c.in-Ok.ensures.deepest ∙ ap (λ levels. deepest levels c.func-item.result.levels (calls_in c.func-item.result.body)) same) in
    next_deep c.loop-func.levels.items c.args.funcs.now c.loop-func.func-index c.func-item.result (omega arith) c.func-item.is c.args.body.now c.add.new.levels.items none more
    ∙ c.loop-func.invariant

pub returns-in-Err-clause-fault : goal.returns-in-Err-clause-fault
returns-in-Err-clause-fault c =
    let some = ap (λ levels. first_deep levels (calls_in c.func-item.result.body)) (sym c.deref.ensures.value) ∙ c.in-Err.ensures.deep in
    let here = here_deep c.loop-func.levels.items c.args.funcs.now c.loop-func.func-index c.func-item.result (omega arith) c.func-item.is c.args.body.now c.in-Err.deep.at some in
    subst (λ fault. IsTooDeep fault c.args.funcs.now c.args.body.now) (sym c.refused.ensures) (sym c.loop-func.invariant ∙ here, c.in-Err.ensures.count)

pub returns-in-Ok-levels_of-clause-none : goal.returns-in-Ok-levels_of-clause-none
returns-in-Ok-levels_of-clause-none c =
    let none = ap (λ levels. first_deep levels (calls_in c.args.body.now)) (sym c.deref-2.ensures.value) ∙ c.in-Ok-levels_of.ensures.none in
    sym c.loop-func.invariant ∙ last_deep c.loop-func.levels.items c.args.funcs.now c.loop-func.func-index c.args.body.now (omega arith) ∙ none

pub returns-clause-fault : goal.returns-clause-fault
returns-clause-fault c =
    let some = ap (λ levels. first_deep levels (calls_in c.args.body.now)) (sym c.deref-2.ensures.value) ∙ c.in-Err-levels_of.ensures.deep in
    let main = last_deep c.loop-func.levels.items c.args.funcs.now c.loop-func.func-index c.args.body.now (omega arith) in
    subst (λ fault. IsTooDeep fault c.args.funcs.now c.args.body.now) (sym c.refused-in-Err-levels_of.ensures) (sym c.loop-func.invariant ∙ main ∙ some, c.in-Err-levels_of.ensures.count)
