use Rattle.std.proofs.Common.{rules, ◌≡◌, ◌<◌, ◌≤◌, length, Some, inl, inr, refl, sym, ◌∙◌}
use Rattle.source_parse.specs.Faults.{numbered}
use Rattle.command_words.specs.Order.{Task}
use Rattle.function_top.specs.declared.question.Refusal.{Refusal}
use Rattle.function_top.specs.Output.{IsReason}
use Rattle.function_top.proofs.Parsed.{no_fault}
use Rattle.function_top.proofs.Refusing.{passed_on, refused}
use Rattle.function_top.proofs.question.whole_of.Goals as goal

pub returns-then-text-gt65536-clause-refused : goal.returns-then-text-gt65536-clause-refused
returns-then-text-gt65536-clause-refused c = λ task.
    let long : 65536 < length c.args.text.now = search rules in inl record { long = long; number_is = refl; offset_is = refl }

pub returns-in_ok-inlined-in-Ok-clause-parsed : goal.returns-in_ok-inlined-in-Ok-clause-parsed
returns-in_ok-inlined-in-Ok-clause-parsed c =
    let short : length c.args.text.now ≤ 65536 = search rules in
    c.in_ok-inlined-in-Ok.ensures.parsed c.args.text.now short c.in-Ok.ensures.unit

pub returns-in_ok-inlined-in-Ok-clause-own : goal.returns-in_ok-inlined-in-Ok-clause-own
returns-in_ok-inlined-in-Ok-clause-own c = c.in_ok-inlined-in-Ok.ensures.own c.args.text.now c.in-Ok.ensures.unit

pub returns-in_err-inlined-in-Ok-clause-refused : goal.returns-in_err-inlined-in-Ok-clause-refused
returns-in_err-inlined-in-Ok-clause-refused c =
    passed_on _ _ (λ (refusal : Refusal). (task : Task) → IsReason task c.args.text.now refusal) c.from_residual.ensures
    (λ task. c.in_err-inlined-in-Ok.ensures.refused task c.args.text.now c.in-Ok.ensures.unit)

pub returns-in-Some-clause-refused : goal.returns-in-Some-clause-refused
returns-in-Some-clause-refused c = λ task.
    let told : numbered c.in-Err.fault ≡ Some (c.in-Some.number, c.in-Some.offset) = sym c.numbered.ensures ∙ c.in-Some.is in
    inr (inl record {
      short = search rules;
      none = refused c.args.text.now c.in-Err.fault _ (no_fault c.a_unit_has_no_fault.ensures) c.in-Err.ensures.fault told;
      fault = c.in-Err.fault;
      fault_of = c.in-Err.ensures.fault;
      number_of = told;
    })
