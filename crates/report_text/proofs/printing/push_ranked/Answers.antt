use Rattle.std.proofs.Common.{ap, ◌∙◌, length}
use Rattle.std.specs.Bool.{◌==◌}
use Rattle.std.proofs.lemmas.Result.{on_ok_weaker}
use Rattle.report_text.specs.declared.line.Line.{Line}
use Rattle.std.proofs.Common.{List}
use Rattle.report_text.proofs.Spelling.{is_none, is_some, none_headed, some_headed}
use Rattle.report_text.proofs.printing.push_ranked.Goals as goal

pub returns-then-is_empty : goal.returns-then-is_empty
returns-then-is_empty c =
    none_headed _ _ _ (is_none c.args.lines.now c.is_empty.result (c.is_empty.ensures ∙ ap (λ (t : List Line). length t == 0) c.items.ensures) c.if-is_empty.true)

pub returns : goal.returns
returns c =
    on_ok_weaker c.push_headed.result (some_headed _ _ _ _
    (is_some c.args.lines.now c.is_empty.result (c.is_empty.ensures ∙ ap (λ (t : List Line). length t == 0) c.items.ensures) c.if-is_empty.false))
    c.push_headed.ensures
