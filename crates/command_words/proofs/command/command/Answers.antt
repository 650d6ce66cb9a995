use Rattle.std.proofs.Common.{◌≡◌, ◌∙◌, ap₂, refl, codes}
use Rattle.clap.specs.Words.{new_app, with_rule}
use Rattle.command_words.specs.Command.{command, flag, option}
use Rattle.command_words.proofs.command.command.Goals as goal

unfolded : with_rule (with_rule (with_rule (with_rule (with_rule (with_rule (with_rule (with_rule (new_app (codes "function"))
    (option (codes "ctl"))) (option (codes "domain"))) (option (codes "delay"))) (option (codes "at"))) (flag (codes "explain")))
    (option (codes "demo"))) (flag (codes "fit"))) (flag (codes "refine")) ≡ command
unfolding command
unfolded = refl

pub returns : goal.returns
returns c =
    let one = c.in_ok-arg.ensures.shape c.option.ensures.local ∙ ap₂ with_rule c.new.ensures.app c.option.ensures.rule in
    let two = c.in_ok-arg-2.ensures.shape c.option-2.ensures.local ∙ ap₂ with_rule one c.option-2.ensures.rule in
    let three = c.in_ok-arg-3.ensures.shape c.option-3.ensures.local ∙ ap₂ with_rule two c.option-3.ensures.rule in
    let four = c.in_ok-arg-4.ensures.shape c.option-4.ensures.local ∙ ap₂ with_rule three c.option-4.ensures.rule in
    let five = c.in_ok-arg-5.ensures.shape c.flag.ensures.local ∙ ap₂ with_rule four c.flag.ensures.rule in
    let six = c.in_ok-arg-6.ensures.shape c.option-5.ensures.local ∙ ap₂ with_rule five c.option-5.ensures.rule in
    let seven = c.in_ok-arg-7.ensures.shape c.flag-2.ensures.local ∙ ap₂ with_rule six c.flag-2.ensures.rule in
    c.in_ok-command.ensures.shape c.flag-3.ensures.local ∙ ap₂ with_rule seven c.flag-3.ensures.rule ∙ unfolded
