use Rattle.std.proofs.Common.{◌≡◌, [], ◌++◌, sym, ap, ◌∙◌}
use Rattle.std.proofs.lemmas.List.{append-nil}
use Rattle.step_meaning.specs.Syntax.{of_list, list_of, parts}
use Rattle.step_meaning.proofs.Lists.{of_list-list_of}
use Rattle.call_meaning.specs.Tables.{commands}
use Rattle.elaboration.specs.Elaborates.{plain}
use Rattle.elaboration.proofs.plain.+plain.Goals as goal

pub plain_block-returns-clause-meaning : goal.plain_block-returns-clause-meaning
plain_block-returns-clause-meaning t c =
    let made = parts c.loop-left.list.items in
    let none : list_of (plain (commands c.loop-left.left.now)) ≡ [] = ap (λ b. list_of (plain (commands b))) c.in_default.is in
    c.in_ok-made.ensures.meaning
    ∙ ap of_list (sym (append-nil made) ∙ ap (λ l. made ++ l) (sym none) ∙ c.loop-left.invariant.0)
    ∙ of_list-list_of (plain (commands c.args.block.now))
