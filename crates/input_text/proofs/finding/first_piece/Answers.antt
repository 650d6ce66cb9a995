use Rattle.std.proofs.Common.{rules, ◌∙◌, ◌+◌, ◌∷◌, take, sym, ap}
use Rattle.input_text.specs.Pieces.{pieces}
use Rattle.input_text.proofs.Cutting.{behind_place, pieces_at, pieces_none}
use Rattle.input_text.proofs.finding.first_piece.Goals as goal

pub returns-in-Some-clause-parts : goal.returns-in-Some-clause-parts
returns-in-Some-clause-parts c =
    pieces_at 44 c.args.text.now c.in-Some.place (search rules) (search rules) (search rules)
    ∙ ap (λ rest. take c.in-Some.place c.args.text.now ∷ pieces 44 rest) (sym (behind_place c.args.text.now (c.in-Some.place + 1)))

pub returns-in-None-clause-parts : goal.returns-in-None-clause-parts
returns-in-None-clause-parts c = pieces_none 44 c.args.text.now (search rules)
