use Rattle.std.proofs.Common.{◌≢◌, ◌+◌, slice_index, arith}
use Rattle.std.proofs.lemmas.Grind.{common_steps}
use Rattle.source_lex.proofs.Slash.{slash_is_a_sign}
use Rattle.source_lex.proofs.piece.slash.Goals as goal

pub returns-in_default : goal.returns-in_default
returns-in_default c =
    let no_slash : slice_index c.args.text.now (c.args.at + 1) ≢ 47 = grind arith in
    let no_star : slice_index c.args.text.now (c.args.at + 1) ≢ 42 = grind arith in
    slash_is_a_sign _ _ c.requires.inside c.requires.slash no_slash no_star

pub returns-in-None : goal.returns-in-None
returns-in-None c = grind (arith, common_steps)
