use Rattle.std.proofs.Common.{◌≡◌, ◌+◌, slice_index, true, inl, refl, rules}
use Rattle.source_lex.specs.Signs.{is_double_sign}
use Rattle.source_lex.proofs.ByteLemmas.{next-double, within_when}
use Rattle.source_lex.proofs.scan.sign_end.Goals as goal

-- the second byte of a sign isn't 0, so it is within the text
pub returns-then-is_double_sign : goal.returns-then-is_double_sign
returns-then-is_double_sign c =
    let spelled : is_double_sign (slice_index c.args.text.now c.args.at) (slice_index c.args.text.now (c.args.at + 1)) ≡ true = search (rules, c.if-is_double_sign.ensures, c.if-is_double_sign.true) in
    inl (record {
      inside = within_when c.args.text.now (c.args.at + 1) _ refl (next-double _ _ spelled);
      spelled = spelled;
      ends = refl;
    })
