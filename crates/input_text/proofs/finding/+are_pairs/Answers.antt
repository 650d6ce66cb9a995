use Rattle.std.proofs.Common.{◌≡◌, ◌∷◌}
use Rattle.input_text.specs.Input.{IsPairOf}
use Rattle.input_text.specs.Pieces.{pieces}
use Rattle.input_text.proofs.Cutting.{all_later, all_more}
use Rattle.input_text.proofs.finding.+are_pairs.Goals as goal

pub returns-in-Some : goal.returns-in-Some
returns-in-Some t c =
    let cut : pieces 44 c.args.text.now ≡ c.first_piece.result.0.now ∷ pieces 44 c.in-Some.rest.now =
    let parts = c.first_piece.ensures.parts in rw c.in-Some.is at parts in
    let first = c.is_pair.ensures.0 c.if-not-is_pair.false in (
      λ rest. all_more (IsPairOf c.args.names.now c.args.input.now) c.first_piece.result.0.now (pieces 44 c.in-Some.rest.now) (pieces 44 c.args.text.now) cut
          first (c.are_pairs.ensures.0 rest),
      λ all. c.are_pairs.ensures.1 (all_later (IsPairOf c.args.names.now c.args.input.now) c.first_piece.result.0.now (pieces 44 c.in-Some.rest.now)
          (pieces 44 c.args.text.now) cut all),
    )
