use Rattle.std.proofs.Common.{refl, ◌++◌, take, arith}
use Rattle.std.proofs.lemmas.Grind.{common_steps}
use Rattle.std.proofs.KnownBytes.{Consumes-trans}
use Rattle.outside.proofs.reading.read_up_to.Goals as goal

-- the bytes of the last piece are lost with the text, and are within the limit with it
pub returns-in_err-extend_from_slice-in-Bytes-clause-stops :
    goal.returns-in_err-extend_from_slice-in-Bytes-clause-stops
returns-in_err-extend_from_slice-in-Bytes-clause-stops g c =
    let text = c.loop-text.text.items in
    let last = take c.in-Bytes.count c.read_at_most.new.piece in
    let most = c.in-Bytes.ensures.most c.in-Bytes.count refl in
    (text ++ last, grind (arith, common_steps), Consumes-trans _ _ _ text last c.loop-text.invariant.read c.in-Bytes.ensures.gives.2)

pub returns-in-Failed-clause-ends : goal.returns-in-Failed-clause-ends
returns-in-Failed-clause-ends g c = grind (arith, common_steps)
