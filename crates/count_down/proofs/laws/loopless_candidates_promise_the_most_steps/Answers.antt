use Rattle.count_down.proofs.Entering.{loopless_entry}
use Rattle.count_down.proofs.laws.loopless_candidates_promise_the_most_steps.Goals as goal

pub returns : goal.returns
returns c = λ trees body free is. loopless_entry trees body free is
