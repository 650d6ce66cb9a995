use Rattle.octagon_dom.specs.Terms.{AreTermsBelow}
use Rattle.octagon_dom.proofs.terms.terms_of.Given as goal

abbrev pub invariant-loop-place : goal.invariant-loop-place
invariant-loop-place l = AreTermsBelow l.place l.a l.terms
