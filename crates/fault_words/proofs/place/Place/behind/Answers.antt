use Rattle.std.proofs.Common.{refl}
use Rattle.fault_words.proofs.Behind.{behind_byte, behind_feed}
use Rattle.fault_words.proofs.place.Place.behind.Goals as goal

pub returns-then-byte-eq10 : goal.returns-then-byte-eq10
returns-then-byte-eq10 c = λ front is. rw c.if-byte-eq10.true (behind_feed front c.args.self _ is refl refl)

pub returns-else-byte-eq10 : goal.returns-else-byte-eq10
returns-else-byte-eq10 c = λ front is. behind_byte front c.args.byte c.args.self _ c.if-byte-eq10.false is refl refl
