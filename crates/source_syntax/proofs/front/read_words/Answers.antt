use Rattle.std.proofs.Common.{refl}
use Rattle.source_syntax.proofs.Steps.{passed_on}
use Rattle.derivation.proofs.Whole.{whole_read, whole_trails, whole_stops, none_left, some_left}
use Rattle.derivation.specs.Spelled.{spelled}
use Rattle.source_syntax.specs.Language.{rest_from}
use Rattle.source_syntax.proofs.Whole.{a_text}
use Rattle.source_syntax.proofs.front.read_words.Goals as goal

pub returns-in_err-tree-clause-fault : goal.returns-in_err-tree-clause-fault
returns-in_err-tree-clause-fault c =
    passed_on _ _ _ _ c.from_residual.ensures c.in_err-tree.ensures.refused
    (λ fault refused. whole_stops (a_text c.args.functions) (rest_from c.args.words.now 0) (rest_from c.args.words.now fault.at) refl _ (refused 0 _))

pub returns-then-end-words-clause-fault : goal.returns-then-end-words-clause-fault
returns-then-end-words-clause-fault c =
    whole_trails (a_text c.args.functions) (rest_from c.args.words.now 0) (rest_from c.args.words.now c.in_ok-tree.end) refl (c.in_ok-tree.ensures.read 0 _).1
    (some_left spelled _ _ c.if-end-words.true)

pub returns-clause-syntax : goal.returns-clause-syntax
returns-clause-syntax c =
    whole_read (a_text c.args.functions) (rest_from c.args.words.now 0) (rest_from c.args.words.now c.in_ok-tree.end) refl (c.in_ok-tree.ensures.read 0 _).1
    (none_left spelled _ _ c.if-end-words.false)
