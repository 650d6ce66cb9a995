use Rattle.std.proofs.lemmas.List.Elements.{All-push}
use Rattle.count_down.specs.Building.{IsFew}
use Rattle.count_down.proofs.label_counts.add.Goals as goal

pub returns-clause-few : goal.returns-clause-few
returns-clause-few c = rw c.in_ok-push.ensures.items (All-push (IsFew 2048) c.args.list.now.items c.args.count c.requires.few c.requires.count)
