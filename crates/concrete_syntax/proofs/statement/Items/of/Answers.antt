use Rattle.std.proofs.Common.{◌≡◌, [], ◌∷◌, ◌++◌, rules}
use Rattle.concrete_syntax.proofs.Chains.{last_item}
use Rattle.concrete_syntax.proofs.statement.Items.of.Goals as goal

pub loop-last-preserved : goal.loop-last-preserved
loop-last-preserved c =
    let parted : c.loop-last.list.items ≡ c.pop.new.self.items ++ c.in-Some.last ∷ [] = search rules in
    last_item _ _ _ _ _ _ c.loop-last.invariant parted c.in_ok-made.ensures
