use Rattle.std.proofs.Common.{◌≡◌, [], ◌∷◌, ◌++◌, rules}
use Rattle.concrete_syntax.proofs.Chains.{last_link}
use Rattle.concrete_syntax.proofs.expression.Tail.of.Goals as goal

pub loop-link-preserved : goal.loop-link-preserved
loop-link-preserved c =
    let parted : c.loop-link.list.items ≡ c.pop.new.self.items ++ c.in-Some.link ∷ [] = search rules in
    let kept : c.in_ok-new.field-0.value ≡ c.loop-link.made = search rules in
    last_link _ _ _ _ _ _ c.loop-link.invariant parted kept
