use Rattle.std.proofs.Common.{◌≡◌, [], ap, sym, ◌∙◌, ◌++◌, rules}
use Rattle.call_meaning.specs.Tables.{parts}
use Rattle.call_meaning.specs.Offsets.{offsets, all_offsets, levels, all_levels}
use Rattle.call_meaning.proofs.Listing.{all_made}
use Rattle.call_meaning.proofs.statement.UnitBlock.of.Goals as goal

pub returns-clause-meaning : goal.returns-clause-meaning
returns-clause-meaning c = let e = c.in_default.ensures in let none : c.loop-last.list.items ≡ [] = search rules in all_made _ _ _ (ap parts none) c.loop-last.invariant.0

pub returns-clause-offsets : goal.returns-clause-offsets
returns-clause-offsets c =
    let e = c.in_default.ensures in
    let none : c.loop-last.list.items ≡ [] = search rules in
    sym (c.loop-last.invariant.1 ∙ ap (λ left. all_offsets left ++ offsets c.loop-last.block) none)

pub returns-clause-levels : goal.returns-clause-levels
returns-clause-levels c =
    let e = c.in_default.ensures in
    let none : c.loop-last.list.items ≡ [] = search rules in
    sym (c.loop-last.invariant.2 ∙ ap (λ left. all_levels left ++ levels c.loop-last.block) none)
