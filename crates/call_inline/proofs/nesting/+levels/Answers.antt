use Rattle.std.proofs.Common.{◌≡◌, ◌+◌, ◌++◌, sym, ap, ◌∙◌, arith}
use Rattle.call_meaning.specs.Tables.{command, commands}
use Rattle.call_inline.specs.Levels.{calls_in, calls_at, deepest, first_deep}
use Rattle.call_inline.proofs.Deepest.{deepest_both, none_both}
use Rattle.call_inline.proofs.Sizes.{size, size_of}
use Rattle.call_inline.proofs.nesting.+levels.Goals as goal

pub levels_of-loop-left-preserved : goal.levels_of-loop-left-preserved
levels_of-loop-left-preserved t c =
    let h = c.loop-left.invariant in
    let split : calls_in c.loop-left.left.now ≡ calls_at c.deref.result.now.at c.deref-in-Then.result.now.kind ++ calls_in c.deref-left.result.now =
    rw (c.deref.ensures, c.deref-in-Then.ensures, c.deref-left.ensures) (ap calls_in c.in-Then.is) in
    let sizes : size (commands c.loop-left.left.now) ≡ size_of (command c.deref-in-Then.result.now.kind) + size (commands c.deref-left.result.now) =
    rw (c.deref-in-Then.ensures, c.deref-left.ensures) (ap (λ b. size (commands b)) c.in-Then.is) in
    record {
      fewer = let fewer = h.fewer in omega arith;
      deepest =
          ap (λ n. deepest c.args.levels.now n (calls_in c.deref-left.result.now)) c.in_ok-most.ensures.deepest
          ∙ sym (deepest_both c.args.levels.now c.loop-left.most (calls_at c.deref.result.now.at c.deref-in-Then.result.now.kind) (calls_in c.deref-left.result.now))
          ∙ ap (λ calls. deepest c.args.levels.now c.loop-left.most calls) (sym split)
          ∙ h.deepest;
      first =
          sym (none_both c.args.levels.now (calls_at c.deref.result.now.at c.deref-in-Then.result.now.kind) (calls_in c.deref-left.result.now) c.in_ok-most.ensures.none)
          ∙ ap (λ calls. first_deep c.args.levels.now calls) (sym split)
          ∙ h.first;
    }
