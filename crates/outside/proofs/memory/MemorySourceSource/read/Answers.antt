use Rattle.std.proofs.Common.{refl, ap, ◌∙◌, take, drop, arith}
use Rattle.outside.proofs.Consumed.{next_bytes}
use Rattle.outside.proofs.memory.MemorySourceSource.read.Goals as goal

pub returns-clause-gives : goal.returns-clause-gives
returns-clause-gives c =
    let n = c.copy_front-count.result in
    let place = c.args.self.now.position in
    let left = c.split_at.ensures.back ∙ ap (drop place) c.as_slice.ensures.value in
    (omega arith, omega arith, next_bytes _ _ place n (c.copy_front-count.ensures.copied ∙ ap (take n) left), refl)
