use Rattle.std.proofs.Common.{ℤ, List}
use Rattle.interval_dom.specs.Boxes.{Has}
use Rattle.linear_cons.specs.Rows.{MeetsAll}
use Rattle.num_domain.specs.Domain.{IsStore}
use Rattle.poly_dom.proofs.judging.refine.Given as goal

abbrev pub invariant-loop-row : goal.invariant-loop-row
invariant-loop-row l = (store : List ℤ) → IsStore store → MeetsAll store l.rows → Has l.fn.around store → Has l.around store
