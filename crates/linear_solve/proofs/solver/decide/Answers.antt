use Rattle.std.proofs.Common.{arith}
use Rattle.linear_solve.proofs.Keeping.{answer_of_kept}
use Rattle.linear_solve.proofs.solver.decide.Goals as goal

pub returns-in-Some : goal.returns-in-Some
returns-in-Some c = c.answer_of.ensures c.args.rows.now (rw c.in-Some.is at c.glance.ensures)

pub decide_tightest-requires : goal.decide_tightest-requires
decide_tightest-requires c = record {
  few = rw c.deref.ensures.value (let few = c.requires in let short = c.in_ok-kept.ensures.stands.short in omega (arith, few, short));
  distinct = rw c.deref.ensures.value c.in_ok-kept.ensures.tightest.distinct;
}

pub returns : goal.returns
returns c =
    answer_of_kept c.args.rows.now c.in_ok-kept.kept.items c.in_ok-answer.answer c.in_ok-kept.ensures.stands c.in_ok-kept.ensures.tightest
    (rw c.deref.ensures.value at c.in_ok-answer.ensures)
