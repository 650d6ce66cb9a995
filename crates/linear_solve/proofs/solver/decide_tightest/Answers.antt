use Rattle.std.proofs.Common.{refl, rules}
use Rattle.std.proofs.lemmas.Int.{to_z-of_z}
use Rattle.linear_cons.specs.Numbers.{Fits128}
use Rattle.std.proofs.lemmas.Bool.{false≢true}
use Rattle.linear_solve.proofs.Deciding.{no_store_of_opposed, outgrow, overflow, tame_kept}
use Rattle.linear_solve.proofs.Keeping.{stand_themselves, tightest_itself}
use Rattle.linear_solve.proofs.solver.decide_tightest.Goals as goal

pub returns-in-Some : goal.returns-in-Some
returns-in-Some c = c.answer_of.ensures c.args.rows.now (rw c.in-Some.is at c.in_ok-finding.ensures)

pub returns-then-has_opposed : goal.returns-then-has_opposed
returns-then-has_opposed c = no_store_of_opposed c.args.rows.now (c.if-has_opposed.ensures.0 refl)

pub returns-in-Ok-None : goal.returns-in-Ok-None
returns-in-Ok-None c =
    let none = rw c.in-Ok-None.field-0-is at c.in-Ok-None.ensures.found in
    none

pub returns-in-Ok-Some : goal.returns-in-Ok-Some
returns-in-Ok-Some c =
    let found = rw c.in-Ok-Some.field-0-is at c.in-Ok-Some.ensures.found in
    let simplest = c.simplest-simplest.ensures in
    let den : Fits128 c.simplest-simplest.result.den = search rules in
    simp to_z-of_z (simplest found)

pub returns-in-Err-Wide : goal.returns-in-Err-Wide
returns-in-Err-Wide c =
    let outside = rw c.in-Err-Wide.field-0-is at c.in-Err-Wide.ensures.wide in
    let never = rw c.in-Err-Wide.field-0-is at c.in-Err-Wide.ensures.immodest in
    let wild = rw c.in-Err-Wide.field-0-is at c.in-Err-Wide.ensures.wild in (
      outside,
      record {
        unopposed = λ opposed. false≢true (c.if-has_opposed.ensures.1 opposed);
        no_octagons = λ octagons. wild _ (tame_kept c.args.rows.now c.args.rows.now (stand_themselves c.args.rows.now c.requires.distinct) octagons);
        large = outgrow c.args.rows.now c.args.rows.now (stand_themselves c.args.rows.now c.requires.distinct) never;
      },
    )

pub returns-in-Err-Rows : goal.returns-in-Err-Rows
returns-in-Err-Rows c =
    let above = rw c.in-Err-Rows.field-0-is at c.in-Err-Rows.ensures.many in
    let many = rw c.in-Err-Rows.field-0-is at c.in-Err-Rows.ensures.counted in
    let outgrown = rw c.in-Err-Rows.field-0-is at c.in-Err-Rows.ensures.outgrown in
    let wild = rw c.in-Err-Rows.field-0-is at c.in-Err-Rows.ensures.wild in (
      above,
      record {
        unopposed = λ opposed. false≢true (c.if-has_opposed.ensures.1 opposed);
        no_octagons = λ octagons. wild _ (tame_kept c.args.rows.now c.args.rows.now (stand_themselves c.args.rows.now c.requires.distinct) octagons);
        many = overflow c.args.rows.now c.args.rows.now (stand_themselves c.args.rows.now c.requires.distinct) many;
        outgrown = record {
          kept = c.args.rows.now;
          tightest = tightest_itself c.args.rows.now c.requires.distinct;
          outgrown = outgrown;
        };
      },
    )
