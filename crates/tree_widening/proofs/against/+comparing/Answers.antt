use Rattle.std.proofs.Common.{◌≡◌, ◌<◌, ◌≤◌, ◌+◌, [], ◌∷◌, drop, length, Some, true, false, refl, sym, ap, subst, ◌∙◌, arith}
use Rattle.std.proofs.lemmas.Result.{IfOk-weaker}
use Rattle.linear_cons.specs.declared.row.RowKind.TheVariants.{Always, Never, Row as Kept}
use Rattle.linear_cons.specs.Settling.{settles}
use Rattle.decision_tree.specs.Alternatives.{rows_of}
use Rattle.decision_tree.proofs.Comparing.{dropped_all, dropped_next}
use Rattle.tree_widening.specs.Judging.{IsBehindDecided, IsOneDecided}
use Rattle.tree_widening.proofs.Judging.{always_passed, first_met, never_left, no_more, none_left, not_first, row_fails, row_pushed}
use Rattle.tree_widening.proofs.against.+comparing.Goals as goal

pub exceeds_from-returns-then-branch-clause-decided : goal.exceeds_from-returns-then-branch-clause-decided
exceeds_from-returns-then-branch-clause-decided g t c =
    let all = g.R.Rank.where_greater c.args.next.now c.args.rank.now in
    let way = c.args.walk.now.trail in
    let few = c.requires.number in
    let long = g.met.R.Rank.greater_length_law c.args.next.now c.args.rank.now in
    let low : c.args.number < length all = omega (arith, few, long) in
    let parts = dropped_next all c.args.number (c.args.number + 1) c.args.part.now refl low c.requires.part in
    subst (λ list. IsOneDecided way list true) (sym parts)
    (first_met way c.args.part.now (drop (c.args.number + 1) all) (rw c.if-branch.true at c.in_ok-may_meet.ensures.decided))

pub exceeds_from-returns-in-Some-clause-decided : goal.exceeds_from-returns-in-Some-clause-decided
exceeds_from-returns-in-Some-clause-decided g t c =
    let all = g.R.Rank.where_greater c.args.next.now c.args.rank.now in
    let way = c.args.walk.now.trail in
    let few = c.requires.number in
    let long = g.met.R.Rank.greater_length_law c.args.next.now c.args.rank.now in
    let low : c.args.number < length all = omega (arith, few, long) in
    let left = drop (c.args.number + 1) all in
    let parts = dropped_next all c.args.number (c.args.number + 1) c.args.part.now refl low c.requires.part in
    let fails = rw c.if-branch.false at c.in_ok-may_meet.ensures.decided in
    IfOk-weaker c.exceeds_behind.result _ _
    (λ met decided. subst (λ list. IsOneDecided way list met) (sym parts) (not_first way c.args.part.now left met fails
    (subst (λ same. IsBehindDecided way (rows_of same) left met) (sym c.in-Some.is)
    (subst (λ path. IsBehindDecided path c.in-Some.same left met) c.in_ok-may_meet.ensures.trail decided))))
    c.exceeds_behind.ensures.decided

pub exceeds_from-returns-in-None-clause-decided : goal.exceeds_from-returns-in-None-clause-decided
exceeds_from-returns-in-None-clause-decided g t c =
    let all = g.R.Rank.where_greater c.args.next.now c.args.rank.now in
    let way = c.args.walk.now.trail in
    let few = c.requires.number in
    let long = g.met.R.Rank.greater_length_law c.args.next.now c.args.rank.now in
    let low : c.args.number < length all = omega (arith, few, long) in
    let left = drop (c.args.number + 1) all in
    let parts = dropped_next all c.args.number (c.args.number + 1) c.args.part.now refl low c.requires.part in
    let fails = rw c.if-branch.false at c.in_ok-may_meet.ensures.decided in
    IfOk-weaker c.exceeds_behind-in-None.result _ _
    (λ met decided. subst (λ list. IsOneDecided way list met) (sym parts) (not_first way c.args.part.now left met fails
    (subst (λ same. IsBehindDecided way (rows_of same) left met) (sym c.in-None.is)
    (subst (λ path. IsBehindDecided path [] left met) c.in_ok-may_meet.ensures.trail decided))))
    c.exceeds_behind-in-None.ensures.decided

pub exceeds_behind-overflow_add-after : goal.exceeds_behind-overflow_add-after
exceeds_behind-overflow_add-after g t c =
    let few = c.requires.number in
    let small = c.PARTS-parts.type_inv in
    let is = c.PARTS-parts.ensures in
    omega (arith, few, small, is)

pub exceeds_behind-returns-then-after-parts-clause-decided : goal.exceeds_behind-returns-then-after-parts-clause-decided
exceeds_behind-returns-then-after-parts-clause-decided g t c =
    let all = g.R.Rank.where_greater c.args.next.now c.args.rank.now in
    let way = c.args.walk.now.trail in
    let long = g.met.R.Rank.greater_length_law c.args.next.now c.args.rank.now in
    let is = c.PARTS-parts.ensures in
    let last = c.if-after-parts.true in
    let end : length all ≤ c.args.number + 1 = omega (arith, long, is, last) in
    subst (λ list. IsBehindDecided way c.args.same.now list false) (sym (dropped_all all (c.args.number + 1) end)) (no_more way c.args.same.now)

pub exceeds_behind-returns-in-Ok-clause-decided : goal.exceeds_behind-returns-in-Ok-clause-decided
exceeds_behind-returns-in-Ok-clause-decided g t c =
    let left = drop (c.args.number + 1) (g.R.Rank.where_greater c.args.next.now c.args.rank.now) in
    let way = c.args.walk.now.trail in
    IfOk-weaker c.exceeds_from.result _ _
    (λ met decided. none_left way c.args.same.now left met c.in_default.ensures.cases decided)
    c.exceeds_from.ensures.decided

pub exceeds_behind-returns-in-Always-clause-decided : goal.exceeds_behind-returns-in-Always-clause-decided
exceeds_behind-returns-in-Always-clause-decided g t c =
    let left = drop (c.args.number + 1) (g.R.Rank.where_greater c.args.next.now c.args.rank.now) in
    let way = c.args.walk.now.trail in
    let rest = c.in-Some.rest.now in
    let list : c.args.same.now ≡ Always ∷ rest = c.in-Some.ensures.cases.0 ∙ ap (λ kind. kind ∷ rest) c.in-Always.is in
    IfOk-weaker c.exceeds_behind.result _ _
    (λ met decided. subst (λ kinds. IsBehindDecided way kinds left met) (sym list) (always_passed way rest left met decided))
    c.exceeds_behind.ensures.decided

pub exceeds_behind-returns-in-Never-clause-decided : goal.exceeds_behind-returns-in-Never-clause-decided
exceeds_behind-returns-in-Never-clause-decided g t c =
    let left = drop (c.args.number + 1) (g.R.Rank.where_greater c.args.next.now c.args.rank.now) in
    let way = c.args.walk.now.trail in
    let rest = c.in-Some.rest.now in
    let list : c.args.same.now ≡ Never ∷ rest = c.in-Some.ensures.cases.0 ∙ ap (λ kind. kind ∷ rest) c.in-Never.is in
    subst (λ kinds. IsBehindDecided way kinds left false) (sym list) (never_left way rest left)

pub exceeds_behind-returns-in-Some-false-clause-decided : goal.exceeds_behind-returns-in-Some-false-clause-decided
exceeds_behind-returns-in-Some-false-clause-decided g t c =
    let left = drop (c.args.number + 1) (g.R.Rank.where_greater c.args.next.now c.args.rank.now) in
    let way = c.args.walk.now.trail in
    let rest = c.in-Some.rest.now in
    let list : c.args.same.now ≡ Kept c.in-Row.row ∷ rest = c.in-Some.ensures.cases.0 ∙ ap (λ kind. kind ∷ rest) c.in-Row.is in
    let opposed = c.in-Some-false.ensures in
    let settle : settles way c.in-Row.row ≡ Some false = subst (λ t. settles way c.in-Row.row ≡ Some t) c.in-Some-false.field-0-test (sym opposed) in
    subst (λ kinds. IsBehindDecided way kinds left false) (sym list) (row_fails way c.in-Row.row rest left settle)

pub exceeds_behind-returns-in_ok-met-in-Row-clause-decided : goal.exceeds_behind-returns-in_ok-met-in-Row-clause-decided
exceeds_behind-returns-in_ok-met-in-Row-clause-decided g t c =
    let left = drop (c.args.number + 1) (g.R.Rank.where_greater c.args.next.now c.args.rank.now) in
    let way = c.args.walk.now.trail in
    let rest = c.in-Some.rest.now in
    let list : c.args.same.now ≡ Kept c.in-Row.row ∷ rest = c.in-Some.ensures.cases.0 ∙ ap (λ kind. kind ∷ rest) c.in-Row.is in
    let decided = rw c.in_ok-down_by-in-Row.ensures.down at c.in_ok-met-in-Row.ensures.decided in
    subst (λ kinds. IsBehindDecided way kinds left c.in_ok-met-in-Row.met) (sym list)
    (row_pushed way c.in-Row.row rest left c.in_ok-met-in-Row.met decided)
