-- The lines of a tree's leaves, put together from those of its sides.
use Rattle.std.proofs.Common.{◌≡◌, List, [], ◌∷◌, ◌++◌, length, get_or, sym, ap, subst, ◌∙◌, arith}
use Rattle.std.proofs.lemmas.List.{append-nil, append_assoc, append_cancel_right, map-append, length_push}
use Rattle.std.proofs.Math.Seq.{get_or-append_seam}
use Rattle.linear_cons.specs.declared.affine.Affine.{Affine}
use Rattle.linear_cons.specs.declared.row.Row.{Row}
use Rattle.linear_cons.specs.Functions.{complement_of}
use Rattle.linear_solve.specs.Answers.{HasNoStore}
use Rattle.decision_tree.specs.declared.affine_rank.AffineRank.{AffineRank}
use Rattle.decision_tree.specs.Plans.{Plan, branch}
use Rattle.line_text.specs.LineText.{functions_of}
use Rattle.line_text.specs.declared.claim.Claim.{Claim}
use Rattle.report_text.specs.declared.line.Line.{Line}
use Rattle.report_text.specs.declared.line.Top.{Top}
use Rattle.linear_cons.specs.Tightest.{AreTightest}
use Rattle.report_text.proofs.Tightening.{tightest_met}
use Rattle.report_text.specs.Leaves.{AreLines, AreLinesOf, IsLineOf, claim_of, leaves_below, none, skipped, stands}
use Rattle.report_text.specs.Walk.{AreAdded}
use Rattle.decision_tree.specs.Trails.{IsShortened, IsTurned}

-- ---- lines one after the other

pub both_lines : {first second : List (List Affine × Claim)} {xs ys : List Line} → AreLines first xs → AreLines second ys
    → AreLines (first ++ second) (xs ++ ys)
both_lines none there = there
both_lines (skipped nowhere more) there = skipped nowhere (both_lines more there)
both_lines (stands is more) there = stands is (both_lines more there)

pub both_added : (first second : List (List Affine × Claim)) (old between new : List Line) → AreAdded first old between → AreAdded second between new
    → AreAdded (first ++ second) old new
both_added first second old between new here there = record {
  added = here.added ++ there.added;
  appended = there.appended ∙ ap (λ t. t ++ there.added) here.appended ∙ append_assoc old here.added there.added;
  lines = both_lines here.lines there.lines;
}

-- ---- a leaf

-- no store meets the tightest rows, so none meets the path
pub none_added : (path : List Affine) (kept : List Row) (claim : Claim) (old : List Line) → AreTightest path kept → HasNoStore kept
    → AreAdded ((path, claim) ∷ []) old old
none_added path kept claim old tightest nowhere = record {
  added = [];
  appended = sym (append-nil old);
  lines = skipped (λ store met. nowhere store ((tightest_met path kept store tightest).1 met)) none;
}

pub one_added : (path : List Affine) (line : Line) (claim : Claim) (old new : List Line) → new ≡ old ++ line ∷ [] → IsLineOf path claim line
    → AreAdded ((path, claim) ∷ []) old new
one_added path line claim old new is line_is = record { added = line ∷ []; appended = is; lines = stands line_is none }

-- ---- the path's last row

pub last_same : (front old : List Row) (row last : Row) → front ++ row ∷ [] ≡ old ++ last ∷ [] → (front ≡ old) × (row ≡ last)
last_same front old row last is =
    let long : length front ≡ length old = let e = ap length is in omega (arith, e, length_push front row, length_push old last) in
    let same : row ≡ last = sym (get_or-append_seam front row [] row) ∙ ap (λ t. get_or t (length front) row) is ∙ ap (λ n. get_or (old ++ last ∷ []) n row) long ∙ get_or-append_seam old last [] row in
    (append_cancel_right front old (last ∷ []) (ap (λ t. front ++ t ∷ []) (sym same) ∙ is), same)

with_last : (old : List Row) (row : Row) (rows : List Row) → rows ≡ old ++ row ∷ [] →
    functions_of rows ≡ functions_of old ++ row.affine ∷ []
with_last old row rows is = ap (λ t. functions_of t) is ∙ map-append (λ (r : Row). r.affine) old (row ∷ [])

-- down the yes side, over to the no side
pub node_lines : {R : Type 0} (claims : R → Claim) (old down between turned : List Row) (row : Row) (this that : Plan R) (first second third : List Line)
    → down ≡ old ++ row ∷ [] → between ≡ down → IsTurned between turned → AreAdded (leaves_below claims (functions_of down) this) first second
    → AreAdded (leaves_below claims (functions_of turned) that) second third
    → AreAdded (leaves_below claims (functions_of old) (branch row this that)) first third
node_lines claims old down between turned row this that first second third is kept turns here there =
    let turn = turns old row (kept ∙ is) in
    both_added (leaves_below claims (functions_of old ++ row.affine ∷ []) this)
    (leaves_below claims (functions_of old ++ complement_of row.affine ∷ []) that) first second third
    (subst (λ above. AreAdded (leaves_below claims above this) first second) (with_last old row down is) here)
    (subst (λ above. AreAdded (leaves_below claims above that) second third)
    (with_last old turn.0 turned turn.2 ∙ ap (λ t. functions_of old ++ t ∷ []) turn.1) there)

-- and up again
pub came_back : (old down between turned after new : List Row) (row : Row) → down ≡ old ++ row ∷ [] → between ≡ down → IsTurned between turned → after ≡ turned → IsShortened after new → new ≡ old
came_back old down between turned after new row is kept turns stayed up =
    let turn = turns old row (kept ∙ is) in
    up old turn.0 (stayed ∙ turn.2)

-- the lines of the whole tree
pub all_lines : (claims : Top) (plan : Plan AffineRank) (path : List Row) (nothing lines : List Line) → path ≡ [] → nothing ≡ []
    → AreAdded (leaves_below (claim_of claims) (functions_of path) plan) nothing lines → AreLinesOf claims plan lines
all_lines claims plan path nothing lines empty is added =
    let from : AreAdded (leaves_below (claim_of claims) [] plan) [] lines = rw (empty, is) at added in
    subst (λ t. AreLines (leaves_below (claim_of claims) [] plan) t) (sym from.appended) from.lines
