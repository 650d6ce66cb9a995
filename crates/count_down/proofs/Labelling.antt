-- A candidate has a tree for each label, and no undefined leaf.
use Rattle.std.proofs.Common.{◌≡◌, ℕ, ◌+◌, ◌*◌, ℤ, List, [], ◌∷◌, map, length, All, refl, ◌∙◌, arith}
use Rattle.std.proofs.lemmas.List.{length-append, length-map}
use Rattle.std.proofs.lemmas.List.Elements.{All-append, All-cons}
use Rattle.linear_cons.specs.declared.affine.Affine.{Affine}
use Rattle.linear_cons.specs.declared.row.Row.{Row}
use Rattle.linear_cons.specs.declared.row.RowKind.{RowKind}
use Rattle.linear_cons.specs.declared.row.RowKind.TheVariants.{Always, Never, Row as Kept}
use Rattle.linear_cons.specs.Rows.{row_kind_of}
use Rattle.decision_tree.specs.Plans.{Plan}
use Rattle.decision_tree.specs.declared.affine_rank.AffineRank.{AffineRank}
use Rattle.step_meaning.specs.declared.count.Count.{Count}
use Rattle.step_meaning.specs.declared.countdown.Countdown.{Countdown}
use Rattle.step_meaning.specs.declared.countdown.Countdown.TheVariants.{Straight, Loop}
use Rattle.step_meaning.specs.Counts.{HasNoLoop, before, none}
use Rattle.step_meaning.specs.Countdown.{CountsFrom, CountsDown, IsCountdownBy, change_by, form_of}
use Rattle.linear_cons.specs.Sizes.{total_size}
use Rattle.step_meaning.specs.Syntax.{Expression, Statement, Statements, assign, skip, return, break, continue, if_else, while_loop, do_while, empty, sequence, size_of, size_of_statement}
use Rattle.count_down.specs.Building.{AreMeasured, IsMeasured, trees_by}
use Rattle.count_down.specs.Candidates.{behind, candidate_by, counting, inner, inside, last_steps, most_within, nothing, turn_counts, turn_steps}
use Rattle.count_down.specs.LabelCounts.{counts_of, counts_of_statement}
use Rattle.count_down.specs.Trees.{count_tree, ended, split, within}
use Rattle.decision_tree.specs.Extent.{IsWhole}
use Rattle.count_down.proofs.Measured.{counting_measured, free_measured}

-- label 0 stands before the others
pub with_end : (countdown : Countdown) (body : Statements) → ended ∷ trees_by countdown body ≡ candidate_by countdown body
with_end Straight body = refl
with_end (Loop row) body = refl

-- ---- lengths
module _ (e : Affine) (by : ℕ → Expression → ℤ) where
  mutual
    pub length_one : (s : Statement) (c : Count) → IsMeasured e s → length (counts_of_statement by s c) ≡ size_of_statement s
    length_one (assign x v) c measured = refl
    length_one skip c measured = refl
    length_one return c measured = refl
    length_one break c measured = refl
    length_one continue c measured = refl
    length_one (if_else test first second) c measured =
        let one = length_counts first c measured.0 in
        let two = length_counts second c measured.1 in
        let both = length-append (counts_of by first c) (counts_of by second c) in
        omega arith
    length_one (while_loop test body step) c measured = absurd measured
    length_one (do_while body test) c measured = absurd measured

    pub length_counts : (s : Statements) (c : Count) → AreMeasured e s → length (counts_of by s c) ≡ size_of s
    length_counts empty c measured = refl
    length_counts (sequence first more) c measured =
        let one = length_one first (before by more c) measured.0 in
        let two = length_counts more c measured.1 in
        let both = length-append (counts_of_statement by first (before by more c)) (counts_of by more c) in
        omega arith

length_behind : (s : Statements) → HasNoLoop s → length (behind s) ≡ size_of s
length_behind s free =
    length-map (counts_of (change_by nothing) s none) most_within
    ∙ length_counts nothing (change_by nothing) s none (free_measured s free)

pub length_turn : (e : Affine) (body step : Statements) → CountsDown body step e → length (turn_counts e body step) ≡ size_of body + size_of step
length_turn e body step counts =
    let by = change_by e in
    let one = length_counts e by body (before by step none) (counting_measured e body counts.in_body) in
    let two = length_counts e by step none (counting_measured e step counts.in_step) in
    let both = length-append (counts_of by body (before by step none)) (counts_of by step none) in
    omega arith

length_counting : (row : Row) (p : ℕ) (s : Statements) → CountsFrom row p s → length (counting row.affine s) ≡ size_of s
length_counting row p (sequence (assign x v) more) counts = let later = length_counting row (p * (1 + total_size (form_of v))) more counts.3 in omega arith
length_counting row p (sequence (while_loop test body step) more) counts =
    let e = row.affine in
    let m = turn_steps e body step in
    let s = last_steps more in
    let parts = length-append (inner m s e body step) (behind more) in
    let first = length-map (turn_counts e body step) (inside m s e) in
    let turn = length_turn e body step counts.1 in
    let last = length_behind more counts.2 in
    omega arith
length_counting row p other counts = absurd counts

-- as many trees as labels
pub length_candidate : (countdown : Countdown) (body : Statements) → IsCountdownBy countdown body → length (candidate_by countdown body) ≡ 1 + size_of body
length_candidate Straight body free = let later = length_behind body free in omega arith
length_candidate (Loop row) body counts = let later = length_counting row 1 body counts.0 in omega arith

-- ---- leaves

split_whole : (kind : RowKind) (a b : Affine) → IsWhole (split kind (within a) (within b))
split_whole Always a b = tt
split_whole Never a b = tt
split_whole (Kept row) a b = (tt, tt)

map_whole : {A : Type 0} (f : A → Plan AffineRank) → ((x : A) → IsWhole (f x)) → (xs : List A) → All IsWhole (map f xs)
map_whole f each [] = λ k d low. absurd (omega arith)
map_whole f each (x ∷ xs) = All-cons IsWhole (f x) (map f xs) (each x) (map_whole f each xs)

pub tree_whole : (m s : ℕ) (e : Affine) (k : ℕ) → IsWhole (count_tree m s e k)
tree_whole m s e k = split_whole (row_kind_of e) _ _

behind_whole : (s : Statements) → All IsWhole (behind s)
behind_whole s = map_whole most_within (λ c. tt) (counts_of (change_by nothing) s none)

counting_whole : (e : Affine) (s : Statements) → All IsWhole (counting e s)
counting_whole e (sequence (assign x v) more) = All-cons IsWhole _ (counting e more) (tree_whole _ _ _ _) (counting_whole e more)
counting_whole e (sequence (while_loop test body step) more) =
    All-cons IsWhole _ _ (tree_whole _ _ e 0)
    (All-append IsWhole _ (behind more) (map_whole _ (λ c. tree_whole _ _ _ _) (turn_counts e body step)) (behind_whole more))
counting_whole e other = λ k d low. absurd (omega arith)

-- no leaf is undefined
pub whole_candidate : (countdown : Countdown) (body : Statements) → All IsWhole (candidate_by countdown body)
whole_candidate Straight body = All-cons IsWhole ended (behind body) tt (behind_whole body)
whole_candidate (Loop row) body = All-cons IsWhole ended (counting row.affine body) tt (counting_whole row.affine body)
