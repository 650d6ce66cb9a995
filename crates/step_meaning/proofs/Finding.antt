-- What is found, and what there is.
use Rattle.std.proofs.Common.{◌≡◌, ℕ, ◌+◌, ◌*◌, ◌^◌, ◌<◌, ◌≤◌, pos, inl, inr, ◌↔◌, Option, Some, None, IsTrue, is_some, SomeIff, IfSome, IfNone, refl, sym, ap, subst, arith}
use Rattle.std.specs.Bool.{⊤}
use Rattle.linear_cons.specs.declared.affine.Affine.{Affine}
use Rattle.linear_cons.specs.declared.row.Row.{Row}
use Rattle.linear_cons.specs.declared.row.RowKind.{RowKind}
use Rattle.linear_cons.specs.declared.row.RowKind.TheVariants.{Always, Never, Row as Kept}
use Rattle.linear_cons.specs.Functions.{constant_of}
use Rattle.linear_cons.specs.Rows.{IsRowOf}
use Rattle.linear_cons.proofs.RowKinds.{row_unique}
use Rattle.step_meaning.specs.declared.countdown.Countdown.{Countdown}
use Rattle.step_meaning.specs.declared.countdown.Countdown.TheVariants.{Straight, Loop}
use Rattle.step_meaning.specs.declared.expression.Op2.{Op2}
use Rattle.step_meaning.specs.declared.expression.Op2.TheVariants.{Add, Sub, Mul, Less, LessEqual, Greater, GreaterEqual, Equal, NotEqual, And, Or}
use Rattle.step_meaning.specs.Syntax.{Expression, number, variable, free, range, divided, truth, negative, negation, pair, Statements, assign, while_loop, sequence}
use Rattle.step_meaning.specs.Counts.{HasNoLoop}
use Rattle.step_meaning.specs.Countdown.{Asks, AsksByComparing, CountsDown, CountsFirst, CountsFrom, Finds, IsCountdown, IsCountdownBy, IsFirst, IsFirstCompared, form_of}
use Rattle.linear_cons.specs.Sizes.{total_size}
use Rattle.std.proofs.Math.Nat.{le_refl, mul-le-mul}
use Rattle.step_meaning.specs.Turns.{FindsFirst, MayPrecede}

pub finds_same : (o : Option Row) (P Q : Row → Type 0) → ((row : Row) → P row ↔ Q row) → Finds o P → Finds o Q
finds_same (Some row) P Q same h = (same row).0 h
finds_same None P Q same lacks = λ row q. lacks row ((same row).1 q)

abbrev affine_in : RowKind → Affine
affine_in (Kept row) = row.affine
affine_in Always = constant_of (pos 0)
affine_in Never = constant_of (pos 0)

abbrev IsKept : RowKind → Type 0
IsKept (Kept row) = ⊤
IsKept Always = ⊥
IsKept Never = ⊥

-- the constraint has one row
pub same_affine : (a : Affine) (row other : Row) → IsRowOf a (Kept row) → IsRowOf a (Kept other) → row.affine ≡ other.affine
same_affine a row other is too = ap affine_in (row_unique a (Kept row) (Kept other) is too)

pub kept : (a : Affine) (kind : RowKind) (row : Row) → IsRowOf a kind → IsRowOf a (Kept row) → IsKept kind
kept a kind row is too = subst IsKept (row_unique a (Kept row) kind too is) tt

is_one : (kind : Countdown) (body : Statements) → IsCountdownBy kind body → IsCountdown body
is_one Straight body h = inl h
is_one (Loop row) body h = inr (row, h.0)

pub countdown_found : (o : Option Countdown) (body : Statements) → IfSome o (λ kind. IsCountdownBy kind body) → IfNone o (¬ IsCountdown body) → IsTrue (is_some o) ↔ IsCountdown body
countdown_found (Some kind) body some none = (λ t. is_one kind body some, λ h. refl)
countdown_found None body some none = (λ t. absurd (cc), λ h. absurd (none h))

-- the first row of a test is one of its rows
module _ (P : Row → Type 0) where
  compared_asked : (op : Op2) (a b : Expression) (row : Row) → IsFirstCompared P op a b row → AsksByComparing op a b row × P row
  compared_asked GreaterEqual a b row first = first
  compared_asked Greater a b row first = first
  compared_asked LessEqual a b row first = first
  compared_asked Less a b row first = first
  compared_asked Equal a b row (inl first) = (inl first.0, first.1)
  compared_asked Equal a b row (inr second) = (inr second.1, second.2)
  compared_asked NotEqual a b row first = absurd first
  compared_asked Add a b row first = absurd first
  compared_asked Sub a b row first = absurd first
  compared_asked Mul a b row first = absurd first
  compared_asked And a b row first = absurd first
  compared_asked Or a b row first = absurd first

  pub first_asked : (test : Expression) (row : Row) → IsFirst P test row → Asks test row × P row
  first_asked (pair And a b) row (inl left) = let is = first_asked a row left in (inl is.0, is.1)
  first_asked (pair And a b) row (inr right) = let is = first_asked b row right.1 in (inr is.0, is.1)
  first_asked (pair Less a b) row first = let is = compared_asked Less a b row first.3 in ((first.0, first.1, first.2, is.0), is.1)
  first_asked (pair LessEqual a b) row first = let is = compared_asked LessEqual a b row first.3 in ((first.0, first.1, first.2, is.0), is.1)
  first_asked (pair Greater a b) row first = let is = compared_asked Greater a b row first.3 in ((first.0, first.1, first.2, is.0), is.1)
  first_asked (pair GreaterEqual a b) row first = let is = compared_asked GreaterEqual a b row first.3 in ((first.0, first.1, first.2, is.0), is.1)
  first_asked (pair Equal a b) row first = let is = compared_asked Equal a b row first.3 in ((first.0, first.1, first.2, is.0), is.1)
  first_asked (pair NotEqual a b) row first = absurd first.3
  first_asked (pair Or a b) row first = absurd first
  first_asked (pair Add a b) row first = absurd first
  first_asked (pair Sub a b) row first = absurd first
  first_asked (pair Mul a b) row first = absurd first
  first_asked (number z) row first = absurd first
  first_asked (variable x) row first = absurd first
  first_asked free row first = absurd first
  first_asked (range lo hi) row first = absurd first
  first_asked (divided division e b) row first = absurd first
  first_asked (truth b) row first = absurd first
  first_asked (negative e) row first = absurd first
  first_asked (negation c) row first = absurd first

-- what a loop counts down
module _ (test : Expression) (body step more block : Statements) where
  pub loop_found : (p : ℕ) (found : Option Row) → HasNoLoop more
      → ((row : Row) → CountsFrom row p (sequence (while_loop test body step) more) ↔ CountsFrom row 1 block)
      → FindsFirst found (λ row. CountsDown body step row.affine) test → Finds found (λ row. CountsFrom row 1 block)
  loop_found p (Some row) ends same first = let is = first_asked (λ row. CountsDown body step row.affine) test row first in (same row).0 (is.0, is.1, ends)
  loop_found p None ends same none = λ row counts. let is = (same row).1 counts in none row is.0 is.1

  pub loop_first : (found : Option Row) → ((row : Row) → CountsFirst row (sequence (while_loop test body step) more) ↔ CountsFirst row block)
      → FindsFirst found (λ row. CountsDown body step row.affine) test → IfSome found (λ row. CountsFirst row block)
  loop_first (Some row) same first = (same row).0 first
  loop_first None same none = tt

-- an assignment before a loop, whose factor goes into the product
module _ (p q : ℕ) (v : Expression) (may : MayPrecede p v) (made : q ≡ p * (1 + total_size (form_of v))) where
  pub some_factor : 0 < p → 0 < q
  some_factor some = let more : p * 1 ≤ p * (1 + total_size (form_of v)) = mul-le-mul (le_refl p) (omega arith) in omega arith

  pub small_factor : q ≤ 2 ^ 60
  small_factor = subst (λ n. n ≤ 2 ^ 60) (sym made) may.2

  pub assigned_before : (x : ℕ) (more block : Statements) (row : Row) → CountsFrom row p (sequence (assign x v) more) ↔ CountsFrom row 1 block → CountsFrom row q more ↔ CountsFrom row 1 block
  assigned_before x more block row same = (
    λ counts. same.0 (may.0, may.1, may.2, subst (λ n. CountsFrom row n more) made counts),
    λ counts. subst (λ n. CountsFrom row n more) (sym made) (same.1 counts).3,
  )

-- nothing is answered where the fact fails
pub lacks : {T : Type 0} (o : Option T) (P : Type 0) (v : T) → o ≡ None → ¬ P → SomeIff o P v
lacks (Some x) P v none h = absurd (cc)
lacks None P v none h = h
