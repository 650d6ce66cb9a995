-- How large the trees before a step are, by those behind it.
use Rattle.std.specs.Bool.{⊤}
use Rattle.std.proofs.Common.{◌≡◌, inl, inr, ℕ, suc, ◌+◌, ◌*◌, ◌≤◌, Bool, true, false, cond, List, [], ◌∷◌, ◌++◌, length, sym, ap, subst, ◌∙◌, arith}
use Rattle.std.proofs.Math.Nat.{mul_assoc, suc-mul}
use Rattle.linear_cons.specs.Functions.{substituted}
use Rattle.linear_cons.specs.Rows.{complement, row_kind_of}
use Rattle.linear_cons.specs.Settling.{settles}
use Rattle.linear_cons.specs.declared.affine.Affine.{Affine}
use Rattle.linear_cons.specs.declared.row.Row.{Row}
use Rattle.linear_cons.specs.declared.row.RowKind.{RowKind}
use Rattle.linear_cons.specs.declared.row.RowKind.TheVariants.{Always, Never, Row as Kept}
use Rattle.linear_forms.specs.Duality.{AreDual, EachOf, SomeOf}
use Rattle.decision_tree.specs.Nodes.{node}
use Rattle.decision_tree.specs.Plans.{Plan, bottom, branch, leaf, size_of, top}
use Rattle.decision_tree.specs.Alternatives.{Alternatives}
use Rattle.tree_unify.specs.Shapes.{on_side}
use Rattle.backward_transfer.specs.Tests.{IsLaterSmall, TestAsks, enabled, failure_tried, not_refuted, rows_asked, tested, tried}
use Rattle.backward_transfer.specs.Steps.{asked, assigned, stepped}
use Rattle.backward_transfer.proofs.Making.{node_most}
use Rattle.control_flow.specs.Measures.{leaves_asking}
use Rattle.unroll.proofs.Agreeing.{AreAgreeing, Extends, last_told, none_agree, settled_held, settled_refuted, some_kept}
use Rattle.unroll.proofs.DualAsks.{Held, Turned, all_ask, down_agrees, dual_asks, each_refuted, refuted, side_by, some_held, some_left, turned_agrees, turned_on}
use Rattle.unroll.proofs.SpreadRows.{IsLong}

module _ {R : Type 0} (same : R → R → Bool) where
  pub node_bound : (row : Row) (this that : Plan R) (m n : ℕ) → size_of this + 1 ≤ m → size_of that + 1 ≤ n → size_of (node same row this that) + 1 ≤ m + n
  node_bound row this that m n here there = let most = node_most same row this that in omega arith

  pub stepped_size : (one_more : R → R) (plan : Plan R) → size_of (stepped same one_more plan) ≤ size_of plan
  stepped_size one_more bottom = omega arith
  stepped_size one_more (top cause) = omega arith
  stepped_size one_more (leaf why rank) = omega arith
  stepped_size one_more (branch row this that) =
      let first = stepped_size one_more this in
      let second = stepped_size one_more that in
      let most = node_most same row (stepped same one_more this) (stepped same one_more that) in
      omega (arith, first, second, most)

  kind_most : (kind : RowKind) (this that : Plan R) → size_of (asked same kind this that) ≤ size_of this + size_of that + 1
  kind_most Always this that = omega arith
  kind_most Never this that = omega arith
  kind_most (Kept row) this that = node_most same row this that

  pub assigned_size : (put : R → ℕ → Affine → R) (one_more : R → R) (place : ℕ) (by : Affine) (plan : Plan R) → size_of (assigned same put one_more place by plan) ≤ size_of plan
  assigned_size put one_more place by bottom = omega arith
  assigned_size put one_more place by (top cause) = omega arith
  assigned_size put one_more place by (leaf why rank) = omega arith
  assigned_size put one_more place by (branch row this that) =
      let first = assigned_size put one_more place by this in
      let second = assigned_size put one_more place by that in
      let most = kind_most (row_kind_of (substituted row.affine place by)) (assigned same put one_more place by this) (assigned same put one_more place by that) in
      omega (arith, first, second, most)

  asked_bound : (rows : List Row) (holds fails : List Row → Plan R) (m n : ℕ) (path : List Row) → AreAgreeing path → EachOf IsLong rows
      → ((way : List Row) → AreAgreeing way → Extends path way → EachOf (Held way) rows → size_of (holds way) + 1 ≤ m)
      → ((way : List Row) → AreAgreeing way → Extends path way → SomeOf (Turned way) rows → size_of (fails way) + 1 ≤ n)
      → size_of (rows_asked same rows holds fails path) + 1 ≤ m + length rows * n
  asked_bound [] holds fails m n path agree long first second = let own = first path agree (λ a some. some) tt in omega (arith, own)
  asked_bound (row ∷ rest) holds fails m n path agree long first second =
      let product = suc-mul (length rest) n in
      side_by
      (λ t. size_of (on_side t (rows_asked same rest holds fails path) (fails path)
      (node same row (rows_asked same rest holds fails (path ++ row ∷ [])) (fails (path ++ complement row ∷ [])))) + 1 ≤ m + suc (length rest) * n)
      (settles path row)
      (λ is.
      let some = settled_held path row is in
      let own = asked_bound rest holds fails m n path agree long.1 (λ way fair on each. first way fair on (on row.affine some, each)) (λ way fair on one. second way fair on (inr one)) in
      omega (arith, own, product))
      (λ is. let own = second path agree (λ a some. some) (inl (settled_refuted path row is)) in omega (arith, own, product))
      (λ none.
      let one = asked_bound rest holds fails m n (path ++ row ∷ []) (down_agrees path row long.0 agree none) long.1
      (λ way fair on each. first way fair (λ a some. on a (some_kept path (row ∷ []) a some)) (on row.affine (last_told path row), each))
      (λ way fair on one. second way fair (λ a some. on a (some_kept path (row ∷ []) a some)) (inr one)) in
      let two = second (path ++ complement row ∷ []) (turned_agrees path row long.0 agree none) (λ a some. some_kept path (complement row ∷ []) a some) (inl (last_told path (complement row))) in
      let both = node_bound row (rows_asked same rest holds fails (path ++ row ∷ [])) (fails (path ++ complement row ∷ [])) (m + length rest * n) n one two in
      omega (arith, both, product))

  tried_bound : (conjunctions : List (List Row)) (found : Bool → List Row → Plan R) (m : ℕ) (path : List Row) → AreAgreeing path → EachOf (EachOf IsLong) conjunctions
      → ((way : List Row) → AreAgreeing way → Extends path way → SomeOf (EachOf (Held way)) conjunctions → size_of (found true way) + 1 ≤ m)
      → ((way : List Row) → AreAgreeing way → Extends path way → EachOf (SomeOf (Turned way)) conjunctions → size_of (found false way) + 1 ≤ m)
      → size_of (tried same conjunctions found path) + 1 ≤ leaves_asking conjunctions * m
  tried_bound [] found m path agree long first second = let own = second path agree (λ a some. some) tt in omega (arith, own)
  tried_bound (rows ∷ rest) found m path agree long first second =
      let whole = asked_bound rows (found true) (tried same rest found) m (leaves_asking rest * m) path agree long.0
      (λ way fair on each. first way fair on (inl each))
      (λ way fair on one. tried_bound rest found m way fair long.1
      (λ further far beyond some. first further far (λ a told. beyond a (on a told)) (inr some))
      (λ further far beyond each. second further far (λ a told. beyond a (on a told)) (turned_on way further beyond rows one, each))) in
      let count : ℕ = length rows * leaves_asking rest in
      let one : 1 + count ≡ suc count = omega arith in
      let product : (1 + count) * m ≡ length rows * (leaves_asking rest * m) + m =
      ap (λ n. n * m) one ∙ suc-mul count m ∙ ap (λ n. n + m) (mul_assoc (length rows) (leaves_asking rest) m) in
      omega (arith, whole, product)

-- ---- a test of which just one outcome is possible at each store

module _ (holds fails : List (List Row)) (long : EachOf (EachOf IsLong) holds) (dual : AreDual holds fails) where
  module _ {R : Type 0} (same : R → R → Bool) (where_greater : R → R → Alternatives) (greater_fits : R → R → Type 0) (one_more : R → R) (this that : Plan R) where
    abbrev at_end : Bool → Bool → Plan R
    at_end = enabled same where_greater greater_fits one_more this that

    held_failure : (way : List Row) → AreAgreeing way → SomeOf (EachOf (Held way)) holds
        → failure_tried same where_greater greater_fits one_more this that fails true way ≡ stepped same one_more this
    held_failure way agree some =
        let left = some_left way agree holds fails long dual.exclude some in
        ap (λ t. cond t (at_end true true) (tried same (not_refuted way fails) (λ other on. at_end true other) way)) left.1
        ∙ ap (λ list. tried same list (λ other on. at_end true other) way) left.0

    refuted_failure : (way : List Row) → AreAgreeing way → EachOf (SomeOf (Turned way)) holds
        → failure_tried same where_greater greater_fits one_more this that fails false way ≡ stepped same one_more that
    refuted_failure way agree each =
        let some = some_held way agree fails (dual.hold (refuted way agree) (each_refuted way agree holds each)) in
        ap (λ t. cond t (at_end false true) (tried same (not_refuted way fails) (λ other on. at_end false other) way)) some

    pub dual_size : size_of (tested same where_greater greater_fits one_more this that holds fails) + 1 ≤ leaves_asking holds * (size_of this + size_of that + 1)
    dual_size =
        tried_bound same holds (failure_tried same where_greater greater_fits one_more this that fails) (size_of this + size_of that + 1) [] none_agree long
        (λ way fair on some.
        let most = stepped_size same one_more this in
        subst (λ plan. size_of plan + 1 ≤ size_of this + size_of that + 1) (sym (held_failure way fair some)) (omega (arith, most)))
        (λ way fair on each.
        let most = stepped_size same one_more that in
        subst (λ plan. size_of plan + 1 ≤ size_of this + size_of that + 1) (sym (refuted_failure way fair each)) (omega (arith, most)))

    pub dual_later : TestAsks (λ row. ⊤) (IsLaterSmall same where_greater greater_fits this that) fails holds
    dual_later =
        dual_asks (λ row. ⊤) (IsLaterSmall same where_greater greater_fits this that) holds fails long dual (all_ask IsLong (λ row. ⊤) (λ row own. tt) holds long) tt tt
