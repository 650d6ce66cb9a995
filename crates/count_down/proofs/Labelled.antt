-- The systems at a label whose tree counts down are blocked where its arcs are.
use Rattle.std.proofs.Common.{◌≡◌, ℕ, zero, suc, ◌+◌, ◌<◌, nat_lt, ℤ, pos, negsuc, ◌-ℤ◌, inl, inr, Bool, true, false, if◌then◌else◌, List, [], ◌∷◌, ◌++◌, None, All, Contains, refl, sym, subst, arith}
use Rattle.std.specs.List.{flat_map}
use Rattle.std.proofs.lemmas.Bool.Decides.{nat_tests}
use Rattle.std.proofs.lemmas.Int.{ints}
use Rattle.std.proofs.lemmas.List.Elements.{All-append, All-cons, Contains-append_right}
use Rattle.linear_cons.specs.declared.affine.Affine.{Affine}
use Rattle.linear_cons.specs.declared.row.RowKind.{RowKind}
use Rattle.linear_cons.specs.declared.row.RowKind.TheVariants.{Always, Never, Row as Kept}
use Rattle.linear_cons.specs.Functions.{complement_of, constant_of, value_at}
use Rattle.linear_cons.specs.Rows.{IsRowOf, row_kind_of}
use Rattle.linear_cons.proofs.Forms.{value_complement, value_constant}
use Rattle.linear_cons.proofs.KindLaws.{row_kind_is}
use Rattle.linear_cons.proofs.Ring.{mul_add, mul_one, one_mul}
use Rattle.linear_cons.proofs.RowLaws.{constant_value}
use Rattle.step_meaning.specs.Syntax.{Statements}
use Rattle.decision_tree.specs.declared.affine_rank.AffineRank.{AffineRank}
use Rattle.decision_tree.specs.declared.reason.Pick.TheVariants.{All as Every}
use Rattle.decision_tree.specs.declared.reason.Why.TheVariants.{Step}
use Rattle.decision_tree.specs.Paths.{leaf_numbered}
use Rattle.decision_tree.specs.Plans.{Plan, bottom, top, leaf, branch}
use Rattle.ctl_formula.specs.Formulas.{af_exit}
use Rattle.tree_support.specs.Certificates.{affine_ranks}
use Rattle.tree_support.specs.Arcs.{Arc, flow_of, rows_given}
use Rattle.constraint_stack.specs.Forming.{Formed, given}
use Rattle.tree_support.specs.Setting.{Setting, Trees, setting_of}
use Rattle.constraint_stack.specs.Claims.{ClaimFits, System, unnatural}
use Rattle.tree_support.specs.Systems.{at_leaves, moved_by, of_leaf, region, systems, undefined_at, unedged, unless_less}
use Rattle.control_flow.specs.Told.{Told}
use Rattle.tree_support.proofs.Lists.{all_none, contains_first, contains_later}
use Rattle.count_down.specs.Blocking.{IsBlocked}
use Rattle.count_down.specs.Trees.{bound, count_tree, ranked, split, within}
use Rattle.decision_tree.specs.Extent.{IsWhole}
use Rattle.count_down.proofs.Lining.{Natural, Negative, by_claim, by_fall}
use Rattle.count_down.proofs.Stepping.{RowsFit, bound_value, falls_of, lower_of}

all_flat : {X Y : Type 0} (P : X → Type 0) (f : Y → List X) (ys : List Y) → ((y : Y) → Contains ys y → All P (f y)) → All P (flat_map f ys)
all_flat P f [] each = all_none P
all_flat P f (y ∷ ys) each =
    All-append P (f y) (flat_map f ys) (each y (contains_first y ys)) (all_flat P f ys (λ z inside. each z (contains_later y z ys inside)))

-- a tree without undefined leaves refutes nothing
none_undefined : (tree : Plan AffineRank) → IsWhole tree → (asks : List Formed) → undefined_at tree asks ≡ []
none_undefined bottom whole asks = absurd whole
none_undefined (top cause) whole asks = absurd whole
none_undefined (leaf why rank) whole asks = refl
none_undefined (branch row this that) whole asks =
    rw (none_undefined this whole.0 (asks ++ given row.affine ∷ []), none_undefined that whole.1 (asks ++ given (complement_of row.affine) ∷ [])) refl

pub where_alive : (P : System AffineRank → Type 0) (dead : Bool) (xs : List (System AffineRank)) → All P xs → All P (if dead then [] else xs)
where_alive P true xs all = all_none P
where_alive P false xs all = all

module _ (body : Statements) (told : Told) (parts : ℕ → Trees AffineRank) (family : Trees AffineRank) (label : ℕ) where
  abbrev pub at : Setting AffineRank
  at = setting_of body told af_exit parts

  -- the systems of each arc behind what is asked are blocked
  abbrev pub ArcsBlocked : AffineRank → List Formed → Type 0
  ArcsBlocked rank asks = (arc : Arc) → Contains ((flow_of body told.bounds).arcs label) arc
      → All IsBlocked (at_leaves (moved_by arc.sets) (unless_less arc.edge arc.sets rank) (family arc.target) (asks ++ arc.asks))

  abbrev pub not_natural : AffineRank → List Formed → System AffineRank
  not_natural rank asks = record { edge = unedged; asks = asks; claim = unnatural rank }

  pub leaf_blocked : (rank : AffineRank) (asks : List Formed) → IsWhole (parts 0 label) → IsBlocked (not_natural rank asks) → ArcsBlocked rank asks
      → All IsBlocked (of_leaf at (leaf (Step Every) rank) family label asks)
  leaf_blocked rank asks kept natural arcs =
      let each : Arc → List (System AffineRank) =
      λ arc. at_leaves (moved_by arc.sets) (unless_less arc.edge arc.sets rank) (family arc.target) (asks ++ arc.asks) in
      let behind : All IsBlocked (flat_map each ((flow_of body told.bounds).arcs label)) = all_flat IsBlocked each ((flow_of body told.bounds).arcs label) arcs in
      let keeps : All IsBlocked (undefined_at (parts 0 label) asks) = subst (All IsBlocked) (sym (none_undefined (parts 0 label) kept asks)) (all_none IsBlocked) in
      All-cons IsBlocked (not_natural rank asks) (undefined_at (parts 0 label) asks ++ flat_map each ((flow_of body told.bounds).arcs label)) natural
      (All-append IsBlocked (undefined_at (parts 0 label) asks) (flat_map each ((flow_of body told.bounds).arcs label)) keeps behind)

  -- the tree of the label counts e down, its numbers fit, and from both sides each arc is blocked
  pub record IsGood (m s : ℕ) (e : Affine) (k : ℕ) : Type 0 where
    pub tree : family label ≡ count_tree m s e k
    pub kept : IsWhole (parts 0 label)
    pub turn : 0 < m
    pub rows : RowsFit None tt (row_kind_of e)
    pub bounds : ClaimFits affine_ranks (unnatural (ranked (bound m s e k)))
    pub lasts : ClaimFits affine_ranks (unnatural (ranked (constant_of (pos (k + 1 + s)))))
    pub yes_arcs : (asks : List Formed) → Natural asks (λ store. value_at e store)
        → ArcsBlocked (ranked (bound m s e k)) asks
    pub no_arcs : (asks : List Formed) → Negative asks (λ store. value_at e store)
        → ArcsBlocked (ranked (constant_of (pos (k + 1 + s)))) asks

  module _ (m s : ℕ) (e : Affine) (k : ℕ) (good : IsGood m s e k) where
    abbrev v : List ℤ → ℤ
    v store = value_at e store

    yes_leaf : (asks : List Formed) → Natural asks v
        → All IsBlocked (of_leaf at (within (bound m s e k)) family label asks)
    yes_leaf asks natural =
        leaf_blocked (ranked (bound m s e k)) asks good.kept
        (by_fall (not_natural (ranked (bound m s e k)) asks) v (complement_of (bound m s e k)) (inr (good.bounds, refl))
        (record {
          scale = 1;
          some = omega arith;
          slope = m;
          some_slope = good.turn;
          off = negsuc 0 -ℤ pos m -ℤ pos (k + 1 + s);
          low = omega (arith, ints);
          is = λ store long.
              let own = value_complement (bound m s e k) store in
              let value = bound_value m s e k store in
              let spread = mul_add (pos m) (value_at e store) (pos 1) in
              let unit = mul_one (pos m) in
              let one = one_mul (value_at (complement_of (bound m s e k)) store) in
              omega (arith, ints);
        })
        natural)
        (good.yes_arcs asks natural)

    no_leaf : (asks : List Formed) → Negative asks v
        → All IsBlocked (of_leaf at (within (constant_of (pos (k + 1 + s)))) family label asks)
    no_leaf asks negative =
        let last : Affine = constant_of (pos (k + 1 + s)) in
        leaf_blocked (ranked last) asks good.kept
        (by_claim (not_natural (ranked last) asks) (complement_of last) (negsuc 0 -ℤ pos (k + 1 + s)) (inr (good.lasts, refl)) (omega (arith, ints))
        (λ store long. let own = value_complement last store in let value = value_constant (pos (k + 1 + s)) store in omega (arith, ints)))
        (good.no_arcs asks negative)

    abbrev given_rows : List Formed
    given_rows = rows_given (told.rows label)

    asked : (a : Affine) → Contains (given_rows ++ given a ∷ []) (given a)
    asked a = Contains-append_right given_rows (given a ∷ []) (given a) (0, omega arith, refl)

    leaves : (kind : RowKind) → IsRowOf e kind → RowsFit None tt kind → (place : ℕ)
        → All IsBlocked (of_leaf at (leaf_numbered (split kind (within (bound m s e k)) (within (constant_of (pos (k + 1 + s))))) place) family label
        (region at (split kind (within (bound m s e k)) (within (constant_of (pos (k + 1 + s))))) label place))
    leaves Always is fit place =
        yes_leaf (given_rows ++ []) (inr (e.constant, is.1, λ store long. constant_value e store is.0))
    leaves Never is fit place =
        no_leaf (given_rows ++ []) (inr (e.constant, is.1, λ store long. constant_value e store is.0))
    leaves (Kept row) is fit zero =
        yes_leaf (given_rows ++ given row.affine ∷ [])
        (inl (row.affine, (given row.affine, asked row.affine, fit.0, refl), lower_of None tt e row is))
    leaves (Kept row) is fit (suc place) =
        let second : nat_lt (suc place) 1 ≡ false = grind (arith, nat_tests) in
        rw second
        (no_leaf (given_rows ++ given (complement_of row.affine) ∷ [])
        (inl (complement_of row.affine, (given (complement_of row.affine), asked (complement_of row.affine), fit.1, refl), falls_of None tt e row is)))

    pub label_blocked : (place : ℕ) → All IsBlocked (systems at family label place)
    label_blocked place =
        where_alive IsBlocked (told.dead label) (of_leaf at (leaf_numbered (family label) place) family label (region at (family label) label place))
        (subst (λ tree. All IsBlocked (of_leaf at (leaf_numbered tree place) family label (region at tree label place))) (sym good.tree)
        (leaves (row_kind_of e) (row_kind_is e) good.rows place))
