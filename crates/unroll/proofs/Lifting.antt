-- What the tree before a step tells, by the trees behind it.
use Rattle.std.proofs.Common.{◌≡◌, ◌↔◌, ◌⊎◌, inl, inr, ℕ, zero, suc, ◌<◌, ◌≤◌, ℤ, pos, Bool, true, false, List, [], ◌∷◌, Option, None, Some, int_le, cond, length, length-set, set, refl, sym, ap, subst, ◌∙◌, arith, ⊎_elim}
use Rattle.std.proofs.lemmas.Int.{by_lt_z, ints}
use Rattle.std.proofs.lemmas.List.{get_or-replicate}
use Rattle.linear_cons.specs.Bounds.{IsFrom, IsUpTo, LiesIn}
use Rattle.linear_cons.specs.Functions.{value_at}
use Rattle.linear_cons.specs.Numbers.{number_at}
use Rattle.linear_cons.specs.Rows.{Meets}
use Rattle.linear_cons.specs.declared.row.Row.{Row}
use Rattle.step_meaning.specs.Countdown.{form_of}
use Rattle.linear_forms.specs.Meeting.{MeetsEach, MeetsOne}
use Rattle.linear_forms.specs.Spreading.{spread_of}
use Rattle.linear_forms.proofs.Exactness.{may_have_value, only_value}
use Rattle.linear_forms.proofs.Naming.{number_names, test_names}
use Rattle.linear_forms.proofs.SpreadCovering.{spread_covers}
use Rattle.linear_forms.proofs.SpreadExactness.{spread_exact}
use Rattle.decision_tree.specs.Evaluation.{eval}
use Rattle.decision_tree.specs.Plans.{IsEnd, Plan, bottom, branch, leaf, top, size_of}
use Rattle.decision_tree.specs.declared.affine_rank.AffineRank.{AffineRank}
use Rattle.decision_tree.specs.declared.reason.Why.TheVariants.{End}
use Rattle.step_meaning.specs.AffineExpressions.{IsAffine, IsAffineTest, TestFits}
use Rattle.step_meaning.specs.Outcome.{MayTest, Store}
use Rattle.step_meaning.specs.Step.{front}
use Rattle.step_meaning.specs.Syntax.{Expression, Statements, number, variable, free, range, truth, negative, negation, pair, divided}
use Rattle.step_meaning.specs.Valid.{IsBody, IsNumber, IsTest}
use Rattle.decision_tree.specs.Extent.{IsTreeOver, ComplementsFit}
use Rattle.linear_cons.proofs.Over.{over_constant}
use Rattle.step_meaning.proofs.Progress.{test_has_outcome}
use Rattle.control_flow.specs.Edges.{configuration}
use Rattle.control_flow.specs.Labels.{assigns, passes, tests, action_at, all_labels, rest}
use Rattle.unroll.specs.Building.{ClaimsAt, IsBefore, IsBeforeBoth, Tells, TellsTree, left_by}
use Rattle.unroll.specs.Levels.{RanksCount, counted}
use Rattle.control_flow.specs.Measures.{AreSizes, anywhere}
use Rattle.unroll.specs.Within.{TellsNumbers}
use Rattle.step_meaning.specs.Plain.{IsPlainTest}
use Rattle.unroll.proofs.Counting.{claims_one, counts_at, made_tells, twice}
use Rattle.unroll.proofs.LevelLaws.{TwoNext, end_tells, head_tells, is_loop}
use Rattle.unroll.proofs.Nexts.{assign_next, both_next, false_next, pass_next, true_next}
use Rattle.unroll.proofs.WithinTrees.{bottom_numbers, end_numbers}

eval_ends : (plan : Plan AffineRank) (store : Store) → IsEnd (eval plan store)
eval_ends bottom store = tt
eval_ends (top cause) store = tt
eval_ends (leaf why rank) store = tt
eval_ends (branch row this that) store = at (int_le (pos 0) (value_at row.affine store)) (eval_ends this store) (eval_ends that store)
  where
    at : (t : Bool) → IsEnd (eval this store) → IsEnd (eval that store) → IsEnd (cond t (eval this store) (eval that store))
    at true first second = first
    at false first second = second

meets_or_not : (row : Row) (store : Store) → Meets store row ⊎ (Meets store row → ⊥)
meets_or_not row store = by_lt_z (value_at row.affine store) (pos 0) (λ below. inr (λ met. omega (arith, ints, below, met))) (λ from. inl from)

-- ---- what a test may give

-- no end leaves a store out
lies_anywhere : (s : Store) → LiesIn anywhere s
lies_anywhere s = record {
  lower = λ i h. subst (λ (t : Option ℤ × Option ℤ). IsFrom t.0 (number_at s i)) (sym (get_or-replicate 16 i (None, None) (None, None) h)) tt;
  upper = λ i h. subst (λ (t : Option ℤ × Option ℤ). IsUpTo t.1 (number_at s i)) (sym (get_or-replicate 16 i (None, None) (None, None) h)) tt;
}

pub plain_test : (c : Expression) → IsPlainTest c → (c ≡ free) ⊎ IsAffineTest c
plain_test free plain = inl refl
plain_test (number z) plain = inr plain
plain_test (variable x) plain = inr plain
plain_test (range lo hi) plain = inr plain
plain_test (truth b) plain = inr plain
plain_test (negative e) plain = inr plain
plain_test (negation c) plain = inr plain
plain_test (pair op l r) plain = inr plain
plain_test (divided division e b) plain = inr plain

free_exact : (s : Store) (t : Bool) → MeetsOne s (spread_of anywhere free t) ↔ MayTest free s t
free_exact s t = (λ met. tt, λ may. inl tt)

module _ (vars : ℕ) (few : vars ≤ 15) (c : Expression) (sorted : IsTest vars c) (plain : IsPlainTest c) (fit : TestFits c) (s : Store) where
  test_exact : (t : Bool) → MeetsOne s (spread_of anywhere c t) ↔ MayTest c s t
  test_exact t =
      ⊎_elim (λ (is : c ≡ free). subst (λ e. MeetsOne s (spread_of anywhere e t) ↔ MayTest e s t) (sym is) (free_exact s t))
      (λ (affine : IsAffineTest c). (
        spread_exact s vars (omega (arith, few)) anywhere c sorted affine fit t,
        spread_covers anywhere s (lies_anywhere s) c (test_names vars 16 (omega (arith, few)) c sorted) t,
      )) (plain_test c plain)

each_or_not : (s : Store) (rows : List Row) → MeetsEach s rows ⊎ (MeetsEach s rows → ⊥)
each_or_not s [] = inl tt
each_or_not s (row ∷ rows) =
    ⊎_elim (λ here. ⊎_elim (λ met. inl (here, met)) (λ missed. inr (λ met. missed met.1)) (each_or_not s rows)) (λ apart. inr (λ met. apart met.0)) (meets_or_not row s)

one_or_not : (s : Store) (list : List (List Row)) → MeetsOne s list ⊎ (MeetsOne s list → ⊥)
one_or_not s [] = inr (λ met. met)
one_or_not s (rows ∷ more) =
    ⊎_elim (λ here. inl (inl here))
    (λ apart. ⊎_elim (λ met. inl (inr met)) (λ missed. inr (λ met. ⊎_elim (λ here. apart here) (λ later. missed later) met)) (one_or_not s more)) (each_or_not s rows)

-- ---- the tree of a label

pub end_tree : (limit : ℕ) (body : Statements) → TellsTree limit body 0 (leaf End (counted 0))
end_tree limit body = record {
  tells = λ s long. end_tells limit (configuration body 0 s) (ClaimsAt (leaf End (counted 0))) refl (End, refl)
      (λ n claim. claims_one (leaf End (counted 0)) n 0 claim (End, refl));
  ranks = (0, refl);
  complements = tt;
  variables = λ vars valid. (over_constant vars (pos 0), tt);
  numbers = end_numbers limit body;
  small = λ sizes are. at limit sizes are;
}
  where
    at : (level : ℕ) (sizes : ℕ → ℕ → ℕ) → AreSizes body sizes → 1 ≤ sizes level 0
    at zero sizes are = let same : sizes 0 0 ≡ 1 = are 0 0 (omega arith) in omega (arith, same)
    at (suc level) sizes are = let same : sizes (suc level) 0 ≡ 1 = are (suc level) 0 (omega arith) in omega (arith, same)

never_claims : (n : ℕ) → ClaimsAt bottom n → ⊥
never_claims n claim = let is = claim.1 in absurd (cc)

pub bottom_tree : (body : Statements) (l : ℕ) → (front (rest body l) ≡ [] → ⊥) → is_loop (front (rest body l)) ≡ true
    → ((sizes : ℕ → ℕ → ℕ) → AreSizes body sizes → 1 ≤ sizes 0 l) → TellsTree 0 body l bottom
bottom_tree body l goes loop small = record {
  tells = λ s long. head_tells 0 (configuration body l s) (ClaimsAt bottom) goes (ap (λ t. left_by t 0) loop) never_claims;
  ranks = tt;
  complements = tt;
  variables = λ vars valid. tt;
  numbers = bottom_numbers 0 body l;
  small = small;
}

module _ (body : Statements) (l : ℕ) (low : l < length (all_labels body)) (some : l ≡ 0 → ⊥) (limit left : ℕ) (allows : left_by (is_loop (front (rest body l))) limit ≡ Some left)
    (made : Plan AffineRank) (ranks : RanksCount made) (complements : ComplementsFit made)
    (variables : (vars : ℕ) → IsBody vars body → IsTreeOver vars made) (numbers : TellsNumbers limit body l made)
    (small : (sizes : ℕ → ℕ → ℕ) → AreSizes body sizes → size_of made ≤ sizes limit l) where
  -- behind a step to one label
  one_tells : (plan : Plan AffineRank) (next : ℕ) (s t : Store) → length t ≡ 16 → TellsTree left body next plan → IsBefore (eval plan t) (eval made s)
      → TwoNext (configuration body l s) (configuration body next t) (configuration body next t) → Tells limit (configuration body l s) (ClaimsAt (eval made s))
  one_tells plan next s t long behind before steps =
      made_tells (eval plan t) (eval plan t) (eval made s) (eval_ends plan t) (eval_ends plan t) (counts_at plan t behind.ranks) (counts_at plan t behind.ranks)
      (twice (eval plan t) (eval made s) before) limit left (configuration body l s) (configuration body next t) (configuration body next t) steps allows
      (behind.tells t long) (behind.tells t long)

  pub assign_tree : (vars x : ℕ) (e : Expression) (next : ℕ) → action_at body l ≡ assigns x e next → vars ≤ 15 → IsNumber vars e → IsAffine e
      → (plan : Plan AffineRank) → TellsTree left body next plan
      → ((s : Store) → length s ≡ 16 → IsBefore (eval plan (set s x (value_at (form_of e) s))) (eval made s)) → TellsTree limit body l made
  assign_tree vars x e next is few sorted affine plan behind before =
      let named = number_names vars 16 (omega (arith, few)) e sorted in
      record {
        tells = λ s long. one_tells plan next s (set s x (value_at (form_of e) s)) (length-set s x (value_at (form_of e) s) ∙ long) behind (before s long)
            (assign_next body l low some s x e next is (value_at (form_of e) s) (may_have_value s e named affine) (λ w may. only_value s e named affine w may));
        ranks = ranks;
        complements = complements;
        variables = variables;
        numbers = numbers;
        small = small;
      }

  pub pass_tree : (next : ℕ) → action_at body l ≡ passes next → (plan : Plan AffineRank) → TellsTree left body next plan
      → ((s : Store) → IsBefore (eval plan s) (eval made s)) → TellsTree limit body l made
  pass_tree next is plan behind before = record {
    tells = λ s long. one_tells plan next s s long behind (before s) (pass_next body l low some s next is);
    ranks = ranks;
    complements = complements;
    variables = variables;
    numbers = numbers;
    small = small;
  }

  module _ (vars : ℕ) (few : vars ≤ 15) (head : Bool) (c : Expression) (p q : ℕ) (is : action_at body l ≡ tests head c p q) (sorted : IsTest vars c) (plain : IsPlainTest c) (fit : TestFits c)
      (this that : Plan AffineRank) (first : TellsTree left body p this) (second : TellsTree left body q that)
      (both : (s : Store) → MeetsOne s (spread_of anywhere c true) → MeetsOne s (spread_of anywhere c false) → IsBeforeBoth (eval this s) (eval that s) (eval made s))
      (holds : (s : Store) → MeetsOne s (spread_of anywhere c true) → (MeetsOne s (spread_of anywhere c false) → ⊥) → IsBefore (eval this s) (eval made s))
      (fails : (s : Store) → (MeetsOne s (spread_of anywhere c true) → ⊥) → MeetsOne s (spread_of anywhere c false) → IsBefore (eval that s) (eval made s)) where
    abbrev Told : Store → Type 0
    Told s = Tells limit (configuration body l s) (ClaimsAt (eval made s))

    exact : (s : Store) (t : Bool) → MeetsOne s (spread_of anywhere c t) ↔ MayTest c s t
    exact s t = test_exact vars few c sorted plain fit s t

    told_both : (s : Store) → length s ≡ 16 → MeetsOne s (spread_of anywhere c true) → MeetsOne s (spread_of anywhere c false) → Told s
    told_both s long met also =
        made_tells (eval this s) (eval that s) (eval made s) (eval_ends this s) (eval_ends that s) (counts_at this s first.ranks) (counts_at that s second.ranks) (both s met also)
        limit left (configuration body l s) (configuration body p s) (configuration body q s)
        (both_next body l low some s head c p q is ((exact s true).0 met) ((exact s false).0 also)) allows (first.tells s long) (second.tells s long)

    told_first : (s : Store) → length s ≡ 16 → MeetsOne s (spread_of anywhere c true) → (MeetsOne s (spread_of anywhere c false) → ⊥) → Told s
    told_first s long met missed =
        one_tells this p s s long first (holds s met missed) (true_next body l low some s head c p q is ((exact s true).0 met) (λ may. missed ((exact s false).1 may)))

    told_second : (s : Store) → length s ≡ 16 → (MeetsOne s (spread_of anywhere c true) → ⊥) → MeetsOne s (spread_of anywhere c false) → Told s
    told_second s long missed met =
        one_tells that q s s long second (fails s missed met) (false_next body l low some s head c p q is (λ may. missed ((exact s true).1 may)) ((exact s false).0 met))

    -- a test has an outcome
    never_neither : (s : Store) → (MeetsOne s (spread_of anywhere c true) → ⊥) → (MeetsOne s (spread_of anywhere c false) → ⊥) → ⊥
    never_neither s missed apart = let outcome = test_has_outcome vars s c sorted in at outcome.0 outcome.1
      where
        at : (t : Bool) → MayTest c s t → ⊥
        at true may = missed ((exact s true).1 may)
        at false may = apart ((exact s false).1 may)

    told : (s : Store) → length s ≡ 16 → Told s
    told s long =
        ⊎_elim
        (λ met. ⊎_elim (λ also. told_both s long met also) (λ missed. told_first s long met missed) (one_or_not s (spread_of anywhere c false)))
        (λ missed. ⊎_elim (λ met. told_second s long missed met) (λ apart. absurd (never_neither s missed apart)) (one_or_not s (spread_of anywhere c false)))
        (one_or_not s (spread_of anywhere c true))

    pub test_tree : TellsTree limit body l made
    test_tree = record { tells = told; ranks = ranks; complements = complements; variables = variables; numbers = numbers; small = small }
