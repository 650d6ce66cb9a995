-- What is shown of a formula's operands is shown of its smaller parts.
use Rattle.std.proofs.Common.{◌≡◌, ◌⊎◌, inl, inr, ℕ, zero, suc, ◌+◌, ◌-◌, ◌<◌, ◌≤◌, Bool, List, [], ◌∷◌, ◌++◌, All, drop, length, take, refl, sym, ap, subst, ◌∙◌, arith, length-append, append_assoc}
use Rattle.std.proofs.Math.Path.{fun_ext}
use Rattle.std.proofs.lemmas.List.Elements.{All-append, All-cons, All-head, All-nil, All-push, All-tail}
use Rattle.step_meaning.specs.Syntax.{Statements, statements}
use Rattle.step_meaning.specs.declared.program.Program.{Program}
use Rattle.ctl_formula.specs.Formulas.{Ctl, af_exit, both, either, negation, next, truth, until, weak}
use Rattle.ctl_formula.specs.Parts.{number_from}
use Rattle.decision_tree.specs.Extent.{IsWhole}
use Rattle.decision_tree.specs.declared.affine_rank.AffineRank.{AffineRank}
use Rattle.decision_tree.specs.declared.family.Family.{Family}
use Rattle.decision_tree.specs.Plans.{bottom}
use Rattle.tree_check.specs.Checking.{families_of}
use Rattle.tree_support.specs.Certificates.{IsShown, ItselfIsShown, SmallerAreShown, operands_from}
use Rattle.tree_support.specs.Setting.{Trees}
use Rattle.control_flow.specs.Told.{Told}
use Rattle.formula_measures.specs.Measures.{ctl_growth}
use Rattle.part_families.specs.Families.{AreNumberedFrom, HasRowsWithin, IsExact, IsFamilyFor, IsNarrowFor, IsUncut, IsWithin, trees_of}
use Rattle.part_families.specs.Showing.{AreAt, AreOperandsOf, AreShown, AreSmaller, Shows, all_of, arity, in_order}
use Rattle.part_families.specs.declared.smaller.Shown.{Shown}
use Rattle.part_families.specs.declared.smaller.SmallerParts.{SmallerParts}
use Rattle.part_families.proofs.Placing.{front_at, numbered_behind, rest_at}
use Rattle.normal_form.specs.Operators.{HasNoNegation}
use Rattle.exact_families.specs.Completeness.{EachPart, IsComplete, IsLoopless}
use Rattle.exact_families.specs.Narrowness.{IsNarrowAndComplete}
use Rattle.control_flow.specs.Labels.{all_labels}
use Rattle.count_down.proofs.Leads.{all_weaken}
use Rattle.part_families.proofs.Numbers.{growth_both, growth_either, growth_next, growth_until, growth_weak, more_rows, narrow_family}
use Rattle.part_families.proofs.Within.{take_drop, within_both, within_either, within_next, within_until, within_weak}

-- the trees of the operands by their places
abbrev no_trees : Trees AffineRank
no_trees label = bottom

abbrev one_of : Trees AffineRank → ℕ → Trees AffineRank
one_of first zero = first
one_of first (suc place) = no_trees

abbrev two_of : Trees AffineRank → Trees AffineRank → ℕ → Trees AffineRank
two_of first second zero = first
two_of first second (suc zero) = second
two_of first second (suc (suc place)) = no_trees

families_of_one : (first : Family AffineRank) (place : ℕ) → families_of (first ∷ []) place ≡ one_of (trees_of first) place
families_of_one first zero = refl
families_of_one first (suc place) = refl

families_of_two : (first second : Family AffineRank) (place : ℕ)
    → families_of (first ∷ second ∷ []) place ≡ two_of (trees_of first) (trees_of second) place
families_of_two first second zero = refl
families_of_two first second (suc zero) = refl
families_of_two first second (suc (suc place)) = refl

-- the formula has this operand, or these
abbrev pub HasOne : Ctl → Ctl → Type 0
HasOne h f = (h ≡ negation f) ⊎ ((all : Bool) × (h ≡ next all f))

abbrev pub HasTwo : Ctl → Ctl → Ctl → Type 0
HasTwo h f g = (h ≡ both f g) ⊎ ((h ≡ either f g) ⊎ (((all : Bool) × (h ≡ until all f g)) ⊎ ((all : Bool) × (h ≡ weak all f g))))

-- where its operands' families are by the numbers
module _ (families : ℕ → Trees AffineRank) (k : ℕ) (f g : Ctl) where
  abbrev first_of : Trees AffineRank
  first_of = families (number_from k f)

  abbrev second_of : Trees AffineRank
  second_of = families (number_from (suc (number_from k f)) g)

  by_negation : (place : ℕ) → operands_from families k (negation f) place ≡ one_of first_of place
  by_negation zero = refl
  by_negation (suc place) = refl

  by_next : (all : Bool) (place : ℕ) → operands_from families k (next all f) place ≡ one_of first_of place
  by_next all zero = refl
  by_next all (suc place) = refl

  by_both : (place : ℕ) → operands_from families k (both f g) place ≡ two_of first_of second_of place
  by_both zero = refl
  by_both (suc zero) = refl
  by_both (suc (suc place)) = refl

  by_either : (place : ℕ) → operands_from families k (either f g) place ≡ two_of first_of second_of place
  by_either zero = refl
  by_either (suc zero) = refl
  by_either (suc (suc place)) = refl

  by_until : (all : Bool) (place : ℕ) → operands_from families k (until all f g) place ≡ two_of first_of second_of place
  by_until all zero = refl
  by_until all (suc zero) = refl
  by_until all (suc (suc place)) = refl

  by_weak : (all : Bool) (place : ℕ) → operands_from families k (weak all f g) place ≡ two_of first_of second_of place
  by_weak all zero = refl
  by_weak all (suc zero) = refl
  by_weak all (suc (suc place)) = refl

-- what is kept by an until
abbrev kept_by : Ctl → Ctl
kept_by (until all f g) = f
kept_by f = f

-- what holds of each of two lists' elements, one behind the other
module _ {A : Type 0} (P : A → Type 0) where
  All-front : (xs ys : List A) → All P (xs ++ ys) → All P xs
  All-front [] ys all = All-nil P
  All-front (x ∷ xs) ys all = All-cons P x xs (All-head P x (xs ++ ys) all) (All-front xs ys (All-tail P x (xs ++ ys) all))

  All-rest : (xs ys : List A) → All P (xs ++ ys) → All P ys
  All-rest [] ys all = all
  All-rest (x ∷ xs) ys all = All-rest xs ys (All-tail P x (xs ++ ys) all)

module _ (program : Program) (told : Told) (count : ℕ) where
  abbrev body : Statements
  body = statements program.body

  abbrev Fits : Family AffineRank → Type 0
  Fits family = IsFamilyFor (length program.names) body family

  -- each operand has a tree for each label
  pub operand_labels : {k : ℕ} {f : Ctl} (smaller : SmallerParts) → AreSmaller program told count k f smaller → count ≡ length (all_labels body)
      → All (λ family. length family.trees ≡ count) smaller.operands.items
  operand_labels smaller below counted =
      let n : ℕ = length smaller.operands.items - 1 in
      let rest = All-rest Fits smaller.of_first.items (take n smaller.operands.items ++ (smaller.of_second.items ++ drop n smaller.operands.items)) below.fit in
      let start = All-front Fits (take n smaller.operands.items) (smaller.of_second.items ++ drop n smaller.operands.items) rest in
      let later = All-rest Fits smaller.of_second.items (drop n smaller.operands.items)
      (All-rest Fits (take n smaller.operands.items) (smaller.of_second.items ++ drop n smaller.operands.items) rest) in
      all_weaken Fits (λ family. length family.trees ≡ count) smaller.operands.items (λ family fits. fits.labels ∙ sym counted)
      (subst (All Fits) (take_drop n smaller.operands.items) (All-append Fits (take n smaller.operands.items) (drop n smaller.operands.items) start later))

  -- the formula itself is shown besides its smaller parts
  pub shown_with : (k : ℕ) (f : Ctl) (smaller : SmallerParts) (found : Shown) → AreSmaller program told count k f smaller
      → found.smaller.items ≡ all_of smaller → Shows program told f smaller.number smaller.operands.items found.whole
      → (f ≡ truth → (label : ℕ) → label < count → IsWhole (trees_of found.whole label))
      → (IsLoopless body → EachPart (IsComplete body) f (families_of smaller.operands.items) → IsExact body f found.whole)
      → (IsLoopless body → IsWithin (length program.names) body f → AreOperandsOf f count smaller.operands.items
      → EachPart (IsNarrowAndComplete (length program.names) body) f (families_of smaller.operands.items) → IsNarrowFor (length program.names) body f found.whole)
      → count ≡ length (all_labels body) → AreShown program told count k f found
  shown_with k f smaller found below is own everywhere exact narrow counted =
      let each : k + length found.smaller.items ≡ number_from k f = subst (λ list. k + length list ≡ number_from k f) (sym is) below.each_part in
      let before : (families : ℕ → Trees AffineRank) → AreAt families k (found.smaller.items ++ found.whole ∷ []) → AreAt families k (all_of smaller) =
      λ families at. subst (AreAt families k) is (front_at families k found.smaller.items (found.whole ∷ []) at) in
      let last : (families : ℕ → Trees AffineRank) → AreAt families k (found.smaller.items ++ found.whole ∷ []) → families (number_from k f) ≡ trees_of found.whole =
      λ families at. (rest_at families k (number_from k f) found.smaller.items (found.whole ∷ []) each at).0 in
      let itself : (families : ℕ → Trees AffineRank) → AreAt families k (found.smaller.items ++ found.whole ∷ []) → ItselfIsShown body told families k f =
      λ families at. subst (λ trees. IsShown body told f (operands_from families k f) trees) (sym (last families at))
      (subst (λ operands. IsShown body told f operands (trees_of found.whole)) (below.operands families (before families at)) own.shown) in
      record {
        shown = λ families at. (below.shown families (before families at), itself families at);
        number = own.number ∙ below.number;
        each_part = each;
        part_numbers = subst (AreNumberedFrom k) (sym is) below.part_numbers;
        fit = All-push Fits found.smaller.items found.whole (subst (All Fits) (sym is) below.fit) own.fits;
        everywhere = everywhere;
        complete = λ loopless plain uncut.
            exact loopless (below.complete loopless plain (subst (All IsUncut) is (All-front IsUncut found.smaller.items (found.whole ∷ []) uncut)))
            (All-head IsUncut found.whole [] (All-rest IsUncut found.smaller.items (found.whole ∷ []) uncut));
        narrow = λ loopless plain within. narrow loopless within (below.as_many, operand_labels smaller below counted) (below.narrow loopless plain within);
        numbers = λ loopless plain within.
            All-push (HasRowsWithin (ctl_growth body f)) found.smaller.items found.whole (subst (All (HasRowsWithin (ctl_growth body f))) (sym is) (below.numbers loopless plain within))
            (narrow_family (length program.names) body f found.whole own.fits
            (narrow loopless within (below.as_many, operand_labels smaller below counted) (below.narrow loopless plain within)));
      }

  -- ---- a formula with one operand

  module _ (k : ℕ) (f : Ctl) (part : Shown) (one : AreShown program told count k f part) (found : SmallerParts)
      (operands : found.operands.items ≡ part.whole ∷ []) (of_first : found.of_first.items ≡ part.smaller.items)
      (of_second : found.of_second.items ≡ []) (number : found.number ≡ suc part.whole.part) where
    abbrev own : List (Family AffineRank)
    own = part.smaller.items ++ part.whole ∷ []

    all_are_own : all_of found ≡ own
    all_are_own =
        ap (λ list. in_order list found.operands.items found.of_second.items) of_first
        ∙ ap (λ list. in_order part.smaller.items list found.of_second.items) operands
        ∙ ap (λ list. in_order part.smaller.items (part.whole ∷ []) list) of_second

    own_at : (families : ℕ → Trees AffineRank) → AreAt families k (all_of found) → AreAt families k own
    own_at families at = subst (AreAt families k) all_are_own at

    whole_at : (families : ℕ → Trees AffineRank) → AreAt families k (all_of found) → families (number_from k f) ≡ trees_of part.whole
    whole_at families at = (rest_at families k (number_from k f) part.smaller.items (part.whole ∷ []) one.each_part (own_at families at)).0

    pub of_one : (h : Ctl)
        → ((families : ℕ → Trees AffineRank) → SmallerAreShown body told families k f × ItselfIsShown body told families k f
        → SmallerAreShown body told families k h)
        → ((families : ℕ → Trees AffineRank) (place : ℕ) → operands_from families k h place ≡ one_of (families (number_from k f)) place)
        → number_from k h ≡ suc (number_from k f) → arity h ≡ 1 → (h ≡ af_exit → ⊥)
        → (IsLoopless body → HasNoNegation h → All IsUncut own → EachPart (IsComplete body) h (families_of (part.whole ∷ [])))
        → (IsLoopless body → HasNoNegation h → IsWithin (length program.names) body h
        → EachPart (IsNarrowAndComplete (length program.names) body) h (families_of (part.whole ∷ [])))
        → (IsLoopless body → HasNoNegation h → IsWithin (length program.names) body h → All (HasRowsWithin (ctl_growth body h)) own)
        → AreSmaller program told count k h found
    of_one h shown places behind unary other complete narrow numbers =
        let long = length-append part.smaller.items (part.whole ∷ []) in
        let each = one.each_part in record {
          shown = λ families at. shown families (one.shown families (own_at families at));
          operands = λ families at. ap families_of operands
              ∙ fun_ext (λ place. families_of_one part.whole place ∙ ap (λ trees. one_of trees place) (sym (whole_at families at)) ∙ sym (places families place));
          number = number ∙ ap suc one.number ∙ sym behind;
          each_part = ap (λ list. k + length list) all_are_own ∙ (let e : k + length own ≡ suc (number_from k f) = omega (arith, long, each) in e) ∙ sym behind;
          part_numbers = subst (AreNumberedFrom k) (sym all_are_own)
              (numbered_behind k (number_from k f) part.smaller.items (part.whole ∷ []) one.each_part one.part_numbers (one.number, tt));
          fit = subst (All Fits) (sym all_are_own) one.fit;
          as_many = ap length operands ∙ sym unary;
          keeps = λ is. absurd (other is);
          complete = λ loopless plain uncut.
              subst (λ list. EachPart (IsComplete body) h (families_of list)) (sym operands) (complete loopless plain (subst (All IsUncut) all_are_own uncut));
          narrow = λ loopless plain within.
              subst (λ list. EachPart (IsNarrowAndComplete (length program.names) body) h (families_of list)) (sym operands) (narrow loopless plain within);
          numbers = λ loopless plain within. subst (All (HasRowsWithin (ctl_growth body h))) (sym all_are_own) (numbers loopless plain within);
        }

    pub with_one : (h : Ctl) → HasOne h f → AreSmaller program told count k h found
    with_one h (inl is) = subst (λ formula. AreSmaller program told count k formula found) (sym is)
        (of_one (negation f) (λ families shown. shown) (λ families place. by_negation families k f f place) refl refl (λ is. absurd (cc)) (λ loopless plain uncut. absurd plain)
        (λ loopless plain within. absurd plain) (λ loopless plain within. absurd plain))
    with_one h (inr (all, is)) = subst (λ formula. AreSmaller program told count k formula found) (sym is)
        (of_one (next all f) (λ families shown. shown) (λ families place. by_next families k f f all place) refl refl (λ is. absurd (cc))
        (λ loopless plain uncut. one.complete loopless plain uncut)
        (λ loopless plain within. one.narrow loopless plain (within_next (length program.names) body all f within))
        (λ loopless plain within. more_rows (ctl_growth body f) (ctl_growth body (next all f)) (growth_next body all f) own
        (one.numbers loopless plain (within_next (length program.names) body all f within))))

  -- ---- a formula with two operands

  module _ (k : ℕ) (f g : Ctl) (first second : Shown) (one : AreShown program told count k f first)
      (two : AreShown program told count (suc (number_from k f)) g second) (found : SmallerParts)
      (operands : found.operands.items ≡ first.whole ∷ second.whole ∷ []) (of_first : found.of_first.items ≡ first.smaller.items)
      (of_second : found.of_second.items ≡ second.smaller.items) (number : found.number ≡ suc second.whole.part) where
    abbrev left : List (Family AffineRank)
    left = first.smaller.items ++ first.whole ∷ []

    abbrev right : List (Family AffineRank)
    right = second.smaller.items ++ second.whole ∷ []

    -- the number of the second operand
    abbrev last : ℕ
    last = number_from (suc (number_from k f)) g

    all_are_both : all_of found ≡ left ++ right
    all_are_both =
        ap (λ list. in_order list found.operands.items found.of_second.items) of_first
        ∙ ap (λ list. in_order first.smaller.items list found.of_second.items) operands
        ∙ ap (λ list. in_order first.smaller.items (first.whole ∷ second.whole ∷ []) list) of_second
        ∙ sym (append_assoc first.smaller.items (first.whole ∷ []) right)

    left_long : k + length left ≡ suc (number_from k f)
    left_long =
        let long = length-append first.smaller.items (first.whole ∷ []) in
        let each = one.each_part in omega (arith, long, each)

    right_long : suc (number_from k f) + length right ≡ suc last
    right_long =
        let long = length-append second.smaller.items (second.whole ∷ []) in
        let each = two.each_part in omega (arith, long, each)

    left_at : (families : ℕ → Trees AffineRank) → AreAt families k (all_of found) → AreAt families k left
    left_at families at = front_at families k left right (subst (AreAt families k) all_are_both at)

    right_at : (families : ℕ → Trees AffineRank) → AreAt families k (all_of found) → AreAt families (suc (number_from k f)) right
    right_at families at = rest_at families k (suc (number_from k f)) left right left_long (subst (AreAt families k) all_are_both at)

    first_at : (families : ℕ → Trees AffineRank) → AreAt families k (all_of found) → families (number_from k f) ≡ trees_of first.whole
    first_at families at = (rest_at families k (number_from k f) first.smaller.items (first.whole ∷ []) one.each_part (left_at families at)).0

    second_at : (families : ℕ → Trees AffineRank) → AreAt families k (all_of found) → families last ≡ trees_of second.whole
    second_at families at =
        (rest_at families (suc (number_from k f)) last second.smaller.items (second.whole ∷ []) two.each_part (right_at families at)).0

    -- what is shown of both
    abbrev BothShown : (ℕ → Trees AffineRank) → Type 0
    BothShown families =
        SmallerAreShown body told families k f × ItselfIsShown body told families k f
        × SmallerAreShown body told families (suc (number_from k f)) g × ItselfIsShown body told families (suc (number_from k f)) g

    both_shown : (families : ℕ → Trees AffineRank) → AreAt families k (all_of found) → BothShown families
    both_shown families at =
        let own = one.shown families (left_at families at) in
        let other = two.shown families (right_at families at) in
        (own.0, own.1, other.0, other.1)

    pub of_two : (h : Ctl) → ((families : ℕ → Trees AffineRank) → BothShown families → SmallerAreShown body told families k h)
        → ((families : ℕ → Trees AffineRank) (place : ℕ) → operands_from families k h place ≡ two_of (families (number_from k f)) (families last) place)
        → number_from k h ≡ suc last → arity h ≡ 2 → (h ≡ af_exit → f ≡ truth)
        → (IsLoopless body → HasNoNegation h → All IsUncut (left ++ right) → EachPart (IsComplete body) h (families_of (first.whole ∷ second.whole ∷ [])))
        → (IsLoopless body → HasNoNegation h → IsWithin (length program.names) body h
        → EachPart (IsNarrowAndComplete (length program.names) body) h (families_of (first.whole ∷ second.whole ∷ [])))
        → (IsLoopless body → HasNoNegation h → IsWithin (length program.names) body h → All (HasRowsWithin (ctl_growth body h)) (left ++ right))
        → AreSmaller program told count k h found
    of_two h shown places behind binary keep complete narrow numbers =
        let all_long = length-append left right in
        let long = left_long in
        let other = right_long in record {
          shown = λ families at. shown families (both_shown families at);
          operands = λ families at. ap families_of operands
              ∙ fun_ext (λ place. families_of_two first.whole second.whole place
              ∙ ap (λ trees. two_of trees (trees_of second.whole) place) (sym (first_at families at))
              ∙ ap (λ trees. two_of (families (number_from k f)) trees place) (sym (second_at families at)) ∙ sym (places families place));
          number = number ∙ ap suc two.number ∙ sym behind;
          each_part = ap (λ list. k + length list) all_are_both ∙ (let e : k + length (left ++ right) ≡ suc last = omega (arith, all_long, long, other) in e)
              ∙ sym behind;
          part_numbers = subst (AreNumberedFrom k) (sym all_are_both)
              (numbered_behind k (suc (number_from k f)) left right left_long
              (numbered_behind k (number_from k f) first.smaller.items (first.whole ∷ []) one.each_part one.part_numbers (one.number, tt))
              (numbered_behind (suc (number_from k f)) last second.smaller.items (second.whole ∷ []) two.each_part two.part_numbers (two.number, tt)));
          fit = subst (All Fits) (sym all_are_both) (All-append Fits left right one.fit two.fit);
          as_many = ap length operands ∙ sym binary;
          keeps = λ is label low. subst (λ list. IsWhole (families_of list 0 label)) (sym operands) (one.everywhere (keep is) label low);
          complete = λ loopless plain uncut.
              subst (λ list. EachPart (IsComplete body) h (families_of list)) (sym operands) (complete loopless plain (subst (All IsUncut) all_are_both uncut));
          narrow = λ loopless plain within.
              subst (λ list. EachPart (IsNarrowAndComplete (length program.names) body) h (families_of list)) (sym operands) (narrow loopless plain within);
          numbers = λ loopless plain within. subst (All (HasRowsWithin (ctl_growth body h))) (sym all_are_both) (numbers loopless plain within);
        }

    -- both operands' families are defined wherever the operands hold
    both_complete : IsLoopless body → HasNoNegation f × HasNoNegation g → All IsUncut (left ++ right)
        → IsComplete body f (trees_of first.whole) × IsComplete body g (trees_of second.whole)
    both_complete loopless plain uncut =
        (one.complete loopless plain.0 (All-front IsUncut left right uncut), two.complete loopless plain.1 (All-rest IsUncut left right uncut))

    both_narrow : IsLoopless body → HasNoNegation f × HasNoNegation g
        → IsWithin (length program.names) body f × IsWithin (length program.names) body g
        → IsNarrowFor (length program.names) body f first.whole × IsNarrowFor (length program.names) body g second.whole
    both_narrow loopless plain within = (one.narrow loopless plain.0 within.0, two.narrow loopless plain.1 within.1)

    both_numbers : (most : ℕ) → (ctl_growth body f ≤ most) × (ctl_growth body g ≤ most) → IsLoopless body → HasNoNegation f × HasNoNegation g
        → IsWithin (length program.names) body f × IsWithin (length program.names) body g → All (HasRowsWithin most) (left ++ right)
    both_numbers most less loopless plain within =
        All-append (HasRowsWithin most) left right (more_rows (ctl_growth body f) most less.0 left (one.numbers loopless plain.0 within.0))
        (more_rows (ctl_growth body g) most less.1 right (two.numbers loopless plain.1 within.1))

    pub with_two : (h : Ctl) → HasTwo h f g → AreSmaller program told count k h found
    with_two h (inl is) = subst (λ formula. AreSmaller program told count k formula found) (sym is)
        (of_two (both f g) (λ families shown. shown) (λ families place. by_both families k f g place) refl refl (λ is. absurd (cc)) both_complete
        (λ loopless plain within. both_narrow loopless plain (within_both (length program.names) body f g within))
        (λ loopless plain within. both_numbers (ctl_growth body (both f g)) (growth_both body f g) loopless plain
        (within_both (length program.names) body f g within)))
    with_two h (inr (inl is)) = subst (λ formula. AreSmaller program told count k formula found) (sym is)
        (of_two (either f g) (λ families shown. shown) (λ families place. by_either families k f g place) refl refl (λ is. absurd (cc)) both_complete
        (λ loopless plain within. both_narrow loopless plain (within_either (length program.names) body f g within))
        (λ loopless plain within. both_numbers (ctl_growth body (either f g)) (growth_either body f g) loopless plain
        (within_either (length program.names) body f g within)))
    with_two h (inr (inr (inl (all, is)))) = subst (λ formula. AreSmaller program told count k formula found) (sym is)
        (of_two (until all f g) (λ families shown. shown) (λ families place. by_until families k f g all place) refl refl (λ same. ap kept_by same) both_complete
        (λ loopless plain within. both_narrow loopless plain (within_until (length program.names) body all f g within))
        (λ loopless plain within. both_numbers (ctl_growth body (until all f g)) (growth_until body all f g) loopless plain
        (within_until (length program.names) body all f g within)))
    with_two h (inr (inr (inr (all, is)))) = subst (λ formula. AreSmaller program told count k formula found) (sym is)
        (of_two (weak all f g) (λ families shown. shown) (λ families place. by_weak families k f g all place) refl refl (λ is. absurd (cc)) both_complete
        (λ loopless plain within. both_narrow loopless plain (within_weak (length program.names) body all f g within))
        (λ loopless plain within. both_numbers (ctl_growth body (weak all f g)) (growth_weak body all f g) loopless plain
        (within_weak (length program.names) body all f g within)))
