-- How the reading of formulas and their parts goes on, by the next word.
use Rattle.std.proofs.Common.{◌≡◌, inl, inr, ℕ, ◌+◌, Bool, None, Some, true, refl, sym, ap, ◌∙◌, subst}
use Rattle.derivation.specs.Pieces.{first, first_before, Fits}
use Rattle.formula_syntax.specs.declared.sign.Comparison.{Comparison}
use Rattle.formula_syntax.specs.declared.sign.Connective.{Connective}
use Rattle.formula_syntax.specs.declared.sign.Prefix.{Prefix}
use Rattle.formula_syntax.specs.declared.sign.Sign.TheVariants as Mark
use Rattle.formula_syntax.specs.declared.opening.Opening.{Opening}
use Rattle.formula_syntax.specs.Language.{Rest, connective_of, no_connective}
use Rattle.formula_syntax.specs.Openings.{opening_of_part, IsPart}
use Rattle.formula_syntax.specs.Trees.{Factor, factor_at, signed, summed, Tail, Sum, Part, prefixed, quantified, truth, exit, compared, grouped, Chain, done, joined, Formula}
use Rattle.formula_syntax.specs.Spelling.{mark, opening, counted, counted_opening}
use Rattle.formula_syntax.specs.Pending.{Inner, of_formula, of_sum, InnerEnd, closed, compares, Group, exactly, a_tail, a_sum, a_right, an_until, a_part, a_chain, a_formula, an_inner, an_inner_end, a_group, Sequence, first_read, then_read, Trees, pieces, grammar, Leads}
use Rattle.formula_syntax.specs.Inners.{inner_of}
use Rattle.derivation.proofs.Grammars.{looks, becomes, Headed}
use Rattle.formula_syntax.proofs.Completions.{lawful}
use Rattle.derivation.proofs.Choices.{begins, Way, Choice, headed, Sides, Fork, Held}
use Rattle.formula_syntax.proofs.Sums.{Same, tokens}

-- a sum in parentheses, as a factor and what stands behind it
abbrev pub summing : ℕ → Sum → Tail → Sum
summing at s tail = record { factor = factor_at at (summed s.factor s.tail); tail = tail }

module _ (n : ℕ) where
  -- parentheses, with the number of the first
  pub located_groups : (K : Group → Sequence)
      → Held lawful (first_read (a_group n) K)
      (λ m. then_read (exactly (opening Mark.OpenParenthesis (n + 1)) (refl, refl)) (first_read (an_inner (n + 1)) (λ i. K (record { at = m; inner = i }))))
      (λ m g. (record { at = m; inner = g.1.0 }, g.1.1))
  located_groups K = record { spells = λ m g. refl; view = λ f. (f.0.at, (tt, (f.0.inner, f.1)), refl) }

  -- a part of a formula
  module _ (K : Part → Sequence) where
    abbrev pub behind_group : ℕ → Inner → Sequence
    behind_group at (of_formula f) = K (grouped at f.part f.chain)
    behind_group at (of_sum s) = first_read (a_tail n) (λ tail. first_read (a_right n) (λ r. K (compared (summing at s tail) r.comparison r.sum)))

    abbrev pub part_rest : Opening → Sequence
    part_rest Opening.Sum = first_read (a_sum n) (λ s. first_read (a_right n) (λ r. K (compared s r.comparison r.sum)))
    part_rest Opening.Parenthesis = first_read (a_group n) (λ g. behind_group g.at g.inner)
    part_rest (Opening.Prefix p) =
        then_read (exactly (counted_opening (Mark.Prefix p) (n + 1)) (refl, refl)) (first_read (a_part (n + 1)) (λ f. K (prefixed p f)))
    part_rest (Opening.Quantifier all) =
        then_read (exactly (counted (Mark.Quantifier all)) (refl, refl)) (then_read (exactly (opening Mark.OpenBracket (n + 1)) (refl, refl))
        (first_read (a_formula (n + 1)) (λ f. first_read an_until (λ weak. first_read (a_formula (n + 1)) (λ g.
        then_read (exactly (mark Mark.CloseBracket) (refl, refl)) (K (quantified all f.part f.chain weak g.part g.chain)))))))
    part_rest (Opening.Truth b) = then_read (exactly (mark (Mark.Truth b)) (refl, refl)) (K (truth b))
    part_rest Opening.Exit = then_read (exactly (mark Mark.Exit) (refl, refl)) (K exit)
    part_rest Opening.Nothing = first_read (a_part n) K

    abbrev pub group_tree : (at : ℕ) (i : Inner) → Trees (behind_group at i) → Trees (first_read (a_part n) K)
    group_tree at (of_formula f) g = (grouped at f.part f.chain, g)
    group_tree at (of_sum s) g = (compared (summing at s g.0) g.1.0.comparison g.1.0.sum, g.1.1)

    abbrev pub part_tree : (o : Opening) → Trees (part_rest o) → Trees (first_read (a_part n) K)
    part_tree Opening.Sum g = (compared g.0 g.1.0.comparison g.1.0.sum, g.1.1)
    part_tree Opening.Parenthesis g = group_tree g.0.at g.0.inner g.1
    part_tree (Opening.Prefix p) g = (prefixed p g.1.0, g.1.1)
    part_tree (Opening.Quantifier all) g = (quantified all g.1.1.0.part g.1.1.0.chain g.1.1.1.0 g.1.1.1.1.0.part g.1.1.1.1.0.chain, g.1.1.1.1.1.1)
    part_tree (Opening.Truth b) g = (truth b, g.1)
    part_tree Opening.Exit g = (exit, g.1)
    part_tree Opening.Nothing g = g

    pub parts : Choice grammar (first_read (a_part n) K) opening_of_part IsPart part_rest part_tree
    parts = record { spells = spells; view = λ f. view f.0 f.1 }
      where
        spells_group : (at : ℕ) (i : Inner) (g : Trees (behind_group at i))
            → pieces (first_read (a_part n) K) (group_tree at i g) ≡ pieces (first_read (a_group n) (λ x. behind_group x.at x.inner)) (record { at = at; inner = i }, g)
        spells_group at (of_formula f) g = refl
        spells_group at (of_sum s) g = refl

        spells : (o : Opening) → (g : Trees (part_rest o)) → pieces (first_read (a_part n) K) (part_tree o g) ≡ pieces (part_rest o) g
        spells Opening.Parenthesis g = spells_group g.0.at g.0.inner g.1
        spells _ g = refl

        compared_view : (e : Factor) (t : Tail) (c : Comparison) (s : Sum) (rest : Trees (K (compared (record { factor = e; tail = t }) c s)))
            → Way grammar (first_read (a_part n) K) IsPart part_rest part_tree
            (opening_of_part (begins grammar (first_read (a_part n) K) (compared (record { factor = e; tail = t }) c s, rest)))
            (compared (record { factor = e; tail = t }) c s, rest)
        compared_view (factor_at m (summed e more)) t c s rest =
            (tt, (record { at = m; inner = of_sum (record { factor = e; tail = more }) }, (t, (record { comparison = c; sum = s }, rest))), refl)
        compared_view (factor_at m (signed true e)) t c s rest = (tt, (record { factor = factor_at m (signed true e); tail = t }, (record { comparison = c; sum = s }, rest)), refl)
        compared_view e t c s rest = (tt, (record { factor = e; tail = t }, (record { comparison = c; sum = s }, rest)), refl)

        view : (f : Part) (rest : Trees (K f))
            → Way grammar (first_read (a_part n) K) IsPart part_rest part_tree (opening_of_part (begins grammar (first_read (a_part n) K) (f, rest))) (f, rest)
        view (prefixed p f) rest = (tt, (tt, (f, rest)), refl)
        view (quantified all f c weak g d) rest =
            (tt, (tt, (tt, (record { part = f; chain = c }, (weak, (record { part = g; chain = d }, (tt, rest)))))), refl)
        view (truth b) rest = (tt, (tt, rest), refl)
        view exit rest = (tt, (tt, rest), refl)
        view (compared left c s) rest = compared_view left.factor left.tail c s rest
        view (grouped at f c) rest = (tt, (record { at = at; inner = of_formula (record { part = f; chain = c }) }, rest), refl)

  -- what stands in parentheses where a formula or a sum may
  module _ (K : Inner → Sequence) where
    abbrev pub behind_inner_group : ℕ → Inner → Sequence
    behind_inner_group at (of_formula f) =
        first_read (a_chain n) (λ c. then_read (exactly (mark Mark.CloseParenthesis) (refl, refl)) (K (of_formula (record { part = grouped at f.part f.chain; chain = c }))))
    behind_inner_group at (of_sum s) = first_read (a_tail n) (λ tail. first_read (an_inner_end n) (λ e. K (inner_of (summing at s tail) e)))

    abbrev pub a_closed_formula : Sequence
    a_closed_formula = first_read (a_formula n) (λ f. then_read (exactly (mark Mark.CloseParenthesis) (refl, refl)) (K (of_formula f)))

    abbrev pub inner_rest : Opening → Sequence
    inner_rest Opening.Sum = first_read (a_sum n) (λ s. first_read (an_inner_end n) (λ e. K (inner_of s e)))
    inner_rest Opening.Parenthesis = first_read (a_group n) (λ g. behind_inner_group g.at g.inner)
    inner_rest (Opening.Prefix p) = a_closed_formula
    inner_rest (Opening.Quantifier all) = a_closed_formula
    inner_rest (Opening.Truth b) = a_closed_formula
    inner_rest Opening.Exit = a_closed_formula
    inner_rest Opening.Nothing = first_read (an_inner n) K

    abbrev pub inner_group_tree : (at : ℕ) (i : Inner) → Trees (behind_inner_group at i) → Trees (first_read (an_inner n) K)
    inner_group_tree at (of_formula f) g = (of_formula (record { part = grouped at f.part f.chain; chain = g.0 }), g.1.1)
    inner_group_tree at (of_sum s) g = (inner_of (summing at s g.0) g.1.0, g.1.1)

    abbrev pub inner_tree : (o : Opening) → Trees (inner_rest o) → Trees (first_read (an_inner n) K)
    inner_tree Opening.Sum g = (inner_of g.0 g.1.0, g.1.1)
    inner_tree Opening.Parenthesis g = inner_group_tree g.0.at g.0.inner g.1
    inner_tree (Opening.Prefix p) g = (of_formula g.0, g.1.1)
    inner_tree (Opening.Quantifier all) g = (of_formula g.0, g.1.1)
    inner_tree (Opening.Truth b) g = (of_formula g.0, g.1.1)
    inner_tree Opening.Exit g = (of_formula g.0, g.1.1)
    inner_tree Opening.Nothing g = g

    abbrev WayOf : (i : Inner) → Trees (K i) → Type 0
    WayOf i rest = Way grammar (first_read (an_inner n) K) IsPart inner_rest inner_tree (opening_of_part (begins grammar (first_read (an_inner n) K) (i, rest))) (i, rest)

    abbrev comparing : Factor → Tail → Comparison → Sum → Chain → Inner
    comparing e t c s chain = of_formula (record { part = compared (record { factor = e; tail = t }) c s; chain = chain })

    pub inners : Choice grammar (first_read (an_inner n) K) opening_of_part IsPart inner_rest inner_tree
    inners = record { spells = spells; view = λ f. view f.0 f.1 }
      where
        spells_end : (s : Sum) (e : InnerEnd) (g : Trees (K (inner_of s e)))
            → pieces (first_read (an_inner n) K) (inner_of s e, g) ≡ pieces (first_read (a_sum n) (λ s. first_read (an_inner_end n) (λ e. K (inner_of s e)))) (s, (e, g))
        spells_end s closed g = refl
        spells_end s (compares r c) g = refl

        spells_summing : (at : ℕ) (s : Sum) (tail : Tail) (e : InnerEnd) (g : Trees (K (inner_of (summing at s tail) e)))
            → pieces (first_read (an_inner n) K) (inner_of (summing at s tail) e, g)
            ≡ pieces (first_read (a_group n) (λ x. behind_inner_group x.at x.inner)) (record { at = at; inner = of_sum s }, (tail, (e, g)))
        spells_summing at s tail closed g = refl
        spells_summing at s tail (compares r c) g = refl

        spells_group : (at : ℕ) (i : Inner) (g : Trees (behind_inner_group at i))
            → pieces (first_read (an_inner n) K) (inner_group_tree at i g)
            ≡ pieces (first_read (a_group n) (λ x. behind_inner_group x.at x.inner)) (record { at = at; inner = i }, g)
        spells_group at (of_formula f) g = refl
        spells_group at (of_sum s) g = spells_summing at s g.0 g.1.0 g.1.1

        spells : (o : Opening) → (g : Trees (inner_rest o)) → pieces (first_read (an_inner n) K) (inner_tree o g) ≡ pieces (inner_rest o) g
        spells Opening.Sum g = spells_end g.0 g.1.0 g.1.1
        spells Opening.Parenthesis g = spells_group g.0.at g.0.inner g.1
        spells _ g = refl

        sum_view : (e : Factor) (t : Tail) (rest : Trees (K (of_sum (record { factor = e; tail = t })))) → WayOf (of_sum (record { factor = e; tail = t })) rest
        sum_view (factor_at m (summed e more)) t rest =
            (tt, (record { at = m; inner = of_sum (record { factor = e; tail = more }) }, (t, (closed, rest))), refl)
        sum_view (factor_at m (signed true e)) t rest = (tt, (record { factor = factor_at m (signed true e); tail = t }, (closed, rest)), refl)
        sum_view e t rest = (tt, (record { factor = e; tail = t }, (closed, rest)), refl)

        compared_view : (e : Factor) (t : Tail) (c : Comparison) (s : Sum) (chain : Chain) (rest : Trees (K (comparing e t c s chain)))
            → WayOf (comparing e t c s chain) rest
        compared_view (factor_at m (summed e more)) t c s chain rest =
            (tt, (record { at = m; inner = of_sum (record { factor = e; tail = more }) }, (t, (compares (record { comparison = c; sum = s }) chain, rest))), refl)
        compared_view (factor_at m (signed true e)) t c s chain rest =
            (tt, (record { factor = factor_at m (signed true e); tail = t }, (compares (record { comparison = c; sum = s }) chain, rest)), refl)
        compared_view e t c s chain rest = (tt, (record { factor = e; tail = t }, (compares (record { comparison = c; sum = s }) chain, rest)), refl)

        formula_view : (f : Part) (c : Chain) (rest : Trees (K (of_formula (record { part = f; chain = c })))) → WayOf (of_formula (record { part = f; chain = c })) rest
        formula_view (compared left comparison s) c rest = compared_view left.factor left.tail comparison s c rest
        formula_view (grouped at f d) c rest = (tt, (record { at = at; inner = of_formula (record { part = f; chain = d }) }, (c, (tt, rest))), refl)
        formula_view f c rest = (tt, (record { part = f; chain = c }, (tt, rest)), refl)

        view : (i : Inner) (rest : Trees (K i)) → WayOf i rest
        view (of_formula f) rest = formula_view f.part f.chain rest
        view (of_sum s) rest = sum_view s.factor s.tail rest

  -- what stands there behind a sum
  pub inner_ends : (K : InnerEnd → Sequence)
      → Fork grammar (first_read (an_inner_end n) K) (mark Mark.CloseParenthesis) (K closed) (λ g. (closed, g))
      (first_read (a_right n) (λ r. first_read (a_chain n) (λ c. then_read (exactly (mark Mark.CloseParenthesis) (refl, refl)) (K (compares r c)))))
      (λ g. (compares g.0 g.1.0, g.1.1.1))
  inner_ends K = record { spells = λ g. refl; spells_other = λ g. refl; view = λ f. view f.0 f.1 }
    where
      view : (e : InnerEnd) (rest : Trees (K e))
          → Sides grammar (first_read (an_inner_end n) K) (mark Mark.CloseParenthesis) (K closed) (λ g. (closed, g))
          (first_read (a_right n) (λ r. first_read (a_chain n) (λ c. then_read (exactly (mark Mark.CloseParenthesis) (refl, refl)) (K (compares r c)))))
          (λ g. (compares g.0 g.1.0, g.1.1.1)) (e, rest)
      view closed rest = inl (rest, refl)
      view (compares r c) rest = inr ((r, (c, (tt, rest))), refl, λ e. cc)

-- what stands behind the first part of a formula
module _ (n c : ℕ) (K : Chain → Sequence) (from : Rest) where
  pub chain_ends : None ≡ connective_of (first from.words)
      → Leads c (first_read (a_chain n) K) from c (K done) from (λ g. (done, g))
  chain_ends e =
      looks (λ next. connective_of next ≡ None) no_connective (sym e) (λ g. refl) (λ f fits none. view f.0 f.1 none) (sym e)
    where
      view : (t : Chain) (rest : Trees (K t)) → connective_of (first_before (pieces (first_read (a_chain n) K) (t, rest)) None) ≡ None
          → (g : Trees (K done)) × Same (first_read (a_chain n) K) (t, rest) (done, g)
      view done rest none = (rest, refl)
      view (joined connective t more) rest none = absurd (cc)

-- a connective there
module _ (n : ℕ) (K : Chain → Sequence) where
  abbrev connective_rest : Connective → Sequence
  connective_rest connective = first_read (a_part n) (λ f. first_read (a_chain n) (λ t. K (joined connective f t)))

  pub connectives : (connective : Connective) → Headed grammar (first_read (a_chain n) K) (counted (Mark.Connective connective))
      (first_read (a_part n) (λ f. first_read (a_chain n) (λ t. K (joined connective f t)))) (λ g. (joined connective g.0 g.1.0, g.1.1))
  connectives connective = record { spells = λ g. refl; view = λ m f fits next. view m f.0 f.1 fits (ap connective_of next) }
    where
      view : (m : ℕ) (t : Chain) (rest : Trees (K t)) → Fits m (pieces (first_read (a_chain n) K) (t, rest))
          → connective_of (begins grammar (first_read (a_chain n) K) (t, rest)) ≡ Some connective
          → (g : Trees (connective_rest connective)) × Same (first_read (a_chain n) K) (t, rest) (joined connective g.0 g.1.0, g.1.1)
      view m done rest fits found = absurd (let both = sym fits.0 ∙ found in cc)
      view m (joined other f more) rest fits found =
          let same : other ≡ connective = cc in
          subst (λ o. (g : Trees (connective_rest o)) × Same (first_read (a_chain n) K) (joined other f more, rest) (joined o g.0 g.1.0, g.1.1)) same
          ((f, (more, rest)), refl)

-- a formula is a part and what stands behind it
pub formula_goes : (n c : ℕ) (K : Formula → Sequence) (from : Rest)
    → Leads c (first_read (a_formula n) K) from c (first_read (a_part n) (λ f. first_read (a_chain n) (λ t. K (record { part = f; chain = t })))) from
    (λ g. (record { part = g.0; chain = g.1.0 }, g.1.1))
formula_goes n c K from = becomes (λ g. refl) (λ f. ((f.0.part, (f.0.chain, f.1)), refl))

module _ (n : ℕ) (K : Part → Sequence) where
  -- a prefix before a part
  pub prefixes : (p : Prefix)
      → Headed grammar (first_read (a_part n) K) (counted_opening (Mark.Prefix p) (n + 1)) (first_read (a_part (n + 1)) (λ f. K (prefixed p f))) (λ g. (prefixed p g.0, g.1))
  prefixes p = headed (Opening.Prefix p) (parts n K) refl (tokens (counted_opening (Mark.Prefix p) (n + 1)) (refl, refl) _)

  -- `A` or `E`
  pub quantifiers : (all : Bool)
      → Headed grammar (first_read (a_part n) K) (counted (Mark.Quantifier all))
      (then_read (exactly (opening Mark.OpenBracket (n + 1)) (refl, refl))
      (first_read (a_formula (n + 1)) (λ f. first_read an_until (λ weak. first_read (a_formula (n + 1)) (λ g.
      then_read (exactly (mark Mark.CloseBracket) (refl, refl)) (K (quantified all f.part f.chain weak g.part g.chain)))))))
      (λ g. (quantified all g.1.0.part g.1.0.chain g.1.1.0 g.1.1.1.0.part g.1.1.1.0.chain, g.1.1.1.1.1))
  quantifiers all = headed (Opening.Quantifier all) (parts n K) refl (tokens (counted (Mark.Quantifier all)) (refl, refl) _)
