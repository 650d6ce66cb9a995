-- Words are what at most one tree spells.
use Rattle.std.proofs.Common.{◌≡◌, ◌⊎◌, inl, inr, ℕ, ◌<◌, refl, sym, ap, ◌∙◌, arith}
use Rattle.derivation.specs.Pieces.{spelling, Fits}
use Rattle.derivation.proofs.Calculus.{first_spelling}
use Rattle.derivation.proofs.OneTree.{IsOnly as IsOnlyIn, Next as NextIn, own, fitting, through, unique, by_token, by_number, by_way, by_its_opening, by_opening, by_side}
use Rattle.formula_syntax.specs.declared.opening.Opening.{Opening}
use Rattle.formula_syntax.specs.Language.{operator_of, connective_of}
use Rattle.formula_syntax.specs.Openings.{IsPart}
use Rattle.formula_syntax.specs.Trees.{FactorKind, signed, Tail, ended, further, Part, Chain, done, joined, Formula}
use Rattle.formula_syntax.specs.Pending.{Pending, Inner, exactly, bytes_of_a_name, a_factor, a_factor_kind, a_tail, a_sum, a_right, an_until, a_part, a_chain, a_formula, an_inner, an_inner_end, a_group, Sequence, nothing, first_read, Trees, pieces, grammar}
use Rattle.formula_syntax.proofs.Sums.{located_factors, factors, tokens, names, untils, rights, signs, operators, tail_ends, sum_goes}
use Rattle.formula_syntax.proofs.Parts.{located_groups, part_rest, parts, inner_rest, inners, inner_ends, chain_ends, connectives, formula_goes}

-- what begins with something else, of the same pieces, has a higher rank than that
abbrev rank_of : Pending → ℕ
rank_of (a_factor n) = 0
rank_of (exactly t quiet) = 0
rank_of bytes_of_a_name = 0
rank_of (a_group n) = 0
rank_of (a_part n) = 2
rank_of (an_inner_end n) = 2
rank_of (a_formula n) = 3
rank_of (an_inner n) = 4
rank_of _ = 1

abbrev rank : Sequence → ℕ
rank nothing = 0
rank (first_read p more) = rank_of p

abbrev IsOnly : (A : Sequence) → Trees A → Type 0
IsOnly = IsOnlyIn grammar

abbrev Next : (A : Sequence) → Trees A → Type 0
Next = NextIn grammar rank

-- what an opening leaves to be read has a lower rank
part_lower : (n : ℕ) (S : Part → Sequence) (o : Opening) → IsPart o → rank (part_rest n S o) < 2
part_lower n S Opening.Nothing h = absurd h
part_lower n S _ h = omega arith

inner_lower : (n : ℕ) (S : Inner → Sequence) (o : Opening) → IsPart o → rank (inner_rest n S o) < 4
inner_lower n S Opening.Nothing h = absurd h
inner_lower n S _ h = omega arith

factor_next : (n : ℕ) (kind : FactorKind) (S : FactorKind → Sequence) (rest : Trees (S kind)) → Next (first_read (a_factor_kind n) S) (kind, rest)
factor_next n (signed negative e) S rest = by_token (signs n S negative) (e, rest)
factor_next n kind S rest = by_its_opening (factors n S) (kind, rest) (omega arith)

-- what ends where no operator or no connective follows
tail_next : (n : ℕ) (t : Tail) (S : Tail → Sequence) (rest : Trees (S t)) → Next (first_read (a_tail n) S) (t, rest)
tail_next n ended S rest = record {
  those = S ended;
  others = rest;
  only = λ d. fitting (λ at fits. through {A = first_read (a_tail n) S} {B = S ended} {fill = λ g. (ended, g)} rest
      (λ m. tail_ends n 0 S (own grammar m (first_read (a_tail n) S) (ended, rest)) (sym (ap operator_of (first_spelling (pieces (S ended) rest)) ∙ fits.0))) d);
  less = inl (omega arith);
}
tail_next n (further op e more) S rest = by_token (operators n S op) (e, (more, rest))

chain_next : (n : ℕ) (c : Chain) (S : Chain → Sequence) (rest : Trees (S c)) → Next (first_read (a_chain n) S) (c, rest)
chain_next n done S rest = record {
  those = S done;
  others = rest;
  only = λ d. fitting (λ at fits. through {A = first_read (a_chain n) S} {B = S done} {fill = λ g. (done, g)} rest
      (λ m. chain_ends n 0 S (own grammar m (first_read (a_chain n) S) (done, rest)) (sym (ap connective_of (first_spelling (pieces (S done) rest)) ∙ fits.0))) d);
  less = inl (omega arith);
}
chain_next n (joined connective f more) S rest = by_token (connectives n S connective) (f, (more, rest))

next : (A : Sequence) (f : Trees A) → IsOnly A f ⊎ Next A f
next nothing f = inl (record { same = λ n others fits others_fit e. refl })
next (first_read (exactly t quiet) S) f = inr (by_token (tokens t quiet (S tt)) f.1)
next (first_read bytes_of_a_name S) f = inr (by_token (names f.0 S) f.1)
next (first_read (a_factor n) S) f = inr (by_number (located_factors n S) f)
next (first_read (a_factor_kind n) S) f = inr (factor_next n f.0 S f.1)
next (first_read (a_tail n) S) f = inr (tail_next n f.0 S f.1)
next (first_read (a_sum n) S) f =
    inr (by_way (f.0.factor, (f.0.tail, f.1)) (λ m. sum_goes n 0 S (own grammar m (first_read (a_sum n) S) f)) refl (omega arith))
next (first_read (a_right n) S) f = inr (by_token (rights n S f.0.comparison) (f.0.sum, f.1))
next (first_read an_until S) f = inr (by_token (untils S f.0) f.1)
next (first_read (a_part n) S) f = inr (by_opening (parts n S) (part_lower n S) f)
next (first_read (a_chain n) S) f = inr (chain_next n f.0 S f.1)
next (first_read (a_formula n) S) f =
    inr (by_way (f.0.part, (f.0.chain, f.1)) (λ m. formula_goes n 0 S (own grammar m (first_read (a_formula n) S) f)) refl (omega arith))
next (first_read (an_inner n) S) f = inr (by_opening (inners n S) (inner_lower n S) f)
next (first_read (an_inner_end n) S) f = inr (by_side (inner_ends n S) (omega arith) f)
next (first_read (a_group n) S) f = inr (by_number (located_groups n S) f)

-- two formulas with the same words are the same
pub one_formula : (f other : Formula) → Fits 0 (pieces (first_read (a_formula 0) (λ f. nothing)) (f, tt)) → Fits 0 (pieces (first_read (a_formula 0) (λ f. nothing)) (other, tt))
    → spelling (pieces (first_read (a_formula 0) (λ f. nothing)) (f, tt)) ≡ spelling (pieces (first_read (a_formula 0) (λ f. nothing)) (other, tt)) → other ≡ f
one_formula f other fits other_fits e =
    ap (λ trees. trees.0) ((unique grammar rank next (first_read (a_formula 0) (λ f. nothing)) (f, tt)).same 0 (other, tt) fits other_fits e)
