-- Whatever is still to be read can be completed, by words that no end forbids.
use Rattle.std.proofs.Common.{ℕ, ◌+◌, pos, List, [], Option, None, true, false, refl}
use Rattle.derivation.specs.Pieces.{first_before, number_behind, Fits}
use Rattle.derivation.specs.Comes.{MayStandFor}
use Rattle.derivation.proofs.Grammars.{Lawful}
use Rattle.formula_syntax.specs.declared.sign.Comparison.TheVariants as R
use Rattle.formula_syntax.specs.Language.{language, Piece, Look, is_at, no_operator, no_connective, Meets, IsQuiet}
use Rattle.formula_syntax.specs.Words.{Word}
use Rattle.formula_syntax.specs.Trees.{factor_at, number, ended, Sum, truth, done}
use Rattle.formula_syntax.specs.Pending.{Pending, exactly, bytes_of_a_name, a_factor, a_factor_kind, a_tail, a_sum, a_right, an_until, a_part, a_chain, a_formula, an_inner, an_inner_end, a_group, TreeOf, of_sum, closed, pieces_of, Sequence, nothing, first_read, Trees, pieces, grammar}

abbrev zero_at : ℕ → Sum
zero_at at = record { factor = factor_at at (number (pos 0)); tail = ended }

-- the pieces from the token of this number on fit, and no end forbids their first word
abbrev Stands : ℕ → List Piece → Type 0
Stands at ps = Fits at ps × IsQuiet (first_before ps None)

-- a short tree of each, from the token of this number on: its pieces stand before what does
abbrev short : (at : ℕ) (p : Pending) → (t : TreeOf p) × ((behind : List Piece) → Stands (number_behind at (pieces_of p t [])) behind → Stands at (pieces_of p t behind))
short at (exactly t quiet) = (tt, λ behind h. (h.0, quiet))
short at bytes_of_a_name = ([], λ behind h. (h.0, (refl, refl)))
short at (a_factor n) = (factor_at at (number (pos 0)), λ behind h. ((refl, h.0), (refl, refl)))
short at (a_factor_kind n) = (number (pos 0), λ behind h. (h.0, (refl, refl)))
short at (a_tail n) = (ended, λ behind h. ((h.1.0, h.0), h.1))
short at (a_sum n) = (zero_at at, λ behind h. ((refl, (h.1.0, h.0)), (refl, refl)))
short at (a_right n) = (record { comparison = R.Equal; sum = zero_at (at + 1) }, λ behind h. ((refl, (h.1.0, h.0)), (refl, refl)))
short at an_until = (false, λ behind h. (h.0, (refl, refl)))
short at (a_part n) = (truth true, λ behind h. (h.0, (refl, refl)))
short at (a_chain n) = (done, λ behind h. ((h.1.1, h.0), h.1))
short at (a_formula n) = (record { part = truth true; chain = done }, λ behind h. ((h.1.1, h.0), (refl, refl)))
short at (an_inner n) = (of_sum (zero_at at), λ behind h. ((refl, (refl, h.0)), (refl, refl)))
short at (an_inner_end n) = (closed, λ behind h. (h.0, (refl, refl)))
short at (a_group n) = (record { at = at; inner = of_sum (zero_at (at + 1)) }, λ behind h. ((refl, (refl, (refl, h.0))), (refl, refl)))

abbrev complete : ℕ → (all : Sequence) → Trees all
complete at nothing = tt
complete at (first_read p more) = ((short at p).0, complete (number_behind at (pieces_of p (short at p).0 [])) (more (short at p).0))

pub completes : (at : ℕ) (all : Sequence) → Stands at (pieces all (complete at all))
completes at nothing = (tt, (refl, refl))
completes at (first_read p more) = (short at p).1 _ (completes (number_behind at (pieces_of p (short at p).0 [])) (more (short at p).0))

-- a word that no end forbids may stand for each
pub quiet_stands : (next other : Option Word) → IsQuiet next → MayStandFor language next other
quiet_stands next other quiet = stands
  where
    stands : (l : Look) (n : ℕ) → Meets l n other → Meets l n next
    stands (is_at m) n meets = meets
    stands no_operator n meets = quiet.0
    stands no_connective n meets = quiet.1

abbrev pub lawful : Lawful grammar
lawful = record {
  complete = complete;
  fits = λ at all. (completes at all).0;
  stands = λ at all next. quiet_stands _ next (completes at all).1;
  is_at = is_at;
  met = λ n next. refl;
  tells = λ m n next same. same;
}
