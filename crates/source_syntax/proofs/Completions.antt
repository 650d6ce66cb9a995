-- Whatever is still to be read can be completed, by words that no end forbids.
use Rattle.std.proofs.Common.{ℕ, ◌+◌, pos, List, [], ◌∷◌, Option, None, Some, true, false, refl}
use Rattle.derivation.specs.Pieces.{first_before, number_behind, Fits}
use Rattle.derivation.specs.Comes.{MayStandFor}
use Rattle.derivation.specs.Word.{Word}
use Rattle.derivation.proofs.Grammars.{Lawful}
use Rattle.source_syntax.specs.Language.{language, Piece, Look, is_at, no_operator, no_else, forbidden, Meets, IsQuiet}
use Rattle.source_syntax.specs.Ends.{continues, does, is_main}
use Rattle.concrete_syntax.specs.declared.sign.Step.TheVariants as Step
use Rattle.concrete_syntax.specs.Trees.{operand_at, number, ended, Expression, Name, steps, steps_before, evaluates, starts_with_nothing, statement_at, skip, without, none, nothing}
use Rattle.source_syntax.specs.Pending.{Pending, exactly, a_name, bytes_of_a_name, a_size, an_end, a_number, a_divisor, an_operand, an_operand_kind, a_tail, an_expression, an_optional, a_test, an_action, a_simple, an_initialiser, a_part_end, parts, a_declaration, a_start, a_finish, a_value, a_value_end, a_closing, arguments, further_arguments, a_statement_end, a_statement, a_statement_kind, an_otherwise, items, a_void, parameters, further_parameters, a_place, definitions_end, definitions, a_program, TreeOf, pieces_of, Trees, pieces, grammar}

abbrev zero_at : ℕ → Expression
zero_at at = record { operand = operand_at at (number (pos 0)); tail = ended }

abbrev empty_name : ℕ → Name
empty_name at = record { at = at; bytes = [] }

-- the pieces from the token of this number on fit, and no end forbids their first word
abbrev Stands : ℕ → List Piece → Type 0
Stands at ps = Fits at ps × IsQuiet (first_before ps None)

-- a short tree of each, from the token of this number on: its pieces stand before what does
abbrev short : (at : ℕ) (p : Pending) → (t : TreeOf p) × ((behind : List Piece) → Stands (number_behind at (pieces_of p t [])) behind → Stands at (pieces_of p t behind))
short at (exactly t quiet) = (tt, λ behind h. (h.0, quiet))
short at a_name = (empty_name at, λ behind h. ((refl, h.0), (refl, refl)))
short at bytes_of_a_name = ([], λ behind h. (h.0, (refl, refl)))
short at a_size = (Some (pos 0), λ behind h. (h.0, (refl, refl)))
short at an_end = (record { negative = false; size = Some (pos 0) }, λ behind h. (h.0, (refl, refl)))
short at a_number = (pos 0, λ behind h. (h.0, (refl, refl)))
short at a_divisor = (record { negative = false; at = at; size = pos 0 }, λ behind h. ((refl, h.0), (refl, refl)))
short at (an_operand n) = (operand_at at (number (pos 0)), λ behind h. ((refl, h.0), (refl, refl)))
short at (an_operand_kind n) = (number (pos 0), λ behind h. (h.0, (refl, refl)))
short at (a_tail n) = (ended, λ behind h. ((h.1.0, h.0), h.1))
short at (an_expression n) = (zero_at at, λ behind h. ((refl, (h.1.0, h.0)), (refl, refl)))
short at (an_optional n) = (None, λ behind h. (h.0, (refl, refl)))
short at (a_test n) = (zero_at (at + 1), λ behind h. ((refl, (refl, h.0)), (refl, refl)))
short at (an_action n) = (steps Step.Increment, λ behind h. (h.0, (refl, refl)))
short at (a_simple n) = (steps_before at Step.Increment (empty_name (at + 1)), λ behind h. ((refl, (refl, h.0)), (refl, refl)))
short at (an_initialiser functions n) = ((evaluates (zero_at at), []), λ behind h. ((refl, (refl, h.0)), (refl, refl)))
short at (a_part_end functions n) = ((None, []), λ behind h. (h.0, (refl, refl)))
short at (parts functions n) = ([], λ behind h. (h.0, (refl, refl)))
short at (a_declaration functions n) = (record { part = record { declared = empty_name (at + 1); initialiser = None }; more = [] }, λ behind h. ((refl, h.0), (refl, refl)))
short at (a_start functions n) = (starts_with_nothing, λ behind h. (h.0, (refl, refl)))
short at (a_finish n) = (None, λ behind h. (h.0, (refl, refl)))
short at (a_value true n) = ((evaluates (zero_at at), []), λ behind h. ((refl, (refl, h.0)), (refl, refl)))
short at (a_value false n) = ((evaluates (zero_at at), tt), λ behind h. ((refl, (refl, h.0)), (refl, refl)))
short at (a_value_end true n) = ((continues ended, []), λ behind h. ((refl, h.0), (refl, refl)))
short at (a_value_end false n) = ((continues ended, tt), λ behind h. ((refl, h.0), (refl, refl)))
short at (a_closing true n) = ([], λ behind h. (h.0, (refl, refl)))
short at (a_closing false n) = (tt, λ behind h. (h.0, (refl, refl)))
short at (arguments n) = ([], λ behind h. (h.0, (refl, refl)))
short at (further_arguments n) = ([], λ behind h. (h.0, (refl, refl)))
short at (a_statement_end functions n) = (does (steps Step.Increment), λ behind h. (h.0, (refl, refl)))
short at (a_statement functions n) = (statement_at at skip, λ behind h. ((refl, h.0), (refl, refl)))
short at (a_statement_kind functions n) = (skip, λ behind h. (h.0, (refl, refl)))
short at (an_otherwise functions n) = (without, λ behind h. ((h.1.1, h.0), h.1))
short at (items functions n) = (none, λ behind h. (h.0, (refl, refl)))
short at a_void = (false, λ behind h. (h.0, (refl, refl)))
short at parameters = (nothing false, λ behind h. (h.0, (refl, refl)))
short at further_parameters = ([], λ behind h. (h.0, (refl, refl)))
short at a_place = (at, λ behind h. ((refl, h.0), h.1))
short at definitions_end = (is_main false none, λ behind h. (h.0, (refl, refl)))
short at (definitions functions) = (record { functions = []; void = false; items = none }, λ behind h. (h.0, (refl, refl)))
short at (a_program functions) = (record { preludes = []; functions = []; void = false; items = none }, λ behind h. (h.0, (refl, refl)))

abbrev complete : ℕ → (all : List Pending) → Trees all
complete at [] = tt
complete at (p ∷ more) = ((short at p).0, complete (number_behind at (pieces_of p (short at p).0 [])) more)

pub completes : (at : ℕ) (all : List Pending) → Stands at (pieces all (complete at all))
completes at [] = (tt, (refl, refl))
completes at (p ∷ more) = (short at p).1 _ (completes (number_behind at (pieces_of p (short at p).0 [])) more)

-- a word that no end forbids may stand for each
pub quiet_stands : (next other : Option Word) → IsQuiet next → MayStandFor language next other
quiet_stands next other quiet = stands
  where
    stands : (l : Look) (n : ℕ) → Meets l n other → Meets l n next
    stands (is_at m) n meets = meets
    stands no_operator n meets = quiet.0
    stands no_else n meets = quiet.1
    stands forbidden n meets = meets

abbrev pub lawful : Lawful grammar
lawful = record {
  complete = complete;
  fits = λ at all. (completes at all).0;
  stands = λ at all next. quiet_stands _ next (completes at all).1;
  is_at = is_at;
  met = λ n next. refl;
  tells = λ m n next same. same;
}
