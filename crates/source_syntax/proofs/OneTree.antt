-- Words are what at most one tree spells.
use Rattle.std.proofs.Common.{◌≡◌, ◌⊎◌, inl, inr, ℕ, ◌<◌, List, [], ◌∷◌, Bool, true, false, refl, sym, ap, ◌∙◌, subst, arith}
use Rattle.std.specs.Bool.{IsFalse}
use Rattle.derivation.specs.Pieces.{spelling, Fits}
use Rattle.derivation.proofs.Calculus.{first_spelling}
use Rattle.derivation.proofs.OneTree.{IsOnly as IsOnlyIn, Next as NextIn, own, fitting, through, unique, by_token, by_number, by_way, by_its_opening, by_opening, by_side}
use Rattle.concrete_syntax.specs.Trees.{OperandKind, truth, signed, Tail, ended, further, operation, division, Value, evaluates, answers, Part, Otherwise, without, otherwise, Items, Function, Program}
use Rattle.source_syntax.specs.declared.opening.ActionOpening.{ActionOpening}
use Rattle.source_syntax.specs.declared.opening.EndOpening.{EndOpening}
use Rattle.source_syntax.specs.declared.opening.ItemOpening.{ItemOpening}
use Rattle.source_syntax.specs.declared.opening.LinkOpening.TheVariants as Link
use Rattle.source_syntax.specs.declared.opening.PreludeOpening.{PreludeOpening}
use Rattle.source_syntax.specs.declared.opening.SimpleOpening.{SimpleOpening}
use Rattle.source_syntax.specs.declared.opening.SizeOpening.{SizeOpening}
use Rattle.source_syntax.specs.declared.opening.StartOpening.{StartOpening}
use Rattle.source_syntax.specs.declared.opening.StatementOpening.{StatementOpening}
use Rattle.source_syntax.specs.Language.{link_opening, is_else}
use Rattle.source_syntax.specs.Ends.{StatementEnd, does, applied, given}
use Rattle.source_syntax.specs.Pending.{Pending, exactly, a_name, bytes_of_a_name, a_size, an_end, a_number, a_divisor, an_operand, an_operand_kind, a_tail, an_expression, an_optional, a_test, an_action, a_simple, an_initialiser, a_part_end, parts, a_declaration, a_start, a_finish, a_value, a_value_end, a_closing, arguments, further_arguments, a_statement_end, a_statement, a_statement_kind, an_otherwise, items, a_void, parameters, further_parameters, a_place, definitions_end, definitions, a_program, Trees, pieces, grammar}
use Rattle.source_syntax.specs.Reads.{main_end}
use Rattle.source_syntax.proofs.Answering.{units}
use Rattle.source_syntax.proofs.Expressions.{places, names, divisors, IsSize, size_rest, sizes, ends, operands, prefixes, located_operands, tokens, name_bytes, numbers, link_signs, tail_ends, expression_goes}
use Rattle.source_syntax.proofs.Statements.{IsAction, action_rest, actions, IsSimple, simple_rest, simples, part_ends, further_parts, no_called_initialisers, declaration_goes, test_goes, optionals, start_rest, starts, finishes, IsStatement, statement_rest, statements, located_statements, items_rest, all_items, voids, otherwise_ends, elses}
use Rattle.source_syntax.proofs.Calling.{end_rest, statement_ends, no_calls, closes_statement, closes_part, initialiser_goes, value_rest, values, value_ends, first_arguments, more_arguments}
use Rattle.source_syntax.proofs.Programs.{all_parameters, more_parameters, all_definitions, definitions_ends, main_signs, main_quiet, no_functions, program_rest, beginnings}

-- what begins with something else, of the same pieces, has a higher rank than that
abbrev rank_of : Pending → ℕ
rank_of (exactly t quiet) = 0
rank_of a_name = 0
rank_of bytes_of_a_name = 0
rank_of a_number = 0
rank_of (an_operand n) = 0
rank_of (a_statement functions n) = 0
rank_of a_place = 0
rank_of an_end = 2
rank_of (an_optional n) = 2
rank_of (a_start functions n) = 2
rank_of (a_finish n) = 2
rank_of (a_value initialises n) = 2
rank_of (a_value_end initialises n) = 2
rank_of (a_closing initialises n) = 2
rank_of (a_part_end functions n) = 2
rank_of (arguments n) = 2
rank_of (a_statement_end functions n) = 2
rank_of (a_statement_kind functions n) = 2
rank_of (items functions n) = 2
rank_of parameters = 2
rank_of (a_program functions) = 2
rank_of (an_initialiser functions n) = 3
rank_of _ = 1

abbrev rank : List Pending → ℕ
rank [] = 0
rank (p ∷ S) = rank_of p

abbrev IsOnly : (A : List Pending) → Trees A → Type 0
IsOnly = IsOnlyIn grammar

abbrev Next : (A : List Pending) → Trees A → Type 0
Next = NextIn grammar rank

-- what an opening leaves to be read has a lower rank
module _ (S : List Pending) where
  size_lower : (o : SizeOpening) → IsSize o → rank (size_rest o S) < 1
  size_lower SizeOpening.Nothing h = absurd h
  size_lower _ h = omega arith

  action_lower : (n : ℕ) (o : ActionOpening) → IsAction o → rank (action_rest n o S) < 1
  action_lower n ActionOpening.Nothing h = absurd h
  action_lower n _ h = omega arith

  simple_lower : (n : ℕ) (o : SimpleOpening) → IsSimple o → rank (simple_rest n o S) < 1
  simple_lower n SimpleOpening.Nothing h = absurd h
  simple_lower n _ h = omega arith

  start_lower : (functions : Bool) (n : ℕ) (o : StartOpening) → rank (start_rest functions n o S) < 2
  start_lower functions n StartOpening.Nothing = omega arith
  start_lower functions n _ = omega arith

  value_lower : (initialises : Bool) (n : ℕ) (o : Bool) → rank (value_rest initialises n o S) < 2
  value_lower initialises n true = omega arith
  value_lower initialises n false = omega arith

  end_lower : (n : ℕ) (o : EndOpening) → rank (end_rest n o S) < 2
  end_lower n EndOpening.Call = omega arith
  end_lower n _ = omega arith

  statement_lower : (functions : Bool) (n : ℕ) (o : StatementOpening) → IsStatement o → rank (statement_rest functions n o S) < 2
  statement_lower functions n StatementOpening.Nothing h = absurd h
  statement_lower functions n _ h = omega arith

  item_lower : (functions : Bool) (n : ℕ) (o : ItemOpening) → rank (items_rest functions n o S) < 2
  item_lower functions n ItemOpening.Close = omega arith
  item_lower functions n _ = omega arith

  program_lower : (functions : Bool) (o : PreludeOpening) → rank (program_rest functions o S) < 2
  program_lower functions PreludeOpening.Extern = omega arith
  program_lower functions _ = omega arith

operand_next : (n : ℕ) (kind : OperandKind) (S : List Pending) (rest : Trees S) → Next (an_operand_kind n ∷ S) (kind, rest)
operand_next n (signed prefix e) S rest = by_token (prefixes n S prefix) (e, rest)
operand_next n (truth true) S rest = by_its_opening (operands n S) (truth true, rest) (omega arith)
operand_next n kind S rest = by_its_opening (operands n S) (kind, rest) (omega arith)

-- what ends where no operator or no `else` follows
tail_next : (n : ℕ) (t : Tail) (S : List Pending) (rest : Trees S) → Next (a_tail n ∷ S) (t, rest)
tail_next n ended S rest = record {
  those = S;
  others = rest;
  only = λ d. fitting (λ at fits. through rest (λ m. tail_ends n 0 S (own grammar m (a_tail n ∷ S) (ended, rest))
      (sym (ap link_opening (first_spelling (pieces S rest)) ∙ fits.0))) d);
  less = inl (omega arith);
}
tail_next n (further (operation op e) more) S rest = by_token (link_signs n S (Link.Operation op)) (e, (more, rest))
tail_next n (further (division sign d) more) S rest = by_token (link_signs n S (Link.Division sign)) (d, (more, rest))

otherwise_next : (functions : Bool) (n : ℕ) (other : Otherwise) (S : List Pending) (rest : Trees S) → Next (an_otherwise functions n ∷ S) (other, rest)
otherwise_next functions n without S rest = record {
  those = S;
  others = rest;
  only = λ d. fitting (λ at fits. through rest (λ m. otherwise_ends functions n 0 S (own grammar m (an_otherwise functions n ∷ S) (without, rest))
      (subst (λ next. IsFalse (is_else next)) (sym (first_spelling (pieces S rest))) fits.0)) d);
  less = inl (omega arith);
}
otherwise_next functions n (otherwise part) S rest = by_token (elses functions n S) (part, rest)

-- what doesn't stand where functions aren't allowed
initialiser_next : (n : ℕ) (value : Value) (more : List Part) (S : List Pending) (rest : Trees S)
    → IsOnly (an_initialiser false n ∷ S) ((value, more), rest) ⊎ Next (an_initialiser false n ∷ S) ((value, more), rest)
initialiser_next n (evaluates e) more S rest =
    inr (by_way (e, (more, rest)) (λ m. no_called_initialisers n 0 S (own grammar m (an_initialiser false n ∷ S) ((evaluates e, more), rest))) refl (omega arith))
initialiser_next n (answers c) more S rest = inl (fitting (λ m fits. absurd fits.1.0))

statement_end_next : (n : ℕ) (end : StatementEnd) (S : List Pending) (rest : Trees S)
    → IsOnly (a_statement_end false n ∷ S) (end, rest) ⊎ Next (a_statement_end false n ∷ S) (end, rest)
statement_end_next n (does action) S rest =
    inr (by_way (action, (tt, rest)) (λ m. no_calls n 0 S (own grammar m (a_statement_end false n ∷ S) (does action, rest))) refl (omega arith))
statement_end_next n (applied all) S rest = inl (fitting (λ m fits. absurd fits.0))
statement_end_next n (given c) S rest = inl (fitting (λ m fits. absurd fits.1.0))

definitions_next : (before : List Function) (void : Bool) (all : Items) (S : List Pending) (rest : Trees S)
    → IsOnly (definitions false ∷ S) (record { functions = before; void = void; items = all }, rest)
    ⊎ Next (definitions false ∷ S) (record { functions = before; void = void; items = all }, rest)
definitions_next [] void all S rest =
    inr (by_way (units main_signs main_quiet (main_end false S) (tt, (void, (tt, (all, rest)))))
    (λ m. no_functions 0 S (own grammar m (definitions false ∷ S) (record { functions = []; void = void; items = all }, rest))) refl (omega arith))
definitions_next (f ∷ more) void all S rest = inl (fitting (λ m fits. absurd fits.1.0))

next : (A : List Pending) (f : Trees A) → IsOnly A f ⊎ Next A f
next [] f = inl (record { same = λ n others fits others_fit e. refl })
next (exactly t quiet ∷ S) f = inr (by_token (tokens t quiet S) f.1)
next (a_name ∷ S) f = inr (by_number (names S) f)
next (bytes_of_a_name ∷ S) f = inr (by_token (name_bytes f.0 S) f.1)
next (a_size ∷ S) f = inr (by_opening (sizes S) (size_lower S) f)
next (an_end ∷ S) f = inr (by_side (ends S) (omega arith) f)
next (a_number ∷ S) f = inr (by_token (numbers f.0 S) f.1)
next (a_divisor ∷ S) f = inr (by_side (divisors S) (omega arith) f)
next (an_operand n ∷ S) f = inr (by_number (located_operands n S) f)
next (an_operand_kind n ∷ S) f = inr (operand_next n f.0 S f.1)
next (a_tail n ∷ S) f = inr (tail_next n f.0 S f.1)
next (an_expression n ∷ S) f =
    inr (by_way (f.0.operand, (f.0.tail, f.1)) (λ m. expression_goes n 0 S (own grammar m (an_expression n ∷ S) f)) refl (omega arith))
next (an_optional n ∷ S) f = inr (by_side (optionals n S) (omega arith) f)
next (a_test n ∷ S) f = inr (by_way (tt, (f.0, (tt, f.1))) (λ m. test_goes n 0 S (own grammar m (a_test n ∷ S) f)) refl (omega arith))
next (an_action n ∷ S) f = inr (by_opening (actions n S) (action_lower S n) f)
next (a_simple n ∷ S) f = inr (by_opening (simples n S) (simple_lower S n) f)
next (an_initialiser true n ∷ S) f = inr (by_way f (λ m. initialiser_goes n 0 S (own grammar m (an_initialiser true n ∷ S) f)) refl (omega arith))
next (an_initialiser false n ∷ S) f = initialiser_next n f.0.0 f.0.1 S f.1
next (a_part_end functions n ∷ S) f = inr (by_side (part_ends functions n S) (omega arith) f)
next (parts functions n ∷ S) f = inr (by_side (further_parts functions n S) (omega arith) f)
next (a_declaration functions n ∷ S) f =
    inr (by_way (tt, (f.0.part.declared, ((f.0.part.initialiser, f.0.more), f.1))) (λ m. declaration_goes functions n 0 S (own grammar m (a_declaration functions n ∷ S) f))
    refl (omega arith))
next (a_start functions n ∷ S) f = inr (by_opening (starts functions n S) (λ o h. start_lower S functions n o) f)
next (a_finish n ∷ S) f = inr (by_side (finishes n S) (omega arith) f)
next (a_value initialises n ∷ S) f = inr (by_opening (values initialises n S) (λ o h. value_lower S initialises n o) f)
next (a_value_end initialises n ∷ S) f = inr (by_side (value_ends initialises n S) (omega arith) f)
next (a_closing true n ∷ S) f = inr (by_way f (λ m. closes_part n 0 S (own grammar m (a_closing true n ∷ S) f)) refl (omega arith))
next (a_closing false n ∷ S) f = inr (by_way (tt, f.1) (λ m. closes_statement n 0 S (own grammar m (a_closing false n ∷ S) f)) refl (omega arith))
next (arguments n ∷ S) f = inr (by_side (first_arguments n S) (omega arith) f)
next (further_arguments n ∷ S) f = inr (by_side (more_arguments n S) (omega arith) f)
next (a_statement_end true n ∷ S) f = inr (by_opening (statement_ends n S) (λ o h. end_lower S n o) f)
next (a_statement_end false n ∷ S) f = statement_end_next n f.0 S f.1
next (a_statement functions n ∷ S) f = inr (by_number (located_statements functions n S) f)
next (a_statement_kind functions n ∷ S) f = inr (by_opening (statements functions n S) (statement_lower S functions n) f)
next (an_otherwise functions n ∷ S) f = inr (otherwise_next functions n f.0 S f.1)
next (items functions n ∷ S) f = inr (by_opening (all_items functions n S) (λ o h. item_lower S functions n o) f)
next (a_void ∷ S) f = inr (by_side (voids S) (omega arith) f)
next (parameters ∷ S) f = inr (by_side (all_parameters S) (omega arith) f)
next (further_parameters ∷ S) f = inr (by_side (more_parameters S) (omega arith) f)
next (a_place ∷ S) f = inr (by_number (places S) f)
next (definitions_end ∷ S) f = inr (by_side (definitions_ends S) (omega arith) f)
next (definitions true ∷ S) f = inr (by_side (all_definitions S) (omega arith) f)
next (definitions false ∷ S) f = definitions_next f.0.functions f.0.void f.0.items S f.1
next (a_program functions ∷ S) f = inr (by_opening (beginnings functions S) (λ o h. program_lower S functions o) f)

-- two programs with the same words are the same
pub one_program : (functions : Bool) (p other : Program) → Fits 0 (pieces (a_program functions ∷ []) (p, tt)) → Fits 0 (pieces (a_program functions ∷ []) (other, tt))
    → spelling (pieces (a_program functions ∷ []) (p, tt)) ≡ spelling (pieces (a_program functions ∷ []) (other, tt)) → other ≡ p
one_program functions p other fits other_fits e =
    ap (λ trees. trees.0) ((unique grammar rank next (a_program functions ∷ []) (p, tt)).same 0 (other, tt) fits other_fits e)
