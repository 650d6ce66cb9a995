-- Calls that make nothing.
use Rattle.std.proofs.Common.{◌≡◌, ◌≢◌, ℕ, suc, ◌<◌, Bool, true, false, IsTrue, Option, List, [], ◌∷◌, ◌++◌, length, replicate, slice_index_or, inl, inr, refl, sym, ap, ◌∙◌, subst, arith}
use Rattle.std.proofs.lemmas.Bool.Decides.{eqb_tells}
use Rattle.std.proofs.Math.ListN.{get_or-append}
use Rattle.std.proofs.Math.Seq.{get_or-append_seam}
use Rattle.std.specs.List.{slice_get}
use Rattle.step_meaning.specs.Syntax.{Expression}
use Rattle.step_meaning.specs.Syntax as syntax
use Rattle.call_meaning.specs.declared.statement.UnitBlock.{UnitBlock, Then'}
use Rattle.call_meaning.specs.declared.statement.UnitBlock.TheVariants.{End}
use Rattle.call_meaning.specs.declared.statement.UnitKind.TheVariants.{Assign, Call, Skip, Return, Break, Continue, If, While, Do}
use Rattle.call_meaning.specs.declared.statement.Func.{Func}
use Rattle.call_meaning.specs.Reads.{given}
use Rattle.call_meaning.specs.Tables.{commands, places_from, table_of, main_routine}
use Rattle.call_meaning.specs.Units.{Commands, assign, call, skip, return, break, continue, if_else, while_loop, do_while, empty, sequence, Routine, Table}
use Rattle.call_meaning.specs.Valid.{IsUnit}
use Rattle.call_inline.specs.Inlined.{Ending, ending_of, followed, freed, target_from, all_moved, all_inlined, put, callees}
use Rattle.call_inline.specs.Placed.{placed, placed_call, placed_calls}
use Rattle.call_inline.specs.Laws.Standing.{AllGoBelow, AreIdleCalls, IsIdle}
use Rattle.call_inline.proofs.Allowing.{func_below}
use Rattle.call_inline.proofs.Becoming.{have_targets}
use Rattle.call_inline.proofs.Image.{callee_known}
use Rattle.call_inline.proofs.Placing.{placed_known}
use Rattle.call_inline.proofs.Tabling.{found, got}
use Rattle.call_inline.proofs.Validly.{HaveTargets, moved_length}

-- calls of the functions before `n` that the list tells make nothing
pub record AreKnown (table : Table) (funcs : List Func) (n : ℕ) (idle : List Bool) : Type 0 where
  pub made : (f : ℕ) → f < n → IsTrue (slice_index_or idle f false) → (target : Option ℕ) (arguments : List Expression)
      → length arguments ≡ (table f).params → put (callees table f) (table f) target arguments ≡ syntax.empty
  pub places : (f : ℕ) → f < n → IsTrue (slice_index_or idle f false) → (at : ℕ) → placed_call (placed_calls funcs f) (slice_get funcs f) at ≡ []

module _ (table : Table) (funcs : List Func) (n : ℕ) (idle : List Bool) (known : AreKnown table funcs n idle) where
  idle_body : (base : ℕ) (ending : Ending) (vars : ℕ) (body : Commands) → AreIdleCalls idle body → AllGoBelow n body → HaveTargets vars (λ f. (table f).params) body
      → all_inlined (callees table n) base ending body ≡ syntax.empty
  idle_body base ending vars empty i g t = refl
  idle_body base ending vars (sequence (call target f arguments) more) i g t =
      let called = ap (λ c. c (target_from base target) (all_moved base arguments)) (callee_known table n f g.0) in
      let none = known.made f g.0 i.0 (target_from base target) (all_moved base arguments) (moved_length base arguments ∙ t.0.1) in
      ap (λ first. followed first (all_inlined (callees table n) base ending more)) (called ∙ none) ∙ idle_body base ending vars more i.1 g.1 t.1
  idle_body base ending vars (sequence (assign x e) more) i g t = absurd i.0
  idle_body base ending vars (sequence skip more) i g t = absurd i.0
  idle_body base ending vars (sequence (return value) more) i g t = absurd i.0
  idle_body base ending vars (sequence break more) i g t = absurd i.0
  idle_body base ending vars (sequence continue more) i g t = absurd i.0
  idle_body base ending vars (sequence (if_else c first second) more) i g t = absurd i.0
  idle_body base ending vars (sequence (while_loop c body step) more) i g t = absurd i.0
  idle_body base ending vars (sequence (do_while body c) more) i g t = absurd i.0

  idle_places : (back : ℕ → ℕ) (block : UnitBlock) → AreIdleCalls idle (commands block) → AllGoBelow n (commands block)
      → placed (placed_calls funcs n) back block ≡ []
  idle_places back End i g = refl
  idle_places back (Then' p at (Call target f arguments level) q rest) i g =
      let called = ap (λ c. c at) (placed_known funcs n f g.0) ∙ known.places f g.0 i.0 at in
      ap (λ first. first ++ placed (placed_calls funcs n) back rest) called ∙ idle_places back rest i.1 g.1
  idle_places back (Then' p at (Assign x e) q rest) i g = absurd i.0
  idle_places back (Then' p at Skip q rest) i g = absurd i.0
  idle_places back (Then' p at (Return value) q rest) i g = absurd i.0
  idle_places back (Then' p at Break q rest) i g = absurd i.0
  idle_places back (Then' p at Continue q rest) i g = absurd i.0
  idle_places back (Then' p at (If c y z) q rest) i g = absurd i.0
  idle_places back (Then' p at (While c b s) q rest) i g = absurd i.0
  idle_places back (Then' p at (Do b c) q rest) i g = absurd i.0

-- one function more, of a valid unit
module _ (func_names : List (List ℕ)) (funcs : List Func) (names : List (List ℕ)) (body : UnitBlock) (valid : IsUnit func_names funcs names body)
    (n : ℕ) (idle : List Bool) (d : Func) (low : n < length funcs) (none : IsIdle idle (slice_index_or funcs n d))
    (known : AreKnown (table_of funcs names body) funcs n idle) where
  abbrev table : Table
  table = table_of funcs names body

  abbrev func : Func
  func = slice_index_or funcs n d

  unset : (table n).free ≡ []
  unset = ap (λ (r : Routine). r.free) (found (length names) funcs (main_routine names body) n d low) ∙ none.unset

  no_params : (table n).params ≡ 0
  no_params = ap (λ (r : Routine). r.params) (found (length names) funcs (main_routine names body) n d low) ∙ none.none

  calls : AreIdleCalls idle (table n).body
  calls = subst (λ (r : Routine). AreIdleCalls idle r.body) (sym (found (length names) funcs (main_routine names body) n d low)) none.calls

  below : AllGoBelow n (table n).body
  below = func_below func_names funcs names body valid n low

  pub idle_put : (target : Option ℕ) (arguments : List Expression) → length arguments ≡ (table n).params
      → put (callees table n) (table n) target arguments ≡ syntax.empty
  idle_put target (a ∷ more) many = let zero_params = no_params in absurd (omega arith)
  idle_put target [] many =
      let base : ℕ = (table n).base in
      let ending = ending_of target in
      let targets = have_targets table (table n).vars (given (table n)) (table n).body (valid.tidy.functions n low) in
      ap (λ free. followed (freed base free) (all_inlined (callees table n) base ending (table n).body)) unset
      ∙ idle_body table funcs n idle known base ending (table n).vars (table n).body calls below targets

  pub idle_call : (at : ℕ) → placed_call (placed_calls funcs n) (slice_get funcs n) at ≡ []
  idle_call at =
      let body_is = ap (λ (r : Routine). r.body) (found (length names) funcs (main_routine names body) n d low) in
      ap (λ f. placed_call (placed_calls funcs n) f at) (got funcs n d low)
      ∙ ap (λ count. replicate count at ++ (replicate (length (places_from 0 func.free)) at ++ placed (placed_calls funcs n) (λ own. at) func.body)) none.none
      ∙ ap (λ free. replicate (length free) at ++ placed (placed_calls funcs n) (λ own. at) func.body) none.unset
      ∙ idle_places table funcs n idle known (λ own. at) func.body none.calls (subst (λ b. AllGoBelow n b) body_is below)

  -- and so the list with one entry more
  pub one_known : (more : List Bool) → ((f : ℕ) → f < n → IsTrue (slice_index_or more f false) → IsTrue (slice_index_or idle f false))
      → AreKnown table funcs (suc n) more
  one_known more same = record {
    made = λ f high shown target arguments many. elim (eqb_tells f n) [
      | inl is ↦
          subst (λ k. length arguments ≡ (table k).params → put (callees table k) (table k) target arguments ≡ syntax.empty) (sym is.1) (idle_put target arguments) many
      | inr other ↦ (let apart : f ≢ n = other.1 in known.made f (omega arith) (same f (omega arith) shown) target arguments many)
    ];
    places = λ f high shown at. elim (eqb_tells f n) [
      | inl is ↦ subst (λ k. placed_call (placed_calls funcs k) (slice_get funcs k) at ≡ []) (sym is.1) (idle_call at)
      | inr other ↦ (let apart : f ≢ n = other.1 in known.places f (omega arith) (same f (omega arith) shown) at)
    ];
  }

-- The list gets an entry for the next function, which says true only where that makes nothing.
module _ (func_names : List (List ℕ)) (funcs : List Func) (names : List (List ℕ)) (body : UnitBlock) (valid : IsUnit func_names funcs names body) where
  pub none_known : (n : ℕ) (idle : List Bool) → n ≡ 0 → AreKnown (table_of funcs names body) funcs n idle
  none_known n idle none = record {
    made = λ f low shown target arguments many. absurd (omega arith);
    places = λ f low shown at. absurd (omega arith);
  }

  pub more_known : (n : ℕ) (idle : List Bool) (f : Func) (says : Bool) → n < length funcs → f ≡ slice_index_or funcs n f → length idle ≡ n
      → (IsTrue says → IsIdle idle f) → AreKnown (table_of funcs names body) funcs n idle → AreKnown (table_of funcs names body) funcs (suc n) (idle ++ says ∷ [])
  more_known n idle f says low is long told known = split says refl
    where
      before : (b : Bool) (g : ℕ) → g < n → IsTrue (slice_index_or (idle ++ b ∷ []) g false) → IsTrue (slice_index_or idle g false)
      before b g lower shown = subst IsTrue (get_or-append idle (b ∷ []) false g (omega arith)) shown

      here : (b : Bool) → slice_index_or (idle ++ b ∷ []) n false ≡ b
      here b = ap (λ k. slice_index_or (idle ++ b ∷ []) k false) (sym long) ∙ get_or-append_seam idle b [] false

      split : (b : Bool) → says ≡ b → AreKnown (table_of funcs names body) funcs (suc n) (idle ++ b ∷ [])
      split true so = one_known func_names funcs names body valid n idle f low (subst (IsIdle idle) is (told so)) known (idle ++ true ∷ []) (before true)
      split false so = record {
        made = λ g high shown target arguments many. elim (eqb_tells g n) [
          | inl same ↦ (let none : false ≡ true = sym (here false) ∙ subst (λ k. slice_index_or (idle ++ false ∷ []) k false ≡ true) same.1 shown in absurd (cc))
          | inr other ↦ (let apart : g ≢ n = other.1 in known.made g (omega arith) (before false g (omega arith) shown) target arguments many)
        ];
        places = λ g high shown at. elim (eqb_tells g n) [
          | inl same ↦ (let none : false ≡ true = sym (here false) ∙ subst (λ k. slice_index_or (idle ++ false ∷ []) k false ≡ true) same.1 shown in absurd (cc))
          | inr other ↦ (let apart : g ≢ n = other.1 in known.places g (omega arith) (before false g (omega arith) shown) at)
        ];
      }

-- with the list of all functions
module _ (table : Table) (funcs : List Func) (n : ℕ) (idle : List Bool) (known : AreKnown table funcs n idle) where
  pub known_made : (f : ℕ) → f < n → IsTrue (slice_index_or idle f false) → (target : Option ℕ) (arguments : List Expression) → length arguments ≡ (table f).params
      → callees table n f target arguments ≡ syntax.empty
  known_made f low shown target arguments many = ap (λ c. c target arguments) (callee_known table n f low) ∙ known.made f low shown target arguments many

  pub known_places : (f : ℕ) → f < n → IsTrue (slice_index_or idle f false) → (at : ℕ) → placed_calls funcs n f at ≡ []
  known_places f low shown at = ap (λ c. c at) (placed_known funcs n f low) ∙ known.places f low shown at
