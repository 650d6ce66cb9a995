-- What a valid unit becomes is a valid program.
use Rattle.std.proofs.Common.{ℕ, false, List, length, arith}
use Rattle.step_meaning.specs.Valid.{IsBody, IsInside}
use Rattle.call_meaning.specs.declared.statement.UnitBlock.{UnitBlock}
use Rattle.call_meaning.specs.declared.statement.Func.{Func}
use Rattle.call_meaning.specs.Reads.{Places, behind, IsSet, AreSet, given, all_of}
use Rattle.call_meaning.specs.Tables.{table_of, whole_names}
use Rattle.call_meaning.specs.Units.{Command, Commands, assign, call, skip, return, break, continue, if_else, while_loop, do_while, empty, sequence, Table}
use Rattle.call_meaning.specs.Valid.{IsUnit}
use Rattle.call_inline.specs.Inlined.{callees, ends, inlined_body}
use Rattle.call_inline.proofs.Allowing.{inside_all, func_sorted, main_sorted}
use Rattle.call_inline.proofs.Validly.{HasTargets, HaveTargets, body_valid, callees_valid, inlined_inside}

module _ (table : Table) (vars : ℕ) where
  mutual
    has_targets : (shown : Places) (s : Command) → IsSet table vars shown s → HasTargets vars (λ f. (table f).params) s
    has_targets shown (assign x e) h = tt
    has_targets shown (call target f arguments) h = (h.0, h.2)
    has_targets shown skip h = tt
    has_targets shown (return value) h = tt
    has_targets shown break h = tt
    has_targets shown continue h = tt
    has_targets shown (if_else c first second) h = (have_targets shown first h.1, have_targets shown second h.2)
    has_targets shown (while_loop c body step) h = (have_targets shown body h.1, have_targets shown step h.2)
    has_targets shown (do_while body c) h = have_targets shown body h.1

    pub have_targets : (shown : Places) (body : Commands) → AreSet table vars shown body → HaveTargets vars (λ f. (table f).params) body
    have_targets shown empty h = tt
    have_targets shown (sequence first more) h = (has_targets shown first h.0, have_targets (behind shown first) more h.1)

module _ (func_names : List (List ℕ)) (funcs : List Func) (names : List (List ℕ)) (body : UnitBlock) (valid : IsUnit func_names funcs names body) where
  abbrev table : Table
  table = table_of funcs names body

  abbrev total : ℕ
  total = length (whole_names func_names funcs names)

  pub becomes_sorted : IsBody total (inlined_body table (length funcs))
  becomes_sorted =
      let main = length funcs in
      let calls = callees_valid table main total
      (λ k low. inside_all func_names funcs names body valid k (omega arith))
      (λ k low. valid.tidy.params k low)
      (λ k low. valid.tidy.free k low)
      (λ k low. func_sorted func_names funcs names body valid k low)
      (λ k low. have_targets table (table k).vars (given (table k)) (table k).body (valid.tidy.functions k low))
      main (omega arith) in
      body_valid total (table main).base (table main).vars (inside_all func_names funcs names body valid main (omega arith))
      (callees table main) (λ f. (table f).params) calls ends tt (table main).body
      (main_sorted func_names funcs names body valid)
      (have_targets table (table main).vars (all_of (table main)) (table main).body valid.tidy.whole)

  pub becomes_inside : IsInside false (inlined_body table (length funcs))
  becomes_inside = inlined_inside table (length funcs) valid.routines
