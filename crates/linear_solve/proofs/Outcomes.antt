-- What is said of a call's error.
use Rattle.std.proofs.Common.{◌≡◌, sym, subst, Result, Ok, Err, IsErr, IsErrAnd, OnErr, IfErr}
use Rattle.linear_solve.specs.Solving.{IfStopRows, IfStopWide, IsMemory}
use Rattle.linear_solve.specs.declared.answer.Stop.{Stop}
use Rattle.linear_solve.specs.declared.answer.Stop.TheVariants.{Memory, Wide, Rows}

pub on_err : {T E : Type 0} (r : Result T E) (P : Type 0) → IsErr r → P → OnErr r P
on_err (Ok x) P is holds = tt
on_err (Err e) P is holds = holds

-- a fact whatever the operands are
pub if_wide : {T : Type 0} (r : Result T Stop) (P : Type 0) → P → IfErr r (λ stop. IfStopWide stop (λ _. P))
if_wide (Ok x) P holds = tt
if_wide (Err (Memory fault)) P holds = tt
if_wide (Err (Wide operands)) P holds = holds
if_wide (Err (Rows count)) P holds = tt

pub on_err_map : {T E : Type 0} (r : Result T E) (P Q : Type 0) → (P → Q) → OnErr r P → OnErr r Q
on_err_map (Ok x) P Q there holds = tt
on_err_map (Err e) P Q there holds = there holds

-- an error that is handed on
pub if_err_is : {T : Type 0} (r : Result T Stop) (stop : Stop) (P : Stop → Type 0) → IsErrAnd r (λ other. other ≡ stop) → P stop → IfErr r P
if_err_is (Ok x) stop P is holds = tt
if_err_is (Err other) stop P is holds = subst P (sym is) holds

pub stop_wide_map : (stop : Stop) (P Q : Type 0) → (P → Q) → IfStopWide stop (λ _. P) → IfStopWide stop (λ _. Q)
stop_wide_map (Memory fault) P Q there holds = tt
stop_wide_map (Wide operands) P Q there holds = there holds
stop_wide_map (Rows count) P Q there holds = tt

pub stop_rows_map : (stop : Stop) (P Q : Type 0) → (P → Q) → IfStopRows stop (λ _. P) → IfStopRows stop (λ _. Q)
stop_rows_map (Memory fault) P Q there holds = tt
stop_rows_map (Wide operands) P Q there holds = tt
stop_rows_map (Rows count) P Q there holds = there holds

-- where neither numbers nor rows can be the cause, memory is
pub stop_memory : (stop : Stop) (P Q : Type 0) → IfStopWide stop (λ _. P) → IfStopRows stop (λ _. Q) → ¬ P → ¬ Q → IsMemory stop
stop_memory (Memory fault) P Q wide rows none also = tt
stop_memory (Wide operands) P Q wide rows none also = none wide
stop_memory (Rows count) P Q wide rows none also = also rows
