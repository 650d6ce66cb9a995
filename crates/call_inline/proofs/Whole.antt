-- Framed runs and runs of the program without calls are in step.
use Rattle.std.proofs.Common.{ℕ, [], refl, sym, ap, ◌∙◌, subst, append-nil, arith}
use Rattle.linear_cons.specs.declared.affine.Affine.{Affine}
use Rattle.linear_cons.specs.Functions.{value_at}
use Rattle.step_meaning.specs.Outcome.{Store}
use Rattle.step_meaning.specs.Step.{front, items_of, StepsFrom, programs}
use Rattle.step_meaning.specs.Run as runs
use Rattle.call_meaning.specs.Units.{Table}
use Rattle.call_inline.specs.Inlined.{inlined_body, callees, ends}
use Rattle.call_meaning.specs.Frames.{tasks_of}
use Rattle.call_inline.proofs.OneStore.{Shared, start}
use Rattle.call_inline.proofs.OneStore as framed
use Rattle.call_meaning.specs.Validity.{AreRoutines}
use Rattle.step_meaning.specs.Systems.{System}
use Rattle.ctl_formula.specs.Bisimulations.{IsBisimulation}
use Rattle.call_inline.proofs.Image.{image, image_tasks, image_body}
use Rattle.call_inline.proofs.Standing.{TasksStand, before_tasks}
use Rattle.call_inline.proofs.Replacing.{settled_keeps}
use Rattle.call_inline.proofs.Stepping.{InStep, frames_on, frames_back, done_ends, ends_done}
use Rattle.call_inline.proofs.Settling.{frames_settle}

abbrev pub units : Table → System
units table = record { State = Shared; Step = framed.Step table; IsFinal = framed.IsFinal table; store = λ c. c.store }

module _ (table : Table) (main : ℕ) (routines : AreRoutines table main) where
  pub in_step : (Asked : Affine → Type 0) → IsBisimulation (units table) programs Asked (InStep table main)
  in_step Asked = record {
    values = λ a asked c d r. ap (value_at a) (sym r.store);
    ends = λ c d r h.
        let kept = settled_keeps table main routines c.frames h.0 r.stand h.1 in
        r.ahead ∙ kept.0.1 ∙ done_ends table main h.0 h.2;
    ends_back = λ c d r h.
        let after = frames_settle table main routines c.frames r.stand in
        let kept = settled_keeps table main routines c.frames after.0 r.stand after.1 in
        (after.0, after.1, ends_done table main after.0 kept.0.0 kept.1 (sym (r.ahead ∙ kept.0.1) ∙ h));
    steps = λ c d r e step.
        let kept = settled_keeps table main routines c.frames step.0 r.stand step.1 in
        let other = frames_on table main step.0 c.store e kept.0.0 step.2 in (
          other.0,
          subst (λ ahead. StepsFrom ahead d.store other.0) (sym (r.ahead ∙ kept.0.1))
              (subst (λ s. StepsFrom (front (image table step.0)) s other.0) (sym r.store) other.1),
          other.2,
        );
    steps_back = λ c d r e step.
        let after = frames_settle table main routines c.frames r.stand in
        let kept = settled_keeps table main routines c.frames after.0 r.stand after.1 in
        let taken = subst (λ s. StepsFrom (front (image table after.0)) s e) r.store (subst (λ ahead. StepsFrom ahead d.store e) (r.ahead ∙ kept.0.1) step) in
        let other = frames_back table main after.0 c.store e kept.0.0 kept.1 taken in
        (other.0, (after.0, after.1, other.1), other.2);
  }

  -- and their starts are
  pub starts : (input : Store) → InStep table main (start table main input) (runs.start (inlined_body table main) input)
  starts input =
      let body = (table main).body in
      let stands = before_tasks table main ends body [] routines.whole tt in
      let made = image_body table (callees table main) (table main).base ends 0 body [] in
      record {
        stand = (omega arith, subst (λ todo. TasksStand table main ends todo) (append-nil (tasks_of body)) stands, tt);
        ahead = ap front (
            sym (append-nil (items_of (inlined_body table main))) ∙ sym made
            ∙ ap (λ todo. image_tasks table (callees table main) (table main).base ends 0 todo) (append-nil (tasks_of body))
            ∙ sym (append-nil (image_tasks table (callees table main) (table main).base ends 0 (tasks_of body))));
        store = refl;
      }
