use Rattle.std.proofs.Common.{◌≡◌, ◌∙◌, ◌+◌, ◌*◌, ◌/◌, ◌%◌, ◌<◌, ℤ, Option, None, Some, arith, refl, sym}
use Rattle.num_domain.specs.Ends.{some_end}
use Rattle.num_domain.specs.declared.bound.Bound.{Bound}
use Rattle.num_domain.specs.declared.bound.Bound.TheVariants.{At, Without}
use Rattle.octagon_dom.specs.Cells.{bound, cell, least_end, sum_end, tightened}
use Rattle.octagon_dom.proofs.Writing.{all_written, line_more}
use Rattle.octagon_dom.proofs.cells.tighten.Goals as goal
use Rattle.octagon_dom.proofs.cells.tighten.Goals.{in-At, in_default}

is_missing : (end : Bound ℤ) → ((number : ℤ) → end ≡ At number → ⊥) → some_end end ≡ None
is_missing Without apart = refl
is_missing (At number) apart = absurd (apart number refl)

least_none : (own out : Option ℤ) → least_end own (sum_end None out) ≡ own
least_none None out = refl
least_none (Some z) out = refl

pub loop-a-preserved : goal.loop-a-preserved
loop-a-preserved c =
    let a = c.loop-a.a in
    let low : a < 32 = omega arith in
    let old = c.args.cells.now in
    elim c.match-into-a.branch [
      | in-At w ↦ rw w.cells-is (line_more a (λ k. tightened old c.args.i c.args.j (some_end c.args.step) (k / 32) (k % 32)) old c.loop-a.cells w.shorten_line.new.cells c.loop-a.invariant
          w.shorten_line.ensures.long
          (λ b h.
          let row : (32 * a + b) / 32 ≡ a = omega arith in
          let column : (32 * a + b) % 32 ≡ b = omega arith in
          let own = c.loop-a.invariant.later (32 * a + b) (omega arith) in
          let into = c.column-into.ensures.each a low in
          let out = c.line-out.ensures.each b h in
          w.shorten_line.ensures.line b h ∙ rw (own, into, out, row, column) refl)
          w.shorten_line.ensures.others)
      | in_default w ↦ rw w.cells-is (line_more a (λ k. tightened old c.args.i c.args.j (some_end c.args.step) (k / 32) (k % 32)) old c.loop-a.cells c.loop-a.cells c.loop-a.invariant
          c.loop-a.invariant.long
          (λ b h.
          let row : (32 * a + b) / 32 ≡ a = omega arith in
          let column : (32 * a + b) % 32 ≡ b = omega arith in
          let own = c.loop-a.invariant.later (32 * a + b) (omega arith) in
          let none : sum_end (bound old a c.args.i) (some_end c.args.step) ≡ None =
          sym (c.column-into.ensures.each a low) ∙ is_missing _ w.in_default.not-At in
          own ∙ rw (row, column, none) (sym (least_none (cell old (32 * a + b)) (bound old c.args.j b))))
          (λ k ne. refl))
    ]

pub returns : goal.returns
returns c =
    let all : c.loop-a.a ≡ 32 = omega arith in
    all_written (tightened c.args.cells.now c.args.i c.args.j (some_end c.args.step)) c.args.cells.now c.loop-a.cells
    (rw all at c.loop-a.invariant)
