use Rattle.std.proofs.Common.{◌≡◌, ℕ, ◌+◌, ◌<◌, length, slice_index_or, take}
use Rattle.call_inline.specs.Laws.Standing.{routines}
use Rattle.call_inline.proofs.Idling.{AreKnown}
use Rattle.call_inline.proofs.Tabling.{vars_of}
use Rattle.call_inline.proofs.layout.Layout.of.Given as goal

-- what is known of the functions so far
abbrev pub invariant-loop-func : goal.invariant-loop-func
invariant-loop-func l = record {
  base : l.base ≡ length l.unit.names + vars_of (take l.func-index l.unit.funcs);
  bases_long : length l.bases.items ≡ l.func-index;
  idle_long : length l.idle.items ≡ l.func-index;
  bases : (f : ℕ) → f < l.func-index → slice_index_or l.bases.items f 0 ≡ (routines l.unit f).base;
  known : AreKnown (routines l.unit) l.unit.funcs l.func-index l.idle.items;
}
