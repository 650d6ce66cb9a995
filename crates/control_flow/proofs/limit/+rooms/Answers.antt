use Rattle.std.proofs.Common.{◌≡◌, ℕ, ◌+◌, ◌++◌, [], ◌∷◌, ap, ◌∙◌, arith}
use Rattle.std.specs.List.{slice_get}
use Rattle.step_meaning.specs.Syntax.{statements, statement, size_of, size_of_statement}
use Rattle.step_meaning.specs.Offsets.{offsets, offsets_at}
use Rattle.control_flow.proofs.Rooms.{behind_both, behind_test, get_behind, get_first, length-offsets, length-offsets_at}
use Rattle.control_flow.proofs.limit.+rooms.Goals as goal

pub room_behind-loop-left-preserved : goal.room_behind-loop-left-preserved
room_behind-loop-left-preserved t c =
    let h = c.loop-left.invariant in
    let one : ℕ = size_of_statement (statement c.deref.result.now.kind) in
    let parted : offsets c.loop-left.left.now ≡ offsets_at c.deref.result.now.at c.deref.result.now.kind ++ offsets c.deref-left.result.now =
    rw (c.deref.ensures, c.deref-left.ensures) (ap offsets c.in-Then.is) in
    let sizes : size_of (statements c.loop-left.left.now) ≡ one + size_of (statements c.deref-left.result.now) =
    rw (c.deref.ensures, c.deref-left.ensures) (ap (λ b. size_of (statements b)) c.in-Then.is) in
    let left : c.in_ok-room.room + one ≡ c.loop-left.room = c.in_ok-room.ensures in
    let first : size_of (statements c.args.block.now) ≡ h.0 + size_of (statements c.loop-left.left.now) = h.1 in
    let second : h.0 + c.loop-left.room ≡ c.args.room = h.2 in (
      h.0 + one,
      omega arith,
      omega arith,
      λ n.
          let same : h.0 + one + n ≡ h.0 + (one + n) = omega arith in
          ap (slice_get (offsets c.args.block.now)) same
          ∙ h.3 (one + n)
          ∙ ap (λ xs. slice_get xs (one + n)) parted
          ∙ get_behind (offsets_at c.deref.result.now.at c.deref.result.now.kind) (offsets c.deref-left.result.now) one n (one + n)
          (length-offsets_at c.deref.result.now.at c.deref.result.now.kind) (omega arith),
    )

pub room_behind_both-returns-in-Ok : goal.room_behind_both-returns-in-Ok
room_behind_both-returns-in-Ok t c =
    behind_both _ (offsets c.args.first.now) (offsets c.args.second.now) (size_of (statements c.args.first.now)) (size_of (statements c.args.second.now)) c.args.room c.in-Ok.room
    (length-offsets c.args.first.now) c.in-Ok.ensures c.room_behind-in-Ok.ensures

pub room_behind_both-returns-in-Err : goal.room_behind_both-returns-in-Err
room_behind_both-returns-in-Err t c = get_first (offsets c.args.first.now) (offsets c.args.second.now) _ _ c.in-Err.ensures

pub room_behind_one-returns-in-Ok-room_behind : goal.room_behind_one-returns-in-Ok-room_behind
room_behind_one-returns-in-Ok-room_behind t c =
    rw c.in-Do.is
    (behind_test _ (offsets c.in-Do.body) (size_of (statements c.in-Do.body)) c.args.stmt.now.at c.args.room c.in-Ok-room_behind.room
    (length-offsets c.in-Do.body) c.in-Ok-room_behind.ensures c.one_less-in-Ok-room_behind.ensures)

pub room_behind_one-returns-in-Err-room_behind : goal.room_behind_one-returns-in-Err-room_behind
room_behind_one-returns-in-Err-room_behind t c =
    rw c.in-Do.is (get_first (offsets c.in-Do.body) (c.args.stmt.now.at ∷ []) _ _ c.in-Err-room_behind.ensures)
