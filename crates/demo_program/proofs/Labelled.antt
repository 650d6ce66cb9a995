-- The labels of a demo program.
use Rattle.std.proofs.Common.{◌≡◌, ℕ, zero, suc, ◌+◌, length, refl, arith}
use Rattle.step_meaning.specs.Syntax.{size_of}
use Rattle.control_flow.specs.Labels.{all_labels}
use Rattle.control_flow.proofs.LabelLaws.{count_of_labels}
use Rattle.demo_program.specs.Demo.{demo_body, turn_from}

turn_size : (left first : ℕ) → size_of (turn_from left first) ≡ left + 1
turn_size zero first = refl
turn_size (suc left) first = let rest = turn_size left (suc first) in omega (arith, rest)

pub demo_labels : (n : ℕ) → length (all_labels (demo_body n)) ≡ n + 3
demo_labels n =
    let all = count_of_labels (demo_body n) in
    let turn = turn_size n 1 in
    omega (arith, all, turn)
