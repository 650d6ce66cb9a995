-- The theorem on a program of one `;`, by hand: the premises can be met, and the bound is its one step.
use Rattle.std.proofs.Common.{◌≡◌, ℕ, zero, suc, ℤ, pos, negsuc, ◌<ℤ◌, true, false, List, [], ◌∷◌, ◌++◌, None, All, refl, subst, arith}
use Rattle.std.proofs.lemmas.Int.{ints}
use Rattle.std.proofs.lemmas.List.Elements.{All-cons}
use Rattle.step_meaning.specs.Syntax.{Statements, empty, sequence, skip}
use Rattle.step_meaning.specs.Outcome.{Store}
use Rattle.step_meaning.specs.Run.{EndsWithin, EndsWithinBound, IsInput, start}
use Rattle.linear_cons.specs.declared.affine.Affine.{Affine}
use Rattle.linear_cons.specs.Functions.{coefficient, complement_of, constant_of, difference_of, sum_of, value_at}
use Rattle.linear_cons.specs.Rows.{MeetsKind, row_kind_of}
use Rattle.linear_cons.proofs.Forms.{value_complement, value_constant, value_difference, value_sum}
use Rattle.linear_forms.proofs.MeetingLaws.{row_meets}
use Rattle.decision_tree.specs.AffineRanks.{excess_of}
use Rattle.decision_tree.specs.declared.affine_rank.AffineRank.{AffineRank}
use Rattle.decision_tree.specs.declared.reason.Pick.TheVariants.{All as Every}
use Rattle.decision_tree.specs.declared.reason.Why.TheVariants.{End, Atom, Step}
use Rattle.decision_tree.specs.Plans.{bottom, leaf}
use Rattle.ctl_formula.specs.Formulas.{Ctl, truth, exit, af_exit}
use Rattle.ctl_formula.proofs.Ends.{af_exit_ends}
use Rattle.linear_cons.proofs.Places.{number_at_places}
use Rattle.tree_support.specs.Certificates.{IsCertificate, IsShown, SparesPlace, affine_ranks, operands_from}
use Rattle.tree_support.specs.Setting.{Trees, setting_of}
use Rattle.constraint_stack.specs.Claims.{HasNoStore, System, exceeding, unnatural}
use Rattle.tree_support.specs.Support.{IsSupported}
use Rattle.tree_support.specs.Systems.{unedged}
use Rattle.control_flow.specs.Told.{IsTrueOfReached, Told, no_bounds}
use Rattle.tree_support.proofs.Soundness.{sound_within}
use Rattle.tree_support.proofs.Lists.{all_first, all_none, all_one}

-- `;`
abbrev body : Statements
body = sequence skip empty

-- nothing is told
abbrev told : Told
told = record { bounds = λ label. no_bounds; rows = λ label. []; dead = λ label. false }

nothing_is_true : IsTrueOfReached 0 body told
nothing_is_true = record {
  bounds = λ label store z reached. record { lower = λ i low. tt; upper = λ i low. tt };
  rows = λ label store z reached k d low. absurd (omega arith);
  dead = λ label store reached. refl;
}

abbrev number : ℤ → AffineRank
number z = record { value = constant_of z }

-- 0 at the end, 1 before the `;`
abbrev family : Trees AffineRank
family zero = leaf End (number (pos 0))
family (suc zero) = leaf (Step Every) (number (pos 1))
family (suc (suc n)) = bottom

-- by the numbers of the parts of `AF exit`: the truth everywhere, the end, and the whole
abbrev families : ℕ → Trees AffineRank
families zero label = leaf Atom (number (pos 0))
families (suc zero) zero = leaf End (number (pos 0))
families (suc zero) (suc label) = bottom
families (suc (suc n)) label = family label

-- a function below 0 is at least 0 nowhere
never : (a : Affine) → ((store : List ℤ) → value_at a store <ℤ pos 0)
    → All (λ choice. (store : List ℤ) → All (λ kind. MeetsKind store kind) ([] ++ choice) → ⊥) ((row_kind_of a ∷ []) ∷ [])
never a below =
    all_one (λ choice. (store : List ℤ) → All (λ kind. MeetsKind store kind) choice → ⊥) (row_kind_of a ∷ []) (λ store met.
    let at_least = (row_meets a store).0 (all_first (λ kind. MeetsKind store kind) (row_kind_of a) [] met) in
    let value = below store in
    absurd (omega (arith, ints)))

-- no store refutes that a constant rank is a natural, or that 0 and one more is at most 1
natural : (n : ℕ) → HasNoStore affine_ranks (record { edge = unedged; asks = []; claim = unnatural (number (pos n)) })
natural n = never (complement_of (constant_of (pos n))) (λ store.
    let complement = value_complement (constant_of (pos n)) store in
    let constant = value_constant (pos n) store in
    omega (arith, ints))

less : HasNoStore affine_ranks (record { edge = 0; asks = []; claim = exceeding (number (pos 0)) None (number (pos 1)) })
less =
    let more : Affine = sum_of (constant_of (pos 0)) (constant_of (pos 1)) in
    never (excess_of more (constant_of (pos 1))) (λ store.
    let sum = value_sum (constant_of (pos 0)) (constant_of (pos 1)) store in
    let nought = value_constant (pos 0) store in
    let one = value_constant (pos 1) store in
    let difference = value_difference more (constant_of (pos 1)) store in
    let excess = value_sum (difference_of more (constant_of (pos 1))) (constant_of (negsuc 0)) store in
    let minus_one = value_constant (negsuc 0) store in
    omega (arith, ints))

-- each of them is supported and leaves place 15 alone
abbrev over : Ctl → ℕ → Trees AffineRank
over f = operands_from families 0 f

constant_spares : (z : ℤ) → coefficient (constant_of z) 15 ≡ pos 0
constant_spares z = number_at_places (λ i. pos 0) 15 (omega arith)

truth_shown : IsShown body told truth (over truth) (families 0)
truth_shown = record {
  supported = λ label place low. all_none (HasNoStore affine_ranks);
  spares = λ label. (constant_spares (pos 0), tt);
}

end_supported : (parts : ℕ → Trees AffineRank) → IsSupported affine_ranks (setting_of body told exit parts) (families 1)
end_supported parts zero place low = all_none (HasNoStore affine_ranks)
end_supported parts (suc label) place low = all_none (HasNoStore affine_ranks)

end_spares : (label : ℕ) → SparesPlace 15 (families 1 label)
end_spares zero = (constant_spares (pos 0), tt)
end_spares (suc label) = tt

supported : IsSupported affine_ranks (setting_of body told af_exit (over af_exit)) family
supported zero place low = all_one (HasNoStore affine_ranks) _ (natural 0)
supported (suc zero) place low =
    let ranked : System AffineRank = record { edge = unedged; asks = []; claim = unnatural (number (pos 1)) } in
    let stepped : System AffineRank = record { edge = 0; asks = []; claim = exceeding (number (pos 0)) None (number (pos 1)) } in
    All-cons (HasNoStore affine_ranks) ranked (stepped ∷ []) (natural 1) (all_one (HasNoStore affine_ranks) stepped less)
supported (suc (suc n)) place low = all_none (HasNoStore affine_ranks)

spares : (label : ℕ) → SparesPlace 15 (family label)
spares zero = (constant_spares (pos 0), tt)
spares (suc zero) = (constant_spares (pos 1), tt)
spares (suc (suc n)) = tt

shown : IsShown body told af_exit (over af_exit) family
shown = record { supported = supported; spares = spares }

certificate : IsCertificate body told af_exit families (family ∷ [])
certificate = record {
  smaller = (tt, truth_shown, tt, record { supported = end_supported (operands_from families 1 exit); spares = end_spares });
  whole = all_one (IsShown body told af_exit (over af_exit)) family shown;
}

-- so each run ends within one step
one_step : (input : Store) → IsInput 0 input → EndsWithin 1 (start body input)
one_step input is_input =
    let sound = sound_within 0 body told (omega arith) (tt, tt) nothing_is_true families 0 true truth exit certificate.smaller family shown in
    let bound : EndsWithinBound (value_at (constant_of (pos 1)) input) (start body input) =
    (af_exit_ends (value_at (constant_of (pos 1)) input) (start body input)).0 (sound.inputs input (Step Every) (number (pos 1)) is_input refl) in
    subst (λ n. EndsWithinBound n (start body input)) (value_constant (pos 1) input) bound
