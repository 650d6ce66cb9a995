use Rattle.std.proofs.Common.{◌≡◌, ℤ, List, ℕ, [], ◌∷◌, All, Any, Option, IfSome, IfNone, Some, None, to_z, of_z, to_z-of_z, arith}
use Rattle.std.specs.Int.{w128}
use Rattle.number_parse.proofs.Hyphens.{fits_small}
use Rattle.input_text.specs.Input.{IsPairText}
use Rattle.input_text.specs.Pieces.{pieces}
use Rattle.input_text.proofs.Cutting.{all_more, any_first, any_later}
use Rattle.input_text.proofs.finding.+number_for.Goals as goal

abbrev Gives : List ℕ → ℤ → List ℕ → Type 0
Gives name number piece = IsPairText name number piece

abbrev Lacks : List ℕ → List ℕ → Type 0
Lacks name piece = (number : ℤ) → ¬ IsPairText name number piece

given_on : (name piece : List ℕ) (more list : List (List ℕ)) (result : Option ℤ) → list ≡ piece ∷ more
    → IfSome result (λ number. Any (λ other. IsPairText name number other) more) → IfSome result (λ number. Any (λ other. IsPairText name number other) list)
given_on name piece more list (Some number) is any = any_later (Gives name number) piece more list is any
given_on name piece more list None is any = tt

none_on : (name piece : List ℕ) (more list : List (List ℕ)) (result : Option ℤ) → list ≡ piece ∷ more → Lacks name piece
    → IfNone result (All (Lacks name) more) → IfNone result (All (Lacks name) list)
none_on name piece more list (Some number) is not all = tt
none_on name piece more list None is not all = all_more (Lacks name) piece more list is not all

pub returns-in-Some-clause-given : goal.returns-in-Some-clause-given
returns-in-Some-clause-given t c =
    let pair = (c.pair_of.ensures c.in-Some.number).0 c.in-Some.is in
    let same : to_z w128 (of_z w128 c.in-Some.number) ≡ c.in-Some.number = to_z-of_z (fits_small c.in-Some.number pair.small) in
    rw same (any_first (Gives c.args.name.now c.in-Some.number) c.first_piece.result.0.now _ (pieces 44 c.args.text.now) c.first_piece.ensures.parts pair)

pub returns-in-Some-rest-clause-given : goal.returns-in-Some-rest-clause-given
returns-in-Some-rest-clause-given t c =
    given_on c.args.name.now c.first_piece.result.0.now (pieces 44 c.in-Some-rest.rest.now) (pieces 44 c.args.text.now) c.number_for.result
    (let parts = c.first_piece.ensures.parts in rw c.in-Some-rest.is at parts) c.number_for.ensures.given

pub returns-in-Some-rest-clause-none : goal.returns-in-Some-rest-clause-none
returns-in-Some-rest-clause-none t c =
    none_on c.args.name.now c.first_piece.result.0.now (pieces 44 c.in-Some-rest.rest.now) (pieces 44 c.args.text.now) c.number_for.result
    (let parts = c.first_piece.ensures.parts in rw c.in-Some-rest.is at parts)
    (λ number pair. c.in_default.not-Some number ((c.pair_of.ensures number).1 pair)) c.number_for.ensures.none

pub returns-in-None-clause-none : goal.returns-in-None-clause-none
returns-in-None-clause-none t c =
    all_more (Lacks c.args.name.now) c.first_piece.result.0.now [] (pieces 44 c.args.text.now)
    (let parts = c.first_piece.ensures.parts in rw c.in-None.is at parts)
    (λ number pair. c.in_default.not-Some number ((c.pair_of.ensures number).1 pair)) (λ k d low. absurd (omega arith))
