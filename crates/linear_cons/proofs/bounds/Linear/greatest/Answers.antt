use Rattle.std.proofs.Common.{ap, ◌∙◌, sym, ◌+ℤ◌, SFits, to_z-of_z, rules}
use Rattle.std.specs.Int.{w128}
use Rattle.linear_cons.specs.Bounds.{lower_end, upper_end}
use Rattle.linear_cons.specs.Functions.{coefficient}
use Rattle.linear_cons.specs.Ends.{ends_from, terms_end}
use Rattle.linear_cons.proofs.KnownEnds.{terms_none, terms_more}
use Rattle.linear_cons.proofs.bounds.Linear.greatest.Goals as goal

pub loop-place-init : goal.loop-place-init
loop-place-init c = sym (terms_none c.args.self.now.affine (upper_end c.args.bounds.now) (lower_end c.args.bounds.now))

pub loop-place-preserved : goal.loop-place-preserved
loop-place-preserved c =
    let range : SFits w128 (coefficient c.args.self.now.affine c.loop-place.place) = search rules in
    let term = simp to_z-of_z at c.end_of_term.ensures in
    c.end_sum-end.ensures
    ∙ ap (λ t. ends_from (λ x y. x +ℤ y) t c.end_of_term.result) c.loop-place.invariant
    ∙ ap (ends_from (λ x y. x +ℤ y) (terms_end c.loop-place.place c.args.self.now.affine (upper_end c.args.bounds.now) (lower_end c.args.bounds.now))) term
    ∙ sym (terms_more c.loop-place.place c.args.self.now.affine (upper_end c.args.bounds.now) (lower_end c.args.bounds.now))
