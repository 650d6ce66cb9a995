use Rattle.std.proofs.Common.{SFits, to_z-of_z, rules}
use Rattle.std.specs.Int.{w128}
use Rattle.linear_forms.proofs.Known.{at_end, unreached}
use Rattle.linear_forms.proofs.product.known.Goals as goal

pub returns-in-At : goal.returns-in-At
returns-in-At c = λ z h.
    let known = rw c.in-At.is at h in
    let range : SFits w128 c.in-At.number = search rules in
    simp to_z-of_z (at_end _ z known)

pub returns-in-Below : goal.returns-in-Below
returns-in-Below c = λ z h. unreached c.args.reach z c.in-Below.is h
