use Rattle.std.proofs.Common.{◌≡◌, ℤ, pos, sym, ap, ◌∙◌, rules, SFits, to_z, of_z, to_z-of_z}
use Rattle.std.specs.Int.{w128}
use Rattle.linear_cons.specs.Functions.{coefficient}
use Rattle.ordinal_rank.specs.Ordinals.{parts_of}
use Rattle.ordinal_rank.specs.Laws.PartLaws.{trend_behind, trend_here}
use Rattle.ordinal_rank.proofs.ordinal.OrdinalRank.leading.Goals as goal

-- a number of 128 bits whose bits are 0 is 0
nought_of : (z : ℤ) → SFits w128 z → of_z w128 z ≡ 0 → z ≡ pos 0
nought_of z fits is = sym (to_z-of_z {w = w128} {z = z} fits) ∙ ap (to_z w128) is

pub returns-then-second-ne0 : goal.returns-then-second-ne0
returns-then-second-ne0 c =
    let rank = c.args.self.now in
    let place = c.args.place in
    let fourth : SFits w128 (coefficient rank.fourth place) = search rules in
    let third : SFits w128 (coefficient rank.third place) = search rules in
    let range : SFits w128 (coefficient rank.second place) = search rules in
    let leads = trend_here 1 (parts_of rank).1.1 place (λ is. c.if-second-ne0.true (ap (of_z w128) is))
    ∙ sym (trend_behind 2 (parts_of rank).1 place (nought_of (coefficient rank.third place) third c.if-third-ne0.false))
    ∙ sym (trend_behind 3 (parts_of rank) place (nought_of (coefficient rank.fourth place) fourth c.if-fourth-ne0.false)) in
    simp to_z-of_z leads

pub returns-then-first-ne0 : goal.returns-then-first-ne0
returns-then-first-ne0 c =
    let rank = c.args.self.now in
    let place = c.args.place in
    let fourth : SFits w128 (coefficient rank.fourth place) = search rules in
    let third : SFits w128 (coefficient rank.third place) = search rules in
    let second : SFits w128 (coefficient rank.second place) = search rules in
    let range : SFits w128 (coefficient rank.first place) = search rules in
    let leads = trend_here 0 (parts_of rank).1.1.1 place (λ is. c.if-first-ne0.true (ap (of_z w128) is))
    ∙ sym (trend_behind 1 (parts_of rank).1.1 place (nought_of (coefficient rank.second place) second c.if-second-ne0.false))
    ∙ sym (trend_behind 2 (parts_of rank).1 place (nought_of (coefficient rank.third place) third c.if-third-ne0.false))
    ∙ sym (trend_behind 3 (parts_of rank) place (nought_of (coefficient rank.fourth place) fourth c.if-fourth-ne0.false)) in
    simp to_z-of_z leads

pub returns : goal.returns
returns c =
    let rank = c.args.self.now in
    let place = c.args.place in
    let fourth : SFits w128 (coefficient rank.fourth place) = search rules in
    let third : SFits w128 (coefficient rank.third place) = search rules in
    let second : SFits w128 (coefficient rank.second place) = search rules in
    let first : SFits w128 (coefficient rank.first place) = search rules in
    let range : SFits w128 (coefficient rank.finite place) = search rules in
    let leads = sym (trend_behind 0 (parts_of rank).1.1.1 place (nought_of (coefficient rank.first place) first c.if-first-ne0.false))
    ∙ sym (trend_behind 1 (parts_of rank).1.1 place (nought_of (coefficient rank.second place) second c.if-second-ne0.false))
    ∙ sym (trend_behind 2 (parts_of rank).1 place (nought_of (coefficient rank.third place) third c.if-third-ne0.false))
    ∙ sym (trend_behind 3 (parts_of rank) place (nought_of (coefficient rank.fourth place) fourth c.if-fourth-ne0.false)) in
    simp to_z-of_z leads
