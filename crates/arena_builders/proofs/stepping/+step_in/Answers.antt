use Rattle.std.proofs.Common.{◌≡◌, ◌∙◌, Ok, Err, sym, subst, arith}
use Rattle.decision_tree.specs.Plans.{Plan}
use Rattle.decision_tree.specs.declared.reason.Pick.TheVariants.{All as EveryState}
use Rattle.tree_arena.specs.Trees.{tree_at}
use Rattle.backward_transfer.specs.Steps.{stepping}
use Rattle.arena_builders.specs.BuildsIn.{BuildsIn}
use Rattle.arena_builders.specs.Nodes.{HasRow}
use Rattle.arena_builders.proofs.BuildingIn.{beside_both, both_made, goes_on, handed_on, place_kept, stopped_first, stopped_second}
use Rattle.arena_builders.proofs.stepping.+step_in.Goals as goal

pub returns-in_err-this : goal.returns-in_err-this
returns-in_err-this g t c =
    let arena = c.args.arena.now in
    let sides = c.in-Some.ensures.some in
    let row = sides.row in
    let trail = c.args.walk.now.trail in
    let yes = tree_at arena c.in-Some.yes.place in
    let no = tree_at arena c.in-Some.no.place in
    let this = stepping g.R.PartialEq.eq g.R.Rank EveryState yes in
    let that = stepping g.R.PartialEq.eq g.R.Rank EveryState no in
    subst (λ (p : Plan g.row.R.Denot). BuildsIn (stepping g.R.PartialEq.eq g.R.Rank EveryState p) arena c.step_in.new.arena trail c.step_in.new.walk c.from_residual.result) (sym sides.is)
    (handed_on (beside_both g.R.PartialEq.eq g.met.R.Rank.equal_law row this.plan that.plan this.Fits that.Fits (this.Fits × that.Fits)) arena trail c.from_residual.result c.from_residual.ensures.0
    (stopped_first g.R.PartialEq.eq g.met.R.Rank.equal_law row this.plan that.plan this.Fits that.Fits (this.Fits × that.Fits) (λ fits. fits.0) c.in_err-this.ensures))

pub returns-in_err-that : goal.returns-in_err-that
returns-in_err-that g t c =
    let arena = c.args.arena.now in
    let sides = c.in-Some.ensures.some in
    let row = sides.row in
    let trail = c.args.walk.now.trail in
    let yes = tree_at arena c.in-Some.yes.place in
    let no = tree_at arena c.in-Some.no.place in
    let this = stepping g.R.PartialEq.eq g.R.Rank EveryState yes in
    let that = stepping g.R.PartialEq.eq g.R.Rank EveryState no in
    let left : BuildsIn this arena c.step_in.new.arena trail c.step_in.new.walk (Ok c.in_ok-this.this) = c.in_ok-this.ensures in
    let one = c.step_in.new.arena in
    let no_kept : tree_at one c.in-Some.no.place ≡ no = place_kept arena one c.in-Some.no.place left.kept (let low = c.requires in let less = sides.second in omega (arith, low, less)) in
    let part : BuildsIn that one c.step_in-2.new.arena c.step_in.new.walk.trail c.step_in-2.new.walk (Err c.in_err-that.field-0.0) = rw no_kept at c.in_err-that.ensures in
    subst (λ (p : Plan g.row.R.Denot). BuildsIn (stepping g.R.PartialEq.eq g.R.Rank EveryState p) arena c.step_in-2.new.arena trail c.step_in-2.new.walk c.from_residual-in_err-that.result) (sym sides.is)
    (handed_on (beside_both g.R.PartialEq.eq g.met.R.Rank.equal_law row this.plan that.plan this.Fits that.Fits (this.Fits × that.Fits)) arena trail c.from_residual-in_err-that.result c.from_residual-in_err-that.ensures.0
    (stopped_second g.R.PartialEq.eq g.met.R.Rank.equal_law row this.plan that.plan this.Fits that.Fits (this.Fits × that.Fits) left.kept (λ fits. fits.1) part))

pub returns : goal.returns
returns g t c =
    let arena = c.args.arena.now in
    let sides = c.in-Some.ensures.some in
    let row = sides.row in
    let trail = c.args.walk.now.trail in
    let yes = tree_at arena c.in-Some.yes.place in
    let no = tree_at arena c.in-Some.no.place in
    let has : HasRow arena c.args.tree row = (yes, no, sides.is) in
    let this = stepping g.R.PartialEq.eq g.R.Rank EveryState yes in
    let that = stepping g.R.PartialEq.eq g.R.Rank EveryState no in
    let left : BuildsIn this arena c.step_in.new.arena trail c.step_in.new.walk (Ok c.in_ok-this.this) = c.in_ok-this.ensures in
    let one = c.step_in.new.arena in
    let no_kept : tree_at one c.in-Some.no.place ≡ no = place_kept arena one c.in-Some.no.place left.kept (let low = c.requires in let less = sides.second in omega (arith, low, less)) in
    let two = c.step_in-2.new.arena in
    let right : BuildsIn that one two c.step_in.new.walk.trail c.step_in-2.new.walk (Ok c.in_ok-that.that) = rw no_kept at c.in_ok-that.ensures in
    let tree_kept : tree_at two c.args.tree.place ≡ tree_at arena c.args.tree.place = place_kept arena two c.args.tree.place (goes_on arena one two left.kept right.kept) c.requires in
    let has_still : HasRow two c.args.tree row = (yes, no, tree_kept ∙ sides.is) in
    subst (λ (p : Plan g.row.R.Denot). BuildsIn (stepping g.R.PartialEq.eq g.R.Rank EveryState p) arena c.join_at.new.arena trail c.join_at.new.walk c.join_at.result) (sym sides.is)
    (both_made g.R.PartialEq.eq g.met.R.Rank.equal_law row this.plan that.plan this.Fits that.Fits (this.Fits × that.Fits) c.join_at.result left right (λ one two. (one, two)) (c.join_at.ensures row has_still) (right.trail ∙ left.trail))
