use Rattle.std.proofs.Common.{◌≡◌, ◌∙◌, [], ◌∷◌, ◌++◌, Ok, Err, sym, subst, arith}
use Rattle.linear_cons.specs.Functions.{NumbersFit, complement_of}
use Rattle.linear_cons.specs.Rows.{complement}
use Rattle.decision_tree.specs.Plans.{Plan}
use Rattle.tree_unify.specs.Shapes.{grafting}
use Rattle.tree_arena.specs.Trees.{tree_at}
use Rattle.arena_builders.specs.BuildsIn.{BuildsIn}
use Rattle.arena_builders.specs.Nodes.{HasRow}
use Rattle.arena_builders.proofs.BuildingIn.{beside_both, both_made, goes_on, handed_on, place_kept, stopped_at, stopped_second}
use Rattle.arena_builders.proofs.joining.+graft_in.Goals as goal

pub returns-in_err-turn : goal.returns-in_err-turn
returns-in_err-turn g t c =
    let arena = c.args.arena.now in
    let sides = c.in-Some.ensures.some in
    let row = sides.row in
    let trail = c.args.walk.now.trail in
    let yes = tree_at arena c.in-Some.yes.place in
    let no = tree_at arena c.in-Some.no.place in
    let second = tree_at arena c.args.second.place in
    let has : HasRow arena c.args.first row = (yes, no, sides.is) in
    let here = trail ++ row ∷ [] in
    let there = trail ++ complement row ∷ [] in
    let this = grafting g.R.PartialEq.eq g.R.Rank c.args.join second here yes in
    let that = grafting g.R.PartialEq.eq g.R.Rank c.args.join second there no in
    let down : c.down.new.walk.trail ≡ here = c.in_ok-down.ensures.down row has in
    let left : BuildsIn this arena c.graft_in.new.arena here c.graft_in.new.walk (Ok c.in_ok-this.this) = rw down at c.in_ok-this.ensures in
    let at : c.graft_in.new.walk.trail ≡ here = left.trail in
    subst (λ (p : Plan g.row.R.Denot). BuildsIn (grafting g.R.PartialEq.eq g.R.Rank c.args.join second trail p) arena c.graft_in.new.arena trail c.turn.new.self c.from_residual-in_err-turn.result) (sym sides.is)
    (handed_on (beside_both g.R.PartialEq.eq g.met.R.Rank.equal_law row this.plan that.plan this.Fits that.Fits (this.Fits × NumbersFit (complement_of row.affine) × that.Fits)) arena trail c.from_residual-in_err-turn.result c.from_residual-in_err-turn.ensures.0
    (stopped_at (beside_both g.R.PartialEq.eq g.met.R.Rank.equal_law row this.plan that.plan this.Fits that.Fits (this.Fits × NumbersFit (complement_of row.affine) × that.Fits)) arena trail left.kept c.in_err-turn.ensures.full
    (λ w is fits. c.in_err-turn.ensures.wide w is trail row at fits.1) c.in_err-turn.ensures.operands))

pub returns-in_err-that : goal.returns-in_err-that
returns-in_err-that g t c =
    let arena = c.args.arena.now in
    let sides = c.in-Some.ensures.some in
    let row = sides.row in
    let trail = c.args.walk.now.trail in
    let yes = tree_at arena c.in-Some.yes.place in
    let no = tree_at arena c.in-Some.no.place in
    let second = tree_at arena c.args.second.place in
    let has : HasRow arena c.args.first row = (yes, no, sides.is) in
    let here = trail ++ row ∷ [] in
    let there = trail ++ complement row ∷ [] in
    let this = grafting g.R.PartialEq.eq g.R.Rank c.args.join second here yes in
    let that = grafting g.R.PartialEq.eq g.R.Rank c.args.join second there no in
    let down : c.down.new.walk.trail ≡ here = c.in_ok-down.ensures.down row has in
    let left : BuildsIn this arena c.graft_in.new.arena here c.graft_in.new.walk (Ok c.in_ok-this.this) = rw down at c.in_ok-this.ensures in
    let at : c.graft_in.new.walk.trail ≡ here = left.trail in
    let one = c.graft_in.new.arena in
    let way : c.turn.new.self.trail ≡ there = c.in_ok-turn.ensures.turned trail row at in
    let no_kept : tree_at one c.in-Some.no.place ≡ no = place_kept arena one c.in-Some.no.place left.kept (let low = c.requires.first in let less = sides.second in omega (arith, low, less)) in
    let second_kept : tree_at one c.args.second.place ≡ second = place_kept arena one c.args.second.place left.kept c.requires.second in
    let part : BuildsIn that one c.graft_in-2.new.arena there c.graft_in-2.new.walk (Err c.in_err-that.field-0.0) =
    rw (way, no_kept, second_kept) at c.in_err-that.ensures in
    subst (λ (p : Plan g.row.R.Denot). BuildsIn (grafting g.R.PartialEq.eq g.R.Rank c.args.join second trail p) arena c.graft_in-2.new.arena trail c.graft_in-2.new.walk c.from_residual-in_err-that.result) (sym sides.is)
    (handed_on (beside_both g.R.PartialEq.eq g.met.R.Rank.equal_law row this.plan that.plan this.Fits that.Fits (this.Fits × NumbersFit (complement_of row.affine) × that.Fits)) arena trail c.from_residual-in_err-that.result c.from_residual-in_err-that.ensures.0
    (stopped_second g.R.PartialEq.eq g.met.R.Rank.equal_law row this.plan that.plan this.Fits that.Fits (this.Fits × NumbersFit (complement_of row.affine) × that.Fits) left.kept (λ fits. fits.2) part))

pub returns : goal.returns
returns g t c =
    let arena = c.args.arena.now in
    let sides = c.in-Some.ensures.some in
    let row = sides.row in
    let trail = c.args.walk.now.trail in
    let yes = tree_at arena c.in-Some.yes.place in
    let no = tree_at arena c.in-Some.no.place in
    let second = tree_at arena c.args.second.place in
    let has : HasRow arena c.args.first row = (yes, no, sides.is) in
    let here = trail ++ row ∷ [] in
    let there = trail ++ complement row ∷ [] in
    let this = grafting g.R.PartialEq.eq g.R.Rank c.args.join second here yes in
    let that = grafting g.R.PartialEq.eq g.R.Rank c.args.join second there no in
    let down : c.down.new.walk.trail ≡ here = c.in_ok-down.ensures.down row has in
    let left : BuildsIn this arena c.graft_in.new.arena here c.graft_in.new.walk (Ok c.in_ok-this.this) = rw down at c.in_ok-this.ensures in
    let at : c.graft_in.new.walk.trail ≡ here = left.trail in
    let one = c.graft_in.new.arena in
    let way : c.turn.new.self.trail ≡ there = c.in_ok-turn.ensures.turned trail row at in
    let no_kept : tree_at one c.in-Some.no.place ≡ no = place_kept arena one c.in-Some.no.place left.kept (let low = c.requires.first in let less = sides.second in omega (arith, low, less)) in
    let second_kept : tree_at one c.args.second.place ≡ second = place_kept arena one c.args.second.place left.kept c.requires.second in
    let two = c.graft_in-2.new.arena in
    let right : BuildsIn that one two there c.graft_in-2.new.walk (Ok c.in_ok-that.that) = rw (way, no_kept, second_kept) at c.in_ok-that.ensures in
    let fit = c.in_ok-turn.ensures.fits trail row at in
    let tree_kept : tree_at two c.args.first.place ≡ tree_at arena c.args.first.place =
    place_kept arena two c.args.first.place (goes_on arena one two left.kept right.kept) c.requires.first in
    let has_still : HasRow two c.args.first row = (yes, no, tree_kept ∙ sides.is) in
    let back : c.up.new.self ≡ trail = c.up.ensures.shortened trail (complement row) right.trail in
    subst (λ (p : Plan g.row.R.Denot). BuildsIn (grafting g.R.PartialEq.eq g.R.Rank c.args.join second trail p) arena c.join_at.new.arena trail c.join_at.new.walk c.join_at.result) (sym sides.is)
    (both_made g.R.PartialEq.eq g.met.R.Rank.equal_law row this.plan that.plan this.Fits that.Fits (this.Fits × NumbersFit (complement_of row.affine) × that.Fits) c.join_at.result left right (λ one two. (one, fit, two)) (c.join_at.ensures row has_still) back)
