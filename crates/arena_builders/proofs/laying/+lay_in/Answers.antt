use Rattle.std.proofs.Common.{◌≡◌, ◌∙◌, [], ◌∷◌, ◌++◌, None, Ok, Err, sym, subst, arith}
use Rattle.linear_cons.specs.Functions.{NumbersFit, complement_of}
use Rattle.linear_cons.specs.Rows.{complement}
use Rattle.linear_cons.specs.Settling.{settles}
use Rattle.decision_tree.specs.Plans.{Plan}
use Rattle.tree_unify.specs.Shapes.{laying}
use Rattle.tree_arena.specs.Trees.{tree_at}
use Rattle.arena_builders.specs.BuildsIn.{BuildsIn}
use Rattle.arena_builders.specs.Nodes.{HasRow}
use Rattle.arena_builders.proofs.BuildingIn.{as_both, beside_both, both_made, goes_on, handed_on, place_kept, stopped_at, stopped_first, stopped_second}
use Rattle.arena_builders.proofs.laying.+lay_in.Goals as goal

pub returns-in_err-first-in-None : goal.returns-in_err-first-in-None
returns-in_err-first-in-None g t c =
    let arena = c.args.arena.now in
    let sides = c.in-Some.ensures.some in
    let row = sides.row in
    let trail = c.args.walk.now.trail in
    let yes = tree_at arena c.in-Some.yes.place in
    let no = tree_at arena c.in-Some.no.place in
    let leaf = tree_at arena c.args.leaf.place in
    let has : HasRow arena c.args.second row = (yes, no, sides.is) in
    let settle : settles trail row ≡ None = sym (c.settled.ensures row has) ∙ c.in-None.is in
    let here = trail ++ row ∷ [] in
    let there = trail ++ complement row ∷ [] in
    let this = laying g.R.PartialEq.eq g.R.Rank c.args.join leaf here yes in
    let that = laying g.R.PartialEq.eq g.R.Rank c.args.join leaf there no in
    let down : c.down.new.walk.trail ≡ here = c.in_ok-down-in-None.ensures.down row has in
    let part : BuildsIn this arena c.lay_in-in-None.new.arena here c.lay_in-in-None.new.walk (Err c.in_err-first-in-None.field-0.0) = rw down at c.in_err-first-in-None.ensures in
    subst (λ (p : Plan g.row.R.Denot). BuildsIn (laying g.R.PartialEq.eq g.R.Rank c.args.join leaf trail p) arena c.lay_in-in-None.new.arena trail c.lay_in-in-None.new.walk c.from_residual-in_err-first-in-None.result) (sym sides.is)
    (as_both g.R.PartialEq.eq g.R.Rank c.args.join leaf trail row yes no settle
    (handed_on (beside_both g.R.PartialEq.eq g.met.R.Rank.equal_law row this.plan that.plan this.Fits that.Fits (this.Fits × NumbersFit (complement_of row.affine) × that.Fits)) arena trail c.from_residual-in_err-first-in-None.result c.from_residual-in_err-first-in-None.ensures.0
    (stopped_first g.R.PartialEq.eq g.met.R.Rank.equal_law row this.plan that.plan this.Fits that.Fits (this.Fits × NumbersFit (complement_of row.affine) × that.Fits) (λ fits. fits.0) part)))

pub returns-in_err-turn-in-None : goal.returns-in_err-turn-in-None
returns-in_err-turn-in-None g t c =
    let arena = c.args.arena.now in
    let sides = c.in-Some.ensures.some in
    let row = sides.row in
    let trail = c.args.walk.now.trail in
    let yes = tree_at arena c.in-Some.yes.place in
    let no = tree_at arena c.in-Some.no.place in
    let leaf = tree_at arena c.args.leaf.place in
    let has : HasRow arena c.args.second row = (yes, no, sides.is) in
    let settle : settles trail row ≡ None = sym (c.settled.ensures row has) ∙ c.in-None.is in
    let here = trail ++ row ∷ [] in
    let there = trail ++ complement row ∷ [] in
    let this = laying g.R.PartialEq.eq g.R.Rank c.args.join leaf here yes in
    let that = laying g.R.PartialEq.eq g.R.Rank c.args.join leaf there no in
    let down : c.down.new.walk.trail ≡ here = c.in_ok-down-in-None.ensures.down row has in
    let first : BuildsIn this arena c.lay_in-in-None.new.arena here c.lay_in-in-None.new.walk (Ok c.in_ok-first-in-None.first) = rw down at c.in_ok-first-in-None.ensures in
    let at : c.lay_in-in-None.new.walk.trail ≡ here = first.trail in
    subst (λ (p : Plan g.row.R.Denot). BuildsIn (laying g.R.PartialEq.eq g.R.Rank c.args.join leaf trail p) arena c.lay_in-in-None.new.arena trail c.turn.new.self c.from_residual-in_err-turn-in-None.result) (sym sides.is)
    (as_both g.R.PartialEq.eq g.R.Rank c.args.join leaf trail row yes no settle
    (handed_on (beside_both g.R.PartialEq.eq g.met.R.Rank.equal_law row this.plan that.plan this.Fits that.Fits (this.Fits × NumbersFit (complement_of row.affine) × that.Fits)) arena trail c.from_residual-in_err-turn-in-None.result c.from_residual-in_err-turn-in-None.ensures.0
    (stopped_at (beside_both g.R.PartialEq.eq g.met.R.Rank.equal_law row this.plan that.plan this.Fits that.Fits (this.Fits × NumbersFit (complement_of row.affine) × that.Fits)) arena trail first.kept c.in_err-turn-in-None.ensures.full
    (λ w is fits. c.in_err-turn-in-None.ensures.wide w is trail row at fits.1) c.in_err-turn-in-None.ensures.operands)))

pub returns-in_err-other-in-None : goal.returns-in_err-other-in-None
returns-in_err-other-in-None g t c =
    let arena = c.args.arena.now in
    let sides = c.in-Some.ensures.some in
    let row = sides.row in
    let trail = c.args.walk.now.trail in
    let yes = tree_at arena c.in-Some.yes.place in
    let no = tree_at arena c.in-Some.no.place in
    let leaf = tree_at arena c.args.leaf.place in
    let has : HasRow arena c.args.second row = (yes, no, sides.is) in
    let settle : settles trail row ≡ None = sym (c.settled.ensures row has) ∙ c.in-None.is in
    let here = trail ++ row ∷ [] in
    let there = trail ++ complement row ∷ [] in
    let this = laying g.R.PartialEq.eq g.R.Rank c.args.join leaf here yes in
    let that = laying g.R.PartialEq.eq g.R.Rank c.args.join leaf there no in
    let down : c.down.new.walk.trail ≡ here = c.in_ok-down-in-None.ensures.down row has in
    let first : BuildsIn this arena c.lay_in-in-None.new.arena here c.lay_in-in-None.new.walk (Ok c.in_ok-first-in-None.first) = rw down at c.in_ok-first-in-None.ensures in
    let at : c.lay_in-in-None.new.walk.trail ≡ here = first.trail in
    let one = c.lay_in-in-None.new.arena in
    let way : c.turn.new.self.trail ≡ there = c.in_ok-turn-in-None.ensures.turned trail row at in
    let no_kept : tree_at one c.in-Some.no.place ≡ no = place_kept arena one c.in-Some.no.place first.kept (let low = c.requires.second in let less = sides.second in omega (arith, low, less)) in
    let leaf_kept : tree_at one c.args.leaf.place ≡ leaf = place_kept arena one c.args.leaf.place first.kept c.requires.leaf.0 in
    let part : BuildsIn that one c.lay_in-in-None-2.new.arena there c.lay_in-in-None-2.new.walk (Err c.in_err-other-in-None.field-0.0) =
    rw (way, no_kept, leaf_kept) at c.in_err-other-in-None.ensures in
    subst (λ (p : Plan g.row.R.Denot). BuildsIn (laying g.R.PartialEq.eq g.R.Rank c.args.join leaf trail p) arena c.lay_in-in-None-2.new.arena trail c.lay_in-in-None-2.new.walk c.from_residual-in_err-other-in-None.result) (sym sides.is)
    (as_both g.R.PartialEq.eq g.R.Rank c.args.join leaf trail row yes no settle
    (handed_on (beside_both g.R.PartialEq.eq g.met.R.Rank.equal_law row this.plan that.plan this.Fits that.Fits (this.Fits × NumbersFit (complement_of row.affine) × that.Fits)) arena trail c.from_residual-in_err-other-in-None.result c.from_residual-in_err-other-in-None.ensures.0
    (stopped_second g.R.PartialEq.eq g.met.R.Rank.equal_law row this.plan that.plan this.Fits that.Fits (this.Fits × NumbersFit (complement_of row.affine) × that.Fits) first.kept (λ fits. fits.2) part)))

pub returns-in_ok-other-in-None : goal.returns-in_ok-other-in-None
returns-in_ok-other-in-None g t c =
    let arena = c.args.arena.now in
    let sides = c.in-Some.ensures.some in
    let row = sides.row in
    let trail = c.args.walk.now.trail in
    let yes = tree_at arena c.in-Some.yes.place in
    let no = tree_at arena c.in-Some.no.place in
    let leaf = tree_at arena c.args.leaf.place in
    let has : HasRow arena c.args.second row = (yes, no, sides.is) in
    let settle : settles trail row ≡ None = sym (c.settled.ensures row has) ∙ c.in-None.is in
    let here = trail ++ row ∷ [] in
    let there = trail ++ complement row ∷ [] in
    let this = laying g.R.PartialEq.eq g.R.Rank c.args.join leaf here yes in
    let that = laying g.R.PartialEq.eq g.R.Rank c.args.join leaf there no in
    let down : c.down.new.walk.trail ≡ here = c.in_ok-down-in-None.ensures.down row has in
    let first : BuildsIn this arena c.lay_in-in-None.new.arena here c.lay_in-in-None.new.walk (Ok c.in_ok-first-in-None.first) = rw down at c.in_ok-first-in-None.ensures in
    let at : c.lay_in-in-None.new.walk.trail ≡ here = first.trail in
    let one = c.lay_in-in-None.new.arena in
    let way : c.turn.new.self.trail ≡ there = c.in_ok-turn-in-None.ensures.turned trail row at in
    let no_kept : tree_at one c.in-Some.no.place ≡ no = place_kept arena one c.in-Some.no.place first.kept (let low = c.requires.second in let less = sides.second in omega (arith, low, less)) in
    let leaf_kept : tree_at one c.args.leaf.place ≡ leaf = place_kept arena one c.args.leaf.place first.kept c.requires.leaf.0 in
    let two = c.lay_in-in-None-2.new.arena in
    let second : BuildsIn that one two there c.lay_in-in-None-2.new.walk (Ok c.in_ok-other-in-None.other) =
    rw (way, no_kept, leaf_kept) at c.in_ok-other-in-None.ensures in
    let fit = c.in_ok-turn-in-None.ensures.fits trail row at in
    let tree_kept : tree_at two c.args.second.place ≡ tree_at arena c.args.second.place =
    place_kept arena two c.args.second.place (goes_on arena one two first.kept second.kept) c.requires.second in
    let has_still : HasRow two c.args.second row = (yes, no, tree_kept ∙ sides.is) in
    let back : c.up.new.self ≡ trail = c.up.ensures.shortened trail (complement row) second.trail in
    subst (λ (p : Plan g.row.R.Denot). BuildsIn (laying g.R.PartialEq.eq g.R.Rank c.args.join leaf trail p) arena c.join_at.new.arena trail c.join_at.new.walk c.join_at.result) (sym sides.is)
    (as_both g.R.PartialEq.eq g.R.Rank c.args.join leaf trail row yes no settle
    (both_made g.R.PartialEq.eq g.met.R.Rank.equal_law row this.plan that.plan this.Fits that.Fits (this.Fits × NumbersFit (complement_of row.affine) × that.Fits) c.join_at.result first second (λ one two. (one, fit, two)) (c.join_at.ensures row has_still) back))
