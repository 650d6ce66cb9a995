use Rattle.std.proofs.Common.{◌≡◌, ◌∙◌, Ok, Err, sym, subst, arith}
use Rattle.linear_cons.specs.Functions.{SubstitutionFits, substituted}
use Rattle.linear_cons.specs.Rows.{row_kind_of}
use Rattle.linear_cons.specs.declared.row.RowKind.TheVariants.{Always, Never, Row as Kept}
use Rattle.decision_tree.specs.Plans.{Plan, branch}
use Rattle.decision_tree.specs.declared.reason.Pick.TheVariants.{All as EveryState}
use Rattle.tree_arena.specs.Trees.{tree_at}
use Rattle.backward_transfer.specs.Steps.{assigning}
use Rattle.arena_builders.specs.BuildsIn.{BuildsIn}
use Rattle.arena_builders.specs.Nodes.{HasRow}
use Rattle.arena_builders.proofs.BuildingIn.{beside_both, both_made, handed_on, place_kept, stopped_at, stopped_first, stopped_second}
use Rattle.arena_builders.proofs.Putting.{as_always, as_kept, as_never}
use Rattle.tree_arena.proofs.Entering.{same_list}
use Rattle.arena_builders.proofs.assigning.+put_in.Goals as goal

pub returns-in_err-kind : goal.returns-in_err-kind
returns-in_err-kind g t c =
    let arena = c.args.arena.now in
    let sides = c.in-Some.ensures.some in
    let row = sides.row in
    let trail = c.args.walk.now.trail in
    let yes = tree_at arena c.in-Some.yes.place in
    let no = tree_at arena c.in-Some.no.place in
    let has : HasRow arena c.args.tree row = (yes, no, sides.is) in
    let this = assigning g.R.PartialEq.eq g.R.Rank EveryState c.args.place c.args.by.now yes in
    let that = assigning g.R.PartialEq.eq g.R.Rank EveryState c.args.place c.args.by.now no in
    subst (λ (p : Plan g.row.R.Denot). BuildsIn (assigning g.R.PartialEq.eq g.R.Rank EveryState c.args.place c.args.by.now p) arena arena trail c.put_row.new.walk c.from_residual.result) (sym sides.is)
    (handed_on (assigning g.R.PartialEq.eq g.R.Rank EveryState c.args.place c.args.by.now (branch row yes no)) arena trail c.from_residual.result c.from_residual.ensures.0
    (stopped_at (assigning g.R.PartialEq.eq g.R.Rank EveryState c.args.place c.args.by.now (branch row yes no)) arena trail (same_list arena) c.in_err-kind.ensures.full
    (λ w is fits. c.in_err-kind.ensures.wide row has w is fits.0) c.in_err-kind.ensures.operands))

pub returns-in-Always : goal.returns-in-Always
returns-in-Always g t c =
    let arena = c.args.arena.now in
    let sides = c.in-Some.ensures.some in
    let row = sides.row in
    let trail = c.args.walk.now.trail in
    let yes = tree_at arena c.in-Some.yes.place in
    let no = tree_at arena c.in-Some.no.place in
    let has : HasRow arena c.args.tree row = (yes, no, sides.is) in
    let this = assigning g.R.PartialEq.eq g.R.Rank EveryState c.args.place c.args.by.now yes in
    let that = assigning g.R.PartialEq.eq g.R.Rank EveryState c.args.place c.args.by.now no in
    let way : c.put_row.new.walk.trail ≡ trail = c.in_ok-kind.ensures.trail in
    let put = c.in_ok-kind.ensures.fits row has in
    let kind : row_kind_of (substituted row.affine c.args.place c.args.by.now) ≡ Always = sym (c.in_ok-kind.ensures.kind row has) ∙ sym c.deref.ensures ∙ c.in-Always.is in
    subst (λ (p : Plan g.row.R.Denot). BuildsIn (assigning g.R.PartialEq.eq g.R.Rank EveryState c.args.place c.args.by.now p) arena c.put_in.new.arena trail c.put_in.new.walk c.put_in.result) (sym sides.is)
    (as_always g.R.PartialEq.eq g.R.Rank EveryState c.args.place c.args.by.now row yes no c.put_in.result kind put (rw way at c.put_in.ensures))

pub returns-in-Never : goal.returns-in-Never
returns-in-Never g t c =
    let arena = c.args.arena.now in
    let sides = c.in-Some.ensures.some in
    let row = sides.row in
    let trail = c.args.walk.now.trail in
    let yes = tree_at arena c.in-Some.yes.place in
    let no = tree_at arena c.in-Some.no.place in
    let has : HasRow arena c.args.tree row = (yes, no, sides.is) in
    let this = assigning g.R.PartialEq.eq g.R.Rank EveryState c.args.place c.args.by.now yes in
    let that = assigning g.R.PartialEq.eq g.R.Rank EveryState c.args.place c.args.by.now no in
    let way : c.put_row.new.walk.trail ≡ trail = c.in_ok-kind.ensures.trail in
    let put = c.in_ok-kind.ensures.fits row has in
    let kind : row_kind_of (substituted row.affine c.args.place c.args.by.now) ≡ Never = sym (c.in_ok-kind.ensures.kind row has) ∙ sym c.deref.ensures ∙ c.in-Never.is in
    subst (λ (p : Plan g.row.R.Denot). BuildsIn (assigning g.R.PartialEq.eq g.R.Rank EveryState c.args.place c.args.by.now p) arena c.put_in-in-Never.new.arena trail c.put_in-in-Never.new.walk c.put_in-in-Never.result) (sym sides.is)
    (as_never g.R.PartialEq.eq g.R.Rank EveryState c.args.place c.args.by.now row yes no c.put_in-in-Never.result kind put (rw way at c.put_in-in-Never.ensures))

pub returns-in_err-this-in-Row : goal.returns-in_err-this-in-Row
returns-in_err-this-in-Row g t c =
    let arena = c.args.arena.now in
    let sides = c.in-Some.ensures.some in
    let row = sides.row in
    let trail = c.args.walk.now.trail in
    let yes = tree_at arena c.in-Some.yes.place in
    let no = tree_at arena c.in-Some.no.place in
    let has : HasRow arena c.args.tree row = (yes, no, sides.is) in
    let this = assigning g.R.PartialEq.eq g.R.Rank EveryState c.args.place c.args.by.now yes in
    let that = assigning g.R.PartialEq.eq g.R.Rank EveryState c.args.place c.args.by.now no in
    let way : c.put_row.new.walk.trail ≡ trail = c.in_ok-kind.ensures.trail in
    let put = c.in_ok-kind.ensures.fits row has in
    let kind : row_kind_of (substituted row.affine c.args.place c.args.by.now) ≡ Kept c.in-Row.row = sym (c.in_ok-kind.ensures.kind row has) ∙ sym c.deref.ensures ∙ c.in-Row.is in
    let part : BuildsIn this arena c.put_in-in-Row.new.arena trail c.put_in-in-Row.new.walk (Err c.in_err-this-in-Row.field-0.0) = rw way at c.in_err-this-in-Row.ensures in
    subst (λ (p : Plan g.row.R.Denot). BuildsIn (assigning g.R.PartialEq.eq g.R.Rank EveryState c.args.place c.args.by.now p) arena c.put_in-in-Row.new.arena trail c.put_in-in-Row.new.walk c.from_residual-in_err-this-in-Row.result) (sym sides.is)
    (as_kept g.R.PartialEq.eq g.R.Rank EveryState c.args.place c.args.by.now row yes no c.from_residual-in_err-this-in-Row.result c.in-Row.row kind
    (handed_on (beside_both g.R.PartialEq.eq g.met.R.Rank.equal_law c.in-Row.row this.plan that.plan this.Fits that.Fits (SubstitutionFits row.affine c.args.place c.args.by.now × (this.Fits × that.Fits))) arena trail c.from_residual-in_err-this-in-Row.result c.from_residual-in_err-this-in-Row.ensures.0
    (stopped_first g.R.PartialEq.eq g.met.R.Rank.equal_law c.in-Row.row this.plan that.plan this.Fits that.Fits (SubstitutionFits row.affine c.args.place c.args.by.now × (this.Fits × that.Fits)) (λ fits. fits.1.0) part)))

pub returns-in_err-that-in-Row : goal.returns-in_err-that-in-Row
returns-in_err-that-in-Row g t c =
    let arena = c.args.arena.now in
    let sides = c.in-Some.ensures.some in
    let row = sides.row in
    let trail = c.args.walk.now.trail in
    let yes = tree_at arena c.in-Some.yes.place in
    let no = tree_at arena c.in-Some.no.place in
    let has : HasRow arena c.args.tree row = (yes, no, sides.is) in
    let this = assigning g.R.PartialEq.eq g.R.Rank EveryState c.args.place c.args.by.now yes in
    let that = assigning g.R.PartialEq.eq g.R.Rank EveryState c.args.place c.args.by.now no in
    let way : c.put_row.new.walk.trail ≡ trail = c.in_ok-kind.ensures.trail in
    let put = c.in_ok-kind.ensures.fits row has in
    let kind : row_kind_of (substituted row.affine c.args.place c.args.by.now) ≡ Kept c.in-Row.row = sym (c.in_ok-kind.ensures.kind row has) ∙ sym c.deref.ensures ∙ c.in-Row.is in
    let left : BuildsIn this arena c.put_in-in-Row.new.arena trail c.put_in-in-Row.new.walk (Ok c.in_ok-this-in-Row.this) = rw way at c.in_ok-this-in-Row.ensures in
    let one = c.put_in-in-Row.new.arena in
    let no_kept : tree_at one c.in-Some.no.place ≡ no = place_kept arena one c.in-Some.no.place left.kept (let low = c.requires.tree in let less = sides.second in omega (arith, low, less)) in
    let part : BuildsIn that one c.put_in-in-Row-2.new.arena c.put_in-in-Row.new.walk.trail c.put_in-in-Row-2.new.walk (Err c.in_err-that-in-Row.field-0.0) = rw no_kept at c.in_err-that-in-Row.ensures in
    subst (λ (p : Plan g.row.R.Denot). BuildsIn (assigning g.R.PartialEq.eq g.R.Rank EveryState c.args.place c.args.by.now p) arena c.put_in-in-Row-2.new.arena trail c.put_in-in-Row-2.new.walk c.from_residual-in_err-that-in-Row.result) (sym sides.is)
    (as_kept g.R.PartialEq.eq g.R.Rank EveryState c.args.place c.args.by.now row yes no c.from_residual-in_err-that-in-Row.result c.in-Row.row kind
    (handed_on (beside_both g.R.PartialEq.eq g.met.R.Rank.equal_law c.in-Row.row this.plan that.plan this.Fits that.Fits (SubstitutionFits row.affine c.args.place c.args.by.now × (this.Fits × that.Fits))) arena trail c.from_residual-in_err-that-in-Row.result c.from_residual-in_err-that-in-Row.ensures.0
    (stopped_second g.R.PartialEq.eq g.met.R.Rank.equal_law c.in-Row.row this.plan that.plan this.Fits that.Fits (SubstitutionFits row.affine c.args.place c.args.by.now × (this.Fits × that.Fits)) left.kept (λ fits. fits.1.1) part)))

pub returns : goal.returns
returns g t c =
    let arena = c.args.arena.now in
    let sides = c.in-Some.ensures.some in
    let row = sides.row in
    let trail = c.args.walk.now.trail in
    let yes = tree_at arena c.in-Some.yes.place in
    let no = tree_at arena c.in-Some.no.place in
    let has : HasRow arena c.args.tree row = (yes, no, sides.is) in
    let this = assigning g.R.PartialEq.eq g.R.Rank EveryState c.args.place c.args.by.now yes in
    let that = assigning g.R.PartialEq.eq g.R.Rank EveryState c.args.place c.args.by.now no in
    let way : c.put_row.new.walk.trail ≡ trail = c.in_ok-kind.ensures.trail in
    let put = c.in_ok-kind.ensures.fits row has in
    let kind : row_kind_of (substituted row.affine c.args.place c.args.by.now) ≡ Kept c.in-Row.row = sym (c.in_ok-kind.ensures.kind row has) ∙ sym c.deref.ensures ∙ c.in-Row.is in
    let left : BuildsIn this arena c.put_in-in-Row.new.arena trail c.put_in-in-Row.new.walk (Ok c.in_ok-this-in-Row.this) = rw way at c.in_ok-this-in-Row.ensures in
    let one = c.put_in-in-Row.new.arena in
    let no_kept : tree_at one c.in-Some.no.place ≡ no = place_kept arena one c.in-Some.no.place left.kept (let low = c.requires.tree in let less = sides.second in omega (arith, low, less)) in
    let two = c.put_in-in-Row-2.new.arena in
    let right : BuildsIn that one two c.put_in-in-Row.new.walk.trail c.put_in-in-Row-2.new.walk (Ok c.in_ok-that-in-Row.that) = rw no_kept at c.in_ok-that-in-Row.ensures in
    subst (λ (p : Plan g.row.R.Denot). BuildsIn (assigning g.R.PartialEq.eq g.R.Rank EveryState c.args.place c.args.by.now p) arena c.join_sides.new.arena trail c.join_sides.new.walk c.join_sides.result) (sym sides.is)
    (as_kept g.R.PartialEq.eq g.R.Rank EveryState c.args.place c.args.by.now row yes no c.join_sides.result c.in-Row.row kind
    (both_made g.R.PartialEq.eq g.met.R.Rank.equal_law c.in-Row.row this.plan that.plan this.Fits that.Fits (SubstitutionFits row.affine c.args.place c.args.by.now × (this.Fits × that.Fits)) c.join_sides.result left right (λ one two. (put, (one, two))) c.join_sides.ensures (right.trail ∙ left.trail)))
