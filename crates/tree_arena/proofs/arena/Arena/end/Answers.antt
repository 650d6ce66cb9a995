use Rattle.tree_arena.proofs.Arenas.{kept_by, leaf_entered, leaf_kept, on_err, tables}
use Rattle.tree_arena.proofs.arena.Arena.end.Goals as goal

pub invariant_of-self-in_err-place : goal.invariant_of-self-in_err-place
invariant_of-self-in_err-place g c =
    let all = tables g.R.PartialEq.eq g.met.R.Rank.equal_law c.self.invariant c.len.ensures.unique c.len-2.ensures.unique c.len-3.ensures.unique c.self.view_is in
    (leaf_kept all c.in_ok-number.ensures.noted c.in_err-place.ensures.stays).table

pub returns-in_err-place-clause-kept : goal.returns-in_err-place-clause-kept
returns-in_err-place-clause-kept g c =
    let all = tables g.R.PartialEq.eq g.met.R.Rank.equal_law c.self.invariant c.len.ensures.unique c.len-2.ensures.unique c.len-3.ensures.unique c.self.view_is in
    kept_by (leaf_kept all c.in_ok-number.ensures.noted c.in_err-place.ensures.stays)

pub returns-in_err-place-clause-there : goal.returns-in_err-place-clause-there
returns-in_err-place-clause-there g c there =
    let all = tables g.R.PartialEq.eq g.met.R.Rank.equal_law c.self.invariant c.len.ensures.unique c.len-2.ensures.unique c.len-3.ensures.unique c.self.view_is in
    (leaf_kept all c.in_ok-number.ensures.noted c.in_err-place.ensures.stays).same

pub returns-in_err-place-clause-stays : goal.returns-in_err-place-clause-stays
returns-in_err-place-clause-stays g c =
    let all = tables g.R.PartialEq.eq g.met.R.Rank.equal_law c.self.invariant c.len.ensures.unique c.len-2.ensures.unique c.len-3.ensures.unique c.self.view_is in
    on_err c.from_residual-in_err-place.result (leaf_kept all c.in_ok-number.ensures.noted c.in_err-place.ensures.stays).same

pub invariant_of-self-2 : goal.invariant_of-self-2
invariant_of-self-2 g c =
    let all = tables g.R.PartialEq.eq g.met.R.Rank.equal_law c.self.invariant c.len.ensures.unique c.len-2.ensures.unique c.len-3.ensures.unique c.self.view_is in
    (leaf_entered all c.in_ok-number.ensures.noted c.in_ok-place.ensures.noted).table

pub returns-clause-tree : goal.returns-clause-tree
returns-clause-tree g c =
    let all = tables g.R.PartialEq.eq g.met.R.Rank.equal_law c.self.invariant c.len.ensures.unique c.len-2.ensures.unique c.len-3.ensures.unique c.self.view_is in
    (leaf_entered all c.in_ok-number.ensures.noted c.in_ok-place.ensures.noted).tree

pub returns-clause-kept : goal.returns-clause-kept
returns-clause-kept g c =
    let all = tables g.R.PartialEq.eq g.met.R.Rank.equal_law c.self.invariant c.len.ensures.unique c.len-2.ensures.unique c.len-3.ensures.unique c.self.view_is in
    (leaf_entered all c.in_ok-number.ensures.noted c.in_ok-place.ensures.noted).kept

pub returns-clause-there : goal.returns-clause-there
returns-clause-there g c there =
    let all = tables g.R.PartialEq.eq g.met.R.Rank.equal_law c.self.invariant c.len.ensures.unique c.len-2.ensures.unique c.len-3.ensures.unique c.self.view_is in
    (leaf_entered all c.in_ok-number.ensures.noted c.in_ok-place.ensures.noted).there there
