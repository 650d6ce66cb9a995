use Rattle.std.proofs.Common.{◌≡◌, ◌∙◌, ◌<◌, Some, ap, slice_get, subst, sym}
use Rattle.std.proofs.lemmas.Bool.{false≢true}
use Rattle.std.specs.Map.Iter.{deref_pair}
use Rattle.std.specs.Option.{option_copied, option_map}
use Rattle.tree_arena.specs.declared.node.End as leaves
use Rattle.tree_arena.specs.declared.node.End.TheVariants.{Bottom, Top, Leaf}
use Rattle.tree_arena.specs.declared.node.Entry.{Entry}
use Rattle.tree_arena.specs.declared.node.Entry.TheVariants.{Branch, End as AtEnd}
use Rattle.tree_arena.proofs.Arenas.{number_low, row_low, seen_end, seen_row, tables, tables_count}
use Rattle.tree_arena.proofs.arena.Arena.view.Goals as goal

pub unreachable-requires : goal.unreachable-requires
unreachable-requires g c =
    let all = tables g.R.PartialEq.eq g.met.R.Rank.equal_law c.self.invariant c.len.ensures.unique c.len-2.ensures.unique c.len-3.ensures.unique c.self.view_is in
    let some = c.get_index.ensures.found.1 (subst (λ n. c.args.tree.place < n) (tables_count all) c.requires) in
    absurd (false≢true (rw c.in-None.is at some))

pub unreachable-requires-in-None-get_index : goal.unreachable-requires-in-None-get_index
unreachable-requires-in-None-get_index g c =
    let all = tables g.R.PartialEq.eq g.met.R.Rank.equal_law c.self.invariant c.len.ensures.unique c.len-2.ensures.unique c.len-3.ensures.unique c.self.view_is in
    let node : slice_get c.self.inside.nodes.entries c.args.tree.place ≡ Some (AtEnd c.in-Some-End-default.number, c.in-Some-End-default.field-0-1.now) =
    sym c.get_index.ensures.entry ∙ ap (λ o. option_map deref_pair o) c.in-Some-End-default.is
    ∙ ap (λ (e : Entry). Some (e, c.in-Some-End-default.field-0-1.now)) c.in-Some-End-default.field-0-0-is in
    let some = c.get_index-in-Some-End-default.ensures.found.1 (number_low all node c.requires) in
    absurd (false≢true (rw c.in-None-get_index.is at some))

pub unreachable-requires-in-None-get_index-2 : goal.unreachable-requires-in-None-get_index-2
unreachable-requires-in-None-get_index-2 g c =
    let all = tables g.R.PartialEq.eq g.met.R.Rank.equal_law c.self.invariant c.len.ensures.unique c.len-2.ensures.unique c.len-3.ensures.unique c.self.view_is in
    let node : slice_get c.self.inside.nodes.entries c.args.tree.place
    ≡ Some (Branch c.in-Some-Branch-default.row c.in-Some-Branch-default.yes c.in-Some-Branch-default.no, c.in-Some-Branch-default.field-0-1.now) =
    sym c.get_index.ensures.entry ∙ ap (λ o. option_map deref_pair o) c.in-Some-Branch-default.is
    ∙ ap (λ (e : Entry). Some (e, c.in-Some-Branch-default.field-0-1.now)) c.in-Some-Branch-default.field-0-0-is in
    let some = c.get_index-in-Some-Branch-default.ensures.found.1 (row_low all node c.requires) in
    absurd (false≢true (rw c.in-None-get_index-2.is at some))

pub returns-in-Some-Bottom : goal.returns-in-Some-Bottom
returns-in-Some-Bottom g c =
    let all = tables g.R.PartialEq.eq g.met.R.Rank.equal_law c.self.invariant c.len.ensures.unique c.len-2.ensures.unique c.len-3.ensures.unique c.self.view_is in
    let node : slice_get c.self.inside.nodes.entries c.args.tree.place ≡ Some (AtEnd c.in-Some-End-default.number, c.in-Some-End-default.field-0-1.now) =
    sym c.get_index.ensures.entry ∙ ap (λ o. option_map deref_pair o) c.in-Some-End-default.is
    ∙ ap (λ (e : Entry). Some (e, c.in-Some-End-default.field-0-1.now)) c.in-Some-End-default.field-0-0-is in
    let end : slice_get c.self.inside.ends.keys c.in-Some-End-default.number ≡ Some (Bottom) =
    sym c.get_index-in-Some-End-default.ensures.key ∙ ap (λ o. option_copied o) c.in-Some-Bottom.is
    ∙ ap (λ (e : leaves.End g.row.R.Denot). Some e) c.in-Some-Bottom.field-0-is in
    seen_end all node c.requires end

pub returns-in-Some-Top : goal.returns-in-Some-Top
returns-in-Some-Top g c =
    let all = tables g.R.PartialEq.eq g.met.R.Rank.equal_law c.self.invariant c.len.ensures.unique c.len-2.ensures.unique c.len-3.ensures.unique c.self.view_is in
    let node : slice_get c.self.inside.nodes.entries c.args.tree.place ≡ Some (AtEnd c.in-Some-End-default.number, c.in-Some-End-default.field-0-1.now) =
    sym c.get_index.ensures.entry ∙ ap (λ o. option_map deref_pair o) c.in-Some-End-default.is
    ∙ ap (λ (e : Entry). Some (e, c.in-Some-End-default.field-0-1.now)) c.in-Some-End-default.field-0-0-is in
    let end : slice_get c.self.inside.ends.keys c.in-Some-End-default.number ≡ Some (Top c.in-Some-Top.cause) =
    sym c.get_index-in-Some-End-default.ensures.key ∙ ap (λ o. option_copied o) c.in-Some-Top.is
    ∙ ap (λ (e : leaves.End g.row.R.Denot). Some e) c.in-Some-Top.field-0-is in
    seen_end all node c.requires end

pub returns-in-Some-Leaf : goal.returns-in-Some-Leaf
returns-in-Some-Leaf g c =
    let all = tables g.R.PartialEq.eq g.met.R.Rank.equal_law c.self.invariant c.len.ensures.unique c.len-2.ensures.unique c.len-3.ensures.unique c.self.view_is in
    let node : slice_get c.self.inside.nodes.entries c.args.tree.place ≡ Some (AtEnd c.in-Some-End-default.number, c.in-Some-End-default.field-0-1.now) =
    sym c.get_index.ensures.entry ∙ ap (λ o. option_map deref_pair o) c.in-Some-End-default.is
    ∙ ap (λ (e : Entry). Some (e, c.in-Some-End-default.field-0-1.now)) c.in-Some-End-default.field-0-0-is in
    let end : slice_get c.self.inside.ends.keys c.in-Some-End-default.number ≡ Some (Leaf c.in-Some-Leaf.why c.in-Some-Leaf.rank) =
    sym c.get_index-in-Some-End-default.ensures.key ∙ ap (λ o. option_copied o) c.in-Some-Leaf.is
    ∙ ap (λ (e : leaves.End g.row.R.Denot). Some e) c.in-Some-Leaf.field-0-is in
    seen_end all node c.requires end

pub returns-in-Some : goal.returns-in-Some
returns-in-Some g c =
    let all = tables g.R.PartialEq.eq g.met.R.Rank.equal_law c.self.invariant c.len.ensures.unique c.len-2.ensures.unique c.len-3.ensures.unique c.self.view_is in
    let node : slice_get c.self.inside.nodes.entries c.args.tree.place
    ≡ Some (Branch c.in-Some-Branch-default.row c.in-Some-Branch-default.yes c.in-Some-Branch-default.no, c.in-Some-Branch-default.field-0-1.now) =
    sym c.get_index.ensures.entry ∙ ap (λ o. option_map deref_pair o) c.in-Some-Branch-default.is
    ∙ ap (λ (e : Entry). Some (e, c.in-Some-Branch-default.field-0-1.now)) c.in-Some-Branch-default.field-0-0-is in
    let row : slice_get c.self.inside.rows.keys c.in-Some-Branch-default.row ≡ Some c.in-Some.key.now =
    sym c.get_index-in-Some-Branch-default.ensures.key ∙ ap (λ o. option_copied o) c.in-Some.is in
    seen_row all node c.requires row
