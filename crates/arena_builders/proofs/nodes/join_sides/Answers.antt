use Rattle.std.proofs.Common.{rules, ◌≡◌, ◌+◌, ◌≤◌, refl, sym, ap, subst}
use Rattle.decision_tree.specs.Nodes.{node}
use Rattle.decision_tree.specs.Plans.{Plan, branch, size_of}
use Rattle.tree_unify.specs.Builds.{given}
use Rattle.tree_arena.specs.Trees.{IsAt, tree_at}
use Rattle.tree_arena.proofs.Entering.{same_list}
use Rattle.arena_builders.proofs.BuildingIn.{stopped_by}
use Rattle.arena_builders.proofs.Joined.{one_side, two_sides}
use Rattle.arena_builders.proofs.nodes.join_sides.Goals as goal

pub returns-then-yes-no : goal.returns-then-yes-no
returns-then-yes-no g c =
    let arena = c.args.arena.now in
    let same : c.args.yes.place ≡ c.args.no.place = search rules in
    let is = one_side g.R.PartialEq.eq g.met.R.Rank.equal_law c.args.row.now (tree_at arena c.args.yes.place) (tree_at arena c.args.no.place) (ap (λ n. tree_at arena n) same) in
    record {
      kept = same_list arena;
      tree = record { within = c.requires.yes.0; tree = sym is };
      small = subst (λ (p : Plan g.row.R.Denot). size_of p ≤ 65536) (sym is) c.requires.yes.1;
      room = tt;
      trail = refl;
      fits = tt;
      full = tt;
      wide = tt;
      operands = tt;
    }

pub returns-then-size-gt-MOST_NODES : goal.returns-then-size-gt-MOST_NODES
returns-then-size-gt-MOST_NODES g c =
    let arena = c.args.arena.now in
    let yes_tree = tree_at arena c.args.yes.place in
    let no_tree = tree_at arena c.args.no.place in
    let apart : (yes_tree ≡ no_tree) → ⊥ =
    λ equal. let same = c.entries.ensures.distinct c.args.yes.place c.args.no.place c.requires.yes.0 c.requires.no.0 equal in search rules in
    let made = two_sides g.R.PartialEq.eq g.met.R.Rank.equal_law c.args.row.now yes_tree no_tree apart in
    let yes = c.size.ensures in
    let no = c.size-2.ensures in
    let few = c.requires.yes.1 in
    let few_no = c.requires.no.1 in
    stopped_by (given (node g.R.PartialEq.eq c.args.row.now yes_tree no_tree)) arena c.args.walk.now.trail (same_list arena)
    (λ count is.
    let size : count ≡ c.size.result + c.size-2.result + 1 = cc in
    (search rules, λ room small. let low : size_of (branch c.args.row.now yes_tree no_tree) ≤ 65536 = subst (λ (p : Plan g.row.R.Denot). size_of p ≤ 65536) made small in search rules))
    (λ w is fits. search rules) (λ w is. absurd (search rules))

pub returns-in-Ok : goal.returns-in-Ok
returns-in-Ok g c =
    let arena = c.args.arena.now in
    let yes_tree = tree_at arena c.args.yes.place in
    let no_tree = tree_at arena c.args.no.place in
    let apart : (yes_tree ≡ no_tree) → ⊥ =
    λ equal. let same = c.entries.ensures.distinct c.args.yes.place c.args.no.place c.requires.yes.0 c.requires.no.0 equal in search rules in
    let made = two_sides g.R.PartialEq.eq g.met.R.Rank.equal_law c.args.row.now yes_tree no_tree apart in
    let yes = c.size.ensures in
    let no = c.size-2.ensures in
    let few = c.requires.yes.1 in
    let few_no = c.requires.no.1 in
    let low : size_of (branch c.args.row.now yes_tree no_tree) ≤ 65536 = search rules in
    record {
      kept = c.in-Ok.ensures.kept;
      tree = subst (λ (p : Plan g.row.R.Denot). IsAt c.node.new.self c.in-Ok.made p) (sym made) c.in-Ok.ensures.tree;
      small = subst (λ (p : Plan g.row.R.Denot). size_of p ≤ 65536) (sym made) low;
      room = tt;
      trail = refl;
      fits = tt;
      full = tt;
      wide = tt;
      operands = tt;
    }
