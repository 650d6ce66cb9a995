use Rattle.std.proofs.Common.{ℕ, None, ap, map, sym, ◌∙◌}
use Rattle.decision_tree.specs.Plans.{plan_of}
use Rattle.tree_support.specs.Setting.{Trees, trees_in}
use Rattle.leaf_search.specs.declared.part.Part.TheVariants.{Next}
use Rattle.leaf_search.specs.Arcs.{over_each}
use Rattle.leaf_search.proofs.Leaving.{ahead_is}
use Rattle.leaf_search.proofs.leaf.Stand.targets.Goals as goal

pub returns-in-Next-clause-over : goal.returns-in-Next-clause-over
returns-in-Next-clause-over g c at is_at arcs asks =
    ahead_is g.R.Rank at (Next c.in-Next.all) (is_at.formula ∙ c.in-Next.is) asks (trees_in (map plan_of c.args.self.now.family.now)) c.args.rank.now arcs
    ∙ ap (λ (trees : Trees g.row.R.Denot). over_each trees None arcs asks)
    (ap (λ (parts : ℕ → Trees g.row.R.Denot). parts 0) is_at.parts ∙ sym c.operand.ensures)

pub returns-in-Next-clause-aims : goal.returns-in-Next-clause-aims
returns-in-Next-clause-aims g c = rw c.in-Next.is c.operand.ensures
