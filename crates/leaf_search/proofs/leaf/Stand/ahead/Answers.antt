use Rattle.std.proofs.Common.{None, false, true}
use Rattle.decision_tree.specs.Plans.{plan_of}
use Rattle.leaf_search.specs.Ahead.{aims, put_by, target_of}
use Rattle.leaf_search.specs.Operands.{families_of}
use Rattle.leaf_search.proofs.Leading.{whole_leads}
use Rattle.leaf_search.proofs.leaf.Stand.ahead.Goals as goal

pub returns : goal.returns
returns g c rows = record {
  kept = whole_leads (λ part. plan_of part.now) None (families_of c.args.self.now.parts.now 0 c.args.self.now.label) rows c.kept.result c.kept.ensures;
  behind = record {
    first = whole_leads (λ part. plan_of part.now) (put_by c.args.self.now.transition.now) (aims c.args.self.now (target_of c.args.self.now.transition.now true)) rows c.target.result c.target.ensures;
    second = whole_leads (λ part. plan_of part.now) (put_by c.args.self.now.transition.now) (aims c.args.self.now (target_of c.args.self.now.transition.now false)) rows c.target-2.result c.target-2.ensures;
  };
}
