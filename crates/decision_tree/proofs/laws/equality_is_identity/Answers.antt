use Rattle.linear_cons.proofs.RowLaws.{row_eq-Decides}
use Rattle.decision_tree.specs.Laws.EqualityLaws.{cause_eq-Decides, pick_eq-Decides, plan_eq-Decides, why_eq-Decides}
use Rattle.decision_tree.proofs.laws.equality_is_identity.Goals as goal

pub returns-clause-rows : goal.returns-clause-rows
returns-clause-rows g c = row_eq-Decides

pub returns-clause-picks : goal.returns-clause-picks
returns-clause-picks g c = pick_eq-Decides

pub returns-clause-reasons : goal.returns-clause-reasons
returns-clause-reasons g c = why_eq-Decides

pub returns-clause-causes : goal.returns-clause-causes
returns-clause-causes g c = cause_eq-Decides

pub returns-clause-trees : goal.returns-clause-trees
returns-clause-trees g c = plan_eq-Decides _ g.met.R.Rank.equal_law
