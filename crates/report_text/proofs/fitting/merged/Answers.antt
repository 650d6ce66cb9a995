use Rattle.std.proofs.Common.{[], ◌∙◌, ap}
use Rattle.std.proofs.lemmas.List.Elements.{All-nil}
use Rattle.decision_tree.specs.contracts.affine_rank.AffineRankPartialEq.TheImpl as rank_eq
use Rattle.decision_tree.specs.declared.affine_rank.AffineRank.{AffineRank}
use Rattle.decision_tree.specs.Plans.{Plan, plan_of}
use Rattle.linear_cons.specs.Rows.{Meets}
use Rattle.tree_unify.specs.Shapes.{trimmed}
use Rattle.report_text.specs.Fitting.{plain}
use Rattle.report_text.proofs.FitLines.{plain_complements, plain_made, trimmed_complements, trimmed_made}
use Rattle.report_text.proofs.fitting.merged.Goals as goal

pub returns-in-Ok-clause-made : goal.returns-in-Ok-clause-made
returns-in-Ok-clause-made c =
    trimmed_made (rank_eq.ghosts).eq (plan_of c.args.tree) (plan_of c.in-Ok.trimmed)
    (c.in-Ok.ensures.tree ∙ ap (λ (plan : Plan AffineRank). trimmed (rank_eq.ghosts).eq [] plan) c.in_ok-make_plain.ensures)
    (λ store. c.trimming_keeps_the_leaves_on_the_path.ensures [] (plain (plan_of c.args.tree)) store (All-nil (Meets store)))

pub returns-in-Ok-clause-complements : goal.returns-in-Ok-clause-complements
returns-in-Ok-clause-complements c =
    trimmed_complements (rank_eq.ghosts).eq (plan_of c.args.tree) (plan_of c.in-Ok.trimmed)
    (c.in-Ok.ensures.tree ∙ ap (λ (plan : Plan AffineRank). trimmed (rank_eq.ghosts).eq [] plan) c.in_ok-make_plain.ensures) c.requires

pub returns-in-Err-clause-made : goal.returns-in-Err-clause-made
returns-in-Err-clause-made c = plain_made (plan_of c.args.tree) _ c.in_ok-make_plain.ensures

pub returns-in-Err-clause-complements : goal.returns-in-Err-clause-complements
returns-in-Err-clause-complements c = rw c.in_ok-make_plain.ensures (plain_complements (plan_of c.args.tree) c.requires)
