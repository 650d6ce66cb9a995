-- What is formed from trees fits, where it does for each row and each rank.
use Rattle.std.proofs.Common.{ℕ, Bool, true, false, List, [], ◌∷◌, ◌++◌, Option, None, Some}
use Rattle.std.specs.Prelude.{⊤}
use Rattle.linear_cons.specs.Functions.{NumbersFit, SubstitutionFits, complement_of, substituted}
use Rattle.linear_cons.specs.Rows.{complement, row_kind_of}
use Rattle.linear_cons.specs.Settling.{settles}
use Rattle.linear_cons.specs.declared.affine.Affine.{Affine}
use Rattle.linear_cons.specs.declared.row.Row.{Row}
use Rattle.linear_cons.specs.declared.row.RowKind.{RowKind}
use Rattle.linear_cons.specs.declared.row.RowKind.TheVariants.{Always, Never, Row as Kept}
use Rattle.decision_tree.specs.Plans.{IsEnd, Plan, bottom, branch, leaf, top}
use Rattle.decision_tree.specs.declared.affine_rank.AffineRank.{AffineRank}
use Rattle.decision_tree.specs.Alternatives.{Alternatives}
use Rattle.decision_tree.specs.declared.reason.Why.{Why}
use Rattle.tree_unify.specs.Shapes.{GraftFits, JoinFits, JoinedFits, MetFits, OnSide, TrimFits, TrimWithFits}
use Rattle.tree_unify.specs.declared.join.Join.TheVariants.{Later}
use Rattle.backward_transfer.specs.Ranges.{later_of}
use Rattle.backward_transfer.specs.Steps.{AskedFits, AssignFits, StepFits}
use Rattle.backward_transfer.specs.Tests.{EnabledFits}
use Rattle.unroll.specs.Within.{EachIs}

on_each : (t : Option Bool) (This That Neither : Type 0) → This → That → Neither → OnSide t This That Neither
on_each (Some true) This That Neither first second both = first
on_each (Some false) This That Neither first second both = second
on_each None This That Neither first second both = both

asked_fits : (kind : RowKind) (This That : Type 0) → This → That → AskedFits kind This That
asked_fits Always This That first second = first
asked_fits Never This That first second = second
asked_fits (Kept row) This That first second = (first, second)

module _ (P : Row → Type 0) (Q : Why → AffineRank → Type 0) where
  pub step_fits : (more_fits : AffineRank → Type 0) → ((why : Why) (rank : AffineRank) → Q why rank → more_fits rank) → (plan : Plan AffineRank)
      → EachIs P Q plan → StepFits more_fits plan
  step_fits more_fits fits bottom each = tt
  step_fits more_fits fits (top cause) each = tt
  step_fits more_fits fits (leaf why rank) each = fits why rank each
  step_fits more_fits fits (branch row this that) each = (step_fits more_fits fits this each.1, step_fits more_fits fits that each.2)

  module _ (put : AffineRank → ℕ → Affine → AffineRank) (put_fits : AffineRank → ℕ → Affine → Type 0) (more_fits : AffineRank → Type 0) (place : ℕ) (by : Affine)
      (row_in : (row : Row) → P row → SubstitutionFits row.affine place by)
      (rank_in : (why : Why) (rank : AffineRank) → Q why rank → put_fits rank place by × more_fits (put rank place by)) where
    pub assign_fits : (plan : Plan AffineRank) → EachIs P Q plan → AssignFits put put_fits more_fits place by plan
    assign_fits bottom each = tt
    assign_fits (top cause) each = tt
    assign_fits (leaf why rank) each = rank_in why rank each
    assign_fits (branch row this that) each = (
      row_in row each.0,
      asked_fits (row_kind_of (substituted row.affine place by)) (AssignFits put put_fits more_fits place by this) (AssignFits put put_fits more_fits place by that)
          (assign_fits this each.1) (assign_fits that each.2),
    )

  module _ (same : AffineRank → AffineRank → Bool) (turn : (row : Row) → P row → NumbersFit (complement_of row.affine)) where
    cut_fits : (Fits : Plan AffineRank → Type 0) → ((end : Plan AffineRank) → IsEnd end → EachIs P Q end → Fits end) → (path : List Row) (plan : Plan AffineRank)
        → EachIs P Q plan → TrimWithFits same Fits path plan
    cut_fits Fits ends path bottom each = ends bottom tt tt
    cut_fits Fits ends path (top cause) each = ends (top cause) tt tt
    cut_fits Fits ends path (leaf why rank) each = ends (leaf why rank) tt each
    cut_fits Fits ends path (branch row this that) each =
        on_each (settles path row) (TrimWithFits same Fits path this) (TrimWithFits same Fits path that)
        (TrimWithFits same Fits (path ++ row ∷ []) this × NumbersFit (complement_of row.affine) × TrimWithFits same Fits (path ++ complement row ∷ []) that)
        (cut_fits Fits ends path this each.1) (cut_fits Fits ends path that each.2)
        (cut_fits Fits ends (path ++ row ∷ []) this each.1, turn row each.0, cut_fits Fits ends (path ++ complement row ∷ []) that each.2)

    pub trim_fits : (path : List Row) (plan : Plan AffineRank) → EachIs P Q plan → TrimFits same path plan
    trim_fits path plan each = cut_fits (λ end. ⊤) (λ end ends own. tt) path plan each

    module _ (where_greater : AffineRank → AffineRank → Alternatives) (greater_fits : AffineRank → AffineRank → Type 0)
        (met : (why other : Why) (rank next : AffineRank) → Q why rank → Q other next → MetFits same where_greater greater_fits Later (leaf why rank) (leaf other next)) where
      met_fits : (why : Why) (rank : AffineRank) → Q why rank → (end : Plan AffineRank) → IsEnd end → EachIs P Q end
          → MetFits same where_greater greater_fits Later (leaf why rank) end
      met_fits why rank one bottom ends two = tt
      met_fits why rank one (top cause) ends two = tt
      met_fits why rank one (leaf other next) ends two = met why other rank next one two
      met_fits why rank one (branch row this that) ends two = tt

      graft_fits : (second : Plan AffineRank) → EachIs P Q second → (path : List Row) (first : Plan AffineRank) → EachIs P Q first
          → GraftFits same (JoinFits same where_greater greater_fits Later second) path first
      graft_fits second two path bottom one = λ asks. absurd (cc)
      graft_fits second two path (top cause) one = λ asks. absurd (cc)
      graft_fits second two path (leaf why rank) one =
          λ asks. cut_fits (MetFits same where_greater greater_fits Later (leaf why rank)) (met_fits why rank one) path second two
      graft_fits second two path (branch row this that) one =
          (graft_fits second two (path ++ row ∷ []) this one.1, turn row one.0, graft_fits second two (path ++ complement row ∷ []) that one.2)

      pub joined_fits : (this that : Plan AffineRank) → EachIs P Q this → EachIs P Q that → JoinedFits same where_greater greater_fits Later this that
      joined_fits this that one two = graft_fits that two [] this one

      -- at the ends of a test, where the later of both is such too
      module _ (one_more : AffineRank → AffineRank) (more_fits : AffineRank → Type 0) (fits : (why : Why) (rank : AffineRank) → Q why rank → more_fits rank)
          (this that : Plan AffineRank) (first : EachIs P Q this) (second : EachIs P Q that) (both : EachIs P Q (later_of same where_greater greater_fits this that)) where
        pub enabled_fits : (t u : Bool) → EnabledFits same where_greater greater_fits one_more more_fits this that t u
        enabled_fits true true = (joined_fits this that first second, step_fits more_fits fits (later_of same where_greater greater_fits this that) both)
        enabled_fits true false = step_fits more_fits fits this first
        enabled_fits false true = step_fits more_fits fits that second
        enabled_fits false false = tt
