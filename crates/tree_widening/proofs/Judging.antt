-- Why what is found of the rows on the stack stands of the rows on the way, and what it says of a leaf's claim.
use Rattle.std.proofs.Common.{◌↔◌, ℤ, Bool, true, ◌≡◌, ◌<◌, List, [], ◌∷◌, ◌++◌, length, suc, Some, false, inl, inr, arith, ⊎_elim}
use Rattle.std.proofs.lemmas.List.Elements.{All-append, All-cons}
use Rattle.linear_cons.specs.Rows.{Meets, MeetsAll}
use Rattle.linear_cons.specs.Settling.{settles}
use Rattle.linear_cons.specs.declared.row.Row.{Row}
use Rattle.linear_cons.specs.declared.row.RowKind.{RowKind}
use Rattle.linear_cons.specs.declared.row.RowKind.TheVariants.{Always, Never, Row as Kept}
use Rattle.linear_cons.proofs.Telling.{settled_row_fails}
use Rattle.linear_solve.proofs.Keeping.{answer_of_kept}
use Rattle.linear_solve.proofs.Tightening.{stand_for}
use Rattle.linear_solve.specs.Answers.{HasNoStore, IsAnswerTo, IsEmpty}
use Rattle.linear_solve.specs.declared.answer.Answer.{Answer}
use Rattle.linear_solve.specs.declared.answer.Answer.TheVariants.{Empty, Point, Wide, Rows}
use Rattle.decision_tree.specs.Alternatives.{Alternatives, MeetsAny, rows_of}
use Rattle.decision_tree.specs.declared.rank.Comparison.{Comparison}
use Rattle.decision_tree.specs.Trails.{AreTightestOf}
use Rattle.decision_tree.specs.declared.rank.Rank.{Ghosts as Ranks}
use Rattle.tree_widening.specs.Judging.{IsBehindDecided, IsDecided, IsKindDecided, IsLeafJudged, IsOneDecided}
use Rattle.tree_widening.specs.Meeting.{MayBeMet}

-- an answer of the tightest rows is one of all of them
pub answer_of_way : (way held : List Row) (answer : Answer) → AreTightestOf way held → IsAnswerTo held answer → IsAnswerTo way answer
answer_of_way way held answer tightest is =
    answer_of_kept way held answer (stand_for way held tightest.tightest tightest.few) tightest.tightest is

-- more than 4,096 tightest rows are of more than 4,096 rows
pub many_of_way : (way held : List Row) → AreTightestOf way held → 4096 < length held → MayBeMet way
many_of_way way held tightest many = let few = tightest.few in inr (inl (omega (arith, many, few)))

-- behind rows that settle that a row fails no store meets it
pub fails_behind : (path : List Row) (row : Row) → settles path row ≡ Some false → HasNoStore (path ++ row ∷ [])
fails_behind path row settle store all =
    settled_row_fails path row store settle (front_met path all) (last_met path all)
  where
    front_met : (rows : List Row) → MeetsAll store (rows ++ row ∷ []) → MeetsAll store rows
    front_met [] met = λ k d h. absurd (omega arith)
    front_met (first ∷ rest) met = All-cons (λ row. Meets store row) first rest (met 0 first (omega arith)) (front_met rest (λ k d h. met (suc k) d (omega arith)))

    last_met : (rows : List Row) → MeetsAll store (rows ++ row ∷ []) → Meets store row
    last_met [] met = met 0 row (omega arith)
    last_met (first ∷ rest) met = last_met rest (λ k d h. met (suc k) d (omega arith))

-- ---- alternatives of constraints

with_row : (path : List Row) (row : Row) (store : List ℤ) → MeetsAll store path → Meets store row → MeetsAll store (path ++ row ∷ [])
with_row path row store all met =
    All-append (λ row. Meets store row) path (row ∷ []) all (All-cons (λ row. Meets store row) row [] met (λ k d h. absurd (omega arith)))

-- the constraint alone
pub always_decided : (path : List Row) (met : Bool) → IsDecided path met → IsKindDecided path Always met
always_decided path true decided = decided
always_decided path false none = λ store all kind. none store all

pub row_decided : (path : List Row) (row : Row) (met : Bool) → IsDecided (path ++ row ∷ []) met → IsKindDecided path (Kept row) met
row_decided path row true decided = decided
row_decided path row false none = λ store all kind. none store (with_row path row store all kind)

pub row_opposed : (path : List Row) (row : Row) → settles path row ≡ Some false → IsKindDecided path (Kept row) false
row_opposed path row settle = λ store all kind. fails_behind path row settle store (with_row path row store all kind)

-- alternatives behind constraints
pub none_left : (path : List Row) (kinds : List RowKind) (list : Alternatives) (met : Bool) → length kinds ≡ 0 → IsOneDecided path list met
    → IsBehindDecided path kinds list met
none_left path [] list true empty decided = decided
none_left path [] list false empty none = λ store all kinds one. none store all one
none_left path (kind ∷ rest) list met empty decided = absurd (omega (arith, empty))

pub row_pushed : (path : List Row) (row : Row) (rest : List RowKind) (list : Alternatives) (met : Bool) → IsBehindDecided (path ++ row ∷ []) rest list met
    → IsBehindDecided path (Kept row ∷ rest) list met
row_pushed path row rest list true decided = decided
row_pushed path row rest list false none = λ store all kinds one. none store (with_row path row store all kinds.0) kinds.1 one

pub row_fails : (path : List Row) (row : Row) (rest : List RowKind) (list : Alternatives) → settles path row ≡ Some false
    → IsBehindDecided path (Kept row ∷ rest) list false
row_fails path row rest list settle = λ store all kinds one. fails_behind path row settle store (with_row path row store all kinds.0)

pub always_passed : (path : List Row) (rest : List RowKind) (list : Alternatives) (met : Bool) → IsBehindDecided path rest list met
    → IsBehindDecided path (Always ∷ rest) list met
always_passed path rest list true decided = decided
always_passed path rest list false none = λ store all kinds one. none store all kinds.1 one

pub never_left : (path : List Row) (rest : List RowKind) (list : Alternatives) → IsBehindDecided path (Never ∷ rest) list false
never_left path rest list = λ store all kinds one. kinds.0

-- where there is no alternative left
pub no_more : (path : List Row) (kinds : List RowKind) → IsBehindDecided path kinds [] false
no_more path kinds = λ store all met one. one

-- a first part that isn't met, and what is behind it
pub not_first : (path : List Row) (part : Comparison) (rest : Alternatives) (met : Bool)
    → IsKindDecided path part.more false → IsBehindDecided path (rows_of part.same) rest met → IsOneDecided path (part ∷ rest) met
not_first path part rest true fails decided = inr decided
not_first path part rest false fails none = λ store all one. ⊎_elim (λ here. fails store all here) (λ later. none store all later.0 later.1) one

pub first_met : (path : List Row) (part : Comparison) (rest : Alternatives) → IsKindDecided path part.more true → IsOneDecided path (part ∷ rest) true
first_met path part rest met = inl met

-- what is decided of the alternatives where the newer rank exceeds is what is judged of the leaf
pub leaf_judged : {R : Type 0} (ranks : Ranks R) → ((rank other : R) (store : List ℤ) → MeetsAny store (ranks.where_greater rank other)
    ↔ ranks.exceeds (ranks.rank_value rank store) (ranks.rank_value other store))
    → (rank next : R) (path : List Row) (met : Bool) → IsOneDecided path (ranks.where_greater next rank) met → IsLeafJudged ranks rank path next met
leaf_judged ranks greater rank next path true decided = decided
leaf_judged ranks greater rank next path false none = λ store all exceeds. none store all ((greater next rank store).1 exceeds)

-- each answer but the one that no store meets the rows
pub may_be_met : (rows : List Row) (answer : Answer) → IsAnswerTo rows answer → (IsEmpty answer → ⊥) → MayBeMet rows
may_be_met rows Empty is apart = absurd (apart tt)
may_be_met rows (Point num den) is apart = inl (num, (den, is))
may_be_met rows (Wide operands) is apart = inr (inr (inl is.1))
may_be_met rows (Rows count) is apart = inr (inr (inr is.1))
