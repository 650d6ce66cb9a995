-- Blocked systems: two of the functions that a system asks for can't both be at least 0, and their rows are seen to be opposed, so no point
-- meets the system and no legal elimination gives its leaf up.
use Rattle.std.specs.Prelude.{◌≡◌, ◌⊎◌, ℕ, ◌<◌, ◌≤◌, List, length, All, Contains}
use Rattle.linear_cons.specs.declared.affine.Affine.{Affine}
use Rattle.linear_cons.specs.Functions.{complement_of}
use Rattle.step_meaning.specs.Syntax.{size_of, statements}
use Rattle.step_meaning.specs.Valid.{IsBody}
use Rattle.step_meaning.specs.declared.statement.Block.{Block}
use Rattle.control_flow.specs.Labels.{all_labels}
use Rattle.decision_tree.specs.declared.affine_rank.AffineRank.{AffineRank}
use Rattle.decision_tree.specs.AffineRanks.{excess_of}
use Rattle.tree_support.specs.Certificates.{affine_ranks}
use Rattle.constraint_stack.specs.Forming.{Formed, FormsWhole, exact}
use Rattle.tree_support.specs.Setting.{Setting, Trees}
use Rattle.constraint_stack.specs.Claims.{ClaimFits, moved_rank, Claim, nothing, unnatural, exceeding, System}
use Rattle.tree_support.specs.Systems.{systems}
use Rattle.count_down.specs.Cancelling.{Cancel}
use Rattle.decision_tree.specs.Extent.{IsWhole}

-- the claim asks the function to be at least 0
abbrev pub ClaimAsks : Claim AffineRank → Affine → Type 0
ClaimAsks nothing a = ⊥
ClaimAsks (unnatural rank) a = complement_of rank.value ≡ a
ClaimAsks (exceeding other sets rank) a = excess_of (affine_ranks.one_more (moved_rank affine_ranks sets other)).value rank.value ≡ a

-- the function is asked for, and no call that forms it leaves 128 bits
abbrev pub AskedIn : List Formed → Affine → Type 0
AskedIn asks a = (f : Formed) × Contains asks f × FormsWhole f × (exact f ≡ a)

-- the system asks the function to be at least 0, by its own or by its claim, and no call that forms it leaves 128 bits
abbrev pub AsksFor : System AffineRank → Affine → Type 0
AsksFor system a = AskedIn system.asks a ⊎ (ClaimFits affine_ranks system.claim × ClaimAsks system.claim a)

-- two functions that the system asks for cancel
pub record IsBlocked (system : System AffineRank) : Type 0 where
  pub one : Affine
  pub two : Affine
  pub asks_one : AsksFor system one
  pub asks_two : AsksFor system two
  pub cancels : Cancel one two

-- each system of each leaf is blocked
abbrev pub AllBlocked : Setting AffineRank → Trees AffineRank → Type 0
AllBlocked at family = (label place : ℕ) → All IsBlocked (systems at family label place)

-- What is known where a candidate is checked: a body over at most 15 variables with fewer than 1,024 statements, as each program with a
-- graph; and, first of the parts, a family without undefined leaves at the labels, as that of the truth.
pub record IsGround (vars : ℕ) (block : Block) (parts : ℕ → Trees AffineRank) : Type 0 where
  pub few_variables : vars ≤ 15
  pub sorted : IsBody vars (statements block)
  pub few_labels : size_of (statements block) < 1024
  pub whole : (label : ℕ) → label < length (all_labels (statements block)) → IsWhole (parts 0 label)
