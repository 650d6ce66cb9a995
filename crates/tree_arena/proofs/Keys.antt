-- Equality of rows of a table and of its nodes is identity.
use Rattle.std.proofs.Common.{◌≡◌, Bool, ap, Decides}
use Rattle.std.proofs.lemmas.Bool.{false≢true}
use Rattle.std.proofs.lemmas.Bool.Decides.{Decides-and, Decides-eqb, Decides-like}
use Rattle.linear_cons.specs.declared.row.Row.{Row}
use Rattle.linear_cons.proofs.RowLaws.{row_eq-Decides}
use Rattle.decision_tree.specs.Equality.{same_row}
use Rattle.tree_arena.specs.declared.node.Entry.{Entry}
use Rattle.tree_arena.specs.declared.node.Entry.TheVariants.{Branch, End}
use Rattle.tree_arena.specs.declared.node.RowKey.{RowKey}
use Rattle.tree_arena.specs.contracts.node.EntryPartialEq.TheImpl as entry_eq

abbrev pub same_key : RowKey → RowKey → Bool
same_key key other = same_row key.row other.row

pub key_tells : (key other : RowKey) → Decides (same_key key other) (key ≡ other)
key_tells key other =
    let rows = row_eq-Decides key.row other.row in
    (λ e. ap (λ (r : Row). let k : RowKey = record { row = r } in k) (rows.0 e), λ e. rows.1 (ap (λ (k : RowKey). k.row) e))

abbrev pub same_entry : Entry → Entry → Bool
same_entry = (entry_eq.ghosts).eq

pub entry_tells : (entry other : Entry) → Decides (same_entry entry other) (entry ≡ other)
entry_tells (End a) (End b) = let d = Decides-eqb a b in (λ e. ap (λ n. End n) (d.0 e), λ e. d.1 (cc))
entry_tells (Branch row this that) (Branch other first second) =
    Decides-like _ (λ (all : (row ≡ other) × ((this ≡ first) × (that ≡ second))). cc)
    (λ (whole : Branch row this that ≡ Branch other first second). (cc, (cc, cc)))
    (Decides-and _ _ (Decides-eqb row other) (Decides-and _ _ (Decides-eqb this first) (Decides-eqb that second)))
entry_tells _ _ = (λ e. absurd (false≢true e), λ e. absurd (cc))
