-- Statements that are added to a list, at their offsets.
use Rattle.std.proofs.Common.{◌≡◌, ℕ, ◌+◌, List, [], ◌∷◌, ◌++◌, length, replicate, refl, sym, ap, ◌∙◌, subst, append_assoc}
use Rattle.std.proofs.lemmas.List.{append-nil}
use Rattle.step_meaning.specs.declared.statement.Block.{Block}
use Rattle.step_meaning.specs.declared.statement.Stmt.{Stmt}
use Rattle.step_meaning.specs.Offsets.{offsets, all_offsets}
use Rattle.step_meaning.specs.Syntax.{Expression, Statements, statements, list_of, of_list, parts}
use Rattle.step_meaning.specs.Syntax as syntax
use Rattle.step_meaning.proofs.Lists.{of_list-list_of}
use Rattle.call_meaning.specs.declared.statement.UnitKind.{UnitKind}
use Rattle.call_meaning.specs.Tables.{command}
use Rattle.call_inline.specs.Inlined.{Callee, Ending, followed, single, freed, inlined}
use Rattle.call_inline.specs.Laws.Writing.{AreAdded, IsBlock}
use Rattle.call_inline.specs.Placed.{Calls, placed_at}

list_followed : (a b : Statements) → list_of (followed a b) ≡ list_of a ++ list_of b
list_followed syntax.empty b = refl
list_followed (syntax.sequence first more) b = ap (λ xs. first ∷ xs) (list_followed more b)

-- first some, then others
pub added_both : (a b : Statements) (p q : List ℕ) (before between after : List Stmt) → AreAdded a p before between → AreAdded b q between after
    → AreAdded (followed a b) (p ++ q) before after
added_both a b p q before between after first second = record {
  meaning = second.meaning ∙ ap (λ xs. xs ++ list_of b) first.meaning ∙ append_assoc (parts before) (list_of a) (list_of b)
      ∙ ap (λ xs. parts before ++ xs) (sym (list_followed a b));
  offsets = second.offsets ∙ ap (λ xs. xs ++ q) first.offsets ∙ append_assoc (all_offsets before) p q;
}

-- none
pub added_none : (list : List Stmt) → AreAdded syntax.empty [] list list
added_none list = record { meaning = sym (append-nil (parts list)); offsets = sym (append-nil (all_offsets list)) }

-- the same, said in other words
pub added_same : (a b : Statements) (p q : List ℕ) (before after : List Stmt) → a ≡ b → p ≡ q → AreAdded a p before after → AreAdded b q before after
added_same a b p q before after made places added = record {
  meaning = added.meaning ∙ ap (λ s. parts before ++ list_of s) made;
  offsets = added.offsets ∙ ap (λ l. all_offsets before ++ l) places;
}

-- the block of what was added to an empty list
pub block_made : (a : Statements) (p : List ℕ) (before after : List Stmt) (block : Block) → before ≡ [] → AreAdded a p before after
    → statements block ≡ of_list (parts after) → offsets block ≡ all_offsets after → IsBlock a p block
block_made a p before after block none added meaning places = record {
  meaning = meaning ∙ ap of_list (added.meaning ∙ ap (λ l. parts l ++ list_of a) none) ∙ of_list-list_of a;
  offsets = places ∙ added.offsets ∙ ap (λ l. all_offsets l ++ p) none;
}

-- a place more is given any number
pub freed_more : (base : ℕ) (xs : List ℕ) (x : ℕ) → freed base (xs ++ x ∷ []) ≡ followed (freed base xs) (single (syntax.assign (base + x) syntax.free))
freed_more base [] x = refl
freed_more base (y ∷ xs) x = ap (syntax.sequence (syntax.assign (base + y) syntax.free)) (freed_more base xs x)

pub offsets_more : (at : ℕ) (xs : List ℕ) (x : ℕ) → replicate (length (xs ++ x ∷ [])) at ≡ replicate (length xs) at ++ at ∷ []
offsets_more at [] x = refl
offsets_more at (y ∷ xs) x = ap (λ l. at ∷ l) (offsets_more at xs x)

-- the block, said in other words
pub block_same : (a b : Statements) (p q : List ℕ) (block : Block) → a ≡ b → p ≡ q → IsBlock a p block → IsBlock b q block
block_same a b p q block made places is = record { meaning = is.meaning ∙ made; offsets = is.offsets ∙ places }

-- ── Statements with parts ──

pub if_added : (c d : Expression) (y n v w : Statements) (p q r s : List ℕ) (at : ℕ) (before after : List Stmt) → c ≡ d → y ≡ v → n ≡ w → p ≡ r → q ≡ s
    → AreAdded (single (syntax.if_else c y n)) (at ∷ (p ++ q)) before after → AreAdded (single (syntax.if_else d v w)) (at ∷ (r ++ s)) before after
if_added c d y n v w p q r s at before after test first second places others =
    added_same (single (syntax.if_else c y n)) (single (syntax.if_else d v w)) (at ∷ (p ++ q)) (at ∷ (r ++ s)) before after (cc) (cc)

pub while_added : (c d : Expression) (y n v w : Statements) (p q r s : List ℕ) (at : ℕ) (before after : List Stmt) → c ≡ d → y ≡ v → n ≡ w → p ≡ r → q ≡ s
    → AreAdded (single (syntax.while_loop c y n)) (at ∷ (p ++ q)) before after → AreAdded (single (syntax.while_loop d v w)) (at ∷ (r ++ s)) before after
while_added c d y n v w p q r s at before after test first second places others =
    added_same (single (syntax.while_loop c y n)) (single (syntax.while_loop d v w)) (at ∷ (p ++ q)) (at ∷ (r ++ s)) before after (cc) (cc)

pub do_added : (c d : Expression) (y v : Statements) (p r : List ℕ) (at : ℕ) (before after : List Stmt) → c ≡ d → y ≡ v → p ≡ r
    → AreAdded (single (syntax.do_while y c)) (p ++ at ∷ []) before after → AreAdded (single (syntax.do_while v d)) (r ++ at ∷ []) before after
do_added c d y v p r at before after test body places =
    added_same (single (syntax.do_while y c)) (single (syntax.do_while v d)) (p ++ at ∷ []) (r ++ at ∷ []) before after (cc) (cc)

-- what one statement becomes, where it is known which it is
pub one_added : (calls : ℕ → Callee) (base : ℕ) (ending : Ending) (places : Calls) (back : ℕ → ℕ) (at : ℕ) (kind known : UnitKind) (before after : List Stmt) → kind ≡ known
    → AreAdded (inlined calls base ending (command known)) (placed_at places back at known) before after
    → AreAdded (inlined calls base ending (command kind)) (placed_at places back at kind) before after
one_added calls base ending places back at kind known before after is =
    subst (λ k. AreAdded (inlined calls base ending (command k)) (placed_at places back at k) before after) (sym is)
