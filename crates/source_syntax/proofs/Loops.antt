-- Trees that are told by equations, and the loops of the readers: what is read so far, with one thing more.
use Rattle.std.proofs.Common.{◌≡◌, ℕ, List, [], ◌∷◌, ◌++◌, map, Bool, true, sym, ap, ◌∙◌, subst, ◌+◌, append_assoc}
use Rattle.std.proofs.lemmas.List.{map-append}
use Rattle.derivation.specs.declared.symbol.Symbol.{Symbol}
use Rattle.derivation.specs.Word.{symbol}
use Rattle.derivation.specs.Comes.{IsNext}
use Rattle.source_syntax.specs.Language.{Rest}
use Rattle.source_syntax.specs.declared.opening.LinkOpening.{LinkOpening}
use Rattle.concrete_syntax.specs.declared.expression.Link.{Link as RustLink}
use Rattle.source_syntax.specs.Ends.{function_of, after_function}
use Rattle.concrete_syntax.specs.declared.statement.Item.{Item as RustItem}
use Rattle.concrete_syntax.specs.declared.program.Prelude.{Prelude as RustPrelude}
use Rattle.concrete_syntax.specs.declared.program.Function.{Function as RustFunction}
use Rattle.concrete_syntax.specs.Trees.{Link, further, Items}
use Rattle.concrete_syntax.specs.Chains.{tail_of, items_of}
use Rattle.concrete_syntax.specs.Mirror.{link, links, item, prelude, function, functions}
use Rattle.concrete_syntax.proofs.Chains.{tail_of-append, items_of-append}
use Rattle.source_syntax.specs.Pending.{Pending, a_tail, definitions, a_program, TreeOf, Leads}
use Rattle.source_syntax.specs.Reads.{ReadsCounting, ReadsRight, ComesToTail, right_of, link_of, Reads, Continues, behind_preludes, behind_functions}
use Rattle.derivation.proofs.Grammars.{over, stay, refilled}

-- a tree that is told by an equation
pub told_reads : {p : Pending} {t u : TreeOf p} {from to : Rest} → t ≡ u → Reads p u from to → Reads p t from to
told_reads {p} {t} {u} {from} {to} e r = subst (λ t. Reads p t from to) (sym e) r

pub told : {count now : ℕ} {p : Pending} {t u : TreeOf p} {from to : Rest} → t ≡ u → ReadsCounting count p u from now to → ReadsCounting count p t from now to
told {count} {now} {p} {t} {u} {from} {to} e r = subst (λ t. ReadsCounting count p t from now to) (sym e) r

-- a sign whose spelling is told by an equation
pub written : (from to : Rest) {s t : Symbol} → IsNext (symbol s) from to → s ≡ t → IsNext (symbol t) from to
written from to e h = (e.0 ∙ ap (λ x. symbol x ∷ to.words) h, e.1)

-- at the start, what is left is all
pub continues_from : {p : Pending} {whole : TreeOf p → TreeOf p} (start : Rest) → ((t : TreeOf p) → t ≡ whole t) → Continues p whole start start
continues_from {p} start same = λ count behind. (count, refilled (λ g. ap (λ t. (t, g.1)) (same g.0)) (stay count (p ∷ behind) start))

-- an element more in a list
pub longer : {X Y : Type 0} (f : X → Y) (old new : List X) (last : X) → new ≡ old ++ last ∷ [] → (more : List Y) → map f old ++ f last ∷ more ≡ map f new ++ more
longer f old new last pushed more =
    sym (ap (λ l. map f l ++ more) pushed ∙ ap (λ l. l ++ more) (map-append f old (last ∷ [])) ∙ append_assoc (map f old) (f last ∷ []) more)

pub one_item_more : (old new : List RustItem) (last : RustItem) → new ≡ old ++ last ∷ [] → (more : Items)
    → items_of (map item old) (items_of (item last ∷ []) more) ≡ items_of (map item new) more
one_item_more old new last pushed more =
    sym (ap (λ l. items_of (map item l) more) pushed ∙ ap (λ l. items_of l more) (map-append item old (last ∷ [])) ∙ items_of-append (map item old) (item last ∷ []) more)

pub one_prelude_more : {functions : Bool} {start here to : Rest} (old new : List RustPrelude) (last : RustPrelude) → new ≡ old ++ last ∷ []
    → Continues (a_program functions) (behind_preludes (map prelude old)) start here
    → Continues (a_program functions) (behind_preludes (prelude last ∷ [])) here to
    → Continues (a_program functions) (behind_preludes (map prelude new)) start to
one_prelude_more old new last pushed h r = λ count behind. (
  _,
  refilled (λ g. ap (λ l. (record { preludes = l; functions = g.0.functions; void = g.0.void; items = g.0.items }, g.1)) (longer prelude old new last pushed g.0.preludes))
      (over (h count behind).1 (r _ behind).1),
)

-- a function before other definitions, where what stands behind its type has been read
pub one_function_more : {valued : Bool} {start here to : Rest} (old new : List RustFunction) (last : RustFunction) → new ≡ old ++ last ∷ [] → last.valued ≡ valued
    → Continues (definitions true) (behind_functions (functions old)) start here
    → ((count : ℕ) (behind : List Pending) → (now : ℕ) × Leads count (definitions true ∷ behind) here now (definitions true ∷ behind) to
    (λ g. (after_function (function_of valued (function last).name (function last).parameters (function last).items (function last).behind) g.0, g.1)))
    → Continues (definitions true) (behind_functions (functions new)) start to
one_function_more {valued} old new last pushed typed h r = λ count behind. (
  _,
  refilled (λ g. ap (λ v. (behind_functions (functions old) (after_function (function_of v (function last).name (function last).parameters (function last).items (function last).behind) g.0), g.1)) (sym typed)
      ∙ ap (λ l. (record { functions = l; void = g.0.void; items = g.0.items }, g.1)) (longer function old new last pushed g.0.functions))
      (over (h count behind).1 (r _ behind).1),
)

-- the loop of a tail
module _ (count levels : ℕ) (start : Rest) where
  pub tail_over : (now next : ℕ) (here inner to : Rest) (o : LinkOpening) (one : Link) (links more : List Link)
      → more ≡ links ++ one ∷ [] → ComesToTail count levels links start now here
      → ((behind : List Pending) → Leads now (a_tail levels ∷ behind) here (now + 1) (right_of levels o ∷ a_tail levels ∷ behind) inner (λ g. (further (link_of levels o g.0) g.1.0, g.1.1)))
      → ReadsRight (now + 1) levels o one inner next to → ComesToTail count levels more start next to
  tail_over now next here inner to o one links more pushed h step r = λ behind.
      refilled (λ trees. ap (λ t. (t, trees.1))
      (sym (ap (λ l. tail_of l trees.0) pushed ∙ tail_of-append links (one ∷ []) trees.0 ∙ ap (λ l. tail_of links (further l trees.0)) r.made)))
      (over (h behind) (over (step behind) (r.reads (a_tail levels ∷ behind))))

-- a link more in a list
pub one_link_more : (old new : List RustLink) (last : RustLink) → new ≡ old ++ last ∷ [] → links new ≡ links old ++ link last ∷ []
one_link_more old new last pushed = ap links pushed ∙ map-append link old (last ∷ [])
