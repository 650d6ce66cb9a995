-- Chains of links.
use Rattle.std.proofs.Common.{◌≡◌, List, [], ◌∷◌, ◌++◌, map, refl, sym, ap, ◌∙◌}
use Rattle.std.proofs.lemmas.List.{map-append}
use Rattle.concrete_syntax.specs.declared.expression.Link.{Link}
use Rattle.concrete_syntax.specs.declared.expression.Tail.{Tail}
use Rattle.concrete_syntax.specs.declared.statement.Item.{Item}
use Rattle.concrete_syntax.specs.Trees as tree
use Rattle.concrete_syntax.specs.Trees.{further, declaration, statement}
use Rattle.concrete_syntax.specs.Chains as chain
use Rattle.concrete_syntax.specs.Chains.{tail_of, declared, stated, items_of}
use Rattle.concrete_syntax.specs.Mirror.{tail, link, links, item}

pub tail_of-append : (xs ys : List tree.Link) (rest : tree.Tail) → tail_of (xs ++ ys) rest ≡ tail_of xs (tail_of ys rest)
tail_of-append [] ys rest = refl
tail_of-append (x ∷ xs) ys rest = ap (further x) (tail_of-append xs ys rest)

pub items_of-append : (xs ys : List chain.Item) (rest : tree.Items) → items_of (xs ++ ys) rest ≡ items_of xs (items_of ys rest)
items_of-append [] ys rest = refl
items_of-append (declared d ∷ xs) ys rest = ap (declaration d) (items_of-append xs ys rest)
items_of-append (stated s ∷ xs) ys rest = ap (statement s) (items_of-append xs ys rest)

-- a list's last link or item, before the chain of what stands behind
pub last_link : (old new : List Link) (last : Link) (made was : Tail) (all : tree.Tail) → all ≡ tail_of (links old) (tail made)
    → old ≡ new ++ last ∷ [] → was ≡ made → all ≡ tail_of (links new) (further (link last) (tail was))
last_link old new last made was all so_far parted kept =
    so_far ∙ ap (λ list. tail_of (links list) (tail made)) parted
    ∙ ap (λ list. tail_of list (tail made)) (map-append link new (last ∷ []))
    ∙ tail_of-append (links new) (link last ∷ []) (tail made)
    ∙ ap (λ x. tail_of (links new) (further (link last) (tail x))) (sym kept)

pub last_item : (old new : List Item) (last : Item) (made all behind : tree.Items) → all ≡ items_of (map item old) behind
    → old ≡ new ++ last ∷ [] → made ≡ items_of (item last ∷ []) behind → all ≡ items_of (map item new) made
last_item old new last made all behind so_far parted first =
    so_far ∙ ap (λ list. items_of (map item list) behind) parted
    ∙ ap (λ list. items_of list behind) (map-append item new (last ∷ []))
    ∙ items_of-append (map item new) (item last ∷ []) behind
    ∙ ap (items_of (map item new)) (sym first)
