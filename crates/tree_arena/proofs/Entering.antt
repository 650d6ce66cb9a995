-- What the contracts of an arena say, of its tables.
use Rattle.std.proofs.Common.{rules, ◌≡◌, ◌∙◌, ℕ, zero, suc, ◌+◌, ◌<◌, ◌≤◌, inl, inr, List, [], ◌∷◌, ◌++◌, Some, map, length, slice_index_or, slice_get, refl, sym, ap, subst, arith}
use Rattle.std.specs.Map.{keys_of}
use Rattle.std.proofs.lemmas.Bool.{cases_lt}
use Rattle.std.proofs.lemmas.Map.Entries.{length-keys_of}
use Rattle.std.proofs.lemmas.Option.{same_Some}
use Rattle.decision_tree.specs.Plans.{Plan, bottom, branch}
use Rattle.tree_arena.specs.declared.node.End as leaves
use Rattle.tree_arena.specs.declared.node.Entry.{Entry}
use Rattle.tree_arena.specs.declared.node.Entry.TheVariants.{End as AtEnd}
use Rattle.tree_arena.specs.declared.node.RowKey.{RowKey}
use Rattle.tree_arena.specs.declared.node.TreeRef.{TreeRef}
use Rattle.tree_arena.specs.Noting.{IsNotedWith}
use Rattle.tree_arena.specs.Table.{AreFounded, AreKnown, HasSidesBelow, IsKnown, IsTable, Root, blank, root_of, roots_of, tree_of, trees_of}
use Rattle.tree_arena.specs.Trees.{AreClosed, AreDistinct, Extends, IsAt, IsThere, capped_size, tree_at}
use Rattle.tree_arena.proofs.Places.{StandOnce, below_get, get_there, there_get}
use Rattle.tree_arena.proofs.Roots.{known_at, known_more, known_push, map_at, map_length, map_push, roots_kept, same_entries}
use Rattle.tree_arena.proofs.Tables.{at_front, at_last, below_at, founded_push, length_front, length_more, node_there, same_place, shape_at, sides_below, standing, stands_at, tree_kept, trees_length, trees_push}

keys_push : {K X : Type 0} (es : List (K × X)) (e : K × X) → keys_of (es ++ e ∷ []) ≡ keys_of es ++ e.0 ∷ []
keys_push [] e = refl
keys_push (x ∷ es) e = ap (λ t. x.0 ∷ t) (keys_push es e)

key_there : {K X : Type 0} (es : List (K × X)) (i : ℕ) (e : K × X) (d : K) → slice_get es i ≡ Some e → slice_index_or (keys_of es) i d ≡ e.0
key_there [] i e d is = cc
key_there {K} {X} (x ∷ es) zero e d is = ap (λ (t : K × X). t.0) (same_Some x e is)
key_there (x ∷ es) (suc i) e d is = key_there es i e d is

-- the list goes on by nothing
pub same_list : {R : Type 0} (trees : List (Plan R)) → Extends trees trees
same_list trees = record { more = []; is = search rules }

no_entry : Entry
no_entry = AtEnd 0

module _ {R : Type 0} (rows : List RowKey) (ends : List (leaves.End R)) (entries : List (Entry × ℕ)) (table : IsTable rows ends entries)
    (one_row : StandOnce rows) (one_end : StandOnce ends) (one_entry : StandOnce (keys_of entries)) where
  abbrev keys : List Entry
  keys = keys_of entries

  abbrev roots : List (Root R)
  roots = roots_of rows ends keys

  abbrev trees : List (Plan R)
  trees = trees_of roots

  low_key : (i : ℕ) → i < length roots → i < length keys
  low_key i low = let l = map_length (root_of rows ends) keys in omega (arith, low, l)

  root_at : (i : ℕ) → i < length roots → slice_index_or roots i blank ≡ root_of rows ends (slice_index_or keys i no_entry)
  root_at i low = map_at (root_of rows ends) keys i no_entry blank (low_key i low)

  one : (i j : ℕ) → i < length roots → j < length roots → slice_index_or roots i blank ≡ slice_index_or roots j blank → i ≡ j
  one i j li lj e =
      let ki = low_key i li in
      let kj = low_key j lj in
      let same = same_entries rows ends one_row one_end (slice_index_or keys i no_entry) (slice_index_or keys j no_entry)
      (known_at (length rows) (length ends) keys i no_entry table.known ki) (known_at (length rows) (length ends) keys j no_entry table.known kj)
      (sym (root_at i li) ∙ e ∙ root_at j lj) in
      one_entry (slice_index_or keys j no_entry) i j (get_there keys i no_entry ki ∙ ap (λ (x : Entry). Some x) same) (get_there keys j no_entry kj)

  pub key_count : length trees ≡ length roots
  key_count = let l = trees_length [] roots in omega (arith, l)

  pub count : length trees ≡ length entries
  count = let l = key_count in let m = map_length (root_of rows ends) keys in let k = length-keys_of entries in omega (arith, l, m, k)

  pub distinct : AreDistinct trees
  distinct i j li lj e = same_place roots table.founded blank one (tree_at trees j) i j (subst (λ n. i < n) key_count li) (subst (λ n. j < n) key_count lj) e refl

  pub closed : AreClosed trees
  closed row this that there =
      let low : there.place < length roots = subst (λ n. there.place < n) key_count there.within in
      let x = shape_at roots table.founded blank one (branch row this that) there.place low there.tree in
      let b = below_at roots table.founded blank one there.place row x.0 x.1 low x.2 in (
        record { place = x.0; within = omega (arith, b.0, there.within); tree = x.3 },
        record { place = x.1; within = omega (arith, b.1, there.within); tree = x.4 },
      )

  pub size_at : (place : ℕ) (d : Entry × ℕ) → place < length trees → (slice_index_or entries place d).1 ≡ capped_size (tree_at trees place)
  size_at place d low = table.sizes place d (subst (λ n. place < n) count low)

  -- the node at a place
  pub shown : (entry : Entry) (size place : ℕ) → slice_get entries place ≡ Some (entry, size) → place < length trees
      → (tree_of trees (root_of rows ends entry) ≡ tree_at trees place) × HasSidesBelow place (root_of rows ends entry) × IsKnown (length rows) (length ends) entry
  shown entry size place is low =
      let within : place < length roots = subst (λ n. place < n) key_count low in
      let key : slice_index_or keys place no_entry ≡ entry = key_there entries place (entry, size) no_entry is in
      let here : slice_index_or roots place blank ≡ root_of rows ends entry = root_at place within ∙ ap (λ e. root_of rows ends e) key in
      let same : 0 + place ≡ place = omega arith in (
        ap (λ e. tree_of trees e) (sym here) ∙ sym (stands_at roots table.founded blank one place within),
        subst (λ e. HasSidesBelow place e) here (subst (λ n. HasSidesBelow n (slice_index_or roots place blank)) same (sides_below 0 roots place blank table.founded within)),
        subst (λ e. IsKnown (length rows) (length ends) e) key (known_at (length rows) (length ends) keys place no_entry table.known (low_key place within)),
      )

  -- ---- with more rows and leaves

  module _ (more : List RowKey) (others : List (leaves.End R)) where
    longer_rows : length rows ≤ length (rows ++ more)
    longer_rows = length_front rows more

    longer_ends : length ends ≤ length (ends ++ others)
    longer_ends = length_front ends others

    pub same_roots : roots_of (rows ++ more) (ends ++ others) keys ≡ roots
    same_roots = roots_kept rows more ends others keys table.known

    pub table_grown : IsTable (rows ++ more) (ends ++ others) entries
    table_grown = record {
      known = known_more (length rows) (length ends) (length (rows ++ more)) (length (ends ++ others)) keys longer_rows longer_ends table.known;
      founded = subst (λ (rs : List (Root R)). AreFounded 0 rs) (sym same_roots) table.founded;
      sizes = λ i d low. subst (λ (rs : List (Root R)). (slice_index_or entries i d).1 ≡ capped_size (tree_at (trees_of rs) i)) (sym same_roots) (table.sizes i d low);
    }

-- ---- a node more

module _ {R : Type 0} (rows : List RowKey) (ends : List (leaves.End R)) (entries : List (Entry × ℕ)) (table : IsTable rows ends entries)
    (one_row : StandOnce rows) (one_end : StandOnce ends) (one_entry : StandOnce (keys_of entries))
    (entry : Entry) (size : ℕ) (known : IsKnown (length rows) (length ends) entry)
    (below : HasSidesBelow (length (trees_of (roots_of rows ends (keys_of entries)))) (root_of rows ends entry))
    (is_size : size ≡ capped_size (tree_of (trees_of (roots_of rows ends (keys_of entries))) (root_of rows ends entry))) where
  abbrev old_trees : List (Plan R)
  old_trees = trees_of (roots_of rows ends (keys_of entries))

  abbrev root : Root R
  root = root_of rows ends entry

  abbrev longer : List (Entry × ℕ)
  longer = entries ++ (entry, size) ∷ []

  keys_longer : keys_of longer ≡ keys_of entries ++ entry ∷ []
  keys_longer = keys_push entries (entry, size)

  roots_longer : roots_of rows ends (keys_of longer) ≡ roots_of rows ends (keys_of entries) ++ root ∷ []
  roots_longer = ap (λ (ks : List Entry). roots_of rows ends ks) keys_longer ∙ map_push (root_of rows ends) (keys_of entries) entry

  trees_longer : trees_of (roots_of rows ends (keys_of longer)) ≡ old_trees ++ tree_of old_trees root ∷ []
  trees_longer = ap (λ (rs : List (Root R)). trees_of rs) roots_longer ∙ trees_push [] (roots_of rows ends (keys_of entries)) root

  table_longer : IsTable rows ends longer
  table_longer = record {
    known = subst (λ (ks : List Entry). AreKnown (length rows) (length ends) ks) (sym keys_longer) (known_push (length rows) (length ends) (keys_of entries) entry table.known known);
    founded = subst (λ (rs : List (Root R)). AreFounded 0 rs) (sym roots_longer)
        (founded_push 0 (roots_of rows ends (keys_of entries)) root table.founded (subst (λ n. HasSidesBelow n root) zero_more below));
    sizes = λ i d low. subst (λ (ts : List (Plan R)). (slice_index_or longer i d).1 ≡ capped_size (tree_at ts i)) (sym trees_longer) (size_by i d low);
  }
    where
      zero_more : length old_trees ≡ 0 + length (roots_of rows ends (keys_of entries))
      zero_more = let k = key_count rows ends entries table one_row one_end one_entry in omega (arith, k)

      size_by : (i : ℕ) (d : Entry × ℕ) → i < length longer → (slice_index_or longer i d).1 ≡ capped_size (tree_at (old_trees ++ tree_of old_trees root ∷ []) i)
      size_by i d low = elim (cases_lt i (length entries)) [
        | inl front ↦ ap (λ (e : Entry × ℕ). e.1) (at_front entries ((entry, size) ∷ []) i d front) ∙ table.sizes i d front
            ∙ ap capped_size (sym (at_front old_trees (tree_of old_trees root ∷ []) i bottom (let k = count rows ends entries table one_row one_end one_entry in omega (arith, k, front))))
        | inr behind ↦
            let l = length_more entries (entry, size) in
            let here : i ≡ length entries = omega (arith, l, behind, low) in
            ap (λ n. (slice_index_or longer n d).1) here ∙ ap (λ (e : Entry × ℕ). e.1) (at_last entries (entry, size) d) ∙ is_size
            ∙ ap capped_size (sym (at_last old_trees (tree_of old_trees root) bottom))
            ∙ ap (λ n. capped_size (tree_at (old_trees ++ tree_of old_trees root ∷ []) n)) (count rows ends entries table one_row one_end one_entry ∙ sym here)
      ]

  module _ (new : List (Entry × ℕ)) (place : ℕ) (noted : IsNotedWith entries new entry size place) where
    abbrev new_trees : List (Plan R)
    new_trees = trees_of (roots_of rows ends (keys_of new))

    pub table_noted : IsTable rows ends new
    table_noted = elim noted.list [
      | inl same ↦ subst (λ (es : List (Entry × ℕ)). IsTable rows ends es) (sym same) table
      | inr more ↦ subst (λ (es : List (Entry × ℕ)). IsTable rows ends es) (sym more.1) table_longer
    ]

    pub extends : Extends old_trees new_trees
    extends = elim noted.list [
      | inl same ↦ subst (λ (es : List (Entry × ℕ)). Extends old_trees (trees_of (roots_of rows ends (keys_of es)))) (sym same) (same_list old_trees)
      | inr more ↦ subst (λ (es : List (Entry × ℕ)). Extends old_trees (trees_of (roots_of rows ends (keys_of es)))) (sym more.1)
          (record { more = tree_of old_trees root ∷ []; is = trees_longer })
    ]

    pub entered : IsAt new_trees (record { place = place }) (tree_of old_trees root)
    entered =
        let goes = extends in
        let low : place < length (keys_of new) = below_get (keys_of new) place entry noted.at in
        let within : place < length (roots_of rows ends (keys_of new)) = let l = map_length (root_of rows ends) (keys_of new) in omega (arith, l, low) in
        let key : slice_index_or (keys_of new) place no_entry ≡ entry = there_get (keys_of new) place entry no_entry noted.at in
        let here : slice_index_or (roots_of rows ends (keys_of new)) place blank ≡ root =
        map_at (root_of rows ends) (keys_of new) place no_entry blank low ∙ ap (λ e. root_of rows ends e) key in
        let stands = standing (roots_of rows ends (keys_of new)) table_noted.founded place within in
        let kept : tree_of new_trees root ≡ tree_of old_trees root = ap (λ (ts : List (Plan R)). tree_of ts root) goes.is ∙ tree_kept old_trees goes.more root below in
        record {
          within = let l = trees_length [] (roots_of rows ends (keys_of new)) in omega (arith, l, within);
          tree = stands ∙ ap (λ e. tree_of new_trees e) here ∙ kept;
        }

    -- a tree that is there has its node there
    pub there : IsThere old_trees (tree_of old_trees root) → new_trees ≡ old_trees
    there at = elim noted.list [
      | inl same ↦ ap (λ (es : List (Entry × ℕ)). trees_of (roots_of rows ends (keys_of es))) same
      | inr more ↦ absurd (more.0 at.place (node_stands at))
    ]
      where
        node_stands : (at : IsThere old_trees (tree_of old_trees root)) → slice_get (keys_of entries) at.place ≡ Some entry
        node_stands at =
            let c = key_count rows ends entries table one_row one_end one_entry in
            let low : at.place < length (roots_of rows ends (keys_of entries)) = subst (λ n. at.place < n) c at.within in
            let is = node_there (roots_of rows ends (keys_of entries)) table.founded blank (one rows ends entries table one_row one_end one_entry) root at.place
            (subst (λ n. HasSidesBelow n root) c below) low at.tree in
            let key_low = low_key rows ends entries table one_row one_end one_entry at.place low in
            let same = same_entries rows ends one_row one_end (slice_index_or (keys_of entries) at.place no_entry) entry
            (known_at (length rows) (length ends) (keys_of entries) at.place no_entry table.known key_low) known
            (sym (root_at rows ends entries table one_row one_end one_entry at.place low) ∙ is) in
            get_there (keys_of entries) at.place no_entry key_low ∙ ap (λ (e : Entry). Some e) same

-- ---- references

-- a reference keeps its tree
pub at_kept : {R : Type 0} (old new : List (Plan R)) (at : TreeRef) (plan : Plan R) → Extends old new → IsAt old at plan → IsAt new at plan
at_kept old new at plan goes is =
    subst (λ ts. IsAt ts at plan) (sym goes.is) (record {
      within = let l = length_front old goes.more in let low = is.within in omega (arith, l, low);
      tree = at_front old goes.more at.place bottom is.within ∙ is.tree;
    })

-- a value at its place
pub value_there : {K : Type 0} (es : List (K × ℕ)) (i v : ℕ) (d : K × ℕ) → slice_get (map (λ (e : K × ℕ). e.1) es) i ≡ Some v → (slice_index_or es i d).1 ≡ v
value_there [] i v d is = cc
value_there (e ∷ es) zero v d is = same_Some e.1 v is
value_there (e ∷ es) (suc i) v d is = value_there es i v d is
