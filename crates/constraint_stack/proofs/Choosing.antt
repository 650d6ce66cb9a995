-- The alternatives of a claim: their rows are added one after the other.
use Rattle.std.proofs.Common.{◌≡◌, ◌↔◌, ℤ, ℕ, ◌+◌, ◌<◌, Bool, true, false, List, [], ◌∷◌, ◌++◌, length, map, take, drop, get_or, All, Contains, Option, None, Some, Result, Ok, Err, refl, sym, ap, subst, ◌∙◌, arith}
use Rattle.std.proofs.lemmas.List.{append_assoc, append-nil, map-append, take-append-drop}
use Rattle.std.proofs.lemmas.List.Elements.{All-cons, All-head, All-nil, All-tail, Contains-append_left}
use Rattle.linear_cons.specs.declared.exact.Wide.{Wide}
use Rattle.linear_cons.specs.declared.row.Row.{Row}
use Rattle.linear_cons.specs.declared.row.RowKind.{RowKind}
use Rattle.linear_cons.specs.declared.row.RowKind.TheVariants.{Always, Never, Row as Kept}
use Rattle.linear_cons.specs.Rows.{MeetsKind}
use Rattle.linear_solve.proofs.Lists.{all_of, behind, in_map, member_of, take_snoc}
use Rattle.decision_tree.specs.Alternatives.{Alternatives, MeetsAny, lists_behind, lists_of, rows_of}
use Rattle.decision_tree.specs.declared.rank.Rank.{Ghosts as Ranks}
use Rattle.constraint_stack.specs.declared.claim.Asked.{Asked}
use Rattle.constraint_stack.specs.declared.claim.Asked.TheVariants.{Greater, Negative}
use Rattle.decision_tree.specs.declared.rank.Comparison.{Comparison}
use Rattle.decision_tree.proofs.Comparing.{some_parts}
use Rattle.constraint_stack.specs.declared.finding.Finding.{Finding}
use Rattle.constraint_stack.specs.declared.stack.ConstraintStack.{ConstraintStack}
use Rattle.constraint_stack.specs.Stacks.{Adds, Held, IsMetNowhere, IsTried, Item, Refutes, all_chosen, chosen, first_of, is_there, kind_of, kinds, restored}
use Rattle.constraint_stack.specs.Searches.{IsSame, IsTriedWith, alternatives_of}
use Rattle.constraint_stack.proofs.Holding.{held_more, nowhere_added}

-- what is met nowhere isn't met with more besides
pub nowhere_with : (items more : List Item) → IsMetNowhere items → IsMetNowhere (items ++ more)
nowhere_with items more none store met =
    none store (all_of (λ (kind : RowKind). MeetsKind store kind) (kinds items) (λ kind member. member_of (λ (kind : RowKind). MeetsKind store kind) (kinds (items ++ more)) kind met
    (subst (λ all. Contains all kind) (sym (map-append kind_of items more)) (Contains-append_left (kinds items) (kinds more) kind member))))

-- ---- rows behind those of a stack

take_longer : (old mid more : List Row) → take (length old) mid ≡ old → take (length old) (mid ++ more) ≡ old
take_longer [] mid more is = refl
take_longer (x ∷ old) [] more is = absurd (cc)
take_longer (x ∷ old) (y ∷ mid) more is =
    let head : y ≡ x = cc in
    let tail : take (length old) mid ≡ old = cc in
    rw head (ap (λ rest. x ∷ rest) (take_longer old mid more tail))

restored_first : (old mid : Option Wide) (w : Wide) → restored (is_there old) mid ≡ old → restored (is_there old) (first_of mid w) ≡ old
restored_first None mid w is = refl
restored_first (Some o) None w is = absurd (cc)
restored_first (Some o) (Some m) w is = is

pub rows_longer : (old mid new : List Row) (formed : Result RowKind Wide) (wide wider : Option Wide) (added : Bool) → take (length old) mid ≡ old → Adds formed mid wide added new wider → take (length old) new ≡ old
rows_longer old mid new (Ok Always) wide wider added is adds = rw adds.1 is
rows_longer old mid new (Ok Never) wide wider added is adds = rw adds.1 is
rows_longer old mid new (Ok (Kept row)) wide wider true is adds = rw adds.0 (take_longer old mid (row ∷ []) is)
rows_longer old mid new (Ok (Kept row)) wide wider false is adds = rw adds.1 is
rows_longer old mid new (Err w) wide wider added is adds = rw adds.1 is

pub wide_longer : (old mid new : Option Wide) (formed : Result RowKind Wide) (rows more : List Row) (added : Bool) → restored (is_there old) mid ≡ old → Adds formed rows mid added more new → restored (is_there old) new ≡ old
wide_longer old mid new (Ok Always) rows more added is adds = rw adds.2 is
wide_longer old mid new (Ok Never) rows more added is adds = rw adds.2 is
wide_longer old mid new (Ok (Kept row)) rows more true is adds = rw adds.1 is
wide_longer old mid new (Ok (Kept row)) rows more false is adds = rw adds.2 is
wide_longer old mid new (Err w) rows more added is adds = rw adds.2 (restored_first old mid w is)

-- ---- constraints in order

chosen_more : (items : List Item) (front : List RowKind) (kind : RowKind) → items ++ all_chosen (front ++ kind ∷ []) ≡ (items ++ all_chosen front) ++ chosen kind ∷ []
chosen_more items front kind = ap (λ rest. items ++ rest) (map-append (λ kind. chosen kind) front (kind ∷ [])) ∙ sym (append_assoc items (all_chosen front) (chosen kind ∷ []))

-- those up to the next
chosen_up_to : (items : List Item) (kinds : List RowKind) (i : ℕ) (kind : RowKind) → i < length kinds → kind ≡ get_or kinds i kind → items ++ all_chosen (take (i + 1) kinds) ≡ (items ++ all_chosen (take i kinds)) ++ chosen kind ∷ []
chosen_up_to items kinds i kind low is = ap (λ rest. items ++ all_chosen rest) (take_snoc kinds i kind low is) ∙ chosen_more items (take i kinds) kind

pub chosen_some : (items : List Item) (kinds : List RowKind) (i : ℕ) (kind : RowKind) (rows new : List Row) (wide wider : Option Wide) → i < length kinds → kind ≡ get_or kinds i kind → Held (items ++ all_chosen (take i kinds)) rows wide → Adds (Ok kind) rows wide true new wider → Held (items ++ all_chosen (take (i + 1) kinds)) new wider
chosen_some items kinds i kind rows new wide wider low is held adds =
    subst (λ all. Held all new wider) (sym (chosen_up_to items kinds i kind low is)) (held_more (items ++ all_chosen (take i kinds)) rows wide (chosen kind) (Ok kind) new wider held (refl, refl) adds)

-- behind one constraint more, and behind all
chosen_behind : (items : List Item) (first second : List RowKind) → items ++ all_chosen (first ++ second) ≡ (items ++ all_chosen first) ++ all_chosen second
chosen_behind items first second = ap (λ rest. items ++ rest) (map-append (λ kind. chosen kind) first second) ∙ sym (append_assoc items (all_chosen first) (all_chosen second))

-- all are met nowhere where those up to one aren't
pub chosen_nowhere : (items : List Item) (kinds : List RowKind) (i : ℕ) (kind : RowKind) (rows new : List Row) (wide wider : Option Wide) → i < length kinds → kind ≡ get_or kinds i kind → Held (items ++ all_chosen (take i kinds)) rows wide → Adds (Ok kind) rows wide false new wider → IsMetNowhere (items ++ all_chosen kinds)
chosen_nowhere items kinds i kind rows new wide wider low is held adds =
    let front : IsMetNowhere (items ++ all_chosen (take (i + 1) kinds)) =
    subst IsMetNowhere (sym (chosen_up_to items kinds i kind low is)) (nowhere_added (items ++ all_chosen (take i kinds)) rows wide (chosen kind) (Ok kind) new wider held (refl, refl) adds)
    in
    let whole : items ++ all_chosen kinds ≡ (items ++ all_chosen (take (i + 1) kinds)) ++ all_chosen (drop (i + 1) kinds) =
    ap (λ rest. items ++ all_chosen rest) (sym (take-append-drop (i + 1) kinds)) ∙ chosen_behind items (take (i + 1) kinds) (drop (i + 1) kinds)
    in
    subst IsMetNowhere (sym whole) (nowhere_with (items ++ all_chosen (take (i + 1) kinds)) (all_chosen (drop (i + 1) kinds)) front)

pub chosen_one : (items : List Item) (kind : RowKind) (rows new : List Row) (wide wider : Option Wide) → Held items rows wide → Adds (Ok kind) rows wide true new wider → Held (items ++ all_chosen (kind ∷ [])) new wider
chosen_one items kind rows new wide wider held adds = held_more items rows wide (chosen kind) (Ok kind) new wider held (refl, refl) adds

pub one_nowhere : (items : List Item) (kind : RowKind) (rows new : List Row) (wide wider : Option Wide) → Held items rows wide → Adds (Ok kind) rows wide false new wider → IsMetNowhere (items ++ all_chosen (kind ∷ []))
one_nowhere items kind rows new wide wider held adds = nowhere_added items rows wide (chosen kind) (Ok kind) new wider held (refl, refl) adds

-- nothing is chosen
pub none_chosen : (items : List Item) → items ≡ items ++ all_chosen []
none_chosen items = sym (append-nil items)

-- ---- the alternatives part by part

-- the lists behind constraints are the lists with these in front
lists_in_front : (first second : List RowKind) (rest : Alternatives) → lists_behind (first ++ second) rest ≡ map (λ choice. first ++ choice) (lists_behind second rest)
lists_in_front first second [] = refl
lists_in_front first second (part ∷ rest) =
    rw (append_assoc first second (part.more ∷ []), append_assoc first second (rows_of part.same)) (ap (λ lists. (first ++ (second ++ part.more ∷ [])) ∷ lists) (lists_in_front first (second ++ rows_of part.same) rest))

lists_with : (same : List RowKind) (rest : Alternatives) → lists_behind same rest ≡ map (λ choice. same ++ choice) (lists_of rest)
lists_with same rest = ap (λ t. lists_behind t rest) (sym (append-nil same)) ∙ lists_in_front same [] rest

-- what is tried behind constraints is tried of the lists behind them
all_behind : (items : List Item) (same : List RowKind) (lists : List (List RowKind)) → All (λ choice. IsMetNowhere ((items ++ all_chosen same) ++ all_chosen choice)) lists
    → All (λ choice. IsMetNowhere (items ++ all_chosen choice)) (map (λ choice. same ++ choice) lists)
all_behind items same [] none = All-nil (λ (choice : List RowKind). IsMetNowhere (items ++ all_chosen choice))
all_behind items same (choice ∷ lists) none =
    All-cons (λ (choice : List RowKind). IsMetNowhere (items ++ all_chosen choice)) (same ++ choice) (map (λ choice. same ++ choice) lists)
    (subst IsMetNowhere (sym (chosen_behind items same choice)) (All-head (λ (choice : List RowKind). IsMetNowhere ((items ++ all_chosen same) ++ all_chosen choice)) choice lists none))
    (all_behind items same lists (All-tail (λ (choice : List RowKind). IsMetNowhere ((items ++ all_chosen same) ++ all_chosen choice)) choice lists none))

tried_map : (items : List Item) (same : List RowKind) (lists : List (List RowKind)) (edge : ℕ) (refuted : Bool) (found : Option Finding)
    → IsTriedWith (items ++ all_chosen same) lists edge refuted found → IsTriedWith items (map (λ choice. same ++ choice) lists) edge refuted found
tried_map items same lists edge true None tried = tried
tried_map items same lists edge true (Some f) tried = (
  tried.0,
  (
    same ++ tried.1.0,
    in_map (λ choice. same ++ choice) lists tried.1.0 tried.1.1,
    subst (λ all. Refutes all f.reason) (sym (chosen_behind items same tried.1.0)) tried.1.2,
  ),
)
tried_map items same lists edge false found none = all_behind items same lists none

-- no alternative holds behind constraints that are met nowhere
nowhere_behind : (items : List Item) (same : List RowKind) (rest : Alternatives) → IsMetNowhere (items ++ all_chosen same)
    → All (λ choice. IsMetNowhere (items ++ all_chosen choice)) (lists_behind same rest)
nowhere_behind items same rest none =
    subst (λ lists. All (λ choice. IsMetNowhere (items ++ all_chosen choice)) lists) (sym (lists_with same rest))
    (all_behind items same (lists_of rest) (all_of (λ (choice : List RowKind). IsMetNowhere ((items ++ all_chosen same) ++ all_chosen choice)) (lists_of rest)
    (λ choice member. nowhere_with (items ++ all_chosen same) (all_chosen choice) none)))

-- a first part and what follows: the first one gave a reason
pub first_tried : (items : List Item) (part : Comparison) (rest : Alternatives) (edge : ℕ) (found : Option Finding) → IsTried (items ++ all_chosen (part.more ∷ [])) edge true found
    → IsTriedWith items (lists_of (part ∷ rest)) edge true found
first_tried items part rest edge None tried = tried
first_tried items part rest edge (Some f) tried = (tried.0, (part.more ∷ [], (0, omega arith, refl), tried.1))

-- it gave none, and no store is left behind it
pub rest_nowhere : (items : List Item) (part : Comparison) (rest : Alternatives) (edge : ℕ) (found : Option Finding) → IsMetNowhere (items ++ all_chosen (part.more ∷ []))
    → IsMetNowhere (items ++ all_chosen (rows_of part.same)) → IsTriedWith items (lists_of (part ∷ rest)) edge false found
rest_nowhere items part rest edge found first none =
    All-cons (λ (choice : List RowKind). IsMetNowhere (items ++ all_chosen choice)) (part.more ∷ []) (lists_behind (rows_of part.same) rest) first
    (nowhere_behind items (rows_of part.same) rest none)

-- it is the last one
pub last_nowhere : (items : List Item) (part : Comparison) (edge : ℕ) (found : Option Finding) → IsMetNowhere (items ++ all_chosen (part.more ∷ []))
    → IsTriedWith items (lists_of (part ∷ [])) edge false found
last_nowhere items part edge found first =
    All-cons (λ (choice : List RowKind). IsMetNowhere (items ++ all_chosen choice)) (part.more ∷ []) [] first (All-nil (λ (choice : List RowKind). IsMetNowhere (items ++ all_chosen choice)))

-- what follows was tried behind it
pub rest_tried : (items : List Item) (part : Comparison) (rest : Alternatives) (edge : ℕ) (refuted : Bool) (found : Option Finding) → IsMetNowhere (items ++ all_chosen (part.more ∷ []))
    → IsTriedWith (items ++ all_chosen (rows_of part.same)) (lists_of rest) edge refuted found → IsTriedWith items (lists_of (part ∷ rest)) edge refuted found
rest_tried items part rest edge true None first tried = tried
rest_tried items part rest edge true (Some f) first tried =
    let found_in = subst (λ lists. IsTriedWith items lists edge true (Some f)) (sym (lists_with (rows_of part.same) rest)) (tried_map items (rows_of part.same) (lists_of rest) edge true (Some f) tried) in
    (found_in.0, (found_in.1.0, behind (lists_behind (rows_of part.same) rest) (part.more ∷ []) found_in.1.0 found_in.1.1, found_in.1.2))
rest_tried items part rest edge false found first tried =
    All-cons (λ (choice : List RowKind). IsMetNowhere (items ++ all_chosen choice)) (part.more ∷ []) (lists_behind (rows_of part.same) rest) first
    (subst (λ lists. All (λ choice. IsMetNowhere (items ++ all_chosen choice)) lists) (sym (lists_with (rows_of part.same) rest)) (all_behind items (rows_of part.same) (lists_of rest) tried))

-- what holds of stacks that are the same
pub held_same : (items : List Item) (old new : ConstraintStack) → IsSame old new → Held items old.rows old.wide → Held items new.rows new.wide
held_same items old new same held = subst (λ rows. Held items rows new.wide) (sym same.0) (subst (λ wide. Held items old.rows wide) (sym same.1) held)

-- ---- what is asked of ranks has as many alternatives as ranks have parts, and some

module _ {R : Type 0} (ranks : Ranks R)
    (greater_length : (rank other : R) → length (ranks.where_greater rank other) ≡ ranks.PARTS)
    (negative_length : (rank : R) → length (ranks.where_negative rank) ≡ ranks.PARTS) where
  pub as_many : (asked : Asked R) → length (alternatives_of ranks asked) ≡ ranks.PARTS
  as_many (Negative rank) = negative_length rank.now
  as_many (Greater rank other) = greater_length rank.now other.now

  module _
      (more : (rank : R) (store : List ℤ) → ranks.exceeds (ranks.rank_value (ranks.one_more rank) store) (ranks.rank_value rank store))
      (greater : (rank other : R) (store : List ℤ) → MeetsAny store (ranks.where_greater rank other)
      ↔ ranks.exceeds (ranks.rank_value rank store) (ranks.rank_value other store)) where
    pub asked_parts : Asked R → 0 < ranks.PARTS
    asked_parts (Negative rank) = some_parts ranks greater_length more greater rank.now
    asked_parts (Greater rank other) = some_parts ranks greater_length more greater rank.now
