-- The place behind one byte more.
use Rattle.std.proofs.Common.{◌≡◌, ◌≢◌, zero, suc, ◌∙◌, ℕ, ◌+◌, ◌≤◌, ◌==◌, List, [], ◌∷◌, ◌++◌, Contains, length, filter, refl, sym, ap, inl, inr, ⊎_elim, arith}
use Rattle.std.proofs.lemmas.Bool.{ne_eqb}
use Rattle.std.proofs.lemmas.List.{append_assoc, append-nil, length-append}
use Rattle.std.proofs.lemmas.List.Elements.{Contains-append_cases, filter-append}
use Rattle.std.proofs.lemmas.List.Sums.{count_by-le-length, length-filter}
use Rattle.fault_words.specs.Places.{IsBehind, line_feeds}
use Rattle.fault_words.specs.declared.place.Place.{Place}

feeds_append : (front more : List ℕ) → line_feeds (front ++ more) ≡ line_feeds front + line_feeds more
feeds_append front more =
    ap length (filter-append (λ byte. byte == 10) front more) ∙ length-append (filter (λ byte. byte == 10) front) (filter (λ byte. byte == 10) more)

-- a line feed ends the line
pub behind_feed : (front : List ℕ) (place next : Place) → IsBehind front place → next.line ≡ place.line + 1 → next.column ≡ 1
    → IsBehind (front ++ 10 ∷ []) next
behind_feed front place next is lines columns = record {
  line = let old = is.line in let more = feeds_append front (10 ∷ []) in omega (arith, lines, old, more);
  column = (
    [],
    record {
      before = front ++ 10 ∷ [];
      ends = sym (append-nil (front ++ 10 ∷ []));
      begins = inr (front, refl);
      unbroken = λ at. let low = at.1 in omega (arith, low);
    },
    columns,
  );
}

only_one : (byte : ℕ) → byte ≢ 10 → Contains (byte ∷ []) 10 → ⊥
only_one byte other (zero, low, is) = other is
only_one byte other (suc k, low, is) = omega (arith, low)

-- no more line feeds than bytes
pub few_feeds : (front : List ℕ) → line_feeds front ≤ length front
few_feeds front = rw (length-filter (λ byte. byte == 10) front) (count_by-le-length (λ byte. byte == 10) front)

-- another byte is the line's next
pub behind_byte : (front : List ℕ) (byte : ℕ) (place next : Place) → byte ≢ 10 → IsBehind front place → next.line ≡ place.line → next.column ≡ place.column + 1
    → IsBehind (front ++ byte ∷ []) next
behind_byte front byte place next other is lines columns =
    let last = is.column.0 in let cut = is.column.1 in let old = is.column.2 in record {
      line = let before = is.line in let more = feeds_append front (byte ∷ []) in
          let none : line_feeds (byte ∷ []) ≡ 0 = rw (ne_eqb byte 10 other) refl in omega (arith, lines, before, more, none);
      column = (
        last ++ byte ∷ [],
        record {
          before = cut.before;
          ends = ap (λ part. part ++ byte ∷ []) cut.ends ∙ append_assoc cut.before last (byte ∷ []);
          begins = cut.begins;
          unbroken = λ at. ⊎_elim cut.unbroken (only_one byte other) (Contains-append_cases last (byte ∷ []) 10 at);
        },
        (let long = length-append last (byte ∷ []) in omega (arith, columns, old, long)),
      );
    }

-- the place behind a front has no number above one more than its length
pub line_bounded : (front : List ℕ) (place : Place) → IsBehind front place → place.line ≤ length front + 1
line_bounded front place is = let line = is.line in let few = few_feeds front in omega (arith, line, few)

pub column_bounded : (front : List ℕ) (place : Place) → IsBehind front place → place.column ≤ length front + 1
column_bounded front place is =
    let last = is.column.0 in let cut = is.column.1 in let column = is.column.2 in
    let long = ap length cut.ends ∙ length-append cut.before last in omega (arith, column, long)

-- before the first byte
pub behind_nothing : (place : Place) → place.line ≡ 1 → place.column ≡ 1 → IsBehind [] place
behind_nothing place line column = record {
  line = line;
  column = ([], record { before = []; ends = refl; begins = inl refl; unbroken = λ at. let low = at.1 in omega (arith, low) }, column);
}
