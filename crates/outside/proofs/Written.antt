-- What a sink has taken of a text so far.
use Rattle.std.proofs.Common.{◌≡◌, ℕ, ◌≤◌, List, Option, ◌++◌, length, take, drop, sym, ap, subst, ◌∙◌, append_assoc, take-append-drop, arith, length-append}
use Rattle.std.specs.Io.KnownBytes.{Appends, Keeps}
use Rattle.std.proofs.KnownBytes.{Appends-trans, Appends-kept}
use lib.Seq.{take-append_seam}
use Rattle.outside.specs.Sink.{AppendsFront}

-- the text is a front that was taken with no fault, and the rest
pub record HasTaken (taken taken' : Option (List ℕ)) (faults faults' : ℕ) (text rest : List ℕ) : Type 0 where
  pub front : List ℕ
  pub splits : text ≡ front ++ rest
  pub appended : Appends taken taken' front
  pub stays : faults' ≡ faults

-- the next n bytes were taken
pub more_taken : {a b : Option (List ℕ)} {f g : ℕ} {text rest : List ℕ} (c : Option (List ℕ)) (h n : ℕ)
    → HasTaken a b f g text rest → Appends b c (take n rest) → h ≡ g → HasTaken a c f h text (drop n rest)
more_taken {a} {b} {f} {g} {text} {rest} c h n before next same = record {
  front = before.front ++ take n rest;
  splits = before.splits ∙ ap (λ l. before.front ++ l) (sym (take-append-drop n rest)) ∙ sym (append_assoc before.front (take n rest) (drop n rest));
  appended = Appends-trans a b c before.front (take n rest) before.appended next;
  stays = same ∙ before.stays;
}

-- what was taken is a front of the text
pub front_taken : {a b : Option (List ℕ)} {f g : ℕ} {text rest : List ℕ} (c : Option (List ℕ))
    → HasTaken a b f g text rest → Keeps b c → AppendsFront a c text
front_taken {a} {b} {f} {g} {text} {rest} c before kept =
    let front = before.front in
    let is_front : take (length front) text ≡ front = ap (take (length front)) before.splits ∙ take-append_seam front rest in
    let is_within : length front ≤ length text = omega (arith, ap length before.splits, length-append front rest) in
    (length front, is_within, subst (Appends a c) (sym is_front) (Appends-kept a b c front before.appended kept))
