-- What stays of a buffer over several calls, and what they add to it.
use Rattle.std.proofs.Common.{◌≡◌, ℕ, cond, List, [], ◌++◌, Result, Ok, Err, OnOk, is_ok, sym, ap, ◌∙◌, append_assoc}
use Rattle.std.proofs.lemmas.List.{append-nil}
use Rattle.std.proofs.lemmas.Result.{on_ok_weaker}
use Rattle.line_text.specs.Buffer.{BeginsWith}

-- what began with the old bytes still does after one more call
pub kept_after : {now then old : List ℕ} → BeginsWith then old → BeginsWith now then → BeginsWith now old
kept_after {now} {then} {old} first second = record {
  more = first.more ++ second.more;
  is = second.is ∙ (ap (λ t. t ++ second.more) first.is ∙ append_assoc old first.more second.more);
}

pub kept_added : (now old added : List ℕ) → now ≡ old ++ added → BeginsWith now old
kept_added now old added e = record { more = added; is = e }

-- so does a buffer to which a call may have added bytes
pub kept_extended : {X Y : Type 0} (now old added : List ℕ) (r : Result X Y) → now ≡ cond (is_ok r) (old ++ added) old → BeginsWith now old
kept_extended now old added (Ok x) e = record { more = added; is = e }
kept_extended now old added (Err y) e = record { more = []; is = e ∙ sym (append-nil old) }

-- two calls add one text behind the other
pub added_after :
    {X Y : Type 0} (r : Result X Y) (now then old one other : List ℕ) → then ≡ old ++ one → OnOk r (now ≡ then ++ other)
    → OnOk r (now ≡ old ++ (one ++ other))
added_after r now then old one other e = on_ok_weaker r (λ f. f ∙ (ap (λ t. t ++ other) e ∙ append_assoc old one other))

pub added_extended :
    {X Y : Type 0} (r : Result X Y) (now then old one other : List ℕ) → then ≡ old ++ one → now ≡ cond (is_ok r) (then ++ other) then
    → OnOk r (now ≡ old ++ (one ++ other))
added_extended (Ok x) now then old one other e f = f ∙ (ap (λ t. t ++ other) e ∙ append_assoc old one other)
added_extended (Err y) now then old one other e f = tt
