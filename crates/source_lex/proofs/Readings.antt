-- A text is read in one way only: by its tokens, or up to its first fault.
use Rattle.std.proofs.Common.{◌≡◌, ℕ, List, [], ◌∷◌, refl, sym, subst}
use Rattle.source_lex.specs.Tokens.{TokensFrom}
use Rattle.source_lex.specs.Tokens.TokensFrom.{finish, gap, token}
use Rattle.source_lex.specs.Faults.{FaultFrom}
use Rattle.source_lex.specs.Faults.FaultFrom.{here, behind_gap, behind_token}
use Rattle.source_lex.specs.declared.fault.LexFault.{LexFault}
use Rattle.source_lex.specs.declared.token.Kind.{Kind}
use Rattle.source_lex.specs.declared.token.Token.{Token}
use Rattle.source_lex.proofs.Outcomes.{Outcome, Meets, one_outcome, meets-end, meets-gap, meets-token, meets-fault}
use Rattle.source_lex.proofs.Outcomes.Outcome.{over, passed, read, faulty}

-- nothing is read behind this
abbrev IsLast : Outcome → Type 0
IsLast over = Unit {0}
IsLast (passed _) = ⊥
IsLast (read _ _) = ⊥
IsLast (faulty _) = Unit {0}

-- from i on these tokens are read, and this comes last
data Reads (text : List ℕ) : ℕ → List Token → Outcome → Type 0 where
  stops : (i : ℕ) (o : Outcome) → Meets text i o → IsLast o → Reads text i [] o
  passes : (i j : ℕ) (tokens : List Token) (o : Outcome) → Meets text i (passed j) → Reads text j tokens o → Reads text i tokens o
  takes : (i j : ℕ) (kind : Kind) (tokens : List Token) (o : Outcome) → Meets text i (read j kind) → Reads text j tokens o → Reads text i (record { kind = kind; start = i; end = j } ∷ tokens) o

-- what comes last isn't passed over
passed_is_not_last : (o : Outcome) (j : ℕ) → o ≡ passed j → IsLast o → ⊥
passed_is_not_last o j e last = subst IsLast e last

read_is_not_last : (o : Outcome) (j : ℕ) (kind : Kind) → o ≡ read j kind → IsLast o → ⊥
read_is_not_last o j kind e last = subst IsLast e last

same_place : (j k : ℕ) → passed j ≡ passed k → j ≡ k
same_place j k e = cc

same_end : (j k : ℕ) (kind other : Kind) → read j kind ≡ read k other → j ≡ k
same_end j k kind other e = cc

same_kind : (j k : ℕ) (kind other : Kind) → read j kind ≡ read k other → kind ≡ other
same_kind j k kind other e = cc

-- a text is read in one way
reading_unique : (text : List ℕ) (i : ℕ) (ts us : List Token) (o p : Outcome) → Reads text i ts o → Reads text i us p → (ts ≡ us) × (o ≡ p)
reading_unique text i ts us o p (stops _ _ m last) (stops _ _ n final) = (refl, one_outcome text i o p m n)
reading_unique text i ts us o p (stops _ _ m last) (passes _ k _ _ n rest) = absurd (passed_is_not_last o k (one_outcome text i o (passed k) m n) last)
reading_unique text i ts us o p (stops _ _ m last) (takes _ k kind _ _ n rest) = absurd (read_is_not_last o k kind (one_outcome text i o (read k kind) m n) last)
reading_unique text i ts us o p (passes _ j _ _ m more) (stops _ _ n final) = absurd (passed_is_not_last p j (one_outcome text i p (passed j) n m) final)
reading_unique text i ts us o p (passes _ j _ _ m more) (passes _ k _ _ n rest) =
    let same = same_place k j (one_outcome text i (passed k) (passed j) n m) in
    reading_unique text j ts us o p more (subst (λ x. Reads text x us p) same rest)
reading_unique text i ts us o p (passes _ j _ _ m more) (takes _ k kind _ _ n rest) =
    let different : passed j ≡ read k kind = one_outcome text i (passed j) (read k kind) m n in absurd cc
reading_unique text i ts us o p (takes _ j kind _ _ m more) (stops _ _ n final) = absurd (read_is_not_last p j kind (one_outcome text i p (read j kind) n m) final)
reading_unique text i ts us o p (takes _ j kind _ _ m more) (passes _ k _ _ n rest) =
    let different : passed k ≡ read j kind = one_outcome text i (passed k) (read j kind) n m in absurd cc
reading_unique text i ts us o p (takes _ j kind tokens _ m more) (takes _ k other others _ n rest) =
    let e = one_outcome text i (read k other) (read j kind) n m in
    let ends = same_end k j other kind e in
    let kinds = same_kind k j other kind e in
    let behind = reading_unique text j tokens others o p more (subst (λ x. Reads text x others p) ends rest) in
    ((λ x. record { kind = sym kinds x; start = i; end = sym ends x } ∷ behind.0 x), behind.1)

reads-tokens : (text : List ℕ) (i : ℕ) (tokens : List Token) → TokensFrom text i tokens → Reads text i tokens over
reads-tokens text i tokens (finish _ e) = stops i over (meets-end text i e) tt
reads-tokens text i tokens (gap _ j _ g rest) = passes i j tokens over (meets-gap text i j g) (reads-tokens text j tokens rest)
reads-tokens text i tokens (token _ j kind others t rest) = takes i j kind others over (meets-token text i j kind t) (reads-tokens text j others rest)

-- up to its first fault a text has tokens too
reads-fault : (text : List ℕ) (fault : LexFault) (i : ℕ) → FaultFrom text fault i → (tokens : List Token) × Reads text i tokens (faulty fault)
reads-fault text fault i (here _ h) = ([], stops i (faulty fault) (meets-fault text i fault h) tt)
reads-fault text fault i (behind_gap _ j g rest) =
    let behind = reads-fault text fault j rest in (behind.0, passes i j behind.0 (faulty fault) (meets-gap text i j g) behind.1)
reads-fault text fault i (behind_token _ j kind t rest) =
    let behind = reads-fault text fault j rest in (record { kind = kind; start = i; end = j } ∷ behind.0, takes i j kind behind.0 (faulty fault) (meets-token text i j kind t) behind.1)

same_fault : (fault other : LexFault) → faulty fault ≡ faulty other → fault ≡ other
same_fault fault other e = cc

pub tokens_unique : (text : List ℕ) (i : ℕ) (tokens others : List Token) → TokensFrom text i tokens → TokensFrom text i others → tokens ≡ others
tokens_unique text i tokens others h k = (reading_unique text i tokens others over over (reads-tokens text i tokens h) (reads-tokens text i others k)).0

pub tokens_or_fault : (text : List ℕ) (i : ℕ) (tokens : List Token) (fault : LexFault) → TokensFrom text i tokens → FaultFrom text fault i → ⊥
tokens_or_fault text i tokens fault h k =
    let other = reads-fault text fault i k in
    let different : over ≡ faulty fault = (reading_unique text i tokens other.0 over (faulty fault) (reads-tokens text i tokens h) other.1).1 in
    cc

pub fault_unique : (text : List ℕ) (i : ℕ) (fault other : LexFault) → FaultFrom text fault i → FaultFrom text other i → fault ≡ other
fault_unique text i fault other h k =
    let one = reads-fault text fault i h in
    let two = reads-fault text other i k in
    same_fault fault other (reading_unique text i one.0 two.0 (faulty fault) (faulty other) one.1 two.1).1
