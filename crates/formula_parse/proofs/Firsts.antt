-- A formula whose atoms fit has none that doesn't, and no formula has two first ones.
use Rattle.std.proofs.Common.{◌≡◌, ◌⊎◌, inl, inr, ℕ, ◌≤◌, ◌<◌, List, None, Some, sym, ◌∙◌, subst}
use Rattle.formula_syntax.specs.Trees.{Part, prefixed, quantified, truth, exit, compared, grouped, Chain, done, joined, Formula}
use Rattle.formula_parse.specs.Faults.{PartFits, ChainFits, AllFit, BreaksPart, BreaksChain, BreaksAt, unknown_in}
use Rattle.formula_parse.specs.FaultOf.{FirstIsUnknown, FirstIsAtom}

module _ (names : List (List ℕ)) where
  mutual
    part_fits : (f : Part) (at : ℕ) → PartFits names f → BreaksPart names f at → ⊥
    part_fits (prefixed p f) at h k = part_fits f at h k
    part_fits (quantified all f c weak g d) at h k = elim k [
      | inl one ↦ elim one [ inl e ↦ part_fits f at h.0.0 e | inr e ↦ chain_fits c at h.0.1 e.1 ]
      | inr two ↦ elim two.1 [ inl e ↦ part_fits g at h.1.0 e | inr e ↦ chain_fits d at h.1.1 e.1 ]
    ]
    part_fits (truth b) at h k = k
    part_fits exit at h k = k
    part_fits (compared left c right) at h k = k.1 h
    part_fits (grouped m f c) at h k = elim k [ inl e ↦ part_fits f at h.0 e | inr e ↦ chain_fits c at h.1 e.1 ]

    chain_fits : (c : Chain) (at : ℕ) → ChainFits names c → BreaksChain names c at → ⊥
    chain_fits done at h k = k
    chain_fits (joined connective f more) at h k = elim k [ inl e ↦ part_fits f at h.0 e | inr e ↦ chain_fits more at h.1 e.1 ]

  pub all_fit : (f : Formula) (at : ℕ) → AllFit names f → BreaksAt names f at → ⊥
  all_fit f at h k = elim k [ inl e ↦ part_fits f.part at h.0 e | inr e ↦ chain_fits f.chain at h.1 e.1 ]

  -- two of a thing and what stands behind it
  two_of : (P Q : ℕ → Type 0) (Fit : Type 0) (a b : ℕ) → ((x : ℕ) → Fit → P x → ⊥) → (P a → P b → a ≡ b) → (Q a → Q b → a ≡ b)
      → (P a ⊎ (Fit × Q a)) → (P b ⊎ (Fit × Q b)) → a ≡ b
  two_of P Q Fit a b apart first second h k = elim h [
    | inl p ↦ elim k [ inl q ↦ first p q | inr q ↦ absurd (apart a q.0 p) ]
    | inr p ↦ elim k [ inl q ↦ absurd (apart b p.0 q) | inr q ↦ second p.1 q.1 ]
  ]

  mutual
    part_breaks : (f : Part) (a b : ℕ) → BreaksPart names f a → BreaksPart names f b → a ≡ b
    part_breaks (prefixed p f) a b h k = part_breaks f a b h k
    part_breaks (quantified all f c weak g d) a b h k =
        two_of (λ x. BreaksPart names f x ⊎ (PartFits names f × BreaksChain names c x)) (λ x. BreaksPart names g x ⊎ (PartFits names g × BreaksChain names d x))
        (PartFits names f × ChainFits names c) a b
        (λ x fit broken. elim broken [ inl e ↦ part_fits f x fit.0 e | inr e ↦ chain_fits c x fit.1 e.1 ])
        (two_of (BreaksPart names f) (BreaksChain names c) (PartFits names f) a b (λ x. part_fits f x) (part_breaks f a b) (chain_breaks c a b))
        (two_of (BreaksPart names g) (BreaksChain names d) (PartFits names g) a b (λ x. part_fits g x) (part_breaks g a b) (chain_breaks d a b)) h k
    part_breaks (truth t) a b h k = absurd h
    part_breaks exit a b h k = absurd h
    part_breaks (compared left c right) a b h k = h.0 ∙ sym k.0
    part_breaks (grouped m f c) a b h k =
        two_of (BreaksPart names f) (BreaksChain names c) (PartFits names f) a b (λ x. part_fits f x) (part_breaks f a b) (chain_breaks c a b) h k

    chain_breaks : (c : Chain) (a b : ℕ) → BreaksChain names c a → BreaksChain names c b → a ≡ b
    chain_breaks done a b h k = absurd h
    chain_breaks (joined connective f more) a b h k =
        two_of (BreaksPart names f) (BreaksChain names more) (PartFits names f) a b (λ x. part_fits f x) (part_breaks f a b) (chain_breaks more a b) h k

  pub one_break : (f : Formula) (a b : ℕ) → BreaksAt names f a → BreaksAt names f b → a ≡ b
  one_break f a b h k =
      two_of (BreaksPart names f.part) (BreaksChain names f.chain) (PartFits names f.part) a b (λ x. part_fits f.part x) (part_breaks f.part a b) (chain_breaks f.chain a b) h k

  -- which of the two is first
  pub unknown_alone : (f : Formula) (token : ℕ) → Some token ≡ unknown_in names f → AllFit names f → FirstIsUnknown names f token
  unknown_alone f token e fit = record { unknown = sym e; before = λ other broken. absurd (all_fit f other fit broken) }

  pub unknown_first : (f : Formula) (token broken : ℕ) → Some token ≡ unknown_in names f → BreaksAt names f broken → token ≤ broken → FirstIsUnknown names f token
  unknown_first f token broken e h le = record { unknown = sym e; before = λ other k. subst (λ x. token ≤ x) (one_break f broken other h k) le }

  pub atom_first : (f : Formula) (token broken : ℕ) → Some token ≡ unknown_in names f → BreaksAt names f broken → broken < token → FirstIsAtom names f broken
  atom_first f token broken e h lt = record { breaks = h; before = λ other k. (let same : token ≡ other = (let both = e ∙ k in cc) in subst (λ x. broken < x) same lt) }

  pub atom_alone : (f : Formula) (broken : ℕ) → None ≡ unknown_in names f → BreaksAt names f broken → FirstIsAtom names f broken
  atom_alone f broken e h = record { breaks = h; before = λ other k. absurd (let both = e ∙ k in cc) }
