use Rattle.std.proofs.Common.{rules, ◌≡◌, ◌∙◌, ℕ, List, ◌∷◌, ◌++◌, ◌-◌, drop, take, length, false, sym, ap, arith}
use Rattle.std.proofs.lemmas.Slice.Eq.{starts_is}
use Rattle.std.proofs.lemmas.Bool.Decides.{Decides-eqb}
use Rattle.std.proofs.lemmas.List.{length-drop, take_all}
use Rattle.input_text.proofs.Pairs.{behind_name}
use Rattle.input_text.proofs.pair.pair_of.Goals as goal

pub returns-then-not-starts_with : goal.returns-then-not-starts_with
returns-then-not-starts_with c z = (
  λ is. cc,
  λ pair.
      let told = (starts_is Decides-eqb c.args.piece.now c.args.name.now c.starts_with.result c.starts_with.ensures.value).1 (61 ∷ pair.digits) pair.text_is in
      let not : c.starts_with.result ≡ false = c.if-not-starts_with.true in absurd (cc),
)

pub returns : goal.returns
returns c z =
    let rest : List ℕ = drop (length c.args.name.now) c.args.piece.now in
    let text : c.args.piece.now ≡ c.args.name.now ++ rest =
    (starts_is Decides-eqb c.args.piece.now c.args.name.now c.starts_with.result c.starts_with.ensures.value).0 c.if-not-starts_with.false in
    let cut : take (length c.args.piece.now - length c.args.name.now) rest ≡ c.in-Some.first.now ∷ c.in-Some.digits.now = search rules in
    let long : length rest ≡ length c.args.piece.now - length c.args.name.now = length-drop (length c.args.name.now) c.args.piece.now in
    let all : take (length c.args.piece.now - length c.args.name.now) rest ≡ rest =
    take_all (length c.args.piece.now - length c.args.name.now) rest (omega (arith, long)) in
    let sign : rest ≡ 61 ∷ c.in-Some.digits.now = sym all ∙ cut ∙ ap (λ x. x ∷ c.in-Some.digits.now) c.if-first-ne61.false in (
      λ said.
          let own = (c.signed_of.ensures z).0 said in
          record { digits = c.in-Some.digits.now; text_is = text ∙ ap (λ r. c.args.name.now ++ r) sign; says = own.0; small = own.1 },
      λ pair.
          let behind : rest ≡ 61 ∷ pair.digits = behind_name c.args.name.now (61 ∷ pair.digits) c.args.piece.now pair.text_is in
          let same : pair.digits ≡ c.in-Some.digits.now = cc in
          (c.signed_of.ensures z).1 ((let says = pair.says in rw (same) at says), pair.small),
    )
