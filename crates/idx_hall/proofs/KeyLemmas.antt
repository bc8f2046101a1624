-- When two keys are the same, and two names of blocks.
use Rattle.std.proofs.Common.{◌≡◌, Bool, true, false, ◌&&◌, nat_eq, refl, ap, ◌∙◌}
use Rattle.std.proofs.lemmas.Bool.{eqb-true, eq-eqb, false≢true}
use Rattle.std.proofs.lemmas.Cmp.{nat_eq_equiv}
use Rattle.std.specs.Cmp.{IsEquivalence}
use Rattle.std.specs.Cmp.Derive.{both_true}
use Rattle.idx_hall.specs.Hall.{key_eq, name_eq}
use Rattle.idx_hall.specs.declared.key.Key.{Key}
use Rattle.idx_hall.specs.declared.block_name.BlockName.{BlockName}

both : (s t : Bool) → (s && t) ≡ true → (s ≡ true) × (t ≡ true)
both true true h = (refl, refl)
both true false h = (refl, h)
both false t h = absurd (false≢true h)

-- keys that are taken for one are one
pub key_eq-same : (a b : Key) → key_eq a b ≡ true → a ≡ b
key_eq-same a b h =
    let first = both (nat_eq a.time b.time) (nat_eq a.field b.field && nat_eq a.block b.block) h in
    let rest = both (nat_eq a.field b.field) (nat_eq a.block b.block) first.1 in
    let time : a.time ≡ b.time = eqb-true a.time b.time first.0 in
    let field : a.field ≡ b.field = eqb-true a.field b.field rest.0 in
    let block : a.block ≡ b.block = eqb-true a.block b.block rest.1 in
    ap (λ t. record { time = t; field = a.field; block = a.block }) time
    ∙ ap (λ f. record { time = b.time; field = f; block = a.block }) field
    ∙ ap (λ k. record { time = b.time; field = b.field; block = k }) block

pub key_eq-refl : (a : Key) → key_eq a a ≡ true
key_eq-refl a = both_true (eq-eqb a.time a.time refl) (both_true (eq-eqb a.field a.field refl) (eq-eqb a.block a.block refl))

pub key_laws : IsEquivalence key_eq
key_laws = record {
  refl = key_eq-refl;
  symm = λ x y. ap (λ s. s && (nat_eq x.field y.field && nat_eq x.block y.block)) (nat_eq_equiv.symm x.time y.time)
      ∙ ap (λ s. nat_eq y.time x.time && (s && nat_eq x.block y.block)) (nat_eq_equiv.symm x.field y.field)
      ∙ ap (λ s. nat_eq y.time x.time && (nat_eq y.field x.field && s)) (nat_eq_equiv.symm x.block y.block);
  congr = λ x y z same. ap (λ k. key_eq k z) (key_eq-same x y same);
}

-- names that are taken for one are one
pub name_eq-same : (a b : BlockName) → name_eq a b ≡ true → a ≡ b
name_eq-same a b h =
    let parts = both (nat_eq a.post b.post) (key_eq a.key b.key) h in
    let post : a.post ≡ b.post = eqb-true a.post b.post parts.0 in
    let key : a.key ≡ b.key = key_eq-same a.key b.key parts.1 in
    ap (λ p. record { post = p; key = a.key }) post ∙ ap (λ k. record { post = b.post; key = k }) key

pub name_eq-refl : (a : BlockName) → name_eq a a ≡ true
name_eq-refl a = both_true (eq-eqb a.post a.post refl) (key_eq-refl a.key)

pub name_laws : IsEquivalence name_eq
name_laws = record {
  refl = name_eq-refl;
  symm = λ x y. ap (λ s. s && key_eq x.key y.key) (nat_eq_equiv.symm x.post y.post) ∙ ap (λ s. nat_eq y.post x.post && s) (key_laws.symm x.key y.key);
  congr = λ x y z same. ap (λ n. name_eq n z) (name_eq-same x y same);
}
