-- A pass of exchanges, pair by pair in the order of their lower places.
use Rattle.std.proofs.Common.{◌≡◌, ◌≢◌, ℕ, ◌+◌, ◌<◌, ◌≤◌, ◌*◌, ◌⊎◌, List, length, take, drop, subst, refl, sym, ap, ◌∙◌, inl, inr, ⊎_elim, arith}
use Rattle.std.proofs.lemmas.Bool.{cases_eq}
use Rattle.std.proofs.lemmas.List.Edits.{Swapped}
use Rattle.std.proofs.Math.Nat.{mul-le-mul_right}
use Rattle.idx_lanes.specs.Written.{written}
use Rattle.idx_rowmajor.specs.Rows.{sample_of}
use Rattle.idx_rowmajor.proofs.SampleLemmas.{swapped-written}
use Rattle.idx_rowmajor.specs.Exchange.{IsPairing, IsExchanged}

-- the pairs whose lower place is below n are exchanged, and the others are not
pub record IsPassed {X : Type 0} (n end : ℕ) (f : ℕ → ℕ) (old new : ℕ → X) : Type 0 where
  pub done : (o : ℕ) → o < end → (o < n) ⊎ (f o < n) → new o ≡ old (f o)
  pub left : (o : ℕ) → o < end → n ≤ o → n ≤ f o → new o ≡ old o

pub IsPassed-none : {X : Type 0} (end : ℕ) (f : ℕ → ℕ) (old : ℕ → X) → IsPassed 0 end f old old
IsPassed-none end f old = record {
  done = λ o within below. ⊎_elim (λ (h : o < 0). absurd (omega arith)) (λ (h : f o < 0). absurd (omega arith)) below;
  left = λ o within from to. refl;
}

pub IsPassed-all : {X : Type 0} (n end : ℕ) (f : ℕ → ℕ) (old new : ℕ → X) → end ≤ n → IsPassed n end f old new → IsExchanged end f old new
IsPassed-all n end f old new all passed o within = passed.done o within (inl (omega arith))

-- the pair of place n is exchanged
pub IsPassed-swapped : {X : Type 0} (n end : ℕ) (f : ℕ → ℕ) (old cur new : ℕ → X) → IsPairing end f → n < end → n < f n → IsPassed n end f old cur → Swapped cur new n (f n) → IsPassed (n + 1) end f old new
IsPassed-swapped n end f old cur new pairing here above passed swapped =
    let back : f (f n) ≡ n = (pairing n here).1 in
    let there : f n < end = (pairing n here).0 in
    record {
      done = λ o within below. ⊎_elim
          (λ (at : o ≡ n). ap new at ∙ swapped.0 ∙ passed.left (f n) there (omega arith) (omega arith) ∙ ap (λ m. old (f m)) (sym at))
          (λ (off : o ≢ n). ⊎_elim
          (λ (at : o ≡ f n). ap new at ∙ swapped.1 ∙ passed.left n here (omega arith) (omega arith) ∙ ap old (sym (ap f at ∙ back)))
          (λ (apart : o ≢ f n).
          let same : f (f o) ≡ o = (pairing o within).1 in
          let unlike : f o ≢ n = λ e. apart (sym same ∙ ap f e) in
          let earlier : (o < n) ⊎ (f o < n) = ⊎_elim (λ (h : o < n + 1). inl (omega arith)) (λ (h : f o < n + 1). inr (omega arith)) below in
          swapped.2 o off apart ∙ passed.done o within earlier)
          (cases_eq o (f n)))
          (cases_eq o n);
      left = λ o within from to.
          let off : o ≢ n = λ e. omega arith in
          let apart : o ≢ f n = λ e. let same : f o ≡ n = ap f e ∙ back in omega arith in
          swapped.2 o off apart ∙ passed.left o within (omega arith) (omega arith);
    }

-- place n is its own partner, or its pair is exchanged already
pub IsPassed-skipped : {X : Type 0} (n end : ℕ) (f : ℕ → ℕ) (old cur : ℕ → X) → IsPairing end f → n < end → f n ≤ n → IsPassed n end f old cur → IsPassed (n + 1) end f old cur
IsPassed-skipped n end f old cur pairing here low passed =
    let back : f (f n) ≡ n = (pairing n here).1 in
    let own : f n ≡ n → cur n ≡ old (f n) = λ e. passed.left n here (omega arith) (omega arith) ∙ ap old (sym e) in
    let at_n : cur n ≡ old (f n) = ⊎_elim (λ (e : f n ≡ n). own e) (λ (e : f n ≢ n). passed.done n here (inr (omega arith))) (cases_eq (f n) n) in
    record {
      done = λ o within below. ⊎_elim
          (λ (at : o ≡ n). ap cur at ∙ at_n ∙ ap (λ m. old (f m)) (sym at))
          (λ (off : o ≢ n). ⊎_elim
          (λ (at : f o ≡ n).
          let is : o ≡ f n = sym (pairing o within).1 ∙ ap f at in
          passed.done o within (inl (omega arith)))
          (λ (apart : f o ≢ n).
          let earlier : (o < n) ⊎ (f o < n) = ⊎_elim (λ (h : o < n + 1). inl (omega arith)) (λ (h : f o < n + 1). inr (omega arith)) below in
          passed.done o within earlier)
          (cases_eq (f o) n))
          (cases_eq o n);
      left = λ o within from to. passed.left o within (omega arith) (omega arith);
    }

-- ---- samples

-- the pairs whose lower place is below n are exchanged in a block
abbrev pub ArePassed : ℕ → ℕ → (ℕ → ℕ) → ℕ → List ℕ → List ℕ → Type 0
ArePassed n end f size old new = IsPassed n end f (sample_of size old) (sample_of size new)

pub ArePassed-swapped : (n m end size : ℕ) (f : ℕ → ℕ) (old cur new : List ℕ) → m ≡ f n → IsPairing end f → n < end → n < m → end * size ≤ length cur →
    new ≡ written (m * size) (take size (drop (n * size) cur)) (written (n * size) (take size (drop (m * size) cur)) cur) →
    ArePassed n end f size old cur → ArePassed (n + 1) end f size old new
ArePassed-swapped n m end size f old cur new partner pairing here above room is passed =
    let there : m < end = omega (arith, (pairing n here).0) in
    let room_n : (n + 1) * size ≤ length cur = omega (arith, mul-le-mul_right size (let h : n + 1 ≤ end = omega arith in h)) in
    let room_m : (m + 1) * size ≤ length cur = omega (arith, mul-le-mul_right size (let h : m + 1 ≤ end = omega arith in h)) in
    let apart : n ≢ m = λ e. omega arith in
    let swapped : Swapped (sample_of size cur) (sample_of size new) n m = swapped-written size n m cur new apart room_n room_m is in
    let at : Swapped (sample_of size cur) (sample_of size new) n (f n) = subst (λ k. Swapped (sample_of size cur) (sample_of size new) n k) partner swapped in
    IsPassed-swapped n end f (sample_of size old) (sample_of size cur) (sample_of size new) pairing here (omega arith) passed at

pub ArePassed-skipped : (n m end size : ℕ) (f : ℕ → ℕ) (old cur new : List ℕ) → m ≡ f n → IsPairing end f → n < end → m ≤ n → new ≡ cur →
    ArePassed n end f size old cur → ArePassed (n + 1) end f size old new
ArePassed-skipped n m end size f old cur new partner pairing here low is passed =
    subst (λ ys. ArePassed (n + 1) end f size old ys) (sym is) (IsPassed-skipped n end f (sample_of size old) (sample_of size cur) pairing here (omega arith) passed)

-- a pair's samples lie in the block
pub room_of : (n end size long : ℕ) → n < end → end * size ≤ long → n * size + size ≤ long
room_of n end size long within room =
    let more : (n + 1) * size ≡ n * size + size = grind arith in
    let le : n + 1 ≤ end = omega arith in
    omega (arith, mul-le-mul_right size le)
