-- Two samples are exchanged: each place has what its partner had.
use Rattle.std.proofs.Common.{◌≡◌, ◌≢◌, ℕ, ◌+◌, ◌*◌, ◌≤◌, List, ◌++◌, length, take, drop, refl, sym, ap, ◌∙◌, arith, length-append, length-take-le, length-drop}
use Rattle.std.specs.Prelude.{if◌then◌else◌, ◌==◌}
use Rattle.std.proofs.lemmas.Bool.{eq-eqb, ne_eqb}
use Rattle.std.proofs.lemmas.List.Edits.{Swapped}
use Rattle.idx_lanes.specs.Written.{written}
use Rattle.idx_lanes.proofs.CopyLemmas.{kept-written, placed-written}
use Rattle.idx_rowmajor.specs.Rows.{sample_of}

-- ---- one sample is written

-- the place itself
right-here : (size place : ℕ) (piece old : List ℕ) → length piece ≡ size → (place + 1) * size ≤ length old → sample_of size (written (place * size) piece old) place ≡ piece
right-here size place piece old long room = placed-written (λ _. piece) size place piece old long room refl

-- another place
right-other : (size place o : ℕ) (piece old : List ℕ) → length piece ≡ size → (place + 1) * size ≤ length old → o ≢ place → sample_of size (written (place * size) piece old) o ≡ sample_of size old o
right-other size place o piece old long room apart =
    let want : ℕ → List ℕ = λ k. if k == place then piece else sample_of size old k in
    let here : piece ≡ want place = rw (eq-eqb place place refl) refl in
    let there : want o ≡ sample_of size old o = rw (ne_eqb o place apart) refl in
    kept-written want size place piece old long room here o (sym there) ∙ there

-- ---- two samples are exchanged

length-written : (at : ℕ) (piece old : List ℕ) → at + length piece ≤ length old → length (written at piece old) ≡ length old
length-written at piece old room =
    omega (arith, length-append (take at old) (piece ++ drop (at + length piece) old), length-append piece (drop (at + length piece) old), length-take-le at old (omega arith), length-drop (at + length piece) old)

length-sample : (size place : ℕ) (old : List ℕ) → place * size + size ≤ length old → length (sample_of size old place) ≡ size
length-sample size place old room = length-take-le size (drop (place * size) old) (omega (arith, length-drop (place * size) old))

pub swapped-written : (size a b : ℕ) (old new : List ℕ) → a ≢ b → (a + 1) * size ≤ length old → (b + 1) * size ≤ length old →
    new ≡ written (b * size) (take size (drop (a * size) old)) (written (a * size) (take size (drop (b * size) old)) old) →
    Swapped (sample_of size old) (sample_of size new) a b
swapped-written size a b old new apart room_a room_b is =
    let more_a : (a + 1) * size ≡ a * size + size = grind arith in
    let more_b : (b + 1) * size ≡ b * size + size = grind arith in
    let pa : List ℕ = sample_of size old a in
    let pb : List ℕ = sample_of size old b in
    let len_a : length pa ≡ size = length-sample size a old (omega arith) in
    let len_b : length pb ≡ size = length-sample size b old (omega arith) in
    let mid : List ℕ = written (a * size) pb old in
    let long : length mid ≡ length old = length-written (a * size) pb old (omega arith) in
    let room : (b + 1) * size ≤ length mid = omega arith in (
      ap (λ xs. sample_of size xs a) is ∙ right-other size b a pa mid len_a room apart ∙ right-here size a pb old len_b room_a,
      ap (λ xs. sample_of size xs b) is ∙ right-here size b pa mid len_a room,
      λ m off_a off_b. ap (λ xs. sample_of size xs m) is ∙ right-other size b m pa mid len_a room off_b ∙ right-other size a m pb old len_b room_a off_a,
    )
