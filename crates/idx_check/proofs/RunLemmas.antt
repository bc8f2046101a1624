-- A block of a file that is looked at run by run.
use Rattle.std.proofs.Common.{◌≡◌, ℕ, ◌+◌, ◌-◌, ◌*◌, ◌^◌, ◌<◌, ◌≤◌, List, length, take, drop, refl, sym, ap, ◌∙◌, subst, arith}
use Rattle.std.specs.Prelude.{IfSome, Option, None, Some, slice_index}
use Rattle.idx_check.specs.Stray.{IsClean, IsStray}
use Rattle.idx_check.proofs.NatLemmas.{all_parts, part_of}
use Rattle.idx_check.proofs.PieceLemmas.{slice_byte}
use Rattle.idx_check.proofs.StrayLemmas.{clean_next, stray_next}

-- the text of a file from a place on
abbrev pub text_from : List ℕ → ℕ → ℕ → ℕ
text_from bytes at i = slice_index bytes (at + i)

-- the bytes from a place on, so many, are clean
abbrev pub CleanTo : List ℕ → List (ℕ × ℕ) → ℕ → ℕ → ℕ → ℕ → List ℕ → Type 0
CleanTo mask box size first at count bytes = (i : ℕ) → i < count → IsClean mask box size first (text_from bytes at) i

-- a run of m addresses, the k-th of a block whose addresses begin with `first`: its bytes stand at `next`, and lie ahead in a piece
module _ (mask : List ℕ) (box : List (ℕ × ℕ)) (size first sub k m n cut at next used : ℕ) (piece : List ℕ) (some : 1 ≤ size) (whole : n ≡ size * m) (begins : sub ≡ first + k * m)
    (there : next ≡ at + k * n) (room : used + n ≤ length piece) (cut_is : cut ≡ n) where
  same_text : (bytes : List ℕ) → ((i : ℕ) → used + i < length piece → slice_index piece (used + i) ≡ slice_index bytes (next + i)) →
      (i : ℕ) → i < n → slice_index (take cut (drop used piece)) i ≡ text_from bytes at (k * n + i)
  same_text bytes ahead i within =
      let place : next + i ≡ at + (k * n + i) = omega (arith, there) in
      slice_byte piece used n cut i cut_is within ∙ ahead i (omega (arith, room, within)) ∙ ap (slice_index bytes) place

  pub run_clean : (contents : Option (List ℕ)) →
      IfSome contents (λ bytes. (i : ℕ) → used + i < length piece → slice_index piece (used + i) ≡ slice_index bytes (next + i)) →
      IfSome contents (CleanTo mask box size first at (k * n)) → ((i : ℕ) → i < n → IsClean mask box size sub (slice_index (take cut (drop used piece))) i) →
      IfSome contents (CleanTo mask box size first at ((k + 1) * n))
  run_clean None ahead before clean = tt
  run_clean (Some bytes) ahead before clean =
      clean_next mask box size first sub k m n (text_from bytes at) (slice_index (take cut (drop used piece))) some whole begins (same_text bytes ahead) before clean

  pub run_stray : (contents : Option (List ℕ)) (count place : ℕ) →
      IfSome contents (λ bytes. (i : ℕ) → used + i < length piece → slice_index piece (used + i) ≡ slice_index bytes (next + i)) →
      IfSome contents (CleanTo mask box size first at (k * n)) → k * n + n ≤ count → IsStray mask box size sub (slice_index (take cut (drop used piece))) n place →
      IfSome contents (λ bytes. IsStray mask box size first (text_from bytes at) count (next - at + place))
  run_stray None count place ahead before fits stray = tt
  run_stray (Some bytes) count place ahead before fits stray =
      let apart : k * n ≡ next - at = omega (arith, there) in
      subst (λ (d : ℕ). IsStray mask box size first (text_from bytes at) count (d + place)) apart
      (stray_next mask box size first sub k m n (text_from bytes at) (slice_index (take cut (drop used piece))) some whole begins (same_text bytes ahead) count place before fits stray)

-- where the k-th run of a block stands: n bytes from `next` on
pub record IsRun (digits bits fine number runs k size n at next : ℕ) : Type 0 where
  pub exists : number * runs + k < 2 ^ (digits - fine)
  pub small : number * runs + k < 2 ^ 40
  pub first : (number * runs + k) * 2 ^ fine ≡ number * 2 ^ bits + k * 2 ^ fine
  pub room : k * n + n ≤ size * 2 ^ bits
  pub behind : next + n ≤ at + size * 2 ^ bits

pub run_of : (digits bits fine number runs k size n at next : ℕ) → fine ≤ bits → bits ≤ digits → digits ≤ 40 → number < 2 ^ (digits - bits) → runs ≡ 2 ^ (bits - fine) → k < runs →
    n ≡ size * 2 ^ fine → next ≡ at + k * n → IsRun digits bits fine number runs k size n at next
run_of digits bits fine number runs k size n at next low few most exists is within whole there =
    let part = part_of digits bits fine number runs (2 ^ fine) k low few most exists is refl within in
    let room : k * n + n ≤ size * 2 ^ bits = subst (λ (m : ℕ). k * m + m ≤ size * 2 ^ bits) (sym whole) (part.room size) in
    record { exists = part.exists; small = part.small; first = part.first; room = room; behind = omega (arith, room, there) }

-- behind the last run the block ends
pub runs_end : (bits fine runs k size n at next : ℕ) → fine ≤ bits → runs ≡ 2 ^ (bits - fine) → k ≡ runs → n ≡ size * 2 ^ fine → next ≡ at + k * n →
    (k * n ≡ size * 2 ^ bits) × (next ≡ at + size * 2 ^ bits)
runs_end bits fine runs k size n at next low is last whole there =
    let all = all_parts bits fine runs (2 ^ fine) low is refl in
    let bytes : k * n ≡ size * 2 ^ bits = ap (λ m. m * n) last ∙ ap (λ m. runs * m) whole ∙ swap runs size (2 ^ fine) ∙ ap (λ m. size * m) (sym all) in
    (bytes, omega (arith, bytes, there))
  where
    swap : (a b c : ℕ) → a * (b * c) ≡ b * (a * c)
    swap a b c = grind arith

-- all of a block
pub clean_whole : (contents : Option (List ℕ)) (mask : List ℕ) (box : List (ℕ × ℕ)) (size first at count whole : ℕ) → count ≡ whole →
    IfSome contents (CleanTo mask box size first at count) → IfSome contents (CleanTo mask box size first at whole)
clean_whole contents mask box size first at count whole same = subst (λ (n : ℕ). IfSome contents (CleanTo mask box size first at count) → IfSome contents (CleanTo mask box size first at n)) same (λ h. h)

-- nothing was looked at
pub clean_begins : (contents : Option (List ℕ)) (mask : List ℕ) (box : List (ℕ × ℕ)) (size first at n : ℕ) → IfSome contents (CleanTo mask box size first at (0 * n))
clean_begins None mask box size first at n = tt
clean_begins (Some bytes) mask box size first at n = λ i within. absurd (omega (arith, within))
