-- The text of a drill's mask, and the bytes of its volume, as loops make them.
use Rattle.std.proofs.Common.{◌≡◌, ℕ, zero, suc, ◌+◌, ◌*◌, ◌%◌, ◌^◌, ◌≤◌, List, [], ◌∷◌, ◌++◌, map, refl, sym, ap, ◌∙◌, arith, add-one, Ok}
use Rattle.std.specs.Prelude.{codes}
use Rattle.std.specs.List.{range_with_len}
use Rattle.std.proofs.Math.Pow.{pow_mono}
use Rattle.std.proofs.lemmas.List.FromFn.{map-range_with_len_more}
use Rattle.idx_header.specs.Header.{HeaderValue}
use Rattle.idx_header.specs.HeaderOf.{header_of}
use Rattle.idx_hz.specs.MaskText.{mask_text}
use Rattle.idx_drill_model.specs.Drill.{drill_byte, drill_depth, drill_header, drill_mask, drill_text}
use Rattle.idx_drill_model.proofs.ReadingLemmas.{text-read}

-- ---- the header

-- the header that the text of a drill reads as
pub same_header : (text : List ℕ) (n : ℕ) (h : HeaderValue) → text ≡ drill_text n → 1 ≤ n → n ≤ 8 → header_of text ≡ Ok h → h ≡ drill_header n
same_header text n h same some few read =
    let right : header_of (drill_text n) ≡ Ok (drill_header n) = text-read n some few in
    let both : Ok h ≡ Ok (drill_header n) = sym read ∙ ap header_of same ∙ right in
    cc both

-- ---- the mask

-- three digits of all axes in front are as good as behind
digits_move : (n : ℕ) → map (λ d. d + 48) (drill_mask n) ++ codes "012" ≡ codes "012" ++ map (λ d. d + 48) (drill_mask n)
digits_move zero = refl
digits_move (suc n) = ap (λ l. codes "012" ++ l) (digits_move n)

-- the text of one more round of the axes
pub mask_more : (n : ℕ) → mask_text (drill_mask (n + 1)) ≡ mask_text (drill_mask n) ++ codes "012"
mask_more n = ap (λ k. mask_text (drill_mask k)) (add-one n) ∙ ap (λ l. 86 ∷ l) (sym (digits_move n))

-- ---- the volume

pub few_points : (n : ℕ) → n ≤ 8 → 2 ^ drill_depth n ≤ 2 ^ 24
few_points n few = let low : drill_depth n ≤ 24 = omega arith in pow_mono low

-- how many points there are, as a number of 64 bits
pub word_points : (n : ℕ) → n ≤ 8 → 1 * 2 ^ (3 * n) % 18446744073709551616 ≡ 2 ^ drill_depth n
word_points n few = let low : 2 ^ drill_depth n ≤ 2 ^ 24 = few_points n few in omega (arith, low)

-- one more byte
pub bytes_more : (n place : ℕ) → map (drill_byte n) (range_with_len 0 (place + 1)) ≡ map (drill_byte n) (range_with_len 0 place) ++ drill_byte n place ∷ []
bytes_more n place = map-range_with_len_more (drill_byte n) 0 place place (omega arith)

pub byte_is : (n m place : ℕ) → m ≡ n → (31 * place + m) % 256 ≡ drill_byte n place
byte_is n m place same = ap (λ k. (31 * place + k) % 256) same

-- a byte pushed behind those before it
pub byte_pushed : (n m place : ℕ) (old new : List ℕ) → m ≡ n → old ≡ map (drill_byte n) (range_with_len 0 place) → new ≡ old ++ (31 * place + m) % 256 ∷ [] →
    new ≡ map (drill_byte n) (range_with_len 0 (place + 1))
byte_pushed n m place old new same before pushed =
    pushed ∙ (λ i. before i ++ byte_is n m place same i ∷ []) ∙ sym (bytes_more n place)
