-- What is said of the levels of a drill, by answers that are few: an answer of one-byte samples has at most as many bytes as its
-- region has points.
use Rattle.std.proofs.Common.{◌≡◌, ℕ, ◌+◌, ◌^◌, ◌<◌, ◌≤◌, zero, suc, Bool, List, [], ◌∷◌, ◌++◌, length, map, drop, sym, ap, ◌∙◌, subst, arith, length-append, length-take}
use Rattle.std.specs.Prelude.{filter}
use Rattle.std.specs.List.{flat_map, range_with_len, slice_index_or}
use Rattle.std.proofs.Math.Pow.{pow_mono}
use Rattle.std.proofs.lemmas.List.FromFn.{map-range_with_len_more}
use Rattle.idx_geom.specs.Region.{points}
use Rattle.idx_geom.specs.Volume.{sample_at, samples_of}
use Rattle.idx_hz.specs.Answer.{answer, has_level}
use Rattle.idx_drill_model.specs.Drill.{drill_box, drill_depth, drill_mask, drill_volume}
use Rattle.idx_drill_model.proofs.TakenLemmas.{points-many}
use Rattle.idx_drill.specs.Drilled.{drill_answer, drill_level, level_of}
use Rattle.idx_drill.specs.declared.level.Level.{Level}

short-sample : (n : ℕ) (raw : List ℕ) (k : ℕ) → length (slice_index_or (samples_of 1 n raw) k []) ≤ 1
short-sample zero raw k = omega arith
short-sample (suc n) raw zero = omega (arith, length-take 1 raw)
short-sample (suc n) raw (suc k) = short-sample n (drop 1 raw) k

short-all : {X : Type 0} (f : X → List ℕ) → ((x : X) → length (f x) ≤ 1) → (xs : List X) → length (flat_map f xs) ≤ length xs
short-all f short [] = omega arith
short-all f short (x ∷ xs) = omega (arith, length-append (f x) (flat_map f xs), short x, short-all f short xs)

few-pass : {X : Type 0} (test : X → Bool) (xs : List X) → length (filter test xs) ≤ length xs
few-pass test [] = omega arith
few-pass test (x ∷ xs) = grind (arith, few-pass test xs)

few-answer : (mask : List ℕ) (box : List (ℕ × ℕ)) (n : ℕ) (raw : List ℕ) (region : List (ℕ × ℕ)) (lo hi : ℕ) →
    length (answer mask box (samples_of 1 n raw) region lo hi) ≤ length (points region)
few-answer mask box n raw region lo hi =
    let passed = filter (has_level mask lo hi) (points region) in
    let short : length (flat_map (sample_at box (samples_of 1 n raw)) passed) ≤ length passed =
    short-all (sample_at box (samples_of 1 n raw)) (λ p. short-sample n raw _) passed in
    omega (arith, few-pass (has_level mask lo hi) (points region))

-- an answer of a drill has at most 2^24 bytes
pub few_bytes : (n level : ℕ) → n ≤ 8 → length (drill_answer n level) ≤ 2 ^ 24
few_bytes n level few =
    let within : drill_depth n ≤ 24 = omega arith in
    let power : 2 ^ drill_depth n ≤ 2 ^ 24 = pow_mono within in
    let bytes : length (drill_answer n level) ≤ length (points (drill_box n)) =
    few-answer (drill_mask n) (drill_box n) (length (points (drill_box n))) (drill_volume n) (drill_box n) level level in
    omega (arith, points-many n, power, bytes)

-- one level more
pub level-more : (n level : ℕ) (said : Level) (levels more : List Level) → said ≡ drill_level n level →
    levels ≡ map (drill_level n) (range_with_len 0 level) → more ≡ levels ++ said ∷ [] → more ≡ map (drill_level n) (range_with_len 0 (level + 1))
level-more n level said levels more is before grown =
    grown
    ∙ ap (λ (l : List Level). l ++ said ∷ []) before
    ∙ ap (λ (x : Level). map (drill_level n) (range_with_len 0 level) ++ x ∷ []) is
    ∙ sym (map-range_with_len_more (drill_level n) 0 level level (omega arith))
