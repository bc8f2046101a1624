-- One volume of those of all files.
use Rattle.std.proofs.Common.{◌≡◌, ◌≢◌, ℕ, ◌+◌, ◌-◌, ◌*◌, ◌/◌, ◌<◌, ◌≤◌, Bool, true, false, cond, List, length, refl, sym, ap, ◌∙◌, arith, inl, inr, eqb-true, eq-eqb}
use Rattle.std.specs.Prelude.{◌==◌, ◌&&◌, Contains, sum, map}
use Rattle.std.specs.List.{list_any, range_with_len}
use Rattle.std.proofs.Math.Nat.{mul_comm}
use Rattle.std.proofs.lemmas.Nat.{div-mul-add}
use Rattle.idx_geom.specs.Region.{LiesIn, points}
use Rattle.idx_geom.specs.Volume.{raw_of}
use Rattle.idx_geom.proofs.VolumeLemmas.{length-raw_of, volume_of-raw_of}
use Rattle.idx_fields.specs.Field.{sample_bytes}
use Rattle.idx_header.specs.Header.{HeaderValue, IsHeader, volume_bytes}
use Rattle.idx_layout.specs.Placing.{Placing, block_count, file_numbers, file_of, is_present}
use Rattle.idx_layout.specs.Files.{file_bytes}
use Rattle.idx_layout.specs.OfHeader.{placing_of}
use Rattle.idx_layout.specs.Step.{volume_of_raw}
use Rattle.idx_layout.proofs.ListLemmas.{passing}
use Rattle.idx_layout.proofs.PresentLemmas.{any_point}
use Rattle.idx_layout.proofs.RowLemmas.{absent_behind}
use Rattle.idx_pieces.proofs.ContainsLemmas.{filter_in, filter_out, range_in}
use Rattle.idx_dock.specs.Content.{sample_of}
use Rattle.idx_dock.proofs.CompleteLemmas.{any_range}
use Rattle.idx_dock.proofs.NextLemmas.{both-true}
use Rattle.std.proofs.lemmas.Bool.{cases_lt}
use Rattle.idx_volumes.specs.Volumes.{IsJoin, IsVolumeOf, IsWhole}
use Rattle.idx_volumes.proofs.MadeLemmas.{AreSized, made, made_again, made_is, made_sample, volume_sized}
use Rattle.idx_volumes.proofs.FileLemmas.{IsInFile, block_of, files_agree}

-- the block is a present one of the file
abbrev has_block : Placing → ℕ → ℕ → Bool
has_block l file block = is_present l block && (file_of l block == file)

-- the file of a point
abbrev file_at : HeaderValue → List ℕ → ℕ
file_at h p = file_of (placing_of h) (block_of h p)

-- a block that is present exists
present_exists : (h : HeaderValue) (block : ℕ) → IsHeader h → is_present (placing_of h) block ≡ true → block < block_count (placing_of h)
present_exists h block is here =
    elim (cases_lt block (block_count (placing_of h))) [
      | inl less ↦ less
      | inr past ↦ let wrong : true ≡ false = sym here ∙ absent_behind h block is past in absurd (cc)
    ]

both : (a b : Bool) → a ≡ true → b ≡ true → (a && b) ≡ true
both a b one two = ap (λ c. c && b) one ∙ two

-- each point of the box has a file
file_found : (h : HeaderValue) (p : List ℕ) → IsHeader h → LiesIn h.box p → Contains (file_numbers (placing_of h)) (file_at h p)
file_found h p is lies =
    let l : Placing = placing_of h in
    let block : ℕ = block_of h p in
    let file : ℕ = file_at h p in
    let here : is_present l block ≡ true = any_point h.box (λ q. block_of h q == block) p lies (eq-eqb block block refl) in
    let exists = present_exists h block is here in
    let begins : file ≤ block = grind arith in
    filter_in (λ file. list_any (has_block l file) (range_with_len 0 (block_count l))) (range_with_len 0 (block_count l)) file
    (range_in (block_count l) file (omega arith))
    (any_range (has_block l file) 0 (block_count l) block (omega arith) (omega arith)
    (both (is_present l block) (file_of l block == file) here (eq-eqb file file refl)))

-- a file's number is a multiple of the number of blocks in a file
file_begins : (h : HeaderValue) (file : ℕ) → Contains (file_numbers (placing_of h)) file → (k : ℕ) × (file ≡ h.blocks_per_file * k)
file_begins h file among =
    let l : Placing = placing_of h in
    let some = (filter_out (λ file. list_any (has_block l file) (range_with_len 0 (block_count l))) (range_with_len 0 (block_count l)) file among).1 in
    let block = passing (has_block l file) (range_with_len 0 (block_count l)) some in
    let own = both-true (is_present l block.1) (file_of l block.1 == file) block.3 in
    (block.1 / h.blocks_per_file, sym (eqb-true (file_of l block.1) file own.1))

-- a point that is in a file has that one
file_own : (h : HeaderValue) (file : ℕ) (p : List ℕ) → Contains (file_numbers (placing_of h)) file → IsInFile h file p → file_at h p ≡ file
file_own h file p among inside =
    let per : ℕ = h.blocks_per_file in
    let begins = file_begins h file among in
    let turned : per * begins.0 ≡ begins.0 * per = omega arith in
    let parts : block_of h p ≡ begins.0 * per + (block_of h p - file) = omega (arith, inside.from, begins.1) in
    let at : block_of h p / per ≡ begins.0 = ap (λ n. n / per) parts ∙ div-mul-add begins.0 per (block_of h p - file) (omega (arith, inside.from, inside.to)) in
    ap (λ n. per * n) at ∙ sym begins.1

-- the samples of each file's own volume
abbrev whole_sample : HeaderValue → (ℕ → List (List (List ℕ))) → ℕ → List ℕ → List ℕ
whole_sample h volumes field p = sample_of h (volumes (file_at h p)) field p

pub whole_is : (h : HeaderValue) (volumes : ℕ → List (List (List ℕ))) → IsHeader h → ((file : ℕ) → Contains (file_numbers (placing_of h)) file → IsVolumeOf h (volumes file)) →
    IsWhole h volumes (made h (whole_sample h volumes))
whole_is h volumes is each =
    let s : ℕ → List ℕ → List ℕ = whole_sample h volumes in
    let sized : AreSized h s = λ field p within lies. volume_sized h (volumes (file_at h p)) (each (file_at h p) (file_found h p is lies)) field p within lies in
    let are : IsVolumeOf h (made h s) = made_is h s sized in
    record {
      volume = are;
      files = λ file among. files_agree h file (made h s) (volumes file) are (each file among)
          (λ field p within inside. made_sample h s field p within inside.lies ∙ ap (λ f. sample_of h (volumes f) field p) (file_own h file p among inside));
    }

pub whole : (h : HeaderValue) (volumes : ℕ → List (List (List ℕ))) → IsHeader h → ((file : ℕ) → Contains (file_numbers (placing_of h)) file → IsVolumeOf h (volumes file)) →
    (volume : List (List (List ℕ))) × IsWhole h volumes volume
whole h volumes is each = (made h (whole_sample h volumes), whole_is h volumes is each)

-- the second volume at one file, and the first one at the others
abbrev one_of_two : List (List (List ℕ)) → List (List (List ℕ)) → ℕ → ℕ → List (List (List ℕ))
one_of_two v w file other = cond (other == file) w v

join_is : (h : HeaderValue) (v w : List (List (List ℕ))) (file : ℕ) (u : List (List (List ℕ))) → Contains (file_numbers (placing_of h)) file → IsWhole h (one_of_two v w file) u →
    (v ≡ w → u ≡ v) → IsJoin h v w file u
join_is h v w file u among whole same = record {
  volume = whole.volume;
  own = λ layout. whole.files file among layout ∙ ap (λ (b : Bool). file_bytes layout (placing_of h) (cond b w v) file) (eq-eqb file file refl);
  others = λ other among other_one layout. whole.files other among layout ∙ ap (λ (b : Bool). file_bytes layout (placing_of h) (cond b w v) other) (apart (other == file) refl other_one);
  same = same;
}
  where
    apart : {n : ℕ} (b : Bool) → (n == file) ≡ b → n ≢ file → b ≡ false
    apart {n} true is other_one = absurd (other_one (eqb-true n file is))
    apart false is other_one = refl

pub join : (h : HeaderValue) (v w : List (List (List ℕ))) (file : ℕ) → IsHeader h → IsVolumeOf h v → IsVolumeOf h w → Contains (file_numbers (placing_of h)) file →
    (u : List (List (List ℕ))) × IsJoin h v w file u
join h v w file is is_v is_w among =
    let volumes : ℕ → List (List (List ℕ)) = one_of_two v w file in
    let each : (other : ℕ) → IsVolumeOf h (volumes other) = λ other. either (other == file) in
    let all = whole_is h volumes is (λ other _. each other) in (
      made h (whole_sample h volumes),
      join_is h v w file (made h (whole_sample h volumes)) among all
          (λ one. (λ i. made h (λ field p. sample_of h (choice (file_at h p == file) one i) field p)) ∙ made_again h v is_v),
    )
  where
    either : (b : Bool) → IsVolumeOf h (cond b w v)
    either true = is_w
    either false = is_v

    choice : (b : Bool) → v ≡ w → cond b w v ≡ v
    choice true one = sym one
    choice false one = refl

-- each volume is that of its raw bytes
pub raw_is : (h : HeaderValue) (volume : List (List (List ℕ))) → IsVolumeOf h volume → (bytes : List ℕ) × ((length bytes ≡ volume_bytes h) × (volume_of_raw h bytes ≡ volume))
raw_is h volume is =
    let sizes : List ℕ = map sample_bytes h.fields in
    let n : ℕ = length (points h.box) in
    (raw_of volume, (length-raw_of sizes n volume is ∙ mul_comm (sum sizes) n, volume_of-raw_of sizes n volume is))
