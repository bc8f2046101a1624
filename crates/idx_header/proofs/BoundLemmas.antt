-- Bounds of what follows from a header's values.
use Rattle.std.proofs.Common.{◌≡◌, ℕ, ◌+◌, ◌-◌, ◌*◌, ◌^◌, ◌≤◌, ◌||◌, Bool, true, false, nat_lt, List, [], ◌∷◌, length, All, refl, arith, lit<}
use Rattle.std.specs.List.{list_any}
use Rattle.std.proofs.lemmas.Bool.Decides.{nat_tests}
use Rattle.std.proofs.lemmas.List.Elements.{All-cons, All-nil}
use Rattle.std.proofs.Math.Nat.{pow-le-pow_right}
use Rattle.idx_fields.specs.Field.{Field, sample_bytes}
use Rattle.idx_table.specs.Table.{table_bytes}
use Rattle.idx_header.specs.Faults.{are_no_block_bits, are_no_blocks_per_file}

-- there are at most 2^24 blocks
pub few_blocks : (digits bits : ℕ) → digits ≤ bits + 24 → 2 ^ (digits - bits) ≤ 2 ^ 24
few_blocks digits bits most = pow-le-pow_right (lit< tt) {i = digits - bits} {j = 24} (omega arith)

either-false : (a b : Bool) → (a || b) ≡ false → (a ≡ false) × (b ≡ false)
either-false false false h = (refl, refl)
either-false false true h = cc
either-false true b h = cc

-- ---- what is true of block bits that pass no limit
pub record AreBlockBits (bits : ℕ) (mask : List ℕ) (fields : List Field) : Type 0 where
  pub some : 1 ≤ bits
  pub few : bits ≤ 20
  pub within : bits ≤ length mask
  pub most : length mask ≤ bits + 24
  pub small : All (λ f. sample_bytes f * 2 ^ bits ≤ 2 ^ 24) fields

none_large : (bits : ℕ) (fields : List Field) → list_any (λ f. nat_lt (2 ^ 24) (sample_bytes f * 2 ^ bits)) fields ≡ false →
    All (λ f. sample_bytes f * 2 ^ bits ≤ 2 ^ 24) fields
none_large bits [] h = All-nil (λ f. sample_bytes f * 2 ^ bits ≤ 2 ^ 24)
none_large bits (f ∷ fs) h =
    let both = either-false (nat_lt (2 ^ 24) (sample_bytes f * 2 ^ bits)) (list_any (λ g. nat_lt (2 ^ 24) (sample_bytes g * 2 ^ bits)) fs) h in
    let here : sample_bytes f * 2 ^ bits ≤ 2 ^ 24 = grind (arith, nat_tests, both.0) in
    All-cons (λ g. sample_bytes g * 2 ^ bits ≤ 2 ^ 24) f fs here (none_large bits fs both.1)

pub block_bits : (bits : ℕ) (mask : List ℕ) (fields : List Field) → are_no_block_bits bits mask fields ≡ false → AreBlockBits bits mask fields
block_bits bits mask fields h =
    let four = either-false _ (list_any (λ f. nat_lt (2 ^ 24) (sample_bytes f * 2 ^ bits)) fields) h in
    record {
      some = grind (arith, nat_tests, four.0);
      few = grind (arith, nat_tests, four.0);
      within = grind (arith, nat_tests, four.0);
      most = grind (arith, nat_tests, four.0);
      small = none_large bits fields four.1;
    }

-- ---- and of blocks of a file
pub record AreBlocksPerFile (blocks : ℕ) (fields : List Field) : Type 0 where
  pub some : 1 ≤ blocks
  pub few : blocks ≤ 65536
  pub small : table_bytes (length fields * blocks) ≤ 2 ^ 24

pub blocks_per_file : (blocks : ℕ) (fields : List Field) → are_no_blocks_per_file blocks fields ≡ false → AreBlocksPerFile blocks fields
blocks_per_file blocks fields h =
    record { some = grind (arith, nat_tests, h); few = grind (arith, nat_tests, h); small = grind (arith, nat_tests, h) }
