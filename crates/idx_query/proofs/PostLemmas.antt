-- A post and the edition that it is, block by block.
use Rattle.std.proofs.Common.{◌≡◌, ℕ, ◌+◌, ◌-◌, ◌*◌, ◌/◌, ◌%◌, ◌^◌, ◌<◌, ◌≤◌, Bool, false, List, [], length, map, get_or, take, drop, sym, ap, ◌∙◌, subst, zero-add, arith, Some, None, Option}
use Rattle.std.specs.Prelude.{IfSome, option_map, slice_get, slice_index}
use Rattle.std.specs.List.{range_with_len}
use Rattle.std.proofs.lemmas.List.FromFn.{get_or-map-range_with_len}
use Rattle.std.proofs.lemmas.Nat.{div_below, pow-add, pow_pos}
use Rattle.idx_outside.specs.Shape.{Shape}
use Rattle.idx_geom.specs.Region.{points}
use Rattle.idx_hz.specs.Address.{hz_address}
use Rattle.idx_hz.specs.Answer.{answer}
use Rattle.idx_hz.proofs.AddressLaws.{hz_address-lt}
use Rattle.idx_header.specs.Header.{HeaderValue, block_count}
use Rattle.idx_layout.specs.Content.{sample_in}
use Rattle.idx_layout.specs.OfHeader.{placing_of}
use Rattle.idx_layout.specs.Shape.{shape_of}
use Rattle.idx_hall.specs.declared.key.Key.{Key}
use Rattle.idx_hall.specs.Posts.{Post, bytes_at, entry_at, has_at, table_of}
use Rattle.idx_hall.specs.Hall.{IsBlockOf}
use Rattle.idx_hall.specs.Calls.{AreBlocksOf}
use Rattle.idx_plan.specs.Answer.{answer_of}
use Rattle.idx_plan.specs.declared.ask.Ask.{Ask}
use Rattle.idx_query.specs.Steps.{AreFound, IsBlock, IsEditionOf}

-- ---- the samples of contents

-- the block of each address exists
exists : (h : HeaderValue) (p : List ℕ) → h.block_bits ≤ length h.mask → hz_address h.mask p / 2 ^ h.block_bits < block_count h
exists h p within =
    let split : length h.mask ≡ (length h.mask - h.block_bits) + h.block_bits = omega (arith, within) in
    let all : hz_address h.mask p < 2 ^ (length h.mask - h.block_bits) * 2 ^ h.block_bits =
    subst (λ m. hz_address h.mask p < m) (ap (λ m. 2 ^ m) split ∙ pow-add 2 (length h.mask - h.block_bits) h.block_bits) (hz_address-lt h.mask p) in
    div_below (hz_address h.mask p) (2 ^ h.block_bits) (block_count h) (pow_pos h.block_bits) all

-- contents that agree on the blocks that exist give the same answer
pub same_answer : (h : HeaderValue) (ask : Ask) (these those : ℕ → ℕ → List ℕ) → h.block_bits ≤ length h.mask →
    ((block : ℕ) → block < block_count h → these ask.field block ≡ those ask.field block) → answer_of h ask these ≡ answer_of h ask those
same_answer h ask these those within same =
    ap (λ samples. answer h.mask h.box samples ask.region ask.lo ask.hi) (λ i. map (λ p. at p i) (points h.box))
  where
    at : (p : List ℕ) → sample_in (placing_of h) these ask.field p ≡ sample_in (placing_of h) those ask.field p
    at p =
        let size : ℕ = slice_index (placing_of h).sizes ask.field in
        ap (λ (bytes : List ℕ). take size (drop (size * (hz_address h.mask p % 2 ^ h.block_bits)) bytes))
        (same (hz_address h.mask p / 2 ^ h.block_bits) (exists h p within))

-- ---- tables

-- a table has what its function gives
pub entry-table : {A : Type 0} (other : A) (s : Shape) (f : ℕ → ℕ → A) (field block : ℕ) → field < length s.lengths → block < s.blocks → entry_at other (table_of s f) field block ≡ f field block
entry-table other s f field block has exist =
    ap (λ row. get_or row block other) (get_or-map-range_with_len (λ k. map (f k) (range_with_len 0 s.blocks)) 0 (length s.lengths) field field [] has (zero-add field))
    ∙ get_or-map-range_with_len (f field) 0 s.blocks block block other exist (zero-add block)

-- what is known of a block by an edition, and by its post
pub by-edition : (s : Shape) (stored : Option (ℕ → ℕ → List ℕ)) (field block : ℕ) (bytes : List ℕ) → field < length s.lengths → block < s.blocks → IfSome (option_map (table_of s) stored) (λ t. bytes ≡ bytes_at t field block) → IfSome stored (λ f. bytes ≡ f field block)
by-edition s None field block bytes has exist known = tt
by-edition s (Some f) field block bytes has exist known = known ∙ entry-table [] s f field block has exist

pub by-post : (s : Shape) (stored : Option (ℕ → ℕ → List ℕ)) (field block : ℕ) (bytes : List ℕ) → field < length s.lengths → block < s.blocks → IfSome stored (λ f. bytes ≡ f field block) → IfSome (option_map (table_of s) stored) (λ t. bytes ≡ bytes_at t field block)
by-post s None field block bytes has exist known = tt
by-post s (Some f) field block bytes has exist known = known ∙ sym (entry-table [] s f field block has exist)

-- an answer by an edition's blocks is one by its post's
pub answer-known : (h : HeaderValue) (ask : Ask) (stored : Option (ℕ → ℕ → List ℕ)) (out : List ℕ) → h.block_bits ≤ length h.mask → ask.field < length (shape_of h).lengths → IfSome stored (λ f. out ≡ answer_of h ask f) → IfSome (option_map (table_of (shape_of h)) stored) (λ t. out ≡ answer_of h ask (bytes_at t))
answer-known h ask None out within has known = tt
answer-known h ask (Some f) out within has known =
    known ∙ sym (same_answer h ask (bytes_at (table_of (shape_of h) f)) f within (λ block exist. entry-table [] (shape_of h) f ask.field block has exist))

-- ---- the post of an edition

module _ {E : Type 0} (time : E → ℕ) (shape : E → Shape) (has : E → ℕ → ℕ → Bool) (stored : E → Option (ℕ → ℕ → List ℕ)) (s : Shape) (post : Post) (e : E) (is : IsEditionOf time shape has stored s post e) where
  pub stored-is : option_map (table_of s) (stored e) ≡ post.stored
  stored-is = ap (λ (p : Post). p.stored) is.is

  pub time-is : time e ≡ post.time
  time-is = ap (λ (p : Post). p.time) is.is

  pub has-is : (field block : ℕ) → field < length s.lengths → block < s.blocks → has e field block ≡ has_at post field block
  has-is field block there exist =
      sym (entry-table false s (has e) field block there exist) ∙ ap (λ (p : Post). has_at p field block) is.is

  -- what was found of keys of a field is its block
  pub found-are : (field n : ℕ) (keys : List Key) (found : List (Option (List ℕ))) → ((i : ℕ) (key : Key) → slice_get keys i ≡ Some key → key.field ≡ field) → n ≡ slice_index s.lengths field → AreBlocksOf s post keys found → AreFound n field (stored e) keys found
  found-are field n keys found fields many are i key bytes at_key at_bytes =
      let block : IsBlockOf s post (key, bytes) = are i key bytes at_key at_bytes in
      let of_field : key.field ≡ field = fields i key at_key in
      record {
        many = block.many ∙ ap (λ f. slice_index s.lengths f) of_field ∙ sym many;
        stored = subst (λ f. IfSome (stored e) (λ g. bytes ≡ g f key.block)) of_field
            (by-edition s (stored e) key.field key.block bytes block.field block.block
            (subst (λ (o : Option (List (List (List ℕ)))). IfSome o (λ t. bytes ≡ bytes_at t key.field key.block)) (sym stored-is) block.stored));
      }

  -- a loaded block is the post's
  pub block-is : (field n : ℕ) (pair : Key × List ℕ) → field < length s.lengths → n ≡ slice_index s.lengths field → pair.0.time ≡ post.time → pair.0.field ≡ field → pair.0.block < s.blocks → IsBlock n field (stored e) pair → IsBlockOf s post pair
  block-is field n pair there many of_time of_field exist is_block = record {
    time = of_time;
    field = subst (λ f. f < length s.lengths) (sym of_field) there;
    block = exist;
    many = is_block.many ∙ many ∙ ap (λ f. slice_index s.lengths f) (sym of_field);
    stored = subst (λ (o : Option (List (List (List ℕ)))). IfSome o (λ t. pair.1 ≡ bytes_at t pair.0.field pair.0.block)) stored-is
        (by-post s (stored e) pair.0.field pair.0.block pair.1 (subst (λ f. f < length s.lengths) (sym of_field) there) exist
        (subst (λ f. IfSome (stored e) (λ g. pair.1 ≡ g f pair.0.block)) (sym of_field) is_block.stored));
  }
