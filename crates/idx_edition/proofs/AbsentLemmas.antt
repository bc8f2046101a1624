-- A block without a point is zeros, one with a point is of a file, and its bytes are some.
use Rattle.std.proofs.Common.{◌≡◌, ℕ, zero, suc, ◌+◌, ◌*◌, ◌/◌, ◌^◌, ◌<◌, ◌≤◌, Bool, true, false, cond, List, [], ◌∷◌, ◌++◌, length, map, Some, None, refl, sym, ap, subst, ◌∙◌, arith, zero-add, lit≤}
use Rattle.std.specs.Prelude.{Option, find, filter, replicate, slice_get, slice_index, ◌||◌, ◌&&◌, ◌==◌}
use Rattle.std.specs.Option.{option_map_or}
use Rattle.std.specs.List.{flat_map, list_any, range_with_len}
use Rattle.std.proofs.Math.Nat.{div-eq_of_lt-le, mul-le-mul}
use Rattle.std.proofs.lemmas.Nat.{pow_pos}
use Rattle.std.proofs.lemmas.Bool.{eqb-true, eq-eqb}
use Rattle.std.proofs.lemmas.List.{replicate-append-replicate, get_or-map}
use Rattle.std.proofs.lemmas.List.FromFn.{get_or-range_with_len, length-range_with_len}
use Rattle.std.proofs.lemmas.Option.{slice_get-get_or}
use Rattle.idx_geom.specs.Region.{points}
use Rattle.idx_geom.specs.Volume.{sample_at}
use Rattle.idx_hz.specs.Address.{hz_address}
use Rattle.idx_fields.specs.Base.{base_bytes}
use Rattle.idx_fields.specs.declared.base.Base.{Base}
use Rattle.idx_fields.specs.declared.base.Base.TheVariants as bases
use Rattle.idx_fields.specs.Field.{Field, field_at, sample_bytes}
use Rattle.idx_header.specs.Header.{HeaderValue, IsHeader}
use Rattle.idx_layout.specs.Placing.{Placing, block_bytes, block_count, block_of_samples, file_numbers, file_of, is_present, stored_sample}
use Rattle.idx_layout.specs.OfHeader.{placing_of}
use Rattle.idx_layout.proofs.ListLemmas.{list_any-slice_get}

-- ---- absent blocks
-- what does not pass a weaker test is not found by a stronger one
find_nothing : {X : Type 0} (p q : X → Bool) (xs : List X) → ((x : X) → p x ≡ true → q x ≡ true) → list_any q xs ≡ false → find p xs ≡ None
find_nothing p q [] weaker none = refl
find_nothing {X = X} p q (x ∷ xs) weaker none = by_tests (p x) (q x) refl refl none (λ e. find_nothing p q xs weaker e)
  where
    by_tests : (b d : Bool) → p x ≡ b → q x ≡ d → (d || list_any q xs) ≡ false → (list_any q xs ≡ false → find p xs ≡ None) → cond b (Some x) (find p xs) ≡ None
    by_tests b true e f all more = let wrong : true ≡ false = all in absurd (cc)
    by_tests true false e f all more = let wrong : false ≡ true = sym f ∙ weaker x e in absurd (cc)
    by_tests false false e f all more = more all

-- each sample of an absent block is zeros
no_sample : (l : Placing) (size : ℕ) (samples : List (List ℕ)) (block address : ℕ) → is_present l block ≡ false → block * 2 ^ l.bits ≤ address → address < (block + 1) * 2 ^ l.bits →
    stored_sample l size samples address ≡ replicate size 0
no_sample l size samples block address absent from to =
    ap (λ (o : Option (List ℕ)). option_map_or (sample_at l.region samples) o (replicate size 0))
    (find_nothing (λ p. hz_address l.mask p == address) (λ p. hz_address l.mask p / 2 ^ l.bits == block) (points l.region)
    (λ p here. let same : hz_address l.mask p ≡ address = eqb-true (hz_address l.mask p) address here in
    eq-eqb (hz_address l.mask p / 2 ^ l.bits) block (ap (λ a. a / 2 ^ l.bits) same ∙ div-eq_of_lt-le (2 ^ l.bits) from to)) absent)

all_zeros : (f : ℕ → List ℕ) (size a n : ℕ) → ((k : ℕ) → a ≤ k → k < a + n → f k ≡ replicate size 0) → flat_map f (range_with_len a n) ≡ replicate (size * n) 0
all_zeros f size a zero none = let e : size * 0 ≡ 0 = omega arith in ap (λ n. replicate n 0) (sym e)
all_zeros f size a (suc n) none =
    let more : size + size * n ≡ size * suc n = omega arith in
    ap (λ s. s ++ flat_map f (range_with_len (a + 1) n)) (none a (omega arith) (omega arith))
    ∙ ap (λ s. replicate size 0 ++ s) (all_zeros f size (a + 1) n (λ k low high. none k (omega (arith, low)) (omega (arith, high))))
    ∙ replicate-append-replicate size (size * n) 0
    ∙ ap (λ n. replicate n 0) more

pub absent_zeros : (l : Placing) (size : ℕ) (samples : List (List ℕ)) (block : ℕ) → is_present l block ≡ false → block_of_samples l size samples block ≡ replicate (size * 2 ^ l.bits) 0
absent_zeros l size samples block absent =
    all_zeros (stored_sample l size samples) size (block * 2 ^ l.bits) (2 ^ l.bits) (λ k from to.
    no_sample l size samples block k absent from (omega (arith, to, one_more block (2 ^ l.bits))))
  where
    one_more : (a b : ℕ) → (a + 1) * b ≡ a * b + b
    one_more a b = grind arith

-- ---- files of present blocks
any_filter : (p t : ℕ → Bool) (xs : List ℕ) (k x : ℕ) → slice_get xs k ≡ Some x → t x ≡ true → p x ≡ true → list_any p (filter t xs) ≡ true
any_filter p t [] k x at passes here = let wrong : None ≡ Some x = at in absurd (cc)
any_filter p t (y ∷ ys) zero x at passes here =
    let same : y ≡ x = cc in
    ap (λ (b : Bool). list_any p (cond b (y ∷ filter t ys) (filter t ys))) (ap t same ∙ passes)
    ∙ ap (λ (b : Bool). b || list_any p (filter t ys)) (ap p same ∙ here)
any_filter p t (y ∷ ys) (suc k) x at passes here = by_test (t y) (any_filter p t ys k x at passes here)
  where
    or_true : (b c : Bool) → c ≡ true → (b || c) ≡ true
    or_true true c e = refl
    or_true false c e = e

    by_test : (b : Bool) → list_any p (filter t ys) ≡ true → list_any p (cond b (y ∷ filter t ys) (filter t ys)) ≡ true
    by_test true rest = or_true (p y) (list_any p (filter t ys)) rest
    by_test false rest = rest

range_at : (n k : ℕ) → k < n → slice_get (range_with_len 0 n) k ≡ Some k
range_at n k within =
    slice_get-get_or (range_with_len 0 n) k 0 (subst (λ m. k < m) (sym (length-range_with_len 0 n)) within)
    ∙ ap (λ x. Some x) (get_or-range_with_len 0 n k 0 within ∙ zero-add k)

-- the file of a present block is among the files
pub file_listed : (l : Placing) (block : ℕ) → block < block_count l → file_of l block ≤ block → is_present l block ≡ true →
    list_any (λ file. file == file_of l block) (file_numbers l) ≡ true
file_listed l block exists from present =
    let file : ℕ = file_of l block in
    any_filter (λ k. k == file) (λ k. list_any (λ b. is_present l b && (file_of l b == k)) (range_with_len 0 (block_count l))) (range_with_len 0 (block_count l)) file file
    (range_at (block_count l) file (omega (arith, from, exists)))
    (list_any-slice_get (λ b. is_present l b && (file_of l b == file)) (range_with_len 0 (block_count l)) block block (range_at (block_count l) block exists)
    (ap (λ (b : Bool). b && (file == file)) present ∙ eq-eqb file file refl))
    (eq-eqb file file refl)

-- ---- bytes of blocks
some_bytes : (base : Base) → 1 ≤ base_bytes base
some_bytes bases.Int8 = lit≤ tt
some_bytes bases.Uint8 = lit≤ tt
some_bytes bases.Int16 = lit≤ tt
some_bytes bases.Uint16 = lit≤ tt
some_bytes bases.Int32 = lit≤ tt
some_bytes bases.Uint32 = lit≤ tt
some_bytes bases.Float32 = lit≤ tt
some_bytes bases.Int64 = lit≤ tt
some_bytes bases.Uint64 = lit≤ tt
some_bytes bases.Float64 = lit≤ tt

pub some_block : (h : HeaderValue) (field : ℕ) → IsHeader h → field < length h.fields → 0 < block_bytes (placing_of h) field
some_block h field is within =
    let f : Field = field_at h.fields field in
    let count : 1 ≤ f.count = (is.fields.each field (field_at [] 0) within).count in
    let sample : 1 * 1 ≤ f.count * base_bytes f.base = mul-le-mul count (some_bytes f.base) in
    let power : 1 ≤ 2 ^ h.block_bits = omega (arith, pow_pos h.block_bits) in
    let size : slice_index (map sample_bytes h.fields) field ≡ sample_bytes f = get_or-map sample_bytes h.fields field (field_at [] 0) 0 within in
    let whole : 1 * 1 ≤ sample_bytes f * 2 ^ h.block_bits = mul-le-mul sample power in
    omega (arith, whole, ap (λ n. n * 2 ^ h.block_bits) size)
