-- The blocks that a hall keeps of an answer are those that the rounds put.
use Rattle.std.proofs.Common.{◌≡◌, ℕ, zero, suc, ◌+◌, ◌-◌, ◌<◌, ◌≤◌, Bool, true, false, cond, ◌&&◌, nat_eq, not, List, [], ◌∷◌, length, map, take, drop, filter, All, Some, None, Option, refl, sym, ap, ◌∙◌, subst, arith, inl, inr}
use Rattle.std.specs.List.{AllByRecursion, IsDistinct, range_with_len}
use Rattle.std.specs.Map.{keys_of}
use Rattle.std.proofs.lemmas.Bool.{cases_lt}
use Rattle.std.proofs.lemmas.List.{drop-map, length-drop, length-map, take-append-drop}
use Rattle.std.proofs.lemmas.List.Elements.{All-cons, All-head, All-nil, All-tail}
use Rattle.std.proofs.lemmas.Map.Keys.{IsDistinct-cons, IsDistinct-head, IsDistinct-tail}
use Rattle.idx_header.specs.Header.{HeaderValue, block_count}
use Rattle.idx_cache.specs.Cached.{put_all}
use Rattle.idx_cache.proofs.Lists.{put_all-only_last}
use Rattle.idx_hall.specs.declared.key.Key.{Key}
use Rattle.idx_hall.specs.Posts.{bytes_at, is_newest}
use Rattle.idx_hall.specs.declared.block_name.BlockName.{BlockName}
use Rattle.idx_hall.specs.Hall.{HallValue, after_fill, key_eq, name_eq, name_of, named, named_pairs, with_pairs}
use Rattle.idx_hall.proofs.KeyLemmas.{key_eq-same, name_laws}
use Rattle.idx_plan.specs.Needed.{is_needed, key_of, needed_keys}
use Rattle.idx_plan.specs.declared.ask.Ask.{Ask}
use Rattle.idx_query.specs.Blocks.{lacking}
use Rattle.idx_query.specs.Rounds.{missed, with_bytes}

-- ---- keys that differ

none_apart : IsDistinct key_eq []
unfolding IsDistinct
none_apart = tt

-- blocks that differ have keys that differ
keys_differ : (ask : Ask) (a b : ℕ) → a < b → (same : Bool) → key_eq (key_of ask a) (key_of ask b) ≡ same → same ≡ false
keys_differ ask a b below true is = let one : a ≡ b = ap (λ (k : Key). k.block) (key_eq-same (key_of ask a) (key_of ask b) is) in absurd (omega (arith, one, below))
keys_differ ask a b below false is = refl

-- a block's key is none of those of some blocks behind it
before_others : (ask : Ask) (p : ℕ → Bool) (b a n : ℕ) → b < a → AllByRecursion (λ y. key_eq (key_of ask b) y ≡ false) (map (key_of ask) (filter p (range_with_len a n)))
before_others ask p b a zero below = tt
before_others ask p b a (suc n) below =
    let later = before_others ask p b (a + 1) n (omega (arith, below)) in
    elim (p a) as (λ s. AllByRecursion (λ y. key_eq (key_of ask b) y ≡ false) (map (key_of ask) (cond s (a ∷ filter p (range_with_len (a + 1) n)) (filter p (range_with_len (a + 1) n))))) [
      | true ↦ (keys_differ ask b a below (key_eq (key_of ask b) (key_of ask a)) refl, later)
      | false ↦ later
    ]

-- the keys of some of the blocks from one on differ
some-apart : (ask : Ask) (p : ℕ → Bool) (a n : ℕ) → IsDistinct key_eq (map (key_of ask) (filter p (range_with_len a n)))
some-apart ask p a zero = none_apart
some-apart ask p a (suc n) =
    let later = some-apart ask p (a + 1) n in
    elim (p a) as (λ s. IsDistinct key_eq (map (key_of ask) (cond s (a ∷ filter p (range_with_len (a + 1) n)) (filter p (range_with_len (a + 1) n))))) [
      | true ↦ IsDistinct-cons key_eq (key_of ask a) (map (key_of ask) (filter p (range_with_len (a + 1) n))) (before_others ask p a (a + 1) n (omega arith)) later
      | false ↦ later
    ]

-- the keys of the needed blocks differ
pub needed-apart : (h : HeaderValue) (ask : Ask) → IsDistinct key_eq (needed_keys h ask)
needed-apart h ask = some-apart ask (is_needed h ask) 0 (block_count h)

all_missed : (P : Key → Type 0) (keys : List Key) (found : List (Option (List ℕ))) → AllByRecursion P keys → AllByRecursion P (missed keys found)
all_missed P [] found a = tt
all_missed P (key ∷ keys) [] a = tt
all_missed P (key ∷ keys) (None ∷ found) a = (a.0, all_missed P keys found a.1)
all_missed P (key ∷ keys) (Some bytes ∷ found) a = all_missed P keys found a.1

-- of keys that differ those of which nothing was found differ
pub missed-apart : (keys : List Key) (found : List (Option (List ℕ))) → IsDistinct key_eq keys → IsDistinct key_eq (missed keys found)
missed-apart [] found d = none_apart
missed-apart (key ∷ keys) [] d = none_apart
missed-apart (key ∷ keys) (None ∷ found) d =
    IsDistinct-cons key_eq key (missed keys found) (all_missed (λ y. key_eq key y ≡ false) keys found (IsDistinct-head key_eq key keys d)) (missed-apart keys found (IsDistinct-tail key_eq key keys d))
missed-apart (key ∷ keys) (Some bytes ∷ found) d = missed-apart keys found (IsDistinct-tail key_eq key keys d)

-- without the first n they still do
pub drop-apart : (n : ℕ) (keys : List Key) → IsDistinct key_eq keys → IsDistinct key_eq (drop n keys)
drop-apart zero keys d = d
drop-apart (suc n) [] d = d
drop-apart (suc n) (key ∷ keys) d = drop-apart n keys (IsDistinct-tail key_eq key keys d)

all_taken : (P : Key → Type 0) (n : ℕ) (keys : List Key) → AllByRecursion P keys → AllByRecursion P (take n keys)
all_taken P zero keys a = tt
all_taken P (suc n) [] a = tt
all_taken P (suc n) (key ∷ keys) a = (a.0, all_taken P n keys a.1)

-- so do the first n
pub take-apart : (n : ℕ) (keys : List Key) → IsDistinct key_eq keys → IsDistinct key_eq (take n keys)
take-apart zero keys d = none_apart
take-apart (suc n) [] d = none_apart
take-apart (suc n) (key ∷ keys) d =
    IsDistinct-cons key_eq key (take n keys) (all_taken (λ y. key_eq key y ≡ false) n keys (IsDistinct-head key_eq key keys d)) (take-apart n keys (IsDistinct-tail key_eq key keys d))

-- ---- what is said of each key

-- what holds of each key holds of each of which nothing was found
pub missed-all : (P : Key → Type 0) (keys : List Key) (found : List (Option (List ℕ))) → All P keys → All P (missed keys found)
missed-all P [] found a = All-nil P
missed-all P (key ∷ keys) [] a = All-nil P
missed-all P (key ∷ keys) (None ∷ found) a = All-cons P key (missed keys found) (All-head P key keys a) (missed-all P keys found (All-tail P key keys a))
missed-all P (key ∷ keys) (Some bytes ∷ found) a = missed-all P keys found (All-tail P key keys a)

of_own_keys : (P : Key → Type 0) (pairs : List (Key × List ℕ)) → All P (map (λ pair. pair.0) pairs) → All (λ (pair : Key × List ℕ). P pair.0) pairs
of_own_keys P [] a = All-nil (λ (pair : Key × List ℕ). P pair.0)
of_own_keys P (pair ∷ pairs) a =
    All-cons (λ (pair : Key × List ℕ). P pair.0) pair pairs (All-head P pair.0 (map (λ pair. pair.0) pairs) a) (of_own_keys P pairs (All-tail P pair.0 (map (λ pair. pair.0) pairs) a))

-- what holds of each key holds of the key of each pair
pub keyed : (P : Key → Type 0) (pairs : List (Key × List ℕ)) (keys : List Key) → map (λ pair. pair.0) pairs ≡ keys → All P keys → All (λ (pair : Key × List ℕ). P pair.0) pairs
keyed P pairs keys same a = of_own_keys P pairs (subst (All P) (sym same) a)

-- tests that agree on each of some blocks find as many lacking
pub lacking-agree : (f g : ℕ → Bool) (P : ℕ → Type 0) (same : (b : ℕ) → P b → f b ≡ g b) (blocks : List ℕ) → All P blocks → lacking f blocks ≡ lacking g blocks
lacking-agree f g P same blocks a = ap length (agree blocks a)
  where
    agree : (blocks : List ℕ) → All P blocks → filter (λ block. not (f block)) blocks ≡ filter (λ block. not (g block)) blocks
    agree [] a = refl
    agree (b ∷ blocks) a = λ i. cond (not (same b (All-head P b blocks a) i)) (b ∷ agree blocks (All-tail P b blocks a) i) (agree blocks (All-tail P b blocks a) i)

-- ---- what was loaded

-- the bytes of a pair are those that are stored for its key
abbrev IsLoaded : List (List (List ℕ)) → Key × List ℕ → Type 0
IsLoaded t pair = pair.1 ≡ bytes_at t pair.0.field pair.0.block

own_bytes : (t : List (List (List ℕ))) (pairs : List (Key × List ℕ)) → All (IsLoaded t) pairs → pairs ≡ with_bytes t (map (λ pair. pair.0) pairs)
own_bytes t [] a = refl
own_bytes t (pair ∷ pairs) a = λ i. (pair.0, All-head (IsLoaded t) pair pairs a i) ∷ own_bytes t pairs (All-tail (IsLoaded t) pair pairs a) i

-- pairs of these keys with the bytes that are stored are the keys with their bytes
pub loaded-are : (t : List (List (List ℕ))) (pairs : List (Key × List ℕ)) (keys : List Key) → map (λ pair. pair.0) pairs ≡ keys → All (λ (pair : Key × List ℕ). pair.1 ≡ bytes_at t pair.0.field pair.0.block) pairs → pairs ≡ with_bytes t keys
loaded-are t pairs keys same a = own_bytes t pairs a ∙ ap (with_bytes t) same

-- ---- what is put

no_names : IsDistinct name_eq []
unfolding IsDistinct
no_names = tt

other_name : (number : ℕ) (a b : Key) → key_eq a b ≡ false → name_eq (name_of number a) (name_of number b) ≡ false
other_name number a b other = elim (nat_eq number number) as (λ s. (s && key_eq a b) ≡ false) [
  | true ↦ other
  | false ↦ refl
]

pub other_names : (number : ℕ) (key : Key) (keys : List Key) → AllByRecursion (λ y. key_eq key y ≡ false) keys → AllByRecursion (λ y. name_eq (name_of number key) y ≡ false) (named number keys)
other_names number key [] a = tt
other_names number key (k ∷ keys) a = (other_name number key k a.0, other_names number key keys a.1)

-- the names of keys that differ differ
pub names-apart : (number : ℕ) (keys : List Key) → IsDistinct key_eq keys → IsDistinct name_eq (named number keys)
names-apart number [] d = no_names
names-apart number (key ∷ keys) d =
    IsDistinct-cons name_eq (name_of number key) (named number keys) (other_names number key keys (IsDistinct-head key_eq key keys d)) (names-apart number keys (IsDistinct-tail key_eq key keys d))

pub keys_named : (number : ℕ) (pairs : List (Key × List ℕ)) → keys_of (named_pairs number pairs) ≡ named number (map (λ pair. pair.0) pairs)
keys_named number [] = refl
keys_named number (pair ∷ pairs) = ap (λ names. name_of number pair.0 ∷ names) (keys_named number pairs)

drop_names : (n : ℕ) (names : List BlockName) → IsDistinct name_eq names → IsDistinct name_eq (drop n names)
drop_names zero names d = d
drop_names (suc n) [] d = d
drop_names (suc n) (name ∷ names) d = drop_names n names (IsDistinct-tail name_eq name names d)

-- of many pairs with names that differ it is enough to put the last ones
last_put : (cap : ℕ) (pairs old : List (BlockName × List ℕ)) → 0 < cap → IsDistinct name_eq (keys_of pairs) → put_all name_eq cap (drop (length pairs - cap) pairs) old ≡ put_all name_eq cap pairs old
last_put cap pairs old some d = elim (cases_lt cap (length pairs)) [
  | inl more ↦
      let enough : cap ≤ length (drop (length pairs - cap) pairs) = omega (arith, length-drop (length pairs - cap) pairs, more) in
      let apart : IsDistinct name_eq (keys_of (drop (length pairs - cap) pairs)) = subst (IsDistinct name_eq) (drop-map (λ pair. pair.0) (length pairs - cap) pairs) (drop_names (length pairs - cap) (keys_of pairs) d) in
      sym (put_all-only_last name_laws cap (take (length pairs - cap) pairs) (drop (length pairs - cap) pairs) old some enough apart)
      ∙ ap (λ l. put_all name_eq cap l old) (take-append-drop (length pairs - cap) pairs)
  | inr few ↦ let none : length pairs - cap ≡ 0 = omega (arith, few) in ap (λ n. put_all name_eq cap (drop n pairs) old) none
]

-- of the missing blocks it is enough to fill with the last ones, as many as there may be
pub last-enough : (number : ℕ) (pairs : List (Key × List ℕ)) (h : HallValue) → 0 < h.cache.cap → IsDistinct key_eq (map (λ pair. pair.0) pairs) →
    after_fill number (drop (length pairs - h.cache.cap) pairs) h ≡ after_fill number pairs h
last-enough number pairs h some d = elim (is_newest h.board number) as (λ b. cond b (with_pairs h (put_all name_eq h.cache.cap (named_pairs number (drop (length pairs - h.cache.cap) pairs)) h.cache.pairs)) h
    ≡ cond b (with_pairs h (put_all name_eq h.cache.cap (named_pairs number pairs) h.cache.pairs)) h) [
      | true ↦
          let many : length (named_pairs number pairs) ≡ length pairs = length-map pairs (λ pair. (name_of number pair.0, pair.1)) in
          let apart : IsDistinct name_eq (keys_of (named_pairs number pairs)) = subst (IsDistinct name_eq) (sym (keys_named number pairs)) (names-apart number (map (λ pair. pair.0) pairs) d) in
          ap (λ l. with_pairs h (put_all name_eq h.cache.cap l h.cache.pairs)) (sym (drop-map (λ pair. (name_of number pair.0, pair.1)) (length pairs - h.cache.cap) pairs) ∙ ap (λ n. drop (n - h.cache.cap) (named_pairs number pairs)) (sym many))
          ∙ ap (with_pairs h) (last_put h.cache.cap (named_pairs number pairs) h.cache.pairs some apart)
      | false ↦ refl
    ]
