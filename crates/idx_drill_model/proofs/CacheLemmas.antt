-- The cache of a drill from level to level: what is missing of a level are its new blocks, and they are all that is put.
use Rattle.std.proofs.Common.{◌≡◌, ℕ, zero, suc, ◌+◌, ◌<◌, ◌≤◌, Bool, true, false, cond, eqb, leb, List, [], ◌∷◌, length, map, All, Option, Some, None, refl, sym, ap, ◌∙◌, subst, ⊎_elim, arith}
use Rattle.std.specs.List.{AllByRecursion, range_with_len}
use Rattle.std.specs.Option.{option_map_or}
use Rattle.std.specs.Map.{keys_of, lookup, remove_entry}
use Rattle.std.proofs.lemmas.Bool.{and_right, cases_lt, cond-false, cond-true, eq-eqb, le-leb, lt-leb, ne_eqb}
use Rattle.std.proofs.lemmas.List.Elements.{All-cons, All-head, All-nil, All-tail, All-weaker}
use Rattle.std.proofs.lemmas.List.FromFn.{length-range_with_len}
use Rattle.idx_cache.specs.Cached.{found, put_all, raise_all, raised}
use Rattle.idx_cache.proofs.Keyed.{lookup_apart, no_entry}
use Rattle.idx_cache.proofs.Lists.{All-put_all}
use Rattle.idx_hall.specs.Posts.{Post, is_newest}
use Rattle.idx_hall.specs.Hall.{HallValue, after_fill, after_look, key_eq, name_eq, name_of, named, named_pairs, noted, with_pairs}
use Rattle.idx_hall.specs.declared.key.Key.{Key}
use Rattle.idx_hall.specs.declared.block_name.BlockName.{BlockName}
use Rattle.idx_query.specs.Rounds.{IsRound, missed, missed_in}
use Rattle.idx_events.specs.Queries.{found_in, misses}
use Rattle.idx_drill_model.specs.Drill.{drill_bits, drill_capacity}
use Rattle.idx_drill_model.specs.Blocks.{blocks_at, blocks_below, drill_key, new_blocks}
use Rattle.idx_drill_model.specs.Cache.{CacheAt, IsBlockBelow, IsFirstBlock, IsOnePost}
use Rattle.idx_drill_model.proofs.RoundLemmas.{more-below, new-coarse, new-fine}

-- ---- blocks that are not cached

-- the name of a block of the drill's post
abbrev drill_name : ℕ → BlockName
drill_name block = name_of 0 (drill_key block)

-- a block that is not below the limit has another name than each below it
other-name : (limit block : ℕ) (pair : BlockName × List ℕ) → limit ≤ block → IsBlockBelow limit pair → name_eq (drill_name block) pair.0 ≡ false
other-name limit block pair past is =
    let apart : eqb block pair.0.key.block ≡ false = ne_eqb block pair.0.key.block (λ same. omega (arith, same, is.block, past)) in
    and_right (eqb 0 pair.0.post) (key_eq (drill_key block) pair.0.key)
    (and_right (eqb 0 pair.0.key.time) _ (and_right (eqb 0 pair.0.key.field) (eqb block pair.0.key.block) apart))

other-names : (limit block : ℕ) (pairs : List (BlockName × List ℕ)) → limit ≤ block → All (IsBlockBelow limit) pairs → AllByRecursion (λ y. name_eq (drill_name block) y ≡ false) (keys_of pairs)
other-names limit block [] past all = tt
other-names limit block (pair ∷ pairs) past all = (
  other-name limit block pair past (All-head (IsBlockBelow limit) pair pairs all),
  other-names limit block pairs past (All-tail (IsBlockBelow limit) pair pairs all),
)

not-found : (limit block : ℕ) (pairs : List (BlockName × List ℕ)) → limit ≤ block → All (IsBlockBelow limit) pairs → lookup (name_eq (drill_name block)) pairs ≡ None
not-found limit block pairs past all = lookup_apart (name_eq (drill_name block)) pairs (other-names limit block pairs past all)

not-raised : (limit block : ℕ) (pairs : List (BlockName × List ℕ)) → limit ≤ block → All (IsBlockBelow limit) pairs → raised name_eq (drill_name block) pairs ≡ pairs
not-raised limit block pairs past all =
    ap (λ (o : Option (BlockName × List ℕ)). option_map_or (λ (p : BlockName × List ℕ). p ∷ remove_entry (name_eq (drill_name block)) pairs) o pairs) (no_entry (name_eq (drill_name block)) pairs (not-found limit block pairs past all))

-- ---- what a look finds

-- blocks from a limit on, and blocks below one
abbrev AreFrom : ℕ → List ℕ → Type 0
AreFrom limit blocks = AllByRecursion (λ block. limit ≤ block) blocks

abbrev AreBelow : ℕ → List ℕ → Type 0
AreBelow limit blocks = AllByRecursion (λ block. block < limit) blocks

range-from : (limit a m : ℕ) → limit ≤ a → AreFrom limit (range_with_len a m)
range-from limit a zero from = tt
range-from limit a (suc m) from = (from, range-from limit (a + 1) m (omega arith))

range-below : (limit a m : ℕ) → a + m ≤ limit → AreBelow limit (range_with_len a m)
range-below limit a zero to = tt
range-below limit a (suc m) to = (omega arith, range-below limit (a + 1) m (omega arith))

all-missing : (limit : ℕ) (blocks : List ℕ) (pairs : List (BlockName × List ℕ)) → AreFrom limit blocks → All (IsBlockBelow limit) pairs → misses blocks (noted (named 0 (map drill_key blocks)) pairs) ≡ blocks
all-missing limit [] pairs past all = refl
all-missing limit (block ∷ blocks) pairs past all =
    ap (λ (o : Option (List ℕ)). misses (block ∷ blocks) (o ∷ noted (named 0 (map drill_key blocks)) (raised name_eq (drill_name block) pairs))) (not-found limit block pairs past.0 all)
    ∙ ap (λ (ps : List (BlockName × List ℕ)). block ∷ misses blocks (noted (named 0 (map drill_key blocks)) ps)) (not-raised limit block pairs past.0 all)
    ∙ ap (λ bs. block ∷ bs) (all-missing limit blocks pairs past.1 all)

none-raised : (limit : ℕ) (blocks : List ℕ) (pairs : List (BlockName × List ℕ)) → AreFrom limit blocks → All (IsBlockBelow limit) pairs → raise_all name_eq (named 0 (map drill_key blocks)) pairs ≡ pairs
none-raised limit [] pairs past all = refl
none-raised limit (block ∷ blocks) pairs past all =
    ap (λ (ps : List (BlockName × List ℕ)). raise_all name_eq (named 0 (map drill_key blocks)) ps) (not-raised limit block pairs past.0 all)
    ∙ none-raised limit blocks pairs past.1 all

-- the missed keys are those of the missing blocks
missed-keys : (blocks : List ℕ) (found : List (Option (List ℕ))) → missed (map drill_key blocks) found ≡ map drill_key (misses blocks found)
missed-keys [] found = refl
missed-keys (block ∷ blocks) [] = refl
missed-keys (block ∷ blocks) (None ∷ found) = ap (λ (ks : List Key). drill_key block ∷ ks) (missed-keys blocks found)
missed-keys (block ∷ blocks) (Some bytes ∷ found) = missed-keys blocks found

-- ---- the blocks of a level

blocks-coarse : (n l : ℕ) → l ≤ drill_bits n → blocks_at n l ≡ 0 ∷ []
blocks-coarse n l coarse = cond-true (leb l (drill_bits n)) (0 ∷ []) (range_with_len (blocks_below n l) (blocks_below n l)) (le-leb l (drill_bits n) coarse)

blocks-fine : (n l : ℕ) → drill_bits n < l → blocks_at n l ≡ range_with_len (blocks_below n l) (blocks_below n l)
blocks-fine n l fine = cond-false (leb l (drill_bits n)) (0 ∷ []) (range_with_len (blocks_below n l) (blocks_below n l)) (lt-leb l (drill_bits n) fine)

-- what a look at some blocks finds missing and leaves
record IsLook (pairs : List (BlockName × List ℕ)) (blocks new : List ℕ) : Type 0 where
  missing : misses blocks (noted (named 0 (map drill_key blocks)) pairs) ≡ new
  same : raise_all name_eq (named 0 (map drill_key blocks)) pairs ≡ pairs

look-past : (limit : ℕ) (pairs : List (BlockName × List ℕ)) (blocks : List ℕ) → AreFrom limit blocks → All (IsBlockBelow limit) pairs → IsLook pairs blocks blocks
look-past limit pairs blocks past all = record { missing = all-missing limit blocks pairs past all; same = none-raised limit blocks pairs past all }

look-first : (pairs : List (BlockName × List ℕ)) → IsFirstBlock pairs → IsLook pairs (0 ∷ []) []
look-first pairs is = subst (λ (ps : List (BlockName × List ℕ)). IsLook ps (0 ∷ []) []) (sym is.only) (record { missing = refl; same = refl })

look-at : (n l : ℕ) (h : HallValue) → CacheAt n l h → IsLook h.cache.pairs (blocks_at n l) (new_blocks n l)
look-at n zero h at =
    subst (λ (bs : List ℕ). IsLook h.cache.pairs bs (0 ∷ [])) (sym (blocks-coarse n 0 (omega arith)))
    (look-past 0 h.cache.pairs (0 ∷ []) (omega arith, tt) at.cached)
look-at n (suc l) h at = ⊎_elim
    (λ (fine : drill_bits n < suc l).
    subst (λ (bs : List ℕ). IsLook h.cache.pairs bs (new_blocks n (suc l))) (sym (blocks-fine n (suc l) fine))
    (subst (λ (bs : List ℕ). IsLook h.cache.pairs (range_with_len (blocks_below n (suc l)) (blocks_below n (suc l))) bs) (sym (new-fine n l fine))
    (look-past (blocks_below n (suc l)) h.cache.pairs (range_with_len (blocks_below n (suc l)) (blocks_below n (suc l)))
    (range-from (blocks_below n (suc l)) (blocks_below n (suc l)) (blocks_below n (suc l)) (omega arith)) at.cached)))
    (λ (coarse : suc l ≤ drill_bits n).
    subst (λ (bs : List ℕ). IsLook h.cache.pairs bs (new_blocks n (suc l))) (sym (blocks-coarse n (suc l) coarse))
    (subst (λ (bs : List ℕ). IsLook h.cache.pairs (0 ∷ []) bs) (sym (new-coarse n l coarse))
    (look-first h.cache.pairs (at.first (omega arith) coarse))))
    (cases_lt (drill_bits n) (suc l))

-- ---- what is missing of a level

-- by the numbers of its blocks
pub missing-new : (n l : ℕ) (h : HallValue) → CacheAt n l h → misses (blocks_at n l) (found_in (Some 0) (map drill_key (blocks_at n l)) h) ≡ new_blocks n l
missing-new n l h at = (look-at n l h at).missing

-- by their keys
pub missed-new : (n l : ℕ) (h : HallValue) → CacheAt n l h → missed_in 0 (map drill_key (blocks_at n l)) h ≡ map drill_key (new_blocks n l)
missed-new n l h at =
    missed-keys (blocks_at n l) (noted (named 0 (map drill_key (blocks_at n l))) h.cache.pairs)
    ∙ ap (map drill_key) (missing-new n l h at)

-- ---- the first level

pub cache-empty : (n : ℕ) (h : HallValue) → IsOnePost h.board → h.cache.cap ≡ drill_capacity → h.cache.pairs ≡ [] → CacheAt n 0 h
cache-empty n h board room none = record {
  board = board;
  room = room;
  cached = subst (λ (ps : List (BlockName × List ℕ)). All (IsBlockBelow 0) ps) (sym none) (All-nil (IsBlockBelow 0));
  first = λ some coarse. absurd (omega arith);
}

-- ---- the next level

below-next : (n l : ℕ) → AreBelow (blocks_below n (l + 1)) (new_blocks n l)
below-next n zero = (omega (arith, more-below n 0), tt)
below-next n (suc l) = ⊎_elim
    (λ (fine : drill_bits n < suc l).
    let count = ap length (new-fine n l fine) ∙ length-range_with_len (blocks_below n (suc l)) (blocks_below n (suc l)) in
    subst (λ (bs : List ℕ). AreBelow (blocks_below n (suc l + 1)) bs) (sym (new-fine n l fine))
    (range-below (blocks_below n (suc l + 1)) (blocks_below n (suc l)) (blocks_below n (suc l)) (omega (arith, count, more-below n (suc l)))))
    (λ (coarse : suc l ≤ drill_bits n). subst (λ (bs : List ℕ). AreBelow (blocks_below n (suc l + 1)) bs) (sym (new-coarse n l coarse)) tt)
    (cases_lt (drill_bits n) (suc l))

weaker : (limit more : ℕ) → limit ≤ more → (pair : BlockName × List ℕ) → IsBlockBelow limit pair → IsBlockBelow more pair
weaker limit more less pair is = record { post = is.post; time = is.time; field = is.field; block = omega (arith, is.block) }

-- what was cached lies below the new blocks too
cached-next : (n l : ℕ) (pairs : List (BlockName × List ℕ)) → All (IsBlockBelow (blocks_below n l)) pairs → All (IsBlockBelow (blocks_below n (l + 1))) pairs
cached-next n l pairs all =
    All-weaker (IsBlockBelow (blocks_below n l)) (IsBlockBelow (blocks_below n (l + 1))) (weaker (blocks_below n l) (blocks_below n (l + 1)) (omega (arith, more-below n l))) pairs all

-- pairs by the blocks of their keys
named-below : (limit : ℕ) (pairs : List (Key × List ℕ)) (blocks : List ℕ) → map (λ pair. pair.0) pairs ≡ map drill_key blocks → AreBelow limit blocks → All (IsBlockBelow limit) (named_pairs 0 pairs)
named-below limit [] blocks keys below = All-nil (IsBlockBelow limit)
named-below limit (pair ∷ pairs) [] keys below = cc
named-below limit (pair ∷ pairs) (block ∷ blocks) keys below =
    let key : pair.0 ≡ drill_key block = cc in
    let rest : map (λ (p : Key × List ℕ). p.0) pairs ≡ map drill_key blocks = cc in
    All-cons (IsBlockBelow limit) (name_of 0 pair.0, pair.1) (named_pairs 0 pairs)
    (record {
      post = refl;
      time = ap (λ (k : Key). k.time) key;
      field = ap (λ (k : Key). k.field) key;
      block = subst (λ (k : Key). k.block < limit) (sym key) below.0;
    })
    (named-below limit pairs blocks rest below.1)

-- the drill's post is the newest of its time
is-newest : (board : List Post) → IsOnePost board → is_newest board 0 ≡ true
is-newest board is = subst (λ (b : List Post). is_newest b 0 ≡ true) (sym is.only) (newest-one is.post)
  where
    newest-one : (post : Post) → is_newest (post ∷ []) 0 ≡ true
    newest-one post = rw (eq-eqb post.time post.time refl) refl

-- nothing lies below block 0
empty-below : (pairs : List (BlockName × List ℕ)) → All (IsBlockBelow 0) pairs → pairs ≡ []
empty-below [] all = refl
empty-below (pair ∷ pairs) all = let is = All-head (IsBlockBelow 0) pair pairs all in absurd (omega (arith, is.block))

-- no level without new blocks is the first
some-level : (n l : ℕ) → new_blocks n l ≡ [] → 1 ≤ l
some-level n zero none = cc
some-level n (suc l) none = omega arith

-- where block 0 alone was needed, it is cached
first-filled : (n l : ℕ) (h : HallValue) → CacheAt n l h → (pairs : List (Key × List ℕ)) → map (λ pair. pair.0) pairs ≡ map drill_key (new_blocks n l) → l + 1 ≤ drill_bits n → IsFirstBlock (put_all name_eq h.cache.cap (named_pairs 0 pairs) h.cache.pairs)
first-filled n zero h at [] keys coarse = cc
first-filled n zero h at (pair ∷ other ∷ pairs) keys coarse = cc
first-filled n zero h at (pair ∷ []) keys coarse =
    let key : pair.0 ≡ drill_key 0 = cc in
    let none : h.cache.pairs ≡ [] = empty-below h.cache.pairs at.cached in
    record { bytes = pair.1; only = λ i. put_all name_eq (at.room i) ((name_of 0 (key i), pair.1) ∷ []) (none i) }
first-filled n (suc l) h at [] keys coarse = at.first (omega arith) (omega arith)
first-filled n (suc l) h at (pair ∷ pairs) keys coarse =
    let none : new_blocks n (suc l) ≡ [] = new-coarse n l (omega arith) in
    let wrong : pair.0 ∷ map (λ (p : Key × List ℕ). p.0) pairs ≡ [] = keys ∙ ap (map drill_key) none in cc

module _ (n l : ℕ) (h : HallValue) (at : CacheAt n l h) where
  -- a hall with these cached blocks
  next-cache : (pairs : List (BlockName × List ℕ)) → All (IsBlockBelow (blocks_below n (l + 1))) pairs → (l + 1 ≤ drill_bits n → IsFirstBlock pairs) → CacheAt n (l + 1) (with_pairs h pairs)
  next-cache pairs all first = record { board = at.board; room = at.room; cached = all; first = λ some coarse. first coarse }

  -- a look that misses nothing
  pub kept-look : new_blocks n l ≡ [] → CacheAt n (l + 1) (after_look 0 (map drill_key (blocks_at n l)) h)
  kept-look none =
      subst (λ (ps : List (BlockName × List ℕ)). CacheAt n (l + 1) (with_pairs h ps)) (sym (look-at n l h at).same)
      (next-cache h.cache.pairs (cached-next n l h.cache.pairs at.cached) (λ coarse. at.first (some-level n l none) (omega arith)))

  -- a look, and a fill with what it missed
  pub kept-fill : (pairs : List (Key × List ℕ)) → map (λ pair. pair.0) pairs ≡ map drill_key (new_blocks n l) → CacheAt n (l + 1) (after_fill 0 pairs (after_look 0 (map drill_key (blocks_at n l)) h))
  kept-fill pairs keys =
      let looked : HallValue = after_look 0 (map drill_key (blocks_at n l)) h in
      subst (λ (b : Bool). CacheAt n (l + 1) (cond b (with_pairs looked (put_all name_eq h.cache.cap (named_pairs 0 pairs) looked.cache.pairs)) looked)) (sym (is-newest h.board at.board))
      (subst (λ (ps : List (BlockName × List ℕ)). CacheAt n (l + 1) (with_pairs h (put_all name_eq h.cache.cap (named_pairs 0 pairs) ps))) (sym (look-at n l h at).same)
      (next-cache (put_all name_eq h.cache.cap (named_pairs 0 pairs) h.cache.pairs)
      (All-put_all name_eq (IsBlockBelow (blocks_below n (l + 1))) h.cache.cap (named_pairs 0 pairs) h.cache.pairs
      (named-below (blocks_below n (l + 1)) pairs (new_blocks n l) keys (below-next n l)) (cached-next n l h.cache.pairs at.cached))
      (first-filled n l h at pairs keys)))

  -- the round of the level's question, whatever it put
  pub kept-round : (post : Post) (after : HallValue) → IsRound post 0 (map drill_key (blocks_at n l)) h after → CacheAt n (l + 1) after
  kept-round post after round =
      subst (CacheAt n (l + 1)) (sym round.leaves) (kept-fill round.pairs (round.of_missed ∙ missed-new n l h at))
