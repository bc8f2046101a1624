-- Rounds in a hall without a cached block: no round finds what an earlier one put.
use Rattle.std.proofs.Common.{◌≡◌, ℕ, Bool, true, false, List, [], ◌∷◌, ◌++◌, map, All, Some, None, Option, refl, sym, ap, ◌∙◌, subst}
use Rattle.std.specs.Prelude.{if◌then◌else◌}
use Rattle.std.specs.List.{AllByRecursion, IsDistinct, flat_map}
use Rattle.std.specs.Map.{keys_of}
use Rattle.std.proofs.lemmas.List.Elements.{All-cons, All-head, All-nil, All-tail}
use Rattle.std.proofs.lemmas.Map.Keys.{IsDistinct-head, IsDistinct-tail}
use Rattle.idx_outside.specs.Shape.{Shape}
use Rattle.idx_header.specs.Header.{HeaderValue}
use Rattle.idx_cache.specs.Cached.{cached, found, put_all, raise_all, raised}
use Rattle.idx_cache.proofs.Keyed.{absent_all, lookup_apart}
use Rattle.idx_cache.proofs.Lists.{All-put_all, All-raise_all, found-raise_all, found-raised}
use Rattle.idx_hall.specs.declared.key.Key.{Key}
use Rattle.idx_hall.specs.declared.block_name.BlockName.{BlockName}
use Rattle.idx_hall.specs.Posts.{Post, is_newest}
use Rattle.idx_hall.specs.Hall.{HallValue, after_look, hall, key_eq, name_eq, name_of, named, named_pairs, noted}
use Rattle.idx_hall.proofs.KeyLemmas.{key_laws, name_laws}
use Rattle.idx_plan.specs.Needed.{needed_keys}
use Rattle.idx_plan.specs.Rounds.{rounds}
use Rattle.idx_plan.specs.declared.ask.Ask.{Ask}
use Rattle.idx_plan.proofs.RoundLemmas.{rounds-joined}
use Rattle.idx_query.specs.Answered.{IsDone}
use Rattle.idx_query.specs.Rounds.{AreRounds, IsRound, missed, missed_in}
use Rattle.idx_query.specs.declared.report.Report.{Report}
use Rattle.idx_query.proofs.FillLemmas.{keys_named, needed-apart, other_names}

-- ---- keys that are behind others

apart_turned : (a b : Key) → key_eq a b ≡ false → key_eq b a ≡ false
apart_turned a b other = key_laws.symm b a ∙ other

drop_front : (Q : Key → Type 0) (keys rest : List Key) → AllByRecursion Q (keys ++ rest) → AllByRecursion Q rest
drop_front Q [] rest all = all
drop_front Q (k ∷ keys) rest all = drop_front Q keys rest all.1

-- each is none of some keys, and neither of one more
one_more : (k : Key) (keys rest : List Key) → AllByRecursion (λ y. key_eq k y ≡ false) rest → AllByRecursion (λ key. AllByRecursion (λ y. key_eq key y ≡ false) keys) rest
    → AllByRecursion (λ key. AllByRecursion (λ y. key_eq key y ≡ false) (k ∷ keys)) rest
one_more k keys [] away none = tt
one_more k keys (key ∷ rest) away none = ((apart_turned k key away.0, none.0), one_more k keys rest away.1 none.1)

none_of_none : (rest : List Key) → AllByRecursion (λ key. AllByRecursion (λ y. key_eq key y ≡ false) []) rest
none_of_none [] = tt
none_of_none (key ∷ rest) = (tt, none_of_none rest)

-- of keys that differ each is none of those in front of it
behind_all : (keys rest : List Key) → IsDistinct key_eq (keys ++ rest) → AllByRecursion (λ key. AllByRecursion (λ y. key_eq key y ≡ false) keys) rest
behind_all [] rest d = none_of_none rest
behind_all (k ∷ keys) rest d =
    one_more k keys rest (drop_front (λ y. key_eq k y ≡ false) keys rest (IsDistinct-head key_eq k (keys ++ rest) d)) (behind_all keys rest (IsDistinct-tail key_eq k (keys ++ rest) d))

rest_apart : (keys rest : List Key) → IsDistinct key_eq (keys ++ rest) → IsDistinct key_eq rest
rest_apart [] rest d = d
rest_apart (k ∷ keys) rest d = rest_apart keys rest (IsDistinct-tail key_eq k (keys ++ rest) d)

-- ---- keys of which nothing is cached

-- nothing is cached of any of the keys in the post of this number
abbrev Uncached : ℕ → List (BlockName × List ℕ) → List Key → Type 0
Uncached number pairs keys = AllByRecursion (λ key. found name_eq (name_of number key) pairs ≡ None) keys

first_ones : (number : ℕ) (pairs : List (BlockName × List ℕ)) (keys rest : List Key) → Uncached number pairs (keys ++ rest) → Uncached number pairs keys
first_ones number pairs [] rest none = tt
first_ones number pairs (key ∷ keys) rest none = (none.0, first_ones number pairs keys rest none.1)

last_ones : (number : ℕ) (pairs : List (BlockName × List ℕ)) (keys rest : List Key) → Uncached number pairs (keys ++ rest) → Uncached number pairs rest
last_ones number pairs [] rest none = none
last_ones number pairs (key ∷ keys) rest none = last_ones number pairs keys rest none.1

still_uncached : (number : ℕ) (name : BlockName) (pairs : List (BlockName × List ℕ)) (keys : List Key) → Uncached number pairs keys → Uncached number (raised name_eq name pairs) keys
still_uncached number name pairs [] none = tt
still_uncached number name pairs (key ∷ keys) none = (found-raised name_laws (name_of number key) name pairs ∙ none.0, still_uncached number name pairs keys none.1)

missed_step : (key : Key) (keys : List Key) (o : Option (List ℕ)) (found : List (Option (List ℕ))) → o ≡ None → missed keys found ≡ keys → missed (key ∷ keys) (o ∷ found) ≡ key ∷ keys
missed_step key keys None found none later = ap (λ (ks : List Key). key ∷ ks) later
missed_step key keys (Some bytes) found none later = cc none

-- all of them are missed
all_missed : (number : ℕ) (keys : List Key) (pairs : List (BlockName × List ℕ)) → Uncached number pairs keys → missed keys (noted (named number keys) pairs) ≡ keys
all_missed number [] pairs none = refl
all_missed number (key ∷ keys) pairs none =
    missed_step key keys (found name_eq (name_of number key) pairs) (noted (named number keys) (raised name_eq (name_of number key) pairs)) none.0
    (all_missed number keys (raised name_eq (name_of number key) pairs) (still_uncached number (name_of number key) pairs keys none.1))

-- ---- what a round leaves

pairs_all : (Q : BlockName → Type 0) (pairs : List (BlockName × List ℕ)) → AllByRecursion Q (keys_of pairs) → All (λ (pair : BlockName × List ℕ). Q pair.0) pairs
pairs_all Q [] all = All-nil (λ (pair : BlockName × List ℕ). Q pair.0)
pairs_all Q (pair ∷ pairs) all = All-cons (λ (p : BlockName × List ℕ). Q p.0) pair pairs all.0 (pairs_all Q pairs all.1)

keys_all : (Q : BlockName → Type 0) (pairs : List (BlockName × List ℕ)) → All (λ (pair : BlockName × List ℕ). Q pair.0) pairs → AllByRecursion Q (keys_of pairs)
keys_all Q [] all = tt
keys_all Q (pair ∷ pairs) all = (All-head (λ (p : BlockName × List ℕ). Q p.0) pair pairs all, keys_all Q pairs (All-tail (λ (p : BlockName × List ℕ). Q p.0) pair pairs all))

-- what is not cached, and not put, is not cached afterwards
put_other : (number cap : ℕ) (key : Key) (keys : List Key) (old : List (BlockName × List ℕ)) (put : List (Key × List ℕ)) → map (λ pair. pair.0) put ≡ keys → AllByRecursion (λ y. key_eq key y ≡ false) keys
    → found name_eq (name_of number key) old ≡ None → found name_eq (name_of number key) (put_all name_eq cap (named_pairs number put) (raise_all name_eq (named number keys) old)) ≡ None
put_other number cap key keys old put same away none =
    let Q : BlockName → Type 0 = (λ y. name_eq (name_of number key) y ≡ false) in
    let names : AllByRecursion Q (keys_of (named_pairs number put)) =
    subst (AllByRecursion Q) (sym (keys_named number put ∙ ap (named number) same)) (other_names number key keys away) in
    lookup_apart (name_eq (name_of number key)) (put_all name_eq cap (named_pairs number put) (raise_all name_eq (named number keys) old))
    (keys_all Q (put_all name_eq cap (named_pairs number put) (raise_all name_eq (named number keys) old))
    (All-put_all name_eq (λ (pair : BlockName × List ℕ). Q pair.0) cap (named_pairs number put) (raise_all name_eq (named number keys) old) (pairs_all Q (named_pairs number put) names)
    (All-raise_all name_eq (λ (pair : BlockName × List ℕ). Q pair.0) (named number keys) old (pairs_all Q old (absent_all (name_eq (name_of number key)) old none)))))

look_other : (number : ℕ) (key : Key) (keys : List Key) (old : List (BlockName × List ℕ)) → found name_eq (name_of number key) old ≡ None → found name_eq (name_of number key) (raise_all name_eq (named number keys) old) ≡ None
look_other number key keys old none = found-raise_all name_laws (name_of number key) (named number keys) old ∙ none

-- a round leaves nothing of the keys behind its own
round_other : (post : Post) (number : ℕ) (keys rest : List Key) (before after : HallValue) → IsRound post number keys before after → missed_in number keys before ≡ keys
    → AllByRecursion (λ key. AllByRecursion (λ y. key_eq key y ≡ false) keys) rest → Uncached number before.cache.pairs rest → Uncached number after.cache.pairs rest
round_other post number keys rest before after round all away none = subst (λ (h : HallValue). Uncached number h.cache.pairs rest) (sym round.leaves) (by (is_newest before.board number) rest away none)
  where
    left : Bool → HallValue
    left b = if b then hall before.shape before.board (cached (put_all name_eq before.cache.cap (named_pairs number round.pairs) (raise_all name_eq (named number keys) before.cache.pairs)) before.cache.cap) else after_look number keys before

    by : (b : Bool) (rest : List Key) → AllByRecursion (λ key. AllByRecursion (λ y. key_eq key y ≡ false) keys) rest → Uncached number before.cache.pairs rest → Uncached number (left b).cache.pairs rest
    by b [] away none = tt
    by true (key ∷ rest) away none = (put_other number before.cache.cap key keys before.cache.pairs round.pairs (round.of_missed ∙ all) away.0 none.0, by true rest away.1 none.1)
    by false (key ∷ rest) away none = (look_other number key keys before.cache.pairs none.0, by false rest away.1 none.1)

-- ---- all rounds

rounds_miss : (post : Post) (number : ℕ) (those : List (List Key)) (before after : HallValue) (missing : List Key) (holds : ℕ) → IsDistinct key_eq (flat_map (λ keys. keys) those)
    → Uncached number before.cache.pairs (flat_map (λ keys. keys) those) → AreRounds post number those before after missing holds → missing ≡ flat_map (λ keys. keys) those
rounds_miss post number [] before after missing holds d none are = are.1
rounds_miss post number (keys ∷ those) before after missing holds d none are =
    let rest = flat_map (λ (ks : List Key). ks) those in
    let all : missed_in number keys before ≡ keys = all_missed number keys before.cache.pairs (first_ones number before.cache.pairs keys rest none) in
    let later : are.1 ≡ rest =
    rounds_miss post number those are.0 after are.1 are.2 (rest_apart keys rest d)
    (round_other post number keys rest before are.0 are.3 all (behind_all keys rest d) (last_ones number before.cache.pairs keys rest none)) are.6 in
    are.4 ∙ (λ i. all i ++ later i)

none_cached : (number : ℕ) (keys : List Key) → Uncached number [] keys
none_cached number [] = tt
none_cached number (key ∷ keys) = (refl, none_cached number keys)

-- where nothing was cached, all needed keys were missing
pub fresh-missing : (h : HeaderValue) (ask : Ask) (shape : Shape) (board : List Post) (room : ℕ) (after : Option HallValue) (held_before held_after : ℕ) (report : Report)
    → (done : IsDone h ask (hall shape board (cached [] room)) after held_before held_after report) → done.missing ≡ needed_keys h ask
fresh-missing h ask shape board room after held_before held_after report done =
    let every : flat_map (λ (keys : List Key). keys) (rounds h ask) ≡ needed_keys h ask = rounds-joined h ask in
    rounds_miss done.post report.post (rounds h ask) (hall shape board (cached [] room)) done.left done.missing done.holds (subst (IsDistinct key_eq) (sym every) (needed-apart h ask))
    (none_cached report.post (flat_map (λ (keys : List Key). keys) (rounds h ask))) done.made
    ∙ every
