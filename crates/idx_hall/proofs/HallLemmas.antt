-- What holds of a hall after each of its calls.
use Rattle.std.proofs.Common.{◌≡◌, ◌≢◌, ℕ, suc, ◌<◌, List, [], ◌∷◌, ◌++◌, length, map, refl, sym, ap, ◌∙◌, subst, arith, Some, None, Bool, true, false, not, nat_eq, cond, Option}
use Rattle.std.specs.Prelude.{All, slice_get}
use Rattle.std.specs.List.{IsDistinct}
use Rattle.std.specs.Map.{keys_of}
use Rattle.std.specs.Option.{option_map, option_map_or}
use Rattle.std.proofs.lemmas.Bool.{eqb-true, eq-eqb, false≢true}
use Rattle.std.proofs.lemmas.List.{length-map}
use Rattle.std.proofs.lemmas.Option.{slice_get-map, slice_get_within, get_or_from_slice_get, same_Some}
use Rattle.std.proofs.lemmas.List.Elements.{All-nil, All-cons, All-head, All-tail, All-get_or}
use Rattle.idx_outside.specs.Shape.{Shape}
use Rattle.idx_cache.specs.Cached.{Cached, cached, found, kept_after_evict, put_all, raise_all, raised}
use Rattle.idx_cache.proofs.Lists.{bounded-raise_all, bounded-put_all, bounded-evicted, All-raise_all, All-put_all, All-kept_after_evict, found-holds, found-raised}
use Rattle.idx_hall.specs.Posts.{Post, IsNewestOf, is_newest, newest, post_of}
use Rattle.idx_hall.specs.Hall.{HallOk, HallValue, IsBlockOf, IsPublished, after_evict, after_look, after_publish, hall, name_eq, name_of, named, named_pairs, noted, of_other_times, with_pairs}
use Rattle.idx_hall.specs.Calls.{AreBlocksOf, IsStepOf}
use Rattle.idx_hall.proofs.KeyLemmas.{name_eq-same, name_laws}
use Rattle.idx_hall.proofs.NewestLemmas.{at_before, newest-other}
use Rattle.idx_hall.proofs.DropLemmas.{bounded-others}
use Rattle.idx_hall.specs.declared.key.Key.{Key}
use Rattle.idx_hall.specs.declared.block_name.BlockName.{BlockName}

-- no two names of an empty list are the same
none_apart : IsDistinct name_eq (keys_of {K = BlockName} {X = List ℕ} [])
unfolding IsDistinct
none_apart = tt

-- a hall without a post and without a block
pub HallOk-new : (shape : Shape) (room : ℕ) → 0 < room → HallOk (hall shape [] (cached [] room))
HallOk-new shape room some = record {
  bounded = record { apart = none_apart; fits = omega arith; some = some };
  blocks = All-nil (IsPublished shape []);
}

-- ---- the board

-- a published block of another time stays one
pub IsPublished-more : (shape : Shape) (board : List Post) (post : Post) (pair : BlockName × List ℕ) → post.time ≢ pair.0.key.time → IsPublished shape board pair → IsPublished shape (board ++ post ∷ []) pair
IsPublished-more shape board post pair other is = record {
  post = is.post;
  at = record {
    at = at_before board (post ∷ []) pair.0.post is.post is.at.at;
    time = is.at.time;
    newest_is = newest-other board post pair.0.key.time other ∙ is.at.newest_is;
  };
  is = is.is;
}

-- the cached blocks of other times stay published ones
others-published : (shape : Shape) (board : List Post) (post : Post) (pairs : List (BlockName × List ℕ)) → All (IsPublished shape board) pairs → All (IsPublished shape (board ++ post ∷ [])) (of_other_times post.time pairs)
others-published shape board post [] all = All-nil (IsPublished shape (board ++ post ∷ []))
others-published shape board post (pair ∷ pairs) all =
    let rest = others-published shape board post pairs (All-tail (IsPublished shape board) pair pairs all) in
    (elim (nat_eq pair.0.key.time post.time) as (λ b. nat_eq pair.0.key.time post.time ≡ b → All (IsPublished shape (board ++ post ∷ [])) (cond (not b) (pair ∷ of_other_times post.time pairs) (of_other_times post.time pairs))) [
      | true ↦ λ e. rest
      | false ↦ λ e. All-cons (IsPublished shape (board ++ post ∷ [])) pair (of_other_times post.time pairs)
          (IsPublished-more shape board post pair (λ same. false≢true (sym e ∙ eq-eqb pair.0.key.time post.time (sym same))) (All-head (IsPublished shape board) pair pairs all))
          rest
    ]) refl

-- what holds of a hall holds with one post more, and without the cached blocks of its time
pub HallOk-publish : (h : HallValue) (post : Post) → HallOk h → HallOk (after_publish post h)
HallOk-publish h post ok = record {
  bounded = bounded-others post.time h.cache ok.bounded;
  blocks = others-published h.shape h.board post h.cache.pairs ok.blocks;
}

-- ---- the posts of steps

map-more : {E : Type 0} (post : E → Post) (es : List E) (e : E) → map post (es ++ e ∷ []) ≡ map post es ++ post e ∷ []
map-more post [] e = refl
map-more post (x ∷ es) e = ap (λ l. post x ∷ l) (map-more post es e)

-- one step more is one post more
pub made-publish : {E : Type 0} (post : E → Post) (shape : Shape) (es more : List E) (e : E) (old new : Cached BlockName (List ℕ)) → more ≡ es ++ e ∷ [] → new ≡ cached (of_other_times (post e).time old.pairs) old.cap → hall shape (map post more) new ≡ after_publish (post e) (hall shape (map post es) old)
made-publish post shape es more e old new is cache_is =
    ap (λ l. hall shape (map post l) new) is ∙ (ap (λ l. hall shape l new) (map-more post es e) ∙ ap (λ (c : Cached BlockName (List ℕ)). hall shape (map post es ++ post e ∷ []) c) cache_is)

-- a new hall
pub new-holds : {E : Type 0} (post : E → Post) (shape : Shape) (cache : Cached BlockName (List ℕ)) (room : ℕ) (es : List E) → es ≡ [] → cache ≡ cached [] room → 0 < room → HallOk (hall shape (map post es) cache)
new-holds post shape cache room es none empty some =
    subst (λ l. HallOk (hall shape (map post l) cache)) (sym none) (subst (λ (c : Cached BlockName (List ℕ)). HallOk (hall shape [] c)) (sym empty) (HallOk-new shape room some))

-- ---- the cache

-- the blocks of a post that is the newest of its time are published
pub IsPublished-from : (h : HallValue) (number : ℕ) (post : Post) → IsNewestOf h.board post.time number post → (pairs : List (Key × List ℕ)) → All (IsBlockOf h.shape post) pairs → All (IsPublished h.shape h.board) (named_pairs number pairs)
IsPublished-from h number post at [] blocks = All-nil (IsPublished h.shape h.board)
IsPublished-from h number post at (pair ∷ pairs) blocks =
    let is : IsBlockOf h.shape post pair = All-head (IsBlockOf h.shape post) pair pairs blocks in
    All-cons (IsPublished h.shape h.board) (name_of number pair.0, pair.1) (named_pairs number pairs)
    (record { post = post; at = subst (λ t. IsNewestOf h.board t number post) (sym is.time) at; is = is })
    (IsPublished-from h number post at pairs (All-tail (IsBlockOf h.shape post) pair pairs blocks))

pub HallOk-look : (number : ℕ) (keys : List Key) (h : HallValue) → HallOk h → HallOk (after_look number keys h)
HallOk-look number keys h ok = record {
  bounded = bounded-raise_all name_laws (named number keys) h.cache ok.bounded;
  blocks = All-raise_all name_eq (IsPublished h.shape h.board) (named number keys) h.cache.pairs ok.blocks;
}

pub HallOk-put : (pairs : List (BlockName × List ℕ)) (h : HallValue) → HallOk h → All (IsPublished h.shape h.board) pairs → HallOk (with_pairs h (put_all name_eq h.cache.cap pairs h.cache.pairs))
HallOk-put pairs h ok blocks = record {
  bounded = bounded-put_all name_laws pairs h.cache ok.bounded;
  blocks = All-put_all name_eq (IsPublished h.shape h.board) h.cache.cap pairs h.cache.pairs blocks ok.blocks;
}

pub HallOk-evict : (n : ℕ) (h : HallValue) → HallOk h → HallOk (after_evict n h)
HallOk-evict n h ok = record {
  bounded = bounded-evicted name_laws n h.cache ok.bounded;
  blocks = All-kept_after_evict (IsPublished h.shape h.board) n h.cache.pairs ok.blocks;
}

-- a post that is told to be the newest of its time is that
pub newest-is : (board : List Post) (number : ℕ) (post : Post) → slice_get board number ≡ Some post → is_newest board number ≡ true → IsNewestOf board post.time number post
newest-is board number post at is = record {
  at = at;
  time = refl;
  newest_is = told (sym (ap (λ o. option_map_or (λ (p : Post). option_map_or (nat_eq number) (newest board p.time) false) o false) at) ∙ is);
}
  where
    told : option_map_or (nat_eq number) (newest board post.time) false ≡ true → newest board post.time ≡ Some number
    told h = (elim (newest board post.time) as (λ o. option_map_or (nat_eq number) o false ≡ true → o ≡ Some number) [
      | None ↦ λ k. absurd (false≢true k)
      | Some n ↦ λ k. ap Some (sym (eqb-true number n k))
    ]) h

-- ---- what the calls leave

module _ (shape : Shape) (posts : List Post) (old new : Cached BlockName (List ℕ)) (ok : HallOk (hall shape posts old)) where
  pub evict-holds : (n : ℕ) → new ≡ cached (kept_after_evict n old.pairs) old.cap → HallOk (hall shape posts new)
  evict-holds n is = subst (λ (c : Cached BlockName (List ℕ)). HallOk (hall shape posts c)) (sym is) (HallOk-evict n (hall shape posts old) ok)

  pub look-holds : (number : ℕ) (keys : List Key) → new ≡ cached (raise_all name_eq (named number keys) old.pairs) old.cap → HallOk (hall shape posts new)
  look-holds number keys is = subst (λ (c : Cached BlockName (List ℕ)). HallOk (hall shape posts c)) (sym is) (HallOk-look number keys (hall shape posts old) ok)

  pub fill-holds : (h : HallValue) → hall shape posts old ≡ h → (number : ℕ) (pairs : List (Key × List ℕ)) → (p : Post) × ((slice_get h.board number ≡ Some p) × All (IsBlockOf h.shape p) pairs) → is_newest h.board number ≡ true
      → new ≡ cached (put_all name_eq old.cap (named_pairs number pairs) old.pairs) old.cap → HallOk (hall shape posts new)
  fill-holds h view number pairs given newest_is is =
      let there : (p : Post) × ((slice_get posts number ≡ Some p) × All (IsBlockOf shape p) pairs) =
      subst (λ (x : HallValue). (p : Post) × ((slice_get x.board number ≡ Some p) × All (IsBlockOf x.shape p) pairs)) (sym view) given in
      let at : IsNewestOf posts there.0.time number there.0 = newest-is posts number there.0 there.1.0 (subst (λ (x : HallValue). is_newest x.board number ≡ true) (sym view) newest_is) in
      subst (λ (c : Cached BlockName (List ℕ)). HallOk (hall shape posts c)) (sym is)
      (HallOk-put (named_pairs number pairs) (hall shape posts old) ok (IsPublished-from (hall shape posts old) number there.0 at pairs there.1.1))

-- a step more, without the cached blocks of its time, or none
module _ {E : Type 0} (post : E → Post) (shape : Shape) (cache : Cached BlockName (List ℕ)) (old new : List E) (ok : HallOk (hall shape (map post old) cache)) where
  pub publish-holds : (e : E) (left : Cached BlockName (List ℕ)) → new ≡ old ++ e ∷ [] → left ≡ cached (of_other_times (post e).time cache.pairs) cache.cap → HallOk (hall shape (map post new) left)
  publish-holds e left is left_is = subst HallOk (sym (made-publish post shape old new e cache left is left_is)) (HallOk-publish (hall shape (map post old) cache) (post e) ok)

  pub kept-holds : new ≡ old → HallOk (hall shape (map post new) cache)
  kept-holds is = subst (λ l. HallOk (hall shape (map post l) cache)) (sym is) ok

-- ---- looks

maps_agree : {A B : Type 0} (f g : A → B) → ((x : A) → f x ≡ g x) → (xs : List A) → map f xs ≡ map g xs
maps_agree f g same [] = refl
maps_agree f g same (x ∷ xs) = ap (λ y. y ∷ map f xs) (same x) ∙ ap (λ l. g x ∷ l) (maps_agree f g same xs)

-- the looks before a name do not change what is found of it
pub noted-map : (number : ℕ) (keys : List Key) (pairs : List (BlockName × List ℕ)) → noted (named number keys) pairs ≡ map (λ key. found name_eq (name_of number key) pairs) keys
noted-map number [] pairs = refl
noted-map number (key ∷ keys) pairs = ap (λ l. found name_eq (name_of number key) pairs ∷ l)
    (noted-map number keys (raised name_eq (name_of number key) pairs)
    ∙ maps_agree (λ k. found name_eq (name_of number k) (raised name_eq (name_of number key) pairs)) (λ k. found name_eq (name_of number k) pairs) (λ k. found-raised name_laws (name_of number k) (name_of number key) pairs) keys)

-- a look notes something or nothing of each name
pub length-noted : (names : List BlockName) (pairs : List (BlockName × List ℕ)) → length (noted names pairs) ≡ length names
length-noted [] pairs = refl
length-noted (name ∷ names) pairs = ap suc (length-noted names (raised name_eq name pairs))

-- and so of each key of a post
pub length-noted_keys : (number : ℕ) (keys : List Key) (pairs : List (BlockName × List ℕ)) → length (noted (named number keys) pairs) ≡ length keys
length-noted_keys number keys pairs = length-noted (named number keys) pairs ∙ length-map keys (name_of number)

-- what is found of keys in a post is their block in it
pub found-blocks : (h : HallValue) → HallOk h → (number : ℕ) (post : Post) → slice_get h.board number ≡ Some post → (keys : List Key) → AreBlocksOf h.shape post keys (map (λ key. found name_eq (name_of number key) h.cache.pairs) keys)
found-blocks h ok number post at keys i key bytes at_key at_bytes =
    let noted_is : Some (found name_eq (name_of number key) h.cache.pairs) ≡ Some (Some bytes) =
    sym (ap (option_map (λ k. found name_eq (name_of number k) h.cache.pairs)) at_key) ∙ sym (slice_get-map (λ k. found name_eq (name_of number k) h.cache.pairs) keys i) ∙ at_bytes in
    let there = found-holds name_eq (IsPublished h.shape h.board) (name_of number key) h.cache.pairs bytes ok.blocks (same_Some _ _ noted_is) in
    let same : name_of number key ≡ there.0 = name_eq-same (name_of number key) there.0 there.1 in
    let published : IsPublished h.shape h.board (name_of number key, bytes) = subst (λ (n : BlockName). IsPublished h.shape h.board (n, bytes)) (sym same) there.2 in
    let post_is : published.post ≡ post = same_Some published.post post (sym published.at.at ∙ at) in
    subst (λ (p : Post). IsBlockOf h.shape p (key, bytes)) post_is published.is

-- a step of a hall is the post of its number
pub step-holds : {E : Type 0} (time : E → ℕ) (shape : E → Shape) (has : E → ℕ → ℕ → Bool) (stored : E → Option (ℕ → ℕ → List ℕ)) (s : Shape) (es : List E) (cache : Cached BlockName (List ℕ)) (h : HallValue) → hall s (map (λ e. post_of s (time e) (has e) (stored e)) es) cache ≡ h → All (λ e. shape e ≡ s) es → (n : ℕ) (e : E) → slice_get es n ≡ Some e → IsStepOf time shape has stored h n e
step-holds time shape has stored s es cache h view shaped n e at =
    subst (λ (x : HallValue). IsStepOf time shape has stored x n e) view (record {
      shaped = subst (λ d. shape d ≡ s) (get_or_from_slice_get es n e e at) (All-get_or (λ d. shape d ≡ s) es n e (slice_get_within es n e at) shaped);
      at = slice_get-map (λ d. post_of s (time d) (has d) (stored d)) es n ∙ ap (option_map (λ d. post_of s (time d) (has d) (stored d))) at;
    })
