-- A cache whose pairs are put into an empty one, from the last to the first.
use Rattle.std.proofs.Common.{◌≡◌, ℕ, zero, suc, ◌-◌, ◌<◌, ◌≤◌, Bool, false, cond, List, [], ◌∷◌, length, take, drop, get_or, Some, None, refl, sym, ap, ◌∙◌, arith}
use Rattle.std.specs.List.{AllByRecursion, IsDistinct}
use Rattle.std.specs.Map.{keys_of, lookup, remove_entry}
use Rattle.std.specs.Cmp.{IsEquivalence}
use Rattle.std.proofs.lemmas.List.{length-drop, take_all}
use Rattle.std.proofs.lemmas.Map.Keys.{IsDistinct-head, IsDistinct-tail}
use Rattle.std.proofs.lemmas.Option.{get_or_from_slice_get, same_Some, slice_get-get_or}
use Rattle.idx_cache.specs.Cached.{Cached, cached, found, put_pair, IsBounded}
use Rattle.idx_hall.specs.Hall.{name_eq}
use Rattle.idx_hall.specs.declared.block_name.BlockName.{BlockName}
use Rattle.idx_hall.proofs.KeyLemmas.{name_laws}

at-place : {K : Type 0} (P : K → Type 0) (ks : List K) (k : ℕ) (d : K) → AllByRecursion P ks → k < length ks → P (get_or ks k d)
at-place P [] k d all within = absurd (omega arith)
at-place P (x ∷ ks) zero d all within = all.0
at-place P (x ∷ ks) (suc k) d all within = at-place P ks k d all.1 (omega arith)

module _ {K V : Type 0} {E : K → K → Bool} (laws : IsEquivalence E) where
  removed-none : (x : K) (ps : List (K × V)) → AllByRecursion (λ z. E x z ≡ false) (keys_of ps) → remove_entry (E x) ps ≡ ps
  removed-none x [] apart = refl
  removed-none x (e ∷ ps) apart = rw apart.0 (ap (λ l. e ∷ l) (removed-none x ps apart.1))

  length-keys : (ps : List (K × V)) → length (keys_of ps) ≡ length ps
  length-keys [] = refl
  length-keys (e ∷ ps) = ap suc (length-keys ps)

  -- what stands at a place of a list of pairs with distinct keys, where keys are listed beside it
  pub record IsAt (ps : List (K × V)) (k : ℕ) (key : K) (value : V) : Type 0 where
    pub found_is : found E key ps ≡ Some value
    pub apart : remove_entry (E key) (drop (suc k) ps) ≡ drop (suc k) ps
    pub front : drop k ps ≡ (key, value) ∷ drop (suc k) ps

  pub pair-at : (ps : List (K × V)) (k : ℕ) (d : K) → IsDistinct E (keys_of ps) → k < length ps → (value : V) × IsAt ps k (get_or (keys_of ps) k d) value
  pair-at [] k d distinct within = absurd (omega arith)
  pair-at (e ∷ ps) zero d distinct within = (
    e.1,
    record {
      found_is = ap (λ b. cond b (Some e.1) (lookup (E e.0) ps)) (laws.refl e.0);
      apart = removed-none e.0 ps (IsDistinct-head E e.0 (keys_of ps) distinct);
      front = refl;
    },
  )
  pair-at (e ∷ ps) (suc k) d distinct within =
      let rest = pair-at ps k d (IsDistinct-tail E e.0 (keys_of ps) distinct) (omega arith) in
      let key : K = get_or (keys_of ps) k d in
      let other : E key e.0 ≡ false = laws.symm key e.0 ∙ at-place (λ z. E e.0 z ≡ false) (keys_of ps) k d (IsDistinct-head E e.0 (keys_of ps) distinct) (omega (arith, length-keys ps)) in (
        rest.0,
        record {
          found_is = ap (λ b. cond b (Some e.1) (lookup (E key) ps)) other ∙ rest.1.found_is;
          apart = rest.1.apart;
          front = rest.1.front;
        },
      )

  -- the pair at a place comes in front of those behind it
  pub put-front : (c : Cached K V) (k : ℕ) (key : K) (value : V) → IsBounded E c → IsAt c.pairs k key value → put_pair E c.cap (key, value) (drop (suc k) c.pairs) ≡ drop k c.pairs
  put-front c k key value ok is =
      ap (λ l. take c.cap ((key, value) ∷ l)) is.apart ∙ ap (take c.cap) (sym is.front)
      ∙ take_all c.cap (drop k c.pairs) (omega (arith, length-drop k c.pairs, ok.fits))

-- ---- the loop over the names, from the last to the first

any_name : BlockName
any_name = record { post = 0; key = record { time = 0; field = 0; block = 0 } }

module _ (c : Cached BlockName (List ℕ)) (names : List BlockName) (place : ℕ) (ok : IsBounded name_eq c) (some : 0 < place) (few : place ≤ length names) (are : names ≡ keys_of c.pairs) where
  within : place - 1 < length c.pairs
  within = omega (arith, some, few, ap length are, length-keys name_laws c.pairs)

  -- a name that was read at the place is the key there
  name-at : (x : BlockName) → x ≡ get_or names (place - 1) x → x ≡ get_or (keys_of c.pairs) (place - 1) any_name
  name-at x is =
      is ∙ ap (λ l. get_or l (place - 1) x) are
      ∙ get_or_from_slice_get (keys_of c.pairs) (place - 1) (get_or (keys_of c.pairs) (place - 1) any_name) x
      (slice_get-get_or (keys_of c.pairs) (place - 1) any_name (omega (arith, within, length-keys name_laws c.pairs)))

  pair : (value : List ℕ) × IsAt name_laws c.pairs (place - 1) (get_or (keys_of c.pairs) (place - 1) any_name) value
  pair = pair-at name_laws c.pairs (place - 1) any_name ok.apart within

  pub record IsCopiedTo (to : ℕ) (copy : Cached BlockName (List ℕ)) : Type 0 where
    pub pairs : copy.pairs ≡ drop to c.pairs
    pub room : copy.cap ≡ c.cap

  -- its block is put in front of those that were put
  pub put-next : (copy new : Cached BlockName (List ℕ)) (x y : BlockName) (block value : List ℕ) → x ≡ get_or names (place - 1) x → y ≡ get_or names (place - 1) y →
      Some block ≡ found name_eq x c.pairs → value ≡ block → copy.pairs ≡ drop place c.pairs → copy.cap ≡ c.cap →
      new ≡ cached (put_pair name_eq copy.cap (y, value) copy.pairs) copy.cap → IsCopiedTo (place - 1) new
  put-next copy new x y block value x_is y_is there same pairs room is =
      let key : BlockName = get_or (keys_of c.pairs) (place - 1) any_name in
      let at = pair in
      let next : suc (place - 1) ≡ place = omega (arith, some) in
      let bytes : value ≡ at.0 = same ∙ same_Some block at.0 (there ∙ ap (λ n. found name_eq n c.pairs) (name-at x x_is) ∙ at.1.found_is) in
      record {
        pairs = ap (λ (z : Cached BlockName (List ℕ)). z.pairs) is
            ∙ ap (λ n. put_pair name_eq n (y, value) copy.pairs) room
            ∙ ap (λ l. put_pair name_eq c.cap (y, value) l) (pairs ∙ ap (λ n. drop n c.pairs) (sym next))
            ∙ ap (λ n. put_pair name_eq c.cap (n, value) (drop (suc (place - 1)) c.pairs)) (name-at y y_is)
            ∙ ap (λ b. put_pair name_eq c.cap (key, b) (drop (suc (place - 1)) c.pairs)) bytes
            ∙ put-front name_laws c (place - 1) key at.0 ok at.1;
        room = ap (λ (z : Cached BlockName (List ℕ)). z.cap) is ∙ room;
      }

  -- its block is there
  pub is-there : (x : BlockName) → x ≡ get_or names (place - 1) x → found name_eq x c.pairs ≡ None → ⊥
  is-there x x_is none = let at = pair in let wrong : Some at.0 ≡ None = sym (ap (λ n. found name_eq n c.pairs) (name-at x x_is) ∙ at.1.found_is) ∙ none in cc
