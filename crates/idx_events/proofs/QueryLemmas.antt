-- What the events of asking keep of a query.
use Rattle.std.proofs.Common.{◌≡◌, ℕ, ◌+◌, ◌<◌, Bool, true, false, not, ◌&&◌, ◌||◌, cond, is_some, is_none, List, [], ◌∷◌, ◌++◌, length, map, take, filter, slice_get, Option, Some, None, refl, sym, ap, ◌∙◌, subst, arith, append-nil}
use Rattle.std.specs.List.{AllByRecursion}
use Rattle.std.specs.Option.{option_or, unwrap_or}
use Rattle.std.proofs.lemmas.Bool.{false≢true}
use Rattle.std.proofs.lemmas.Option.{same_Some}
use Rattle.std.proofs.lemmas.List.{map-append}
use Rattle.std.specs.Prelude.{IfSome}
use Rattle.idx_cache.specs.Cached.{found}
use Rattle.idx_hall.specs.Posts.{Post, IsPostOf, bytes_at, newest}
use Rattle.idx_hall.specs.Hall.{HallValue, HallOk, name_eq, name_of}
use Rattle.idx_hall.proofs.HallLemmas.{noted-map}
use Rattle.idx_hall.proofs.NewestLemmas.{newest-post}
use Rattle.idx_plan.specs.declared.ask.Ask.{Ask}
use Rattle.idx_plan.specs.Needed.{key_of}
use Rattle.idx_events.specs.Lists.{has, joined}
use Rattle.idx_events.specs.Setting.{Setting}
use Rattle.idx_events.specs.World.{Query, held, loaded_in}
use Rattle.idx_events.specs.Queries.{bytes_in, post_for, found_in, hits, misses, round_after, round_blocks, round_keys, look_by, look, due, due_in}
use Rattle.idx_events.specs.WorldOk.{IsFrom, HeldOk, RoundOk, RoundsOk}
use Rattle.idx_events.proofs.ListLemmas.{no_Some, Each-append, Each-left, map-map, has-append, has-filter, has-joined_more, none-there, filter-again}
use Rattle.idx_events.proofs.HallLemmas.{found-one}

pub is-none : {A : Type 0} (o : Option A) → is_none o ≡ true → o ≡ None
is-none None h = refl
is-none (Some x) h = absurd (false≢true h)

-- ---- what a look finds and misses

module _ (g : ℕ → Option (List ℕ)) where
  hits-blocks : (blocks : List ℕ) → map (λ (p : ℕ × List ℕ). p.0) (hits blocks (map g blocks)) ≡ filter (λ b. is_some (g b)) blocks
  hits-blocks [] = refl
  hits-blocks (b ∷ blocks) = elim (g b) as (λ o. map (λ (p : ℕ × List ℕ). p.0) (hits (b ∷ blocks) (o ∷ map g blocks)) ≡ cond (is_some o) (b ∷ filter (λ c. is_some (g c)) blocks) (filter (λ c. is_some (g c)) blocks)) [
    | None ↦ hits-blocks blocks
    | Some bytes ↦ ap (λ l. b ∷ l) (hits-blocks blocks)
  ]

  misses-blocks : (blocks : List ℕ) → misses blocks (map g blocks) ≡ filter (λ b. is_none (g b)) blocks
  misses-blocks [] = refl
  misses-blocks (b ∷ blocks) = elim (g b) as (λ o. misses (b ∷ blocks) (o ∷ map g blocks) ≡ cond (is_none o) (b ∷ filter (λ c. is_none (g c)) blocks) (filter (λ c. is_none (g c)) blocks)) [
    | None ↦ ap (λ l. b ∷ l) (misses-blocks blocks)
    | Some bytes ↦ misses-blocks blocks
  ]

  hits-each : (P : ℕ × List ℕ → Type 0) → ((b : ℕ) (bytes : List ℕ) → g b ≡ Some bytes → P (b, bytes)) → (blocks : List ℕ) → AllByRecursion P (hits blocks (map g blocks))
  hits-each P h [] = tt
  hits-each P h (b ∷ blocks) = (elim (g b) as (λ o. g b ≡ o → AllByRecursion P (hits (b ∷ blocks) (o ∷ map g blocks))) [
    | None ↦ λ e. hits-each P h blocks
    | Some bytes ↦ λ e. (h b bytes e, hits-each P h blocks)
  ]) refl

  none-some : (o : Option (List ℕ)) → is_some o ≡ not (is_none o)
  none-some None = refl
  none-some (Some x) = refl

  but-not : (x n : Bool) → (x && not n) ≡ (x && not (x && n))
  but-not true n = refl
  but-not false n = refl

  -- of the blocks the found ones are those that are not missing
  hits-split : (blocks : List ℕ) (b : ℕ) → has b (map (λ (p : ℕ × List ℕ). p.0) (hits blocks (map g blocks))) ≡ (has b blocks && not (has b (misses blocks (map g blocks))))
  hits-split blocks b =
      ap (has b) (hits-blocks blocks) ∙ has-filter b (λ c. is_some (g c)) blocks ∙ ap (λ c. has b blocks && c) (none-some (g b)) ∙ but-not (has b blocks) (is_none (g b))
      ∙ ap (λ c. has b blocks && not c) (sym (ap (has b) (misses-blocks blocks) ∙ has-filter b (λ c. is_none (g c)) blocks))

  misses-again : (blocks : List ℕ) → misses blocks (map g blocks) ≡ filter (λ b. has b (misses blocks (map g blocks))) blocks
  misses-again blocks = subst (λ l. l ≡ filter (λ b. has b l) blocks) (sym (misses-blocks blocks)) (filter-again (λ b. is_none (g b)) blocks)

-- what is found of the block of a question in a post
abbrev found_at : ℕ → Ask → HallValue → ℕ → Option (List ℕ)
found_at number ask h block = found name_eq (name_of number (key_of ask block)) h.cache.pairs

-- what a look notes of blocks
noted-blocks : (number : ℕ) (ask : Ask) (blocks : List ℕ) (h : HallValue) → found_in (Some number) (map (key_of ask) blocks) h ≡ map (found_at number ask h) blocks
noted-blocks number ask blocks h = noted-map number (map (key_of ask) blocks) h.cache.pairs ∙ map-map (key_of ask) (λ key. found name_eq (name_of number key) h.cache.pairs) blocks

and-true : (b : Bool) → (b && true) ≡ b
and-true true = refl
and-true false = refl

or-false : (b : Bool) → (b || false) ≡ b
or-false true = refl
or-false false = refl

nothing-loaded : (missing : List ℕ) → loaded_in (round_after missing) ≡ []
nothing-loaded [] = refl
nothing-loaded (b ∷ missing) = refl

-- bytes that are the block of a post that tells its bytes
block-bytes : (ask : Ask) (block : ℕ) (bytes : List ℕ) (p : Post) (stored : List (List (List ℕ))) → p.stored ≡ Some stored →
    IfSome p.stored (λ known. bytes ≡ bytes_at known ask.field block) → bytes ≡ bytes_in p ask.field block
block-bytes ask block bytes p stored told is =
    subst (λ o. IfSome o (λ known. bytes ≡ bytes_at known ask.field block)) told is
    ∙ sym (ap (λ (o : Option (List (List (List ℕ)))). bytes_at (unwrap_or o []) ask.field block) told)

module _ (s : Setting) where
  no-pairs : (l : List (ℕ × List ℕ)) → map (λ (q : ℕ × List ℕ). q.0) l ≡ [] → l ≡ []
  no-pairs [] e = refl
  no-pairs (q ∷ l) e = cc

  -- a question that has not looked holds nothing
  fresh-empty : (board : List Post) (x : Query) → HeldOk s board x → RoundsOk s x → x.post ≡ None → held x ≡ []
  fresh-empty board x held_ok rounds_ok e =
      let fresh = rounds_ok.fresh e in
      no-pairs (held x) (none-there (map (λ (q : ℕ × List ℕ). q.0) (held x)) (λ b. held_ok.due b
      ∙ ap (has b) (ap (λ n. joined (take n (s.rounds x.ask)) ++ due_in s (round_blocks s x) x.round) fresh.ended ∙ ap (λ r. due_in s (round_blocks s x) r) fresh.round)))

  -- the post of a question, and what is held, is of it
  pub post-is : (board : List Post) (x : Query) → HeldOk s board x → RoundsOk s x → (n : ℕ) → post_for board x ≡ Some n → IsFrom s board x n
  post-is board x held_ok rounds_ok n e = by_post x.post refl
    where
      by_post : (o : Option ℕ) → x.post ≡ o → IsFrom s board x n
      by_post (Some m) f =
          let same : m ≡ n = same_Some m n (sym (ap (λ o. option_or o (newest board x.ask.time)) f) ∙ e) in
          held_ok.from n (f ∙ ap Some same)
      by_post None f =
          let at = newest-post board x.ask.time n (sym (ap (λ o. option_or o (newest board x.ask.time)) f) ∙ e) in record {
            post = at.0;
            is = record { at = at.1.at; time = at.1.time };
            bytes = subst (λ l. AllByRecursion (λ (pair : ℕ × List ℕ). pair.1 ≡ bytes_in at.0 x.ask.field pair.0) l) (sym (fresh-empty board x held_ok rounds_ok f)) tt;
          }

  -- where the timestep has a post, the question has one
  post-there : (board : List Post) (x : Query) → is_some (newest board x.ask.time) ≡ true → (n : ℕ) × (post_for board x ≡ Some n)
  post-there board x some = by_post x.post (newest board x.ask.time) some
    where
      by_post : (o m : Option ℕ) → is_some m ≡ true → (n : ℕ) × (option_or o m ≡ Some n)
      by_post (Some n) m h = (n, refl)
      by_post None (Some n) h = (n, refl)
      by_post None None h = absurd (false≢true h)

  -- ---- Look

  module _ (board : List Post) (x : Query) (hit : List (ℕ × List ℕ)) where
    look-rounds : (missing : List ℕ) → missing ≡ filter (λ b. has b missing) (round_blocks s x) → x.ended < length (s.rounds x.ask) → x.answer ≡ None → (n : ℕ) → post_for board x ≡ Some n → RoundsOk s (look_by s board missing hit x)
    look-rounds [] again left answer n some = record {
      fresh = λ none. no_Some n (sym none ∙ some);
      ended = omega arith;
      round = λ r e. no_Some r e;
    }
    look-rounds (b ∷ missing) again left answer n some = record {
      fresh = λ none. no_Some n (sym none ∙ some);
      ended = omega arith;
      round = λ r e. subst (λ r. RoundOk s (look_by s board (b ∷ missing) hit x) r) (same_Some (record { missing = b ∷ missing; loaded = [] }) r e) (record {
        left = left;
        answer = answer;
        missing = again;
        some = omega arith;
        few = omega arith;
        loaded = refl;
      });
    }

    look-due : (missing : List ℕ) → x.round ≡ None → ((b : ℕ) → has b (map (λ p. p.0) hit) ≡ (has b (round_blocks s x) && not (has b missing))) →
        ((b : ℕ) → has b (map (λ p. p.0) (held x)) ≡ has b (due s x)) →
        (b : ℕ) → has b (map (λ p. p.0) (held (look_by s board missing hit x))) ≡ has b (due s (look_by s board missing hit x))
    look-due missing none split was b = before missing ∙ after missing (split b)
      where
        old : has b (map (λ (p : ℕ × List ℕ). p.0) x.kept) ≡ has b (joined (take x.ended (s.rounds x.ask)))
        old =
            ap (λ l. has b (map (λ (p : ℕ × List ℕ). p.0) l)) (sym (append-nil x.kept) ∙ ap (λ r. x.kept ++ loaded_in r) (sym none))
            ∙ was b
            ∙ ap (λ r. has b (joined (take x.ended (s.rounds x.ask)) ++ due_in s (round_blocks s x) r)) none
            ∙ ap (has b) (append-nil (joined (take x.ended (s.rounds x.ask))))

        before : (m : List ℕ) → has b (map (λ p. p.0) (held (look_by s board m hit x))) ≡ (has b (joined (take x.ended (s.rounds x.ask))) || has b (map (λ p. p.0) hit))
        before m =
            ap (λ l. has b (map (λ (p : ℕ × List ℕ). p.0) ((x.kept ++ hit) ++ l))) (nothing-loaded m)
            ∙ ap (λ l. has b (map (λ (p : ℕ × List ℕ). p.0) l)) (append-nil (x.kept ++ hit))
            ∙ ap (has b) (map-append (λ (p : ℕ × List ℕ). p.0) x.kept hit)
            ∙ has-append b (map (λ (p : ℕ × List ℕ). p.0) x.kept) (map (λ (p : ℕ × List ℕ). p.0) hit)
            ∙ ap (λ c. c || has b (map (λ (p : ℕ × List ℕ). p.0) hit)) old

        after : (m : List ℕ) → has b (map (λ p. p.0) hit) ≡ (has b (round_blocks s x) && not (has b m)) →
            (has b (joined (take x.ended (s.rounds x.ask))) || has b (map (λ p. p.0) hit)) ≡ has b (due s (look_by s board m hit x))
        after [] e =
            ap (λ c. has b (joined (take x.ended (s.rounds x.ask))) || c) (e ∙ and-true (has b (round_blocks s x)))
            ∙ sym (has-joined_more b x.ended (s.rounds x.ask))
            ∙ ap (has b) (sym (append-nil (joined (take (x.ended + 1) (s.rounds x.ask)))))
        after (c ∷ m) e =
            ap (λ d. has b (joined (take x.ended (s.rounds x.ask))) || d) (e ∙ sym (has-filter b (λ d. not (has d (c ∷ m))) (round_blocks s x)) ∙ ap (has b) (sym (append-nil (filter (λ d. not (has d (c ∷ m))) (round_blocks s x)))))
            ∙ sym (has-append b (joined (take x.ended (s.rounds x.ask))) (filter (λ d. not (has d (c ∷ m))) (round_blocks s x) ++ []))

  -- all that a look is to keep
  pub record LookKeeps (h : HallValue) (x : Query) : Type 0 where
    pub held : HeldOk s h.board (look s h x)
    pub rounds : RoundsOk s (look s h x)

  module _ (h : HallValue) (x : Query) where
    abbrev hit : List (ℕ × List ℕ)
    hit = hits (round_blocks s x) (found_in (post_for h.board x) (round_keys s x) h)

    abbrev missing : List ℕ
    missing = misses (round_blocks s x) (found_in (post_for h.board x) (round_keys s x) h)

    module _ (n : ℕ) (at : post_for h.board x ≡ Some n) where
      abbrev g : ℕ → Option (List ℕ)
      g b = found_at n x.ask h b

      noted_is : found_in (post_for h.board x) (round_keys s x) h ≡ map g (round_blocks s x)
      noted_is = ap (λ o. found_in o (round_keys s x) h) at ∙ noted-blocks n x.ask (round_blocks s x) h

      look-from : HallOk h → (stored : List (List (List ℕ))) (p : Post) → p.stored ≡ Some stored → IsPostOf h.board x.ask.time n p →
          AllByRecursion (λ pair. pair.1 ≡ bytes_in p x.ask.field pair.0) (held x) → AllByRecursion (λ pair. pair.1 ≡ bytes_in p x.ask.field pair.0) (held (look s h x))
      look-from ok stored p told is was =
          subst (λ l. AllByRecursion (λ (pair : ℕ × List ℕ). pair.1 ≡ bytes_in p x.ask.field pair.0) ((x.kept ++ hit) ++ l)) (sym (nothing-loaded missing))
          (Each-append (λ pair. pair.1 ≡ bytes_in p x.ask.field pair.0) (x.kept ++ hit) []
          (Each-append (λ pair. pair.1 ≡ bytes_in p x.ask.field pair.0) x.kept hit
          (Each-left (λ pair. pair.1 ≡ bytes_in p x.ask.field pair.0) x.kept (loaded_in x.round) was)
          (subst (λ l. AllByRecursion (λ (pair : ℕ × List ℕ). pair.1 ≡ bytes_in p x.ask.field pair.0) (hits (round_blocks s x) l)) (sym noted_is)
          (hits-each g (λ pair. pair.1 ≡ bytes_in p x.ask.field pair.0)
          (λ b bytes e. block-bytes x.ask b bytes p stored told (found-one h ok n p is.at (key_of x.ask b) bytes e).stored) (round_blocks s x)))) tt)

      look-keeps-at : HallOk h → ((m : ℕ) (p : Post) → slice_get h.board m ≡ Some p → (stored : List (List (List ℕ))) × (p.stored ≡ Some stored)) →
          HeldOk s h.board x → RoundsOk s x → x.answer ≡ None → x.round ≡ None → x.ended < length (s.rounds x.ask) → LookKeeps h x
      look-keeps-at ok told held_ok rounds_ok answer none left = record {
        held = record {
          from = λ m e.
              let same : m ≡ n = same_Some m n (sym e ∙ at) in
              let from = post-is h.board x held_ok rounds_ok n at in
              let known = told n from.post from.is.at in
              subst (IsFrom s h.board (look s h x)) (sym same) (record {
                post = from.post;
                is = record { at = from.is.at; time = from.is.time };
                bytes = look-from ok known.0 from.post known.1 from.is from.bytes;
              });
          due = look-due h.board x hit missing none
              (subst (λ l. (b : ℕ) → has b (map (λ (p : ℕ × List ℕ). p.0) (hits (round_blocks s x) l)) ≡ (has b (round_blocks s x) && not (has b (misses (round_blocks s x) l)))) (sym noted_is) (hits-split g (round_blocks s x)))
              held_ok.due;
        };
        rounds = look-rounds h.board x hit missing
            (subst (λ l. misses (round_blocks s x) l ≡ filter (λ b. has b (misses (round_blocks s x) l)) (round_blocks s x)) (sym noted_is) (misses-again g (round_blocks s x)))
            left answer n at;
      }

    pub look-keeps : HallOk h → ((m : ℕ) (p : Post) → slice_get h.board m ≡ Some p → (stored : List (List (List ℕ))) × (p.stored ≡ Some stored)) →
        HeldOk s h.board x → RoundsOk s x → x.answer ≡ None → x.round ≡ None → x.ended < length (s.rounds x.ask) → is_some (newest h.board x.ask.time) ≡ true → LookKeeps h x
    look-keeps ok told held_ok rounds_ok answer none left some =
        let there = post-there h.board x some in
        look-keeps-at there.0 there.1 ok told held_ok rounds_ok answer none left
