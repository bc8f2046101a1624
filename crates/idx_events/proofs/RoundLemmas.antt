-- What the loads and the end of a round keep of a query.
use Rattle.std.proofs.Common.{◌≡◌, ℕ, ◌+◌, ◌<◌, Bool, true, false, not, ◌&&◌, ◌||◌, nat_eq, List, [], ◌∷◌, ◌++◌, length, map, take, filter, slice_get, slice_index, All, Option, Some, None, refl, sym, ap, ◌∙◌, subst, arith, append_assoc, length-append, append-nil}
use Rattle.std.specs.List.{AllByRecursion}
use Rattle.std.specs.Option.{option_map_or}
use Rattle.std.proofs.lemmas.Option.{same_Some, slice_get_within, get_or_from_slice_get}
use Rattle.std.proofs.lemmas.List.{map-append, take_more, take_all}
use Rattle.std.proofs.lemmas.List.Elements.{All-from_recursion}
use Rattle.std.specs.Prelude.{IfSome}
use Rattle.std.specs.Option.{unwrap_or}
use Rattle.idx_hall.specs.Posts.{Post, bytes_at}
use Rattle.idx_hall.specs.Hall.{IsBlockOf}
use Rattle.idx_plan.specs.Needed.{key_of}
use Rattle.idx_events.specs.Lists.{has, joined}
use Rattle.idx_events.specs.Setting.{Setting, SettingOk}
use Rattle.idx_events.specs.World.{Query, Round, loaded_in}
use Rattle.idx_events.specs.Queries.{bytes_in, content_of, with_block, round_blocks, read, fill, due_in, loaded_pairs}
use Rattle.idx_events.specs.WorldOk.{IsFrom, HeldOk, RoundOk, RoundsOk}
use Rattle.idx_events.proofs.ListLemmas.{no_Some, Each-snoc, Each-right, Each-take, Each-filter, Each-or, Each-both, Each-map, Each-unmap, has-append, has-filter, has-snoc, has-joined_more}

not-both : {A P : Type 0} (o : Option A) (x : A) → o ≡ Some x → o ≡ None → P
not-both o x some none = cc

-- a round's blocks are the found and the missing ones
join : (x m : Bool) → m ≡ (x && m) → ((x && not m) || m) ≡ x
join true true e = refl
join true false e = refl
join false true e = e
join false false e = refl

-- bytes that are a block of what is stored, where that is known
stored-is : (field block : ℕ) (bytes : List ℕ) (o : Option (List (List (List ℕ)))) → bytes ≡ bytes_at (unwrap_or o []) field block → IfSome o (λ known. bytes ≡ bytes_at known field block)
stored-is field block bytes None e = tt
stored-is field block bytes (Some known) e = e

regroup : (a b c d : List ℕ) → a ++ (b ++ (c ++ d)) ≡ (a ++ (b ++ c)) ++ d
regroup a b c d = simp append_assoc

module _ (s : Setting) (x : Query) (r : Round) (in_round : x.round ≡ Some r) where
  abbrev first : ℕ × List ℕ → ℕ
  first pair = pair.0

  abbrev done : List ℕ
  done = joined (take x.ended (s.rounds x.ask))

  abbrev hit : List ℕ
  hit = filter (λ b. not (has b r.missing)) (round_blocks s x)

  old-due : {board : List Post} → HeldOk s board x → (b : ℕ) → has b (map first (x.kept ++ r.loaded)) ≡ has b (done ++ (hit ++ map first r.loaded))
  old-due ok b = subst (λ o. has b (map first (x.kept ++ loaded_in o)) ≡ has b (done ++ due_in s (round_blocks s x) o)) in_round (ok.due b)

  -- ---- Read

  module _ (board : List Post) (block : ℕ) (next : slice_get r.missing (length r.loaded) ≡ Some block) where
    abbrev pair : ℕ × List ℕ
    pair = (block, content_of board x block)

    abbrev after : Query
    after = record x { round = Some (record { missing = r.missing; loaded = r.loaded ++ pair ∷ [] }) }

    pub read-is : read board block x ≡ after
    read-is = ap (λ o. let y : Query = record x { round = with_block pair o } in y) in_round

    content-is : (n : ℕ) (p : Post) → x.post ≡ Some n → slice_get board n ≡ Some p → content_of board x block ≡ bytes_in p x.ask.field block
    content-is n p e at =
        ap (λ o. option_map_or (λ (q : Post). bytes_in q x.ask.field block) (option_map_or (slice_get board) o None) []) e
        ∙ ap (λ o. option_map_or (λ (q : Post). bytes_in q x.ask.field block) o []) at

    pub read-held : HeldOk s board x → HeldOk s board after
    read-held ok = record {
      from = λ n e. let old = ok.from n e in record {
        post = old.post;
        is = old.is;
        bytes =
            let was : AllByRecursion (λ pair. pair.1 ≡ bytes_in old.post x.ask.field pair.0) (x.kept ++ r.loaded) =
            subst (λ o. AllByRecursion (λ (pair : ℕ × List ℕ). pair.1 ≡ bytes_in old.post x.ask.field pair.0) (x.kept ++ loaded_in o)) in_round old.bytes in
            subst (λ l. AllByRecursion (λ (pair : ℕ × List ℕ). pair.1 ≡ bytes_in old.post x.ask.field pair.0) l) (append_assoc x.kept r.loaded (pair ∷ []))
            (Each-snoc (λ pair. pair.1 ≡ bytes_in old.post x.ask.field pair.0) (x.kept ++ r.loaded) pair was (content-is n old.post e old.is.at));
      };
      due = λ b.
          ap (λ l. has b (map first l)) (sym (append_assoc x.kept r.loaded (pair ∷ [])))
          ∙ ap (has b) (map-append first (x.kept ++ r.loaded) (pair ∷ []))
          ∙ has-snoc b block (map first (x.kept ++ r.loaded))
          ∙ ap (λ c. c || nat_eq b block) (old-due ok b)
          ∙ sym (has-snoc b block (done ++ (hit ++ map first r.loaded)))
          ∙ ap (has b) (sym (regroup done hit (map first r.loaded) (block ∷ [])))
          ∙ ap (λ l. has b (done ++ (hit ++ l))) (sym (map-append first r.loaded (pair ∷ [])));
    }

    pub read-rounds : RoundsOk s x → RoundsOk s after
    read-rounds ok = record {
      fresh = λ none. not-both x.round r in_round (ok.fresh none).round;
      ended = ok.ended;
      round = λ q e. subst (λ q. RoundOk s after q) (same_Some (record { missing = r.missing; loaded = r.loaded ++ pair ∷ [] }) q e) (record {
        left = old.left;
        answer = old.answer;
        missing = old.missing;
        some = old.some;
        few = omega (arith, more, slice_get_within r.missing (length r.loaded) block next);
        loaded = map-append first r.loaded (pair ∷ [])
            ∙ ap (λ l. l ++ block ∷ []) old.loaded
            ∙ ap (λ n. take (length r.loaded) r.missing ++ n ∷ []) (sym (get_or_from_slice_get r.missing (length r.loaded) block block next))
            ∙ sym (take_more r.missing (length r.loaded) block (slice_get_within r.missing (length r.loaded) block next))
            ∙ ap (λ n. take n r.missing) (sym more);
      });
    }
      where
        old : RoundOk s x r
        old = ok.round r in_round

        more : length (r.loaded ++ pair ∷ []) ≡ length r.loaded + 1
        more = length-append r.loaded (pair ∷ [])

  -- ---- Fill

  module _ (full : length r.loaded ≡ length r.missing) where
    all-loaded : RoundsOk s x → map first r.loaded ≡ r.missing
    all-loaded ok = (ok.round r in_round).loaded ∙ take_all (length r.loaded) r.missing (omega arith)

    pub fill-held : (board : List Post) → HeldOk s board x → RoundsOk s x → HeldOk s board (fill x)
    fill-held board ok rounds_ok = record {
      from = λ n e. let old = ok.from n e in record {
        post = old.post;
        is = old.is;
        bytes = subst (λ l. AllByRecursion (λ (pair : ℕ × List ℕ). pair.1 ≡ bytes_in old.post x.ask.field pair.0) l) (sym (append-nil (x.kept ++ loaded_in x.round))) old.bytes;
      };
      due = λ b.
          ap (λ l. has b (map first l)) (append-nil (x.kept ++ loaded_in x.round) ∙ ap (λ o. x.kept ++ loaded_in o) in_round)
          ∙ old-due ok b
          ∙ ap (λ l. has b (done ++ (hit ++ l))) (all-loaded rounds_ok)
          ∙ has-append b done (hit ++ r.missing)
          ∙ ap (λ c. has b done || c) (has-append b hit r.missing ∙ ap (λ c. c || has b r.missing) (has-filter b (λ c. not (has c r.missing)) (round_blocks s x)) ∙ join (has b (round_blocks s x)) (has b r.missing) (again b))
          ∙ sym (has-joined_more b x.ended (s.rounds x.ask))
          ∙ ap (has b) (sym (append-nil (joined (take (x.ended + 1) (s.rounds x.ask)))));
    }
      where
        again : (b : ℕ) → has b r.missing ≡ (has b (round_blocks s x) && has b r.missing)
        again b = ap (has b) (rounds_ok.round r in_round).missing ∙ has-filter b (λ c. has c r.missing) (round_blocks s x)

    pub fill-rounds : RoundsOk s x → RoundsOk s (fill x)
    fill-rounds ok = record {
      fresh = λ none. not-both x.round r in_round (ok.fresh none).round;
      ended = let left = (ok.round r in_round).left in omega arith;
      round = λ q e. no_Some q e;
    }

  -- what is loaded is of the question's post
  pub loaded-blocks : (laws : SettingOk s) (board : List Post) → HeldOk s board x → RoundsOk s x → s.valid_ask x.ask ≡ true →
      ((n : ℕ) (p : Post) → slice_get board n ≡ Some p → (field block : ℕ) → field < length s.shape.lengths → block < s.shape.blocks → length (bytes_in p field block) ≡ slice_index s.shape.lengths field) →
      (n : ℕ) → x.post ≡ Some n → (p : Post) × (slice_get board n ≡ Some p) × All (IsBlockOf s.shape p) (loaded_pairs x)
  loaded-blocks laws board held_ok rounds_ok valid fits n e = (
    from.post,
    from.is.at,
    subst (λ o. All (IsBlockOf s.shape from.post) (map (λ (pair : ℕ × List ℕ). (key_of x.ask pair.0, pair.1)) (loaded_in o))) (sym in_round)
        (All-from_recursion (IsBlockOf s.shape from.post) (map (λ (pair : ℕ × List ℕ). (key_of x.ask pair.0, pair.1)) r.loaded)
        (Each-map (λ (pair : ℕ × List ℕ). (key_of x.ask pair.0, pair.1)) (IsBlockOf s.shape from.post) r.loaded
        (Each-both (λ pair. pair.1 ≡ bytes_in from.post x.ask.field pair.0) (λ pair. pair.0 < s.shape.blocks)
        (λ pair. IsBlockOf s.shape from.post (key_of x.ask pair.0, pair.1))
        (λ pair is below. record {
          time = sym from.is.time;
          field = laws.field x.ask valid;
          block = below;
          many = ap (λ l. length l) is ∙ fits n from.post from.is.at x.ask.field pair.0 (laws.field x.ask valid) below;
          stored = stored-is x.ask.field pair.0 pair.1 from.post.stored is;
        }) r.loaded bytes exist))),
  )
    where
      old : RoundOk s x r
      old = rounds_ok.round r in_round

      from : IsFrom s board x n
      from = held_ok.from n e

      bytes : AllByRecursion (λ pair. pair.1 ≡ bytes_in from.post x.ask.field pair.0) r.loaded
      bytes = Each-right (λ pair. pair.1 ≡ bytes_in from.post x.ask.field pair.0) x.kept r.loaded
          (subst (λ o. AllByRecursion (λ (pair : ℕ × List ℕ). pair.1 ≡ bytes_in from.post x.ask.field pair.0) (x.kept ++ loaded_in o)) in_round from.bytes)

      exist : AllByRecursion (λ (pair : ℕ × List ℕ). pair.0 < s.shape.blocks) r.loaded
      exist = Each-unmap first (λ b. b < s.shape.blocks) r.loaded
          (subst (λ l. AllByRecursion (λ b. b < s.shape.blocks) l) (sym old.loaded)
          (Each-take (λ b. b < s.shape.blocks) (length r.loaded) r.missing
          (subst (λ l. AllByRecursion (λ b. b < s.shape.blocks) l) (sym old.missing)
          (Each-filter (λ b. b < s.shape.blocks) (λ b. has b r.missing) (round_blocks s x)
          (Each-or (λ blocks. AllByRecursion (λ b. b < s.shape.blocks) blocks) [] tt (s.rounds x.ask) x.ended (laws.blocks x.ask valid))))))
