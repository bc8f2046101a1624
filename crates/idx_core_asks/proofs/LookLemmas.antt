-- What a look, a read and an answer make of a question.
use Rattle.std.proofs.Common.{◌≡◌, ℕ, ◌<◌, Bool, true, false, List, [], ◌∷◌, ◌++◌, length, map, set, get_or, Option, Some, None, refl, sym, ap, ◌∙◌, subst}
use Rattle.std.specs.Prelude.{All, IfSome, slice_get, slice_set}
use Rattle.std.specs.Option.{option_map_or, unwrap_or}
use Rattle.std.proofs.lemmas.Option.{same_Some, slice_get_read}
use Rattle.std.proofs.lemmas.List.{set-get_or}
use Rattle.std.proofs.lemmas.List.Elements.{All-cons, All-nil}
use Rattle.idx_hall.specs.declared.key.Key.{Key}
use Rattle.idx_hall.specs.Hall.{HallValue}
use Rattle.idx_hall.specs.Posts.{Post, bytes_at}
use Rattle.idx_plan.specs.Needed.{key_of}
use Rattle.idx_plan.specs.declared.ask.Ask.{Ask}
use Rattle.idx_events.specs.Setting.{Setting}
use Rattle.idx_events.specs.World.{Query}
use Rattle.idx_events.specs.Queries.{content_of, ended_after, found_in, hits, look, misses, post_for, round_after, round_blocks, round_keys}
use Rattle.idx_core_asks.specs.Asked.{AskedValue, ProgressValue, query_of}
use Rattle.idx_core_asks.specs.Asking.{asked_can}

-- the keys of a question are of its timestep
pub keys-of-time : (ask : Ask) (time : ℕ) → ask.time ≡ time → (blocks : List ℕ) → All (λ (key : Key). key.time ≡ time) (map (key_of ask) blocks)
keys-of-time ask time same [] = All-nil (λ (key : Key). key.time ≡ time)
keys-of-time ask time same (b ∷ blocks) = All-cons (λ (key : Key). key.time ≡ time) (key_of ask b) (map (key_of ask) blocks) same (keys-of-time ask time same blocks)

-- how far a question is after a look
pub look-is : (s : Setting) (h : HallValue) (x : Query) (post : ℕ) → Some post ≡ post_for h.board x → (blocks : List ℕ) → blocks ≡ round_blocks s x →
    (found : List (Option (List ℕ))) → found ≡ found_in (post_for h.board x) (round_keys s x) h → (p : ProgressValue) →
    p ≡ record { post = Some post; ended = ended_after (misses blocks found) x.ended; round = round_after (misses blocks found); kept = x.kept ++ hits blocks found } →
    query_of x.ask p x.answer ≡ look s h x
look-is s h x post noted blocks blocks_is found found_is p p_is =
    ap (λ (q : ProgressValue). query_of x.ask q x.answer) p_is
    ∙ ap (λ bs. made (Some post) bs found) blocks_is
    ∙ ap (λ f. made (Some post) (round_blocks s x) f) found_is
    ∙ ap (λ o. made o (round_blocks s x) (found_in (post_for h.board x) (round_keys s x) h)) noted
  where
    made : Option ℕ → List ℕ → List (Option (List ℕ)) → Query
    made o bs f = record { ask = x.ask; post = o; ended = ended_after (misses bs f) x.ended; round = round_after (misses bs f); kept = x.kept ++ hits bs f; answer = x.answer }

-- the bytes of a block in the post that a question noted
pub content-is : (h : HallValue) (x : Query) (number block : ℕ) (p : Post) (bytes : List ℕ) (stored : List (List (List ℕ))) → Some number ≡ x.post → slice_get h.board number ≡ Some p → p.stored ≡ Some stored →
    IfSome p.stored (λ known. bytes ≡ bytes_at known x.ask.field block) → bytes ≡ content_of h.board x block
content-is h x number block p bytes stored noted at told is =
    subst (λ o. IfSome o (λ known. bytes ≡ bytes_at known x.ask.field block)) told is
    ∙ sym (ap (λ o. option_map_or (λ (q : Post). bytes_at (unwrap_or q.stored []) x.ask.field block) (option_map_or (slice_get h.board) o None) []) (sym noted)
    ∙ ap (λ o. option_map_or (λ (q : Post). bytes_at (unwrap_or q.stored []) x.ask.field block) o []) at
    ∙ ap (λ o. bytes_at (unwrap_or o []) x.ask.field block) told)

-- a question that was read, and put back as it was
pub put-back : (test : Query → Bool) (number : ℕ) (old : List AskedValue) (seen again new : AskedValue) → number < length old → seen ≡ get_or old number seen → test seen.query ≡ true →
    again ≡ get_or old number again → new ≡ again → (asked_can test number old ≡ true) × (set old number new ≡ old)
put-back test number old seen again new within seen_is can again_is same = (
  ap (λ o. option_map_or (λ (x : AskedValue). test x.query) o false) (slice_get_read old (length old) number seen refl within seen_is) ∙ can,
  ap (set old number) (same ∙ again_is) ∙ set-get_or old number again,
)
