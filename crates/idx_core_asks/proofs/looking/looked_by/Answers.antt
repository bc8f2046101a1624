use Rattle.std.proofs.Common.{◌≡◌, ℕ, List, Option, Some, length, map, sym, ap, ◌∙◌, subst}
use Rattle.std.specs.Prelude.{All, slice_get}
use Rattle.idx_hall.specs.declared.key.Key.{Key}
use Rattle.idx_hall.specs.Hall.{HallValue, named, noted}
use Rattle.idx_hall.specs.Looked.{LookedValue}
use Rattle.idx_hall.proofs.HallLemmas.{length-noted_keys}
use Rattle.idx_events.specs.Queries.{found_in, post_for, round_blocks, round_keys}
use Rattle.idx_query.proofs.AnswerLemmas.{blocks-key_of}
use Rattle.idx_core_layers.specs.Division.{layers_of}
use Rattle.idx_core_asks.specs.Asked.{block_numbers}
use Rattle.idx_core_asks.proofs.LookLemmas.{keys-of-time, look-is}
use Rattle.idx_core_asks.proofs.looking.looked_by.Goals as goal

pub look_at-requires-clause-post : goal.look_at-requires-clause-post
look_at-requires-clause-post g c =
    let may = c.requires.may.post c.in-Some.post (sym c.in-Some.ensures) in (
      may.0,
      ap (λ (h : HallValue). slice_get h.board c.in-Some.post) c.in_ok-copy.ensures ∙ may.1,
      subst (λ (ks : List Key). All (λ (key : Key). key.time ≡ may.0.time) ks) (sym (c.deref.ensures.value ∙ c.in_ok-keys.ensures))
          (keys-of-time c.args.asked.now.query.ask may.0.time (sym may.2) (round_blocks (layers_of c.args.below.now) c.args.asked.now.query)),
    )

pub looked-requires-clause-each : goal.looked-requires-clause-each
looked-requires-clause-each g c =
    ap (λ (l : LookedValue g.row.E.Denot). length l.found) c.in_ok-look_at.ensures.noted.1
    ∙ length-noted_keys c.in-Some.post c.deref.result.now c.in_ok-copy.copy.cache.pairs ∙ ap length (c.deref.ensures.value ∙ sym c.deref-2.ensures.value)

pub returns-clause-query : goal.returns-clause-query
returns-clause-query g c =
    look-is (layers_of c.args.below.now) c.args.hall.now c.args.asked.now.query c.in-Some.post c.in-Some.ensures (block_numbers c.deref-2.result.now)
    (ap block_numbers (c.deref-2.ensures.value ∙ c.in_ok-keys.ensures) ∙ blocks-key_of c.args.asked.now.query.ask (round_blocks (layers_of c.args.below.now) c.args.asked.now.query))
    c.look_at.new.looked.found
    (ap (λ (l : LookedValue g.row.E.Denot). l.found) c.in_ok-look_at.ensures.noted.1
    ∙ ap (λ (h : HallValue). noted (named c.in-Some.post c.deref.result.now) h.cache.pairs) c.in_ok-copy.ensures
    ∙ ap (λ (ks : List Key). noted (named c.in-Some.post ks) c.args.hall.now.cache.pairs) (c.deref.ensures.value ∙ c.in_ok-keys.ensures)
    ∙ ap (λ o. found_in o (round_keys (layers_of c.args.below.now) c.args.asked.now.query) c.args.hall.now) c.in-Some.ensures)
    c.in_ok-progress.progress c.in_ok-progress.ensures
