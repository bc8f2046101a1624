use Rattle.std.proofs.Common.{◌≡◌, ◌++◌, ◌-◌, List, drop, length, sym, ap, ◌∙◌, subst, Some}
use Rattle.std.specs.Prelude.{All, Option, slice_get}
use Rattle.std.proofs.lemmas.List.Elements.{All-drop}
use Rattle.std.proofs.lemmas.Option.{same_Some}
use Rattle.idx_hall.specs.Posts.{Post}
use Rattle.idx_hall.specs.Hall.{IsBlockOf}
use Rattle.idx_hall.specs.Calls.{pairs_of}
use Rattle.idx_query.specs.Rounds.{missed}
use Rattle.idx_query.specs.Steps.{CanCopy, LoadingValue, MadeRound, kept_last}
use Rattle.idx_query.proofs.RoundLemmas.{can-copy, made-round, pairs-are}
use Rattle.idx_query.proofs.rounds.make_round.Goals as goal
use Rattle.idx_query.proofs.rounds.make_round.Goals.{After-into_loaded}

pub copy_round-requires-clause-step : goal.copy_round-requires-clause-step
copy_round-requires-clause-step g c = (
  c.requires.looked.edition,
  c.requires.looked.here,
  subst (λ n. CanCopy g.E.Blocks.shape g.E.Blocks.stored c.requires.looked.edition c.args.ask.now.field c.args.part.now n c.args.looked.now.found) (sym (ap (λ (l : LoadingValue). l.bytes) c.requires.loading))
      (can-copy g.E.Blocks.time g.E.Blocks.shape g.E.Blocks.has g.E.Blocks.stored c.args.header.now c.args.ask.now c.args.plan.now c.args.part.now (g.T.Turn.shape c.args.turn.now) (g.T.Turn.seen c.args.turn.now) c.args.seen.post c.args.looked.now
      c.requires.shape c.requires.field c.requires.plan c.requires.valid c.requires.part c.requires.looked),
)

-- what was loaded, of the blocks that were missing
loaded : (g : _) (c : After-into_loaded g) → pairs_of c.into_loaded.result.items ≡ drop (length (missed c.args.part.now.keys c.args.looked.now.found) - c.args.seen.room) (c.in-Ok.ensures.done c.requires.looked.edition c.requires.looked.here).pairs
loaded g c =
    let done = c.in-Ok.ensures.done c.requires.looked.edition c.requires.looked.here in
    c.into_loaded.ensures ∙ ap (λ (l : LoadingValue). l.loaded) done.loaded
    ∙ ap (λ (l : LoadingValue). l.loaded ++ drop (length (missed c.args.part.now.keys c.args.looked.now.found) - c.args.seen.room) done.pairs) c.requires.loading

pub fill_cache-requires-clause-blocks : goal.fill_cache-requires-clause-blocks
fill_cache-requires-clause-blocks g c = (
  c.requires.looked.post,
  c.requires.looked.at.at,
  subst (λ ps. All (IsBlockOf (g.T.Turn.shape c.args.turn.now) c.requires.looked.post) ps) (sym (loaded g c))
      (All-drop (IsBlockOf (g.T.Turn.shape c.args.turn.now) c.requires.looked.post) (length (missed c.args.part.now.keys c.args.looked.now.found) - c.args.seen.room) (c.in-Ok.ensures.done c.requires.looked.edition c.requires.looked.here).pairs
      (pairs-are g.E.Blocks.time g.E.Blocks.shape g.E.Blocks.has g.E.Blocks.stored c.args.header.now c.args.ask.now c.args.plan.now c.args.part.now (g.T.Turn.shape c.args.turn.now) (g.T.Turn.seen c.args.turn.now) c.args.seen.post c.args.looked.now
      c.requires.shape c.requires.field c.requires.plan c.requires.valid c.requires.part c.requires.looked
      (g.R.Reader.reads c.args.reader.now) (g.R.Reader.reads c.copy_round.new.reader) (kept_last c.args.part.now.keys c.args.looked.now.found c.args.seen.room c.args.loading) c.copy_round.new.loading c.in-Ok.report c.args.out.now c.copy_round.new.out
      (ap (λ (l : LoadingValue). l.bytes) c.requires.loading) (c.in-Ok.ensures.done c.requires.looked.edition c.requires.looked.here))),
)

pub returns-in-Ok-clause-made : goal.returns-in-Ok-clause-made
returns-in-Ok-clause-made g c = λ post at.
    let same : c.requires.looked.post ≡ post = same_Some c.requires.looked.post post (sym c.requires.looked.at.at ∙ at) in
    subst (λ (p : Post). MadeRound c.args.ask.now c.args.plan.now c.args.part.now.keys c.args.looked.now.found (g.T.Turn.shape c.args.turn.now) p c.args.seen.post c.args.seen.room g.T.Turn.tells (g.T.Turn.kept c.args.turn.now) (g.T.Turn.kept c.fill_cache.new.turn)
    (g.T.Turn.holds c.args.turn.now) (g.T.Turn.holds c.fill_cache.new.turn) (g.R.Reader.reads c.args.reader.now) (g.R.Reader.reads c.copy_round.new.reader) c.in-Ok.report c.args.out.now c.copy_round.new.out) same
    (made-round g.E.Blocks.time g.E.Blocks.shape g.E.Blocks.has g.E.Blocks.stored c.args.header.now c.args.ask.now c.args.plan.now c.args.part.now (g.T.Turn.shape c.args.turn.now) (g.T.Turn.seen c.args.turn.now) c.args.seen.post c.args.looked.now
    c.requires.shape c.requires.field c.requires.plan c.requires.valid c.requires.part c.requires.looked
    (g.R.Reader.reads c.args.reader.now) (g.R.Reader.reads c.copy_round.new.reader) (kept_last c.args.part.now.keys c.args.looked.now.found c.args.seen.room c.args.loading) c.copy_round.new.loading c.in-Ok.report c.args.out.now c.copy_round.new.out
    (ap (λ (l : LoadingValue). l.bytes) c.requires.loading) (c.in-Ok.ensures.done c.requires.looked.edition c.requires.looked.here)
    c.args.seen.room g.T.Turn.tells (g.T.Turn.kept c.args.turn.now) (g.T.Turn.kept c.fill_cache.new.turn) (g.T.Turn.holds c.args.turn.now) (g.T.Turn.holds c.fill_cache.new.turn) (pairs_of c.into_loaded.result.items)
    (loaded g (goal.at.returns-in-Ok-clause-made g c).After-into_loaded) c.fill_cache.ensures.held c.fill_cache.ensures.told)
