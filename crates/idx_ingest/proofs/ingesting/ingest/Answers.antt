use Rattle.std.proofs.Common.{◌≡◌, [], ◌∷◌, ◌++◌, length, subst}
use Rattle.std.specs.Prelude.{IfOk, OnOk}
use Rattle.idx_outside.specs.Files.{shown}
use Rattle.idx_outside.specs.Objects.{contents_at}
use Rattle.idx_header.specs.Header.{HeaderValue, at_revision}
use Rattle.idx_hall.specs.Posts.{post_of}
use Rattle.idx_edition.specs.Tables.{has_in_tables, shape_in, stored_in}
use Rattle.idx_gather.specs.Gather.{HasVolume, SomeStepAdded}
use Rattle.idx_ingest.proofs.PublishLemmas.{next_post}
use Rattle.idx_ingest.proofs.ingesting.ingest.Goals as goal

pub returns-in-Ok-published-clause-ingested : goal.returns-in-Ok-published-clause-ingested
returns-in-Ok-published-clause-ingested g c =
    let h : HeaderValue = at_revision c.args.revision c.args.site.now.header in
    let told = contents_at g.V.Source.contents c.args.raws.now.items 0 in
    let e = c.in-Ok-gather.edition in (
      subst (λ (x : HeaderValue). HasVolume x told) c.in-Ok.ensures c.in-Ok-gather.ensures.right,
      subst (λ (x : HeaderValue). SomeStepAdded x c.args.time told (g.B.Bay.files c.args.bay.now) (g.B.Bay.files c.gather.new.bay)) c.in-Ok.ensures c.in-Ok-gather.ensures.added,
      next_post h c.in-Ok.header c.args.time e.time told (g.B.Bay.files c.args.bay.now) (g.B.Bay.files c.gather.new.bay) c.args.seat.seen.posts c.publish_at-seat.result.0.seen.posts c.in-Ok-published.post c.args.seat.seen.shape (shape_in e.tables)
          (has_in_tables e.tables) (stored_in e.tables (shown g.B.Leaf.Leaf.contents e.leaves.items)) (shown g.B.Leaf.Leaf.contents e.leaves.items) c.in-Ok.ensures c.in-Ok-gather.ensures.time
          c.requires.shape c.in-Ok-gather.ensures.shape c.in-Ok-gather.ensures.has c.in-Ok-gather.ensures.holds c.in-Ok-gather.ensures.volume
          (subst (λ r. OnOk r (c.publish_at-seat.result.0.seen.posts ≡ c.args.seat.seen.posts ++ post_of c.args.seat.seen.shape e.time (has_in_tables e.tables) (stored_in e.tables (shown g.B.Leaf.Leaf.contents e.leaves.items)) ∷ [])) c.in-Ok-published.is c.publish_at-seat.ensures.published)
          (subst (λ r. IfOk r (λ number. number ≡ length c.args.seat.seen.posts)) c.in-Ok-published.is c.publish_at-seat.ensures.number),
      c.in-Ok-gather.ensures.raw_quiet,
      c.in-Ok-gather.ensures.quiet,
    )
