use Rattle.std.proofs.Common.{◌≡◌, ℕ, ◌<◌, List, Option, Some, length, sym, ap, ◌∙◌, subst}
use Rattle.std.specs.Prelude.{IfSome, slice_get}
use Rattle.std.specs.Arc.{arc_value}
use Rattle.std.proofs.lemmas.Option.{same_Some}
use Rattle.idx_hall.specs.Posts.{Post, post_of}
use Rattle.idx_plan.specs.declared.ask.Ask.{Ask}
use Rattle.idx_query.proofs.AnswerLemmas.{has_field}
use Rattle.idx_query.proofs.PostLemmas.{by-post}
use Rattle.idx_core_asks.proofs.LookLemmas.{content-is}
use Rattle.idx_core_asks.proofs.reading.content.Goals as goal

pub returns : goal.returns
returns g c =
    let e : g.row.E.Denot = arc_value c.edition-edition.result.now in
    let number : c.requires.number ≡ c.in-Some.post = same_Some c.requires.number c.in-Some.post (sym c.requires.noted ∙ sym c.in-Some.ensures) in
    let p : Post = post_of c.args.hall.now.shape (g.E.Blocks.time e) (g.E.Blocks.has e) (g.E.Blocks.stored e) in
    let same : c.requires.post ≡ p = same_Some c.requires.post p (sym c.requires.at ∙ ap (slice_get c.args.hall.now.board) number ∙ c.edition-edition.ensures.at) in
    let told : p.stored ≡ Some c.requires.stored = ap (λ (q : Post). q.stored) (sym same) ∙ c.requires.told in
    let field : c.ask.result.now.field ≡ c.args.asked.now.query.ask.field = ap (λ (a : Ask). a.field) c.ask.ensures in
    let known : IfSome (g.E.Blocks.stored e) (λ stored. c.in_ok-bytes.bytes ≡ stored c.args.asked.now.query.ask.field c.args.block) =
    subst (λ n. IfSome (g.E.Blocks.stored e) (λ stored. c.in_ok-bytes.bytes ≡ stored n c.args.block)) field
    (subst (λ (d : g.row.E.Denot). IfSome (g.E.Blocks.stored d) (λ stored. c.in_ok-bytes.bytes ≡ stored c.ask.result.now.field c.args.block)) c.deref.ensures c.in_ok-bytes.ensures) in
    c.in_ok-new.ensures.ok
    ∙ content-is c.args.hall.now c.args.asked.now.query c.in-Some.post c.args.block p c.in_ok-bytes.bytes c.requires.stored c.in-Some.ensures c.edition-edition.ensures.at told
    (by-post c.args.hall.now.shape (g.E.Blocks.stored e) c.args.asked.now.query.ask.field c.args.block c.in_ok-bytes.bytes
    (has_field c.args.below.now.header c.args.hall.now.shape c.args.asked.now.query.ask.field c.requires.shape c.requires.field) c.requires.block_is known)
