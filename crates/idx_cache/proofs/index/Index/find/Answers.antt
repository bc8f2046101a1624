use Rattle.std.proofs.Common.{rules}
use Rattle.std.proofs.lemmas.List.Sorted.{answers_always}
use Rattle.idx_cache.proofs.Search.{searched}
use Rattle.idx_cache.proofs.index.Index.find.Goals as goal

pub returns : goal.returns
returns g c =
    let facts = c.binary_search_by_key.ensures in
    let by_key = facts.position (λ pair. pair.0) (answers_always _ _ _ (λ f a r g called. search rules)) in
    let both = searched g.met.K.Ord.total g.met.K.Eq.laws g.met.K.Ord.matches_eq _ (rw c.deref.ensures.value c.self.invariant) c.args.key _ facts.bound by_key in
    rw (← c.self.view_is) (record { found = rw (← c.deref.ensures.value) both.0; absent = rw (← c.deref.ensures.value) both.1; rising = c.self.invariant })
