use Rattle.std.proofs.Common.{ap, ◌∙◌}
use Rattle.idx_hall.specs.Hall.{HallValue}
use Rattle.idx_query.proofs.TakeLemmas.{given-back}
use Rattle.idx_serve.proofs.answering.evict_half.Goals as goal

pub give-requires : goal.give-requires
give-requires g c =
    given-back _ _ c.take-held.result c.evict.new.self c.take-held.ensures.given
    (ap (λ (h : HallValue). h.shape) c.evict.ensures.kept ∙ ap (λ (h : HallValue). h.shape) c.get_mut.ensures.value)
    (ap (λ (h : HallValue). h.cache.cap) c.evict.ensures.kept ∙ ap (λ (h : HallValue). h.cache.cap) c.get_mut.ensures.value)
    (ap (λ (h : HallValue). h.board) c.evict.ensures.kept ∙ ap (λ (h : HallValue). h.board) c.get_mut.ensures.value)
