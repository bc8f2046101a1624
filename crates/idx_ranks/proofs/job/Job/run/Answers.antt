use Rattle.std.proofs.Common.{◌≡◌, ℕ, List, Option, subst, sym}
use Rattle.std.specs.Prelude.{IfNone, IfOk, IfSome}
use Rattle.idx_pieces.specs.Parcels.{AreParcelsOf}
use Rattle.idx_ranks.proofs.JobLemmas.{asks_whole}
use Rattle.idx_ranks.proofs.job.Job.run.Goals as goal

pub returns-in-Some : goal.returns-in-Some
returns-in-Some g c = record {
  raw = c.read_rank.ensures.raw;
  asked = asks_whole c.args.header.now c.in-Some.region c.args.pieces.now.items (g.V.Source.asked c.args.self.now.raw) (g.V.Source.asked c.read_rank.new.raw)
      (c.requires.inside c.in-Some.region c.in-Some.is) (c.requires.axes c.in-Some.region c.in-Some.is) c.read_rank.ensures.asked;
  parcels = subst (λ (o : Option (List (ℕ × ℕ))). IfSome o (λ region. IfOk c.read_rank.result (λ ps. AreParcelsOf c.args.self.now.rank region c.args.pieces.now.items ps.items))) (sym c.in-Some.is) c.read_rank.ensures.parcels;
  full = c.read_rank.ensures.full;
  idle = subst (λ (o : Option (List (ℕ × ℕ))). IfNone o (c.read_rank.new.raw ≡ c.args.self.now.raw)) (sym c.in-Some.is) tt;
}
