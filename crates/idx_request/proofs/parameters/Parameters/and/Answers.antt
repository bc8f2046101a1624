use Rattle.std.proofs.Common.{refl, rules, ◌≡◌, ap, codes}
use Rattle.std.specs.Prelude.{bytes_eq}
use Rattle.idx_request.specs.Pairs.{Pair, decoded}
use Rattle.idx_request.proofs.PairLemmas.{bad_push, noted_push}
use Rattle.idx_request.proofs.parameters.Parameters.and.Goals as goal

pub returns : goal.returns
returns c pairs kept =
    let pair : Pair = decoded (c.args.name.now, c.args.value.now) in
    let key : c.as_bytes-key.result.now ≡ pair.0 = search rules in
    record {
      bad = bad_push pairs pair c.args.self.bad _ _ kept.bad (search rules) refl;
      action = noted_push (codes "action") pairs pair c.args.self.action c.with.result _ (ap (λ name. bytes_eq name (codes "action")) key) kept.action c.with.ensures;
      dataset = noted_push (codes "dataset") pairs pair c.args.self.dataset c.with-2.result _ (ap (λ name. bytes_eq name (codes "dataset")) key) kept.dataset c.with-2.ensures;
      time = noted_push (codes "time") pairs pair c.args.self.time c.with-3.result _ (ap (λ name. bytes_eq name (codes "time")) key) kept.time c.with-3.ensures;
      field = noted_push (codes "field") pairs pair c.args.self.field c.with-4.result _ (ap (λ name. bytes_eq name (codes "field")) key) kept.field c.with-4.ensures;
      region = noted_push (codes "box") pairs pair c.args.self.region c.with-5.result _ (ap (λ name. bytes_eq name (codes "box")) key) kept.region c.with-5.ensures;
      lo = noted_push (codes "fromh") pairs pair c.args.self.lo c.with-6.result _ (ap (λ name. bytes_eq name (codes "fromh")) key) kept.lo c.with-6.ensures;
      hi = noted_push (codes "toh") pairs pair c.args.self.hi c.with-7.result _ (ap (λ name. bytes_eq name (codes "toh")) key) kept.hi c.with-7.ensures;
      finest = noted_push (codes "maxh") pairs pair c.args.self.finest c.with-8.result _ (ap (λ name. bytes_eq name (codes "maxh")) key) kept.finest c.with-8.ensures;
      compression = noted_push (codes "compression") pairs pair c.args.self.compression c.with-9.result _ (ap (λ name. bytes_eq name (codes "compression")) key) kept.compression c.with-9.ensures;
    }
