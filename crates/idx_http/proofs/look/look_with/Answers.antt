use Rattle.std.proofs.Common.{◌≡◌, ◌||◌, map, take, refl, ap, ◌∙◌, rules, Err}
use Rattle.std.specs.Prelude.{◌==◌, codes, bytes_eq}
use Rattle.std.proofs.lemmas.Bool.{ne_eqb}
use Rattle.httparse.specs.Spans.{IsRequestOf, IsRequestWithin, header_bytes, span_bytes}
use Rattle.http1.specs.Fields.{known_fields}
use Rattle.idx_http.specs.Values.{lists_close}
use Rattle.idx_http.proofs.FieldLemmas.{never_exceeds}
use Rattle.idx_http.proofs.FoundLemmas.{found_is}
use Rattle.idx_http.proofs.ListLemmas.{or_true, or_false}
use Rattle.idx_http.proofs.look.look_with.Goals as goal
use Rattle.idx_http.proofs.look.look_with.Goals.{then-head-eq0, else-head-eq0}

pub unreachable-requires : goal.unreachable-requires
unreachable-requires c =
    let buffer = c.args.buffer.now in
    let many = c.in-Err-TooManyHeaders.ensures.too_many (ap Err c.in-Err-TooManyHeaders.field-0-is) in
    never_exceeds buffer _ c.requires many

pub returns-after-head-eq0 : goal.returns-after-head-eq0
unfolding known_fields
returns-after-head-eq0 c =
    let buffer = c.args.buffer.now in
    let spans = c.parse_request.new.headers in
    let head = c.in-Ok-Complete.head in
    let found : IsRequestOf buffer spans head = search rules in
    let within : IsRequestWithin buffer spans head = search rules in
    let get : c.eq.result ≡ bytes_eq (span_bytes buffer head.method) (codes "GET") =
    c.eq.ensures ∙ (λ i. bytes_eq (c.of.ensures i) (c.as_slice.ensures i)) in
    let close : c.if-head-eq0.result ≡ ((head.version == 0) || lists_close (map (header_bytes buffer) (take head.headers spans))) =
    elim c.if-head-eq0.branch [
      | then-head-eq0 w ↦ or_true _ _ _ w.result-is (w.result-is ∙ ap (λ v. v == 0) w.if-head-eq0.true)
      | else-head-eq0 w ↦
          or_false (head.version == 0) _ _ _ refl (ne_eqb head.version 0 w.if-head-eq0.false)
          (w.result-is ∙ ap (λ k. k.close) c.from_spans-known.ensures)
    ] in
    (found.0, found_is buffer spans head found.0 c.eq.result c.has_body.result c.if-head-eq0.result within found.1 get c.has_body.ensures close)
