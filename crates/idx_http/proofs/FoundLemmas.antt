-- What the parser found, as the values of the head.
use Rattle.std.proofs.Common.{◌≡◌, ℕ, ◌≤◌, Bool, ◌||◌, List, length, map, take, ap, ◌∙◌, arith, length-take}
use Rattle.std.specs.Prelude.{◌==◌, codes, bytes_eq}
use Rattle.std.proofs.lemmas.List.{length-map}
use Rattle.httparse.specs.declared.spans.HeaderSpan.{HeaderSpan}
use Rattle.httparse.specs.declared.spans.RequestSpans.{RequestSpans}
use Rattle.httparse.specs.Grammar.{RequestHead, Field}
use Rattle.httparse.specs.Spans.{IsRequestAt, IsRequestWithin, span_bytes, header_bytes, name_and_value, AreFieldsAt}
use Rattle.idx_http.specs.Read.{IsFound}
use Rattle.idx_http.specs.Values.{has_body, lists_close}

-- as many spans were written as there are fields
count_is : (buf : List ℕ) (headers : List HeaderSpan) (count : ℕ) (fields : List Field) → count ≤ length headers
    → AreFieldsAt buf headers count fields → count ≡ length fields
count_is buf headers count fields fits are =
    omega (arith, fits, length-take count headers, length-map (take count headers) (header_bytes buf), length-map fields name_and_value, ap length are)

pub found_is : (buf : List ℕ) (headers : List HeaderSpan) (r : RequestSpans) (h : RequestHead) (get body close : Bool)
    → IsRequestWithin buf headers r → IsRequestAt buf headers r h
    → get ≡ bytes_eq (span_bytes buf r.method) (codes "GET")
    → body ≡ has_body (map (header_bytes buf) (take r.headers headers))
    → close ≡ ((r.version == 0) || lists_close (map (header_bytes buf) (take r.headers headers)))
    → IsFound buf (record { len = r.len; fields = r.headers; get = get; body = body; close = close; target = r.path }) h
found_is buf headers r h get body close within at is_get is_body is_close = record {
  reads = at.reads;
  len = at.len;
  within = within.section.len_fits;
  fields = count_is buf headers r.headers h.fields within.section.count_fits at.fields;
  get = is_get ∙ ap (λ (m : List ℕ). bytes_eq m (codes "GET")) at.method;
  body = is_body ∙ ap has_body at.fields;
  close = is_close ∙ (λ i. (at.version i == 0) || lists_close (at.fields i));
  target = at.path;
  target_within = within.path;
}
