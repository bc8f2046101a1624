use Rattle.std.proofs.Common.{◌≡◌, map, take}
use Rattle.httparse.specs.Spans.{header_bytes}
use Rattle.idx_http.specs.Values.{has_body}
use Rattle.idx_http.proofs.look.has_body.Given as goal

abbrev pub invariant-loop-field : goal.invariant-loop-field
invariant-loop-field l = l.found ≡ has_body (map (header_bytes l.buffer) (take l.field-index l.fields))
