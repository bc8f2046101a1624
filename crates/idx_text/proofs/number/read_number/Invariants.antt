use Rattle.std.proofs.Common.{◌≡◌, ◌<◌, ◌^◌, true, take}
use Rattle.std.specs.List.{list_all}
use Rattle.idx_text.specs.Number.{is_digit, decimal_of}
use Rattle.idx_text.proofs.number.read_number.Given as goal

abbrev pub invariant-loop-byte : goal.invariant-loop-byte
invariant-loop-byte l = (list_all is_digit (take l.byte-index l.word) ≡ true) × (l.value ≡ decimal_of (take l.byte-index l.word)) × (l.value < 10 ^ l.byte-index)
