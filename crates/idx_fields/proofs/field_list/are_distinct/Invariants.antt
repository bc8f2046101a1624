use Rattle.std.proofs.Common.{◌≡◌, true, List, ℕ, take, Bor}
use Rattle.std.specs.List.{list_any}
use Rattle.std.specs.Str.{bytes_eq}
use Rattle.std.specs.BTreeSet.{contains}
use Rattle.std.specs.Cmp.Lexicographic.{slice_cmp}
use Rattle.std.specs.Ordering.{nat_cmp}
use Rattle.idx_fields.specs.Fields.{are_distinct, names_of}
use Rattle.idx_fields.proofs.field_list.are_distinct.Given as goal

abbrev pub invariant-loop-field : goal.invariant-loop-field
invariant-loop-field l =
    (are_distinct (names_of (take l.field-index l.fields)) ≡ true)
    × ((q : Bor (List ℕ)) → contains (λ a b. slice_cmp nat_cmp a.now b.now) l.names q ≡ list_any (bytes_eq q.now) (names_of (take l.field-index l.fields)))
