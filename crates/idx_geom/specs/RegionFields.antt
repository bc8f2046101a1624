-- How a region is stored: its lower ends, and its upper ends.
use Rattle.std.specs.Prelude.{◌≡◌, ℕ, List, length, map}
use Rattle.std.specs.List.{zip}
use Rattle.std.proofs.Common.{sym}
use Rattle.std.proofs.lemmas.Slice.Zip.{firsts-zip, seconds-zip}
use Rattle.idx_geom.specs.Region.{IsRegion}
use Rattle.idx_geom.specs.declared.region.Region.TheInside.{Inside}

pub record IsStored (r : Inside) : Type 0 where
  pub same_axes : length r.lo ≡ length r.hi
  pub region : IsRegion (zip r.lo r.hi)

abbrev pub fields : List (ℕ × ℕ) → Inside
fields r = record { lo = map (λ b. b.0) r; hi = map (λ b. b.1) r }

pub fields_again : (r : Inside) → IsStored r → fields (zip r.lo r.hi) ≡ r
fields_again r h = λ i. record { lo = firsts-zip r.lo r.hi (sym h.same_axes) i; hi = seconds-zip r.lo r.hi (sym h.same_axes) i }
