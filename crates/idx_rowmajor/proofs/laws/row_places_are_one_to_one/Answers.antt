use Rattle.idx_rowmajor.proofs.RowPlaceLemmas.{row_place-lt, row_place-injective, row_place-onto, offset_at-lt, offset_at-row_place, row_place-offset_at}
use Rattle.idx_rowmajor.proofs.laws.row_places_are_one_to_one.Goals as goal

pub returns : goal.returns
returns c = record {
  within = row_place-lt;
  apart = row_place-injective;
  onto = row_place-onto;
  offsets_within = offset_at-lt;
  back = offset_at-row_place;
  forth = row_place-offset_at;
}
