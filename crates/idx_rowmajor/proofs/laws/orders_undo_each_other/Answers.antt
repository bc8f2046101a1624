use Rattle.idx_rowmajor.proofs.RowsLemmas.{hz_from_rows-back, rows_from_hz-back, length-hz_from_rows, length-rows_from_hz, sample_of-hz_from_rows, sample_of-rows_from_hz}
use Rattle.idx_rowmajor.proofs.laws.orders_undo_each_other.Goals as goal

pub returns : goal.returns
returns c = record {
  hz_back = λ mask bytes axes bits block size is long. hz_from_rows-back mask axes bits block size bytes is long;
  rows_back = λ mask bytes axes bits block size is long. rows_from_hz-back mask axes bits block size bytes is long;
  hz_length = λ mask bytes axes bits block size is long. length-hz_from_rows mask axes bits block size is bytes long;
  rows_length = λ mask bytes axes bits block size long. length-rows_from_hz mask axes bits block size bytes long;
  hz_sample = λ mask bytes axes bits block size offset is long small. sample_of-hz_from_rows mask axes bits block size is bytes long offset small;
  rows_sample = λ mask bytes axes bits block size place is long small. sample_of-rows_from_hz mask axes bits block size is bytes long place small;
}
