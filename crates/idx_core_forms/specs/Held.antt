-- What contracts see of files that are written into memory, and of their reader.
use Rattle.std.specs.Prelude.{ℕ, ◌+◌, ◌%◌, ◌^◌, List, []}
use Rattle.idx_outside.specs.Cause.{counted}

-- the bytes of a draft so far, and how many faults it counted
pub record DraftValue : Type 0 where
  pub bytes : List ℕ
  pub faults : ℕ

abbrev pub empty_draft : DraftValue
empty_draft = record { bytes = []; faults = 0 }

-- the draft after a call that failed
abbrev pub failed : DraftValue → DraftValue
failed d = record { bytes = d.bytes; faults = counted d.faults }

-- how many reads were made, and of how many bytes, both modulo 2^64
pub record ReadsValue : Type 0 where
  pub reads : ℕ
  pub asked : ℕ

abbrev pub no_reads : ReadsValue
no_reads = record { reads = 0; asked = 0 }

-- the counts after a read of so many bytes
abbrev pub after_read : ℕ → ReadsValue → ReadsValue
after_read count r = record { reads = (r.reads + 1) % 2 ^ 64; asked = (r.asked + count) % 2 ^ 64 }
