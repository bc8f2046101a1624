-- Volumes of a dataset whose files are those of other volumes.
use Rattle.std.specs.Prelude.{◌≡◌, ◌≢◌, ℕ, Contains, List, length, map}
use Rattle.idx_geom.specs.Region.{points}
use Rattle.idx_geom.specs.Volume.{IsVolume}
use Rattle.idx_fields.specs.Field.{sample_bytes}
use Rattle.idx_header.specs.Header.{HeaderValue}
use Rattle.idx_rowmajor.specs.declared.layout.Layout.{Layout}
use Rattle.idx_layout.specs.Files.{file_bytes}
use Rattle.idx_layout.specs.OfHeader.{placing_of}
use Rattle.idx_layout.specs.Placing.{file_numbers}

-- a volume of a dataset: for each field a sample of its size for each point of the box
abbrev pub IsVolumeOf : HeaderValue → List (List (List ℕ)) → Type 0
IsVolumeOf h volume = IsVolume (map sample_bytes h.fields) (length (points h.box)) volume

-- two volumes have one file, in each layout
abbrev pub HaveOneFile : HeaderValue → ℕ → List (List (List ℕ)) → List (List (List ℕ)) → Type 0
HaveOneFile h file v w = (layout : Layout) → file_bytes layout (placing_of h) v file ≡ file_bytes layout (placing_of h) w file

-- a volume each of whose files is that of the file's own volume
pub record IsWhole (h : HeaderValue) (volumes : ℕ → List (List (List ℕ))) (u : List (List (List ℕ))) : Type 0 where
  pub volume : IsVolumeOf h u
  pub files : (file : ℕ) → Contains (file_numbers (placing_of h)) file → HaveOneFile h file u (volumes file)

-- a volume whose file of this number is that of w, and whose other files are those of v; it is v where v and w are one
pub record IsJoin (h : HeaderValue) (v w : List (List (List ℕ))) (file : ℕ) (u : List (List (List ℕ))) : Type 0 where
  pub volume : IsVolumeOf h u
  pub own : HaveOneFile h file u w
  pub others : (other : ℕ) → Contains (file_numbers (placing_of h)) other → other ≢ file → HaveOneFile h other u v
  pub same : v ≡ w → u ≡ v
