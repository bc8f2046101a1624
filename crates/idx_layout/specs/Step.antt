-- The files of a step of a dataset, by its header: where each stands, and what it holds.
use Rattle.std.specs.Prelude.{ℕ, List, length, map}
use Rattle.idx_geom.specs.Region.{points}
use Rattle.idx_geom.specs.Volume.{volume_of}
use Rattle.idx_fields.specs.Field.{sample_bytes}
use Rattle.idx_header.specs.Header.{HeaderValue}
use Rattle.idx_header.specs.Names.{file_name}
use Rattle.idx_rowmajor.specs.declared.layout.Layout.{Layout}
use Rattle.idx_layout.specs.Placing.{file_numbers}
use Rattle.idx_layout.specs.Files.{file_bytes}
use Rattle.idx_layout.specs.OfHeader.{placing_of}

-- the volume whose raw input these bytes are
abbrev pub volume_of_raw : HeaderValue → List ℕ → List (List (List ℕ))
volume_of_raw h raw = volume_of (map sample_bytes h.fields) (length (points h.box)) raw

-- the path and the bytes of a file of a step whose samples are this volume
abbrev pub step_file : Layout → HeaderValue → List (List (List ℕ)) → ℕ → ℕ → List ℕ × List ℕ
step_file layout h volume step file = (file_name h step file, file_bytes layout (placing_of h) volume file)

-- the files of the step, rising: those that have a present block
abbrev pub step_files : Layout → HeaderValue → List (List (List ℕ)) → ℕ → List (List ℕ × List ℕ)
step_files layout h volume step = map (step_file layout h volume step) (file_numbers (placing_of h))
