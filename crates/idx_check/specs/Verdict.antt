-- What is wrong with the files of a step, if anything.
use Rattle.std.specs.Prelude.{ℕ, Bool, true, false, ◌+◌, ◌-◌, ◌*◌, ◌/◌, ◌==◌, List, filter, length, map, slice_get, sum_by, Option, Some, None, if◌then◌else◌}
use Rattle.std.specs.Option.{option_map, unwrap_or}
use Rattle.std.specs.List.{filter_map, list_any, range_with_len}
use Rattle.idx_outside.specs.Files.{file_at}
use Rattle.idx_outside.specs.declared.mem_file.MemFile.{MemFile}
use Rattle.idx_header.specs.Header.{HeaderValue}
use Rattle.idx_header.specs.Names.{file_name}
use Rattle.idx_layout.specs.Files.{length_of_file}
use Rattle.idx_layout.specs.OfHeader.{placing_of}
use Rattle.idx_layout.specs.Placing.{Placing, block_count, file_numbers}
use Rattle.idx_edition.specs.Stored.{found_file}
use Rattle.idx_check.specs.Difference.{first_difference}
use Rattle.idx_check.specs.Wanted.{wanted_bytes}
use Rattle.idx_check.specs.declared.verdict.Verdict.{Verdict}
use Rattle.idx_check.specs.declared.verdict.Verdict.TheVariants.{Same, Wrong}
use Rattle.idx_check.specs.declared.verdict.WrongKind.TheVariants.{Missing, Extra, Byte}

-- how many files all blocks of a dataset would take, present or not
abbrev pub file_count : Placing → ℕ
file_count l = (block_count l + l.per_file - 1) / l.per_file

-- the numbers of all these files, rising
abbrev pub all_files : Placing → List ℕ
all_files l = map (λ i. l.per_file * i) (range_with_len 0 (file_count l))

-- the writer writes a file of this number
abbrev pub is_written : Placing → ℕ → Bool
is_written l file = list_any (λ number. number == file) (file_numbers l)

-- what is wrong with a file, if anything, by whether the writer writes it, and its bytes if it is there
abbrev pub wrong_in : Placing → ℕ → Bool → Option (List ℕ) → Option Verdict
wrong_in l file true None = Some (Wrong file 0 Missing)
wrong_in l file true (Some bytes) = option_map (λ at. Wrong file at Byte) (first_difference bytes (wanted_bytes l file bytes))
wrong_in l file false None = None
wrong_in l file false (Some bytes) = Some (Wrong file 0 Extra)

-- the same of the file of a number, by what is there of it
unfoldable pub wrong_there : Placing → ℕ → Option (List ℕ) → Option Verdict
wrong_there l file there = wrong_in l file (is_written l file) there

-- how many bytes the writer writes into the file of a number: none where it does not write it
unfoldable pub written_length : Placing → ℕ → ℕ
written_length l file = if is_written l file then length_of_file l file else 0

-- the files that the writer writes, of the first so many
abbrev pub written_before : Placing → ℕ → List ℕ
written_before l i = filter (is_written l) (map (λ k. l.per_file * k) (range_with_len 0 i))

-- what is wrong with the file of this number of a step, if anything
abbrev pub wrong_of_file : HeaderValue → ℕ → List MemFile → ℕ → Option Verdict
wrong_of_file h step files file =
    wrong_in (placing_of h) file (is_written (placing_of h) file) (file_at (file_name h step file) files)

-- what is wrong with the first file of a step with which something is, if there is one
abbrev pub first_wrong : HeaderValue → ℕ → List MemFile → Option Verdict
first_wrong h step files = slice_get (filter_map (wrong_of_file h step files) (all_files (placing_of h))) 0

-- nothing is wrong: so many files, with so many bytes in all
abbrev pub same : Placing → Verdict
same l = Same (length (file_numbers l)) (sum_by (length_of_file l) (file_numbers l))

-- what is said of a step
abbrev pub verdict_of : HeaderValue → ℕ → List MemFile → Verdict
verdict_of h step files = unwrap_or (first_wrong h step files) (same (placing_of h))

-- the files of a step that are there, rising, of all that the blocks of its mask would take
abbrev pub files_there : HeaderValue → ℕ → List MemFile → List (List ℕ × List ℕ)
files_there h step files = filter_map (found_file h step files) (all_files (placing_of h))
