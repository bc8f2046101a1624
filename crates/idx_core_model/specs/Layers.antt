-- The layers of a dataset under its events: files, pieces, samples, blocks, rounds and answers, each by its own definition.
use Rattle.std.specs.Prelude.{ℕ, ◌-◌, ◌*◌, ◌^◌, ◌==◌, ◌&&◌, nat_eq, nat_le, nat_lt, Bool, false, is_none, List, [], ◌++◌, length, find, get_or, map, replicate, Option, Some, None}
use Rattle.std.specs.List.{flat_map, range_with_len, slice_index_or}
use Rattle.std.specs.Option.{option_map_or}
use Rattle.std.specs.Map.{lookup}
use Rattle.idx_outside.specs.Files.{files_of}
use Rattle.idx_outside.specs.declared.mem_file.MemFile.{MemFile}
use Rattle.idx_hz.specs.Answer.{answer}
use Rattle.idx_header.specs.Header.{HeaderValue, at_revision, sample_bytes_of, volume_bytes}
use Rattle.idx_header.specs.Names.{file_name}
use Rattle.idx_header.specs.declared.steps.Steps.{Steps}
use Rattle.idx_table.specs.Row.{row_bytes, row_length}
use Rattle.idx_layout.specs.Files.{rows_of_file}
use Rattle.idx_layout.specs.OfHeader.{placing_of}
use Rattle.idx_layout.specs.Placing.{file_numbers, present_blocks}
use Rattle.idx_layout.specs.Shape.{shape_of}
use Rattle.idx_layout.specs.Step.{volume_of_raw}
use Rattle.idx_rowmajor.specs.declared.layout.Layout.TheVariants.{Hz}
use Rattle.idx_pieces.specs.Pieces.{pieces_of}
use Rattle.idx_pieces.specs.Runs.{file_addresses, sample_at_address}
use Rattle.idx_pieces.specs.Samples.{raw_sample}
use Rattle.idx_dock.specs.Dock.{piece_at_address, reaching}
use Rattle.idx_edition.specs.Stored.{has_block, stored_block}
use Rattle.idx_hall.specs.Posts.{table_of}
use Rattle.idx_plan.specs.Answer.{answer_of}
use Rattle.idx_plan.specs.Needed.{plan_fault}
use Rattle.idx_plan.specs.Rounds.{rounds}
use Rattle.idx_plan.specs.declared.ask.Ask.{Ask}
use Rattle.idx_events.specs.Setting.{Setting}

-- ---- pieces, of e digits, and ranks

-- the ids of the pieces with a point in a file
abbrev pub pieces_in_file : HeaderValue → ℕ → ℕ → ℕ → List ℕ
pieces_in_file h e n file = map (λ piece. piece.id) (reaching h file (pieces_of h e n))

-- the ranks that have a part of the piece of an id; none where there is no such piece
abbrev pub ranks_of_piece : HeaderValue → ℕ → ℕ → ℕ → List ℕ
ranks_of_piece h e n id = option_map_or (λ piece. piece.ranks) (find (λ piece. piece.id == id) (pieces_of h e n)) []

-- ---- files

-- what a table of samples, by field and address of a file, has at an address
abbrev pub table_sample : HeaderValue → ℕ → List (List (List ℕ)) → ℕ → ℕ → List ℕ
table_sample h file samples field address = get_or (get_or samples field []) (address - file * 2 ^ h.block_bits) []

-- a block of a field out of such a table
abbrev pub table_block : HeaderValue → ℕ → List (List (List ℕ)) → ℕ → ℕ → List ℕ
table_block h file samples field block =
    flat_map (table_sample h file samples field) (range_with_len (block * 2 ^ h.block_bits) (2 ^ h.block_bits))

-- the file: forty zeros, the rows, and the present blocks, field after field
abbrev pub laid_out : HeaderValue → ℕ → List (List (List ℕ)) → List ℕ
laid_out h file samples =
    replicate row_length 0 ++ flat_map row_bytes (rows_of_file Hz (placing_of h) file) ++
    flat_map (λ field. flat_map (table_block h file samples field) (present_blocks (placing_of h) file)) (range_with_len 0 (length h.fields))

-- the files of some paths and bytes, in no folder: what is stored goes by the paths alone
abbrev pub step_of : List (List ℕ × List ℕ) → List MemFile
step_of files = files_of [] files

-- ---- questions

-- the bytes of a held block
abbrev pub held_block : List (ℕ × List ℕ) → ℕ → List ℕ
held_block held block = option_map_or (λ bytes. bytes) (lookup (nat_eq block) held) []

-- the answer out of the volume whose raw input these bytes are
abbrev pub answer_of_raw : HeaderValue → List ℕ → Ask → List ℕ
answer_of_raw h raw ask = answer h.mask h.box (slice_index_or (volume_of_raw h raw) ask.field []) ask.region ask.lo ask.hi

-- ---- what a world takes

-- a header with a time has the timestep
abbrev pub has_step_among : Option Steps → ℕ → Bool
has_step_among None time = false
has_step_among (Some steps) time = nat_le steps.first time && nat_le time steps.last

abbrev pub is_step : HeaderValue → ℕ → ℕ → Bool
is_step h time revision = has_step_among h.steps time && nat_le revision 255

abbrev pub is_raw : HeaderValue → List ℕ → Bool
is_raw h raw = nat_eq (length raw) (volume_bytes h)

-- the field exists, the region has the dataset's axes, and the question has a plan
abbrev pub is_ask : HeaderValue → Ask → Bool
is_ask h ask = nat_lt ask.field (length h.fields) && (nat_eq (length ask.region) (length h.box) && is_none (plan_fault h ask))

-- the layers of a dataset of this header, with pieces of e digits and n ranks
unfoldable pub setting_of : HeaderValue → ℕ → ℕ → Setting
setting_of h e n = record {
  files = file_numbers (placing_of h);
  addresses = file_addresses h;
  pieces_in = pieces_in_file h e n;
  ranks = ranks_of_piece h e n;
  piece_at = piece_at_address h e;
  fields = length h.fields;
  zero = λ field. replicate (sample_bytes_of h field) 0;
  sample = λ raw. sample_at_address h (raw_sample h raw);
  name = λ time revision. file_name (at_revision revision h) time;
  lay = laid_out h;
  has_blocks = λ time revision files. table_of (shape_of h) (has_block (at_revision revision h) time (step_of files));
  stored = λ time revision files. table_of (shape_of h) (stored_block (at_revision revision h) time (step_of files));
  shape = shape_of h;
  rounds = λ ask. map (λ keys. map (λ key. key.block) keys) (rounds h ask);
  put_together = λ ask held. answer_of h ask (λ field. held_block held);
  answer = answer_of_raw h;
  valid_step = is_step h;
  valid_raw = is_raw h;
  valid_ask = is_ask h;
}
