-- Headers and files that the worked values name.
use Rattle.std.specs.Prelude.{ℕ, ◌+◌, List, [], ◌∷◌, ◌++◌, take, drop, map, Some, None, codes}
use Rattle.idx_fields.specs.declared.base.Base.TheVariants as bases
use Rattle.idx_names.specs.declared.piece.Piece.TheVariants.{Byte, Mark}
use Rattle.idx_outside.specs.declared.mem_file.MemFile.{MemFile}
use Rattle.idx_text.specs.Entries.{lines_text}
use Rattle.idx_header.specs.Header.{HeaderValue}

-- the lines of a small header
abbrev pub small_lines : List (List ℕ)
small_lines =
    codes "(version)" ∷ codes "6" ∷ codes "(box)" ∷ codes "0 3 0 3" ∷ codes "(fields)" ∷ codes "a uint8" ∷ codes "(bits)"
    ∷ codes "V0101" ∷ codes "(bitsperblock)" ∷ codes "2" ∷ codes "(blocksperfile)" ∷ codes "2" ∷ codes "(filename_template)"
    ∷ codes "./%01x.bin" ∷ codes "(time)" ∷ codes "0 9 time%04d/" ∷ []

abbrev pub small_text : List ℕ
small_text = lines_text small_lines

-- the same with another line behind so many
abbrev pub with_line_at : ℕ → List ℕ → List ℕ
with_line_at place line = lines_text (take place small_lines ++ line ∷ drop (place + 1) small_lines)

abbrev pub small_header : HeaderValue
small_header =
    record {
      box = (0, 3) ∷ (0, 3) ∷ [];
      mask = 0 ∷ 1 ∷ 0 ∷ 1 ∷ [];
      fields = record { name = codes "a"; base = bases.Uint8; count = 1; attributes = [] } ∷ [];
      block_bits = 2;
      blocks_per_file = 2;
      template = record { above = []; pieces = Mark 1 ∷ map Byte (codes ".bin") };
      steps = Some (record { first = 0; last = 9; template = record { pieces = map Byte (codes "time") ++ Mark 4 ∷ [] } });
      unknown = [];
      revision = 0;
    }

-- the same without a time
abbrev pub untimed_header : HeaderValue
untimed_header =
    record {
      box = small_header.box;
      mask = small_header.mask;
      fields = small_header.fields;
      block_bits = small_header.block_bits;
      blocks_per_file = small_header.blocks_per_file;
      template = small_header.template;
      steps = None;
      unknown = [];
      revision = 0;
    }

-- a file of this folder
abbrev pub file_in : List ℕ → MemFile
file_in folder = record { folder = folder; path = folder ++ codes "/0.bin"; bytes = [] }
