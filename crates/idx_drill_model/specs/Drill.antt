-- A drill: a cube of 2^n points along each of three axes, with one field of bytes and one timestep, and a question for each
-- level of its samples, coarsest first. Its number n is how many binary digits a coordinate has.
use Rattle.std.specs.Prelude.{ℕ, zero, suc, ◌+◌, ◌-◌, ◌*◌, ◌%◌, ◌^◌, min, List, [], ◌∷◌, ◌++◌, map, Some, codes}
use Rattle.std.specs.Fmt.{decimal}
use Rattle.std.specs.List.{range_with_len}
use Rattle.idx_hz.specs.MaskText.{mask_text}
use Rattle.idx_fields.specs.declared.base.Base.TheVariants as bases
use Rattle.idx_fields.specs.Field.{Field}
use Rattle.idx_names.specs.declared.piece.Piece.TheVariants.{Byte, Mark}
use Rattle.idx_names.specs.Template.{TemplateValue}
use Rattle.idx_header.specs.Header.{HeaderValue}
use Rattle.idx_header.specs.declared.steps.Steps.{Steps}
use Rattle.idx_rowmajor.specs.declared.layout.Layout.TheVariants.{Hz}
use Rattle.idx_words.specs.Built.{built_with}
use Rattle.idx_words.specs.ConvertValue.{ConvertValue}
use Rattle.idx_plan.specs.declared.ask.Ask.{Ask}

-- ---- the dataset

-- the greatest coordinate
abbrev pub drill_end : ℕ → ℕ
drill_end n = 2 ^ n - 1

abbrev pub drill_box : ℕ → List (ℕ × ℕ)
drill_box n = (0, drill_end n) ∷ (0, drill_end n) ∷ (0, drill_end n) ∷ []

-- the digits of the mask, which take the axes in turn
abbrev pub drill_mask : ℕ → List ℕ
drill_mask zero = []
drill_mask (suc n) = 0 ∷ 1 ∷ 2 ∷ drill_mask n

-- the finest level, which is how many digits the mask has
abbrev pub drill_depth : ℕ → ℕ
drill_depth n = 3 * n

-- a block has 2 to this many samples
abbrev pub drill_bits : ℕ → ℕ
drill_bits n = min 12 (drill_depth n)

abbrev pub drill_field : Field
drill_field = record { name = codes "a"; base = bases.Uint8; count = 1; attributes = [] }

-- the names of files: six hexadecimal digits and an ending
abbrev pub drill_template : TemplateValue
drill_template = record { above = []; pieces = Mark 6 ∷ map Byte (codes ".bin") }

-- the only timestep, of time 0
abbrev pub drill_steps : Steps
drill_steps = record { first = 0; last = 0; template = record { pieces = map Byte (codes "time") ++ Mark 4 ∷ [] } }

abbrev pub drill_header : ℕ → HeaderValue
drill_header n =
    record {
      box = drill_box n;
      mask = drill_mask n;
      fields = drill_field ∷ [];
      block_bits = drill_bits n;
      blocks_per_file = 4;
      template = drill_template;
      steps = Some drill_steps;
      unknown = [];
      revision = 0;
    }

-- ---- its header's text

-- the text of the box: `0 X` for each axis, where X is the greatest coordinate
abbrev pub drill_extent : ℕ → List ℕ
drill_extent n =
    codes "0 " ++ (decimal (drill_end n) ++ (codes " 0 " ++ (decimal (drill_end n) ++ (codes " 0 " ++ decimal (drill_end n)))))

-- the values of the keys as they are written
abbrev pub drill_words : ℕ → ConvertValue
drill_words n =
    record {
      extent = drill_extent n;
      fields = codes "a uint8";
      mask = mask_text (drill_mask n);
      bits = decimal (drill_bits n);
      per_file = codes "4";
      template = codes "./%06x.bin";
      time = codes "0 0 time%04d/";
      step = 0;
      ranks = 1;
      layout = Hz;
    }

abbrev pub drill_text : ℕ → List ℕ
drill_text n = built_with (drill_words n) (mask_text (drill_mask n))

-- ---- its volume

-- the byte of the sample at a row-major place
abbrev pub drill_byte : ℕ → ℕ → ℕ
drill_byte n place = (31 * place + n) % 256

abbrev pub drill_volume : ℕ → List ℕ
drill_volume n = map (drill_byte n) (range_with_len 0 (2 ^ drill_depth n))

-- ---- its questions

-- the samples of one level, of the whole box
abbrev pub drill_ask : ℕ → ℕ → Ask
drill_ask n level = record { time = 0; field = 0; region = drill_box n; lo = level; hi = level }

abbrev pub drill_asks : ℕ → List Ask
drill_asks n = map (drill_ask n) (range_with_len 0 (drill_depth n + 1))

-- how many blocks the cache keeps
abbrev pub drill_capacity : ℕ
drill_capacity = 64
