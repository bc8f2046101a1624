-- The text of a drill reads as its header.
use Rattle.std.proofs.Common.{◌≡◌, ℕ, ◌≤◌, refl}
use Rattle.std.specs.Prelude.{Ok}
use Rattle.std.specs.Fmt.{digits}
use Rattle.idx_text.specs.Lines.{lines}
use Rattle.idx_text.specs.Number.{number_of}
use Rattle.idx_text.specs.Numbers.{numbers_of}
use Rattle.idx_text.specs.Sections.{sections}
use Rattle.idx_hz.specs.MaskText.{mask_of}
use Rattle.idx_fields.specs.Base.{base_of}
use Rattle.idx_fields.specs.Field.{field_of, field_text}
use Rattle.idx_fields.specs.FieldType.{canonical_type, type_of}
use Rattle.idx_fields.specs.Fields.{listed_fields}
use Rattle.idx_names.specs.Pieces.{first_piece, part_of, pieces_behind, pieces_text}
use Rattle.idx_names.specs.Template.{of_parts, parts_of, room, template_of, template_text}
use Rattle.idx_names.specs.TimeTemplate.{time_template_of, time_template_text}
use Rattle.idx_header.specs.Box.{box_of, pairs_of}
use Rattle.idx_header.specs.HeaderOf.{faults_of, header_in, header_of}
use Rattle.idx_header.specs.Keys.{repeated, section_of, unknown_sections}
use Rattle.idx_header.specs.Time.{steps_of}
use Rattle.idx_words.specs.Built.{built_with}
use Rattle.idx_drill_model.specs.Drill.{drill_header, drill_text}
use Rattle.idx_drill_model.proofs.HeaderLemmas.{each-drill}

pub text-read : (n : ℕ) → 1 ≤ n → n ≤ 8 → header_of (drill_text n) ≡ Ok (drill_header n)
unfolding digits lines number_of numbers_of sections mask_of base_of field_of field_text canonical_type type_of listed_fields first_piece part_of pieces_behind pieces_text of_parts parts_of room template_of template_text time_template_of time_template_text box_of pairs_of faults_of header_in header_of repeated section_of unknown_sections steps_of built_with
text-read = each-drill (λ n. header_of (drill_text n) ≡ Ok (drill_header n)) refl refl refl refl refl refl refl refl
