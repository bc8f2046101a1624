-- The layers of a dataset keep the laws that the events stand on.
use Rattle.std.proofs.Common.{◌≡◌, ℕ, true, List, length, ap, ◌∙◌, refl, subst, eqb-true}
use Rattle.std.specs.List.{AllByRecursion}
use Rattle.idx_header.specs.Header.{HeaderValue, at_revision, volume_bytes}
use Rattle.idx_layout.specs.OfHeader.{placing_of}
use Rattle.idx_layout.specs.Placing.{file_numbers}
use Rattle.idx_layout.specs.Shape.{shape_of}
use Rattle.idx_layout.specs.Step.{volume_of_raw}
use Rattle.idx_layout.specs.Step.{step_files as layout_files}
use Rattle.idx_rowmajor.specs.declared.layout.Layout.TheVariants.{Hz}
use Rattle.idx_hall.specs.Posts.{bytes_at, table_of}
use Rattle.idx_query.proofs.AnswerLemmas.{has_field}
use Rattle.idx_edition.specs.Stored.{stored_block}
use Rattle.idx_edition.proofs.SoFarLemmas.{files_rise}
use Rattle.idx_events.specs.Setting.{SettingOk, step_files}
use Rattle.idx_core_model.specs.Headline.{IsDivided}
use Rattle.idx_core_model.specs.Layers.{is_raw, setting_of, step_of}
use Rattle.idx_core_model.proofs.FileLemmas.{files_same, revision_is, stored_length}
use Rattle.idx_core_model.proofs.PieceLemmas.{all_covered, rise_apart}
use Rattle.idx_core_model.proofs.AnswerLemmas.{ask_taken, held_answer, rounds_exist, rounds_some, step_taken}

-- the files of the layers are those that one rank writes of the volume
pub files_of_layers : (h : HeaderValue) (e n t r : ℕ) (raw : List ℕ) → length raw ≡ volume_bytes h → step_files (setting_of h e n) t r raw ≡ layout_files Hz (at_revision r h) (volume_of_raw h raw) t
unfolding setting_of
files_of_layers h e n t r raw whole = files_same h t r raw whole

pub raw_taken : (h : HeaderValue) (raw : List ℕ) → is_raw h raw ≡ true → length raw ≡ volume_bytes h
raw_taken h raw valid = eqb-true (length raw) (volume_bytes h) valid

-- the layers keep their laws
pub layers_ok : (h : HeaderValue) (e n : ℕ) → IsDivided h e n → SettingOk (setting_of h e n)
unfolding setting_of
layers_ok h e n is = record {
  apart = rise_apart 0 (file_numbers (placing_of h)) (files_rise (placing_of h));
  covered = λ file. all_covered h e n file is.header is.digits;
  some_rounds = λ ask. rounds_some h ask;
  field = λ ask valid. has_field h (shape_of h) ask.field refl (ask_taken h ask valid).field;
  blocks = λ ask valid. rounds_exist h ask;
  lengths = λ time revision raw field block valid_step valid_raw has exist.
      let step = step_taken h time revision valid_step in
      let whole = raw_taken h raw valid_raw in
      ap (λ files. length (bytes_at (table_of (shape_of h) (stored_block (at_revision revision h) time (step_of files))) field block)) (files_same h time revision raw whole)
      ∙ stored_length h time revision raw field block (revision_is h revision is.header is.time step.1) step.0 whole has exist;
  answers = λ time revision raw ask held valid_step valid_raw valid_ask each due.
      let step = step_taken h time revision valid_step in
      let whole = raw_taken h raw valid_raw in
      held_answer h time revision raw ask held is.header (revision_is h revision is.header is.time step.1) step.0 whole (ask_taken h ask valid_ask)
      (subst (λ files. AllByRecursion (λ (pair : ℕ × List ℕ). pair.1 ≡ bytes_at (table_of (shape_of h) (stored_block (at_revision revision h) time (step_of files))) ask.field pair.0) held) (files_same h time revision raw whole) each)
      due;
}
