-- The runs of a shipment have the samples of the raw volume that the piece was read from.
use Rattle.std.proofs.Common.{◌≡◌, ℕ, List, length, get_or, sym, ap, ◌∙◌, Some}
use Rattle.std.specs.Prelude.{All, Contains}
use Rattle.std.specs.List.{flat_map, range_with_len}
use Rattle.std.proofs.lemmas.Option.{slice_get-get_or}
use Rattle.idx_geom.specs.Region.{HoldsAll, LiesIn, points}
use Rattle.idx_geom.proofs.PointsLemmas.{LiesIn-slice_get}
use Rattle.idx_header.specs.Header.{HeaderValue, volume_bytes}
use Rattle.idx_pieces.specs.Runs.{HasSamples, run_addresses, sample_at_address}
use Rattle.idx_pieces.specs.Samples.{HoldsSamples, raw_sample}
use Rattle.idx_pieces.specs.declared.filled.Filled.{Filled}
use Rattle.idx_pieces.specs.declared.run.Run.{Run}
use Rattle.idx_pieces.specs.declared.shipment.Shipment.{Shipment}
use Rattle.idx_pieces.proofs.JoinLists.{joined_agree, joined_within}
use Rattle.idx_ship.specs.Shipments.{IsShipment}
use Rattle.idx_gather.specs.States.{AreBoxSamples}
use Rattle.idx_gather.proofs.FitLemmas.{at_address, fit, fit_are, fit_same, raw_are}

module _ (h : HeaderValue) (sample : ℕ → List ℕ → List ℕ) (are : AreBoxSamples h sample) where
  -- what holds the samples of a part of the box holds these
  held_fits : (region : List (ℕ × ℕ)) (bytes : List ℕ) → HoldsAll h.box region → HoldsSamples h sample region bytes → HoldsSamples h (fit h sample) region bytes
  held_fits region bytes inside held =
      held
      ∙ joined_agree (λ field. flat_map (sample field) (points region)) (λ field. flat_map (fit h sample field) (points region)) (range_with_len 0 (length h.fields))
      (λ field. joined_within (sample field) (fit h sample field) (points region) (λ p among. sym (fit_same h sample are field p (inside p (lies p among)))))
    where
      lies : (p : List ℕ) → Contains (points region) p → LiesIn region p
      lies p among = (LiesIn-slice_get region among.0 p (slice_get-get_or (points region) among.0 p among.1 ∙ ap Some among.2)).0

  run_fits : (run : Run) → HasSamples h (fit h sample) run → HasSamples h sample run
  run_fits run has = has ∙ joined_agree (sample_at_address h (fit h sample) run.field) (sample_at_address h sample run.field) (run_addresses h run) (at_address h sample are run.field)

-- the runs of a shipment of a piece that holds the samples of a raw volume have these samples
pub runs_have : (h : HeaderValue) (raw : List ℕ) (filled : Filled) (s : Shipment) → length raw ≡ volume_bytes h → HoldsAll h.box filled.piece.region →
    HoldsSamples h (raw_sample h raw) filled.piece.region filled.bytes → IsShipment h filled s → All (HasSamples h (raw_sample h raw)) s.runs
runs_have h raw filled s whole inside held is k d within =
    let sample : ℕ → List ℕ → List ℕ = raw_sample h raw in
    let are : AreBoxSamples h sample = raw_are h raw whole in
    run_fits h sample are (get_or s.runs k d) (is.samples (fit h sample) (fit_are h sample) (held_fits h sample are filled.piece.region filled.bytes inside held) k d within)
