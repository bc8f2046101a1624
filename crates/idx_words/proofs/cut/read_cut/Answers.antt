use Rattle.std.proofs.Common.{◌≤◌, List, ℕ, length, map, string_bytes, ap, arith}
use Rattle.std.proofs.lemmas.List.{length-map}
use Rattle.idx_words.specs.CutWord.{place_of}
use Rattle.idx_words.proofs.CutLemmas.{Fault, wrong_size, wrong_extent, wrong_mask, wrong_region, wrong_lo, wrong_hi, wrong_end, right_words, right_values, answered, refused, found_once}
use Rattle.idx_words.proofs.cut.read_cut.Goals as goal

pub returns-in_err-size-clause-place : goal.returns-in_err-size-clause-place
returns-in_err-size-clause-place c =
    let ws : List (List ℕ) = map string_bytes c.args.words.now in
    let fault : Fault ws 1 = wrong_size ws c.in_ok-check_raw.ensures.right c.in_err-size.ensures.wrong in
    answered c.from_residual-in_err-size.result c.in_err-size.field-0.0 ws 1 c.from_residual-in_err-size.ensures.1 (ap place_of c.in_err-size.ensures.word) fault

pub returns-in_err-extent-clause-place : goal.returns-in_err-extent-clause-place
returns-in_err-extent-clause-place c =
    let ws : List (List ℕ) = map string_bytes c.args.words.now in
    let fault : Fault ws 2 = wrong_extent ws c.in_ok-check_raw.ensures.right c.in_ok-size.size c.in_ok-size.ensures.right c.in_err-extent.ensures.wrong in
    answered c.from_residual-in_err-extent.result c.in_err-extent.field-0.0 ws 2 c.from_residual-in_err-extent.ensures.1 (ap place_of c.in_err-extent.ensures.word) fault

pub returns-in_err-mask-clause-read : goal.returns-in_err-mask-clause-read
returns-in_err-mask-clause-read c =
    let ws : List (List ℕ) = map string_bytes c.args.words.now in
    let fault : Fault ws 3 = wrong_mask ws c.in_ok-check_raw.ensures.right c.in_ok-size.size
    c.in_ok-size.ensures.right c.in_ok-extent.extent c.in_ok-extent.ensures.right c.in_err-mask.ensures.wrong in
    refused c.from_residual-in_err-mask.result c.in_err-mask.field-0.0 ws 3 c.from_residual-in_err-mask.ensures.1 (ap place_of c.in_err-mask.ensures.word) fault

pub returns-in_err-mask-clause-place : goal.returns-in_err-mask-clause-place
returns-in_err-mask-clause-place c =
    let ws : List (List ℕ) = map string_bytes c.args.words.now in
    let fault : Fault ws 3 = wrong_mask ws c.in_ok-check_raw.ensures.right c.in_ok-size.size
    c.in_ok-size.ensures.right c.in_ok-extent.extent c.in_ok-extent.ensures.right c.in_err-mask.ensures.wrong in
    answered c.from_residual-in_err-mask.result c.in_err-mask.field-0.0 ws 3 c.from_residual-in_err-mask.ensures.1 (ap place_of c.in_err-mask.ensures.word) fault

pub returns-in_err-region-clause-read : goal.returns-in_err-region-clause-read
returns-in_err-region-clause-read c =
    let ws : List (List ℕ) = map string_bytes c.args.words.now in
    let fault : Fault ws 4 = wrong_region ws c.in_ok-check_raw.ensures.right c.in_ok-size.size
    c.in_ok-size.ensures.right c.in_ok-extent.extent c.in_ok-extent.ensures.right c.in_ok-mask.mask
    c.in_ok-mask.ensures.right c.in_err-region.ensures.wrong in
    refused c.from_residual-in_err-region.result c.in_err-region.field-0.0 ws 4 c.from_residual-in_err-region.ensures.1 (ap place_of c.in_err-region.ensures.word) fault

pub returns-in_err-region-clause-place : goal.returns-in_err-region-clause-place
returns-in_err-region-clause-place c =
    let ws : List (List ℕ) = map string_bytes c.args.words.now in
    let fault : Fault ws 4 = wrong_region ws c.in_ok-check_raw.ensures.right c.in_ok-size.size
    c.in_ok-size.ensures.right c.in_ok-extent.extent c.in_ok-extent.ensures.right c.in_ok-mask.mask
    c.in_ok-mask.ensures.right c.in_err-region.ensures.wrong in
    answered c.from_residual-in_err-region.result c.in_err-region.field-0.0 ws 4 c.from_residual-in_err-region.ensures.1 (ap place_of c.in_err-region.ensures.word) fault

pub returns-in_err-lo-clause-read : goal.returns-in_err-lo-clause-read
returns-in_err-lo-clause-read c =
    let ws : List (List ℕ) = map string_bytes c.args.words.now in
    let fault : Fault ws 5 = wrong_lo ws c.in_ok-check_raw.ensures.right c.in_ok-size.size c.in_ok-size.ensures.right
    c.in_ok-extent.extent c.in_ok-extent.ensures.right c.in_ok-mask.mask c.in_ok-mask.ensures.right
    c.in_ok-region.region c.in_ok-region.ensures.right c.in_err-lo.ensures.wrong in
    refused c.from_residual-in_err-lo.result c.in_err-lo.field-0.0 ws 5 c.from_residual-in_err-lo.ensures.1 (ap place_of c.in_err-lo.ensures.word) fault

pub returns-in_err-lo-clause-place : goal.returns-in_err-lo-clause-place
returns-in_err-lo-clause-place c =
    let ws : List (List ℕ) = map string_bytes c.args.words.now in
    let fault : Fault ws 5 = wrong_lo ws c.in_ok-check_raw.ensures.right c.in_ok-size.size c.in_ok-size.ensures.right
    c.in_ok-extent.extent c.in_ok-extent.ensures.right c.in_ok-mask.mask c.in_ok-mask.ensures.right
    c.in_ok-region.region c.in_ok-region.ensures.right c.in_err-lo.ensures.wrong in
    answered c.from_residual-in_err-lo.result c.in_err-lo.field-0.0 ws 5 c.from_residual-in_err-lo.ensures.1 (ap place_of c.in_err-lo.ensures.word) fault

pub returns-in_err-hi-clause-read : goal.returns-in_err-hi-clause-read
returns-in_err-hi-clause-read c =
    let ws : List (List ℕ) = map string_bytes c.args.words.now in
    let fault : Fault ws 6 = wrong_hi ws c.in_ok-check_raw.ensures.right c.in_ok-size.size c.in_ok-size.ensures.right
    c.in_ok-extent.extent c.in_ok-extent.ensures.right c.in_ok-mask.mask c.in_ok-mask.ensures.right
    c.in_ok-region.region c.in_ok-region.ensures.right c.in_ok-lo.lo c.in_ok-lo.ensures.right
    c.in_err-hi.ensures.wrong in
    refused c.from_residual-in_err-hi.result c.in_err-hi.field-0.0 ws 6 c.from_residual-in_err-hi.ensures.1 (ap place_of c.in_err-hi.ensures.word) fault

pub returns-in_err-hi-clause-place : goal.returns-in_err-hi-clause-place
returns-in_err-hi-clause-place c =
    let ws : List (List ℕ) = map string_bytes c.args.words.now in
    let fault : Fault ws 6 = wrong_hi ws c.in_ok-check_raw.ensures.right c.in_ok-size.size c.in_ok-size.ensures.right
    c.in_ok-extent.extent c.in_ok-extent.ensures.right c.in_ok-mask.mask c.in_ok-mask.ensures.right
    c.in_ok-region.region c.in_ok-region.ensures.right c.in_ok-lo.lo c.in_ok-lo.ensures.right
    c.in_err-hi.ensures.wrong in
    answered c.from_residual-in_err-hi.result c.in_err-hi.field-0.0 ws 6 c.from_residual-in_err-hi.ensures.1 (ap place_of c.in_err-hi.ensures.word) fault

pub returns-in_err-check_end-clause-place : goal.returns-in_err-check_end-clause-place
returns-in_err-check_end-clause-place c =
    let ws : List (List ℕ) = map string_bytes c.args.words.now in
    let fault : Fault ws 7 = wrong_end ws c.in_ok-check_raw.ensures.right c.in_ok-size.size c.in_ok-size.ensures.right
    c.in_ok-extent.extent c.in_ok-extent.ensures.right c.in_ok-mask.mask c.in_ok-mask.ensures.right
    c.in_ok-region.region c.in_ok-region.ensures.right c.in_ok-lo.lo c.in_ok-lo.ensures.right c.in_ok-hi.hi
    c.in_ok-hi.ensures.right (omega (
      arith,
      c.in_err-check_end.ensures.wrong,
      length-map c.args.words.now string_bytes,
    )) in
    answered c.from_residual-in_err-check_end.result c.in_err-check_end.field-0.0 ws 7 c.from_residual-in_err-check_end.ensures.1 (ap place_of c.in_err-check_end.ensures.word) fault

pub returns-clause-read : goal.returns-clause-read
returns-clause-read c =
    let ws : List (List ℕ) = map string_bytes c.args.words.now in
    let few : length ws ≤ 7 = omega (arith, c.in_ok-check_end.ensures.right, length-map c.args.words.now string_bytes) in
    found_once ws _ (right_words ws c.in_ok-check_raw.ensures.right c.in_ok-size.size c.in_ok-size.ensures.right
    c.in_ok-extent.extent c.in_ok-extent.ensures.right c.in_ok-mask.mask c.in_ok-mask.ensures.right
    c.in_ok-region.region c.in_ok-region.ensures.right c.in_ok-lo.lo c.in_ok-lo.ensures.right c.in_ok-hi.hi
    c.in_ok-hi.ensures.right few) (right_values ws c.in_ok-check_raw.ensures.right c.in_ok-size.size
    c.in_ok-size.ensures.right c.in_ok-extent.extent c.in_ok-extent.ensures.right c.in_ok-mask.mask
    c.in_ok-mask.ensures.right c.in_ok-region.region c.in_ok-region.ensures.right c.in_ok-lo.lo
    c.in_ok-lo.ensures.right c.in_ok-hi.hi c.in_ok-hi.ensures.right few)
