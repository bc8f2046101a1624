use Rattle.std.proofs.Common.{◌≡◌, map, string_bytes, subst}
use Rattle.std.proofs.lemmas.List.{length-map}
use Rattle.std.specs.Option.{is_some}
use Rattle.idx_words.specs.declared.setting.Setting.TheVariants as options
use Rattle.idx_words.specs.Options.{given}
use Rattle.idx_words.specs.Place.{IsPlace}
use Rattle.idx_words.specs.ServeGrammar.{AreServeOptions}
use Rattle.idx_words.proofs.ServeLemmas.{option_missing, options_wrong}
use Rattle.idx_words.proofs.serve_options.read_serve_options.Goals as goal

pub returns-in-Err-clause-place : goal.returns-in-Err-clause-place
returns-in-Err-clause-place c =
    (options_wrong (map string_bytes c.args.words.now) c.in-Err.misread.at (record { place = c.in-Err.ensures.place; none = c.in-Err.ensures.wrong })).place

pub returns-in-Some-clause-place : goal.returns-in-Some-clause-place
returns-in-Some-clause-place c =
    subst (λ at. IsPlace AreServeOptions (map string_bytes c.args.words.now) at) (length-map c.args.words.now string_bytes)
    (option_missing (map string_bytes c.args.words.now) c.in-Ok.ensures.right
    (subst (λ words. ¬ (is_some (given words options.Ingest) ≡ is_some (given words options.Raw))) c.in-Ok.ensures.read c.in-Some.ensures)).place
