-- The small drill meets all that the laws ask for.
use Rattle.std.proofs.Common.{[], ◌∷◌, refl, arith}
use Rattle.idx_events.specs.Setting.{SettingOk}
use Rattle.idx_events.specs.WorldOk.{WorldOk}
use Rattle.idx_events.proofs.StartLemmas.{new-world}
use Rattle.idx_events.proofs.TinyLemmas.{tiny-laws}
use Rattle.idx_events.specs.Tiny.{numbers, tiny_ask}
use Rattle.idx_drill_events.specs.Written.{AreAll}
use Rattle.idx_drill_events.specs.Asked.{AreAsked}
use Rattle.idx_drill_events.specs.Drill.{IsDrill, opened_hall}
use Rattle.idx_drill_events.specs.Worked.{small, small_volume, small_questions, small_world}

pub small-laws : SettingOk small
small-laws = record {
  apart = tiny-laws.apart;
  covered = tiny-laws.covered;
  some_rounds = λ ask. omega arith;
  field = tiny-laws.field;
  blocks = λ ask valid. ((omega arith, (omega arith, tt)), tt);
  lengths = tiny-laws.lengths;
  answers = tiny-laws.answers;
}

small-all : AreAll small (numbers 0 1) 2
small-all = record {
  files_apart = tiny-laws.apart;
  pieces_apart = tiny-laws.apart;
  covered = ((refl, (refl, tt)), ((refl, tt), tt));
  below = ((omega arith, tt), ((omega arith, (omega arith, tt)), tt));
}

small-start : WorldOk small small_world
small-start = new-world small ((5, small_volume) ∷ []) (tiny_ask ∷ tiny_ask ∷ []) 1 (omega arith) (refl, tt) (refl, tt) (refl, (refl, tt))

small-asked : AreAsked small (opened_hall small 5 small_volume 1) small_questions
small-asked = (record { post = refl; rounds = refl; missing = refl }, (record { post = refl; rounds = refl; missing = refl }, tt))

pub small-drill : IsDrill small 5 small_volume (numbers 0 1) 2 1 small_questions
small-drill = record { all = small-all; start = small-start; asked = small-asked }
