-- What is known of the raw volumes and of the bay of a run of `convert`, before and after it.
pub use Rattle.idx_convert.specs.Known.{Known}
use Rattle.idx_convert.specs.Known.{known_of}
use Rattle.idx_commands.specs.Seen.{BaySeen, RawsSeen}

-- what is known of the raw volumes and of the bay, by what is seen
abbrev pub known : {V B : Type 0} → RawsSeen V → BaySeen B → Known
known raws bay =
    known_of raws.contents raws.asked raws.faults raws.old raws.new
    bay.header bay.files bay.begun bay.changes bay.failed bay.faults bay.old bay.new
