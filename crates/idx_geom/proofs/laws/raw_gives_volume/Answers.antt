use Rattle.idx_geom.proofs.VolumeLemmas.{IsVolume-volume_of, length-raw_of, raw_of-volume_of, volume_of-raw_of}
use Rattle.idx_geom.proofs.laws.raw_gives_volume.Goals as goal

pub returns-clause-cut : goal.returns-clause-cut
returns-clause-cut c = IsVolume-volume_of

pub returns-clause-raw : goal.returns-clause-raw
returns-clause-raw c = raw_of-volume_of

pub returns-clause-length : goal.returns-clause-length
returns-clause-length c = length-raw_of

pub returns-clause-volume : goal.returns-clause-volume
returns-clause-volume c = volume_of-raw_of
