use Rattle.std.proofs.Common.{◌≡◌, ◌-◌, ◌^◌, ◌++◌, map}
use Rattle.std.specs.Prelude.{All}
use Rattle.idx_layout.specs.FileNumbers.{AreFiles, files_from}
use Rattle.idx_ship.specs.Shipments.{IsShipment, files_in, placing_in}
use Rattle.idx_ship.proofs.encoding.ship_all.Given as goal

-- the files of the shipments so far, and those from the next on, are all
abbrev pub invariant-loop-block : goal.invariant-loop-block
invariant-loop-block l = record {
  files : map (λ shipment. shipment.file) l.shipments.items ++ files_from (placing_in l.header l.filled.piece.region) l.next ≡ files_in l.header l.filled.piece.region;
  each : All (IsShipment l.header l.filled) l.shipments.items;
  are : AreFiles (placing_in l.header l.filled.piece.region) l.next;
}

-- each block that is found is below 2^40
abbrev pub decreases-loop-block : goal.decreases-loop-block
decreases-loop-block l = 2 ^ 40 - l.next
