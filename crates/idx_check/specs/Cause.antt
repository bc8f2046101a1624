-- What each fault of a check says of what the bay and the reader counted.
use Rattle.std.specs.Prelude.{◌≡◌, ◌⊎◌}
use Rattle.idx_edition.specs.Loaded.{Counts, IsBayFault, IsBayQuiet, IsReaderFault}
use Rattle.idx_check.specs.declared.check_fault.CheckFault.{CheckFault}
use Rattle.idx_check.specs.declared.check_fault.CheckFault.TheVariants.{StoreFault, NoMemory}

-- A fault of the store was counted in this call: by the bay when it was asked for a file, or by the reader. Where there was no
-- memory none was.
abbrev pub IsCheckCause : Counts → CheckFault → Type 0
IsCheckCause c (StoreFault faults) =
    (IsBayFault c × (faults ≡ c.bay_after)) ⊎ (IsReaderFault c × (faults ≡ c.reader_after))
IsCheckCause c NoMemory = IsBayQuiet c × (c.reader_after ≡ c.reader_before)
