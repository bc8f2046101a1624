-- The kinds of faults of a header, of a file's table, and of a file that is not the writer's, by their names, as they are printed.
use Rattle.std.specs.Prelude.{ℕ, List, codes}
use Rattle.idx_header.specs.declared.header_kind.HeaderKind.{HeaderKind}
use Rattle.idx_header.specs.declared.header_kind.HeaderKind.TheVariants as kinds
use Rattle.idx_table.specs.declared.table_fault.TableKind.{TableKind}
use Rattle.idx_table.specs.declared.table_fault.TableKind.TheVariants as tables
use Rattle.idx_check.specs.declared.verdict.WrongKind.{WrongKind}
use Rattle.idx_check.specs.declared.verdict.WrongKind.TheVariants as wrongs

abbrev pub kind_text : HeaderKind → List ℕ
kind_text kinds.NotText = codes "NotText"
kind_text kinds.DoubleKey = codes "DoubleKey"
kind_text kinds.MissingKey = codes "MissingKey"
kind_text kinds.BadNumber = codes "BadNumber"
kind_text kinds.OtherVersion = codes "OtherVersion"
kind_text kinds.BadBox = codes "BadBox"
kind_text kinds.BadMask = codes "BadMask"
kind_text kinds.BoxOutsideMask = codes "BoxOutsideMask"
kind_text kinds.BadField = codes "BadField"
kind_text kinds.BadTemplate = codes "BadTemplate"
kind_text kinds.TemplateTooSmall = codes "TemplateTooSmall"
kind_text kinds.BadTime = codes "BadTime"
kind_text kinds.OverLimit = codes "OverLimit"
kind_text kinds.NoMemory = codes "NoMemory"

abbrev pub table_kind_text : TableKind → List ℕ
table_kind_text tables.CutShort = codes "CutShort"
table_kind_text tables.Compressed = codes "Compressed"
table_kind_text tables.WrongSize = codes "WrongSize"
table_kind_text tables.OutsideFile = codes "OutsideFile"
table_kind_text tables.NoMemory = codes "NoMemory"

abbrev pub wrong_kind_text : WrongKind → List ℕ
wrong_kind_text wrongs.Missing = codes "Missing"
wrong_kind_text wrongs.Extra = codes "Extra"
wrong_kind_text wrongs.Byte = codes "Byte"
