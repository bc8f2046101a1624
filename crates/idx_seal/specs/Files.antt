-- The files of docks.
use Rattle.std.specs.Prelude.{ℕ, List}
use Rattle.idx_header.specs.Header.{HeaderValue}
use Rattle.idx_header.specs.Names.{file_name}
use Rattle.idx_rowmajor.specs.declared.layout.Layout.{Layout}
use Rattle.idx_dock.specs.Content.{dock_bytes_as}
use Rattle.idx_dock.specs.Dock.{DockValue}

-- the file of a dock in a step: its path, and its bytes in a layout
abbrev pub dock_file : Layout → HeaderValue → ℕ → DockValue → List ℕ × List ℕ
dock_file layout h step d = (file_name h step d.file, dock_bytes_as layout d)
