-- The files of docks that are begun and not complete.
use Rattle.std.specs.Prelude.{ℕ, ◌&&◌, Bool, not, List, sum_by, if◌then◌else◌}
use Rattle.std.specs.List.{list_any}
use Rattle.std.specs.Option.{is_some}
use Rattle.idx_header.specs.Header.{HeaderValue}
use Rattle.idx_layout.specs.Files.{length_of_file}
use Rattle.idx_layout.specs.OfHeader.{placing_of}
use Rattle.idx_dock.specs.Dock.{DockValue}

-- of some piece that it awaits something was delivered, and of another nothing
abbrev pub is_begun : DockValue → Bool
is_begun d = list_any (λ a. is_some a.runs) d.awaited && list_any (λ a. not (is_some a.runs)) d.awaited

-- how many bytes the files of those docks have together
abbrev pub begun_bytes : HeaderValue → List DockValue → ℕ
begun_bytes h docks = sum_by (λ d. if is_begun d then length_of_file (placing_of h) d.file else 0) docks
