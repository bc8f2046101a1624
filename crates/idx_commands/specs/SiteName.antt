-- The name that a dataset is served by.
use Rattle.std.specs.Prelude.{ℕ, ◌-◌, List, length, take, drop, bytes_eq, codes, if◌then◌else◌, option_map, unwrap_or}
use Rattle.std.specs.Path.{rsplit_once, slash}

-- the part of a path behind its last `/`, or all of it where there is none
abbrev pub last_part : List ℕ → List ℕ
last_part path = unwrap_or (option_map (λ split. split.1) (rsplit_once slash path)) path

-- a name without an ending `.idx`
abbrev pub without_ending : List ℕ → List ℕ
without_ending name =
    if bytes_eq (drop (length name - 4) name) (codes ".idx") then take (length name - 4) name else name

-- the name of the dataset that has its header at this path
abbrev pub site_name : List ℕ → List ℕ
site_name path = without_ending (last_part path)
