-- How a step is gathered in bounded memory: windows of files, and batches of pieces.
use Rattle.std.specs.Prelude.{◌≡◌, ◌⊎◌, ◌≤◌, ℕ, suc, ◌+◌, nat_le, ◌==◌, ◌||◌, Bool, if◌then◌else◌, List, [], ◌∷◌, length, map, sum, take}
use Rattle.idx_header.specs.Header.{HeaderValue}
use Rattle.idx_layout.specs.Files.{length_of_file}
use Rattle.idx_layout.specs.OfHeader.{placing_of}

-- so many more bytes join a run of so many things, which use so much of the room: they fit, or are the first
abbrev pub joins : ℕ → ℕ → ℕ → ℕ → Bool
joins count used more room = (count == 0) || nat_le (used + more) room

-- how many more of these fit into the room, of which so much is used
abbrev pub more_fit : {X : Type 0} → (X → ℕ) → ℕ → ℕ → List X → ℕ
more_fit size room used [] = 0
more_fit size room used (x ∷ xs) = if nat_le (used + size x) room then suc (more_fit size room (used + size x) xs) else 0

-- how many make the first run: the most that fit into the room together, or one
abbrev pub run_count : {X : Type 0} → (X → ℕ) → ℕ → List X → ℕ
run_count size room [] = 0
run_count size room (x ∷ xs) = suc (more_fit size room (size x) xs)

abbrev pub first_run : {X : Type 0} → (X → ℕ) → ℕ → List X → List X
first_run size room xs = take (run_count size room xs) xs

-- these take no more than the room together, or there is one
abbrev pub FitOrIsOne : {X : Type 0} → (X → ℕ) → ℕ → List X → Type 0
FitOrIsOne size room run = (sum (map size run) ≤ room) ⊎ (length run ≡ 1)

-- the next window of some files: the most that fit into the room together, or one
abbrev pub window_of : HeaderValue → ℕ → List ℕ → List ℕ
window_of h room files = first_run (length_of_file (placing_of h)) room files
