-- The files of a window are those of the step behind the first ones.
use Rattle.std.proofs.Common.{◌≡◌, ◌≢◌, ℕ, ◌+◌, ◌≤◌, List, [], ◌∷◌, ◌++◌, length, get_or, map, take, drop, refl, sym, ap, subst, ◌∙◌, arith}
use Rattle.std.specs.Prelude.{◌==◌, ◌&&◌, All, AllPairs, Contains, IfSome, Option, Some, None}
use Rattle.std.specs.List.{AllZip, list_any, range_with_len}
use Rattle.std.proofs.lemmas.List.{length-append, length-map, map-append}
use Rattle.std.proofs.lemmas.List.Elements.{All-cons, All-contains_itself, All-head, All-map, All-nil, All-same, All-tail, All-take, All-weaker}
use Rattle.idx_outside.specs.Files.{entry_shown, known_files, known_with, shown}
use Rattle.idx_outside.specs.declared.mem_file.MemFile.{MemFile}
use Rattle.idx_header.specs.Header.{HeaderValue, IsHeader}
use Rattle.idx_header.specs.Names.{file_name}
use Rattle.idx_rowmajor.specs.declared.layout.Layout.{Layout}
use Rattle.idx_layout.specs.Files.{file_bytes, length_of_file}
use Rattle.idx_layout.specs.OfHeader.{placing_of}
use Rattle.idx_layout.specs.Placing.{Placing, block_count, file_numbers, file_of, is_present}
use Rattle.idx_layout.specs.Step.{step_file, volume_of_raw}
use Rattle.idx_pieces.specs.Runs.{HasSamples}
use Rattle.idx_pieces.specs.Samples.{raw_sample}
use Rattle.idx_pieces.specs.declared.piece.Piece.{Piece}
use Rattle.idx_dock.specs.Content.{dock_bytes_as, runs_in, sample_of}
use Rattle.idx_dock.specs.Dock.{DockValue, IsDock, awaited_of, missing, new_dock, reaching}
use Rattle.idx_dock.proofs.CompleteLemmas.{complete_bytes_as}
use Rattle.idx_dock.proofs.ContentLemmas.{one_of}
use Rattle.idx_seal.specs.Files.{dock_file}
use Rattle.idx_volumes.specs.Volumes.{HaveOneFile, IsVolumeOf}
use Rattle.idx_volumes.proofs.DockLemmas.{dock_volume}
use Rattle.idx_volumes.proofs.JoinLemmas.{join}
use Rattle.idx_gather.specs.States.{AreDocks, AreFilesSoFar, AreFirstFiles, AreFull, HaveSamples, IsDockOf, IsOpening, TellsFile}
use Rattle.idx_gather.specs.Windows.{run_count}
use Rattle.idx_gather.proofs.PairLemmas.{All-back, All-front, All-of_map, kept_apart, pairs_head, pairs_of_map, pairs_tail, pairs_take}
use Rattle.idx_gather.proofs.RunLemmas.{run_within}
use Rattle.idx_gather.proofs.SealLemmas.{length_take, take_more}
use Rattle.idx_gather.proofs.ToldLemmas.{told_known, zip_append}

-- ---- lists

pub maps_agree : {X Y : Type 0} (f g : X → Y) (xs : List X) → All (λ x. f x ≡ g x) xs → map f xs ≡ map g xs
maps_agree f g [] all = refl
maps_agree f g (x ∷ xs) all =
    ap (λ y. y ∷ map f xs) (All-head (λ x. f x ≡ g x) x xs all) ∙ ap (λ ys. g x ∷ ys) (maps_agree f g xs (All-tail (λ x. f x ≡ g x) x xs all))

pub pairs_back : {X : Type 0} (R : X → X → Type 0) (xs ys : List X) → AllPairs R (xs ++ ys) → AllPairs R ys
pairs_back R [] ys all = all
pairs_back R (x ∷ xs) ys all = pairs_back R xs ys (pairs_tail R x (xs ++ ys) all)

pub pairs_across : {X : Type 0} (R : X → X → Type 0) (xs ys : List X) → AllPairs R (xs ++ ys) → All (λ x. All (R x) ys) xs
pairs_across R [] ys all = All-nil (λ x. All (R x) ys)
pairs_across R (x ∷ xs) ys all =
    All-cons (λ x. All (R x) ys) x xs (All-back (R x) xs ys (pairs_head R x (xs ++ ys) all)) (pairs_across R xs ys (pairs_tail R x (xs ++ ys) all))

-- ---- volumes

-- a volume u with the files of the docks, whose other files are those of v
pub record IsGrown (h : HeaderValue) (docks : List DockValue) (v u : List (List (List ℕ))) : Type 0 where
  pub volume : IsVolumeOf h u
  pub kept : (file : ℕ) → Contains (file_numbers (placing_of h)) file → All (λ d. file ≢ d.file) docks → HaveOneFile h file u v
  pub own : (layout : Layout) → All (λ d. dock_bytes_as layout d ≡ file_bytes layout (placing_of h) u d.file) docks

-- some volume has the file of a dock
volume_of_dock : (h : HeaderValue) (d : DockValue) → IsDock d → d.header ≡ h →
    (w : List (List (List ℕ))) × (IsVolumeOf h w × ((layout : Layout) → dock_bytes_as layout d ≡ file_bytes layout (placing_of h) w d.file))
volume_of_dock h d is same =
    subst (λ (g : HeaderValue). (w : List (List (List ℕ))) × (IsVolumeOf g w × ((layout : Layout) → dock_bytes_as layout d ≡ file_bytes layout (placing_of g) w d.file))) same (dock_volume d is)

-- some volume has the files of all
grow : (h : HeaderValue) (docks : List DockValue) (v : List (List (List ℕ))) → All IsDock docks → All (λ d. d.header ≡ h) docks →
    All (λ d. Contains (file_numbers (placing_of h)) d.file) docks → AllPairs (λ a b. a.file ≢ b.file) docks → IsVolumeOf h v → (u : List (List (List ℕ))) × IsGrown h docks v u
grow h [] v are of_h among apart is =
    (v, record { volume = is; kept = λ file inside others layout. refl; own = λ layout. All-nil (λ d. dock_bytes_as layout d ≡ file_bytes layout (placing_of h) v d.file) })
grow h (d ∷ docks) v are of_h among apart is =
    let dock : IsDock d = All-head IsDock d docks are in
    let same : d.header ≡ h = All-head (λ e. e.header ≡ h) d docks of_h in
    let w = volume_of_dock h d dock same in
    let here : Contains (file_numbers (placing_of h)) d.file = All-head (λ e. Contains (file_numbers (placing_of h)) e.file) d docks among in
    let one = join h v w.0 d.file (subst IsHeader same dock.header) is w.1.0 here in
    let rest = grow h docks one.0 (All-tail IsDock d docks are) (All-tail (λ e. e.header ≡ h) d docks of_h)
    (All-tail (λ e. Contains (file_numbers (placing_of h)) e.file) d docks among) (pairs_tail (λ a b. a.file ≢ b.file) d docks apart) one.1.volume in (
      rest.0,
      record {
        volume = rest.1.volume;
        kept = λ file inside others layout. rest.1.kept file inside (All-tail (λ e. file ≢ e.file) d docks others) layout
            ∙ one.1.others file inside (All-head (λ e. file ≢ e.file) d docks others) layout;
        own = λ layout. All-cons (λ e. dock_bytes_as layout e ≡ file_bytes layout (placing_of h) rest.0 e.file) d docks
            (w.1.1 layout ∙ sym (one.1.own layout) ∙ sym (rest.1.kept d.file here (pairs_head (λ a b. a.file ≢ b.file) d docks apart) layout)) (rest.1.own layout);
      },
    )

-- a dock that has the samples of a raw volume has its file
told_bytes : (layout : Layout) (h : HeaderValue) (raw : List ℕ) (v : List (List (List ℕ))) (d : DockValue) → v ≡ volume_of_raw h raw → IsVolumeOf h v → IsDock d → d.header ≡ h → missing d ≡ None →
    All (HasSamples h (raw_sample h raw)) (runs_in d.awaited) → dock_bytes_as layout d ≡ file_bytes layout (placing_of h) v d.file
told_bytes layout h raw v d at are is same none given =
    let samples : All (HasSamples h (sample_of h v)) (runs_in d.awaited) =
    subst (λ (w : List (List (List ℕ))). All (HasSamples h (sample_of h w)) (runs_in d.awaited)) (sym at) given in
    subst (λ (g : HeaderValue). dock_bytes_as layout d ≡ file_bytes layout (placing_of g) v d.file) same
    (complete_bytes_as layout d is none v (subst (λ (g : HeaderValue). IsVolumeOf g v) (sym same) are)
    (λ r here. subst (λ (g : HeaderValue). HasSamples g (sample_of g v) r) (sym same) (one_of (HasSamples h (sample_of h v)) (runs_in d.awaited) r samples here)))

-- a volume with the files of the docks, which is that of the raw input where this is told
pub grown : (told : Option (List ℕ)) (h : HeaderValue) (docks : List DockValue) (v : List (List (List ℕ))) → IfSome told (λ raw. v ≡ volume_of_raw h raw) → IsVolumeOf h v →
    All IsDock docks → All (λ d. d.header ≡ h) docks → All (λ d. Contains (file_numbers (placing_of h)) d.file) docks → AllPairs (λ a b. a.file ≢ b.file) docks → AreFull docks →
    ((raw : List ℕ) → told ≡ Some raw → HaveSamples h (raw_sample h raw) docks) →
    (u : List (List (List ℕ))) × (IsGrown h docks v u × IfSome told (λ raw. u ≡ volume_of_raw h raw))
grown None h docks v at is are of_h among apart full samples =
    let one = grow h docks v are of_h among apart is in
    (one.0, (one.1, tt))
grown (Some raw) h docks v at is are of_h among apart full samples = (
  v,
  (
    record {
      volume = is;
      kept = λ file inside others layout. refl;
      own = λ layout k d within.
          told_bytes layout h raw v (get_or docks k d) at is (are k d within) (of_h k d within) (full k d within) (samples raw refl k d within);
    },
    at,
  ),
)

-- ---- files

-- the files of docks are those of a volume that has them
pub files_of_docks : (layout : Layout) (h : HeaderValue) (step : ℕ) (u : List (List (List ℕ))) (docks : List DockValue) → All (λ d. dock_bytes_as layout d ≡ file_bytes layout (placing_of h) u d.file) docks →
    map (step_file layout h u step) (map (λ d. d.file) docks) ≡ map (dock_file layout h step) docks
files_of_docks layout h step u [] own = refl
files_of_docks layout h step u (d ∷ docks) own =
    ap (λ bytes. (file_name h step d.file, bytes) ∷ map (step_file layout h u step) (map (λ e. e.file) docks)) (sym (All-head (λ e. dock_bytes_as layout e ≡ file_bytes layout (placing_of h) u e.file) d docks own))
    ∙ ap (λ rest. dock_file layout h step d ∷ rest) (files_of_docks layout h step u docks (All-tail (λ e. dock_bytes_as layout e ≡ file_bytes layout (placing_of h) u e.file) d docks own))

-- the numbers of files differ
pub numbers_apart : (l : Placing) → AllPairs (λ x y. x ≢ y) (file_numbers l)
numbers_apart l = kept_apart (λ file. list_any (λ block. is_present l block && (file_of l block == file)) (range_with_len 0 (block_count l))) 0 (block_count l)

-- ---- new docks

none_runs : (pieces : List Piece) → runs_in (map awaited_of pieces) ≡ []
none_runs [] = refl
none_runs (p ∷ ps) = none_runs ps

-- what was delivered to new docks has any samples: it is nothing
pub new_have : (h g : HeaderValue) (sample : ℕ → List ℕ → List ℕ) (pieces : List Piece) (files : List ℕ) (docks : List DockValue) → docks ≡ map (new_dock g pieces) files →
    HaveSamples h sample docks
new_have h g sample pieces files docks made =
    All-same (λ (d : DockValue). All (HasSamples h sample) (runs_in d.awaited)) docks (map (new_dock g pieces) files) made
    (All-map (λ (d : DockValue). All (HasSamples h sample) (runs_in d.awaited)) (new_dock g pieces) files
    (λ k d within. All-same (HasSamples h sample) (runs_in (map awaited_of (reaching g (get_or files k d) pieces))) []
    (none_runs (reaching g (get_or files k d) pieces)) (All-nil (HasSamples h sample))))

-- ---- the next window

module _ (layout : Layout) (h : HeaderValue) (step room : ℕ) (pieces : List Piece) (files : List ℕ) (sealed : List (List ℕ × Option (List ℕ))) (docks : List DockValue) (done : ℕ) (left : List Piece)
    (known : Option (List MemFile)) (told : Option (List ℕ)) where
  count : ℕ
  count = run_count (length_of_file (placing_of h)) room (drop (length sealed) files)

  window : List ℕ
  window = map (λ (d : DockValue). d.file) docks

  more : List (List ℕ × Option (List ℕ))
  more = known_files known (map (dock_file layout h step) docks)

  window_is : length sealed ≤ length files → AreDocks h room pieces (drop (length sealed) files) done left docks → take (length sealed) files ++ window ≡ take (length sealed + count) files
  unfolding count window
  window_is within are = ap (λ w. take (length sealed) files ++ w) are.window ∙ take_more (length sealed) count files within

  number : length sealed ≤ length files → AreDocks h room pieces (drop (length sealed) files) done left docks → length (sealed ++ more) ≡ length sealed + count
  unfolding count more
  number within are =
      length-append sealed more
      ∙ ap (λ k. length sealed + k)
      (length-map (map (dock_file layout h step) docks) (entry_shown (known_with known)) ∙ length-map docks (dock_file layout h step)
      ∙ sym (length-map docks (λ (d : DockValue). d.file)) ∙ ap length are.window
      ∙ length_take count (drop (length sealed) files) (run_within (length_of_file (placing_of h)) room (drop (length sealed) files)))

  numbers : files ≡ file_numbers (placing_of h) → length sealed ≤ length files → AreDocks h room pieces (drop (length sealed) files) done left docks →
      All (Contains (file_numbers (placing_of h))) (take (length sealed) files ++ window)
  numbers is within are =
      All-same (Contains (file_numbers (placing_of h))) (take (length sealed) files ++ window) (take (length sealed + count) files) (window_is within are)
      (All-take (Contains (file_numbers (placing_of h))) (length sealed + count) files
      (All-same (Contains (file_numbers (placing_of h))) files (file_numbers (placing_of h)) is (All-contains_itself (file_numbers (placing_of h)))))

  differ : files ≡ file_numbers (placing_of h) → length sealed ≤ length files → AreDocks h room pieces (drop (length sealed) files) done left docks →
      AllPairs (λ x y. x ≢ y) (take (length sealed) files ++ window)
  differ is within are =
      subst (AllPairs (λ (x y : ℕ). x ≢ y)) (sym (window_is within are))
      (pairs_take (λ x y. x ≢ y) (length sealed + count) files (subst (AllPairs (λ (x y : ℕ). x ≢ y)) (sym is) (numbers_apart (placing_of h))))

  -- Some volume has the files of the window, and its first files are those of another one.
  pub record HasWindow (v u : List (List (List ℕ))) : Type 0 where
    pub volume : IsVolumeOf h u
    pub told_is : IfSome told (λ raw. u ≡ volume_of_raw h raw)
    pub earlier : map (step_file layout h u step) (take (length sealed) files) ≡ map (step_file layout h v step) (take (length sealed) files)
    pub new : map (step_file layout h u step) (map (λ (d : DockValue). d.file) docks) ≡ map (dock_file layout h step) docks

  has_window : files ≡ file_numbers (placing_of h) → length sealed ≤ length files → AreDocks h room pieces (drop (length sealed) files) done left docks →
      All IsDock docks → AreFull docks → ((raw : List ℕ) → told ≡ Some raw → HaveSamples h (raw_sample h raw) docks) →
      (v : List (List (List ℕ))) → IsVolumeOf h v → IfSome told (λ raw. v ≡ volume_of_raw h raw) → (u : List (List (List ℕ))) × HasWindow v u
  unfolding window
  has_window is within are docks_are full samples v volume told_is =
      let before : List ℕ = take (length sealed) files in
      let P : ℕ → Type 0 = Contains (file_numbers (placing_of h)) in
      let apart = differ is within are in
      let among = numbers is within are in
      let all = grown told h docks v told_is volume docks_are (All-weaker (IsDockOf h pieces) (λ d. d.header ≡ h) (λ d of. of.header) docks are.docks_are)
      (All-of_map P (λ (d : DockValue). d.file) docks (All-back P before window among))
      (pairs_of_map (λ x y. x ≢ y) (λ (d : DockValue). d.file) docks (pairs_back (λ x y. x ≢ y) before window apart)) full samples in
      let u : List (List (List ℕ)) = all.0 in (
        u,
        record {
          volume = all.1.0.volume;
          told_is = all.1.1;
          earlier = maps_agree (step_file layout h u step) (step_file layout h v step) before
              (λ k d inside. ap (λ bytes. (file_name h step (get_or before k d), bytes))
              (all.1.0.kept (get_or before k d) (All-front P before window among k d inside)
              (All-of_map (λ y. get_or before k d ≢ y) (λ (d : DockValue). d.file) docks (pairs_across (λ x y. x ≢ y) before window apart k d inside)) layout));
          new = files_of_docks layout h step u docks (all.1.0.own layout);
        },
      )

  -- the first files of a volume that has the window's are the earlier ones and those
  with_window : length sealed ≤ length files → AreDocks h room pieces (drop (length sealed) files) done left docks → (v u : List (List (List ℕ))) → HasWindow v u →
      map (step_file layout h v step) (take (length sealed) files) ++ map (dock_file layout h step) docks
      ≡ map (step_file layout h u step) (take (length (sealed ++ known_files known (map (dock_file layout h step) docks))) files)
  unfolding window more
  with_window within are v u has =
      ap (λ entries. entries ++ map (dock_file layout h step) docks) (sym has.earlier)
      ∙ ap (λ entries. map (step_file layout h u step) (take (length sealed) files) ++ entries) (sym has.new)
      ∙ sym (map-append (step_file layout h u step) (take (length sealed) files) window)
      ∙ ap (map (step_file layout h u step)) (window_is within are ∙ ap (λ k. take k files) (sym (number within are)))

  -- so the files so far are the first ones of some volume, as far as they tell their bytes
  pub so_far_more : files ≡ file_numbers (placing_of h) → length sealed ≤ length files → AreDocks h room pieces (drop (length sealed) files) done left docks →
      All IsDock docks → AreFull docks → told ≡ None → AreFilesSoFar layout h step files sealed →
      AreFilesSoFar layout h step files (sealed ++ known_files known (map (dock_file layout h step) docks))
  so_far_more is within are docks_are full untold so_far =
      let v : List (List (List ℕ)) = so_far.volume in
      let none : (raw : List ℕ) → told ≡ Some raw → HaveSamples h (raw_sample h raw) docks = λ raw is'. absurd (not_told raw (sym untold ∙ is')) in
      let all = has_window is within are docks_are full none v so_far.is (subst (λ (o : Option (List ℕ)). IfSome o (λ raw. v ≡ volume_of_raw h raw)) (sym untold) tt) in
      record {
        volume = all.0;
        is = all.1.volume;
        tell = subst (AllZip TellsFile (sealed ++ known_files known (map (dock_file layout h step) docks))) (with_window within are v all.0 all.1)
            (zip_append TellsFile sealed (known_files known (map (dock_file layout h step) docks)) (map (step_file layout h v step) (take (length sealed) files)) (map (dock_file layout h step) docks)
            so_far.tell (told_known known (map (dock_file layout h step) docks)));
      }
    where
      not_told : (raw : List ℕ) → ◌≡◌ {A = Option (List ℕ)} None (Some raw) → ⊥
      not_told raw e = cc

-- the same of what equals these
pub moved : (layout other : Layout) (h g : HeaderValue) (step s : ℕ) (known k : Option (List MemFile)) (told : Option (List ℕ)) (files fs : List ℕ) (sealed entries : List (List ℕ × Option (List ℕ))) →
    layout ≡ other → h ≡ g → step ≡ s → known ≡ k → files ≡ fs → sealed ≡ entries → AreFirstFiles layout h step known told files sealed → AreFirstFiles other g s k told fs entries
moved layout other h g step s known k told files fs sealed entries lo hg ss ks all same first =
    subst (λ (x : List (List ℕ × Option (List ℕ))). AreFirstFiles other g s k told fs x) same
    (subst (λ (x : List ℕ). AreFirstFiles other g s k told x sealed) all
    (subst (λ (x : Option (List MemFile)). AreFirstFiles other g s x told files sealed) ks
    (subst (λ (x : ℕ). AreFirstFiles other g x known told files sealed) ss
    (subst (λ (x : HeaderValue). AreFirstFiles other x step known told files sealed) hg
    (subst (λ (x : Layout). AreFirstFiles x h step known told files sealed) lo first)))))

-- and they are those of some volume, as far as they tell their bytes
pub so_far_next : {L : Type 0} (layout : Layout) (contents : L → Option (List ℕ)) (h : HeaderValue) (step ranks room : ℕ) (pieces : List Piece) (files : List ℕ) (leaves more next : List (List ℕ × L)) (docks : List DockValue)
    (done : ℕ) (left : List Piece) (known : Option (List MemFile)) → IsOpening h step ranks room pieces files (map (λ leaf. leaf.0) leaves) →
    AreDocks h room pieces (drop (length leaves) files) done left docks → All IsDock docks → AreFull docks → next ≡ leaves ++ more → shown contents more ≡ known_files known (map (dock_file layout h step) docks) →
    AreFilesSoFar layout h step files (shown contents leaves) → AreFilesSoFar layout h step files (shown contents next)
so_far_next {L} layout contents h step ranks room pieces files leaves more next docks done left known opening are docks_are full after same so_far =
    let sealed : List (List ℕ × Option (List ℕ)) = shown contents leaves in
    let many : length sealed ≡ length leaves = length-map leaves (entry_shown contents) in
    let first_of : List ℕ × L → List ℕ = λ leaf. leaf.0 in
    let within : length sealed ≤ length files = omega (arith, many, opening.few, length-map leaves first_of) in
    let all : shown contents next ≡ sealed ++ known_files known (map (dock_file layout h step) docks) =
    ap (shown contents) after ∙ map-append (entry_shown contents) leaves more ∙ ap (λ entries. sealed ++ entries) same in
    subst (AreFilesSoFar layout h step files) (sym all)
    (so_far_more layout h step room pieces files sealed docks done left known None opening.files_are within
    (subst (λ (n : ℕ). AreDocks h room pieces (drop n files) done left docks) (sym many) are) docks_are full refl so_far)
