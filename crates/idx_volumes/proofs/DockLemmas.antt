-- What a dock writes are the samples of a volume.
use Rattle.std.proofs.Common.{◌≡◌, ℕ, ◌+◌, ◌-◌, ◌*◌, ◌<◌, ◌≤◌, Bool, true, false, cond, List, [], ◌∷◌, length, take, drop, refl, sym, ap, ◌∙◌, arith, inl, inr, Some, None, eq-eqb, length-drop, length-take-le}
use Rattle.std.specs.Prelude.{◌⊎◌, ◌==◌, ◌||◌, find, replicate}
use Rattle.std.specs.List.{list_any}
use Rattle.std.specs.Option.{option_map_or}
use Rattle.std.proofs.Math.Nat.{mul-le-mul_left}
use Rattle.std.proofs.lemmas.List.{length-replicate}
use Rattle.idx_geom.specs.Region.{LiesIn, points}
use Rattle.idx_hz.specs.Address.{hz_address}
use Rattle.idx_header.specs.Header.{HeaderValue, sample_bytes_of}
use Rattle.idx_layout.specs.Files.{file_bytes}
use Rattle.idx_layout.specs.OfHeader.{placing_of}
use Rattle.idx_rowmajor.specs.declared.layout.Layout.{Layout}
use Rattle.idx_layout.proofs.PresentLemmas.{any_point}
use Rattle.idx_pieces.specs.Runs.{IsRun, run_length, sample_at_address}
use Rattle.idx_pieces.specs.declared.run.Run.{Run}
use Rattle.idx_dock.specs.Content.{dock_bytes_as, dock_sample, fields_among, has_sample, run_sample, runs_in, sample_of}
use Rattle.idx_dock.specs.Dock.{DockValue, IsDock}
use Rattle.idx_dock.specs.Next.{IsOneOf}
use Rattle.idx_dock.proofs.ApartLemmas.{dock_writable, run_point}
use Rattle.idx_dock.proofs.CompleteLemmas.{find_run}
use Rattle.idx_dock.proofs.ContentLemmas.{one_of_all}
use Rattle.idx_dock.proofs.WriteLemmas.{has_is, sample_run}
use Rattle.idx_volumes.specs.Volumes.{IsVolumeOf}
use Rattle.idx_volumes.proofs.MadeLemmas.{AreSized, made, made_is, made_sample}
use Rattle.idx_volumes.proofs.FileLemmas.{blocks_agree, by_points, file_is, points_agree}

-- a sample cut from whole ones
cut_length : (size first count a : ℕ) (bytes : List ℕ) → length bytes ≡ size * count → first ≤ a → a < first + count → length (take size (drop (size * (a - first)) bytes)) ≡ size
cut_length size first count a bytes many from to =
    let next : a - first + 1 ≤ count = omega arith in
    let product : size * (a - first + 1) ≤ size * count = mul-le-mul_left size next in
    let one : size * (a - first + 1) ≡ size * (a - first) + size = omega arith in
    length-take-le size (drop (size * (a - first)) bytes) (omega (arith, length-drop (size * (a - first)) bytes))

-- each sample of a dock has its field's size
dock_length : (d : DockValue) → IsDock d → (field a : ℕ) → length (dock_sample d field a) ≡ sample_bytes_of d.header field
dock_length d is field a = by_run (find_run (has_sample h field a) runs)
  where
    h : HeaderValue
    h = d.header

    runs : List Run
    runs = runs_in d.awaited

    by_run : ((r : Run) × IsOneOf runs r × (has_sample h field a r ≡ true)) ⊎ (find (has_sample h field a) runs ≡ None) → length (dock_sample d field a) ≡ sample_bytes_of h field
    by_run (inl found) =
        let r : Run = found.0 in
        let writable = dock_writable d is in
        let bounds = has_is h field a r found.2 in
        let run = one_of_all (IsRun h d.file) d.awaited r writable.runs found.1 in
        ap length (sample_run h field a runs r writable.apart found.1 found.2)
        ∙ cut_length (sample_bytes_of h r.field) r.first (run_length h r) a r.bytes run.whole bounds.1 bounds.2
        ∙ ap (sample_bytes_of h) bounds.0
    by_run (inr none) =
        ap (λ o. length (option_map_or (run_sample h a) o (replicate (sample_bytes_of h field) 0))) none ∙ length-replicate (sample_bytes_of h field) 0

-- where nothing is found no point passes
none_any : (test : List ℕ → Bool) (ps : List (List ℕ)) → find test ps ≡ None → list_any test ps ≡ false
none_any test [] none = refl
none_any test (p ∷ ps) none = by_test (test p) refl none (none_any test ps)
  where
    by_test : (b : Bool) → test p ≡ b → cond b (Some p) (find test ps) ≡ None → (find test ps ≡ None → list_any test ps ≡ false) → (test p || list_any test ps) ≡ false
    by_test true is none more = let wrong : Some p ≡ None = none in absurd (cc)
    by_test false is none more = ap (λ b. b || list_any test ps) is ∙ more none

no_point : (box : List (ℕ × ℕ)) (test : List ℕ → Bool) (p : List ℕ) → LiesIn box p → test p ≡ true → find test (points box) ≡ None → ⊥
no_point box test p lies passes none = let wrong : true ≡ false = sym (any_point box test p lies passes) ∙ none_any test (points box) none in cc

-- zeros stand where no point of the box has the address
dock_zeros : (d : DockValue) → IsDock d → (field a : ℕ) → find (λ p. hz_address d.header.mask p == a) (points d.header.box) ≡ None →
    dock_sample d field a ≡ replicate (sample_bytes_of d.header field) 0
dock_zeros d is field a unfound = by_run (find_run (has_sample h field a) runs)
  where
    h : HeaderValue
    h = d.header

    runs : List Run
    runs = runs_in d.awaited

    by_run : ((r : Run) × IsOneOf runs r × (has_sample h field a r ≡ true)) ⊎ (find (has_sample h field a) runs ≡ None) → dock_sample d field a ≡ replicate (sample_bytes_of h field) 0
    by_run (inl found) =
        let p = run_point d is field a found.0 found.1 found.2 in
        absurd (no_point h.box (λ p. hz_address h.mask p == a) p.0 p.1 (eq-eqb (hz_address h.mask p.0) a p.2) unfound)
    by_run (inr none) = ap (λ o. option_map_or (run_sample h a) o (replicate (sample_bytes_of h field) 0)) none

-- the samples of a dock by points, and the volume that has them
abbrev pub sample_by_point : DockValue → ℕ → List ℕ → List ℕ
sample_by_point d field p = dock_sample d field (hz_address d.header.mask p)

pub dock_volume : (d : DockValue) → IsDock d → (volume : List (List (List ℕ))) × (IsVolumeOf d.header volume × ((layout : Layout) → dock_bytes_as layout d ≡ file_bytes layout (placing_of d.header) volume d.file))
dock_volume d is =
    let h : HeaderValue = d.header in
    let s : ℕ → List ℕ → List ℕ = sample_by_point d in
    let sized : AreSized h s = λ field p within lies. dock_length d is field (hz_address h.mask p) in
    let volume : List (List (List ℕ)) = made h s in
    let are : IsVolumeOf h volume = made_is h s sized in (
      volume,
      (
        are,
        λ layout. file_is layout h volume d.file (fields_among layout h d.file (runs_in d.awaited)) are
            (blocks_agree layout h d.file (dock_sample d) (sample_at_address h s) (λ field a within from to.
            by_points h s field a (dock_sample d field a) (λ p found lies at. ap (dock_sample d field) (sym at)) (λ found. dock_zeros d is field a found))
            ∙ points_agree layout h d.file s (sample_of h volume) (λ field p within inside. sym (made_sample h s field p within inside.lies))),
      ),
    )
