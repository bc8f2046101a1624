-- What is known of the raw volumes and of the bay of a conversion, before and after it.
use Rattle.std.specs.Prelude.{◌≡◌, ℕ, List, Option, map}
use Rattle.idx_outside.specs.Objects.{contents_at}
use Rattle.idx_outside.specs.declared.bay_call.BayCall.{BayCall}
use Rattle.idx_outside.specs.declared.mem_file.MemFile.{MemFile}

-- Where nothing else is said, a field tells of the time before.
pub record Known : Type 0 where
  -- the raw volume's bytes, which all raw volumes tell alike; how many bytes were asked of each, and the counts of faults of each
  pub raw : Option (List ℕ)
  pub asked_before : List ℕ
  pub asked_after : List ℕ
  pub raw_before : List ℕ
  pub raw_after : List ℕ
  -- the bay's header text and committed files, and the folder that was last begun
  pub header : Option (List ℕ)
  pub header_after : Option (List ℕ)
  pub files : Option (List MemFile)
  pub files_after : Option (List MemFile)
  pub begun : Option (List ℕ)
  pub begun_after : Option (List ℕ)
  -- how many calls changed the bay, which call counted the last fault, and the counts of faults
  pub changes : ℕ
  pub changes_after : ℕ
  pub failed : Option BayCall
  pub failed_after : Option BayCall
  pub bay_before : ℕ
  pub bay_after : ℕ

-- The same of some raw volumes and of a bay, by the ghost members of their traits.
abbrev pub known_of : {V B : Type 0} → (V → Option (List ℕ)) → (V → ℕ) → (V → ℕ) → List V → List V →
    (B → Option (List ℕ)) → (B → Option (List MemFile)) → (B → Option (List ℕ)) → (B → ℕ) → (B → Option BayCall) → (B → ℕ) → B → B → Known
known_of contents asked raw_faults raws raws_after header files begun changes failed faults bay bay_after =
    record {
      raw = contents_at contents raws 0;
      asked_before = map asked raws;
      asked_after = map asked raws_after;
      raw_before = map raw_faults raws;
      raw_after = map raw_faults raws_after;
      header = header bay;
      header_after = header bay_after;
      files = files bay;
      files_after = files bay_after;
      begun = begun bay;
      begun_after = begun bay_after;
      changes = changes bay;
      changes_after = changes bay_after;
      failed = failed bay;
      failed_after = failed bay_after;
      bay_before = faults bay;
      bay_after = faults bay_after;
    }

-- The bay was not changed: its header text and its committed files are as they were, no call changed it, and no step was begun.
pub record KeepsBay (k : Known) : Type 0 where
  pub header : k.header_after ≡ k.header
  pub files : k.files_after ≡ k.files
  pub begun : k.begun_after ≡ k.begun
  pub changes : k.changes_after ≡ k.changes
