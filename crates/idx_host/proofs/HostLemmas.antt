-- What serving a dataset promises, by what its steps promise.
use Rattle.std.proofs.Common.{◌≡◌, ℕ, List, Option, None, IfSome, IfOk, Result, Ok, Err, subst}
use Rattle.idx_outside.specs.declared.mem_file.MemFile.{MemFile}
use Rattle.idx_header.specs.HeaderOf.{header_of}
use Rattle.idx_hall.specs.Posts.{Post}
use Rattle.idx_serve.specs.declared.door.Summary.{Summary}
use Rattle.idx_serve.specs.declared.site.Site.{Site}
use Rattle.idx_workers.specs.Workers.{Tells}
use Rattle.idx_query.specs.Capacity.{capacity_for}
use Rattle.idx_board.specs.Standing.{first_bad_row, standing_posts}
use Rattle.idx_host.specs.Host.{AreServedOut, Hosted, IsLoaded, site_of}
use Rattle.idx_host.specs.declared.host_fault.HostFault.{HostFault}

module _ {L D R : Type 0} (tell : Tells L D R) (cache workers : ℕ) (doors_old doors_new : List D) (readers_old readers_new : List R) where
  -- what was served out of the steps that were loaded
  pub hosted_of : (site : Site) (name : List ℕ) (header : Option (List ℕ)) (files : Option (List MemFile)) (loaded : List R) (capacity : ℕ) (posts : List Post) (result : Result Summary HostFault) →
      site.name ≡ name → IfSome header (λ text. header_of text ≡ Ok site.header) → IfSome files (λ files. first_bad_row site.header files ≡ None) →
      IfSome files (λ files. posts ≡ standing_posts site.header files) → IsLoaded tell.reader_faults tell.reads site.header files readers_old loaded →
      capacity ≡ capacity_for site.header cache → IfOk result (AreServedOut tell site capacity workers doors_old doors_new loaded readers_new posts posts) →
      IfOk result (Hosted tell name header files cache workers doors_old doors_new readers_old readers_new)
  hosted_of site name header files loaded capacity posts (Err fault) named text sound standing load room served = tt
  hosted_of site name header files loaded capacity posts (Ok summary) named text sound standing load room served = (
    site.header,
    (
      text,
      (
        posts,
        record {
          sound = sound;
          standing = standing;
          loaded = loaded;
          load = load;
          served = subst (λ (n : List ℕ). AreServedOut tell (site_of site.header n) (capacity_for site.header cache) workers doors_old doors_new loaded readers_new posts posts summary) named
              (subst (λ (room : ℕ). AreServedOut tell site room workers doors_old doors_new loaded readers_new posts posts summary) room served);
        },
      ),
    ),
  )
