-- What serving beside a step that is gathered promises, by what its stages promise.
use Rattle.std.proofs.Common.{◌≡◌, ◌≢◌, ℕ, ◌≤◌, List, Option, None, Result, Ok, Err, ap, arith, length, drop, map, slice_index_or, subst, sym, ◌∙◌, refl}
use Rattle.std.specs.Prelude.{IsSomeAnd}
use Rattle.idx_outside.specs.Files.{known_with}
use Rattle.idx_outside.specs.Objects.{contents_at}
use Rattle.idx_outside.specs.declared.bay_call.BayCall.{BayCall}
use Rattle.idx_outside.specs.declared.mem_file.MemFile.{MemFile}
use Rattle.idx_header.specs.Header.{HeaderValue, at_revision}
use Rattle.idx_header.specs.Names.{step_folder}
use Rattle.idx_pieces.specs.Ranks.{rank_count}
use Rattle.idx_hall.specs.Posts.{Post}
use Rattle.idx_turn.specs.LockId.{LockId}
use Rattle.idx_lock.specs.Seats.{SeatValue}
use Rattle.idx_extract.specs.Extract.{Under}
use Rattle.idx_serve.specs.declared.site.Site.{Site}
use Rattle.idx_workers.specs.Workers.{Tells}
use Rattle.idx_convert.specs.Known.{known_of}
use Rattle.idx_query.specs.Capacity.{capacity_for}
use Rattle.idx_host.specs.Host.{AreServedOut, site_of}
use Rattle.idx_ingest.specs.Ingested.{EndsFailed, IsIngested, known}
use Rattle.idx_ingest.specs.declared.ingest_end.IngestEnd.{IngestEnd}
use Rattle.idx_live.specs.Live.{IsLive, OnlyMeasures}
use Rattle.idx_live.specs.Sides.{IsWritten}
use Rattle.idx_live.specs.Stages.{IsOpened}
use Rattle.idx_live.specs.declared.live_end.Live.{Live}
use Rattle.idx_live.specs.declared.live_fault.LiveFault.{LiveFault}
use Rattle.idx_live.specs.declared.live_fault.LiveFault.TheVariants as faults
use Rattle.idx_live.proofs.StageLemmas.{ready_still}

-- what ingesting says, where nothing was counted or changed before
ingested_still : (h : HeaderValue) (time : ℕ) (raw raw' : Option (List ℕ)) (before before' after : List ℕ) (files files' files_after : Option (List MemFile)) (count count' count_after : ℕ)
    (posts last : List Post) (end : IngestEnd) → raw' ≡ raw → before' ≡ before → files' ≡ files → count' ≡ count →
    IsIngested h time (known raw' before' after files' files_after count' count_after) posts last end →
    IsIngested h time (known raw before after files files_after count count_after) posts last end
ingested_still h time raw raw' before before' after files files' files_after count count' count_after posts last end r b f c ingested =
    subst (λ x. IsIngested h time (known x before after files files_after count count_after) posts last end) r
    (subst (λ x. IsIngested h time (known raw' x after files files_after count count_after) posts last end) b
    (subst (λ x. IsIngested h time (known raw' before' after x files_after count count_after) posts last end) f
    (subst (λ x. IsIngested h time (known raw' before' after files' files_after x count_after) posts last end) c ingested)))

failed_still : (files files' files_after : Option (List MemFile)) (failed failed' failed_after : Option BayCall) (end : IngestEnd) → files' ≡ files → failed' ≡ failed →
    EndsFailed files' files_after failed' failed_after end → EndsFailed files files_after failed failed_after end
failed_still files files' files_after failed failed' failed_after end f g ends =
    subst (λ x. EndsFailed x files_after failed failed_after end) f (subst (λ x. EndsFailed files' files_after x failed_after end) g ends)

module _ {V B L D R T : Type 0} (tell : Tells L D R) (contents : V → Option (List ℕ)) (asked raw_faults : V → ℕ)
    (header : B → Option (List ℕ)) (files : B → Option (List MemFile)) (begun : B → Option (List ℕ)) (changes : B → ℕ)
    (failed : B → Option BayCall) (faults_of : B → ℕ) where
  -- what was served beside a step, out of what was opened
  pub live_of : (name : List ℕ) (time cache workers : ℕ) (raws_old raws_mid raws_new : List V) (bay_old bay_mid bay_new : B)
      (doors_old doors_new : List D) (readers_old readers_mid readers_new : List R) (site : Site) (revision : ℕ) (lock : LockId) (writer back : SeatValue) (value : T) (live : Live) →
      IsOpened tell.reader_faults tell.reads name cache time
      (known_of contents asked raw_faults raws_old raws_mid header files begun changes failed faults_of bay_old bay_mid) readers_old readers_mid site revision lock writer →
      OnlyMeasures contents asked raw_faults raws_old raws_mid (Ok value) →
      files bay_mid ≡ files bay_old → failed bay_mid ≡ failed bay_old → faults_of bay_mid ≡ faults_of bay_old →
      1 ≤ rank_count site.header.box (length raws_old) →
      AreServedOut tell site writer.seen.capacity workers doors_old doors_new readers_mid readers_new writer.seen.posts back.seen.posts live.summary →
      IsWritten contents raw_faults header files begun failed faults_of site time revision writer.seen.posts back.seen.posts raws_mid raws_new bay_mid bay_new live.ingested →
      Under (header bay_old) (λ h. IsLive tell h name time
      (known_of contents asked raw_faults raws_old raws_new header files begun changes failed faults_of bay_old bay_new)
      cache workers raws_old raws_new doors_old doors_new readers_old readers_new live)
  live_of name time cache workers raws_old raws_mid raws_new bay_old bay_mid bay_new doors_old doors_new readers_old readers_mid readers_new site revision lock writer back value live
      opened measured files_same failed_same faults_same some served wrote =
      let h : HeaderValue = site.header in
      let none : ◌≢◌ {A = Result T LiveFault} (Ok value) (Err faults.RawFault) = λ e. cc in (
        h,
        (
          opened.gives,
          record {
            ready = ready_still h time _ _ refl refl opened.ready;
            written = at_revision revision h;
            revised = record { number = revision; few = omega (arith, opened.few); same = refl };
            next = opened.next;
            begun = subst (λ (b : Option (List ℕ)). IsSomeAnd (step_folder (at_revision revision h) time) (λ folder. b ≡ known_with (files bay_old) folder)) (sym wrote.begun_same) opened.begun;
            posts = writer.seen.posts;
            last = back.seen.posts;
            hosted = record {
              sound = opened.sound;
              standing = opened.standing;
              loaded = readers_mid;
              load = opened.loaded;
              served = subst (λ (n : List ℕ). AreServedOut tell (site_of h n) (capacity_for h cache) workers doors_old doors_new readers_mid readers_new writer.seen.posts back.seen.posts live.summary) opened.named
                  (subst (λ (room : ℕ). AreServedOut tell site room workers doors_old doors_new readers_mid readers_new writer.seen.posts back.seen.posts live.summary) opened.capacity served);
            };
            ingested = ingested_still (at_revision revision h) time (contents_at contents raws_old 0) (contents_at contents raws_mid 0)
                (map raw_faults raws_old) (map raw_faults raws_mid) (map raw_faults raws_new) (files bay_old) (files bay_mid) (files bay_new)
                (faults_of bay_old) (faults_of bay_mid) (faults_of bay_new) writer.seen.posts back.seen.posts live.ingested
                (ap (λ (told : List (Option (List ℕ))). slice_index_or told 0 None) measured.same) (measured.quiet none) files_same faults_same wrote.ingested;
            failed = failed_still (files bay_old) (files bay_mid) (files bay_new) (failed bay_old) (failed bay_mid) (failed bay_new) live.ingested
                files_same failed_same wrote.failed_is;
            idle = subst (λ (n : ℕ). drop (rank_count h.box n) raws_new ≡ drop (rank_count h.box n) raws_mid) measured.number wrote.idle
                ∙ measured.behind (rank_count h.box (length raws_old)) some;
          },
        ),
      )
