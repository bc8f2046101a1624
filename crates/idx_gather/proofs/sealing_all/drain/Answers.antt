use Rattle.std.proofs.Common.{eqb-true, ◌≡◌, ℕ, ◌++◌, List, length, map, drop, refl, sym, ap, subst, ◌∙◌, arith}
use Rattle.std.specs.Prelude.{Option, Some, vec_len}
use Rattle.std.proofs.lemmas.Grind.{common_steps}
use Rattle.std.proofs.lemmas.List.{nil_from_length}
use Rattle.idx_outside.specs.Files.{shown}
use Rattle.idx_outside.specs.Objects.{contents_at}
use Rattle.idx_header.specs.Header.{HeaderValue, volume_bytes}
use Rattle.idx_header.specs.Names.{file_name}
use Rattle.idx_pieces.specs.Samples.{raw_sample}
use Rattle.idx_dock.specs.Dock.{DockValue}
use Rattle.idx_gather.specs.Gather.{HasVolume, IsCaused, NoneFalls}
use Rattle.idx_gather.specs.States.{HaveSamples}
use Rattle.idx_gather.specs.Streams.{AreOpen, AreSealed, dock_entry, full_docks, numbered}
use Rattle.idx_gather.proofs.FillLemmas.{alike_still, first_same}
use Rattle.idx_gather.proofs.FirstLemmas.{moved}
use Rattle.idx_gather.proofs.SealAllLemmas.{caused_again, each_again, idle_again, none_failed, none_met, on_fault, store_caused}
use Rattle.idx_gather.proofs.SealedLemmas.{numbers_more, others_have, sealed_moved, sealed_none, sealed_turn}
use Rattle.idx_gather.proofs.StreamLemmas.{fewer_left, kept_count, none_open, open_moved, open_sealed}
use Rattle.idx_gather.proofs.sealing_all.drain.Goals as goal

pub batches-init : goal.batches-init
batches-init g c =
    let s = c.args.stream in
    let o = s.opening in
    let contents = g.B.Leaf.Leaf.contents in
    let told : Option (List ℕ) = contents_at g.V.Source.contents c.args.raws.now.items 0 in
    record {
      opening = refl;
      number = refl;
      same = refl;
      quiet = refl;
      idle = refl;
      bay_files = refl;
      bay_header = refl;
      begun = refl;
      failed = refl;
      faults = refl;
      still = λ path old. old;
      state = subst (λ sealed. AreOpen o.header o.pieces.items (drop (length o.leaves.items) o.files.items) (map (λ entry. entry.0) sealed) s.left.items s.docks.items) (sym c.requires.none) c.requires.state;
      many = omega (arith, ap length c.requires.none);
      samples = λ raw is. c.requires.empty o.header (raw_sample o.header raw);
      sealed = subst (λ sealed. AreSealed o.layout o.header o.step (g.B.Bay.files c.args.bay.now) told o.files.items (shown contents o.leaves.items) (numbered contents sealed)) (sym c.requires.none)
          (sealed_none o.layout o.header o.step (g.B.Bay.files c.args.bay.now) told o.files.items (shown contents o.leaves.items) c.requires.first);
    }

pub deliver-requires-clause-alike : goal.deliver-requires-clause-alike
deliver-requires-clause-alike g c κs within =
    alike_still g.V.Source.contents c.args.raws.now.items c.batches.raws.items c.batches.invariant.same c.requires.alike

pub returns-in_err-next-clause-cause : goal.returns-in_err-next-clause-cause
returns-in_err-next-clause-cause g c =
    let inv = c.batches.invariant in
    let h = c.args.stream.opening.header in
    let contents = g.V.Source.contents in
    let faults = g.V.Source.faults in
    let told : Option (List ℕ) = contents_at contents c.args.raws.now.items 0 in
    let own : c.batches.stream.opening.header ≡ h = λ i. (inv.opening i).header in
    on_fault c.from_residual.result c.in_err-next.field-0.0
    (IsCaused h told (map faults c.args.raws.now.items) (map faults c.deliver.new.raws.items) (g.B.Bay.faults c.args.bay.now) (g.B.Bay.faults c.batches.bay))
    c.from_residual.ensures.1
    (caused_again h c.batches.stream.opening.header told (contents_at contents c.batches.raws.items 0) (map faults c.args.raws.now.items) (map faults c.batches.raws.items)
    (map faults c.deliver.new.raws.items) (g.B.Bay.faults c.args.bay.now) (g.B.Bay.faults c.batches.bay) c.in_err-next.field-0.0 own (first_same contents c.args.raws.now.items c.batches.raws.items inv.same)
    inv.quiet inv.faults c.requires.right (λ n _. c.in_err-next.ensures.cause n))

pub returns-in_err-next-clause-raw_count : goal.returns-in_err-next-clause-raw_count
returns-in_err-next-clause-raw_count g c =
    subst (λ (before : List ℕ). NoneFalls before (map g.V.Source.faults c.deliver.new.raws.items)) c.batches.invariant.quiet c.deliver.ensures.raw_count

pub returns-in_err-next-clause-failed : goal.returns-in_err-next-clause-failed
returns-in_err-next-clause-failed g c =
    let inv = c.batches.invariant in
    let h = c.args.stream.opening.header in
    let contents = g.V.Source.contents in
    let faults = g.V.Source.faults in
    let told : Option (List ℕ) = contents_at contents c.args.raws.now.items 0 in
    let own : c.batches.stream.opening.header ≡ h = λ i. (inv.opening i).header in
    none_failed c.from_residual.result c.in_err-next.field-0.0 h told (map faults c.args.raws.now.items) (map faults c.deliver.new.raws.items)
    (g.B.Bay.files c.args.bay.now) (g.B.Bay.files c.batches.bay) (g.B.Bay.failed c.args.bay.now) (g.B.Bay.failed c.batches.bay) c.from_residual.ensures.1
    (caused_again h c.batches.stream.opening.header told (contents_at contents c.batches.raws.items 0) (map faults c.args.raws.now.items) (map faults c.batches.raws.items)
    (map faults c.deliver.new.raws.items) 0 0 c.in_err-next.field-0.0 own (first_same contents c.args.raws.now.items c.batches.raws.items inv.same) inv.quiet refl c.requires.right (λ n _. c.in_err-next.ensures.cause n))
    inv.failed

pub seal_full-requires-clause-admits : goal.seal_full-requires-clause-admits
seal_full-requires-clause-admits g c κs within = λ file.
    let inv = c.batches.invariant in
    let o = c.args.stream.opening in
    let n = c.in_ok-next.next.opening in
    let same : n ≡ o = c.in_ok-next.ensures.opening ∙ inv.opening in
    let path : file_name o.header o.step file ≡ file_name n.header n.step file = sym (λ i. file_name (same i).header (same i).step file) in
    subst (λ (p : List ℕ). g.B.Bay.admits c.batches.bay p) path (inv.still (file_name o.header o.step file) (c.requires.admits file))

pub returns-in_err-stream-clause-cause : goal.returns-in_err-stream-clause-cause
returns-in_err-stream-clause-cause g c =
    let inv = c.batches.invariant in
    let h = c.args.stream.opening.header in
    let faults = g.V.Source.faults in
    let told : Option (List ℕ) = contents_at g.V.Source.contents c.args.raws.now.items 0 in
    on_fault c.from_residual-in_err-stream.result c.in_err-stream.field-0.0
    (IsCaused h told (map faults c.args.raws.now.items) (map faults c.deliver.new.raws.items) (g.B.Bay.faults c.args.bay.now) (g.B.Bay.faults c.seal_full.new.bay))
    c.from_residual-in_err-stream.ensures.1
    (store_caused h told (map faults c.args.raws.now.items) (map faults c.deliver.new.raws.items) (g.B.Bay.faults c.args.bay.now) (g.B.Bay.faults c.batches.bay) (g.B.Bay.faults c.seal_full.new.bay)
    c.in_err-stream.field-0.0 c.requires.right (c.in_ok-next.ensures.quiet ∙ inv.quiet) inv.faults c.in_err-stream.ensures.cause)

pub returns-in_err-stream-clause-still : goal.returns-in_err-stream-clause-still
returns-in_err-stream-clause-still g c = λ path old. c.seal_full.ensures.still path (c.batches.invariant.still path old)

pub batches-preserved : goal.batches-preserved
batches-preserved g c =
    let inv = c.batches.invariant in
    let o = c.args.stream.opening in
    let h : HeaderValue = o.header in
    let s = c.batches.stream in
    let n = c.in_ok-next.next in
    let t = c.in_ok-stream.stream in
    let contents = g.B.Leaf.Leaf.contents in
    let faults = g.V.Source.faults in
    let known = g.B.Bay.files c.args.bay.now in
    let told : Option (List ℕ) = contents_at g.V.Source.contents c.args.raws.now.items 0 in
    let same : contents_at g.V.Source.contents c.batches.raws.items 0 ≡ told = first_same g.V.Source.contents c.args.raws.now.items c.batches.raws.items inv.same in
    let whole_opening : n.opening ≡ o = c.in_ok-next.ensures.opening ∙ inv.opening in
    let header : s.opening.header ≡ h = λ i. (inv.opening i).header in
    let state : AreOpen h o.pieces.items (drop (length o.leaves.items) o.files.items) (map (λ entry. entry.0) s.sealed.items) n.left.items n.docks.items =
    open_moved s.opening.header h s.opening.pieces.items o.pieces.items (drop (length s.opening.leaves.items) s.opening.files.items) (drop (length o.leaves.items) o.files.items)
    (map (λ entry. entry.0) s.sealed.items) (map (λ entry. entry.0) s.sealed.items) n.left.items n.left.items n.docks.items header (λ i. (inv.opening i).pieces.items)
    (λ i. drop (length (inv.opening i).leaves.items) (inv.opening i).files.items) refl refl c.in_ok-next.ensures.state in
    let sealed_is : numbered contents t.sealed.items ≡ numbered contents s.sealed.items ++ map (dock_entry o.layout h o.step known) (full_docks n.docks.items) =
    c.in_ok-stream.ensures.sealed
    ∙ (λ i. numbered contents (c.in_ok-next.ensures.sealed i) ++ map (dock_entry (whole_opening i).layout (whole_opening i).header (whole_opening i).step (inv.bay_files i)) (full_docks n.docks.items)) in
    let samples : (raw : List ℕ) → told ≡ Some raw → HaveSamples h (raw_sample h raw) n.docks.items =
    λ raw is.
    let whole : HasVolume h (Some raw) = subst (λ (x : Option (List ℕ)). HasVolume h x) is c.requires.right in
    subst (λ (x : HeaderValue). HaveSamples x (raw_sample x raw) n.docks.items) header
    (c.in_ok-next.ensures.samples raw (same ∙ is) (subst (λ (x : HeaderValue). length raw ≡ volume_bytes x) (sym header) whole)
    (subst (λ (x : HeaderValue). HaveSamples x (raw_sample x raw) s.docks.items) (sym header) (inv.samples raw is))) in
    let numbers : map (λ entry. entry.0) t.sealed.items ≡ map (λ entry. entry.0) s.sealed.items ++ map (λ (d : DockValue). d.file) (full_docks n.docks.items) =
    numbers_more o.layout contents h o.step known s.sealed.items t.sealed.items (full_docks n.docks.items) sealed_is in
    record {
      opening = c.in_ok-stream.ensures.opening ∙ whole_opening;
      number = sym c.deliver.new.raws.ok.0 ∙ c.deliver.ensures.number ∙ c.batches.raws.ok.0 ∙ inv.number;
      same = c.deliver.ensures.same ∙ inv.same;
      quiet = c.in_ok-next.ensures.quiet ∙ inv.quiet;
      idle = idle_again h s.opening.header (length c.args.raws.now.items) (vec_len c.batches.raws) c.args.raws.now.items c.batches.raws.items c.deliver.new.raws.items
          header (c.batches.raws.ok.0 ∙ inv.number) c.deliver.ensures.idle inv.idle;
      bay_files = c.seal_full.ensures.files ∙ inv.bay_files;
      bay_header = c.seal_full.ensures.header ∙ inv.bay_header;
      begun = c.seal_full.ensures.begun ∙ inv.begun;
      failed = c.in_ok-stream.ensures.failed ∙ inv.failed;
      faults = c.in_ok-stream.ensures.quiet ∙ inv.faults;
      still = λ path old. c.seal_full.ensures.still path (inv.still path old);
      state = open_moved h h o.pieces.items o.pieces.items (drop (length o.leaves.items) o.files.items) (drop (length o.leaves.items) o.files.items)
          (map (λ entry. entry.0) t.sealed.items) (map (λ entry. entry.0) t.sealed.items) n.left.items t.left.items t.docks.items refl refl refl refl (sym c.in_ok-stream.ensures.left)
          (open_sealed h o.step o.ranks o.room o.pieces.items o.files.items (map (λ leaf. leaf.0) o.leaves.items) o.valid (length o.leaves.items) (map (λ entry. entry.0) s.sealed.items) n.left.items n.docks.items
          state t.docks.items (map (λ entry. entry.0) t.sealed.items) c.in_ok-stream.ensures.docks numbers);
      many = kept_count s.sealed.items t.sealed.items s.docks.items n.docks.items t.docks.items (length c.args.stream.docks.items) numbers c.in_ok-stream.ensures.docks c.in_ok-next.ensures.many inv.many;
      samples = λ raw is. others_have h (raw_sample h raw) n.docks.items t.docks.items c.in_ok-stream.ensures.docks (samples raw is);
      sealed = sealed_turn o.layout contents h o.step o.ranks o.room o.pieces.items o.files.items o.leaves.items o.valid known told s.sealed.items n.left.items n.docks.items state c.in_ok-stream.ensures.valid samples
          inv.sealed (numbered contents t.sealed.items) sealed_is;
    }

pub batches-smaller : goal.batches-smaller
batches-smaller g c =
    let inv = c.batches.invariant in
    let o = c.args.stream.opening in
    let s = c.batches.stream in
    let n = c.in_ok-next.next in
    let t = c.in_ok-stream.stream in
    let state : AreOpen o.header o.pieces.items (drop (length o.leaves.items) o.files.items) (map (λ entry. entry.0) s.sealed.items) n.left.items n.docks.items =
    open_moved s.opening.header o.header s.opening.pieces.items o.pieces.items (drop (length s.opening.leaves.items) s.opening.files.items) (drop (length o.leaves.items) o.files.items)
    (map (λ entry. entry.0) s.sealed.items) (map (λ entry. entry.0) s.sealed.items) n.left.items n.left.items n.docks.items (λ i. (inv.opening i).header) (λ i. (inv.opening i).pieces.items)
    (λ i. drop (length (inv.opening i).leaves.items) (inv.opening i).files.items) refl refl c.in_ok-next.ensures.state in
    fewer_left s.left.items n.left.items t.left.items s.docks.items n.docks.items t.docks.items c.in_ok-next.ensures.moves c.in_ok-stream.ensures.left c.in_ok-stream.ensures.docks c.in_ok-next.ensures.many
    (none_open o.header o.step o.ranks o.room o.pieces.items o.files.items (map (λ leaf. leaf.0) o.leaves.items) o.valid (length o.leaves.items) (map (λ entry. entry.0) s.sealed.items) n.left.items n.docks.items state)
    (grind (arith, common_steps))

pub close_stream-requires-clause-all : goal.close_stream-requires-clause-all
close_stream-requires-clause-all g c = nil_from_length c.batches.stream.docks.items (sym c.batches.stream.docks.ok.0 ∙ eqb-true (vec_len c.batches.stream.docks) 0 (sym c.is_empty.ensures ∙ c.batches-test.false))

pub returns-clause-files_made : goal.returns-clause-files_made
returns-clause-files_made g c =
    let inv = c.batches.invariant in
    let o = c.args.stream.opening in
    let s = c.batches.stream.opening in
    let contents = g.B.Leaf.Leaf.contents in
    let known = g.B.Bay.files c.args.bay.now in
    let told : Option (List ℕ) = contents_at g.V.Source.contents c.args.raws.now.items 0 in
    let header : s.header ≡ o.header = λ i. (inv.opening i).header in
    let step : s.step ≡ o.step = λ i. (inv.opening i).step in
    let layout : s.layout ≡ o.layout = λ i. (inv.opening i).layout in
    let files : s.files.items ≡ o.files.items = λ i. (inv.opening i).files.items in
    let first : shown contents s.leaves.items ≡ shown contents o.leaves.items = λ i. shown contents (inv.opening i).leaves.items in
    let done = shown contents c.in_ok-close_stream.field-0.leaves.items in
    moved s.layout o.layout s.header o.header s.step o.step known known told s.files.items o.files.items done done layout header step refl files refl
    (c.in_ok-close_stream.ensures.first known told
    (sealed_moved o.layout s.layout o.header s.header o.step s.step known told o.files.items s.files.items (shown contents o.leaves.items) (shown contents s.leaves.items) (numbered contents c.batches.stream.sealed.items)
    (sym layout) (sym header) (sym step) (sym files) (sym first) inv.sealed))

pub returns-in_err-next-clause-raw_once : goal.returns-in_err-next-clause-raw_once
returns-in_err-next-clause-raw_once g c =
    each_again (map g.V.Source.faults c.args.raws.now.items) (map g.V.Source.faults c.batches.raws.items) (map g.V.Source.faults c.deliver.new.raws.items)
    c.batches.invariant.quiet c.deliver.ensures.raw_once

pub returns-in_err-stream-clause-raw_once : goal.returns-in_err-stream-clause-raw_once
returns-in_err-stream-clause-raw_once g c =
    none_met (map g.V.Source.faults c.args.raws.now.items) (map g.V.Source.faults c.deliver.new.raws.items) (c.in_ok-next.ensures.quiet ∙ c.batches.invariant.quiet)
