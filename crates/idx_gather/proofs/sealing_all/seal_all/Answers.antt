use Rattle.std.proofs.Common.{◌≡◌, ℕ, List, length, map, refl, sym, subst, ◌∙◌}
use Rattle.std.specs.Prelude.{Option, vec_len}
use Rattle.idx_outside.specs.Files.{shown}
use Rattle.idx_outside.specs.Objects.{contents_at}
use Rattle.idx_header.specs.Names.{file_name}
use Rattle.idx_gather.specs.Gather.{IsCaused, NoneFalls}
use Rattle.idx_gather.specs.States.{AreFirstFiles}
use Rattle.idx_gather.proofs.FillLemmas.{alike_still, first_same}
use Rattle.idx_gather.proofs.FirstLemmas.{moved}
use Rattle.idx_gather.proofs.SealAllLemmas.{caused_moved, each_again, idle_again, on_fault}
use Rattle.idx_gather.proofs.sealing_all.seal_all.Goals as goal

pub drain-requires-clause-alike : goal.drain-requires-clause-alike
drain-requires-clause-alike g c κs within =
    alike_still g.V.Source.contents c.args.raws.now.items c.windows.raws.items c.windows.invariant.same c.requires.alike

pub drain-requires-clause-admits : goal.drain-requires-clause-admits
drain-requires-clause-admits g c κs within = λ file.
    let inv = c.windows.invariant in
    let o = c.args.opening in
    let own = c.in_ok-stream.ensures.opening in
    let header : c.in_ok-stream.stream.opening.header ≡ o.header = (λ i. (own i).header) ∙ inv.header in
    let step : c.in_ok-stream.stream.opening.step ≡ o.step = (λ i. (own i).step) ∙ inv.step in
    let path : file_name o.header o.step file ≡ file_name c.in_ok-stream.stream.opening.header c.in_ok-stream.stream.opening.step file = sym (λ i. file_name (header i) (step i) file) in
    subst (λ (p : List ℕ). g.B.Bay.admits c.windows.bay p) path (inv.still (file_name o.header o.step file) (c.requires.admits file))

pub returns-in_err-opening-clause-cause : goal.returns-in_err-opening-clause-cause
returns-in_err-opening-clause-cause g c =
    let inv = c.windows.invariant in
    let h = c.args.opening.header in
    let contents = g.V.Source.contents in
    let faults = g.V.Source.faults in
    let told : Option (List ℕ) = contents_at contents c.args.raws.now.items 0 in
    let header : c.in_ok-stream.stream.opening.header ≡ h = (λ i. (c.in_ok-stream.ensures.opening i).header) ∙ inv.header in
    on_fault c.from_residual-in_err-opening.result c.in_err-opening.field-0.0
    (IsCaused h told (map faults c.args.raws.now.items) (map faults c.drain.new.raws.items) (g.B.Bay.faults c.args.bay.now) (g.B.Bay.faults c.drain.new.bay))
    c.from_residual-in_err-opening.ensures.1
    (caused_moved h c.in_ok-stream.stream.opening.header told (contents_at contents c.windows.raws.items 0) (map faults c.args.raws.now.items) (map faults c.windows.raws.items)
    (map faults c.drain.new.raws.items) (g.B.Bay.faults c.args.bay.now) (g.B.Bay.faults c.windows.bay) (g.B.Bay.faults c.drain.new.bay) c.in_err-opening.field-0.0
    header (first_same contents c.args.raws.now.items c.windows.raws.items inv.same) inv.quiet inv.faults c.in_err-opening.ensures.cause)

pub returns-in_err-opening-clause-raw_count : goal.returns-in_err-opening-clause-raw_count
returns-in_err-opening-clause-raw_count g c =
    subst (λ (before : List ℕ). NoneFalls before (map g.V.Source.faults c.drain.new.raws.items)) c.windows.invariant.quiet c.drain.ensures.raw_count

pub windows-preserved : goal.windows-preserved
windows-preserved g c =
    let inv = c.windows.invariant in
    let o = c.args.opening in
    let w = c.windows.opening in
    let s = c.in_ok-stream.stream.opening in
    let t = c.in_ok-opening.opening in
    let n = c.in_ok-opening.ensures in
    let own : s ≡ w = c.in_ok-stream.ensures.opening in
    let told : Option (List ℕ) = contents_at g.V.Source.contents c.args.raws.now.items 0 in
    let same : contents_at g.V.Source.contents c.windows.raws.items 0 ≡ told = first_same g.V.Source.contents c.args.raws.now.items c.windows.raws.items inv.same in
    let header : s.header ≡ o.header = (λ i. (own i).header) ∙ inv.header in
    let step : s.step ≡ o.step = (λ i. (own i).step) ∙ inv.step in
    let layout : s.layout ≡ o.layout = (λ i. (own i).layout) ∙ inv.layout in
    let files : s.files ≡ o.files = (λ i. (own i).files) ∙ inv.files in
    record {
      header = n.same_header ∙ header;
      step = n.same_step ∙ step;
      ranks = n.same_ranks ∙ (λ i. (own i).ranks) ∙ inv.ranks;
      room = n.same_room ∙ (λ i. (own i).room) ∙ inv.room;
      layout = n.same_layout ∙ layout;
      pieces = n.same_pieces ∙ (λ i. (own i).pieces) ∙ inv.pieces;
      files = n.same_files ∙ files;
      number = sym c.drain.new.raws.ok.0 ∙ c.drain.ensures.number ∙ c.windows.raws.ok.0 ∙ inv.number;
      same = c.drain.ensures.same ∙ inv.same;
      quiet = n.raw_quiet ∙ inv.quiet;
      idle = idle_again o.header s.header (length c.args.raws.now.items) (vec_len c.windows.raws) c.args.raws.now.items c.windows.raws.items c.drain.new.raws.items
          header (c.windows.raws.ok.0 ∙ inv.number) c.drain.ensures.idle inv.idle;
      bay_files = c.drain.ensures.files ∙ inv.bay_files;
      bay_header = c.drain.ensures.header ∙ inv.bay_header;
      begun = c.drain.ensures.begun ∙ inv.begun;
      failed = n.failed ∙ inv.failed;
      faults = n.quiet ∙ inv.faults;
      still = λ path old. c.drain.ensures.still path (inv.still path old);
      first = moved s.layout o.layout s.header o.header s.step o.step (g.B.Bay.files c.windows.bay) (g.B.Bay.files c.args.bay.now) told s.files.items o.files.items
          (shown g.B.Leaf.Leaf.contents t.leaves.items) (shown g.B.Leaf.Leaf.contents t.leaves.items) layout header step inv.bay_files (λ i. (files i).items) refl
          (subst (λ (x : Option (List ℕ)). AreFirstFiles s.layout s.header s.step (g.B.Bay.files c.windows.bay) x s.files.items (shown g.B.Leaf.Leaf.contents t.leaves.items)) same n.files_made);
    }

pub returns-in_err-opening-clause-raw_once : goal.returns-in_err-opening-clause-raw_once
returns-in_err-opening-clause-raw_once g c =
    each_again (map g.V.Source.faults c.args.raws.now.items) (map g.V.Source.faults c.windows.raws.items) (map g.V.Source.faults c.drain.new.raws.items)
    c.windows.invariant.quiet c.drain.ensures.raw_once
