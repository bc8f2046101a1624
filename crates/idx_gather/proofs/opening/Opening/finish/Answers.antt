use Rattle.std.proofs.Common.{length, map, take, ap, ◌∙◌, arith}
use Rattle.std.proofs.Math.Logic.{∥∥₁_map}
use Rattle.std.proofs.lemmas.List.{length-map, take_all}
use Rattle.idx_outside.specs.Files.{entry_shown, shown}
use Rattle.idx_header.specs.Names.{file_name}
use Rattle.idx_gather.proofs.ToldLemmas.{all_files}
use Rattle.idx_gather.proofs.opening.Opening.finish.Goals as goal

pub invariant_of-result : goal.invariant_of-result
invariant_of-result g c =
    let o = c.args.self in
    record {
      paths = o.valid.paths_are
          ∙ ap (λ n. map (file_name o.header o.step) (take n o.files.items)) (length-map o.leaves.items (λ leaf. leaf.0) ∙ c.requires.sealed)
          ∙ ap (map (file_name o.header o.step)) (take_all (length o.files.items) o.files.items (omega arith) ∙ o.valid.files_are);
      whole = ∥∥₁_map o.so_far (all_files o.layout o.header o.step o.files.items (shown g.L.Leaf.contents o.leaves.items) o.valid.files_are
          (length-map o.leaves.items (entry_shown g.L.Leaf.contents) ∙ c.requires.sealed));
      named = o.named;
    }
