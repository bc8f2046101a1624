use Rattle.std.proofs.Common.{◌≡◌, ◌≤◌, [], length, map, take, refl, sym, ap, subst, ◌∙◌, arith}
use Rattle.std.proofs.lemmas.List.Elements.{All-nil}
use Rattle.idx_header.specs.Header.{HeaderValue}
use Rattle.idx_header.specs.Names.{file_name}
use Rattle.idx_pieces.specs.Pieces.{pieces_of}
use Rattle.idx_outside.specs.Files.{AllNamed, IsNamed, shown}
use Rattle.idx_gather.specs.States.{AreFilesSoFar, IsOpening}
use Rattle.idx_gather.proofs.ToldLemmas.{none_so_far}
use Rattle.idx_gather.proofs.starting.open.Goals as goal

pub invariant_of-result : goal.invariant_of-result
invariant_of-result g c =
    let h : HeaderValue = c.args.header.now in
    let none : map (λ leaf. leaf.0) c.new.result.items ≡ [] = ap (map (λ leaf. leaf.0)) c.new.ensures.items in
    record {
      valid =
          subst (λ (x : HeaderValue). IsOpening x c.args.step c.args.ranks c.args.room c.in_ok-pieces.field-0.items c.in_ok-all_files.field-0.items (map (λ leaf. leaf.0) c.new.result.items)) (sym c.in_ok-copy.ensures)
          (record {
            some_rank = c.requires.some_rank;
            few_ranks = c.requires.few_ranks;
            some_room = c.requires.some_room;
            pieces_are = c.in_ok-pieces.ensures ∙ ap (λ e. pieces_of h e c.args.ranks) c.piece_digits.ensures.digits;
            files_are = c.in_ok-all_files.ensures;
            few = subst (λ xs. length xs ≤ length c.in_ok-all_files.field-0.items) (sym none) (omega arith);
            paths_are = subst (λ xs. xs ≡ map (file_name h c.args.step) (take (length xs) c.in_ok-all_files.field-0.items)) (sym none) refl;
          });
      so_far = ∣ subst (λ leaves. AreFilesSoFar c.args.layout c.in_ok-copy.field-0 c.args.step c.in_ok-all_files.field-0.items (shown g.L.Leaf.contents leaves)) (sym c.new.ensures.items)
          (none_so_far c.args.layout c.in_ok-copy.field-0 c.args.step c.in_ok-all_files.field-0.items) ∣₁;
      named = subst (AllNamed g.L.Leaf.path) (sym c.new.ensures.items) (All-nil (IsNamed g.L.Leaf.path));
    }
