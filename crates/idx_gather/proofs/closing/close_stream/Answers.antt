use Rattle.std.proofs.Common.{◌≡◌, ◌<◌, ◌++◌, List, length, map, drop, sym, ap, subst, ◌∙◌}
use Rattle.idx_outside.specs.Files.{AllNamed, shown}
use Rattle.idx_dock.specs.Dock.{DockValue}
use Rattle.idx_gather.specs.States.{AreFilesSoFar, AreFirstFiles, IsOpening}
use Rattle.idx_gather.specs.Streams.{AreOpen}
use Rattle.idx_gather.proofs.ClosingLemmas.{first_closed, more_closed, named_closed, opening_closed, so_far_closed}
use Rattle.idx_gather.proofs.closing.close_stream.Goals as goal

pub invariant_of-opening : goal.invariant_of-opening
invariant_of-opening g c =
    let o = c.args.stream.opening in
    let s = c.args.stream in
    let contents = g.L.Leaf.contents in
    let now : c.append.new.self.items ≡ o.leaves.items ++ map (λ entry. entry.1) c.by_number.new.sealed.items =
    c.in-Ok.ensures.items ∙ ap (λ xs. o.leaves.items ++ xs) c.in_ok-leaves.ensures in
    let known = c.requires.sealed.0 in
    let told = c.requires.sealed.1.0 in
    let are = c.requires.sealed.1.1 in
    let state = subst (λ (ds : List DockValue). AreOpen o.header o.pieces.items (drop (length o.leaves.items) o.files.items) (map (λ entry. entry.0) s.sealed.items) s.left.items ds) c.requires.all c.requires.state in
    record {
      valid = subst (λ xs. IsOpening o.header o.step o.ranks o.room o.pieces.items o.files.items (map (λ leaf. leaf.0) xs)) (sym now)
          (opening_closed o.layout contents o.header o.step o.ranks o.room o.pieces.items o.files.items o.leaves.items o.valid s.sealed.items c.by_number.new.sealed.items s.left.items state
          c.by_number.ensures.same c.by_number.ensures.rising known told are);
      so_far = ∣ subst (λ xs. AreFilesSoFar o.layout o.header o.step o.files.items (shown contents xs)) (sym now)
          (so_far_closed o.layout contents o.header o.step o.ranks o.room o.pieces.items o.files.items o.leaves.items o.valid s.sealed.items c.by_number.new.sealed.items s.left.items state
          c.by_number.ensures.same c.by_number.ensures.rising known told are) ∣₁;
      named = subst (AllNamed g.L.Leaf.path) (sym now)
          (named_closed o.layout contents o.header o.step o.ranks o.room o.pieces.items o.files.items o.leaves.items o.valid s.sealed.items c.by_number.new.sealed.items s.left.items state
          c.by_number.ensures.same c.by_number.ensures.rising g.L.Leaf.path o.named s.named);
    }

pub returns-in-Ok-clause-more : goal.returns-in-Ok-clause-more
returns-in-Ok-clause-more g c =
    let o = c.args.stream.opening in
    let s = c.args.stream in
    let now : c.append.new.self.items ≡ o.leaves.items ++ map (λ entry. entry.1) c.by_number.new.sealed.items =
    c.in-Ok.ensures.items ∙ ap (λ xs. o.leaves.items ++ xs) c.in_ok-leaves.ensures in
    let state = subst (λ (ds : List DockValue). AreOpen o.header o.pieces.items (drop (length o.leaves.items) o.files.items) (map (λ entry. entry.0) s.sealed.items) s.left.items ds) c.requires.all c.requires.state in
    subst (λ xs. length o.leaves.items < length xs) (sym now)
    (more_closed o.layout g.L.Leaf.contents o.header o.step o.ranks o.room o.pieces.items o.files.items o.leaves.items o.valid s.sealed.items c.by_number.new.sealed.items s.left.items state
    c.by_number.ensures.same c.by_number.ensures.rising c.requires.some)

pub returns-in-Ok-clause-first : goal.returns-in-Ok-clause-first
returns-in-Ok-clause-first g c = λ known told are.
    let o = c.args.stream.opening in
    let s = c.args.stream in
    let contents = g.L.Leaf.contents in
    let now : c.append.new.self.items ≡ o.leaves.items ++ map (λ entry. entry.1) c.by_number.new.sealed.items =
    c.in-Ok.ensures.items ∙ ap (λ xs. o.leaves.items ++ xs) c.in_ok-leaves.ensures in
    let state = subst (λ (ds : List DockValue). AreOpen o.header o.pieces.items (drop (length o.leaves.items) o.files.items) (map (λ entry. entry.0) s.sealed.items) s.left.items ds) c.requires.all c.requires.state in
    subst (λ xs. AreFirstFiles o.layout o.header o.step known told o.files.items (shown contents xs)) (sym now)
    (first_closed o.layout contents o.header o.step o.ranks o.room o.pieces.items o.files.items o.leaves.items o.valid s.sealed.items c.by_number.new.sealed.items s.left.items state
    c.by_number.ensures.same c.by_number.ensures.rising known told are)
