-- What holds along the entries of a session.
use Rattle.std.proofs.Common.{ℕ, ◌≤◌, ◌+◌, Bool, List, [], ◌∷◌, length}
use Rattle.idx_session.specs.declared.asked.Asked.{Asked}
use Rattle.idx_session.specs.Entry.{Answers, Entry, Mark, Reply, SeenRises}
use Rattle.idx_session.specs.Session.{Follows, is_last}

-- Behind such replies the board that is named never gets shorter, and at least so many posts are seen.
abbrev pub RaisesSeen : Answers → Type 0
RaisesSeen answers =
    (mark : Mark) (asked : Asked) (last : Bool) (reply : Reply) → answers mark asked last reply → mark.seen ≤ length mark.state.posts
    → (mark.seen ≤ reply.mark.seen) × (reply.mark.seen ≤ length reply.mark.state.posts)

pub seen_rises : (answers : Answers) → RaisesSeen answers → (mark : Mark) (before : ℕ) (entries : List Entry) → Follows answers mark before entries
    → mark.seen ≤ length mark.state.posts → SeenRises mark entries
seen_rises answers raises mark before [] follows few = tt
seen_rises answers raises mark before (e ∷ entries) follows few =
    let here = raises mark e.asked (is_last before) e.reply follows.0 few in
    (here.0, here.1, seen_rises answers raises e.reply.mark (before + 1) entries follows.3 here.1)
