use Rattle.std.proofs.Common.{◌≡◌, ℕ, sym, subst}
use Rattle.std.specs.Prelude.{All}
use Rattle.idx_hall.specs.Posts.{Post, IsNewestOf}
use Rattle.idx_hall.proofs.NewestLemmas.{lacks-not, newest-lacks, newest-post}
use Rattle.idx_hall.proofs.hall.Hall.look.Goals as goal

pub returns-in_default-clause-lacks : goal.returns-in_default-clause-lacks
returns-in_default-clause-lacks g c = newest-lacks c.args.self.now.board c.args.time (sym c.in_default.ensures)

pub look_at-requires-clause-post : goal.look_at-requires-clause-post
look_at-requires-clause-post g c =
    let there : (post : Post) × IsNewestOf c.args.self.now.board c.args.time c.in-Some.number post = newest-post c.args.self.now.board c.args.time c.in-Some.number (sym c.in-Some.ensures) in
    (there.0, there.1.at, subst (λ (t : ℕ). All (λ key. key.time ≡ t) c.args.keys.now) (sym there.1.time) c.requires.keys)

pub returns-in_err-look_at-clause-none : goal.returns-in_err-look_at-clause-none
returns-in_err-look_at-clause-none g c = λ lacks.
    let there : (post : Post) × IsNewestOf c.args.self.now.board c.args.time c.in-Some.number post = newest-post c.args.self.now.board c.args.time c.in-Some.number (sym c.in-Some.ensures) in
    absurd (lacks-not c.args.self.now.board c.args.time c.in-Some.number (there.0, record { at = there.1.at; time = there.1.time }) lacks)

pub returns-clause-post : goal.returns-clause-post
returns-clause-post g c =
    let there : (post : Post) × IsNewestOf c.args.self.now.board c.args.time c.in-Some.number post = newest-post c.args.self.now.board c.args.time c.in-Some.number (sym c.in-Some.ensures) in
    (there.0, there.1, c.in_ok-look_at.ensures.blocks there.0 there.1.at)

pub returns-clause-none : goal.returns-clause-none
returns-clause-none g c = λ lacks.
    let there : (post : Post) × IsNewestOf c.args.self.now.board c.args.time c.in-Some.number post = newest-post c.args.self.now.board c.args.time c.in-Some.number (sym c.in-Some.ensures) in
    absurd (lacks-not c.args.self.now.board c.args.time c.in-Some.number (there.0, record { at = there.1.at; time = there.1.time }) lacks)
