-- What holds of every world that events lead to.
use Rattle.std.specs.Prelude.{◌≡◌, ℕ, ◌≤◌, ◌<◌, true, false, List, [], length, map, take, filter, Some, None}
use Rattle.std.specs.List.{AllByRecursion, IsDistinct}
use Rattle.idx_events.specs.Lists.{has, pair_eq, AnyOf}
use Rattle.idx_hall.specs.Posts.{Post, IsPostOf}
use Rattle.idx_hall.specs.Hall.{HallOk}
use Rattle.idx_events.specs.Setting.{Setting, step_file, step_files}
use Rattle.idx_events.specs.World.{World, Volume, Slot, Query, Round, held, is_published, is_abandoned}
use Rattle.idx_events.specs.Volumes.{is_legal, all_gave, all_shipped, dock_of, post_of, sealed_files, is_post_of, is_published_of, revisions}
use Rattle.idx_events.specs.Queries.{due, round_blocks, bytes_in, post_at}

module _ (s : Setting) where
  -- The volumes are such as a world takes: each volume of a timestep has as its revision the number of those before it.
  pub record AreVolumes (volumes : List Volume) : Type 0 where
    pub numbered : map (λ v. v.revision) volumes ≡ revisions [] (map (λ v. v.time) volumes)
    pub steps : AllByRecursion (λ v. s.valid_step v.time v.revision ≡ true) volumes
    pub whole : AllByRecursion (λ v. s.valid_raw v.raw ≡ true) volumes

  -- 1. given pairs are distinct and legal; shipped pairs are distinct, and their pieces were given by all their ranks
  pub record GivenOk (v : Volume) : Type 0 where
    pub apart : IsDistinct pair_eq v.given
    pub legal : AllByRecursion (λ g. is_legal s g.0 g.1 ≡ true) v.given
    pub once : IsDistinct pair_eq v.shipped
    pub gave : AllByRecursion (λ p. all_gave s v.given p.0 ≡ true) v.shipped

  -- 2. until it is abandoned, each dock has the samples of what was shipped to it, and zeros elsewhere
  pub record DocksOk (v : Volume) : Type 0 where
    pub files : is_abandoned v.phase ≡ false → map (λ slot. slot.file) v.slots ≡ s.files
    pub docks : AllByRecursion (λ slot. slot.dock ≡ dock_of s v.raw v.shipped slot.file) v.slots

  -- 3. each sealed file was shipped whole, and is the volume's file under its name
  pub record IsSealed (v : Volume) (slot : Slot) (file : List ℕ × List ℕ) : Type 0 where
    pub exists : has slot.file s.files ≡ true
    pub whole : all_shipped s v.shipped slot.file ≡ true
    pub is : file ≡ step_file s v.time v.revision v.raw slot.file

  abbrev pub SealedOk : Volume → Type 0
  SealedOk v = AllByRecursion (λ slot. (file : List ℕ × List ℕ) → slot.sealed ≡ Some file → IsSealed v slot file) v.slots

  -- the post is that of the published volume
  pub record IsPostFor (p : Post) (v : Volume) : Type 0 where
    pub phase : is_published v.phase ≡ true
    pub post : p ≡ post_of s v

  -- 4. the published volumes of each time, by rising revision, are exactly the board's posts of that time, in order, each with
  -- the volume's files
  pub record BoardOk (volumes : List Volume) (board : List Post) : Type 0 where
    pub posts : (time : ℕ) → filter (is_post_of time) board ≡ map (post_of s) (filter (is_published_of time) volumes)
    pub files : AllByRecursion (λ v. is_published v.phase ≡ true → sealed_files v.slots ≡ step_files s v.time v.revision v.raw) volumes

  -- 6. what a query holds is its post's, and is what it has to hold
  pub record IsFrom (board : List Post) (x : Query) (n : ℕ) : Type 0 where
    pub post : Post
    pub is : IsPostOf board x.ask.time n post
    pub bytes : AllByRecursion (λ pair. pair.1 ≡ bytes_in post x.ask.field pair.0) (held x)

  pub record HeldOk (board : List Post) (x : Query) : Type 0 where
    pub from : (n : ℕ) → x.post ≡ Some n → IsFrom board x n
    pub due : (block : ℕ) → has block (map (λ pair. pair.0) (held x)) ≡ has block (due s x)

  -- 7. an answer is that of the volume of the query's post
  pub record IsAnswerOf (board : List Post) (x : Query) (bytes : List ℕ) (v : Volume) : Type 0 where
    pub phase : is_published v.phase ≡ true
    pub post : post_at board x ≡ Some (post_of s v)
    pub answer : bytes ≡ s.answer v.raw x.ask

  abbrev pub AnswerOk : List Volume → List Post → Query → Type 0
  AnswerOk volumes board x = (bytes : List ℕ) → x.answer ≡ Some bytes → AnyOf (IsAnswerOf board x bytes) volumes

  -- 8. where a query may be
  pub record IsFresh (x : Query) : Type 0 where
    pub ended : x.ended ≡ 0
    pub round : x.round ≡ None
    pub answer : x.answer ≡ None

  pub record RoundOk (x : Query) (r : Round) : Type 0 where
    pub left : x.ended < length (s.rounds x.ask)
    pub answer : x.answer ≡ None
    pub missing : r.missing ≡ filter (λ block. has block r.missing) (round_blocks s x)
    pub some : 0 < length r.missing
    pub few : length r.loaded ≤ length r.missing
    pub loaded : map (λ pair. pair.0) r.loaded ≡ take (length r.loaded) r.missing

  pub record RoundsOk (x : Query) : Type 0 where
    pub fresh : x.post ≡ None → IsFresh x
    pub ended : x.ended ≤ length (s.rounds x.ask)
    pub round : (r : Round) → x.round ≡ Some r → RoundOk x r

  pub record WorldOk (w : World) : Type 0 where
    pub volumes : AreVolumes w.volumes
    pub asks : AllByRecursion (λ x. s.valid_ask x.ask ≡ true) w.queries
    pub shape : w.hall.shape ≡ s.shape
    pub given : AllByRecursion GivenOk w.volumes
    pub docks : AllByRecursion DocksOk w.volumes
    pub sealed : AllByRecursion SealedOk w.volumes
    pub board : BoardOk w.volumes w.hall.board
    pub hall : HallOk w.hall
    pub held : AllByRecursion (HeldOk w.hall.board) w.queries
    pub answers : AllByRecursion (AnswerOk w.volumes w.hall.board) w.queries
    pub rounds : AllByRecursion RoundsOk w.queries
