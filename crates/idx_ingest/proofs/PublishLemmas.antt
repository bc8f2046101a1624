-- The newest post of a time is one that a step of the time may follow; and a step that was published is the next post.
use Rattle.std.proofs.Common.{◌≡◌, ℕ, Bool, List, [], ◌∷◌, ◌++◌, length, Option, Some, None, subst, sym, ◌∙◌}
use Rattle.std.specs.Prelude.{IfSome}
use Rattle.idx_outside.specs.Shape.{Shape}
use Rattle.idx_header.specs.Header.{HeaderValue}
use Rattle.idx_layout.specs.Shape.{shape_of}
use Rattle.idx_outside.specs.declared.mem_file.MemFile.{MemFile}
use Rattle.idx_gather.specs.Gather.{HasBlocksOf, HasPresent, HoldsAdded}
use Rattle.idx_hall.specs.Posts.{IsPostOf, Post, newest, post_of}
use Rattle.idx_hall.proofs.NewestLemmas.{newest-post}
use Rattle.idx_ingest.specs.Ingested.{IsNextPost}

pub follows : (board : List Post) (time : ℕ) (after : Option ℕ) → after ≡ newest board time → IfSome after (λ number. (post : Post) × IsPostOf board time number post)
follows board time None is = tt
follows board time (Some number) is =
    let found = newest-post board time number (sym is) in
    (found.0, record { at = found.1.at; time = found.1.time })

pub next_post : (h g : HeaderValue) (time own : ℕ) (raw : Option (List ℕ)) (old new : Option (List MemFile)) (before after : List Post) (number : ℕ) (shape given : Shape) (has : ℕ → ℕ → Bool)
    (stored : Option (ℕ → ℕ → List ℕ)) (leaves : List (List ℕ × Option (List ℕ))) →
    g ≡ h → own ≡ time → shape ≡ shape_of h → given ≡ shape_of g → HasPresent g has → HoldsAdded g time old new given has stored leaves → IfSome raw (λ bytes. HasBlocksOf g bytes stored) →
    after ≡ before ++ post_of shape own has stored ∷ [] → number ≡ length before → IsNextPost h time raw old new before after number
next_post h g time own raw old new before after number shape given has stored leaves header same shaped own_shape present holds blocks is count = record {
  has = has;
  stored = stored;
  leaves = leaves;
  present = subst (λ (x : HeaderValue). HasPresent x has) header present;
  holds = subst (λ (x : HeaderValue). HoldsAdded x time old new (shape_of x) has stored leaves) header
      (subst (λ (s : Shape). HoldsAdded g time old new s has stored leaves) own_shape holds);
  blocks = subst (λ (x : HeaderValue). IfSome raw (λ bytes. HasBlocksOf x bytes stored)) header blocks;
  is = is ∙ (λ i. before ++ post_of (shaped i) (same i) has stored ∷ []);
  number_is = count;
}
