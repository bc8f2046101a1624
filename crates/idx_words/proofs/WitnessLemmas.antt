-- The words of `cut` that go on: behind each word that is right stands another one, up to the end.
use Rattle.std.proofs.Common.{◌≡◌, ℕ, ◌^◌, ◌<◌, ◌≤◌, List, [], ◌∷◌, ◌++◌, length, Some, IsTrue, codes, refl, arith, lit<}
use Rattle.std.proofs.lemmas.List.Elements.{All-nil, All-cons}
use Rattle.idx_geom.specs.Point.{IsCoordinates}
use Rattle.idx_geom.proofs.LiesInLemmas.{LiesIn-lower_ends, LiesIn-upper_ends}
use Rattle.idx_text.specs.Number.{number_of}
use Rattle.idx_text.specs.Numbers.{numbers_of}
use Rattle.idx_text.specs.BoxText.{both_ends, SpellsRegion}
use Rattle.idx_hz.specs.MaskText.{mask_text}
use Rattle.idx_words.specs.PathWord.{is_path}
use Rattle.idx_words.specs.CutGrammar.{AreCutWords}
use Rattle.idx_words.specs.CutSteps.{IsSize, IsBox, IsMaskOf, IsRegionIn, IsLevel}
use Rattle.idx_words.specs.Words.{AreSomeCutWords}
use Rattle.idx_words.proofs.BoxLemmas.{region_spelled}
use Rattle.idx_words.proofs.PathLemmas.{path_r}
use Rattle.idx_words.proofs.HasMaskLemmas.{v0, IsMask-v0, HasAddress-v0}

-- ---- some right words

number_1 : number_of (codes "1") ≡ Some 1
unfolding number_of
number_1 = refl

pub number_0 : number_of (codes "0") ≡ Some 0
unfolding number_of
number_0 = refl

-- the box of one point, the origin
pub origin : List (ℕ × ℕ)
origin = (0, 0) ∷ (0, 0) ∷ []

numbers_0000 : numbers_of (codes "0 0 0 0") ≡ Some (both_ends origin)
unfolding numbers_of number_of origin
numbers_0000 = refl

zeros : IsCoordinates (0 ∷ 0 ∷ [])
zeros = record {
  axes = (omega arith, omega arith);
  small = All-cons (λ x. x < 2 ^ 40) 0 (0 ∷ []) (lit< tt) (All-cons (λ x. x < 2 ^ 40) 0 [] (lit< tt) (All-nil (λ x. x < 2 ^ 40)));
}

pub spells_origin : SpellsRegion (codes "0 0 0 0") origin
unfolding origin
spells_origin =
    record {
      numbers = numbers_0000;
      lower = zeros;
      upper = zeros;
      ends = record {
        same_axes = refl;
        ordered = All-cons (λ (b : ℕ × ℕ). b.0 ≤ b.1) (0, 0) ((0, 0) ∷ []) (omega arith) (All-cons (λ (b : ℕ × ℕ). b.0 ≤ b.1) (0, 0) [] (omega arith) (All-nil (λ (b : ℕ × ℕ). b.0 ≤ b.1)));
        few = omega arith;
      };
    }

-- ---- the words go on

size_1 : IsSize (codes "1") 1
size_1 = record { spelled = number_1; some = omega arith; few = omega arith }

box_origin : (size : ℕ) → size ≤ 64 → IsBox size (codes "0 0 0 0") origin
unfolding origin
box_origin size few = record {
  spelled = spells_origin;
  small = omega arith;
  covered = (v0, IsMask-v0, HasAddress-v0 (0 ∷ 0 ∷ []) (omega arith) (All-cons (λ x. x ≡ 0) 0 (0 ∷ []) refl (All-cons (λ x. x ≡ 0) 0 [] refl (All-nil (λ x. x ≡ 0)))));
}

-- the box is a region inside itself
whole_box : (word : List ℕ) (size : ℕ) (box : List (ℕ × ℕ)) → IsBox size word box → IsRegionIn box word box
whole_box word size box h =
    let ordered = (region_spelled word box h.spelled).ordered in
    record { spelled = h.spelled; lower = LiesIn-lower_ends box ordered; upper = LiesIn-upper_ends box ordered }

level_0 : (finest : ℕ) → IsLevel 0 finest (codes "0") 0
level_0 finest = record { spelled = number_0; least = omega arith; most = omega arith }

same_level : (coarsest finest : ℕ) (word : List ℕ) (level : ℕ) → IsLevel coarsest finest word level → IsLevel level finest word level
same_level coarsest finest word level h = record { spelled = h.spelled; least = omega arith; most = h.most }

-- some list of the words of `cut` begins with these
abbrev pub GoOn : List (List ℕ) → Type 0
GoOn words = (rest : List (List ℕ)) × AreSomeCutWords (words ++ rest)

-- one more word in front of the rest
module _ (w0 : List ℕ) (raw : IsTrue (is_path w0)) where
  module _ (w1 : List ℕ) (s : ℕ) (size : IsSize w1 s) where
    module _ (w2 : List ℕ) (b : List (ℕ × ℕ)) (box : IsBox s w2 b) where
      module _ (w3 : List ℕ) (m : List ℕ) (mask : IsMaskOf b w3 m) where
        module _ (w4 : List ℕ) (r : List (ℕ × ℕ)) (region : IsRegionIn b w4 r) where
          module _ (w5 : List ℕ) (l : ℕ) (lo : IsLevel 0 (length m) w5 l) where
            -- the values of all seven words
            pub are_words : (w6 : List ℕ) (h : ℕ) → IsLevel l (length m) w6 h →
                AreCutWords (w0 ∷ w1 ∷ w2 ∷ w3 ∷ w4 ∷ w5 ∷ w6 ∷ []) (record { size = s; extent = b; mask = m; region = r; lo = l; hi = h })
            are_words w6 h hi = (
              raw,
              record { size = size.spelled; extent = box.spelled; mask = mask.spelled; digits = mask.digits; region = region.spelled; lo = lo.spelled; hi = hi.spelled },
              record { some = size.some; few = size.few; small = box.small; covered = mask.covers; lower = region.lower; upper = region.upper; ordered = hi.least; deepest = hi.most },
            )

            some_words : (w6 : List ℕ) (h : ℕ) → IsLevel l (length m) w6 h → AreSomeCutWords (w0 ∷ w1 ∷ w2 ∷ w3 ∷ w4 ∷ w5 ∷ w6 ∷ [])
            some_words w6 h hi = (record { size = s; extent = b; mask = m; region = r; lo = l; hi = h }, are_words w6 h hi)

            pub on_end : (w6 : List ℕ) (h : ℕ) → IsLevel l (length m) w6 h → GoOn (w0 ∷ w1 ∷ w2 ∷ w3 ∷ w4 ∷ w5 ∷ w6 ∷ [])
            on_end w6 h hi = ([], some_words w6 h hi)

            -- HI may be LO
            pub on_hi : GoOn (w0 ∷ w1 ∷ w2 ∷ w3 ∷ w4 ∷ w5 ∷ [])
            on_hi = (w5 ∷ [], some_words w5 l (same_level 0 (length m) w5 l lo))

          -- LO may be 0
          pub on_lo : GoOn (w0 ∷ w1 ∷ w2 ∷ w3 ∷ w4 ∷ [])
          on_lo = let h = on_hi (codes "0") 0 (level_0 (length m)) in (codes "0" ∷ h.0, h.1)

        -- REGION may be BOX
        pub on_region : GoOn (w0 ∷ w1 ∷ w2 ∷ w3 ∷ [])
        on_region = let h = on_lo w2 b (whole_box w2 s b box) in (w2 ∷ h.0, h.1)

      -- some mask covers BOX
      pub on_mask : GoOn (w0 ∷ w1 ∷ w2 ∷ [])
      on_mask =
          let m = box.covered.0 in
          let mask : IsMaskOf b (mask_text m) m = record { spelled = refl; digits = box.covered.1; covers = box.covered.2 } in
          let h = on_region (mask_text m) m mask in
          (mask_text m ∷ h.0, h.1)

    -- BOX may be the origin
    pub on_box : GoOn (w0 ∷ w1 ∷ [])
    on_box = let h = on_mask (codes "0 0 0 0") origin (box_origin s size.few) in (codes "0 0 0 0" ∷ h.0, h.1)

  -- SIZE may be 1
  pub on_size : GoOn (w0 ∷ [])
  on_size = let h = on_box (codes "1") 1 size_1 in (codes "1" ∷ h.0, h.1)

pub on_raw : GoOn []
on_raw = let h = on_size (codes "r") path_r in (codes "r" ∷ h.0, h.1)
