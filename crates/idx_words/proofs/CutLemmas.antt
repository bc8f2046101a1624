-- Which words of `cut` are wrong: no list of its words begins with them and the words before.
use Rattle.std.proofs.Common.{◌≡◌, ◌↔◌, ℕ, ◌+◌, ◌<◌, ◌≤◌, List, [], ◌∷◌, ◌++◌, length, take, map, Some, Result, Ok, Err, IfErr, IsErrAnd, IsTrue, refl, sym, ap, ◌∙◌, subst, arith, ⊎_elim}
use Rattle.std.proofs.lemmas.Bool.{cases_lt}
use Rattle.std.proofs.lemmas.Option.{same_Some}
use Rattle.std.proofs.lemmas.Result.{err_from_is_err_and}
use Rattle.std.proofs.lemmas.List.{get_or_past, get_or_append_left, get_or-take, length-append, length-take-le, take_more, take_all}
use Rattle.idx_text.specs.Number.{number_of}
use Rattle.idx_text.specs.Numbers.{numbers_of}
use Rattle.idx_text.specs.BoxText.{SpellsRegion}
use Rattle.idx_hz.specs.MaskText.{mask_text}
use Rattle.idx_hz.proofs.MaskLemmas.{text_once}
use Rattle.idx_words.specs.declared.cut_words.CutWords.{CutWords}
use Rattle.idx_words.specs.declared.cut_word.CutWord.{CutWord}
use Rattle.idx_words.specs.PathWord.{is_path}
use Rattle.idx_words.specs.CutGrammar.{AreCutWords}
use Rattle.idx_words.specs.CutSteps.{IsSize, IsBox, IsMaskOf, IsRegionIn, IsLevel}
use Rattle.idx_words.specs.CutWord.{place_of}
use Rattle.idx_words.specs.Place.{SomeListBegins, IsPlace}
use Rattle.idx_words.specs.WordAt.{word_at}
use Rattle.idx_words.specs.Words.{AreSomeCutWords}
use Rattle.idx_words.proofs.BoxLemmas.{spelled-once}
use Rattle.idx_words.proofs.PathLemmas.{path_some}
use Rattle.idx_words.proofs.PlaceLemmas.{IsPlace-at, IsPlace-first}
use Rattle.idx_words.proofs.WitnessLemmas.{GoOn, on_size, on_box, on_mask, on_region, on_lo, on_hi, on_end, are_words}

-- the words of `cut` by their places
pub record Steps (words : List (List ℕ)) (c : CutWords) : Type 0 where
  pub count : length words ≡ 7
  pub raw : IsTrue (is_path (word_at words 0))
  pub size : IsSize (word_at words 1) c.size
  pub extent : IsBox c.size (word_at words 2) c.extent
  pub mask : IsMaskOf c.extent (word_at words 3) c.mask
  pub region : IsRegionIn c.extent (word_at words 4) c.region
  pub lo : IsLevel 0 (length c.mask) (word_at words 5) c.lo
  pub hi : IsLevel c.lo (length c.mask) (word_at words 6) c.hi

pub steps : (words : List (List ℕ)) (c : CutWords) → AreCutWords words c → Steps words c
steps [] c h = absurd h
steps (w0 ∷ []) c h = absurd h
steps (w0 ∷ w1 ∷ []) c h = absurd h
steps (w0 ∷ w1 ∷ w2 ∷ []) c h = absurd h
steps (w0 ∷ w1 ∷ w2 ∷ w3 ∷ []) c h = absurd h
steps (w0 ∷ w1 ∷ w2 ∷ w3 ∷ w4 ∷ []) c h = absurd h
steps (w0 ∷ w1 ∷ w2 ∷ w3 ∷ w4 ∷ w5 ∷ []) c h = absurd h
steps (w0 ∷ w1 ∷ w2 ∷ w3 ∷ w4 ∷ w5 ∷ w6 ∷ []) c h = record {
  count = refl;
  raw = h.0;
  size = record { spelled = h.1.size; some = h.2.some; few = h.2.few };
  extent = record { spelled = h.1.extent; small = h.2.small; covered = (c.mask, h.1.digits, h.2.covered) };
  mask = record { spelled = h.1.mask; digits = h.1.digits; covers = h.2.covered };
  region = record { spelled = h.1.region; lower = h.2.lower; upper = h.2.upper };
  lo = record { spelled = h.1.lo; least = omega arith; most = omega (arith, h.2.ordered, h.2.deepest) };
  hi = record { spelled = h.1.hi; least = h.2.ordered; most = h.2.deepest };
}
steps (w0 ∷ w1 ∷ w2 ∷ w3 ∷ w4 ∷ w5 ∷ w6 ∷ w7 ∷ more) c h = absurd h

-- a mask's text tells it
mask_once : (a b : List ℕ) → mask_text a ≡ mask_text b → a ≡ b
mask_once a b e = text_once a b (let same : map (λ d. d + 48) a ≡ map (λ d. d + 48) b = cc in same)

-- ---- the first words of a list

more_first : (ws front : List (List ℕ)) (k : ℕ) → k < length ws → take k ws ≡ front → take (k + 1) ws ≡ front ++ word_at ws k ∷ []
more_first ws front k h e = take_more ws k [] h ∙ ap (λ t. t ++ word_at ws k ∷ []) e

-- a list with these words in front goes on
begun : (ws front : List (List ℕ)) (k : ℕ) → take k ws ≡ front → GoOn front → SomeListBegins AreSomeCutWords ws k
begun ws front k e h = (h.0, subst (λ t. AreSomeCutWords (t ++ h.0)) (sym e) h.1)

-- ---- a right word is there

pub present : (ws : List (List ℕ)) (k : ℕ) → (word_at ws k ≡ [] → ⊥) → k < length ws
present ws k some = ⊎_elim
    (λ (within : k < length ws). within)
    (λ (past : length ws ≤ k). absurd (some (get_or_past ws k [] past)))
    (cases_lt k (length ws))

pub number_some : (word : List ℕ) (n : ℕ) → number_of word ≡ Some n → word ≡ [] → ⊥
unfolding number_of
number_some [] n h e = cc
number_some (b ∷ bs) n h e = cc

pub box_some : (word : List ℕ) (r : List (ℕ × ℕ)) → SpellsRegion word r → word ≡ [] → ⊥
unfolding numbers_of
box_some [] [] h e = absurd (omega (arith, h.lower.axes.0))
box_some [] (b ∷ bs) h e = let none = h.numbers in cc
box_some (b ∷ bs) r h e = cc

mask_some : (word mask : List ℕ) → word ≡ mask_text mask → word ≡ [] → ⊥
mask_some word mask h e = cc

-- ---- lists that begin with the same words

-- another list has the same first words
abbrev pub SameFirst : List (List ℕ) → ℕ → List (List ℕ) → Type 0
SameFirst ws n others = (k : ℕ) → k < n → word_at others k ≡ word_at ws k

-- no words of `cut` have these first words
abbrev pub NoneFirst : List (List ℕ) → ℕ → Type 0
NoneFirst ws n = (others : List (List ℕ)) → SameFirst ws n others → (c : CutWords) → AreCutWords others c → ⊥

begun_same : (ws rest : List (List ℕ)) (n : ℕ) → n ≤ length ws → SameFirst ws n (take n ws ++ rest)
begun_same ws rest n within k less =
    let room : length (take n ws) ≡ n = length-take-le n ws within in
    get_or_append_left (take n ws) rest [] k (omega arith) ∙ get_or-take n ws k [] less

-- what is known where the words at the places before k are right, and that at k is not
pub record Fault (ws : List (List ℕ)) (k : ℕ) : Type 0 where
  pub place : IsPlace AreSomeCutWords ws k
  pub none : (c : CutWords) → AreCutWords ws c → ⊥

fault_at : (ws : List (List ℕ)) (k : ℕ) → k ≤ length ws → SomeListBegins AreSomeCutWords ws k → NoneFirst ws (k + 1) → Fault ws k
fault_at ws k within begins none = record {
  place = IsPlace-at AreSomeCutWords ws k within begins (λ less longer. none (take (k + 1) ws ++ longer.0) (begun_same ws longer.0 (k + 1) (omega arith)) longer.1.0 longer.1.1);
  none = none ws (λ j less. refl);
}

-- ---- a word that is wrong

module _ (ws : List (List ℕ)) where
  pub wrong_raw : (IsTrue (is_path (word_at ws 0)) → ⊥) → Fault ws 0
  wrong_raw wrong =
      let none : NoneFirst ws 1 = λ others same c h. wrong (subst (λ w. IsTrue (is_path w)) (same 0 (omega arith)) (steps others c h).raw) in
      record {
        place = IsPlace-first AreSomeCutWords ws (λ less longer. none (take 1 ws ++ longer.0) (begun_same ws longer.0 1 (omega arith)) longer.1.0 longer.1.1);
        none = none ws (λ j less. refl);
      }

  module _ (raw : IsTrue (is_path (word_at ws 0))) where
    within1 : 1 ≤ length ws
    within1 = omega (arith, present ws 0 (path_some (word_at ws 0) raw))

    front1 : take 1 ws ≡ word_at ws 0 ∷ []
    front1 = more_first ws [] 0 (omega (arith, within1)) refl

    pub wrong_size : ((n : ℕ) → IsSize (word_at ws 1) n → ⊥) → Fault ws 1
    wrong_size wrong = fault_at ws 1 within1 (begun ws _ 1 front1 (on_size (word_at ws 0) raw))
        (λ others same c h. wrong c.size (subst (λ w. IsSize w c.size) (same 1 (omega arith)) (steps others c h).size))

    module _ (s : ℕ) (size : IsSize (word_at ws 1) s) where
      within2 : 2 ≤ length ws
      within2 = omega (arith, present ws 1 (number_some (word_at ws 1) s size.spelled))

      front2 : take 2 ws ≡ word_at ws 0 ∷ word_at ws 1 ∷ []
      front2 = more_first ws _ 1 (omega (arith, within2)) front1

      -- lists with the same first words have the same size
      same_size : (others : List (List ℕ)) (n : ℕ) → 2 ≤ n → SameFirst ws n others → (c : CutWords) → AreCutWords others c → c.size ≡ s
      same_size others n more same c h = same_Some _ _ (sym (steps others c h).size.spelled ∙ ap number_of (same 1 (omega arith)) ∙ size.spelled)

      pub wrong_extent : ((b : List (ℕ × ℕ)) → IsBox s (word_at ws 2) b → ⊥) → Fault ws 2
      wrong_extent wrong = fault_at ws 2 within2 (begun ws _ 2 front2 (on_box (word_at ws 0) raw (word_at ws 1) s size))
          (λ others same c h. wrong c.extent (subst (λ w. IsBox s w c.extent) (same 2 (omega arith))
          (subst (λ n. IsBox n (word_at others 2) c.extent) (same_size others 3 (omega arith) same c h)
          (steps others c h).extent)))

      module _ (b : List (ℕ × ℕ)) (box : IsBox s (word_at ws 2) b) where
        within3 : 3 ≤ length ws
        within3 = omega (arith, present ws 2 (box_some (word_at ws 2) b box.spelled))

        front3 : take 3 ws ≡ word_at ws 0 ∷ word_at ws 1 ∷ word_at ws 2 ∷ []
        front3 = more_first ws _ 2 (omega (arith, within3)) front2

        same_extent : (others : List (List ℕ)) (n : ℕ) → 3 ≤ n → SameFirst ws n others → (c : CutWords) → AreCutWords others c → c.extent ≡ b
        same_extent others n more same c h = spelled-once (word_at ws 2) c.extent b (subst (λ w. SpellsRegion w c.extent) (same 2 (omega arith)) (steps others c h).extent.spelled) box.spelled

        pub wrong_mask : ((m : List ℕ) → IsMaskOf b (word_at ws 3) m → ⊥) → Fault ws 3
        wrong_mask wrong = fault_at ws 3 within3 (begun ws _ 3 front3 (on_mask (word_at ws 0) raw (word_at ws 1) s size (word_at ws 2) b box))
            (λ others same c h. wrong c.mask (subst (λ w. IsMaskOf b w c.mask) (same 3 (omega arith))
            (subst (λ r. IsMaskOf r (word_at others 3) c.mask) (same_extent others 4 (omega arith) same c h)
            (steps others c h).mask)))

        module _ (m : List ℕ) (mask : IsMaskOf b (word_at ws 3) m) where
          within4 : 4 ≤ length ws
          within4 = omega (arith, present ws 3 (mask_some (word_at ws 3) m mask.spelled))

          front4 : take 4 ws ≡ word_at ws 0 ∷ word_at ws 1 ∷ word_at ws 2 ∷ word_at ws 3 ∷ []
          front4 = more_first ws _ 3 (omega (arith, within4)) front3

          same_mask : (others : List (List ℕ)) (n : ℕ) → 4 ≤ n → SameFirst ws n others → (c : CutWords) → AreCutWords others c → c.mask ≡ m
          same_mask others n more same c h = mask_once c.mask m (sym (steps others c h).mask.spelled ∙ same 3 (omega arith) ∙ mask.spelled)

          pub wrong_region : ((r : List (ℕ × ℕ)) → IsRegionIn b (word_at ws 4) r → ⊥) → Fault ws 4
          wrong_region wrong = fault_at ws 4 within4 (begun ws _ 4 front4 (on_region (word_at ws 0) raw (word_at ws 1) s size (word_at ws 2) b box (word_at ws 3) m mask))
              (λ others same c h. wrong c.region (subst (λ w. IsRegionIn b w c.region) (same 4 (omega arith))
              (subst (λ r. IsRegionIn r (word_at others 4) c.region) (same_extent others 5 (omega arith) same c h)
              (steps others c h).region)))

          module _ (r : List (ℕ × ℕ)) (region : IsRegionIn b (word_at ws 4) r) where
            within5 : 5 ≤ length ws
            within5 = omega (arith, present ws 4 (box_some (word_at ws 4) r region.spelled))

            front5 : take 5 ws ≡ word_at ws 0 ∷ word_at ws 1 ∷ word_at ws 2 ∷ word_at ws 3 ∷ word_at ws 4 ∷ []
            front5 = more_first ws _ 4 (omega (arith, within5)) front4

            pub wrong_lo : ((l : ℕ) → IsLevel 0 (length m) (word_at ws 5) l → ⊥) → Fault ws 5
            wrong_lo wrong = fault_at ws 5 within5 (begun ws _ 5 front5 (on_lo (word_at ws 0) raw (word_at ws 1) s size (word_at ws 2) b box (word_at ws 3) m mask (word_at ws 4) r region))
                (λ others same c h. wrong c.lo (subst (λ w. IsLevel 0 (length m) w c.lo) (same 5 (omega arith))
                (subst (λ d. IsLevel 0 (length d) (word_at others 5) c.lo)
                (same_mask others 6 (omega arith) same c h) (steps others c h).lo)))

            module _ (l : ℕ) (lo : IsLevel 0 (length m) (word_at ws 5) l) where
              within6 : 6 ≤ length ws
              within6 = omega (arith, present ws 5 (number_some (word_at ws 5) l lo.spelled))

              front6 : take 6 ws ≡ word_at ws 0 ∷ word_at ws 1 ∷ word_at ws 2 ∷ word_at ws 3 ∷ word_at ws 4 ∷ word_at ws 5 ∷ []
              front6 = more_first ws _ 5 (omega (arith, within6)) front5

              same_lo : (others : List (List ℕ)) (n : ℕ) → 6 ≤ n → SameFirst ws n others → (c : CutWords) → AreCutWords others c → c.lo ≡ l
              same_lo others n more same c h = same_Some _ _ (sym (steps others c h).lo.spelled ∙ ap number_of (same 5 (omega arith)) ∙ lo.spelled)

              pub wrong_hi : ((h : ℕ) → IsLevel l (length m) (word_at ws 6) h → ⊥) → Fault ws 6
              wrong_hi wrong = fault_at ws 6 within6
                  (begun ws _ 6 front6 (on_hi (word_at ws 0) raw (word_at ws 1) s size (word_at ws 2) b box
                  (word_at ws 3) m mask (word_at ws 4) r region (word_at ws 5) l lo))
                  (λ others same c h. wrong c.hi (subst (λ w. IsLevel l (length m) w c.hi) (same 6 (omega arith))
                  (subst (λ n. IsLevel n (length m) (word_at others 6) c.hi) (same_lo others 7 (omega arith) same c h)
                  (subst (λ d. IsLevel c.lo (length d) (word_at others 6) c.hi) (same_mask others 7 (omega arith) same c h) (steps others c h).hi))))

              module _ (h : ℕ) (hi : IsLevel l (length m) (word_at ws 6) h) where
                within7 : 7 ≤ length ws
                within7 = omega (arith, present ws 6 (number_some (word_at ws 6) h hi.spelled))

                front7 : take 7 ws ≡ word_at ws 0 ∷ word_at ws 1 ∷ word_at ws 2 ∷ word_at ws 3 ∷ word_at ws 4 ∷ word_at ws 5 ∷ word_at ws 6 ∷ []
                front7 = more_first ws _ 6 (omega (arith, within7)) front6

                -- there is a word more
                pub wrong_end : 7 < length ws → Fault ws 7
                wrong_end more = record {
                  place = IsPlace-at AreSomeCutWords ws 7 within7
                      (begun ws _ 7 front7 (on_end (word_at ws 0) raw (word_at ws 1) s size (word_at ws 2) b box
                      (word_at ws 3) m mask (word_at ws 4) r region (word_at ws 5) l lo (word_at ws 6) h hi))
                      (λ less longer.
                      let room : length (take 8 ws) ≡ 8 = length-take-le 8 ws (omega arith) in
                      absurd (omega (arith, (steps (take 8 ws ++ longer.0) longer.1.0 longer.1.1).count, length-append (take 8 ws) longer.0)));
                  none = λ c words. absurd (omega (arith, (steps ws c words).count, more));
                }

                -- the words are right, and stand for these values alone
                module _ (few : length ws ≤ 7) where
                  pub right_words : AreCutWords ws (record { size = s; extent = b; mask = m; region = r; lo = l; hi = h })
                  right_words = subst (λ t. AreCutWords t (record { size = s; extent = b; mask = m; region = r; lo = l; hi = h })) (sym front7 ∙ take_all 7 ws few)
                      (are_words (word_at ws 0) raw (word_at ws 1) s size (word_at ws 2) b box (word_at ws 3) m mask (word_at ws 4) r region (word_at ws 5) l lo (word_at ws 6) h hi)

                  pub right_values : (c : CutWords) → AreCutWords ws c → record { size = s; extent = b; mask = m; region = r; lo = l; hi = h } ≡ c
                  right_values c words =
                      let all = steps ws c words in
                      let size_is : s ≡ c.size = sym (same_size ws 7 (omega arith) (λ k less. refl) c words) in
                      let extent_is : b ≡ c.extent = sym (same_extent ws 7 (omega arith) (λ k less. refl) c words) in
                      let mask_is : m ≡ c.mask = sym (same_mask ws 7 (omega arith) (λ k less. refl) c words) in
                      let region_is : r ≡ c.region = spelled-once (word_at ws 4) r c.region region.spelled all.region.spelled in
                      let lo_is : l ≡ c.lo = sym (same_lo ws 7 (omega arith) (λ k less. refl) c words) in
                      let hi_is : h ≡ c.hi = same_Some _ _ (sym hi.spelled ∙ all.hi.spelled) in
                      λ i. record { size = size_is i; extent = extent_is i; mask = mask_is i; region = region_is i; lo = lo_is i; hi = hi_is i }

-- ---- what a reader answers

-- an answer that passes a word on
module _ (found : Result CutWords CutWord) (word : CutWord) (ws : List (List ℕ)) (k : ℕ) (passed : IsErrAnd found (λ e. e ≡ word)) (at : place_of word ≡ k) (fault : Fault ws k) where
  is_err : found ≡ Err word
  is_err = let p = err_from_is_err_and found passed in p.1 ∙ ap (λ (e : CutWord). Err e) p.2

  pub answered : IfErr found (λ wrong. IsPlace AreSomeCutWords ws (place_of wrong))
  answered = subst (λ answer. IfErr answer (λ wrong. IsPlace AreSomeCutWords ws (place_of wrong))) (sym is_err) (subst (IsPlace AreSomeCutWords ws) (sym at) fault.place)

  pub refused : (c : CutWords) → (found ≡ Ok c) ↔ AreCutWords ws c
  refused c = ((λ same. absurd (none same is_err)), (λ words. absurd (fault.none c words)))
    where
      none : found ≡ Ok c → found ≡ Err word → ⊥
      none same is = cc

-- an answer with the values of right words
pub found_once : (ws : List (List ℕ)) (value : CutWords) → AreCutWords ws value →
    ((c : CutWords) → AreCutWords ws c → value ≡ c) → (c : CutWords) →
    (◌≡◌ {A = Result CutWords CutWord} (Ok value) (Ok c)) ↔ AreCutWords ws c
found_once ws value whole once c = ((λ same. subst (AreCutWords ws) (same_value same) whole), (λ words. ap Ok (once c words)))
  where
    same_value : ◌≡◌ {A = Result CutWords CutWord} (Ok value) (Ok c) → value ≡ c
    same_value same = cc
