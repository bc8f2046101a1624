-- The words of `convert`: each is right or wrong by its place alone.
use Rattle.std.proofs.Common.{◌≡◌, ℕ, ◌+◌, ◌<◌, List, [], ◌∷◌, drop, IsTrue, codes, refl, ap, arith}
use Rattle.std.specs.Option.{is_some}
use Rattle.std.proofs.lemmas.Bool.{false≢true}
use Rattle.idx_text.specs.Number.{number_of}
use Rattle.idx_words.specs.declared.convert_word.ConvertWord.{ConvertWord}
use Rattle.idx_words.specs.declared.convert_word.ConvertWord.TheVariants as words
use Rattle.idx_words.specs.ConvertGrammar.{is_text}
use Rattle.idx_words.specs.ConvertWord.{place_of, is_right_at}
use Rattle.idx_words.specs.Options.{AreOptions, convert_options, layout_of, ranks_of}
use Rattle.idx_words.specs.PathWord.{is_path}
use Rattle.idx_words.specs.Place.{SomeListBegins}
use Rattle.idx_words.specs.WordAt.{word_at}
use Rattle.idx_words.specs.Words.{AreSomeConvertWords}
use Rattle.idx_words.proofs.PathLemmas.{path_r}
use Rattle.idx_words.proofs.PlaceLemmas.{Fault}
use Rattle.idx_words.proofs.RightLemmas.{AreRight, AreRightBelow, Follow, nth, placed, there, goes_on, right_words, wrong_word, wrong_end}

-- the word is right at this place
abbrev pub IsRightAt : ConvertWord → List ℕ → Type 0
IsRightAt p word = IsTrue (is_right_at p word)

-- the empty word is right nowhere
right_some : (p : ConvertWord) → IsTrue (is_right_at p []) → ⊥
unfolding is_path is_text number_of
right_some words.Dataset h = false≢true h
right_some words.Raw h = false≢true h
right_some words.Extent h = false≢true h
right_some words.Fields h = false≢true h
right_some words.Mask h = false≢true h
right_some words.Bits h = false≢true h
right_some words.PerFile h = false≢true h
right_some words.Template h = false≢true h
right_some words.Time h = false≢true h
right_some words.Step h = false≢true h

-- the places of the words behind the command
abbrev pub order : List ConvertWord
order =
    words.Dataset ∷ words.Raw ∷ words.Extent ∷ words.Fields ∷ words.Mask ∷ words.Bits ∷ words.PerFile ∷ words.Template
    ∷ words.Time ∷ words.Step ∷ []

-- the place of the word that is read next
pub place_is : (k : ℕ) → k < 10 → place_of (nth words.Dataset order k) ≡ k
place_is k less =
    let follow : Follow place_of 0 order = (refl, (refl, (refl, (refl, (refl, (refl, (refl, (refl, (refl, (refl, tt)))))))))) in
    omega (arith, placed place_of words.Dataset order 0 follow k less)

abbrev Options : List (List ℕ) → Type 0
Options = AreOptions convert_options

to_right : (ws : List (List ℕ)) → AreSomeConvertWords ws → AreRight IsRightAt Options order ws
to_right [] h = h.1
to_right (w0 ∷ []) h = absurd h.1
to_right (w0 ∷ w1 ∷ []) h = absurd h.1
to_right (w0 ∷ w1 ∷ w2 ∷ []) h = absurd h.1
to_right (w0 ∷ w1 ∷ w2 ∷ w3 ∷ []) h = absurd h.1
to_right (w0 ∷ w1 ∷ w2 ∷ w3 ∷ w4 ∷ []) h = absurd h.1
to_right (w0 ∷ w1 ∷ w2 ∷ w3 ∷ w4 ∷ w5 ∷ []) h = absurd h.1
to_right (w0 ∷ w1 ∷ w2 ∷ w3 ∷ w4 ∷ w5 ∷ w6 ∷ []) h = absurd h.1
to_right (w0 ∷ w1 ∷ w2 ∷ w3 ∷ w4 ∷ w5 ∷ w6 ∷ w7 ∷ []) h = absurd h.1
to_right (w0 ∷ w1 ∷ w2 ∷ w3 ∷ w4 ∷ w5 ∷ w6 ∷ w7 ∷ w8 ∷ []) h = absurd h.1
to_right (w0 ∷ w1 ∷ w2 ∷ w3 ∷ w4 ∷ w5 ∷ w6 ∷ w7 ∷ w8 ∷ w9 ∷ options) (c, h) = (
  h.0,
  (
    h.1,
    (
      h.2.extent_word.text,
      (
        h.2.fields_word.text,
        (
          h.2.mask_word.text,
          (
            h.2.bits_word.text,
            (
              h.2.per_file_word.text,
              (h.2.template_word.text, (h.2.time_word.text, (ap is_some h.2.step_word, h.2.option_words.pairs))),
            ),
          ),
        ),
      ),
    ),
  ),
)

from_right : (ws : List (List ℕ)) → AreRight IsRightAt Options order ws → AreSomeConvertWords ws
from_right [] h = absurd h
from_right (w0 ∷ []) h = absurd h.1
from_right (w0 ∷ w1 ∷ []) h = absurd h.1.1
from_right (w0 ∷ w1 ∷ w2 ∷ []) h = absurd h.1.1.1
from_right (w0 ∷ w1 ∷ w2 ∷ w3 ∷ []) h = absurd h.1.1.1.1
from_right (w0 ∷ w1 ∷ w2 ∷ w3 ∷ w4 ∷ []) h = absurd h.1.1.1.1.1
from_right (w0 ∷ w1 ∷ w2 ∷ w3 ∷ w4 ∷ w5 ∷ []) h = absurd h.1.1.1.1.1.1
from_right (w0 ∷ w1 ∷ w2 ∷ w3 ∷ w4 ∷ w5 ∷ w6 ∷ []) h = absurd h.1.1.1.1.1.1.1
from_right (w0 ∷ w1 ∷ w2 ∷ w3 ∷ w4 ∷ w5 ∷ w6 ∷ w7 ∷ []) h = absurd h.1.1.1.1.1.1.1.1
from_right (w0 ∷ w1 ∷ w2 ∷ w3 ∷ w4 ∷ w5 ∷ w6 ∷ w7 ∷ w8 ∷ []) h = absurd h.1.1.1.1.1.1.1.1.1
from_right (w0 ∷ w1 ∷ w2 ∷ w3 ∷ w4 ∷ w5 ∷ w6 ∷ w7 ∷ w8 ∷ w9 ∷ options) (h0, (h1, (h2, (h3, (h4, (h5, (h6, (h7, (h8, (h9, pairs)))))))))) =
    let step = there (number_of w9) h9 in (
      record { extent = w2; fields = w3; mask = w4; bits = w5; per_file = w6; template = w7; time = w8; step = step.0; ranks = ranks_of options; layout = layout_of options },
      (
        h0,
        h1,
        record {
          extent_word = record { text = h2; same = refl };
          fields_word = record { text = h3; same = refl };
          mask_word = record { text = h4; same = refl };
          bits_word = record { text = h5; same = refl };
          per_file_word = record { text = h6; same = refl };
          template_word = record { text = h7; same = refl };
          time_word = record { text = h8; same = refl };
          step_word = step.1;
          option_words = record { pairs = pairs; ranks = refl; layout = refl };
        },
      ),
    )

-- some words that are right
text_r : IsTrue (is_text (codes "r"))
unfolding is_path is_text
text_r = refl

number_0 : IsTrue (is_some (number_of (codes "0")))
unfolding number_of
number_0 = refl

some_words : List (List ℕ)
some_words = codes "r" ∷ codes "r" ∷ codes "r" ∷ codes "r" ∷ codes "r" ∷ codes "r" ∷ codes "r" ∷ codes "r" ∷ codes "r" ∷ codes "0" ∷ []

some_right : AreRight IsRightAt Options order some_words
unfolding some_words
some_right = (path_r, (path_r, (text_r, (text_r, (text_r, (text_r, (text_r, (text_r, (text_r, (number_0, refl))))))))))

-- some list begins with no words
pub convert_goes_on : (ws : List (List ℕ)) → SomeListBegins AreSomeConvertWords ws 0
convert_goes_on = goes_on IsRightAt Options words.Dataset right_some order AreSomeConvertWords to_right from_right some_words some_right

-- the words are right
pub convert_right : (ws : List (List ℕ)) → AreRightBelow IsRightAt words.Dataset 10 order ws → Options (drop 10 ws) → AreSomeConvertWords ws
convert_right = right_words IsRightAt Options words.Dataset right_some order AreSomeConvertWords to_right from_right some_words some_right

-- one of the fixed words is wrong or missing
pub convert_wrong : (ws : List (List ℕ)) (at : ℕ) → AreRightBelow IsRightAt words.Dataset at order ws → at < 10 → ¬ IsRightAt (nth words.Dataset order at) (word_at ws at) →
    Fault AreSomeConvertWords ws at
convert_wrong = wrong_word IsRightAt Options words.Dataset right_some order AreSomeConvertWords to_right from_right some_words some_right

-- one of the options is
pub convert_wrong_end : (ws : List (List ℕ)) (at : ℕ) → AreRightBelow IsRightAt words.Dataset 10 order ws → Fault Options (drop 10 ws) at → Fault AreSomeConvertWords ws (at + 10)
convert_wrong_end = wrong_end IsRightAt Options words.Dataset right_some order AreSomeConvertWords to_right from_right some_words some_right
