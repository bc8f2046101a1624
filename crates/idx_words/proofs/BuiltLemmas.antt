-- The header text that the words of `convert` ask for.
use Rattle.std.proofs.Common.{◌≡◌, ℕ, List, [], ◌∷◌, ◌++◌, codes, refl, sym, ap, ◌∙◌, append_assoc, inl, inr}
use Rattle.idx_hz.specs.Guess.{guessed_mask}
use Rattle.idx_hz.specs.MaskText.{mask_text}
use Rattle.idx_text.specs.Entries.{entry_text}
use Rattle.idx_header.specs.declared.key.Key.TheVariants as keys
use Rattle.idx_header.specs.Written.{entry}
use Rattle.idx_words.specs.ConvertValue.{ConvertValue}
use Rattle.idx_words.specs.Built.{built_with, IsBits, IsBuilt}
use Rattle.idx_words.proofs.BoxLemmas.{spelled-once}

bits_once : (c : ConvertValue) (a b : List ℕ) → IsBits c a → IsBits c b → a ≡ b
bits_once c a b (inl one) (inl other) = one.1 ∙ sym other.1
bits_once c a b (inl one) (inr (inl other)) = absurd (one.0 other.0)
bits_once c a b (inl one) (inr (inr other)) = absurd (one.0 other.0)
bits_once c a b (inr (inl one)) (inl other) = absurd (other.0 one.0)
bits_once c a b (inr (inl (auto, (box, (guesses, is))))) (inr (inl (auto', (box', (guesses', is'))))) =
    is ∙ ap (λ (r : List (ℕ × ℕ)). mask_text (guessed_mask r)) (spelled-once c.extent box box' guesses.spelled guesses'.spelled) ∙ sym is'
bits_once c a b (inr (inl (auto, (box, (guesses, is))))) (inr (inr other)) = absurd (other.1 box guesses)
bits_once c a b (inr (inr one)) (inl other) = absurd (other.0 one.0)
bits_once c a b (inr (inr one)) (inr (inl (auto, (box, (guesses, is))))) = absurd (one.1 box guesses)
bits_once c a b (inr (inr one)) (inr (inr other)) = one.2 ∙ sym other.2

-- the words ask for one text
pub IsBuilt-once : (c : ConvertValue) (a b : List ℕ) → IsBuilt c a → IsBuilt c b → a ≡ b
IsBuilt-once c a b one other = one.with_bits ∙ ap (built_with c) (bits_once c one.bits other.bits one.are other.are) ∙ sym other.with_bits

-- the keys with their values make the text
pub built_keys : (c : ConvertValue) (bits one two three four five six seven eight : List ℕ) →
    one ≡ entry_text (entry keys.Version (codes "6" ∷ [])) →
    two ≡ one ++ entry_text (entry keys.Box (c.extent ∷ [])) →
    three ≡ two ++ entry_text (entry keys.Fields (c.fields ∷ [])) →
    four ≡ three ++ entry_text (entry keys.Bits (bits ∷ [])) →
    five ≡ four ++ entry_text (entry keys.BitsPerBlock (c.bits ∷ [])) →
    six ≡ five ++ entry_text (entry keys.BlocksPerFile (c.per_file ∷ [])) →
    seven ≡ six ++ entry_text (entry keys.FilenameTemplate (c.template ∷ [])) →
    eight ≡ seven ++ entry_text (entry keys.Time (c.time ∷ [])) →
    eight ≡ built_with c bits
unfolding built_with
built_keys c bits one two three four five six seven eight is-one is-two is-three is-four is-five is-six is-seven is-eight =
    rw is-eight (rw is-seven (rw is-six (rw is-five (rw is-four (rw is-three (rw is-two (rw is-one (simp append_assoc refl))))))))
