-- An index from keys to slot numbers: its entries in key order, and how many it has room for.
use Rattle.std.specs.Prelude.{◌≡◌, ℕ, ◌<◌, ◌≤◌, List, length, slice_index_or}
use Rattle.std.specs.declared.cmp.Ordering.{Ordering}
use Rattle.std.specs.declared.cmp.Ordering.TheVariants.{Less, Equal, Greater}

pub record Indexed (K : Type 0) : Type 0 where
  pub entries : List (K × ℕ)
  pub room : ℕ

module _ {K : Type 0} where
  abbrev pub indexed : List (K × ℕ) → ℕ → Indexed K
  indexed es n = record { entries = es; room = n }

  abbrev pub key_at : List (K × ℕ) → ℕ → K × ℕ → K
  key_at l i d = let e = slice_index_or l i d in e.0

  module _ (R : K → K → Ordering) where
    -- the keys rise
    abbrev pub IsRising : List (K × ℕ) → Type 0
    IsRising l = (i j : ℕ) (d : K × ℕ) → i < j → j < length l → R (key_at l i d) (key_at l j d) ≡ Less

    pub record IsAt (l : List (K × ℕ)) (key : K) (i : ℕ) : Type 0 where
      pub in_range : i < length l
      pub has_key : (d : K × ℕ) → R (key_at l i d) key ≡ Equal

    pub record IsGapFor (l : List (K × ℕ)) (key : K) (i : ℕ) : Type 0 where
      pub in_range : i ≤ length l
      pub smaller_before : (j : ℕ) (d : K × ℕ) → j < i → R (key_at l j d) key ≡ Less
      pub greater_after : (j : ℕ) (d : K × ℕ) → i ≤ j → j < length l → R (key_at l j d) key ≡ Greater
