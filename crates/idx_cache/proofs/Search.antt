-- What a search finds among rising keys, and what an edit at that place does, for any total order.
use Rattle.std.proofs.Common.{◌≡◌, ℕ, zero, suc, ◌+◌, ◌-◌, ◌<◌, ◌≤◌, Bool, true, false, cond, List, [], ◌∷◌, length, get_or, Some, None, Result, Ok, Err, IfOk, IfErr, refl, sym, ap, ◌∙◌, subst, arith, inl, inr}
use Rattle.std.specs.List.{insert, remove, IsDistinct}
use Rattle.std.specs.List.Sorted.{IsSearchInRange, IsBinarySearchResult, IsNonDecreasingBy}
use Rattle.std.specs.Map.{lookup, remove_entry, keys_of}
use Rattle.std.specs.declared.cmp.Ordering.{Ordering}
use Rattle.std.specs.declared.cmp.Ordering.TheVariants.{Less, Equal, Greater}
use Rattle.std.specs.Ordering.{ordering_index, ordering_reverse, eq_by_cmp, is_eq}
use Rattle.std.specs.Cmp.{IsEquivalence, IsTotalOrder}
use Rattle.std.proofs.lemmas.Bool.{cases_lt}
use Rattle.std.proofs.lemmas.Map.{lookup-remove_entry}
use Rattle.std.proofs.lemmas.Map.Keys.{IsDistinct-from_apart}
use Rattle.std.proofs.lemmas.List.{length-map}
use Rattle.std.proofs.lemmas.List.Edits.{length-insert, get_or-insert_below, get_or-insert_at, get_or-insert_above}
use Rattle.idx_cache.specs.Indexed.{key_at, IsRising, IsAt, IsGapFor}

module _ {K : Type 0} {R : K → K → Ordering} {E : K → K → Bool} (o : IsTotalOrder R) (laws : IsEquivalence E) (ties : (x y : K) → E x y ≡ eq_by_cmp R x y) where
  flip_less : (x y : K) → R x y ≡ Less → R y x ≡ Greater
  flip_less x y h = o.antisymm y x ∙ ap ordering_reverse h

  flip_greater : (x y : K) → R x y ≡ Greater → R y x ≡ Less
  flip_greater x y h = o.antisymm y x ∙ ap ordering_reverse h

  rise : (x y k : K) → R x y ≡ Less → ordering_index (R x k) ≤ ordering_index (R y k)
  rise x y k less = by (R x k) refl
    where
      by : (c : Ordering) → R x k ≡ c → ordering_index (R x k) ≤ ordering_index (R y k)
      by Less e = omega (arith, ap ordering_index e)
      by Equal e = omega (arith, ap ordering_index e, ap ordering_index (flip_less k y (sym (o.congr x k y e) ∙ less)))
      by Greater e = omega (arith, ap ordering_index e, ap ordering_index (flip_less k y (o.trans k x y (flip_greater x k e) less)))

  other : (k x : K) (c : Ordering) → R x k ≡ c → is_eq c ≡ false → E k x ≡ false
  other k x c e n = laws.symm k x ∙ ties x k ∙ ap is_eq e ∙ n

  abbrev NoKeyBefore : List (K × ℕ) → K → ℕ → Type 0
  NoKeyBefore l k i = (j : ℕ) (d : K × ℕ) → j < i → E k (key_at l j d) ≡ false

  lookup_absent : (l : List (K × ℕ)) (k : K) → NoKeyBefore l k (length l) → lookup (E k) l ≡ None
  lookup_absent [] k gone = refl
  lookup_absent (x ∷ l) k gone = rw (gone 0 x (omega arith)) (lookup_absent l k (λ j d lt. gone (suc j) d (omega arith)))

  lookup_present : (l : List (K × ℕ)) (k : K) (i : ℕ) (d : K × ℕ) → i < length l → E k (key_at l i d) ≡ true → NoKeyBefore l k i → lookup (E k) l ≡ Some (get_or l i d).1
  lookup_present [] k i d lt is gone = absurd (omega arith)
  lookup_present (x ∷ l) k zero d lt is gone = rw is refl
  lookup_present (x ∷ l) k (suc i) d lt is gone = rw (gone 0 x (omega arith)) (lookup_present l k i d (omega arith) is (λ j d lt. gone (suc j) d (omega arith)))

  remove_is : (l : List (K × ℕ)) (k : K) (i : ℕ) (d : K × ℕ) → i < length l → E k (key_at l i d) ≡ true → NoKeyBefore l k i → remove l i ≡ remove_entry (E k) l
  remove_is [] k i d lt is gone = absurd (omega arith)
  remove_is (x ∷ l) k zero d lt is gone = rw is refl
  remove_is (x ∷ l) k (suc i) d lt is gone = rw (gone 0 x (omega arith)) (ap (λ u. x ∷ u) (remove_is l k i d (omega arith) is (λ j d lt. gone (suc j) d (omega arith))))

  key_at-map : (l : List (K × ℕ)) (i : ℕ) (d : K) → i < length l → get_or (keys_of l) i d ≡ key_at l i (d, 0)
  key_at-map [] i d lt = absurd (omega arith)
  key_at-map (x ∷ l) zero d lt = refl
  key_at-map (x ∷ l) (suc i) d lt = key_at-map l i d (omega arith)

  module _ (l : List (K × ℕ)) (sorted : IsRising R l) where
    comparisons_rise : (k : K) → IsNonDecreasingBy (λ pair. ordering_index (R pair.0 k)) l
    comparisons_rise k i j d le lt = elim (cases_lt i j) [
      | inl less ↦ rise (key_at l i d) (key_at l j d) k (sorted i j d less lt)
      | inr more ↦ (let e : i ≡ j = omega arith in subst (λ m. ordering_index (R (key_at l i d) k) ≤ ordering_index (R (key_at l m d) k)) e (omega arith))
    ]

    pub searched : (k : K) (r : Result ℕ ℕ) → IsSearchInRange r (length l) → IsBinarySearchResult (λ pair. R pair.0 k) l r → IfOk r (IsAt R l k) × IfErr r (IsGapFor R l k)
    searched k (Ok at) in_range equal = (record { in_range = in_range; has_key = equal }, tt)
    searched k (Err at) in_range parted = (
      tt,
      record {
        in_range = in_range;
        smaller_before = λ j d lt. (parted (comparisons_rise k)).0 j d (omega arith) lt;
        greater_after = λ j d le lt. (parted (comparisons_rise k)).1 j d le lt;
      },
    )

    pub rising_apart : IsDistinct E (keys_of l)
    rising_apart = IsDistinct-from_apart E (keys_of l) (λ i j d lt in_range.
        let n : length (keys_of l) ≡ length l = length-map l (λ e. e.0) in
        rw (key_at-map l i d (omega arith), key_at-map l j d (omega arith)) (ties _ _ ∙ ap is_eq (sorted i j (d, 0) lt (omega arith))))

    module _ (k : K) (at : ℕ) (is_at : IsAt R l k at) where
      same_key : (d : K × ℕ) → E k (key_at l at d) ≡ true
      same_key d = laws.symm k (key_at l at d) ∙ ties (key_at l at d) k ∙ ap is_eq (is_at.has_key d)

      none_before : NoKeyBefore l k at
      none_before j d lt = laws.congr k (key_at l at d) (key_at l j d) (same_key d) ∙ other (key_at l at d) (key_at l j d) Less (sorted j at d lt is_at.in_range) refl

      pub lookup_at : (d : K × ℕ) → lookup (E k) l ≡ Some (get_or l at d).1
      lookup_at d = lookup_present l k at d is_at.in_range (same_key d) none_before

      pub lookup_remove : (d : K × ℕ) (q : K) → lookup (E q) (remove l at) ≡ cond (E k q) None (lookup (E q) l)
      lookup_remove d q = rw (remove_is l k at d is_at.in_range (same_key d) none_before) (lookup-remove_entry laws (E k) (λ x y e. laws.congr k x y e) q l rising_apart)

  module _ (l : List (K × ℕ)) (k : K) (at : ℕ) (gap : IsGapFor R l k at) where
    pub lookup_in_gap : lookup (E k) l ≡ None
    lookup_in_gap = lookup_absent l k (λ j d lt. elim (cases_lt j at) [
      | inl less ↦ other k (key_at l j d) Less (gap.smaller_before j d less) refl
      | inr more ↦ other k (key_at l j d) Greater (gap.greater_after j d more lt) refl
    ])

    pub rising_insert : (v : ℕ) → IsRising R l → IsRising R (insert l at (k, v))
    rising_insert v sorted i j d lt in_range =
        let new = insert l at (k, v) in
        let key = λ (x : K × ℕ). x.0 in
        let length_new = length-insert l at (k, v) gap.in_range in
        let key_below : (i : ℕ) → i < at → key_at new i d ≡ key_at l i d = λ i below. ap key (get_or-insert_below l at (k, v) d i below gap.in_range) in
        let key_here : (i : ℕ) → i ≡ at → key_at new i d ≡ k = λ i here. rw here (ap key (get_or-insert_at l at (k, v) d gap.in_range)) in
        let key_above : (i : ℕ) → at < i → key_at new i d ≡ key_at l (i - 1) d = λ i above. subst (λ q. key_at new q d ≡ key_at l (i - 1) d) {x = i - 1 + 1} (omega arith) (ap key (get_or-insert_above l at (k, v) d (i - 1) (omega arith) gap.in_range)) in
        elim (cases_lt j at) [
          | inl j_below ↦ rw (key_below i (omega arith), key_below j j_below) (sorted i j d lt (omega (arith, gap.in_range)))
          | inr j_from ↦ elim (cases_lt at j) [
            | inr j_here ↦ rw (key_below i (omega arith), key_here j (omega arith)) (gap.smaller_before i d (omega arith))
            | inl j_above ↦ elim (cases_lt i at) [
              | inl i_below ↦ rw (key_below i i_below, key_above j j_above) (sorted i (j - 1) d (omega arith) (omega arith))
              | inr i_from ↦ elim (cases_lt at i) [
                | inr i_here ↦ rw (key_here i (omega arith), key_above j j_above) (flip_greater (key_at l (j - 1) d) k (gap.greater_after (j - 1) d (omega arith) (omega arith)))
                | inl i_above ↦ rw (key_above i i_above, key_above j j_above) (sorted (i - 1) (j - 1) d (omega arith) (omega arith))
              ]
            ]
          ]
        ]
