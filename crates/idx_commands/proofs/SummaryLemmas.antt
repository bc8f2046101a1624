-- One more piece of a list that is written piece by piece.
use Rattle.std.proofs.Common.{◌≡◌, ℕ, ◌+◌, ◌<◌, List, [], ◌∷◌, ◌++◌, length, take, get_or, map, ap, sym, ◌∙◌, add-one, append_assoc}
use Rattle.std.proofs.Math.Seq.{take-suc}
use Rattle.std.proofs.lemmas.List.{append-nil, get_or-map}
use Rattle.std.specs.List.{flat_map}
use Rattle.std.proofs.lemmas.Grind.{flat_map-append}

pub flat_map_more : {X A : Type 0} (f : X → List A) (xs : List X) (i : ℕ) (d : X) → i < length xs →
    flat_map f (take (i + 1) xs) ≡ flat_map f (take i xs) ++ f (get_or xs i d)
flat_map_more f xs i d h =
    ap (flat_map f) (ap (λ n. take n xs) (add-one i) ∙ take-suc xs i d h)
    ∙ flat_map-append f (take i xs) (get_or xs i d ∷ [])
    ∙ ap (λ more. flat_map f (take i xs) ++ more) (append-nil (f (get_or xs i d)))

-- the same of a box, whose ends are given by themselves
ends_more : (f : ℕ × ℕ → List ℕ) (box : List (ℕ × ℕ)) (i : ℕ) → i < length box →
    flat_map f (take (i + 1) box)
    ≡ flat_map f (take i box) ++ f (get_or (map (λ b. b.0) box) i 0, get_or (map (λ b. b.1) box) i 0)
ends_more f box i h =
    let lo = get_or-map (λ (b : ℕ × ℕ). b.0) box i (0, 0) 0 h in
    let hi = get_or-map (λ (b : ℕ × ℕ). b.1) box i (0, 0) 0 h in
    flat_map_more f box i (0, 0) h ∙ ap (λ (e : ℕ × ℕ). flat_map f (take i box) ++ f e) (λ j. (sym lo j, sym hi j))

pub axis_more : (f : ℕ × ℕ → List ℕ) (box : List (ℕ × ℕ)) (i : ℕ) (start out new lows highs : List ℕ) (lo hi : ℕ) →
    i < length box → lows ≡ map (λ b. b.0) box → highs ≡ map (λ b. b.1) box →
    lo ≡ get_or lows i 0 → hi ≡ get_or highs i 0 → out ≡ start ++ flat_map f (take i box) → new ≡ out ++ f (lo, hi) →
    new ≡ start ++ flat_map f (take (i + 1) box)
axis_more f box i start out new lows highs lo hi within all_lo all_hi at_lo at_hi was more =
    let l = at_lo ∙ ap (λ (v : List ℕ). get_or v i 0) all_lo in
    let h = at_hi ∙ ap (λ (v : List ℕ). get_or v i 0) all_hi in
    more ∙ ap (λ (o : List ℕ). o ++ f (lo, hi)) was ∙ append_assoc start (flat_map f (take i box)) (f (lo, hi))
    ∙ ap (λ (v : List ℕ). start ++ v)
    (ap (λ (e : ℕ × ℕ). flat_map f (take i box) ++ f e) (λ j. (l j, h j)) ∙ sym (ends_more f box i within))

-- two lines of numbers, one behind the other
pub two_lines : (f g : ℕ → List ℕ) (m n first second : ℕ) (old out new : List ℕ) → first ≡ m → second ≡ n →
    out ≡ old ++ f first → new ≡ out ++ g second → new ≡ old ++ (f m ++ g n)
two_lines f g m n first second old out new is_m is_n one two =
    two ∙ ap (λ (o : List ℕ). o ++ g second) one ∙ append_assoc old (f first) (g second)
    ∙ (λ j. old ++ (f (is_m j) ++ g (is_n j)))
