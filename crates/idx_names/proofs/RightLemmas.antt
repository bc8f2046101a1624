-- Marks from the right: the last mark takes the lowest bits, and those before it the number above them.
use Rattle.std.proofs.Common.{◌≡◌, ℕ, ◌+◌, ◌-◌, ◌*◌, ◌/◌, ◌%◌, ◌^◌, ◌<◌, ◌≤◌, false, List, [], ◌∷◌, ◌++◌, length, map, replicate, refl, sym, ap, ◌∙◌, subst, arith, append_assoc, mod-lt, length-append, Some, None}
use Rattle.std.proofs.lemmas.List.{length-replicate}
use Rattle.std.proofs.lemmas.Nat.{mod-pow-add, shr-shr, pow_pos}
use Rattle.std.proofs.Math.Nat.{div-eq_of_lt, mul-add-div_right, mul-add-mod_self_right, mod-eq_of_lt}
use Rattle.std.specs.List.{AllByRecursion}
use Rattle.std.specs.Fmt.{digit_glyph}
use Rattle.std.specs.Int.Digits.{digits_of}
use Rattle.idx_names.specs.declared.mark_kind.MarkKind.TheVariants.{File, Step}
use Rattle.idx_names.specs.declared.piece.Piece.{Piece}
use Rattle.idx_names.specs.declared.piece.Piece.TheVariants.{Byte, Mark}
use Rattle.idx_names.specs.Numeral.{numeral}
use Rattle.idx_names.specs.Pieces.{pieces_text, bits_of, mark_count, IsPiece}
use Rattle.idx_names.specs.Template.{TemplateValue, IsTemplate}
use Rattle.idx_names.specs.TimeTemplate.{TimeTemplateValue, IsTimeTemplate, folder_text, folder_name}
use Rattle.idx_names.specs.Path.{numbered, revision_mark, step_folder, file_path}
use Rattle.idx_names.proofs.PieceLemmas.{bits_of-append}
use Rattle.idx_names.proofs.ApartLemmas.{numbered_nil, numbered_byte, numbered_mark, folder_byte, folder_mark}
use Rattle.idx_names.proofs.GrammarLemmas.{IsInner}
use Rattle.idx_names.proofs.NumeralLemmas.{numeral_parts}
use Rattle.idx_names.proofs.TemplateLemmas.{made, pieces_are}
use Rattle.idx_names.proofs.TimeLemmas.{made_time}

-- pieces with no mark take no bits, and stand for themselves
no_bits : (ps : List Piece) → mark_count ps ≡ 0 → bits_of ps ≡ 0
no_bits [] none = refl
no_bits (Byte b ∷ ps) none = let rest = no_bits ps none in omega (arith, rest)
no_bits (Mark d ∷ ps) none = absurd (omega arith)

plain_numbered : (ps : List Piece) (n : ℕ) → mark_count ps ≡ 0 → numbered ps n ≡ pieces_text File ps
unfolding pieces_text
plain_numbered [] n none = numbered_nil n
plain_numbered (Byte b ∷ ps) n none = numbered_byte b ps n ∙ ap (λ t. b ∷ t) (plain_numbered ps n none)
plain_numbered (Mark d ∷ ps) n none = absurd (omega arith)

mod-none : (n : ℕ) → n % 2 ^ 0 ≡ 0
mod-none n = omega (arith, mod-lt n {m = 1} (omega arith))

-- a mark with no mark behind it takes all bits that are left
last_mark : (d : ℕ) (qs : List Piece) (n : ℕ) → mark_count qs ≡ 0 → numbered (Mark d ∷ qs) n ≡ numeral 16 d n ++ pieces_text File qs
last_mark d qs n none =
    let bits : bits_of qs ≡ 0 = no_bits qs none in
    let one : n / 2 ^ 0 ≡ n = omega arith in
    numbered_mark d qs n
    ∙ ap (λ t. numeral 16 d (n / 2 ^ bits_of qs) ++ t) (plain_numbered qs (n % 2 ^ bits_of qs) none)
    ∙ ap (λ k. numeral 16 d (n / 2 ^ k) ++ pieces_text File qs) bits
    ∙ ap (λ m. numeral 16 d m ++ pieces_text File qs) one

-- with no mark before it, the last mark takes the whole number
pub only_mark : (ps qs : List Piece) (d n : ℕ) → mark_count ps ≡ 0 → mark_count qs ≡ 0 →
    numbered (ps ++ Mark d ∷ qs) n ≡ pieces_text File ps ++ (numeral 16 d n ++ pieces_text File qs)
unfolding pieces_text
only_mark [] qs d n none plain = last_mark d qs n plain
only_mark (Byte b ∷ ps) qs d n none plain = numbered_byte b (ps ++ Mark d ∷ qs) n ∙ ap (λ t. b ∷ t) (only_mark ps qs d n none plain)
only_mark (Mark e ∷ ps) qs d n none plain = absurd (omega arith)

-- the bits of a number's low part, cut again
low_high : (n high low : ℕ) → n % 2 ^ (high + low) / 2 ^ low ≡ n / 2 ^ low % 2 ^ high
low_high n high low =
    let room : 0 < 2 ^ low = pow_pos low in
    let none : n % 2 ^ low / 2 ^ low ≡ 0 = div-eq_of_lt (mod-lt n room) in
    ap (λ m. m / 2 ^ low) (mod-pow-add n high low) ∙ mul-add-div_right room (n / 2 ^ low % 2 ^ high) (n % 2 ^ low) ∙ omega (arith, none)

low_low : (n high low : ℕ) → n % 2 ^ (high + low) % 2 ^ low ≡ n % 2 ^ low
low_low n high low =
    let room : 0 < 2 ^ low = pow_pos low in
    ap (λ m. m % 2 ^ low) (mod-pow-add n high low) ∙ mul-add-mod_self_right (n / 2 ^ low % 2 ^ high) (2 ^ low) (n % 2 ^ low)
    ∙ mod-eq_of_lt (mod-lt n room)

bits_behind : (ps qs : List Piece) (d : ℕ) → mark_count qs ≡ 0 → bits_of (ps ++ Mark d ∷ qs) ≡ bits_of ps + 4 * d
bits_behind ps qs d plain = omega (arith, bits_of-append ps (Mark d ∷ qs), no_bits qs plain)

mark_before : (e : ℕ) (ps qs : List Piece) (d n : ℕ) → mark_count qs ≡ 0 →
    numbered (ps ++ Mark d ∷ qs) (n % 2 ^ (bits_of ps + 4 * d))
    ≡ numbered ps (n % 2 ^ (bits_of ps + 4 * d) / 2 ^ (4 * d)) ++ (numeral 16 d (n % 2 ^ (bits_of ps + 4 * d) % 2 ^ (4 * d)) ++ pieces_text File qs) →
    numbered (Mark e ∷ (ps ++ Mark d ∷ qs)) n ≡ numbered (Mark e ∷ ps) (n / 2 ^ (4 * d)) ++ (numeral 16 d (n % 2 ^ (4 * d)) ++ pieces_text File qs)
mark_before e ps qs d n plain tail =
    let high : ℕ = bits_of ps in
    let low : ℕ = 4 * d in
    let text : List ℕ = pieces_text File qs in
    let sum : low + high ≡ high + low = omega arith in
    numbered_mark e (ps ++ Mark d ∷ qs) n
    ∙ ap (λ bits. numeral 16 e (n / 2 ^ bits) ++ numbered (ps ++ Mark d ∷ qs) (n % 2 ^ bits)) (bits_behind ps qs d plain)
    ∙ ap (λ t. numeral 16 e (n / 2 ^ (high + low)) ++ t) tail
    ∙ ap (λ m. numeral 16 e (n / 2 ^ (high + low)) ++ (numbered ps m ++ (numeral 16 d (n % 2 ^ (high + low) % 2 ^ low) ++ text))) (low_high n high low)
    ∙ ap (λ m. numeral 16 e (n / 2 ^ (high + low)) ++ (numbered ps (n / 2 ^ low % 2 ^ high) ++ (numeral 16 d m ++ text))) (low_low n high low)
    ∙ sym (append_assoc (numeral 16 e (n / 2 ^ (high + low))) (numbered ps (n / 2 ^ low % 2 ^ high)) (numeral 16 d (n % 2 ^ low) ++ text))
    ∙ ap (λ bits. (numeral 16 e (n / 2 ^ bits) ++ numbered ps (n / 2 ^ low % 2 ^ high)) ++ (numeral 16 d (n % 2 ^ low) ++ text)) (sym sum)
    ∙ ap (λ m. (numeral 16 e m ++ numbered ps (n / 2 ^ low % 2 ^ high)) ++ (numeral 16 d (n % 2 ^ low) ++ text)) (sym (shr-shr n low high))
    ∙ ap (λ t. t ++ (numeral 16 d (n % 2 ^ low) ++ text)) (sym (numbered_mark e ps (n / 2 ^ low)))

-- the last mark of a number that fits takes its lowest bits
small_right : (ps qs : List Piece) (d n : ℕ) → mark_count qs ≡ 0 → n < 2 ^ (bits_of ps + 4 * d) →
    numbered (ps ++ Mark d ∷ qs) n ≡ numbered ps (n / 2 ^ (4 * d)) ++ (numeral 16 d (n % 2 ^ (4 * d)) ++ pieces_text File qs)
small_right [] qs d n plain small =
    let sum : 0 + 4 * d ≡ 4 * d = omega arith in
    let low : n < 2 ^ (4 * d) = subst (λ (k : ℕ). n < 2 ^ k) sum small in
    last_mark d qs n plain ∙ ap (λ m. numeral 16 d m ++ pieces_text File qs) (sym (mod-eq_of_lt low))
    ∙ ap (λ t. t ++ (numeral 16 d (n % 2 ^ (4 * d)) ++ pieces_text File qs)) (sym (numbered_nil (n / 2 ^ (4 * d))))
small_right (Byte b ∷ ps) qs d n plain small =
    let same : bits_of (Byte b ∷ ps) ≡ bits_of ps = omega arith in
    numbered_byte b (ps ++ Mark d ∷ qs) n
    ∙ ap (λ t. b ∷ t) (small_right ps qs d n plain (subst (λ (k : ℕ). n < 2 ^ (k + 4 * d)) same small))
    ∙ ap (λ t. t ++ (numeral 16 d (n % 2 ^ (4 * d)) ++ pieces_text File qs)) (sym (numbered_byte b ps (n / 2 ^ (4 * d))))
small_right (Mark e ∷ ps) qs d n plain small =
    mark_before e ps qs d n plain (small_right ps qs d (n % 2 ^ (bits_of ps + 4 * d)) plain (mod-lt n (pow_pos (bits_of ps + 4 * d))))

-- the last of several marks takes the lowest bits
pub right_mark : (ps qs : List Piece) (d n : ℕ) → 1 ≤ mark_count ps → mark_count qs ≡ 0 →
    numbered (ps ++ Mark d ∷ qs) n ≡ numbered ps (n / 2 ^ (4 * d)) ++ (numeral 16 d (n % 2 ^ (4 * d)) ++ pieces_text File qs)
right_mark [] qs d n some plain = absurd (omega arith)
right_mark (Byte b ∷ ps) qs d n some plain =
    numbered_byte b (ps ++ Mark d ∷ qs) n ∙ ap (λ t. b ∷ t) (right_mark ps qs d n some plain)
    ∙ ap (λ t. t ++ (numeral 16 d (n % 2 ^ (4 * d)) ++ pieces_text File qs)) (sym (numbered_byte b ps (n / 2 ^ (4 * d))))
right_mark (Mark e ∷ ps) qs d n some plain =
    mark_before e ps qs d n plain (small_right ps qs d (n % 2 ^ (bits_of ps + 4 * d)) plain (mod-lt n (pow_pos (bits_of ps + 4 * d))))

-- a path has some bytes
byte_first : (b : ℕ) (t : List ℕ) → b ∷ t ≡ [] → ⊥
byte_first b t e = cc

pub some_front : (front : List ℕ) (t : List ℕ) → (t ≡ [] → ⊥) → front ++ t ≡ [] → ⊥
some_front [] t some e = some e
some_front (b ∷ front) t some e = byte_first b (front ++ t) e

some_back : (front t : List ℕ) → (front ≡ [] → ⊥) → front ++ t ≡ [] → ⊥
some_back [] t some e = some refl
some_back (b ∷ front) t some e = byte_first b (front ++ t) e

numeral_some : (b least n : ℕ) → 1 ≤ least → numeral b least n ≡ [] → ⊥
numeral_some b least n some e =
    let digits = map (digit_glyph false) (digits_of b n) in
    let none : length (replicate {A = ℕ} (least - length digits) 48 ++ digits) ≡ 0 = ap length (sym (numeral_parts b least n digits refl) ∙ e) in
    omega (arith, length-append (replicate {A = ℕ} (least - length digits) 48) digits, length-replicate {A = ℕ} (least - length digits) 48)

numbered_some : (ps : List Piece) (n : ℕ) → AllByRecursion (IsPiece File) ps → 1 ≤ mark_count ps → numbered ps n ≡ [] → ⊥
numbered_some [] n h some e = absurd (omega arith)
numbered_some (Byte b ∷ ps) n h some e = byte_first b (numbered ps n) (sym (numbered_byte b ps n) ∙ e)
numbered_some (Mark d ∷ ps) n h some e =
    some_back (numeral 16 d (n / 2 ^ bits_of ps)) (numbered ps (n % 2 ^ bits_of ps)) (numeral_some 16 d (n / 2 ^ bits_of ps) h.0.0)
    (sym (numbered_mark d ps n) ∙ e)

folder_some : (step : ℕ) (ps : List Piece) → AllByRecursion (IsInner Step) ps → mark_count ps ≡ 1 → folder_text step ps ≡ [] → ⊥
folder_some step [] h one e = absurd (omega arith)
folder_some step (Byte b ∷ ps) h one e = byte_first b (folder_text step ps) (sym (folder_byte step b ps) ∙ e)
folder_some step (Mark d ∷ ps) h one e =
    some_back (numeral 10 d step) (folder_text step ps) (numeral_some 10 d step h.0.0) (sym (folder_mark step d ps) ∙ e)

pub path_some : (t : TemplateValue) (f : ℕ) → IsTemplate t → file_path t None f ≡ [] → ⊥
unfolding file_path
path_some t f h e =
    let m = made t h in
    some_front t.above (numbered t.pieces f) (numbered_some t.pieces f (pieces_are t m) m.some) e

pub step_path_some : (t : TemplateValue) (time : TimeTemplateValue) (s r f : ℕ) → file_path t (Some (time, s, r)) f ≡ [] → ⊥
unfolding file_path
step_path_some t time s r f e = some_front (step_folder t time s r) (47 ∷ numbered t.pieces f) (byte_first 47 (numbered t.pieces f)) e

pub folder_path_some : (t : TemplateValue) (time : TimeTemplateValue) (s r : ℕ) → IsTimeTemplate time → step_folder t time s r ≡ [] → ⊥
unfolding step_folder folder_name
folder_path_some t time s r k e =
    let m = made_time time k in
    some_front t.above (folder_text s time.pieces ++ revision_mark r)
    (some_back (folder_text s time.pieces) (revision_mark r) (folder_some s time.pieces m.inner m.one)) e
