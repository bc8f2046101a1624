-- The answer of a plan whose blocks are copied.
use Rattle.std.proofs.Common.{◌≡◌, ℕ, ◌-◌, ◌*◌, ◌/◌, ◌%◌, ◌^◌, ◌<◌, ◌≤◌, Bool, List, [], ◌∷◌, ◌++◌, length, map, take, drop, Some, None, refl, sym, ap, ◌∙◌, subst, zero-add, arith}
use Rattle.std.specs.Prelude.{All, Contains, IfSome, Option, slice_index}
use Rattle.std.proofs.lemmas.List.{get_or-map, length-map}
use Rattle.std.proofs.lemmas.List.FromFn.{get_or-map-range_with_len, length-map-range_with_len}
use Rattle.std.proofs.Math.Nat.{mul_comm}
use Rattle.idx_outside.specs.Shape.{Shape}
use Rattle.idx_fields.specs.Field.{field_at, sample_bytes}
use Rattle.idx_hall.specs.declared.key.Key.{Key}
use Rattle.idx_header.specs.Header.{HeaderValue, sample_bytes_of}
use Rattle.idx_header.specs.Header.{block_bytes as header_block_bytes}
use Rattle.idx_hz.specs.Address.{hz_address}
use Rattle.idx_layout.specs.Content.{sample_in}
use Rattle.idx_layout.specs.Placing.{block_bytes}
use Rattle.idx_layout.specs.OfHeader.{placing_of}
use Rattle.idx_layout.proofs.HeaderLemmas.{same_bytes}
use Rattle.idx_scatter.specs.Asked.{Asked}
use Rattle.idx_scatter.specs.Scatter.{sample_of}
use Rattle.idx_plan.specs.Answer.{answer_of}
use Rattle.idx_plan.specs.Needed.{answer_bytes, key_of, needed, needed_keys, plan_fault}
use Rattle.idx_plan.specs.Plan.{PlanValue, asked_of}
use Rattle.idx_plan.specs.declared.ask.Ask.{Ask}
use Rattle.idx_plan.proofs.AnswerLemmas.{copied, needed-block}
use Rattle.idx_layout.specs.Shape.{shape_of}
use Rattle.idx_query.specs.Blocks.{AreCopied, IsPlanOf, blocks_of, lacking}
use Rattle.idx_query.proofs.CopyLemmas.{KnownCopied}

-- ---- what a plan says, by its question

abbrev plan_of : HeaderValue → Ask → ℕ → PlanValue
plan_of h ask samples = record {
  samples = samples;
  bytes = answer_bytes h ask;
  keys = needed_keys h ask;
  asked = asked_of h ask;
  bits = h.block_bits;
  size = sample_bytes_of h ask.field;
}

same_plan : (h : HeaderValue) (ask : Ask) (plan : PlanValue) → IsPlanOf h ask plan → plan ≡ plan_of h ask plan.samples
same_plan h ask plan of = λ i. record {
  samples = plan.samples;
  bytes = of.bytes i;
  keys = of.keys i;
  asked = of.asked i;
  bits = of.bits i;
  size = of.size i;
}

pub blocks-key_of : (ask : Ask) (blocks : List ℕ) → blocks_of (map (key_of ask) blocks) ≡ blocks
blocks-key_of ask [] = refl
blocks-key_of ask (block ∷ blocks) = ap (λ t. block ∷ t) (blocks-key_of ask blocks)

pub plan_blocks : (h : HeaderValue) (ask : Ask) (plan : PlanValue) → IsPlanOf h ask plan → blocks_of plan.keys ≡ needed h ask
plan_blocks h ask plan of = ap blocks_of of.keys ∙ blocks-key_of ask (needed h ask)

pub plan_count : (h : HeaderValue) (ask : Ask) (plan : PlanValue) → IsPlanOf h ask plan → length plan.keys ≡ length (needed h ask)
plan_count h ask plan of = sym (length-map plan.keys (λ (key : Key). key.block)) ∙ ap length (plan_blocks h ask plan of)

pub plan_lacking : (h : HeaderValue) (ask : Ask) (plan : PlanValue) (has : ℕ → Bool) → IsPlanOf h ask plan → lacking has (blocks_of plan.keys) ≡ lacking has (needed h ask)
plan_lacking h ask plan has of = ap (lacking has) (plan_blocks h ask plan of)

-- ---- what copying asks for

pub has_field : (h : HeaderValue) (shape : Shape) (field : ℕ) → shape ≡ shape_of h → field < length h.fields → field < length shape.lengths
has_field h shape field is within =
    let count : length shape.lengths ≡ length h.fields =
    ap (λ (s : Shape). length s.lengths) is
    ∙ length-map-range_with_len (block_bytes (placing_of h)) 0 (length (placing_of h).sizes)
    ∙ length-map h.fields sample_bytes in
    omega (arith, count, within)

pub field_length : (h : HeaderValue) (shape : Shape) (field : ℕ) → shape ≡ shape_of h → field < length h.fields → slice_index shape.lengths field ≡ header_block_bytes h field
field_length h shape field is within =
    ap (λ (s : Shape). slice_index s.lengths field) is
    ∙ get_or-map-range_with_len (block_bytes (placing_of h)) 0 (length (placing_of h).sizes) field field 0 (omega (arith, within, length-map h.fields sample_bytes)) (zero-add field)
    ∙ same_bytes h field within

pub plan_length : (h : HeaderValue) (ask : Ask) (plan : PlanValue) → IsPlanOf h ask plan → header_block_bytes h ask.field ≡ plan.size * 2 ^ plan.bits
plan_length h ask plan of = sym (λ i. of.size i * 2 ^ of.bits i)

pub keys_exist : (h : HeaderValue) (ask : Ask) (plan : PlanValue) (shape : Shape) → shape ≡ shape_of h → IsPlanOf h ask plan → All (λ (key : Key). key.block < 2 ^ (length plan.asked.mask - plan.bits)) plan.keys → All (λ (key : Key). key.block < shape.blocks) plan.keys
keys_exist h ask plan shape is of exist =
    let count : 2 ^ (length plan.asked.mask - plan.bits) ≡ shape.blocks =
    (λ i. 2 ^ (length (of.asked i).mask - of.bits i)) ∙ sym (ap (λ (s : Shape). s.blocks) is) in
    subst (λ (n : ℕ). All (λ (key : Key). key.block < n) plan.keys) count exist

-- ---- the answer

sample-in : (h : HeaderValue) (field : ℕ) (stored : ℕ → ℕ → List ℕ) (p : List ℕ) → field < length h.fields → sample_in (placing_of h) stored field p ≡ sample_of (sample_bytes_of h field) (stored field (hz_address h.mask p / 2 ^ h.block_bits)) (hz_address h.mask p % 2 ^ h.block_bits)
sample-in h field stored p within =
    let bytes : List ℕ = stored field (hz_address h.mask p / 2 ^ h.block_bits) in
    let place : ℕ = hz_address h.mask p % 2 ^ h.block_bits in
    let size : slice_index (placing_of h).sizes field ≡ sample_bytes_of h field = get_or-map sample_bytes h.fields field (field_at [] 0) 0 within in
    ap (λ n. take n (drop (n * place) bytes)) size
    ∙ ap (λ n. take (sample_bytes_of h field) (drop n bytes)) (mul_comm (sample_bytes_of h field) place)

pub answer-is : (known : Option (ℕ → ℕ → List ℕ)) (h : HeaderValue) (ask : Ask) (plan : PlanValue) (out : List ℕ) → ask.field < length h.fields → length ask.region ≡ length h.box → plan_fault h ask ≡ None → plan.bits ≤ length plan.asked.mask → IsPlanOf h ask plan →
    length out ≡ plan.bytes → KnownCopied known plan ask.field (blocks_of plan.keys) out → IfSome known (λ stored. out ≡ answer_of h ask stored)
answer-is None h ask plan out field axes sound within of whole made = tt
answer-is (Some stored) h ask plan out field axes sound within of whole made =
    let each : AreCopied (plan_of h ask plan.samples) (stored ask.field) (blocks_of (needed_keys h ask)) out =
    subst (λ (q : PlanValue). AreCopied q (stored ask.field) (blocks_of q.keys) out) (same_plan h ask plan of) made in
    let few : h.block_bits ≤ length h.mask = omega (arith, within, of.bits, ap (λ (a : Asked). length a.mask) of.asked) in
    copied h ask stored out axes sound (whole ∙ of.bytes)
    (λ place p at.
    each place p at
    (subst (λ (bs : List ℕ). Contains bs (hz_address h.mask p / 2 ^ h.block_bits)) (sym (blocks-key_of ask (needed h ask))) (needed-block h ask place p few at))
    ∙ sym (sample-in h ask.field stored p field))

-- behind what was there
pub appended : (known : Option (ℕ → ℕ → List ℕ)) (h : HeaderValue) (ask : Ask) (old out new : List ℕ) → IfSome known (λ stored. out ≡ answer_of h ask stored) → new ≡ old ++ out → IfSome known (λ stored. new ≡ old ++ answer_of h ask stored)
appended None h ask old out new answer is = tt
appended (Some stored) h ask old out new answer is = is ∙ ap (λ t. old ++ t) answer
