use Rattle.std.proofs.Common.{◌≡◌, ◌+◌, ◌-◌, ◌≤◌, ◌++◌, ℕ, List, drop, get_or, ap, ◌∙◌, sym, subst, arith, append-nil, append_assoc}
use Rattle.idx_names.specs.declared.piece.Piece.{Piece}
use Rattle.idx_names.specs.declared.piece.Piece.TheVariants.{Byte}
use Rattle.idx_names.specs.Pieces.{bits_of}
use Rattle.idx_names.specs.Path.{file_piece, numbered}
use Rattle.idx_names.specs.Template.{TemplateValue}
use Rattle.idx_names.proofs.PathLemmas.{bits_at, numbered_at, numbered_end}
use Rattle.idx_names.proofs.TemplateLemmas.{made, few_bits}
use Rattle.idx_names.proofs.path.append_numbered.Goals as goal

pub bits_of-bits-requires : goal.bits_of-bits-requires
bits_of-bits-requires c =
    let t : TemplateValue = c.args.template.now in
    subst (λ (ps : List Piece). bits_of ps ≤ 160) (sym c.pieces-pieces.ensures.same) (few_bits t (made t c.pieces-pieces.ensures.valid))

pub loop-piece-preserved : goal.loop-piece-preserved
loop-piece-preserved c =
    let xs : List Piece = c.pieces-pieces.result.now in
    let i : ℕ = c.loop-piece.piece-index in
    let here = bits_at xs i (Byte 0) c.loop-piece-test.true in
    let bits : c.loop-piece.bits - c.bits-bits.result ≡ bits_of (drop (i + 1) xs) = omega (arith, here, c.bits-bits.ensures, c.loop-piece.invariant.bits) in
    let whole = numbered_at xs i (Byte 0) c.loop-piece-test.true c.loop-piece.left (c.loop-piece.bits - c.bits-bits.result)
    c.high_bits.result c.bits_left-left.result bits c.high_bits.ensures c.bits_left-left.ensures in
    record {
      path = ap (λ t. t ++ numbered (drop (i + 1) xs) c.bits_left-left.result) c.in_ok-append_file_piece.ensures
          ∙ append_assoc c.loop-piece.path (file_piece (get_or xs i (Byte 0)) c.high_bits.result) (numbered (drop (i + 1) xs) c.bits_left-left.result)
          ∙ ap (λ t. c.loop-piece.path ++ t) whole ∙ c.loop-piece.invariant.path;
      bits = bits;
      same = c.loop-piece.invariant.same;
    }

pub returns : goal.returns
returns c =
    let end = numbered_end c.pieces-pieces.result.now c.loop-piece.piece-index c.loop-piece.left c.loop-piece-test.false in
    sym (append-nil c.loop-piece.path) ∙ ap (λ t. c.loop-piece.path ++ t) (sym end) ∙ c.loop-piece.invariant.path
