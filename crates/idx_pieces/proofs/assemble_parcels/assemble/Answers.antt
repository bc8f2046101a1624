use Rattle.std.proofs.Common.{◌≡◌, None, ap, ◌∙◌, arith, length, rules}
use Rattle.std.proofs.lemmas.Grind.{common_steps}
use Rattle.idx_pieces.specs.Joined.{joined_parcels}
use Rattle.idx_pieces.specs.Refusals.{why_not}
use Rattle.idx_pieces.proofs.AssembleLemmas.{axes_of_piece, one_holds, parcels_hold}
use Rattle.idx_pieces.proofs.assemble_parcels.assemble.Goals as goal

pub joined-requires-clause-axes : goal.joined-requires-clause-axes
joined-requires-clause-axes c = axes_of_piece c.args.header.now c.args.piece c.requires.piece

pub returns-in-Ok-clause-samples : goal.returns-in-Ok-clause-samples
returns-in-Ok-clause-samples c sample are holds =
    let h = c.args.header.now in
    let none : why_not h c.args.piece c.args.parcels.items ≡ None = first_of (search rules, grind (arith, common_steps)) in
    c.in-Ok.ensures.bytes
    ∙ ap (joined_parcels h c.args.piece) c.as_slice-2.ensures.value
    ∙ parcels_hold h c.args.piece c.args.parcels.items sample c.in-Ok.ensures.valid c.requires.piece none are holds

pub returns-then-len-eq1-clause-samples : goal.returns-then-len-eq1-clause-samples
returns-then-len-eq1-clause-samples c sample are holds =
    let h = c.args.header.now in
    let none : why_not h c.args.piece c.args.parcels.items ≡ None = first_of (search rules, grind (arith, common_steps)) in
    let one : length c.args.parcels.items ≡ 1 = omega arith in
    one_holds h c.args.piece c.args.parcels.items c.bytes_of_one-bytes.result sample c.axes.ensures.valid c.requires.piece none one c.bytes_of_one-bytes.ensures holds
