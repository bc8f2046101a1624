use Rattle.std.proofs.Common.{◌≡◌, ℕ, Option, eqb-true, sym, ap, ◌∙◌, subst}
use Rattle.std.specs.Prelude.{◌==◌, IsSome, position}
use Rattle.std.proofs.lemmas.List.Quantifiers.{position-Some}
use Rattle.idx_pieces.specs.declared.shipment.Shipment.{Shipment}
use Rattle.idx_core_deliver.proofs.FileLemmas.{place_found}
use Rattle.idx_core_deliver.proofs.shipping.for_file.Goals as goal

pub unwrap-place-requires : goal.unwrap-place-requires
unwrap-place-requires c =
    let place : c.place_of.result ≡ position (λ s. s.file == c.args.file) c.args.shipments.items =
    c.place_of.ensures ∙ ap (position (λ (s : Shipment). s.file == c.args.file)) c.deref.ensures.value in
    subst (λ (place : Option ℕ). IsSome place) (sym place) (place_found c.args.file c.args.shipments.items c.requires)

pub returns-clause-file : goal.returns-clause-file
returns-clause-file c =
    let place : c.place_of.result ≡ position (λ s. s.file == c.args.file) c.args.shipments.items =
    c.place_of.ensures ∙ ap (position (λ (s : Shipment). s.file == c.args.file)) c.deref.ensures.value in
    let first = position-Some (λ (s : Shipment). s.file == c.args.file) c.args.shipments.items c.unwrap-place.result c.swap_remove.result (sym place ∙ c.unwrap-place.ensures) in
    eqb-true c.swap_remove.result.file c.args.file (ap (λ (s : Shipment). s.file == c.args.file) c.swap_remove.ensures.value ∙ first.1)
