use Rattle.std.proofs.Common.{◌≡◌, ◌++◌, List, None, arith, refl, ap, ◌∙◌, subst}
use Rattle.idx_text.specs.declared.section.Section.{Section}
use Rattle.idx_names.specs.Template.{Fits}
use Rattle.idx_header.specs.Faults.{first_of, last_file_number}
use Rattle.idx_header.specs.HeaderOf.{version_faults, box_faults, fields_faults, block_bits_faults, per_file_faults, template_faults, time_faults, value_faults, header_in}
use Rattle.idx_header.proofs.BoundLemmas.{block_bits, blocks_per_file}
use Rattle.idx_header.proofs.FaultLemmas.{passed, stopped, handed_on}
use Rattle.idx_header.proofs.read.read_values.Goals as goal

-- the faults behind those that have passed
module _ (ss : List Section) (version : first_of (version_faults ss) ≡ None) (box : first_of (box_faults ss) ≡ None) (fields : first_of (fields_faults ss) ≡ None) where
  behind_fields : first_of (value_faults ss) ≡ first_of (block_bits_faults ss ++ (per_file_faults ss ++ (template_faults ss ++ time_faults ss)))
  behind_fields = passed (version_faults ss) _ version ∙ (passed (box_faults ss) _ box ∙ passed (fields_faults ss) _ fields)

  behind_bits : first_of (block_bits_faults ss) ≡ None → first_of (value_faults ss) ≡ first_of (per_file_faults ss ++ (template_faults ss ++ time_faults ss))
  behind_bits bits = behind_fields ∙ passed (block_bits_faults ss) _ bits

  behind_blocks : first_of (block_bits_faults ss) ≡ None → first_of (per_file_faults ss) ≡ None → first_of (value_faults ss) ≡ first_of (template_faults ss ++ time_faults ss)
  behind_blocks bits blocks = behind_bits bits ∙ passed (per_file_faults ss) _ blocks

  behind_template : first_of (block_bits_faults ss) ≡ None → first_of (per_file_faults ss) ≡ None → first_of (template_faults ss) ≡ None →
      first_of (value_faults ss) ≡ first_of (time_faults ss)
  behind_template bits blocks template = behind_blocks bits blocks ∙ passed (template_faults ss) _ template

pub returns-in_err-check_version-clause-fault : goal.returns-in_err-check_version-clause-fault
returns-in_err-check_version-clause-fault c =
    handed_on c.from_residual.result c.in_err-check_version.field-0.0 _ c.from_residual.ensures.1
    (λ k. stopped (version_faults c.args.sections.now) _ c.in_err-check_version.field-0.0 c.in_err-check_version.ensures.err)

pub returns-in_err-space-clause-fault : goal.returns-in_err-space-clause-fault
returns-in_err-space-clause-fault c =
    let ss : List Section = c.args.sections.now in
    handed_on c.from_residual-in_err-space.result c.in_err-space.field-0.0 _ c.from_residual-in_err-space.ensures.1
    (λ k. passed (version_faults ss) _ c.in_ok-check_version.ensures.ok
    ∙ stopped (box_faults ss) _ c.in_err-space.field-0.0 c.in_err-space.ensures.err)

pub returns-in_err-fields-clause-fault : goal.returns-in_err-fields-clause-fault
returns-in_err-fields-clause-fault c =
    let ss : List Section = c.args.sections.now in
    handed_on c.from_residual-in_err-fields.result c.in_err-fields.field-0.0 _ c.from_residual-in_err-fields.ensures.1
    (λ k. passed (version_faults ss) _ c.in_ok-check_version.ensures.ok ∙ passed (box_faults ss) _ c.in_ok-space.ensures.ok.0
    ∙ stopped (fields_faults ss) _ c.in_err-fields.field-0.0 (c.in_err-fields.ensures.err k))

pub returns-in_err-block_bits-clause-fault : goal.returns-in_err-block_bits-clause-fault
returns-in_err-block_bits-clause-fault c =
    let ss : List Section = c.args.sections.now in
    handed_on c.from_residual-in_err-block_bits.result c.in_err-block_bits.field-0.0 _ c.from_residual-in_err-block_bits.ensures.1
    (λ k. behind_fields ss c.in_ok-check_version.ensures.ok c.in_ok-space.ensures.ok.0 c.in_ok-fields.ensures.ok.0
    ∙ stopped (block_bits_faults ss) _ c.in_err-block_bits.field-0.0 c.in_err-block_bits.ensures.err)

pub returns-in_err-blocks_per_file-clause-fault : goal.returns-in_err-blocks_per_file-clause-fault
returns-in_err-blocks_per_file-clause-fault c =
    let ss : List Section = c.args.sections.now in
    handed_on c.from_residual-in_err-blocks_per_file.result c.in_err-blocks_per_file.field-0.0 _ c.from_residual-in_err-blocks_per_file.ensures.1
    (λ k. behind_bits ss c.in_ok-check_version.ensures.ok c.in_ok-space.ensures.ok.0 c.in_ok-fields.ensures.ok.0 c.in_ok-block_bits.ensures.ok.0
    ∙ stopped (per_file_faults ss) _ c.in_err-blocks_per_file.field-0.0 c.in_err-blocks_per_file.ensures.err)

pub returns-in_err-template-clause-fault : goal.returns-in_err-template-clause-fault
returns-in_err-template-clause-fault c =
    let ss : List Section = c.args.sections.now in
    handed_on c.from_residual-in_err-template.result c.in_err-template.field-0.0 _ c.from_residual-in_err-template.ensures.1
    (λ k. behind_blocks ss c.in_ok-check_version.ensures.ok c.in_ok-space.ensures.ok.0 c.in_ok-fields.ensures.ok.0 c.in_ok-block_bits.ensures.ok.0
    c.in_ok-blocks_per_file.ensures.ok.0
    ∙ stopped (template_faults ss) _ c.in_err-template.field-0.0 (c.in_err-template.ensures.err k))

pub returns-in_err-steps-clause-fault : goal.returns-in_err-steps-clause-fault
returns-in_err-steps-clause-fault c =
    let ss : List Section = c.args.sections.now in
    handed_on c.from_residual-in_err-steps.result c.in_err-steps.field-0.0 _ c.from_residual-in_err-steps.ensures.1
    (λ k. behind_template ss c.in_ok-check_version.ensures.ok c.in_ok-space.ensures.ok.0 c.in_ok-fields.ensures.ok.0 c.in_ok-block_bits.ensures.ok.0
    c.in_ok-blocks_per_file.ensures.ok.0 c.in_ok-template.ensures.ok.0
    ∙ c.in_err-steps.ensures.err k)

pub invariant_of-result : goal.invariant_of-result
invariant_of-result c =
    let bits = block_bits _ _ _ c.in_ok-block_bits.ensures.ok.2 in
    let blocks = blocks_per_file _ _ c.in_ok-blocks_per_file.ensures.ok.2 in
    record {
      region = c.in_ok-space.ensures.region;
      mask = c.in_ok-space.ensures.mask;
      covered = c.in_ok-space.ensures.covered;
      whole = c.in_ok-space.ensures.whole;
      fields = c.in_ok-fields.ensures.valid;
      texts = c.in_ok-fields.ensures.texts;
      bits_some = bits.some;
      bits_few = bits.few;
      bits_within = bits.within;
      bits_most = bits.most;
      small_blocks = bits.small;
      blocks_some = blocks.some;
      blocks_few = blocks.few;
      small_table = blocks.small;
      template = c.in_ok-template.ensures.valid;
      fits = subst (Fits c.in_ok-template.template)
          (c.last_file_of-last_file.ensures ∙ ap (λ n. last_file_number n c.in_ok-block_bits.block_bits c.in_ok-blocks_per_file.blocks_per_file) c.len.ensures.count)
          c.in_ok-template.ensures.ok.2;
      steps = c.in_ok-steps.ensures.valid;
      unknown = c.in_ok-unknown.ensures.valid;
      revision_few = omega arith;
      unrevised = λ e. refl;
    }

pub returns-clause-ok : goal.returns-clause-ok
unfolding header_in
returns-clause-ok c =
    let ss : List Section = c.args.sections.now in (
      behind_template ss c.in_ok-check_version.ensures.ok c.in_ok-space.ensures.ok.0 c.in_ok-fields.ensures.ok.0 c.in_ok-block_bits.ensures.ok.0
          c.in_ok-blocks_per_file.ensures.ok.0 c.in_ok-template.ensures.ok.0 ∙ c.in_ok-steps.ensures.ok.0,
      λ i. record {
        box = c.in_ok-space.ensures.ok.2 i;
        mask = c.in_ok-space.ensures.ok.1 i;
        fields = c.in_ok-fields.ensures.ok.1 i;
        block_bits = c.in_ok-block_bits.ensures.ok.1 i;
        blocks_per_file = c.in_ok-blocks_per_file.ensures.ok.1 i;
        template = c.in_ok-template.ensures.ok.1 i;
        steps = c.in_ok-steps.ensures.ok.1 i;
        unknown = c.in_ok-unknown.ensures.value i;
        revision = 0;
      },
    )

pub returns-clause-valid : goal.returns-clause-valid
returns-clause-valid c = invariant_of-result c
