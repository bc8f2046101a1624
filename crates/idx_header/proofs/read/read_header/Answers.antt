use Rattle.std.proofs.Common.{◌≡◌, List, ℕ, Ok, length, sym, ap, ◌∙◌}
use Rattle.idx_text.specs.Lines.{lines}
use Rattle.idx_text.specs.Sections.{sections}
use Rattle.idx_header.specs.Faults.{first_of}
use Rattle.idx_header.specs.HeaderOf.{text_faults, key_faults, value_faults, faults_of, header_in, header_of, unless}
use Rattle.idx_header.proofs.FaultLemmas.{passed, stopped, handed_on, ok_maps, err_maps}
use Rattle.idx_header.proofs.read.read_header.Goals as goal

pub returns-in_err-document-clause-fault : goal.returns-in_err-document-clause-fault
unfolding header_of faults_of
returns-in_err-document-clause-fault c =
    handed_on c.from_residual.result c.in_err-document.field-0.0 _ c.from_residual.ensures.1
    (λ k. ap (λ f. unless f (header_in (sections c.args.text.now)))
    (stopped (text_faults c.args.text.now) _ c.in_err-document.field-0.0 (c.in_err-document.ensures.fault k)))

pub returns-in_err-check_keys-clause-fault : goal.returns-in_err-check_keys-clause-fault
unfolding header_of faults_of
returns-in_err-check_keys-clause-fault c =
    let text : List ℕ = c.args.text.now in
    let d = c.in_ok-document.ensures in
    let here = ap (λ n. first_of (key_faults n (sections text))) (sym d.lines)
    ∙ ap (λ ss. first_of (key_faults c.in_ok-document.document.lines ss)) (sym d.sections) ∙ c.in_err-check_keys.ensures.err in
    handed_on c.from_residual-in_err-check_keys.result c.in_err-check_keys.field-0.0 _ c.from_residual-in_err-check_keys.ensures.1
    (λ k. ap (λ f. unless f (header_in (sections text)))
    (passed (text_faults text) _ d.ok ∙ stopped (key_faults (length (lines text)) (sections text)) _ c.in_err-check_keys.field-0.0 here))

module _ (c : goal.After-drop-document-2) where
  -- where the text and its keys have no fault, the values tell
  behind_keys : first_of (faults_of c.args.text.now) ≡ first_of (value_faults (sections c.args.text.now))
  unfolding faults_of
  behind_keys =
      let text : List ℕ = c.args.text.now in
      let d = c.in_ok-document.ensures in
      let keys = ap (λ n. first_of (key_faults n (sections text))) (sym d.lines)
      ∙ ap (λ ss. first_of (key_faults c.in_ok-document.document.lines ss)) (sym d.sections) ∙ c.in_ok-check_keys.ensures.ok in
      passed (text_faults text) _ d.ok ∙ passed (key_faults (length (lines text)) (sections text)) _ keys

  read_from : c.deref.result.now ≡ sections c.args.text.now
  read_from = c.deref.ensures.value ∙ c.in_ok-document.ensures.sections

pub returns-clause-ok : goal.returns-clause-ok
unfolding header_of
returns-clause-ok c =
    let text : List ℕ = c.args.text.now in
    ok_maps c.read_values.result _ _
    (λ h is. ap (λ f. unless f (header_in (sections text))) (behind_keys c ∙ ap (λ ss. first_of (value_faults ss)) (sym (read_from c)) ∙ is.0)
    ∙ ap Ok (ap header_in (sym (read_from c)) ∙ sym is.1))
    c.read_values.ensures.ok

pub returns-clause-fault : goal.returns-clause-fault
unfolding header_of
returns-clause-fault c =
    let text : List ℕ = c.args.text.now in
    err_maps c.read_values.result _ _
    (λ f is k. ap (λ g. unless g (header_in (sections text))) (behind_keys c ∙ ap (λ ss. first_of (value_faults ss)) (sym (read_from c)) ∙ is k))
    c.read_values.ensures.fault
