use Rattle.std.proofs.Common.{◌≡◌, rules}
use Rattle.std.proofs.lemmas.List.Elements.{same_from_all_zip}
use Rattle.bib_collections.proofs.CopyFacts.{same_copy}
use Rattle.bib_entry.proofs.EntryFacts.{same_type}
use Rattle.bib_entry.proofs.entry.EntryClone.clone.Goals as goal

pub returns : goal.returns
returns c =
    let fields : c.in_ok-fields.fields ≡ c.args.self.now.fields =
    same_copy _ (λ v w z. same_from_all_zip _ v w z (λ s t r. search rules)) _ _ c.in_ok-fields.ensures.cases in
    let type : c.in_ok-entry_type.entry_type ≡ c.args.self.now.entry_type = same_type _ _ c.in_ok-entry_type.ensures.cases in
    record { cases = λ i. record { key = c.in_ok-key.ensures.cases i; entry_type = type i; fields = fields i } }
