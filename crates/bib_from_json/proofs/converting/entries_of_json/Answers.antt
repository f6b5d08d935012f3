use Rattle.std.proofs.Common.{◌≡◌, ◌∙◌, ap, subst, sym, arith, true, false}
use Rattle.std.proofs.lemmas.Grind.{common_steps}
use Rattle.std.specs.Prelude.{is_some}
use Rattle.biblatex.specs.Headline.{IsBibliographyOf}
use Rattle.bib_from_json.specs.FromJson.{IsEntriesRefusal}
use Rattle.bib_from_json.specs.WrittenSources.{entries_source}
use Rattle.bib_from_json.proofs.ConvertingFacts.{made, unread_entries, unread_refused, other_entries, are_same, not_same}
use Rattle.bib_from_json.proofs.converting.entries_of_json.Goals as goal

pub returns-in-Err-parse-clause-refused : goal.returns-in-Err-parse-clause-refused
returns-in-Err-parse-clause-refused c =
    let of = sym c.in_ok-given.ensures ∙ c.in-Ok.is in
    let is = c.as_str.ensures ∙ (c.in_ok-text.ensures ∙ ap entries_source c.as_slice.ensures) in
    unread_refused c.args.json.now c.in_ok-unread-in-Err-parse.field-0 c.in_ok-unread-in-Err-parse.ensures
    (unread_entries c.args.json.now c.as_str.result.now c.in-Ok.given c.in-Err-parse.error of is
    c.in_ok-unless_out_of_memory-in-Err-parse.ensures.ok c.in-Err-parse.ensures.refused)

pub returns-in-Some-clause-refused : goal.returns-in-Some-clause-refused
returns-in-Some-clause-refused c =
    let of = sym c.in_ok-given.ensures ∙ c.in-Ok.is in
    let is = c.as_str.ensures ∙ (c.in_ok-text.ensures ∙ ap entries_source c.as_slice.ensures) in
    let some : is_some c.in_ok-fault.fault ≡ true = grind (arith, common_steps, c.in-Some.is) in
    IsEntriesRefusal.not_writable c.in_ok-refused_at.ensures.2
    (other_entries c.args.json.now c.as_str.result.now c.in-Ok.given c.in-Ok-parse.bibliography of is c.in-Ok-parse.ensures.loaded
    (not_same c.in_ok-fault.fault c.in-Ok.given c.as_slice-2.result.now c.in-Ok-parse.bibliography.entries c.as_slice-3.result.now
    some c.in_ok-fault.ensures c.as_slice-2.ensures (c.as_slice-3.ensures.value ∙ c.into_vec-entries.ensures)))

pub returns-clause-made : goal.returns-clause-made
returns-clause-made c =
    let of = sym c.in_ok-given.ensures ∙ c.in-Ok.is in
    let is = c.in_ok-text.ensures ∙ ap entries_source c.as_slice.ensures in
    let none : is_some c.in_ok-fault.fault ≡ false = grind (arith, common_steps, c.in_default.is) in
    made c.args.json.now c.in_ok-text.text c.in-Ok.given c.in-Ok-parse.bibliography c.new-losses.result of is
    (subst (λ t. IsBibliographyOf t c.in-Ok-parse.bibliography) c.as_str.ensures c.in-Ok-parse.ensures.loaded)
    (are_same c.in_ok-fault.fault c.in-Ok.given c.as_slice-2.result.now c.in-Ok-parse.bibliography.entries c.as_slice-3.result.now
    none c.in_ok-fault.ensures c.as_slice-2.ensures (c.as_slice-3.ensures.value ∙ c.into_vec-entries.ensures))
    c.new-losses.ensures
