use Rattle.std.proofs.Common.{◌≡◌, ◌∙◌, ap, false, sym, true}
use Rattle.std.specs.List.{list_any}
use Rattle.std.specs.String.{string_bytes}
use Rattle.edit_merge.proofs.EntryFacts.{none_found, some_found}
use Rattle.edit_merge.specs.Entries.{are_all_different}
use Rattle.edit_merge.specs.Picked.{Versions, slots}
use Rattle.edit_entry_merge.specs.ConflictTexts.{marker_lines}
use Rattle.edit_merge.specs.Views.{versions_of}
use Rattle.bibkit_versions.specs.Merging.{is_changed_twice}
use Rattle.bibkit_versions.specs.Merging.AreMergedBy.{refused, unneeded}
use Rattle.bibkit_versions.proofs.MergeFacts.{is_merge, kept_changed}
use Rattle.bibkit_versions.proofs.merging.output_of_renamed.Goals as goal

pub returns-then-not-is_changed_twice : goal.returns-then-not-is_changed_twice
returns-then-not-is_changed_twice c =
    let vs : Versions = versions_of c.args.versions in
    let places =
    ap (list_any (are_all_different vs)) (c.deref.ensures.value ∙ c.in_ok-merged.ensures.slots) ∙ kept_changed vs (slots vs) in
    let none : is_changed_twice vs ≡ false = sym (c.is_changed_twice.ensures ∙ places) ∙ c.if-not-is_changed_twice.true in
    is_merge c.output_of.result (λ o. string_bytes o.text) (λ o. o.has_conflict) (marker_lines c.args.markers) vs (unneeded none)
    c.in_ok-merged.ensures.text c.in_ok-merged.ensures.slots c.output_of.ensures.text c.output_of.ensures.conflict

pub returns-in-Some : goal.returns-in-Some
returns-in-Some c =
    let vs : Versions = versions_of c.args.versions in
    let places =
    ap (list_any (are_all_different vs)) (c.deref.ensures.value ∙ c.in_ok-merged.ensures.slots) ∙ kept_changed vs (slots vs) in
    let changed : is_changed_twice vs ≡ true = sym (c.is_changed_twice.ensures ∙ places) ∙ c.if-not-is_changed_twice.false in
    some_found _ _ c.in-Some.is (c.in_ok-output.ensures changed)

pub returns-in-None : goal.returns-in-None
returns-in-None c =
    let vs : Versions = versions_of c.args.versions in
    let places =
    ap (list_any (are_all_different vs)) (c.deref.ensures.value ∙ c.in_ok-merged.ensures.slots) ∙ kept_changed vs (slots vs) in
    let changed : is_changed_twice vs ≡ true = sym (c.is_changed_twice.ensures ∙ places) ∙ c.if-not-is_changed_twice.false in
    is_merge c.output_of-in-None.result (λ o. string_bytes o.text) (λ o. o.has_conflict) (marker_lines c.args.markers) vs
    (refused changed (none_found _ c.in-None.is (c.in_ok-output.ensures changed))) c.in_ok-merged.ensures.text
    c.in_ok-merged.ensures.slots c.output_of-in-None.ensures.text c.output_of-in-None.ensures.conflict
