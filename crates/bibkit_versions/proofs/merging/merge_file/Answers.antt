use Rattle.std.proofs.Common.{◌≡◌, ◌∙◌, None, Some, ap, sym}
use Rattle.std.specs.Prelude.{option_map}
use Rattle.std.specs.String.{string_bytes}
use Rattle.edit_entry_merge.specs.ConflictTexts.{marker_lines}
use Rattle.edit_merge.specs.Picked.{Versions}
use Rattle.edit_merge.specs.Views.{versions_of}
use Rattle.bibkit_versions.specs.Merging.AreRenamedBy.{refused_base, refused_ours, refused_theirs, renamed}
use Rattle.bibkit_versions.specs.NewVersions.{version_or}
use Rattle.bibkit_versions.proofs.RenamingFacts.{is_merged_file, new_version_is, no_file}
use Rattle.bibkit_versions.proofs.merging.merge_file.Goals as goal

pub returns-in_default : goal.returns-in_default
returns-in_default c =
    let vs : Versions = versions_of c.args.versions in
    let none : version_or c.in_ok-base.base vs.base ≡ None = sym c.or_old.ensures ∙ ap (option_map (λ v. v.now)) c.in_default.is in
    is_merged_file c.output_of_renamed.result (λ o. string_bytes o.text) (λ o. o.has_conflict) (marker_lines c.args.markers) vs vs
    (refused_base c.in_ok-texts.ensures
    (no_file (option_map string_bytes c.in_ok-texts.texts.base) c.in_ok-base.base vs.base c.in_ok-base.ensures none))
    c.output_of_renamed.ensures

pub returns-in_default-or_old : goal.returns-in_default-or_old
returns-in_default-or_old c =
    let vs : Versions = versions_of c.args.versions in
    let none : version_or c.in_ok-ours.ours vs.ours ≡ None =
    sym c.or_old-2.ensures ∙ ap (option_map (λ v. v.now)) c.in_default-or_old.is in
    is_merged_file c.output_of_renamed-in_default-or_old.result (λ o. string_bytes o.text) (λ o. o.has_conflict)
    (marker_lines c.args.markers) vs vs
    (refused_ours c.in_ok-texts.ensures
    (no_file (option_map string_bytes c.in_ok-texts.texts.ours) c.in_ok-ours.ours vs.ours c.in_ok-ours.ensures none))
    c.output_of_renamed-in_default-or_old.ensures

pub returns-in_default-or_old-2 : goal.returns-in_default-or_old-2
returns-in_default-or_old-2 c =
    let vs : Versions = versions_of c.args.versions in
    let none : version_or c.in_ok-theirs.theirs vs.theirs ≡ None =
    sym c.or_old-3.ensures ∙ ap (option_map (λ v. v.now)) c.in_default-or_old-2.is in
    is_merged_file c.output_of_renamed-in_default-or_old-2.result (λ o. string_bytes o.text) (λ o. o.has_conflict)
    (marker_lines c.args.markers) vs vs
    (refused_theirs c.in_ok-texts.ensures
    (no_file (option_map string_bytes c.in_ok-texts.texts.theirs) c.in_ok-theirs.theirs vs.theirs c.in_ok-theirs.ensures none))
    c.output_of_renamed-in_default-or_old-2.ensures

pub returns : goal.returns
returns c =
    let vs : Versions = versions_of c.args.versions in
    let new : Versions =
    record { base = c.in-Some.base.now; ours = c.in-Some-or_old.ours.now; theirs = c.in-Some-or_old-2.theirs.now } in
    let base : version_or c.in_ok-base.base vs.base ≡ Some new.base = sym c.or_old.ensures ∙ ap (option_map (λ v. v.now)) c.in-Some.is in
    let ours : version_or c.in_ok-ours.ours vs.ours ≡ Some new.ours =
    sym c.or_old-2.ensures ∙ ap (option_map (λ v. v.now)) c.in-Some-or_old.is in
    let theirs : version_or c.in_ok-theirs.theirs vs.theirs ≡ Some new.theirs =
    sym c.or_old-3.ensures ∙ ap (option_map (λ v. v.now)) c.in-Some-or_old-2.is in
    is_merged_file c.output_of_versions.result (λ o. string_bytes o.text) (λ o. o.has_conflict) (marker_lines c.args.markers) vs new
    (renamed c.in_ok-texts.ensures
    (new_version_is (option_map string_bytes c.in_ok-texts.texts.base) c.in_ok-base.base vs.base new.base c.in_ok-base.ensures base)
    (new_version_is (option_map string_bytes c.in_ok-texts.texts.ours) c.in_ok-ours.ours vs.ours new.ours c.in_ok-ours.ensures ours)
    (new_version_is (option_map string_bytes c.in_ok-texts.texts.theirs) c.in_ok-theirs.theirs vs.theirs new.theirs c.in_ok-theirs.ensures
    theirs))
    c.output_of_versions.ensures
