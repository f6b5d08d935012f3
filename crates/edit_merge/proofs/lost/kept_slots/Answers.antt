use Rattle.std.proofs.Common.{◌≡◌, ◌∙◌, IfOk, ap, map, subst}
use Rattle.std.specs.Prelude.{option_map}
use Rattle.std.specs.String.{string_bytes}
use Rattle.edit_merge.specs.Lost.{kept_slot, lost_at}
use Rattle.edit_merge.specs.Picked.{Versions}
use Rattle.edit_merge.specs.Views.{versions_of}
use Rattle.edit_merge.proofs.NameSetFacts.{kept_same, lost_same_names}
use Rattle.edit_merge.proofs.lost.kept_slots.Goals as goal

pub returns-clause-slots : goal.returns-clause-slots
returns-clause-slots c =
    let vs : Versions = versions_of c.args.versions in
    let originals : Versions = versions_of c.args.originals in
    subst (λ l. IfOk c.kept_places.result (λ kept. kept.slots.items ≡ l))
    (kept_same vs originals c.in_ok-names.names c.args.slots.now c.in_ok-names.ensures ∙ ap (map (kept_slot vs originals)) c.requires)
    c.kept_places.ensures.slots

pub returns-clause-lost : goal.returns-clause-lost
returns-clause-lost c =
    let vs : Versions = versions_of c.args.versions in
    let originals : Versions = versions_of c.args.originals in
    subst (λ l. IfOk c.kept_places.result (λ kept. map (option_map string_bytes) kept.lost.items ≡ l))
    (lost_same_names vs originals c.in_ok-names.names c.args.slots.now c.in_ok-names.ensures ∙ ap (map (lost_at vs originals)) c.requires)
    c.kept_places.ensures.lost
