use Rattle.std.proofs.Common.{◌≡◌, ◌<◌, ap, arith, length, sym, ◌∙◌, Some, true, false}
use Rattle.std.proofs.lemmas.List.{length-map}
use Rattle.bib_tables.specs.Requirements.{is_container}
use Rattle.edit_resolve.specs.Parents.{entry_index, type_of}
use Rattle.edit_resolve.specs.Working.{readings}
use Rattle.edit_resolve.proofs.FileFacts.{container_found, entry_within, type_found}
use Rattle.edit_resolve.proofs.file.File.container_index.Goals as goal

pub index-requires : goal.index-requires
index-requires c =
    let es = readings c.args.self.now in
    let found : entry_index es c.args.name.now ≡ Some c.in_ok-index.index = sym c.entry_index.ensures ∙ c.in_ok-index.was in
    omega (arith, entry_within es c.args.name.now c.in_ok-index.index found, ap length c.requires.types, length-map es type_of)

pub returns-then-is_container : goal.returns-then-is_container
returns-then-is_container c =
    let es = readings c.args.self.now in
    let found : entry_index es c.args.name.now ≡ Some c.in_ok-index.index = sym c.entry_index.ensures ∙ c.in_ok-index.was in
    let within : c.in_ok-index.index < length es = entry_within es c.args.name.now c.in_ok-index.index found in
    container_found es (entry_index es c.args.name.now) c.in_ok-index.index true found
    (ap is_container (sym (type_found es c.args.self.now.types.items c.in_ok-index.index c.index.result.now c.requires.types within
    c.index.ensures)) ∙ sym c.is_container.ensures ∙ c.if-is_container.true)

pub returns-else-is_container : goal.returns-else-is_container
returns-else-is_container c =
    let es = readings c.args.self.now in
    let found : entry_index es c.args.name.now ≡ Some c.in_ok-index.index = sym c.entry_index.ensures ∙ c.in_ok-index.was in
    let within : c.in_ok-index.index < length es = entry_within es c.args.name.now c.in_ok-index.index found in
    container_found es (entry_index es c.args.name.now) c.in_ok-index.index false found
    (ap is_container (sym (type_found es c.args.self.now.types.items c.in_ok-index.index c.index.result.now c.requires.types within
    c.index.ensures)) ∙ sym c.is_container.ensures ∙ c.if-is_container.false)
