use Rattle.std.proofs.Common.{◌≡◌, map, take}
use Rattle.std.specs.BTreeSet.{contains_text}
use Rattle.std.specs.List.{filter}
use Rattle.bib_queries.specs.Texts.{text_list}
use Rattle.edit_resolve.specs.Uninherited.{is_lacking}
use Rattle.edit_resolve.specs.Working.{named_of}
use Rattle.edit_resolve.proofs.uninherited.lacking_names.Given as goal

abbrev pub invariant-fields : goal.invariant-fields
invariant-fields l =
    text_list l.names
    ≡ map (λ n. n.name)
    (filter (is_lacking l.link l.parent l.child.entry_type.now (contains_text l.child.names)) (map named_of (take l.field-index l.fields)))
