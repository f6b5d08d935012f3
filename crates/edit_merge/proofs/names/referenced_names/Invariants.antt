use Rattle.std.proofs.Common.{◌≡◌, map, take}
use Rattle.std.specs.List.{flat_map}
use Rattle.bib_queries.specs.Names.{references_of}
use Rattle.bib_queries.specs.Texts.{text_list}
use Rattle.bib_syntax.specs.Views.{entry_reading_of}
use Rattle.edit_merge.proofs.names.referenced_names.Given as goal

-- the names in the reference fields of the entries so far
abbrev pub invariant-entries : goal.invariant-entries
invariant-entries l =
    text_list l.names ≡ flat_map (λ e. references_of e.fields) (map entry_reading_of (take l.entry-index l.entries))
