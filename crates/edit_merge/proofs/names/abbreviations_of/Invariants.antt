use Rattle.std.proofs.Common.{◌≡◌, map, take}
use Rattle.std.specs.List.{flat_map}
use Rattle.bib_queries.specs.Names.{used_in_fields}
use Rattle.bib_queries.specs.Texts.{text_list}
use Rattle.bib_syntax.specs.Views.{entry_reading_of}
use Rattle.edit_merge.proofs.names.abbreviations_of.Given as goal

-- the abbreviations of the entries so far
abbrev pub invariant-entries : goal.invariant-entries
invariant-entries l =
    text_list l.names ≡ flat_map (λ e. used_in_fields e.fields) (map entry_reading_of (take l.entry-index l.entry-items))
