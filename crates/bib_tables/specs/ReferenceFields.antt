-- Meaning: words of public contracts.
-- Reference fields: the fields whose values list keys of other entries.
use Rattle.std.specs.Prelude.{ℕ, Bool, ◌||◌, List, codes}
use Rattle.std.specs.Str.{str_eq_ignore_ascii_case}

-- Whether the value of a field with this name lists keys of entries that its entry refers to. These are the reference fields of
-- BibLaTeX, and `set` of older files, in any ASCII case.
abbrev pub is_reference_field : List ℕ → Bool
is_reference_field name =
    str_eq_ignore_ascii_case name (codes "crossref") || str_eq_ignore_ascii_case name (codes "xdata")
    || str_eq_ignore_ascii_case name (codes "xref") || str_eq_ignore_ascii_case name (codes "related")
    || str_eq_ignore_ascii_case name (codes "entryset") || str_eq_ignore_ascii_case name (codes "set")
