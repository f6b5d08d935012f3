use Rattle.std.proofs.Common.{◌≡◌, ◌++◌, take}
use Rattle.std.specs.List.{flat_map}
use Rattle.std.specs.String.{string_bytes}
use Rattle.biblatex.specs.Syntax.{texts}
use Rattle.bib.specs.Output.{field_line}
use Rattle.bib.proofs.reports.push_names.Given as goal

abbrev pub invariant-names : goal.invariant-names
invariant-names l =
    string_bytes l.text
    ≡ string_bytes l.initial.text ++ flat_map (field_line l.key l.wrong) (texts (take l.name-index l.names))
