use Rattle.std.proofs.Common.{◌≡◌, ◌++◌, take}
use Rattle.std.specs.List.{flat_map}
use Rattle.std.specs.String.{string_bytes}
use Rattle.bib_queries.specs.Unread.{unread_line}
use Rattle.bib_queries.proofs.unread.print_all_unread.Given as goal

abbrev pub invariant-spans : goal.invariant-spans
invariant-spans l =
    string_bytes l.printed ≡ string_bytes l.initial.printed ++ flat_map (unread_line l.line_end l.text) (take l.block-index l.skipped)
