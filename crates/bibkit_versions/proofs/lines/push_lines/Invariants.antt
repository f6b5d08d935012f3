use Rattle.std.proofs.Common.{◌≡◌, ◌++◌, drop}
use Rattle.std.specs.List.{flat_map}
use Rattle.std.specs.String.{string_bytes}
use Rattle.bibkit_versions.specs.Lines.{change_line}
use Rattle.bibkit_versions.proofs.lines.push_lines.Given as goal

-- the lines so far, and those of the remaining changes, are the old lines and those of all changes
abbrev pub invariant-changes : goal.invariant-changes
invariant-changes l =
    string_bytes l.lines ++ flat_map (change_line l.old l.new) (drop l.change-index l.changes)
    ≡ string_bytes l.initial.lines ++ flat_map (change_line l.old l.new) l.changes
