use Rattle.std.proofs.Common.{◌≡◌, ◌++◌, drop, map}
use Rattle.std.specs.List.{enumerate_from}
use Rattle.edit_changes.specs.Renames.{lone_content, lone_contents}
use Rattle.edit_changes.proofs.renames.lone_contents.Given as goal

-- the contents so far, and those of the remaining units, are all contents
abbrev pub invariant-names : goal.invariant-names
invariant-names l =
    l.contents.items ++ map (lone_content l.version l.other) (enumerate_from l.index (drop l.index l.names))
    ≡ lone_contents l.version l.other
