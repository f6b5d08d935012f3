use Rattle.std.proofs.Common.{◌≡◌, ◌++◌, map, take}
use Rattle.std.specs.List.{flat_map}
use Rattle.std.specs.String.{string_bytes}
use Rattle.bib_source.specs.Unified.{hunk_text}
use Rattle.bib_source.specs.Visible.{hunk_of}
use Rattle.bib_source.proofs.unified.with_name.Given as goal

abbrev pub invariant-hunks : goal.invariant-hunks
invariant-hunks l = string_bytes l.diff ≡ string_bytes l.initial.diff ++ flat_map hunk_text (map hunk_of (take l.hunk-index l.hunks))
