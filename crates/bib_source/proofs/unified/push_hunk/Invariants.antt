use Rattle.std.proofs.Common.{◌≡◌, ◌++◌, take}
use Rattle.std.specs.List.{flat_map}
use Rattle.std.specs.String.{string_bytes}
use Rattle.bib_source.specs.Unified.{diff_line, hunk_header}
use Rattle.bib_source.specs.Visible.{hunk_of}
use Rattle.bib_source.proofs.unified.push_hunk.Given as goal

abbrev pub invariant-lines : goal.invariant-lines
invariant-lines l =
    string_bytes l.diff
    ≡ string_bytes l.fn.diff
    ++ (hunk_header (hunk_of l.fn.hunk) ++ flat_map diff_line (take l.line-index l.fn.hunk.lines.now))
