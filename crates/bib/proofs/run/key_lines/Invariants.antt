use Rattle.std.proofs.Common.{◌≡◌, take, map}
use Rattle.std.specs.List.{flat_map}
use Rattle.std.specs.String.{string_bytes}
use Rattle.biblatex.specs.Syntax.{entry_reading_of}
use Rattle.bib.specs.Output.{line}
use Rattle.bib.proofs.run.key_lines.Given as goal

abbrev pub invariant-entries : goal.invariant-entries
invariant-entries l = string_bytes l.text ≡ flat_map (λ e. line e.key.text) (map entry_reading_of (take l.entry-index l.entry-items))
