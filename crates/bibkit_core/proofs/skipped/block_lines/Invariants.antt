use Rattle.std.proofs.Common.{◌≡◌, take}
use Rattle.std.specs.String.{string_bytes}
use Rattle.bibkit_core.specs.Skipped.{block_lines}
use Rattle.bibkit_core.proofs.skipped.block_lines.Given as goal

abbrev pub invariant-found : goal.invariant-found
invariant-found l = record {
  same : l.positions ≡ l.text;
  lines : string_bytes l.lines ≡ block_lines l.name l.text (take l.finding-index l.found);
}
