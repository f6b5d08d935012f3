use Rattle.std.proofs.Common.{◌≡◌, take}
use Rattle.std.specs.Prelude.{string_bytes}
use Rattle.std.specs.List.{flat_map}
use Rattle.bib_keys.specs.Bases.{part_text}
use Rattle.bib_keys.proofs.bases.joined.Given as goal

abbrev pub invariant-parts : goal.invariant-parts
invariant-parts l = string_bytes l.out ≡ flat_map (part_text l.entry) (take l.part-index l.pattern)
