use Rattle.std.proofs.Common.{◌≡◌, map, take}
use Rattle.std.specs.List.{list_all, list_any}
use Rattle.bib_findings.specs.StandardNumbers.{is_numeric, is_wrong_part}
use Rattle.bib_findings.proofs.standard_numbers.has_wrong_among.Given as goal

-- whether the first parts are numeric, and whether one of them is wrong
abbrev pub invariant-parts : goal.invariant-parts
invariant-parts l = record {
  numeric : l.are_numeric ≡ list_all is_numeric (map (λ part. part.now) (take l.part-index l.parts));
  wrong : l.has_wrong ≡ list_any (is_wrong_part l.is_serial) (map (λ part. part.now) (take l.part-index l.parts));
}
