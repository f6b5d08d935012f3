use Rattle.std.proofs.Common.{◌≡◌, ◌≤◌, nat_eq, take}
use Rattle.std.specs.Prelude.{count_by}
use Rattle.bib_text.specs.Characters as char
use Rattle.bib_findings.proofs.people.comma_count.Given as goal

abbrev pub invariant-bytes : goal.invariant-bytes
invariant-bytes l = record {
  counted : l.count ≡ count_by (nat_eq char.comma) (take l.byte-index l.name);
  within : l.count ≤ l.byte-index;
}
