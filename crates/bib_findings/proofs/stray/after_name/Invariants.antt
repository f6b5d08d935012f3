use Rattle.std.proofs.Common.{◌≡◌, drop}
use Rattle.bib_text.specs.Runs.{rest_after}
use Rattle.bib_findings.specs.Stray.{is_field_name_byte}
use Rattle.bib_findings.proofs.stray.after_name.Given as goal

-- the remaining bytes without those at their start that pass are those of all bytes
abbrev pub invariant-bytes : goal.invariant-bytes
invariant-bytes l = rest_after is_field_name_byte (drop l.index l.bytes) ≡ rest_after is_field_name_byte l.bytes
