use Rattle.std.proofs.Common.{◌≡◌, drop}
use Rattle.bib_text.specs.Runs.{rest_after}
use Rattle.bib_findings.specs.Urls.{is_scheme_byte}
use Rattle.bib_findings.proofs.urls.after_scheme_bytes.Given as goal

-- the remaining bytes without those at their start that pass are those of all bytes
abbrev pub invariant-bytes : goal.invariant-bytes
invariant-bytes l = rest_after is_scheme_byte (drop l.index l.bytes) ≡ rest_after is_scheme_byte l.bytes
