use Rattle.std.proofs.Common.{◌≡◌, drop}
use Rattle.std.specs.Char.{is_ascii_whitespace}
use Rattle.bib_text.specs.Runs.{rest_after}
use Rattle.bib_findings.proofs.stray.after_white.Given as goal

-- the remaining bytes without those at their start that pass are those of all bytes
abbrev pub invariant-bytes : goal.invariant-bytes
invariant-bytes l = rest_after is_ascii_whitespace (drop l.index l.bytes) ≡ rest_after is_ascii_whitespace l.bytes
