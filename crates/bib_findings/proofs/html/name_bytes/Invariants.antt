use Rattle.std.proofs.Common.{◌≡◌, ◌++◌, drop, take}
use Rattle.std.specs.List.{take_while}
use Rattle.bib_findings.specs.Html.{is_html_name_byte}
use Rattle.bib_findings.proofs.html.name_bytes.Given as goal

-- the first bytes, followed by those at the start of the remaining bytes that may occur in a name, are those at the start of all bytes
abbrev pub invariant-bytes : goal.invariant-bytes
invariant-bytes l = take l.index l.bytes ++ take_while is_html_name_byte (drop l.index l.bytes) ≡ take_while is_html_name_byte l.bytes
