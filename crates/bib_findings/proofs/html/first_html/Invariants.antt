use Rattle.std.proofs.Common.{◌≡◌, drop}
use Rattle.bib_findings.specs.Html.{first_html}
use Rattle.bib_findings.specs.declared.special_characters.Zone.TheVariants.{InText}
use Rattle.bib_findings.proofs.html.first_html.Given as goal

-- the first tag or character reference of the remaining bytes, which begin in this zone, is that of all bytes
abbrev pub invariant-bytes : goal.invariant-bytes
invariant-bytes l = first_html l.zone (drop l.index l.bytes) ≡ first_html InText l.bytes
