use Rattle.std.proofs.Common.{subst, sym}
use Rattle.std.specs.Str.{IsUtf8}
use Rattle.bib_findings.proofs.HtmlFacts.{name_is_utf8}
use Rattle.bib_findings.proofs.html.name_at.Goals as goal

pub returns-in-Err : goal.returns-in-Err
returns-in-Err c = absurd (c.in-Err.ensures.cases.0 (subst IsUtf8 (sym c.name_bytes.ensures) (name_is_utf8 c.args.bytes.now)))
