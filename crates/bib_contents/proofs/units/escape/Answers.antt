use Rattle.std.proofs.Common.{rules}
use Rattle.bib_contents.specs.ContentErrors.{UnitFails}
use Rattle.bib_contents.specs.Progress.{left}
use Rattle.bib_contents.proofs.CommandUnitFacts.{no_escape}
use Rattle.bib_contents.proofs.units.escape.Goals as goal

pub returns-in_default : goal.returns-in_default
returns-in_default c = record {
  same = search rules;
  found = no_escape (left c.args.s.now) c.args.is_verbatim c.in_default.ensures c.if-is_verbatim.false;
  fails = λ some. rw (c.in_default.ensures, c.if-is_verbatim.false) UnitFails.backslash;
  inside = search rules;
}
