use Rattle.std.proofs.Common.{sym}
use Rattle.bib_text.proofs.EnumFacts.{named_none}
use Rattle.bib_inheritance.specs.Inherited.{book_titles}
use Rattle.bib_inheritance.proofs.offers.book_title.Goals as goal

pub returns-in_default : goal.returns-in_default
returns-in_default c =
    sym
    (named_none book_titles c.args.name.now
    (c.in_default.not-booktitle, (c.in_default.not-booksubtitle, (c.in_default.not-booktitleaddon, tt))))
