use Rattle.std.proofs.Common.{◌≡◌, [], drop}
use Rattle.bib_from_ris.specs.Members.{joined_after}
use Rattle.bib_from_ris.proofs.members.joined_text.Given as goal

abbrev pub invariant-lines : goal.invariant-lines
invariant-lines l =
    joined_after l.name l.separator l.text (drop l.line-index l.lines) ≡ joined_after l.name l.separator [] l.lines
