use Rattle.std.proofs.Common.{◌≡◌, ◌-◌, length}
use Rattle.std.specs.Str.{chars, IsUtf8}
use Rattle.bib_chunks.specs.Settling.{text_atoms, Continues}
use Rattle.bib_text.proofs.TextFacts.{ahead}
use Rattle.bib_chunks.proofs.settling.after_text.Given as goal

-- after the atoms of `before`, the text continues in the same way as its unread part does after `last`, the atom before this part
abbrev pub invariant-text : goal.invariant-text
invariant-text l =
    (l.scanner.text ≡ l.text)
    × IsUtf8 (ahead l.scanner)
    × Continues l.fn.before (text_atoms l.is_braced (chars l.text)) l.last (text_atoms l.is_braced (chars (ahead l.scanner)))

abbrev pub decreases-text : goal.decreases-text
decreases-text l = length l.scanner.text - l.scanner.at
