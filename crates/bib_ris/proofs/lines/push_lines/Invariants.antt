use Rattle.std.proofs.Common.{◌≡◌, ◌++◌, map, take}
use Rattle.std.specs.String.{string_bytes}
use Rattle.bib_ris.specs.Lines.{ris_lines}
use Rattle.bib_ris.proofs.lines.push_lines.Given as goal

abbrev pub invariant-texts : goal.invariant-texts
invariant-texts l =
    string_bytes l.out
    ≡ string_bytes l.initial.out ++ ris_lines l.tag (map (λ t. string_bytes t) (take l.text-index l.texts))
