use Rattle.std.proofs.Common.{◌≡◌, ◌==◌, map, take}
use Rattle.std.specs.List.{flat_map, slice_split}
use Rattle.bib_text.specs.Characters as char
use Rattle.bib_from_ris.proofs.lines.text_lines.Given as goal

abbrev pub invariant-parts : goal.invariant-parts
invariant-parts l =
    map (λ line. line.now) l.lines.items
    ≡ flat_map (slice_split (λ b. b == char.carriage_return)) (map (λ part. part.now) (take l.part-index l.part-items))
