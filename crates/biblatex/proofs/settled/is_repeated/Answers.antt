use Rattle.std.proofs.Common.{◌+◌, ap, ◌∙◌}
use Rattle.std.specs.Prelude.{bytes_eq}
use Rattle.std.specs.List.{list_any}
use Rattle.bib_text.proofs.ListFacts.{take_to_end}
use Rattle.biblatex.proofs.DistinctFacts.{found_before, found_after}
use Rattle.biblatex.proofs.settled.is_repeated.Goals as goal

pub returns-then-is_key_among : goal.returns-then-is_key_among
returns-then-is_key_among c =
    found_before c.args.entries.now c.args.index c.index-entries-index.result c.is_key_among.result c.requires c.index-entries-index.is
    (rw (c.as_str-key.ensures, ← c.index-entries-index.is) at c.is_key_among.ensures) c.if-is_key_among.true

pub returns-else-is_key_among : goal.returns-else-is_key_among
returns-else-is_key_among c =
    found_after c.args.entries.now c.args.index c.index-entries-index.result c.is_key_among.result
    c.is_key_among-else-is_key_among.result c.requires c.index-entries-index.is
    (rw (c.as_str-key.ensures, ← c.index-entries-index.is) at c.is_key_among.ensures) c.if-is_key_among.false
    (rw (c.as_str-key.ensures, ← c.index-entries-index.is) at c.is_key_among-else-is_key_among.ensures
    ∙ ap (list_any (λ x. bytes_eq c.index-entries-index.result.key x.key))
    (take_to_end c.args.entries.now (c.args.index + 1)))
