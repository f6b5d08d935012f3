use Rattle.std.proofs.Common.{sym, subst, ap, ◌∙◌}
use Rattle.bib_text.proofs.PlaceFacts.{stops_without}
use Rattle.bib_syntax.specs.Grammar.{BlockKind}
use Rattle.bib_syntax.specs.Kept.{KeptBody}
use Rattle.bib_syntax.specs.Views.{part_of}
use Rattle.bib_syntax.proofs.KeptFacts.{key_found, cut_found}
use Rattle.bib_syntax.proofs.raw.kept.kept_entry.Goals as goal

pub returns-then-not-eat_if : goal.returns-then-not-eat_if
returns-then-not-eat_if c u starts =
    let ends = sym (c.cursor.ensures.place ∙ ap (λ p. p.at) c.if-not-eat_if.ensures.0) in
    subst (λ r. KeptBody u (part_of c.args.kind) BlockKind.entry c.args.s.now r)
    (sym (c.key_alone.ensures u c.eat_whitespace.new.self starts ends))
    (key_found _ _ c.key-key.ensures.reading c.key-key.ensures.longest c.eat_whitespace.ensures.longest
    (stops_without 44 c.if-not-eat_if.ensures.1))

pub returns : goal.returns
returns c u starts =
    rw c.new.ensures (cut_found _ _ _ _ starts c.cursor-2.ensures.place c.key-key.ensures.reading
    c.key-key.ensures.longest c.eat_whitespace.ensures.longest c.if-not-eat_if.ensures c.comments.ensures c.in_ok-fields.ensures)
