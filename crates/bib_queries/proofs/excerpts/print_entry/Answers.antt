use Rattle.std.proofs.Common.{◌++◌, ◌∙◌, ap, append_assoc}
use Rattle.std.specs.String.{string_bytes}
use Rattle.bib_syntax.specs.Views.{entry_reading_of}
use Rattle.bib_queries.specs.Cited.{excerpt}
use Rattle.bib_queries.proofs.excerpts.print_entry.Goals as goal

pub returns : goal.returns
returns c =
    c.in_ok-push_str-2.ensures.bytes
    ∙ ap (λ x. x ++ c.args.line_end.now)
    (c.in_ok-push_str.ensures.bytes ∙ ap (λ x. string_bytes c.args.printed.now ++ x) c.excerpt.ensures)
    ∙ append_assoc (string_bytes c.args.printed.now) (excerpt c.args.text.now (entry_reading_of c.args.entry.now))
    c.args.line_end.now
