use Rattle.std.proofs.Common.{◌∙◌, ◌++◌, take, ap, sym, append_assoc}
use Rattle.std.specs.List.{flat_map}
use Rattle.std.specs.String.{string_bytes}
use Rattle.bib_queries.specs.Standing.{IsSkippedIn}
use Rattle.bib_queries.specs.Unread.{unread_line}
use Rattle.bib_queries.proofs.SkippedFacts.{each_at, lines_more}
use Rattle.bib_queries.proofs.unread.print_all_unread.Goals as goal

pub print_unread-requires : goal.print_unread-requires
print_unread-requires c =
    each_at (IsSkippedIn c.args.text.now) c.args.skipped.now c.spans.block-index c.block-item.result c.spans-test.true
    (sym c.block-item.is) c.requires

pub spans-preserved : goal.spans-preserved
spans-preserved c =
    let line_end = c.args.line_end.now in
    let text = c.args.text.now in
    let blocks = c.args.skipped.now in
    let i = c.spans.block-index in
    c.in_ok-print_unread.ensures ∙ ap (λ t. t ++ unread_line line_end text c.block-item.result) c.spans.invariant
    ∙ append_assoc (string_bytes c.args.printed.now) (flat_map (unread_line line_end text) (take i blocks))
    (unread_line line_end text c.block-item.result)
    ∙ ap (λ t. string_bytes c.args.printed.now ++ t)
    (sym (lines_more (unread_line line_end text) blocks i c.block-item.result c.spans-test.true (sym c.block-item.is)))
