use Rattle.std.proofs.Common.{◌∙◌, sym}
use Rattle.bib_queries.specs.Standing.{IsSkippedIn}
use Rattle.bib_queries.specs.Unread.{is_unread_preamble}
use Rattle.bib_queries.proofs.SkippedFacts.{any_here, each_at, none_more}
use Rattle.bib_queries.proofs.unread.has_unread.Goals as goal

pub is_unread-requires : goal.is_unread-requires
is_unread-requires c =
    each_at (IsSkippedIn c.args.text.now) c.args.skipped.now c.spans.block-index c.block-item.result c.spans-test.true
    (sym c.block-item.is) c.requires

pub returns-then-is_unread : goal.returns-then-is_unread
returns-then-is_unread c =
    sym
    (any_here (is_unread_preamble c.args.text.now) c.args.skipped.now c.spans.block-index c.block-item.result c.spans-test.true
    (sym c.block-item.is) (sym c.is_unread.ensures ∙ c.if-is_unread.true))

pub spans-preserved : goal.spans-preserved
spans-preserved c =
    none_more (is_unread_preamble c.args.text.now) c.args.skipped.now c.spans.block-index c.block-item.result c.spans-test.true
    (sym c.block-item.is) (sym c.is_unread.ensures ∙ c.if-is_unread.false) c.spans.invariant
