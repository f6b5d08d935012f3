use Rattle.std.proofs.Common.{◌≡◌, drop, map}
use Rattle.bib_syntax.specs.Views.{entry_reading_of, field_of}
use Rattle.bib_findings.specs.Comments.{comment_outside, first_comment}
use Rattle.bib_findings.proofs.comments.first_comment.Given as goal

-- the first comment of the entry is that outside of the remaining fields
abbrev pub invariant-fields : goal.invariant-fields
invariant-fields l =
    first_comment l.text (entry_reading_of l.said)
    ≡ comment_outside l.text l.start (map field_of (drop l.field-index l.field-items)) (entry_reading_of l.said).end
