use Rattle.std.proofs.Common.{length}
use denote.Text.{Utf8}
use denote.Shadow.{shadow}
use Rattle.edit_sort.proofs.LineFacts.{IsSeen}
use Rattle.edit_sort.proofs.gaps.after_blank_line.Given as goal

-- the lines so far are seen, and `kept` is the text after the last blank one of them
abbrev pub invariant-lines : goal.invariant-lines
invariant-lines l = record { kept_text : shadow (Utf8 l.kept); rest_text : shadow (Utf8 l.rest); seen : IsSeen l.gap l.kept l.rest }

abbrev pub decreases-lines : goal.decreases-lines
decreases-lines l = length l.rest
