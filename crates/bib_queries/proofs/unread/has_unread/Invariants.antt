use Rattle.std.proofs.Common.{◌≡◌, false, take}
use Rattle.std.specs.List.{list_any}
use Rattle.bib_queries.specs.Unread.{is_unread_preamble}
use Rattle.bib_queries.proofs.unread.has_unread.Given as goal

abbrev pub invariant-spans : goal.invariant-spans
invariant-spans l = list_any (is_unread_preamble l.text) (take l.block-index l.skipped) ≡ false
