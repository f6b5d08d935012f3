use Rattle.biblatex_c.proofs.ExportFacts.{exported_whole}
use Rattle.biblatex_c.proofs.exporting.entries_as.Goals as goal

pub returns-in_ok-push_str-in-Ok-clause-text : goal.returns-in_ok-push_str-in-Ok-clause-text
returns-in_ok-push_str-in-Ok-clause-text c =
    exported_whole c.args.target c.args.bibliography.now _ _ _ _ _ c.new.ensures.bytes c.in-Ok.ensures.printed
    c.in-Ok.ensures.next c.end.ensures c.in_ok-push_str-in-Ok.ensures.bytes
