use Rattle.std.proofs.lemmas.Result.{err_from_is_err_and}
use Rattle.bib_syntax.proofs.FailingFacts.{each_of_none}
use Rattle.bib_syntax.proofs.FileFacts.{ahead_head}
use Rattle.bib_syntax.proofs.raw.failing.failing_fields.Goals as goal

pub returns-in_err-add_starts-in-Strings : goal.returns-in_err-add_starts-in-Strings
returns-in_err-add_starts-in-Strings c =
    let p =
    err_from_is_err_and c.from_residual-in_err-add_starts-in-Strings.result
    c.from_residual-in_err-add_starts-in-Strings.ensures.1 in
    rw (p.1, p.2)
    (each_of_none _ _ c.requires.none (ahead_head c.in_ok-kind.ensures.found) c.in_err-add_starts-in-Strings.ensures)

pub returns-in_err-add_entry_starts-in-Entry : goal.returns-in_err-add_entry_starts-in-Entry
returns-in_err-add_entry_starts-in-Entry c =
    let p =
    err_from_is_err_and c.from_residual-in_err-add_entry_starts-in-Entry.result
    c.from_residual-in_err-add_entry_starts-in-Entry.ensures.1 in
    rw (p.1, p.2)
    (each_of_none _ _ c.requires.none (ahead_head c.in_ok-kind.ensures.found) c.in_err-add_entry_starts-in-Entry.ensures)
