use Rattle.std.proofs.Common.{◌∙◌, ◌++◌, ap, refl}
use Rattle.std.proofs.lemmas.Result.{err_from_is_err_and}
use Rattle.bib_text.specs.Places.{Longest}
use Rattle.bib_text.proofs.PlaceFacts.{ahead_here, ahead_then, ahead_run}
use Rattle.bib_syntax.specs.Blocks.{item_of}
use Rattle.bib_syntax.specs.Reading.{empty_reading, then}
use Rattle.bib_syntax.specs.SyntaxErrors.{FileFails as fails}
use Rattle.bib_syntax.proofs.ErrorFacts.{reports_as}
use Rattle.bib_syntax.proofs.FieldFacts.{refuses_from}
use Rattle.bib_syntax.proofs.FileFacts.{file_found, block_read, line_comment_read, no_file_read, skip_read, ahead_block, ahead_line_comment, block_smaller, line_comment_smaller, skip_smaller, is_skipped, is_skipped_from}
use Rattle.bib_syntax.proofs.raw.entry_reader.next_entry.Goals as goal

pub file-init : goal.file-init
file-init c = (ahead_here c.args.s.now, (empty_reading, refl, no_file_read c.args.s.now))

pub returns-in_err-item-clause-fails : goal.returns-in_err-item-clause-fails
returns-in_err-item-clause-fails c =
    let p = err_from_is_err_and c.from_residual.result c.from_residual.ensures.1 in
    let read = c.file.invariant.1.2 in
    rw (p.1, p.2)
    (refuses_from _ _ c.file.invariant.0 (reports_as (λ kind v f. read.fails kind v (fails.first f)))
    c.in_err-item.ensures.fails)

pub returns-in-Some-entry_of-clause-text : goal.returns-in-Some-entry_of-clause-text
returns-in-Some-entry_of-clause-text c = (ahead_then c.file.invariant.0 (ahead_block c.in_ok-item.ensures.found)).text

pub file-smaller-in_default-entry_of : goal.file-smaller-in_default-entry_of
file-smaller-in_default-entry_of c = block_smaller c.in_ok-item.ensures.found

pub file-preserved-in_default-entry_of : goal.file-preserved-in_default-entry_of
file-preserved-in_default-entry_of c =
    let says = c.file.invariant.1.0 in
    let empty = c.file.invariant.1.1 in (
      ahead_then c.file.invariant.0 (ahead_block c.in_ok-item.ensures.found),
      (
        then says (item_of c.in_ok-item.item),
        ap (λ es. es ++ (item_of c.in_ok-item.item).entries) empty ∙ c.in_default-entry_of.ensures,
        block_read c.file.invariant.1.2 c.in_ok-item.ensures.found,
      ),
    )

pub file-smaller-then-c-eq37 : goal.file-smaller-then-c-eq37
file-smaller-then-c-eq37 c = line_comment_smaller c.line_comment.ensures

pub file-preserved-then-c-eq37 : goal.file-preserved-then-c-eq37
file-preserved-then-c-eq37 c = (
  ahead_then c.file.invariant.0 (ahead_line_comment c.line_comment.ensures),
  (c.file.invariant.1.0, c.file.invariant.1.1, line_comment_read c.file.invariant.1.2 c.line_comment.ensures),
)

pub file-smaller : goal.file-smaller
file-smaller c =
    let run : Longest is_skipped c.file.s c.eat_until_either.new.self = c.eat_until_either.ensures.longest in
    skip_smaller c.in-Some.ensures.1 (is_skipped_from _ c.if-c-eq64.false c.if-c-eq37.false) run

pub file-preserved : goal.file-preserved
file-preserved c =
    let run : Longest is_skipped c.file.s c.eat_until_either.new.self = c.eat_until_either.ensures.longest in (
      ahead_then c.file.invariant.0 (ahead_run run.run),
      (c.file.invariant.1.0, c.file.invariant.1.1, skip_read c.file.invariant.1.2 run),
    )

pub returns-clause-found : goal.returns-clause-found
returns-clause-found c = record {
  says = c.file.invariant.1.0;
  read = file_found c.file.invariant.1.2 c.in_default.ensures;
  none = c.file.invariant.1.1;
}
