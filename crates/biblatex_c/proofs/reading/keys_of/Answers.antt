use Rattle.std.proofs.Common.{◌∙◌, ap, map, subst}
use Rattle.std.proofs.lemmas.Result.{err_from_is_err_and}
use Rattle.biblatex.specs.Syntax.{IsRawReading, entry_reading_of, file_of}
use Rattle.bib_queries.specs.Answers.{lines_of_keys}
use Rattle.biblatex_c.proofs.FailureFacts.{file_fails}
use Rattle.biblatex_c.proofs.reading.keys_of.Goals as goal

pub returns-in_err-raw-clause-fails : goal.returns-in_err-raw-clause-fails
returns-in_err-raw-clause-fails c =
    let p = err_from_is_err_and c.from_residual-in_err-raw.result c.from_residual-in_err-raw.ensures.1 in
    rw (p.1, p.2)
    (file_fails c.args.bytes.now c.in_ok-text_of.field-0.now c.in_err-raw.field-0.0 c.in_ok-text_of.ensures.text
    c.in_err-raw.ensures.refused)

pub returns-clause-keys : goal.returns-clause-keys
returns-clause-keys c = record {
  says = file_of c.in_ok-raw.raw;
  read = subst (λ t. IsRawReading t (file_of c.in_ok-raw.raw)) c.in_ok-text_of.ensures.text c.in_ok-raw.ensures.read;
  is = c.in_ok-key_lines.ensures ∙ ap (λ entries. lines_of_keys (map entry_reading_of entries)) c.deref.ensures.value;
}
