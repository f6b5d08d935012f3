use Rattle.std.proofs.Common.{rules}
use Rattle.std.proofs.lemmas.Result.{err_from_is_err_and}
use Rattle.bib_text.proofs.PlaceFacts.{ahead_char}
use Rattle.bib_syntax.specs.SyntaxErrors.{BracedFails as fails}
use Rattle.bib_syntax.proofs.ErrorFacts.{reports_end}
use Rattle.bib_syntax.proofs.raw.words.braced_text.Goals as goal

pub returns-in_err-text-clause-fails : goal.returns-in_err-text-clause-fails
returns-in_err-text-clause-fails c =
    let p = err_from_is_err_and c.from_residual-in_err-text.result c.from_residual-in_err-text.ensures.1 in
    rw (p.1, p.2)
    (reports_end (ahead_char c.in_ok-expect.ensures.found) c.in_err-text.ensures.end
    (fails.unclosed c.in_ok-expect.ensures.found c.in_err-text.ensures.none))

pub returns-clause-found : goal.returns-clause-found
returns-clause-found c = record {
  inside = _;
  following = _;
  opens = c.in_ok-expect.ensures.found;
  parts = search rules;
  closes = c.in_ok-expect-2.ensures.found;
  reading = search rules;
}
