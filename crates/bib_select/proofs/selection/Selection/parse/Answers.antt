use Rattle.std.proofs.Common.{map}
use Rattle.std.proofs.lemmas.Result.{err_from_is_err_and}
use Rattle.bib_select.specs.Parsed.{IsConditionText}
use Rattle.bib_select.specs.Views.{placed_of, terms_reading_of}
use Rattle.bib_select.proofs.ParseFacts.{refused_by_expression, refused_by_tokens, text_of_read}
use Rattle.bib_select.proofs.selection.Selection.parse.Goals as goal

pub returns-in_err-raw-clause-refused : goal.returns-in_err-raw-clause-refused
returns-in_err-raw-clause-refused c =
    let p = err_from_is_err_and c.from_residual-in_err-raw.result c.from_residual-in_err-raw.ensures.1 in
    rw (p.1, p.2)
    (refused_by_tokens c.args.text.now (map placed_of c.in_ok-tokens.tokens.items) c.in_ok-tokens.ensures.found _
    (rw c.deref.ensures.value at c.in_err-raw.ensures.refused))

pub returns-in_err-alternatives-clause-refused : goal.returns-in_err-alternatives-clause-refused
returns-in_err-alternatives-clause-refused c =
    let p = err_from_is_err_and c.from_residual-in_err-alternatives.result c.from_residual-in_err-alternatives.ensures.1 in
    let is : IsConditionText c.args.text.now (map terms_reading_of c.in_ok-raw.raw.items) =
    text_of_read c.args.text.now (map placed_of c.in_ok-tokens.tokens.items) _ c.in_ok-tokens.ensures.found
    (rw c.deref.ensures.value at c.in_ok-raw.ensures.found) in
    rw (p.1, p.2)
    (refused_by_expression c.args.text.now (map terms_reading_of c.in_ok-raw.raw.items) _ is
    (rw c.deref-2.ensures.value at c.in_err-alternatives.ensures.refused))

pub returns-clause-found : goal.returns-clause-found
returns-clause-found c = record {
  condition = map terms_reading_of c.in_ok-raw.raw.items;
  is =
      text_of_read c.args.text.now (map placed_of c.in_ok-tokens.tokens.items) (map terms_reading_of c.in_ok-raw.raw.items)
      c.in_ok-tokens.ensures.found (rw c.deref.ensures.value at c.in_ok-raw.ensures.found);
  compiled = rw c.deref-2.ensures.value at c.in_ok-alternatives.ensures.found;
}
