use Rattle.std.proofs.Common.{[], ◌∷◌, ◌++◌, ◌∙◌, ◌+◌, ap, lit<, sym, append-nil}
use Rattle.std.proofs.lemmas.Str.Pattern.{split_parts}
use Rattle.bib_keys.specs.Patterns.{IsCount}
use Rattle.bib_keys.proofs.PatternFacts.{not_named}
use Rattle.bib_keys.proofs.parsing.name_and_count.Goals as goal

pub returns-in_err-digit-in-Some : goal.returns-in_err-digit-in-Some
returns-in_err-digit-in-Some c =
    let parts = split_parts 58 c.args.text.now c.split_once.result c.split_once.ensures.cases (lit< tt) in
    let split = rw c.in-Some.is at parts in
    rw c.from_residual.ensures
    (not_named c.args.text.now c.in-Some.name.now c.in-Some.number.now split.0 split.1 c.in_err-digit-in-Some.ensures)

pub returns-in_ok-digit-in-Some : goal.returns-in_ok-digit-in-Some
returns-in_ok-digit-in-Some c =
    let parts = split_parts 58 c.args.text.now c.split_once.result c.split_once.ensures.cases (lit< tt) in
    let split = rw c.in-Some.is at parts in
    let digit = c.in_ok-digit-in-Some.ensures in
    record {
      colon = split.1;
      digits = 58 ∷ (48 + c.in_ok-digit-in-Some.field-0) ∷ [];
      number = IsCount.digit c.in_ok-digit-in-Some.field-0 digit.0 digit.1;
      is = split.0 ∙ ap (λ l. c.in-Some.name.now ++ (58 ∷ l)) digit.2;
    }

pub returns-in-None : goal.returns-in-None
returns-in-None c =
    let parts = split_parts 58 c.args.text.now c.split_once.result c.split_once.ensures.cases (lit< tt) in
    record { colon = rw c.in-None.is at parts; digits = []; number = IsCount.none; is = sym (append-nil c.args.text.now) }
