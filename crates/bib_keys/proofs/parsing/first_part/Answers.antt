use Rattle.std.proofs.Common.{◌++◌, ◌∙◌, ap, lit<, sym}
use Rattle.std.specs.Prelude.{encode_utf8}
use Rattle.std.proofs.lemmas.Str.Pattern.{split_parts, strip_prefix_char}
use Rattle.bib_keys.proofs.PatternFacts.{is_literal, is_placeholder, not_closed, not_literal, not_placeholder}
use Rattle.bib_keys.proofs.parsing.first_part.Goals as goal

pub returns-in_err-inside : goal.returns-in_err-inside
returns-in_err-inside c =
    let brace = rw c.in-Some.is at (strip_prefix_char 123 c.args.text.now c.strip_prefix.result c.strip_prefix.ensures.cases (lit< tt)) in
    let parts = rw c.in_err-inside.was at (split_parts 125 c.in-Some.after.now c.split_once.result c.split_once.ensures.cases (lit< tt)) in
    rw c.from_residual.ensures (not_closed c.args.text.now c.in-Some.after.now brace parts)

pub returns-in_err-placeholder : goal.returns-in_err-placeholder
returns-in_err-placeholder c =
    let brace = rw c.in-Some.is at (strip_prefix_char 123 c.args.text.now c.strip_prefix.result c.strip_prefix.ensures.cases (lit< tt)) in
    let parts = rw c.in_ok-inside.was at (split_parts 125 c.in-Some.after.now c.split_once.result c.split_once.ensures.cases (lit< tt)) in
    rw c.from_residual-in_err-placeholder.ensures
    (not_placeholder c.args.text.now c.in-Some.after.now c.in_ok-inside.inside.now c.in_ok-inside.rest.now brace parts.0 parts.1
    c.in_err-placeholder.ensures)

pub returns-in-Some : goal.returns-in-Some
returns-in-Some c =
    let brace = rw c.in-Some.is at (strip_prefix_char 123 c.args.text.now c.strip_prefix.result c.strip_prefix.ensures.cases (lit< tt)) in
    let parts = rw c.in_ok-inside.was at (split_parts 125 c.in-Some.after.now c.split_once.result c.split_once.ensures.cases (lit< tt)) in
    is_placeholder c.args.text.now c.in-Some.after.now c.in_ok-inside.inside.now c.in_ok-inside.rest.now c.in_ok-placeholder.field-0
    brace parts.0 parts.1 c.in_ok-placeholder.ensures

pub returns-then-is_in_keys : goal.returns-then-is_in_keys
returns-then-is_in_keys c =
    is_literal c.args.text.now c.as_str.result.now c.in_ok-c.c
    (sym c.chars-rest.ensures.rest ∙ c.in_ok-c.ensures.steps.0 ∙ ap (λ bs. encode_utf8 c.in_ok-c.c ++ bs) (sym c.as_str.ensures))
    (sym c.is_in_keys.ensures ∙ c.if-is_in_keys.true)

pub returns : goal.returns
returns c =
    let brace =
    rw c.in_default.is at (strip_prefix_char 123 c.args.text.now c.strip_prefix.result c.strip_prefix.ensures.cases (lit< tt)) in
    not_literal c.args.text.now _ c.in_ok-c.c brace (sym c.chars-rest.ensures.rest ∙ c.in_ok-c.ensures.steps.0)
    (sym c.is_in_keys.ensures ∙ c.if-is_in_keys.false)
