use Rattle.std.proofs.Common.{◌≡◌, ◌++◌, append-nil, ap, map, subst, sym, ◌∙◌}
use Rattle.std.specs.Prelude.{IsUtf8}
use Rattle.std.specs.List.{list_any}
use Rattle.bib_syntax.specs.Views.{field_of, piece_of}
use Rattle.bib_findings.specs.HtmlParts.{is_tested_byte}
use Rattle.bib_findings.specs.Identities.{literal_text}
use Rattle.bib_findings.proofs.MarkupFacts.{no_printed}
use Rattle.bib_findings.proofs.html.add_printed.Goals as goal

pub returns-then-not-has_tested_byte : goal.returns-then-not-has_tested_byte
returns-then-not-has_tested_byte c =
    let f = field_of c.args.field.now in
    let text : c.literal_text-text.result.now ≡ literal_text f.value.pieces =
    c.literal_text-text.ensures ∙ ap (λ l. literal_text (map piece_of l)) c.deref.ensures.value in
    sym
    (ap (λ l. c.args.found.now.items ++ l)
    (no_printed c.args.key.now f (subst IsUtf8 text c.literal_text-text.utf8)
    (ap (list_any is_tested_byte) (sym text) ∙ sym c.has_tested_byte.ensures ∙ c.if-not-has_tested_byte.true))
    ∙ append-nil c.args.found.now.items)
