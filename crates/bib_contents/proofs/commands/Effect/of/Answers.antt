use Rattle.std.proofs.Common.{◌∙◌, sym, Some}
use Rattle.std.specs.Str.{chars}
use Rattle.bib_contents.proofs.CommandFacts.{mark_stays, stroke_stays, given_accent, given_symbol, given_other, symbol_text, symbol_none, symbol_chars, symbol_utf8, other_o_with, other_copyright_with, other_unknown_with, unknown_shape}
use Rattle.bib_contents.proofs.commands.Effect.of.Goals as goal

pub returns-in-Some-clause-made : goal.returns-in-Some-clause-made
returns-in-Some-clause-made c argument =
    given_accent (chars c.args.name.now) (Some argument) c.in-Some.mark (sym c.accent_mark.ensures ∙ c.in-Some.is)

pub returns-in-Some-clause-fit : goal.returns-in-Some-clause-fit
returns-in-Some-clause-fit c = mark_stays (chars c.args.name.now) c.in-Some.mark (sym c.accent_mark.ensures ∙ c.in-Some.is)

pub returns-in-Some-symbol-clause-made : goal.returns-in-Some-symbol-clause-made
returns-in-Some-symbol-clause-made c argument =
    let text = symbol_text _ _ c.in-Some-symbol.ensures in
    given_symbol (chars c.args.name.now) (Some argument) text.0 (sym c.accent_mark.ensures ∙ c.in_default.is) text.1
    ∙ sym (symbol_chars (chars c.args.name.now) text.0 c.in-Some-symbol.text.now text.1 text.2)

pub returns-in-Some-symbol-clause-fit : goal.returns-in-Some-symbol-clause-fit
returns-in-Some-symbol-clause-fit c =
    let text = symbol_text _ _ c.in-Some-symbol.ensures in
    symbol_utf8 (chars c.args.name.now) text.0 c.in-Some-symbol.text.now text.1 text.2

pub returns-in-o-clause-made : goal.returns-in-o-clause-made
returns-in-o-clause-made c argument =
    given_other (chars c.args.name.now) (Some argument) (sym c.accent_mark.ensures ∙ c.in_default.is)
    (symbol_none _ c.in_default-symbol.ensures)
    ∙ other_o_with c.args.name.now argument c.in-o.is

pub returns-in-o-clause-fit : goal.returns-in-o-clause-fit
returns-in-o-clause-fit c = stroke_stays

pub returns-in-copyright-clause-made : goal.returns-in-copyright-clause-made
returns-in-copyright-clause-made c argument =
    given_other (chars c.args.name.now) (Some argument) (sym c.accent_mark.ensures ∙ c.in_default.is)
    (symbol_none _ c.in_default-symbol.ensures)
    ∙ other_copyright_with c.args.name.now argument c.in-copyright.is

pub returns-in_default-name-clause-made : goal.returns-in_default-name-clause-made
returns-in_default-name-clause-made c argument =
    given_other (chars c.args.name.now) (Some argument) (sym c.accent_mark.ensures ∙ c.in_default.is)
    (symbol_none _ c.in_default-symbol.ensures)
    ∙ other_unknown_with c.args.name.now argument c.utf8.name c.in_default-name.not-o c.in_default-name.not-copyright
    ∙ unknown_shape (chars c.args.name.now) argument
