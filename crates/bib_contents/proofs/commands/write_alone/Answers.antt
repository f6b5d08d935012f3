use Rattle.std.proofs.Common.{◌∙◌, ◌∷◌, [], sym, None}
use Rattle.std.specs.Str.{chars}
use Rattle.bib_text.proofs.TextFacts.{pushed_chars, encode_one}
use Rattle.bib_contents.proofs.CommandFacts.{given_accent, given_symbol, given_other, symbol_text, symbol_none}
use Rattle.bib_contents.proofs.commands.write_alone.Goals as goal

pub returns-in-Some : goal.returns-in-Some
returns-in-Some c =
    rw (given_accent (chars c.args.name.now) None c.in-Some.mark (sym c.accent_mark.ensures ∙ c.in-Some.is))
    (pushed_chars _ _ _ _ (c.in-Some.mark ∷ []) c.in_ok-push.was c.push.ensures.bytes (encode_one c.in-Some.mark))

pub returns-in-Some-symbol : goal.returns-in-Some-symbol
returns-in-Some-symbol c =
    let text = symbol_text _ _ c.in-Some-symbol.ensures in
    rw (given_symbol (chars c.args.name.now) None text.0 (sym c.accent_mark.ensures ∙ c.in_default.is) text.1)
    (pushed_chars _ _ _ _ text.0 c.in_ok-push_str.was c.push_str.ensures.bytes text.2)

pub returns : goal.returns
returns c =
    rw (given_other (chars c.args.name.now) None (sym c.accent_mark.ensures ∙ c.in_default.is) (symbol_none _ c.in_default-symbol.ensures))
    c.write_other_alone.ensures
