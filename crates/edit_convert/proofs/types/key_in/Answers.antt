use Rattle.std.proofs.Common.{◌≡◌, false, List, ℕ, cond, refl, sym, ap, ◌∙◌}
use Rattle.std.proofs.lemmas.Str.Ascii.{trim_ascii_is}
use Rattle.edit_convert.specs.Types.{has_tab_in_first_line, without_white_after, without_white_before}
use Rattle.edit_convert.proofs.types.key_in.Goals as goal

pub returns : goal.returns
returns c =
    let text : List ℕ = c.args.text.now in
    let trimmed : List ℕ = without_white_after (without_white_before text) in
    let none : has_tab_in_first_line text ≡ false = sym c.has_tab_in_first_line.ensures ∙ c.if-has_tab_in_first_line.false in
    trim_ascii_is text c.trim_ascii.result.now (without_white_before text) refl c.trim_ascii.ensures.value
    ∙ ap (λ b. cond b text trimmed) (sym none)
