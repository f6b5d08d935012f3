use Rattle.std.proofs.Common.{rules, sym, ◌∙◌}
use Rattle.bib_select.specs.Tokens.{is_sign_character, is_word_character}
use Rattle.bib_select.proofs.TokenFacts.{in_word, sign_here, word_here}
use Rattle.bib_select.proofs.tokens.token_at.Goals as goal

pub returns-then-is_sign_character : goal.returns-then-is_sign_character
returns-then-is_sign_character c =
    sign_here c.eat_while.result.now c.requires.here.1 (sym c.is_sign_character.ensures ∙ c.if-is_sign_character.true)
    (c.eat_while.ensures.longest is_sign_character (λ x r post. search rules)) c.eat_while.ensures.eaten

pub returns : goal.returns
returns c =
    word_here c.eat_while-2.result.now c.requires.here.1
    (in_word c.args.first c.requires.dark (sym c.is_sign_character.ensures ∙ c.if-is_sign_character.false)
    (sym c.is_quote.ensures ∙ c.if-is_quote.false))
    (c.eat_while-2.ensures.longest is_word_character (λ x r post. search rules)) c.eat_while-2.ensures.eaten
