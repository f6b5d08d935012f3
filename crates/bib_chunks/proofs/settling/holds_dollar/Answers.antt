use Rattle.std.proofs.Common.{not, rules}
use Rattle.std.specs.Prelude.{◌==◌}
use Rattle.std.specs.Str.{IsUtf8}
use Rattle.bib_text.specs.Places.{Longest}
use Rattle.bib_text.proofs.TextFacts.{ahead}
use Rattle.bib_chunks.proofs.SettledFacts.{dollar_found}
use Rattle.bib_chunks.proofs.settling.holds_dollar.Goals as goal

pub returns : goal.returns
returns c =
    let longest : Longest (λ x. not (x == 36)) c.new-scanner.result c.eat_while.new.self =
    c.eat_while.ensures.longest _ (λ x r post. search rules) in
    let utf8 : IsUtf8 (ahead c.new-scanner.result) = rw c.new-scanner.ensures c.utf8.text in
    let found = dollar_found c.eat.new.self c.eat.result c.is_some.result longest utf8 c.eat.ensures c.is_some.ensures in
    rw c.new-scanner.ensures at found
