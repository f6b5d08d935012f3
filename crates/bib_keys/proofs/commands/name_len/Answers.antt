use Rattle.std.proofs.Common.{◌∙◌, rules, tests}
use Rattle.std.specs.Prelude.{not}
use Rattle.std.specs.Char.{is_ascii_alphabetic}
use Rattle.std.proofs.lemmas.Iterator.{YieldsList-from_slice}
use Rattle.std.proofs.lemmas.Iterator.Search.{position_from_yields_List}
use Rattle.bib_keys.proofs.CommandFacts.{name_len_found}
use Rattle.bib_keys.proofs.commands.name_len.Goals as goal

pub returns : goal.returns
returns c =
    let found =
    position_from_yields_List (λ c. not (is_ascii_alphabetic c)) _ _ c.position.result c.position.ensures.ran
    (YieldsList-from_slice c.args.bytes.now cc) (λ x b q k. search (rules, tests)) in
    c.unwrap_or.ensures ∙ name_len_found c.args.bytes.now c.position.result found
