use Rattle.std.proofs.Common.{ap, sym, ◌∙◌, ◌++◌}
use Rattle.std.specs.Prelude.{encode_utf8_all, option_to_list, string_bytes}
use Rattle.bib_findings.proofs.LowercaseFacts.{letters_listed, three_appended}
use Rattle.bib_findings.proofs.lowercase.push_lowercase.Goals as goal

pub returns : goal.returns
returns c =
    let one = c.next.ensures.steps in
    let two = c.next-2.ensures.steps in
    let three = c.next-3.ensures.steps in
    let old = string_bytes c.args.text.now in
    three_appended old (string_bytes c.push_some.new.text) (string_bytes c.push_some-2.new.text) (string_bytes c.push_some-3.new.text)
    (option_to_list c.next.result) (option_to_list c.next-2.result) (option_to_list c.next-3.result)
    c.in_ok-push_some.ensures c.in_ok-push_some-2.ensures c.in_ok-push_some-3.ensures
    ∙ ap (λ l. old ++ encode_utf8_all l)
    (sym
    (letters_listed c.to_lowercase-letters.result c.next.result c.next-2.result c.next-3.result (sym one.0) (sym (two.0 ∙ one.1))
    (sym (three.0 ∙ two.1 ∙ one.2)))
    ∙ c.to_lowercase-letters.ensures.value)
