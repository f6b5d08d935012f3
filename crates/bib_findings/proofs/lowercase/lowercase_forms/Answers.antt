use Rattle.std.proofs.Common.{sym, length, subst}
use Rattle.std.proofs.lemmas.List.{length_push}
use Rattle.std.proofs.lemmas.Iterator.{YieldsList-from_chars}
use Rattle.std.proofs.lemmas.Iterator.Consumers.{YieldsList-end, YieldsList-turn}
use Rattle.std.specs.Prelude.{chars, string_bytes}
use Rattle.bib_findings.proofs.LowercaseFacts.{IsFormed, formed_end, formed_next}
use Rattle.bib_findings.proofs.lowercase.lowercase_forms.Goals as goal

pub characters-preserved : goal.characters-preserved
characters-preserved c =
    let all = chars c.args.text.now in
    let count = length c.characters.yielded in
    let turn =
    YieldsList-turn (YieldsList-from_chars c.args.text.now c.utf8.text cc) c.characters.yielded _
    c.characters.yielded_by _ _ c.in-Some.c c.in-Some.is c.next.ensures.steps in
    subst (λ n. IsFormed all n (string_bytes c.push_lowercase.new.text))
    (sym (length_push c.characters.yielded c.in-Some.c))
    (formed_next all count c.in-Some.c (string_bytes c.characters.forms) (string_bytes c.push_lowercase.new.text)
    c.characters.invariant turn.0 turn.1 c.in_ok-push_lowercase.ensures)

pub returns : goal.returns
returns c =
    let all = chars c.args.text.now in
    let end =
    YieldsList-end (YieldsList-from_chars c.args.text.now c.utf8.text cc) c.characters.yielded _
    c.characters.yielded_by _ _ c.in-None.is c.next.ensures.steps in
    formed_end all (length c.characters.yielded) (string_bytes c.characters.forms) c.characters.invariant end.1
