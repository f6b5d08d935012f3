use Rattle.std.proofs.Common.{sym, length, subst}
use Rattle.std.proofs.lemmas.List.{length_push}
use Rattle.std.proofs.lemmas.Iterator.{YieldsList-from_chars}
use Rattle.std.proofs.lemmas.Iterator.Consumers.{YieldsList-end, YieldsList-turn}
use Rattle.std.specs.Prelude.{chars, string_bytes}
use Rattle.bib_findings.proofs.OutsideFacts.{IsOutside, outside_end, outside_next}
use Rattle.bib_findings.proofs.outside.outside_braces.Goals as goal

pub characters-preserved : goal.characters-preserved
characters-preserved c =
    let all = chars c.args.text.now in
    let count = length c.characters.yielded in
    let turn =
    YieldsList-turn (YieldsList-from_chars c.args.text.now c.utf8.text cc) c.characters.yielded _
    c.characters.yielded_by _ _ c.in-Some.c c.in-Some.is c.next.ensures.steps in
    subst (λ n. IsOutside all n c.open_braces_after-depth.result (string_bytes c.push_at_depth.new.outside))
    (sym (length_push c.characters.yielded c.in-Some.c))
    (outside_next all count c.in-Some.c c.characters.depth c.open_braces_after-depth.result (string_bytes c.characters.outside)
    (string_bytes c.push_at_depth.new.outside) c.characters.invariant turn.0 turn.1 c.in_ok-push_at_depth.ensures
    c.open_braces_after-depth.ensures.value c.open_braces_after-depth.ensures.small)

pub returns : goal.returns
returns c =
    let all = chars c.args.text.now in
    let end =
    YieldsList-end (YieldsList-from_chars c.args.text.now c.utf8.text cc) c.characters.yielded _
    c.characters.yielded_by _ _ c.in-None.is c.next.ensures.steps in
    outside_end all (length c.characters.yielded) c.characters.depth (string_bytes c.characters.outside) c.characters.invariant end.1
