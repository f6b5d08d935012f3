use Rattle.std.proofs.Common.{sym, length, subst, ◌∙◌}
use Rattle.std.proofs.lemmas.List.{length_push}
use Rattle.std.proofs.lemmas.Iterator.{YieldsList-from_chars}
use Rattle.std.proofs.lemmas.Iterator.Consumers.{YieldsList-end, YieldsList-turn}
use Rattle.std.specs.Prelude.{chars}
use Rattle.bib_findings.proofs.SpecialFacts.{IsSpecialAfter, special_end, special_found, special_next}
use Rattle.bib_findings.proofs.special_characters.first_special.Goals as goal

pub returns-then-is_special_at : goal.returns-then-is_special_at
returns-then-is_special_at c =
    let turn =
    YieldsList-turn (YieldsList-from_chars c.args.text.now c.utf8.text cc) c.characters.yielded _
    c.characters.yielded_by _ _ c.in-Some.c c.in-Some.is c.next.ensures.steps in
    special_found (chars c.args.text.now) (length c.characters.yielded) c.in-Some.c c.characters.depth c.characters.zone
    c.characters.invariant turn.0 turn.1 (sym c.is_special_at.ensures ∙ c.if-is_special_at.true)

pub characters-preserved : goal.characters-preserved
characters-preserved c =
    let all = chars c.args.text.now in
    let count = length c.characters.yielded in
    let turn =
    YieldsList-turn (YieldsList-from_chars c.args.text.now c.utf8.text cc) c.characters.yielded _
    c.characters.yielded_by _ _ c.in-Some.c c.in-Some.is c.next.ensures.steps in
    subst (λ n. IsSpecialAfter all n c.open_braces_after-depth.result c.zone_at-zone.result)
    (sym (length_push c.characters.yielded c.in-Some.c))
    (special_next all count c.in-Some.c c.characters.depth c.open_braces_after-depth.result c.characters.zone c.zone_at-zone.result
    c.characters.invariant turn.0 turn.1 (sym c.is_special_at.ensures ∙ c.if-is_special_at.false) c.zone_at-zone.ensures
    c.open_braces_after-depth.ensures.value c.open_braces_after-depth.ensures.small)

pub returns : goal.returns
returns c =
    let end =
    YieldsList-end (YieldsList-from_chars c.args.text.now c.utf8.text cc) c.characters.yielded _
    c.characters.yielded_by _ _ c.in-None.is c.next.ensures.steps in
    special_end (chars c.args.text.now) (length c.characters.yielded) c.characters.depth c.characters.zone c.characters.invariant end.1
