use Rattle.std.proofs.Common.{◌∙◌, sym}
use Rattle.std.proofs.lemmas.List.{append-nil}
use Rattle.bib_text.proofs.TextFacts.{less_after}
use Rattle.bib_from_csl.specs.FromItems.{key_character}
use Rattle.bib_from_csl.proofs.ScanFacts.{scanned_step, scanned_end}
use Rattle.bib_from_csl.proofs.writing.key_of.Goals as goal

pub id-smaller : goal.id-smaller
id-smaller c = less_after c.in-Some.ensures

pub id-preserved : goal.id-preserved
id-preserved c =
    let step =
    scanned_step key_character c.id.key c.push_of_key.new.key _ c.in-Some.ensures c.id.invariant.1
    c.in_ok-push_of_key.ensures c.id.invariant.2 in
    (step.0 ∙ c.id.invariant.0, step.1, step.2)

pub returns : goal.returns
returns c = sym (append-nil c.id.key) ∙ scanned_end key_character c.id.key _ c.id.scanner c.in_default.ensures.0 c.id.invariant.2
