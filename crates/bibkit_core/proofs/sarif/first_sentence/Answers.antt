use Rattle.std.proofs.Common.{◌∙◌, ◌++◌, ap, codes, drop, refl, sym, take-append-drop}
use Rattle.bibkit_core.proofs.ConditionFacts.{suffix_begins}
use Rattle.bibkit_core.proofs.sarif.first_sentence.Goals as goal

pub returns-in-Some : goal.returns-in-Some
returns-in-Some c =
    let found = rw c.in-Some.is at c.split_once.ensures.cases in
    (drop found.0 c.args.text.now, sym (ap (λ t. t ++ drop found.0 c.args.text.now) found.3 ∙ take-append-drop found.0 c.args.text.now))

pub returns-in-None : goal.returns-in-None
returns-in-None c =
    let (rest, is) =
    suffix_begins (codes ".") c.args.text.now c.args.text c.strip_suffix.result refl c.strip_suffix.ensures.cases in
    (rest, is ∙ ap (λ t. t.now ++ rest) (sym c.unwrap_or.ensures))
