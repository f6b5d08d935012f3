use Rattle.std.proofs.Common.{ap, sym, map, List, ℕ, ◌∷◌, ◌||◌, [], ◌∙◌}
use Rattle.std.specs.Borrow.{Bor}
use Rattle.std.specs.List.{flat_map}
use Rattle.std.proofs.lemmas.Iterator.Consumers.{YieldsList-end}
use Rattle.std.proofs.lemmas.Iterator.Splits.{YieldsList-from_lines}
use Rattle.std.proofs.lemmas.List.{map-append}
use Rattle.bib_queries.specs.Needed.{is_listed}
use Rattle.bibkit_core.specs.Baselines.{texts_of_line}
use Rattle.bibkit_core.proofs.BaselineFacts.{listed_more}
use Rattle.bibkit_core.proofs.baseline.accepted_texts.Goals as goal

pub lines-preserved : goal.lines-preserved
lines-preserved c = λ text.
    let now = λ (n : Bor (List ℕ)). n.now in
    c.in_ok-insert_text.ensures text
    ∙ ap (λ b. is_listed (texts_of_line c.in-Some.line.now) text || b) (c.lines.invariant text)
    ∙ sym (listed_more (map now c.lines.yielded) c.in-Some.line.now text)
    ∙ ap (λ l. is_listed (flat_map texts_of_line l) text) (sym (map-append now c.lines.yielded (c.in-Some.line ∷ [])))

pub returns : goal.returns
returns c = λ text.
    let all =
    YieldsList-end (YieldsList-from_lines c.args.output.now (cc)) c.lines.yielded _
    c.lines.yielded_by _ _ c.in-None.is c.next.ensures.steps in
    c.lines.invariant text ∙ ap (λ l. is_listed (flat_map texts_of_line l) text) all.0
