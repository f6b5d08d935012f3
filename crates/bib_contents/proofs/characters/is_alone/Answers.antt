use Rattle.std.proofs.Common.{◌∙◌, sym, ap, not}
use Rattle.std.specs.Prelude.{◌==◌}
use Rattle.bib_text.specs.Places.{place}
use Rattle.bib_text.proofs.TextFacts.{chars_at_end}
use Rattle.bib_contents.specs.Contents.{begins, is_space}
use Rattle.bib_contents.specs.Progress.{left}
use Rattle.bib_contents.proofs.PlainFacts.{alone_space, alone_hyphen, alone_last, left_here}
use Rattle.bib_contents.proofs.characters.is_alone.Goals as goal

pub returns-then-c-eq32 : goal.returns-then-c-eq32
returns-then-c-eq32 c =
    let none = chars_at_end (place c.args.text.now c.args.at) c.in_default.ensures in
    ap (λ d. d == 32) c.if-c-eq32.true
    ∙ sym
    (alone_space c.args.c (left (place c.args.text.now c.args.at)) c.if-c-eq32.true
    ∙ ap (λ cs. not (begins is_space cs)) none)

pub returns-else-c-eq32 : goal.returns-else-c-eq32
returns-else-c-eq32 c =
    let none = chars_at_end (place c.args.text.now c.args.at) c.in_default.ensures in
    sym (alone_last c.args.c (left (place c.args.text.now c.args.at)) none c.if-c-eq32.false)

pub returns-then-c-eq32-2 : goal.returns-then-c-eq32-2
returns-then-c-eq32-2 c =
    let here = left_here c.args.text.now c.args.at c.utf8.text c.requires c.in-Some.ensures.1 in
    ap not c.is_space.ensures
    ∙ sym
    (alone_space c.args.c (left (place c.args.text.now c.args.at)) c.if-c-eq32-2.true
    ∙ ap (λ cs. not (begins is_space cs)) here)

pub returns-then-c-eq45 : goal.returns-then-c-eq45
returns-then-c-eq45 c =
    let here = left_here c.args.text.now c.args.at c.utf8.text c.requires c.in-Some.ensures.1 in
    sym (alone_hyphen c.args.c (left (place c.args.text.now c.args.at)) c.if-c-eq45.true ∙ ap (λ cs. not (begins (λ d. d == 45) cs)) here)
