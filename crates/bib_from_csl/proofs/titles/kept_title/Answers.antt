use Rattle.std.proofs.Common.{◌∙◌, ap, lit<}
use Rattle.std.proofs.lemmas.Iterator.Consumers.{YieldsList-end}
use Rattle.std.proofs.lemmas.Iterator.Splits.{YieldsList-from_str_split}
use Rattle.bib_from_csl.specs.OwnTitles.{title_of_words}
use Rattle.bib_from_csl.proofs.titles.kept_title.Goals as goal

pub returns : goal.returns
returns c =
    let all =
    YieldsList-end (YieldsList-from_str_split 32 c.args.text.now (lit< tt) (cc) (cc) (cc)) c.words.yielded _
    c.words.yielded_by _ _ c.in-None.is c.next.ensures.steps in
    c.words.invariant.0 ∙ ap title_of_words all.0
