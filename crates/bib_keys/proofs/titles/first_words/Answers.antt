use Rattle.std.proofs.lemmas.Grind.{common_steps}
use Rattle.std.proofs.Common.{◌∙◌, ap, lit<, take, sym, arith}
use Rattle.std.specs.Prelude.{◌==◌}
use Rattle.std.specs.List.{filter, slice_split}
use Rattle.std.proofs.lemmas.Iterator.Consumers.{YieldsList-end}
use Rattle.std.proofs.lemmas.Iterator.Splits.{YieldsList-from_str_split}
use Rattle.bib_keys.specs.Letters.{key_letters}
use Rattle.bib_keys.specs.Words.{is_significant}
use Rattle.bib_keys.proofs.WordFacts.{filter_skipped}
use Rattle.bib_keys.proofs.titles.first_words.Goals as goal

pub words-preserved : goal.words-preserved
words-preserved c =
    c.words.invariant
    ∙ sym
    (filter_skipped is_significant (λ word. word.now) c.words.yielded c.in-Some.word
    (sym c.is_significant.ensures ∙ c.if-is_significant.false))

pub returns : goal.returns
returns c =
    let all =
    YieldsList-end (YieldsList-from_str_split 32 c.deref.result.now (lit< tt) (cc) (cc) (cc)) c.words.yielded _
    c.words.yielded_by _ _ c.in-None.is c.next.ensures.steps in
    let title = c.as_str.ensures.value ∙ c.in_ok-title.ensures in
    c.truncate.ensures.items
    ∙ ap (take c.args.count)
    (c.words.invariant
    ∙ ap (filter is_significant)
    (all.0 ∙ ap (slice_split (λ b. b == 32)) (c.deref.ensures ∙ c.in_ok-letters.ensures ∙ ap key_letters title)))

pub words-preserved-in_ok-push : goal.words-preserved-in_ok-push
words-preserved-in_ok-push c = grind (arith, common_steps)
