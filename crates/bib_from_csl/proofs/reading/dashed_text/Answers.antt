use Rattle.bib_from_csl.proofs.reading.dashed_text.Goals as goal

pub returns : goal.returns
unfolding Rattle.bib_from_csl.specs.GivenItems.dashed_text lib.Utf8.encode
returns c = c.replaced.ensures
