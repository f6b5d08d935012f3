use Rattle.bib.proofs.run.answer_text.Goals as goal

pub returns-in-Keys : goal.returns-in-Keys
returns-in-Keys c = rw (c.in-Keys.is, ← c.as_str.ensures.value) c.keys.ensures

pub returns-in-Biblatex : goal.returns-in-Biblatex
returns-in-Biblatex c = rw c.in-Biblatex.is c.biblatex.ensures

pub returns-in-Bibtex : goal.returns-in-Bibtex
returns-in-Bibtex c = rw c.in-Bibtex.is c.bibtex.ensures

pub returns-in-Check : goal.returns-in-Check
returns-in-Check c = rw c.in-Check.is c.check.ensures

pub returns-in-Settled : goal.returns-in-Settled
returns-in-Settled c = rw c.in-Settled.is c.settled_answer.ensures
