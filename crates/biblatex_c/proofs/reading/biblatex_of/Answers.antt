use Rattle.biblatex_c.proofs.reading.biblatex_of.Goals as goal

pub returns-clause-text : goal.returns-clause-text
returns-clause-text c = record {
  bibliography = c.in_ok-bibliography.bibliography;
  of_text = c.in_ok-bibliography.ensures.loaded;
  is = c.in_ok-to_biblatex_string.ensures.text;
}
