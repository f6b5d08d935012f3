use Rattle.bib_text.proofs.PlaceFacts.{no_char_at_end}
use Rattle.bib_syntax.specs.Characters.{is_id_start}
use Rattle.bib_syntax.proofs.WordFacts.{passes_cases}
use Rattle.edit_entries.proofs.names.begins_name.Goals as goal

pub returns-in-Some : goal.returns-in-Some
returns-in-Some c = passes_cases is_id_start _ c.in-Some.ensures.1 c.is_id_start.ensures

pub returns-in-None : goal.returns-in-None
returns-in-None c = λ d v char. absurd (no_char_at_end c.in-None.ensures char)
