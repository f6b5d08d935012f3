use Rattle.bib_chunks.proofs.StandFacts.{comma_list_stands, and_list_stands}
use Rattle.bib_chunks.proofs.laws.pieces_stand_where_their_texts_do.Goals as goal

pub returns-clause-commas : goal.returns-clause-commas
returns-clause-commas c chunks texts long = comma_list_stands chunks texts long

pub returns-clause-ands : goal.returns-clause-ands
returns-clause-ands c chunks texts long = and_list_stands chunks texts long
