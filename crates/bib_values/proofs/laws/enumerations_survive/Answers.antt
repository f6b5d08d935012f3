use Rattle.bib_values.proofs.EnumFacts.{pagination_survives, gender_survives, editor_type_kept, language_survives}
use Rattle.bib_values.proofs.laws.enumerations_survive.Goals as goal

pub returns-clause-paginations : goal.returns-clause-paginations
returns-clause-paginations c scheme = pagination_survives scheme

pub returns-clause-genders : goal.returns-clause-genders
returns-clause-genders c gender = gender_survives gender

pub returns-clause-languages : goal.returns-clause-languages
returns-clause-languages c language = language_survives language

pub returns-clause-editor_types : goal.returns-clause-editor_types
returns-clause-editor_types c role named = editor_type_kept role named
