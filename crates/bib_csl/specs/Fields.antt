-- Meaning: words of public contracts.
-- Variables of an item, unless they are empty.
use Rattle.std.specs.Prelude.{ℕ, ◌==◌, if◌then◌else◌, List, [], ◌∷◌, length, Option, Some, None}
use Rattle.bib_csl.specs.declared.item.Content.TheVariants as content
use Rattle.bib_csl.specs.declared.item.Field.{Field}
use Rattle.bib_csl.specs.declared.item.ItemDate.{ItemDate}
use Rattle.bib_csl.specs.declared.item.Name.{Name}
use Rattle.bib_csl.specs.declared.variables.Variable.{Variable}

-- a variable with a text, unless the text is empty
unfoldable pub given : Variable → List ℕ → List Field
given variable text = if length text == 0 then [] else record { variable = variable; content = content.Text text } ∷ []

-- a variable with names, unless there are none
unfoldable pub given_people : Variable → List Name → List Field
given_people variable names = if length names == 0 then [] else record { variable = variable; content = content.Names names } ∷ []

-- a variable with a date, if there is one
unfoldable pub given_date : Variable → Option ItemDate → List Field
given_date variable None = []
given_date variable (Some date) = record { variable = variable; content = content.Date date } ∷ []
