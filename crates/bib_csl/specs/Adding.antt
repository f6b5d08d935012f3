-- Meaning: words of public contracts.
-- Variables with the content of their field in the table of variables, unless it is empty.
use Rattle.std.specs.Prelude.{ℕ, List}
use Rattle.bib_entry.specs.declared.entry.Entry.{Entry}
use Rattle.bib_csl.specs.declared.item.Field.{Field}
use Rattle.bib_csl.specs.declared.variables.Variable.{Variable}
use Rattle.bib_csl.specs.Fields.{given}
use Rattle.bib_csl.specs.Tables.{field_in_table}
use Rattle.bib_csl.specs.Texts.{field, listed_field, rich_text, rich_text_or, shown_field, title_text}

-- a variable with the plain text of its field
unfoldable pub given_plain : Variable → Entry → List Field
given_plain variable entry = given variable (shown_field (field entry (field_in_table variable)))

-- a variable with the title in its field, with HTML tags
unfoldable pub given_title : Variable → Entry → List Field
given_title variable entry = given variable (title_text entry (field_in_table variable))

-- a variable with the text of its field, with HTML tags
unfoldable pub given_rich : Variable → Entry → List Field
given_rich variable entry = given variable (rich_text entry (field_in_table variable))

-- a variable with the text of its field, or of the other field if its own is missing, with HTML tags
unfoldable pub given_rich_or : Variable → Entry → List ℕ → List Field
given_rich_or variable entry other = given variable (rich_text_or entry (field_in_table variable) other)

-- a variable with the list of texts in its field
unfoldable pub given_listed : Variable → Entry → List Field
given_listed variable entry = given variable (listed_field (field entry (field_in_table variable)))
