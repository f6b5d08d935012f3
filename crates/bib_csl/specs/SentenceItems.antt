-- Meaning: words of public contracts.
-- Items whose English titles are in sentence case.
use Rattle.std.specs.Prelude.{Bool, true, false, not, ◌==◌, ◌||◌, if◌then◌else◌, List, ℕ, map, length, codes, is_some, take}
use Rattle.std.specs.Str.{str_eq_ignore_ascii_case}
use Rattle.bib_entry.specs.declared.entry.Entry.{Entry}
use Rattle.bib_entry.specs.Fields.{field_or}
use Rattle.bib_csl.specs.declared.item.Content.{Content}
use Rattle.bib_csl.specs.declared.item.Content.TheVariants as content
use Rattle.bib_csl.specs.declared.item.Field.{Field}
use Rattle.bib_csl.specs.declared.item.Item.{Item}
use Rattle.bib_csl.specs.declared.sentence_items.TitleCase.{TitleCase}
use Rattle.bib_csl.specs.declared.sentence_items.TitleCase.TheVariants.{AsWritten, Sentence}
use Rattle.bib_csl.specs.declared.variables.Variable.{Variable}
use Rattle.bib_csl.specs.declared.variables.Variable.TheVariants.{Title, TitleShort, VolumeTitle, ContainerTitle, CollectionTitle, OriginalTitle, Event, EventTitle}
use Rattle.bib_csl.specs.Items.{item_of_entry}
use Rattle.bib_csl.specs.Notes.{language_of, language_value}
use Rattle.bib_csl.specs.Sentence.{title_in_sentence_case}

-- whether an entry has the field with the title of a journal
unfoldable pub has_journal : Entry → Bool
has_journal entry = is_some (field_or entry (codes "journaltitle") (codes "journal"))

-- whether the tag or the name of a language is English: it begins with `en`. The case of a tag doesn't count (RFC 5646, 2.1.1)
abbrev pub is_english_tag : List ℕ → Bool
is_english_tag tag = str_eq_ignore_ascii_case (take 2 tag) (codes "en")

-- whether an entry has no language, or its tag, or else its text, is English
unfoldable pub has_english_titles : Entry → Bool
has_english_titles entry =
    length (language_of (language_value entry)) == 0 || is_english_tag (language_of (language_value entry))

-- whether a variable is a title, but not that of a journal, which is a name
abbrev pub is_title_variable : Bool → Variable → Bool
is_title_variable in_journal Title = true
is_title_variable in_journal TitleShort = true
is_title_variable in_journal VolumeTitle = true
is_title_variable in_journal ContainerTitle = not in_journal
is_title_variable in_journal CollectionTitle = true
is_title_variable in_journal OriginalTitle = true
is_title_variable in_journal Event = true
is_title_variable in_journal EventTitle = true
is_title_variable in_journal _ = false

-- the content of a title in sentence case
abbrev pub content_in_sentence_case : Content → Content
content_in_sentence_case (content.Text text) = content.Text (title_in_sentence_case text)
content_in_sentence_case (content.Names names) = content.Names names
content_in_sentence_case (content.Date date) = content.Date date

-- a variable with its content, in sentence case if it is a title
unfoldable pub field_in_sentence_case : Bool → Field → Field
field_in_sentence_case in_journal f =
    record {
      variable = f.variable;
      content = if is_title_variable in_journal f.variable then content_in_sentence_case f.content else f.content;
    }

-- the item of an entry with its English titles in sentence case
unfoldable pub item_in_sentence_case : Entry → Item → Item
item_in_sentence_case entry item =
    if has_english_titles entry then record {
      id = item.id;
      kind = item.kind;
      fields = map (field_in_sentence_case (has_journal entry)) item.fields;
    } else item

-- the item of an entry with its titles as they are written, or in sentence case
abbrev pub item_of_entry_in : TitleCase → Entry → Item
item_of_entry_in AsWritten entry = item_of_entry entry
item_of_entry_in Sentence entry = item_in_sentence_case entry (item_of_entry entry)
