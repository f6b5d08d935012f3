-- Meaning: words of public contracts.
-- The edits that the arguments of the commands that edit a file make.
use Rattle.std.specs.Prelude.{◌≡◌, ◌&&◌, ◌==◌, ◌++◌, ℕ, Bool, true, false, if◌then◌else◌, List, [], ◌∷◌, bytes_eq, codes, find}
use Rattle.std.specs.Prelude.{is_none, is_some, length, map, nat_lt, Option, Some, None, option_and_then, option_map, unwrap_or}
use Rattle.std.specs.Borrow.{Bor}
use Rattle.std.specs.List.{after_first, before_first, flat_map, position_or_len}
use Rattle.bib_recode.specs.Encodings.{encoding_named}
use Rattle.bib_recode.specs.LineEnds.{line_ends_named}
use Rattle.bib_syntax.specs.Grammar.{is_word}
use Rattle.bib_tables.specs.Months.{month_of_abbreviation}
use Rattle.bib_text.specs.Characters as char
use Rattle.bib_text.specs.Enums.{value_named}
use Rattle.bibkit_core.specs.Conditions.{before_end}
use Rattle.bibkit_edits.specs.declared.edit.Edit.{Edit}
use Rattle.bibkit_edits.specs.declared.edit.Edit.TheVariants as edit
use Rattle.edit_accents.specs.declared.recoding.Form.{Form}
use Rattle.edit_accents.specs.declared.recoding.Form.TheVariants.{Characters, Commands}
use Rattle.edit_entries.specs.declared.field_edits.FieldEdit.{FieldEdit}
use Rattle.edit_entries.specs.declared.field_edits.FieldEdit.TheVariants as field
use Rattle.edit_entries.specs.declared.field_value.FieldValue.{FieldValue}
use Rattle.edit_entries.specs.declared.field_value.FieldValue.TheVariants.{Text, Bare}
use Rattle.bibkit_commands.specs.Arguments.{Arguments, given_values, has_flag, argument_number, argument_value, argument_values}
use Rattle.bibkit_commands.specs.Asked.{has_conditions, mode_asked}
use Rattle.bibkit_commands.specs.Commands.{EditCommand, editing_command_named}
use Rattle.bibkit_commands.specs.Commands.EditCommand.{add_command, edit_command, recode_command, rekey_command, remove_command}
use Rattle.bibkit_commands.specs.Commands.EditCommand.{rename_command, set_command, strings_command, unset_command}
use Rattle.bibkit_commands.specs.declared.edits.Editing.{Editing}
use Rattle.bibkit_commands.specs.declared.edits.Edits.{Edits}
use Rattle.bibkit_commands.specs.declared.edits.Edits.TheVariants as edits
use Rattle.bibkit_commands.specs.declared.selecting.SelectedEdit.{SelectedEdit}
use Rattle.bibkit_commands.specs.declared.selecting.SelectedEdit.TheVariants as selected

-- ---- words with an equals sign

-- the texts of a word before and after its first equals sign, or `None` for a word without one
unfoldable pub pair_in : List ℕ → Option (List ℕ × List ℕ)
pair_in word =
    if nat_lt (position_or_len (λ b. b == char.equals) word) (length word)
    then Some (before_first (λ b. b == char.equals) word, after_first (λ b. b == char.equals) word) else None

-- a value that a field gets: whether it is written without braces, and its text
abbrev pub WrittenValue : Type 0
WrittenValue = Bool × List ℕ

abbrev pub value_in : FieldValue → WrittenValue
value_in (Text text) = (false, text.now)
value_in (Bare text) = (true, text.now)

-- whether a text is the abbreviation of a month for the field `month`
abbrev pub is_bare_month : List ℕ → List ℕ → Bool
is_bare_month name value = is_word name (codes "month") && is_some (month_of_abbreviation value)

-- the field and its value for the texts before and after an equals sign. With a colon at the end of the name, the value is written without
-- braces, and so is the abbreviation of a month in the field `month`
abbrev pub field_by_colon : Option (List ℕ) → List ℕ × List ℕ → List ℕ × WrittenValue
field_by_colon (Some name) pair = (name, (true, pair.1))
field_by_colon None pair = (pair.0, (is_bare_month pair.0 pair.1, pair.1))

unfoldable pub field_from : List ℕ × List ℕ → List ℕ × WrittenValue
field_from pair = field_by_colon (before_end (codes ":") pair.0) pair

-- the field that a word sets, and its value, or `None` for a word without an equals sign
abbrev pub field_in_word : List ℕ → Option (List ℕ × WrittenValue)
field_in_word word = option_map field_from (pair_in word)

-- ---- set, unset, remove and rename

-- the key, the field and the value of an edit that sets a field, or `None` for another edit
abbrev pub set_by : Edit → Option (List ℕ × (List ℕ × WrittenValue))
set_by (edit.Set key name value) = Some (key.now, (name.now, value_in value))
set_by _ = None

-- the key and the field of an edit that removes a field, or `None` for another edit
abbrev pub unset_by : Edit → Option (List ℕ × List ℕ)
unset_by (edit.Unset key name) = Some (key.now, name.now)
unset_by _ = None

-- the key of an edit that removes an entry, or `None` for another edit
abbrev pub removed_by : Edit → Option (List ℕ)
removed_by (edit.Remove key) = Some key.now
removed_by _ = None

-- the old key and the new one of an edit that renames an entry, or `None` for another edit
abbrev pub renamed_by : Edit → Option (List ℕ × List ℕ)
renamed_by (edit.Rename old new) = Some (old.now, new.now)
renamed_by _ = None

-- whether a word has no equals sign
abbrev pub has_no_pair : List ℕ → Bool
has_no_pair word = is_none (field_in_word word)

-- the edits that set the fields of the entry with this key as words say, in turn. No edits are made if a word has no equals sign
abbrev pub AreSetsOf : List ℕ → List (List ℕ) → Edits → Type 0
AreSetsOf key words (edits.These made) =
    (find has_no_pair words ≡ None) × (map set_by made.items ≡ map (λ word. option_map (λ f. (key, f)) (field_in_word word)) words)
AreSetsOf key words (edits.NoPair word pair) = (find has_no_pair words ≡ Some word.now) × (pair.now ≡ codes "FIELD=VALUE")
AreSetsOf key words _ = ⊥

-- the edits that remove the fields with these names from the entry with this key, in turn
abbrev pub AreUnsetsOf : List ℕ → List (List ℕ) → Edits → Type 0
AreUnsetsOf key names (edits.These made) = map unset_by made.items ≡ map (λ name. Some (key, name)) names
AreUnsetsOf key names _ = ⊥

-- the edits of `remove`: one for each key. With conditions there is only one, which removes each entry whose key is that of an entry that
-- meets all of them
abbrev pub AreRemovalsOf : Arguments → Edits → Type 0
AreRemovalsOf arguments (edits.These made) =
    (has_conditions arguments ≡ false) × (map removed_by made.items ≡ map Some (argument_values arguments (codes "KEYS")))
AreRemovalsOf arguments (edits.Selected conditions changes) =
    (has_conditions arguments ≡ true) × (map (λ text. text.now) conditions.items ≡ argument_values arguments (codes "where"))
    × (changes.items ≡ selected.Remove ∷ [])
AreRemovalsOf arguments _ = ⊥

-- the edit of `rename`
abbrev pub IsRenameOf : Arguments → Edits → Type 0
IsRenameOf arguments (edits.These made) =
    map renamed_by made.items
    ≡ Some (unwrap_or (argument_value arguments (codes "OLD")) [], unwrap_or (argument_value arguments (codes "NEW")) []) ∷ []
IsRenameOf arguments _ = ⊥

-- ---- strings, rekey and recode

-- the edits of `strings`. With `--expand`, abbreviations are replaced by their texts. Otherwise, an abbreviation is defined for each text
-- that occurs in enough fields: as many as `--at-least` says, or two without it
abbrev pub AreStringsOf : Arguments → Edits → Type 0
AreStringsOf arguments (edits.These made) = (has_flag arguments (codes "expand") ≡ true) × (made.items ≡ edit.Expand ∷ [])
AreStringsOf arguments (edits.Collect fields least) =
    (has_flag arguments (codes "expand") ≡ false)
    × (option_map (λ names. map (λ name. name.now) names.items) fields ≡ given_values arguments (codes "fields"))
    × (least ≡ unwrap_or (argument_number arguments (codes "at-least")) 2)
AreStringsOf arguments _ = ⊥

-- the pattern of keys without `--pattern`
abbrev pub usual_pattern : List ℕ
usual_pattern = codes "{author}{year}{title:1}"

-- the edits of `rekey`
abbrev pub IsRekeyOf : Arguments → Edits → Type 0
IsRekeyOf arguments (edits.Rekey rekeying) =
    (rekeying.pattern.now ≡ unwrap_or (argument_value arguments (codes "pattern")) usual_pattern)
    × (rekeying.has_map ≡ has_flag arguments (codes "map")) × (rekeying.is_check ≡ has_flag arguments (codes "check"))
IsRekeyOf arguments _ = ⊥

-- the forms of accents by their names
abbrev pub forms : List (List ℕ × Form)
forms = (codes "characters", Characters) ∷ (codes "commands", Commands) ∷ []

-- the edits of `recode`
abbrev pub IsRecodeOf : Arguments → Edits → Type 0
IsRecodeOf arguments (edits.Recode recoding) =
    (recoding.from ≡ option_and_then encoding_named (argument_value arguments (codes "from")))
    × (recoding.line_ends ≡ option_and_then line_ends_named (argument_value arguments (codes "line-ends")))
    × (recoding.has_mark ≡ has_flag arguments (codes "bom"))
    × (recoding.accents ≡ option_and_then (value_named forms) (argument_value arguments (codes "accents")))
IsRecodeOf arguments _ = ⊥

-- ---- edit

-- an edit of the selected entries in words: the option that makes it, and the field with its value; a rename has the new name as its value
abbrev pub SelectedChange : Type 0
SelectedChange = List ℕ × (List ℕ × WrittenValue)

abbrev pub change_of_field : FieldEdit → SelectedChange
change_of_field (field.Set name value) = (codes "set", (name.now, value_in value))
change_of_field (field.Add name value) = (codes "add", (name.now, value_in value))
change_of_field (field.Rename old new) = (codes "rename", (old.now, (false, new.now)))

abbrev pub change_by : SelectedEdit → Option SelectedChange
change_by (selected.Field made) = Some (change_of_field made)
change_by (selected.Unset name) = Some (codes "unset", (name.now, (false, [])))
change_by selected.Remove = None

-- `--set`, or `--add` for any other option
abbrev pub set_or_add : List ℕ → List ℕ
set_or_add option = if bytes_eq option (codes "set") then codes "set" else codes "add"

-- the edit that an option makes for a word, or `None` for a word without an equals sign. A word of `--rename` is OLD=NEW, and one of any
-- other option FIELD=VALUE or FIELD:=VALUE
abbrev pub change_for : List ℕ → List ℕ → Option SelectedChange
change_for option word =
    if bytes_eq option (codes "rename") then option_map (λ pair. (codes "rename", (pair.0, (false, pair.1)))) (pair_in word)
    else option_map (λ f. (set_or_add option, f)) (field_in_word word)

-- whether a word of an option has no equals sign
abbrev pub is_unpaired : List ℕ → List ℕ → Bool
is_unpaired option word = is_none (change_for option word)

-- the edit that removes the fields with a name
abbrev pub unset_change : List ℕ → Option SelectedChange
unset_change name = Some (codes "unset", (name, (false, [])))

-- the options of `edit` with words that have an equals sign, in the order in which their edits are made
abbrev pub field_options : List (List ℕ)
field_options = codes "rename" ∷ codes "set" ∷ codes "add" ∷ []

-- a word with its option, if there is one, or else the other
abbrev pub word_or : List ℕ → Option (List ℕ) → Option (List ℕ × List ℕ) → Option (List ℕ × List ℕ)
word_or option (Some word) rest = Some (option, word)
word_or option None rest = rest

-- the first word of these options without an equals sign, with its option
abbrev pub first_unpaired : Arguments → List (List ℕ) → Option (List ℕ × List ℕ)
first_unpaired arguments [] = None
first_unpaired arguments (option ∷ options) =
    word_or option (find (is_unpaired option) (argument_values arguments option)) (first_unpaired arguments options)

-- the edits that these options make, in turn
abbrev pub changes_of : Arguments → List (List ℕ) → List (Option SelectedChange)
changes_of arguments options = flat_map (λ option. map (change_for option) (argument_values arguments option)) options

-- the names of the two texts of a word of an option in help
abbrev pub pair_name : List ℕ → List ℕ
pair_name option = if bytes_eq option (codes "rename") then codes "OLD=NEW" else codes "FIELD=VALUE"

-- the result is the first word of these options without an equals sign, with the form that a word of its option must have
abbrev pub IsUnpairedIn : Arguments → List (List ℕ) → Option (Bor (List ℕ) × Bor (List ℕ)) → Type 0
IsUnpairedIn arguments options None = first_unpaired arguments options ≡ None
IsUnpairedIn arguments options (Some found) =
    (option : List ℕ) × ((first_unpaired arguments options ≡ Some (option, found.0.now)) × (found.1.now ≡ pair_name option))

-- the edits of `edit`: those of the options with equals signs, and then those of `--unset`. No edits are made if a word has no equals sign
abbrev pub AreChangesOf : Arguments → Edits → Type 0
AreChangesOf arguments (edits.Selected conditions changes) =
    (first_unpaired arguments field_options ≡ None)
    × (map (λ text. text.now) conditions.items ≡ argument_values arguments (codes "where"))
    × (map change_by changes.items ≡ changes_of arguments field_options ++ map unset_change (argument_values arguments (codes "unset")))
AreChangesOf arguments (edits.NoPair word pair) =
    (option : List ℕ) × ((first_unpaired arguments field_options ≡ Some (option, word.now)) × (pair.now ≡ pair_name option))
AreChangesOf arguments _ = ⊥

-- ---- the command by its name

-- the key of an entry that the arguments give
abbrev pub key_asked : Arguments → List ℕ
key_asked arguments = unwrap_or (argument_value arguments (codes "KEY")) []

-- the edits of `set`
abbrev pub AreSetEditsOf : Arguments → Edits → Type 0
AreSetEditsOf arguments made = AreSetsOf (key_asked arguments) (argument_values arguments (codes "FIELD=VALUE")) made

-- the edits of `unset`
abbrev pub AreUnsetEditsOf : Arguments → Edits → Type 0
AreUnsetEditsOf arguments made = AreUnsetsOf (key_asked arguments) (argument_values arguments (codes "FIELDS")) made

-- the edits of a command that edits a file; `add` adds the entries of standard input
abbrev pub AreEditsBy : EditCommand → Arguments → Edits → Type 0
AreEditsBy set_command arguments made = AreSetEditsOf arguments made
AreEditsBy unset_command arguments made = AreUnsetEditsOf arguments made
AreEditsBy remove_command arguments made = AreRemovalsOf arguments made
AreEditsBy rename_command arguments made = IsRenameOf arguments made
AreEditsBy strings_command arguments made = AreStringsOf arguments made
AreEditsBy edit_command arguments made = AreChangesOf arguments made
AreEditsBy rekey_command arguments made = IsRekeyOf arguments made
AreEditsBy recode_command arguments made = IsRecodeOf arguments made
AreEditsBy add_command arguments made = made ≡ edits.AddInput

-- the edits of the command with this name, the file, and the use of the new text
pub record IsEditingOf (name : List ℕ) (arguments : Arguments) (editing : Editing) : Type 0 where
  pub edits_are : AreEditsBy (editing_command_named name) arguments editing.edits
  pub file_is : editing.name.now ≡ unwrap_or (argument_value arguments (codes "file")) (codes "-")
  pub mode_is : editing.mode ≡ mode_asked false arguments
  pub last : editing.is_last ≡ true
