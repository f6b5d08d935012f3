-- Replaced values as changes of entries: their edits, and the parsing of the text with the new values.
use Rattle.std.proofs.Common.{◌≡◌, ℕ, List, [], ◌∷◌, ◌++◌, map, refl, sym, ap, ◌∙◌, subst, Option, Some, None}
use Rattle.std.specs.List.{AllByRecursion}
use Rattle.std.specs.Str.{IsUtf8}
use Rattle.bib_text.proofs.ListFacts.{all_weaker}
use Rattle.bib_syntax.specs.Reading.{FieldReading, EntryReading}
use Rattle.edit_entries.specs.Changes.{IsReadPlaceless, NewValue, edits_of_entries, edits_of_field, edits_of_fields, file_changed, text_changed}
use Rattle.edit_entries.specs.Documents.{Document, IsDocument}
use Rattle.edit_entries.specs.EditList.{AreEditsInOrder}
use Rattle.edit_entries.proofs.ChangesFacts.{CanChange, CanEntryChange, CanFieldsChange, changed_read, changes_in_order}
use Rattle.edit_entries.proofs.NewValueFacts.{CanBeRead}
use Rattle.edit_strings.specs.Exchanged.{Exchange, exchanges, exchange_change}
use Rattle.edit_strings.specs.Tables.{each_edits, field_edits, value_edits}

-- ---- the edits

edit_is : (text : List ℕ) (f : FieldReading) (following : List FieldReading) (new : Option NewValue)
    → edits_of_field text f following (exchange_change new) ≡ value_edits text f new
edit_is text f following None = refl
edit_is text f following (Some new) = refl

fields_are : (exchange : Exchange) (text : List ℕ) (fs : List FieldReading)
    → edits_of_fields text fs (map (λ f. exchange_change (exchange f)) fs) ≡ field_edits exchange text fs
fields_are exchange text [] = refl
fields_are exchange text (f ∷ fs) =
    ap (λ es. es ++ edits_of_fields text fs (map (λ g. exchange_change (exchange g)) fs)) (edit_is text f fs (exchange f))
    ∙ ap (λ es. value_edits text f (exchange f) ++ es) (fields_are exchange text fs)

-- the edits of replaced values are those of the changes
pub edits_are_changes : (exchange : EntryReading → Exchange) (text : List ℕ) (es : List EntryReading)
    → each_edits exchange text es ≡ edits_of_entries (λ e. exchanges (exchange e) e) text es
edits_are_changes exchange text [] = refl
edits_are_changes exchange text (e ∷ es) =
    ap (λ xs. xs ++ each_edits exchange text es) (sym (fields_are (exchange e) text e.fields))
    ∙ ap (λ xs. edits_of_fields text e.fields (map (λ f. exchange_change (exchange e f)) e.fields) ++ xs)
    (edits_are_changes exchange text es)

-- the edits of replaced values in a UTF-8 text are in order and don't overlap
pub exchange_in_order : (d : Document) (exchange : EntryReading → Exchange) → IsDocument d → IsUtf8 d.text
    → AreEditsInOrder d.text 0 (each_edits exchange d.text d.says.entries)
exchange_in_order d exchange read utf8 =
    subst (AreEditsInOrder d.text 0) (sym (edits_are_changes exchange d.text d.says.entries))
    (changes_in_order d (λ e. exchanges (exchange e) e) read utf8)

-- ---- the text with new values parses

-- the new value of a field, if it has one, can be parsed
abbrev pub CanBeExchanged : Exchange → FieldReading → Type 0
CanBeExchanged exchange f = (new : NewValue) → exchange f ≡ Some new → CanBeRead new

value_can : (following : List FieldReading) (o : Option NewValue) → ((new : NewValue) → o ≡ Some new → CanBeRead new)
    → CanChange following (exchange_change o)
value_can following None can = tt
value_can following (Some new) can = can new refl

fields_can : (exchange : Exchange) (fs : List FieldReading) → AllByRecursion (CanBeExchanged exchange) fs
    → CanFieldsChange fs (map (λ f. exchange_change (exchange f)) fs)
fields_can exchange [] can = tt
fields_can exchange (f ∷ fs) can = (value_can fs (exchange f) can.0, fields_can exchange fs can.1)

-- if the new values can be parsed, a document's UTF-8 text with them parses to its reading with them, except for byte offsets
pub exchanged_read : (d : Document) (exchange : EntryReading → Exchange) → IsDocument d → IsUtf8 d.text
    → AllByRecursion (λ e. AllByRecursion (CanBeExchanged (exchange e)) e.fields) d.says.entries
    → IsReadPlaceless (file_changed (λ e. exchanges (exchange e) e) d.says) (text_changed (λ e. exchanges (exchange e) e) d)
exchanged_read d exchange read utf8 can =
    changed_read d (λ e. exchanges (exchange e) e) read utf8
    (all_weaker (λ e. AllByRecursion (CanBeExchanged (exchange e)) e.fields) (λ e. CanEntryChange e (exchanges (exchange e) e))
    (λ e all.
    record {
      kind = λ name is. let none : ⊥ = cc in absurd none;
      fields = fields_can (exchange e) e.fields all;
    })
    d.says.entries can)
