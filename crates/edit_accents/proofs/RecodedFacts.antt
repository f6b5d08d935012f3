-- A document with its accents and letters in a form.
use Rattle.std.proofs.Common.{◌≡◌, ℕ, Bool, true, false, cond, List, refl, sym, ap, ◌∙◌, subst, Some, None, Result, Ok, Err}
use Rattle.std.specs.Prelude.{IfOk}
use Rattle.std.specs.List.{AllByRecursion}
use Rattle.std.specs.Str.{IsUtf8}
use Rattle.bib_text.proofs.ListFacts.{all_weaker}
use Rattle.bib_syntax.specs.Reading.{FieldReading}
use Rattle.edit_entries.specs.Changes.{IsReadPlaceless, file_changed, text_changed}
use Rattle.edit_entries.specs.Documents.{Document, IsDocument}
use Rattle.edit_entries.specs.EditList.{AreEditsInOrder}
use Rattle.edit_entries.specs.Edits.{edited_all}
use Rattle.edit_entries.proofs.NewValueFacts.{CanBeRead}
use Rattle.edit_strings.specs.Exchanged.{exchanges}
use Rattle.edit_strings.specs.Tables.{entry_edits}
use Rattle.edit_strings.proofs.ElementFacts.{IsValue, file_stands}
use Rattle.edit_strings.proofs.ExchangedFacts.{CanBeExchanged, edits_are_changes, exchange_in_order, exchanged_read}
use Rattle.edit_accents.specs.Recoded.{IsRecoded, changes_value, recoding, value_recoded}
use Rattle.edit_accents.specs.declared.recoding.Form.{Form}
use Rattle.edit_accents.proofs.ElementFacts.{can_be_read}

-- the edits that recode a UTF-8 text are in order and don't overlap
pub in_order : (form : Form) (d : Document) → IsDocument d → IsUtf8 d.text
    → AreEditsInOrder d.text 0 (entry_edits (recoding form d.text) d.text d.says.entries)
in_order form d read utf8 = exchange_in_order d (λ e. recoding form d.text) read utf8

-- the new value of a field of a UTF-8 text can be parsed
value_read : (form : Form) (text : List ℕ) (f : FieldReading) → IsUtf8 text → IsValue text f → CanBeExchanged (recoding form text) f
value_read form text f utf8 value new = by_change (changes_value form f)
  where
    by_change : (b : Bool) → cond b (Some (value_recoded form text f)) None ≡ Some new → CanBeRead new
    by_change true is =
        let same : value_recoded form text f ≡ new = cc in
        subst CanBeRead same (can_be_read form text f.value.pieces utf8 value.some value.all)
    by_change false is = absurd (cc)

pub recoded : (form : Form) (d : Document) (text : List ℕ) → IsDocument d → IsUtf8 d.text
    → text ≡ edited_all (entry_edits (recoding form d.text) d.text d.says.entries) d.text → IsRecoded form d text
recoded form d text read utf8 is =
    let whole : text ≡ text_changed (λ e. exchanges (recoding form d.text) e) d =
    is ∙ ap (λ es. edited_all es d.text) (edits_are_changes (λ e. recoding form d.text) d.text d.says.entries) in
    record {
      is = whole;
      read = subst (IsReadPlaceless (file_changed (λ e. exchanges (recoding form d.text) e) d.says)) (sym whole)
          (exchanged_read d (λ e. recoding form d.text) read utf8
          (all_weaker (λ e. AllByRecursion (IsValue d.text) e.fields) (λ e. AllByRecursion (CanBeExchanged (recoding form d.text)) e.fields)
          (λ e all.
          all_weaker (IsValue d.text) (CanBeExchanged (recoding form d.text)) (λ f value. value_read form d.text f utf8 value) e.fields
          all)
          d.says.entries (file_stands d.text refl read).entries));
    }

-- if the code returns the UTF-8 text of a document after its edits, this is the recoded document
pub recoded_answer : {A E : Type 0} (form : Form) (bytes_of : A → List ℕ) (r : Result A E) (d : Document) → IsDocument d
    → IsUtf8 d.text → IfOk r (λ new. bytes_of new ≡ edited_all (entry_edits (recoding form d.text) d.text d.says.entries) d.text)
    → IfOk r (λ new. IsRecoded form d (bytes_of new))
recoded_answer form bytes_of (Ok new) d read utf8 is = recoded form d (bytes_of new) read utf8 is
recoded_answer form bytes_of (Err e) d read utf8 is = is
