-- A document with its abbreviations expanded.
use Rattle.std.proofs.Common.{◌≡◌, ℕ, Bool, true, false, cond, List, length, refl, sym, ap, ◌∙◌, subst, Some, None, map}
use Rattle.std.specs.List.{AllByRecursion}
use Rattle.std.specs.Str.{IsUtf8}
use Rattle.std.proofs.lemmas.List.{length-map}
use Rattle.bib_text.proofs.ListFacts.{all_weaker}
use Rattle.bib_syntax.specs.Reading.{Piece, FieldReading, EntryReading}
use Rattle.bib_syntax.specs.Views.{field_of}
use Rattle.bib_syntax.specs.declared.raw.Pair.{Pair}
use Rattle.edit_entries.specs.Documents.{Document, IsDocument}
use Rattle.edit_entries.specs.Edits.{Edit, edited_all}
use Rattle.edit_entries.specs.Placed.{IsPlaced}
use Rattle.edit_entries.specs.EditList.{AreEditsInOrder}
use Rattle.edit_entries.specs.Cuts.{IsPieceCut}
use Rattle.edit_entries.specs.Changes.{file_changed, text_changed, IsReadPlaceless, NewValue}
use Rattle.edit_entries.proofs.AllFacts.{all_both, all_placed}
use Rattle.edit_entries.proofs.NewValueFacts.{CanBeRead}
use Rattle.edit_strings.specs.Exchanged.{Exchange, exchanges}
use Rattle.edit_strings.specs.Expanded.{IsExpanded, WritesOut, count_before, elements, has_defined, index_before, laid_out}
use Rattle.edit_strings.specs.Tables.{AreExpansionsCut, AreRows, IndexedPiece, IsExpansionCut, each_edits, entry_expansion, field_expanded}
use Rattle.edit_strings.proofs.ElementFacts.{AreValues, IsElement, IsSome, IsValue, can_be_read, file_stands, is_cut}
use Rattle.edit_strings.proofs.ExchangedFacts.{CanBeExchanged, edits_are_changes, exchange_in_order, exchanged_read}
use Rattle.edit_strings.proofs.LeftFacts.{all_written, count_within, writes_by}
use Rattle.edit_strings.proofs.WrittenFacts.{written_all, written_some}

-- the rows of the code are those of the definitions
pub known_rows : (pairs : List Pair) (definitions : List FieldReading) (rows : List (List IndexedPiece)) → map field_of pairs ≡ definitions
    → AreRows (map field_of pairs) (length pairs) rows → AreRows definitions (length definitions) rows
known_rows pairs definitions rows same known =
    subst (λ fs. AreRows fs (length fs) rows) same
    (subst (λ n. AreRows (map field_of pairs) n rows) (sym (length-map pairs field_of)) known)

-- the edits of the code are those of a document
pub known_edits : (d : Document) (rows : List (List IndexedPiece)) (edits : List Edit) (text : List ℕ) (fs : List FieldReading)
    (es : List EntryReading) → text ≡ d.text → fs ≡ d.says.abbreviations → es ≡ d.says.entries
    → edits ≡ each_edits (entry_expansion text fs rows) text es
    → edits ≡ each_edits (entry_expansion d.text d.says.abbreviations rows) d.text d.says.entries
known_edits d rows edits text fs es same defined listed are =
    are ∙ ap (λ t. each_edits (entry_expansion t fs rows) t es) same
    ∙ ap (λ gs. each_edits (entry_expansion d.text gs rows) d.text es) defined
    ∙ ap (each_edits (entry_expansion d.text d.says.abbreviations rows) d.text) listed

module _ (d : Document) (read : IsDocument d) (rows : List (List IndexedPiece))
    (known : AreRows d.says.abbreviations (length d.says.abbreviations) rows) where
  abbrev defined : List FieldReading
  defined = d.says.abbreviations

  abbrev written_as : EntryReading → FieldReading → List Piece
  written_as e f = field_expanded rows (index_before defined (count_before defined e)) f

  abbrev exchange : EntryReading → Exchange
  exchange e = entry_expansion d.text defined rows e

  values : AreValues d.text d.says
  values = file_stands d.text refl read

  definition_elements : AllByRecursion (λ f. AllByRecursion (IsElement d.text) (elements f)) defined
  definition_elements =
      all_weaker (IsValue d.text) (λ f. AllByRecursion (IsElement d.text) (elements f)) (λ f value. value.all) defined
      values.definitions

  writes : (e : EntryReading) (f : FieldReading) → WritesOut defined (count_before defined e) (elements f) (written_as e f)
  writes e f = writes_by d.says rows known e f

  written_elements : (e : EntryReading) (f : FieldReading) → IsValue d.text f → AllByRecursion (IsElement d.text) (written_as e f)
  written_elements e f value = written_all (IsElement d.text) defined definition_elements value.all (writes e f)

  -- the literals of each expansion begin at character boundaries
  pub expansions_cut : AreExpansionsCut d.text defined rows d.says.entries
  expansions_cut =
      all_weaker (λ e. AllByRecursion (IsPlaced d.text) e.fields × AllByRecursion (IsValue d.text) e.fields)
      (λ e. AllByRecursion (IsExpansionCut d.text rows (index_before defined (count_before defined e))) e.fields)
      (λ e both.
      all_weaker (λ f. IsPlaced d.text f × IsValue d.text f)
      (IsExpansionCut d.text rows (index_before defined (count_before defined e)))
      (λ f here.
      record {
        placed = here.0;
        pieces = all_weaker (IsElement d.text) (IsPieceCut d.text) (is_cut d.text) (written_as e f) (written_elements e f here.1);
      })
      e.fields (all_both (IsPlaced d.text) (IsValue d.text) e.fields both.0 both.1))
      d.says.entries
      (all_both (λ e. AllByRecursion (IsPlaced d.text) e.fields) (λ e. AllByRecursion (IsValue d.text) e.fields) d.says.entries
      (all_placed d read) values.entries)

  value_read : (e : EntryReading) (f : FieldReading) → IsValue d.text f → CanBeExchanged (exchange e) f
  value_read e f value new = by_case (has_defined (index_before defined (count_before defined e)) (elements f))
    where
      out : CanBeRead (record { bytes = laid_out d.text (written_as e f); pieces = written_as e f })
      out =
          can_be_read d.text (written_as e f)
          (written_some defined (count_within defined e)
          (all_weaker (IsValue d.text) (λ g. IsSome (elements g)) (λ g v. v.some) defined values.definitions)
          value.some (writes e f))
          (written_elements e f value)

      by_case : (b : Bool)
          → cond b
          (Some
          (let n : NewValue = record { bytes = laid_out d.text (written_as e f); pieces = written_as e f } in n))
          None ≡ Some new → CanBeRead new
      by_case true is =
          let same : (let n : NewValue = record { bytes = laid_out d.text (written_as e f); pieces = written_as e f } in n)
          ≡ new =
          cc in
          subst CanBeRead same out
      by_case false is = absurd (cc)

  module _ (utf8 : IsUtf8 d.text) where
    pub in_order : AreEditsInOrder d.text 0 (each_edits exchange d.text d.says.entries)
    in_order = exchange_in_order d exchange read utf8

    pub expanded : (text : List ℕ) → text ≡ edited_all (each_edits exchange d.text d.says.entries) d.text → IsExpanded d text
    expanded text is = record {
      written = written_as;
      each = all_written d.says rows known;
      changed =
          let whole : text ≡ text_changed (λ e. exchanges (exchange e) e) d =
          is ∙ ap (λ es. edited_all es d.text) (edits_are_changes exchange d.text d.says.entries) in
          record {
            is = whole;
            read = subst (IsReadPlaceless (file_changed (λ e. exchanges (exchange e) e) d.says)) (sym whole)
                (exchanged_read d exchange read utf8
                (all_weaker (λ e. AllByRecursion (IsValue d.text) e.fields)
                (λ e. AllByRecursion (CanBeExchanged (exchange e)) e.fields)
                (λ e all. all_weaker (IsValue d.text) (CanBeExchanged (exchange e)) (value_read e) e.fields all)
                d.says.entries values.entries));
          };
    }
