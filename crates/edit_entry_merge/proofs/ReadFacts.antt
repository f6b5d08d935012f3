-- The text with the fields that count parses to the merged fields.
use Rattle.std.proofs.Common.{◌≡◌, ℕ, Bool, true, false, cond, List, [], ◌∷◌, ◌++◌, map, refl, sym, ap, ◌∙◌, subst, append-nil, append_assoc, Option, Some, None}
use Rattle.std.specs.Prelude.{◌&&◌, ◌||◌, not}
use Rattle.std.specs.List.{AllByRecursion, flat_map, list_all, list_any}
use Rattle.std.proofs.lemmas.Bool.{and_parts}
use Rattle.std.proofs.lemmas.List.{map-append}
use Rattle.bib_queries.specs.EqualValues.{are_equal_pieces}
use Rattle.bib_text.proofs.ListFacts.{found_has}
use Rattle.bib_syntax.specs.Grammar.{IsRawReading}
use Rattle.bib_syntax.specs.Reading.{FieldReading, FileReading}
use Rattle.edit_entries.specs.Changes.{EntryChange, FieldChange, IsReadPlaceless, edits_of_entry, entry_changed, field_changed, field_reading, fields_changed, file_changed, text_changed}
use Rattle.edit_entries.specs.Documents.{Document, has_name}
use Rattle.edit_entries.specs.Edits.{edited_all, moved_entry, moved_field, placeless}
use Rattle.edit_entries.specs.Placed.{IsNamePlaced}
use Rattle.edit_entries.specs.Setting.{white_before}
use Rattle.edit_entries.proofs.ChangesFacts.{CanChange, CanEntryChange, CanFieldsChange, changed_read}
use Rattle.edit_entries.proofs.NewFieldFacts.{CanBePut}
use Rattle.edit_entries.proofs.NewValueFacts.{CanBeRead}
use Rattle.edit_entries.proofs.WhiteBeforeFacts.{before_white}
use Rattle.edit_entry_merge.specs.Merges.{merged_reading}
use Rattle.edit_entry_merge.specs.Mixed.{can_write, closing_changes, copied, copied_field, mixed_field_changes, field_written, has_inner_comment, is_empty_list, last_changes, mixed_change, mixed_text, picked_change, sign_for}
use Rattle.edit_entry_merge.specs.Picks.{FieldPick, additions, field_merged, is_added, is_staying, pick, pick_instead, picks}
use Rattle.edit_entry_merge.specs.Versions.{Version, named}
use Rattle.edit_entry_merge.specs.Working.{IsReadVersion}
use Rattle.edit_entry_merge.proofs.CopyFacts.{fields_can, signs_for}
use Rattle.edit_entry_merge.proofs.MixedFacts.{document_edits, document_of, editable, filtered}

-- a field without byte offsets
abbrev bare : FieldReading → FieldReading
bare f = moved_field (λ at. 0) f

module _ (text other : List ℕ) where
  -- the value of a copied field can be written
  abbrev CanPick : FieldPick → Type 0
  CanPick FieldPick.keep = Unit {0}
  CanPick (FieldPick.copy g) = CanBeRead (copied other g)
  CanPick FieldPick.remove = Unit {0}

  written_can : (f : FieldReading) (p : FieldPick) → CanBePut (copied_field text f) → CanPick p → CanBePut (field_written text other f p)
  written_can f FieldPick.keep can picked = can
  written_can f (FieldPick.copy g) can picked = record { name = can.name; value = picked }
  written_can f FieldPick.remove can picked = can

  all_put : (added : List FieldReading) → AllByRecursion (λ g. CanBePut (copied_field other g)) added
      → AllByRecursion CanBePut (map (copied_field other) added)
  all_put [] all = tt
  all_put (g ∷ added) all = (all.0, all_put added all.1)

  -- ---- the changes can be made

  own_can : (following : List FieldReading) (p : FieldPick) → CanPick p
      → ((p ≡ FieldPick.remove) → (g : FieldReading) × (gs : List FieldReading) × (following ≡ g ∷ gs))
      → CanChange following (picked_change other p)
  own_can following FieldPick.keep can more = tt
  own_can following (FieldPick.copy g) can more = can
  own_can following FieldPick.remove can more = more refl

  removed_can : (f : FieldReading) (following : List FieldReading) (change : FieldChange) → ((fs : List FieldReading) → CanChange fs change)
      → CanFieldsChange (f ∷ following) (map (λ g. FieldChange.removed) following ++ change ∷ [])
  removed_can f [] change can = (can [], tt)
  removed_can f (g ∷ gs) change can = ((g, gs, refl), removed_can g gs change can)

  module _ (all : List FieldReading) (added : List FieldReading) (puts : AllByRecursion (λ g. CanBePut (copied_field other g)) added) where
    closing_can : (f : FieldReading) (p : FieldPick) (following : List FieldReading) → CanBePut (copied_field text f) → CanPick p
        → IsNamePlaced text f → CanFieldsChange (f ∷ following) (closing_changes text other all f p following added)
    closing_can f p following can picked name =
        removed_can f following
        (FieldChange.replaced (sign_for text f all) (field_written text other f p) (map (copied_field other) added)
        (white_before text f.name.start))
        (λ fs. (
          signs_for text f all,
          written_can f p can picked,
          all_put added puts,
          before_white text f.name.start name.start.0,
        ))

    last_can : (f : FieldReading) (p : FieldPick) (following others : List FieldReading) → others ≡ added → is_staying p ≡ true
        → CanBePut (copied_field text f) → CanPick p
        → IsNamePlaced text f → CanFieldsChange (f ∷ following) (last_changes text other all f p following others)
    last_can f p [] [] is stays can picked name =
        (own_can [] p picked (λ gone. absurd (let clash : false ≡ true = ap is_staying (sym gone) ∙ stays in cc)), tt)
    last_can f p [] (g ∷ others) is stays can picked name =
        subst (λ l. CanFieldsChange (f ∷ []) (closing_changes text other all f p [] l)) (sym is) (closing_can f p [] can picked name)
    last_can f p (h ∷ following) others is stays can picked name =
        subst (λ l. CanFieldsChange (f ∷ h ∷ following) (closing_changes text other all f p (h ∷ following) l)) (sym is)
        (closing_can f p (h ∷ following) can picked name)

    fields_change : (picked : FieldReading → FieldPick) (fs : List FieldReading) → list_any is_staying (map picked fs) ≡ true
        → AllByRecursion (λ f. CanBePut (copied_field text f)) fs → AllByRecursion (IsNamePlaced text) fs
        → ((f : FieldReading) → CanPick (picked f)) → CanFieldsChange fs (mixed_field_changes text other all added (map picked fs) fs)
    fields_change picked [] one can names each = tt
    fields_change picked (f ∷ fs) one can names each =
        by_case (list_any is_staying (map picked fs)) refl (λ later. fields_change picked fs later can.1 names.1 each)
      where
        followed : (gs : List FieldReading) → list_any is_staying (map picked gs) ≡ true
            → (g : FieldReading) × (rest : List FieldReading) × (gs ≡ g ∷ rest)
        followed [] none = absurd (cc)
        followed (g ∷ gs) some = (g, gs, refl)

        by_case : (b : Bool) → list_any is_staying (map picked fs) ≡ b
            → (list_any is_staying (map picked fs) ≡ true
            → CanFieldsChange fs (mixed_field_changes text other all added (map picked fs) fs))
            → CanFieldsChange (f ∷ fs)
            (cond b (picked_change other (picked f) ∷ mixed_field_changes text other all added (map picked fs) fs)
            (last_changes text other all f (picked f) fs added))
        by_case true later rest = (own_can fs (picked f) (each f) (λ gone. followed fs later), rest later)
        by_case false none rest =
            last_can f (picked f) fs added refl (stays (is_staying (picked f)) none one) can.0 (each f) names.0
          where
            stays : (c : Bool) → list_any is_staying (map picked fs) ≡ false → (c || list_any is_staying (map picked fs)) ≡ true → c ≡ true
            stays true none one = refl
            stays false none one = sym none ∙ one

    -- ---- the fields after the changes

    removed_are : (f : FieldReading) (following : List FieldReading) (change : FieldChange)
        → ((g : FieldReading) → field_changed g change ≡ field_changed f change)
        → fields_changed (f ∷ following) (map (λ g. FieldChange.removed) following ++ change ∷ []) ≡ field_changed f change
    removed_are f [] change same = append-nil (field_changed f change)
    removed_are f (g ∷ gs) change same =
        removed_are g gs change (λ h. same h ∙ sym (same g)) ∙ same g

    bare_copies : (gs : List FieldReading) → map bare (map field_reading (map (copied_field other) gs)) ≡ map bare gs
    bare_copies [] = refl
    bare_copies (g ∷ gs) = ap (λ l. bare g ∷ l) (bare_copies gs)

    bare_written : (f : FieldReading) (p : FieldPick) → is_staying p ≡ true
        → bare (field_reading (field_written text other f p)) ∷ [] ≡ map bare (field_merged f p)
    bare_written f FieldPick.keep stays = refl
    bare_written f (FieldPick.copy g) stays = refl
    bare_written f FieldPick.remove stays = absurd (cc)

    bare_own : (f : FieldReading) (p : FieldPick) → map bare (field_changed f (picked_change other p)) ≡ map bare (field_merged f p)
    bare_own f FieldPick.keep = refl
    bare_own f (FieldPick.copy g) = refl
    bare_own f FieldPick.remove = refl

    closing_are : (f : FieldReading) (p : FieldPick) (following others : List FieldReading) → is_staying p ≡ true
        → map bare (fields_changed (f ∷ following) (closing_changes text other all f p following others))
        ≡ map bare (field_merged f p ++ others)
    closing_are f p following others stays =
        ap (map bare)
        (removed_are f following
        (FieldChange.replaced (sign_for text f all) (field_written text other f p) (map (copied_field other) others)
        (white_before text f.name.start)) (λ g. refl))
        ∙ ap (λ l. bare (field_reading (field_written text other f p)) ∷ l) (bare_copies others)
        ∙ ap (λ l. l ++ map bare others) (bare_written f p stays)
        ∙ sym (map-append bare (field_merged f p) others)

    last_are : (f : FieldReading) (p : FieldPick) (following others : List FieldReading) → is_staying p ≡ true
        → map bare (fields_changed (f ∷ following) (last_changes text other all f p following others))
        ≡ map bare (field_merged f p ++ others)
    last_are f p [] [] stays =
        ap (map bare) (append-nil (field_changed f (picked_change other p))) ∙ bare_own f p
        ∙ ap (map bare) (sym (append-nil (field_merged f p)))
    last_are f p [] (g ∷ others) stays = closing_are f p [] (g ∷ others) stays
    last_are f p (h ∷ following) others stays = closing_are f p (h ∷ following) others stays

    none_merged : (picked : FieldReading → FieldPick) (fs : List FieldReading) → list_any is_staying (map picked fs) ≡ false
        → flat_map (λ f. field_merged f (picked f)) fs ≡ []
    none_merged picked [] none = refl
    none_merged picked (f ∷ fs) none = by_pick (picked f) none (none_merged picked fs)
      where
        by_pick : (p : FieldPick) → (is_staying p || list_any is_staying (map picked fs)) ≡ false
            → (list_any is_staying (map picked fs) ≡ false → flat_map (λ f. field_merged f (picked f)) fs ≡ [])
            → field_merged f p ++ flat_map (λ f. field_merged f (picked f)) fs ≡ []
        by_pick FieldPick.keep none rest = absurd (cc)
        by_pick (FieldPick.copy g) none rest = absurd (cc)
        by_pick FieldPick.remove none rest = rest none

    fields_are : (picked : FieldReading → FieldPick) (fs : List FieldReading) → list_any is_staying (map picked fs) ≡ true
        → map bare (fields_changed fs (mixed_field_changes text other all added (map picked fs) fs))
        ≡ map bare (flat_map (λ f. field_merged f (picked f)) fs ++ added)
    fields_are picked [] one = absurd (cc)
    fields_are picked (f ∷ fs) one = by_case (list_any is_staying (map picked fs)) refl (fields_are picked fs)
      where
        merged : List FieldReading
        merged = flat_map (λ f. field_merged f (picked f)) fs

        by_case : (b : Bool) → list_any is_staying (map picked fs) ≡ b
            → (list_any is_staying (map picked fs) ≡ true
            → map bare (fields_changed fs (mixed_field_changes text other all added (map picked fs) fs)) ≡ map bare (merged ++ added))
            → map bare
            (fields_changed (f ∷ fs)
            (cond b (picked_change other (picked f) ∷ mixed_field_changes text other all added (map picked fs) fs)
            (last_changes text other all f (picked f) fs added)))
            ≡ map bare ((field_merged f (picked f) ++ merged) ++ added)
        by_case true later rest =
            map-append bare (field_changed f (picked_change other (picked f)))
            (fields_changed fs (mixed_field_changes text other all added (map picked fs) fs))
            ∙ ap (λ l. l ++ map bare (fields_changed fs (mixed_field_changes text other all added (map picked fs) fs)))
            (bare_own f (picked f))
            ∙ ap (λ l. map bare (field_merged f (picked f)) ++ l) (rest later)
            ∙ sym (map-append bare (field_merged f (picked f)) (merged ++ added))
            ∙ ap (map bare) (sym (append_assoc (field_merged f (picked f)) merged added))
        by_case false none rest =
            last_are f (picked f) fs added (stays (is_staying (picked f)) none one)
            ∙ ap (λ l. map bare (l ++ added))
            (sym (append-nil (field_merged f (picked f))) ∙ ap (λ l. field_merged f (picked f) ++ l) (sym (none_merged picked fs none)))
          where
            stays : (c : Bool) → list_any is_staying (map picked fs) ≡ false → (c || list_any is_staying (map picked fs)) ≡ true → c ≡ true
            stays true none one = refl
            stays false none one = sym none ∙ one

-- ---- versions

module _ (takes : List ℕ → Bool) (main other : Version) (rm : IsReadVersion main) (ro : IsReadVersion other) where
  can_pick : (f : FieldReading) → CanPick main.text other.text (pick takes other f)
  can_pick f = by_case (takes f.name.text)
    where
      instead : (o : Option FieldReading) → ((g : FieldReading) → o ≡ Some g → CanBePut (copied_field other.text g))
          → CanPick main.text other.text (pick_instead f o)
      instead None each = tt
      instead (Some g) each = by_value (are_equal_pieces f.value.pieces g.value.pieces)
        where
          by_value : (b : Bool) → CanPick main.text other.text (cond b FieldPick.keep (FieldPick.copy g))
          by_value true = tt
          by_value false = (each g refl).value

      by_case : (b : Bool) → CanPick main.text other.text (cond b (pick_instead f (named f.name.text other)) FieldPick.keep)
      by_case true =
          instead (named f.name.text other)
          (λ g is.
          found_has (λ h. CanBePut (copied_field other.text h)) (has_name f.name.text) other.entry.fields g (fields_can other ro) is)
      by_case false = tt

  added_can : AllByRecursion (λ g. CanBePut (copied_field other.text g)) (additions takes main other)
  added_can = filtered (λ g. CanBePut (copied_field other.text g)) (is_added takes main) other.entry.fields (fields_can other ro)

  mixed_can : list_any is_staying (picks takes main other) ≡ true → CanEntryChange main.entry (mixed_change takes main other)
  mixed_can one = record {
    kind = λ name is. let none : ⊥ = cc in absurd none;
    fields =
        fields_change main.text other.text main.entry.fields (additions takes main other) added_can (pick takes other) main.entry.fields one
        (fields_can main rm) (editable main rm).names can_pick;
  }

  -- a text with the fields that count parses to the merged fields, except for byte offsets
  pub mixed_read : (text : List ℕ) → mixed_text takes main other ≡ Some text
      → IsReadPlaceless (merged_reading rm.says takes main other) text
  mixed_read text is = by_case (can_write main (picks takes main other) (additions takes main other)) refl is
    where
      d : Document
      d = document_of main rm

      change : EntryChange
      change = mixed_change takes main other

      new : List ℕ
      new = edited_all (edits_of_entry main.text main.entry change) main.text

      with_fields : List FieldReading → FileReading
      with_fields fs = placeless (record rm.says { entries = (record main.entry { fields = fs }) ∷ [] })

      by_bare : List FieldReading → FileReading
      by_bare fs =
          record (placeless rm.says) {
            entries = (record (moved_entry (λ at. 0) main.entry) { fields = fs }) ∷ [];
          }

      by_case : (b : Bool) → can_write main (picks takes main other) (additions takes main other) ≡ b → cond b (Some new) None ≡ Some text
          → IsReadPlaceless (merged_reading rm.says takes main other) text
      by_case false can is = absurd (cc)
      by_case true can is =
          let same : new ≡ text = cc in
          let one : list_any is_staying (picks takes main other) ≡ true =
          (and_parts (list_any is_staying (picks takes main other))
          ((list_all is_staying (picks takes main other) && is_empty_list (additions takes main other)) || not
          (has_inner_comment main)) can).0 in
          let read : IsReadPlaceless (file_changed (λ e. change) d.says) (text_changed (λ e. change) d) =
          changed_read d (λ e. change) rm.read rm.utf8
          (subst (AllByRecursion (λ e. CanEntryChange e change)) (sym rm.only) (mixed_can one, tt)) in
          let alike : placeless (file_changed (λ e. change) rm.says) ≡ placeless (merged_reading rm.says takes main other) =
          ap (λ es. placeless (record rm.says { entries = map (λ e. entry_changed e change) es })) rm.only
          ∙ ap by_bare
          (fields_are main.text other.text main.entry.fields (additions takes main other) added_can
          (pick takes other) main.entry.fields one) in
          record {
            tells = read.tells;
            read =
                subst (λ t. IsRawReading t read.tells)
                (ap (λ l. edited_all l main.text) (document_edits main rm change) ∙ same) read.read;
            alike = read.alike ∙ alike;
          }
