-- The outcomes and the refusals of edits of a text.
use Rattle.std.proofs.Common.{◌≡◌, ◌<◌, ◌+◌, ◌⊎◌, ℕ, List, [], ◌∷◌, ◌++◌, length, take, drop, get_or, refl, sym, ap, subst, ◌∙◌, inl, inr, append_assoc, ◌≤◌, arith, Bool, Result, Ok, Err}
use Rattle.std.specs.Prelude.{IfErr, IfOk, OnOk, ◌&&◌, ◌||◌}
use Rattle.std.specs.List.{list_any}
use Rattle.bib_syntax.specs.Reading.{EntryReading}
use Rattle.std.specs.Borrow.{Bor}
use Rattle.std.specs.BTreeSet.{BTreeSet}
use Rattle.std.proofs.lemmas.List.{length-take-le, take_more, take-append-drop}
use Rattle.bib_syntax.specs.SyntaxErrors.{IsReported}
use Rattle.bib_syntax.specs.declared.raw.ParseError.{ParseError}
use Rattle.bib_syntax.specs.declared.raw.ParseErrorKind.{ParseErrorKind}
use Rattle.bib_syntax.specs.declared.raw.ParseErrorKind.TheVariants as kind
use Rattle.bib_syntax.proofs.FileFailureFacts.{file_unread}
use Rattle.edit_entries.specs.Documents.{Document, EntriesAdded, IsEdited, have_only}
use Rattle.edit_entries.specs.LineEnds.{with_line_ends_of}
use Rattle.edit_entries.specs.declared.errors.EditError.{EditError}
use Rattle.edit_entries.specs.declared.errors.EditError.TheVariants as error
use Rattle.edit_convert.specs.Conversions.{IsConverted}
use Rattle.bib_tables.specs.declared.dialects.Dialect.{Dialect}
use Rattle.edit_format.specs.Formatted.{IsReadAlike, IsTextInStyle, says_in_order, text_in_style}
use Rattle.edit_format.specs.declared.style.Style.{Style}
use Rattle.edit_entries.specs.Changes.{IsChanged}
use Rattle.edit_entries.specs.FieldEdits.{HasFitValue, edit_name, first_start, selected_edited}
use Rattle.edit_entries.specs.Selected.{EntriesRemoved, FieldsUnset, UnsettingIsRefused, would_be_empty}
use Rattle.edit_entries.specs.Setting.{CanBeNewName}
use Rattle.edit_entries.specs.declared.field_edits.FieldEdit.{FieldEdit}
use Rattle.bib_queries.specs.Needed.{is_listed}
use Rattle.bib_queries.specs.Sets.{is_in_set}
use Rattle.edit_resolve.specs.Resolved.{IsResolved}
use Rattle.edit_sort.specs.Sorted.{IsReadSorted, IsSortedText}
use Rattle.edit_strings.specs.Collected.{AreMadeAbbreviations}
use Rattle.edit_strings.specs.Expanded.{IsExpanded}
use Rattle.bibkit_edits.specs.Edited.{AreEntriesRemoved, AreFieldsEdited, AreFieldsUnset, AreMade, AreRefused, AreTextsCollected, IsDocumentConverted, IsEditRefused, IsInOrder, IsInStyle, IsMade, IsDocumentOf, IsResolvedDocument, IsWrittenOut, TextAdded}
use Rattle.edit_orders.specs.Orders.{order_parts}
use Rattle.edit_orders.specs.Places.{ArePlacesIn}
use Rattle.edit_orders.specs.declared.order.Order.{Order}
use Rattle.bibkit_edits.specs.Edited.AreMade.{none, next}
use Rattle.bibkit_edits.specs.Steps.{AddsError, AddsUnread, AreFirstMade, IsRefusedAt, IsTextRefused, StepIsRefused, edit_refusal, refusal_at, unless_no_memory}
use Rattle.bibkit_edits.specs.declared.edit.Edit.{Edit}
use Rattle.bibkit_edits.specs.declared.edit.Edit.TheVariants.{Format}
use Rattle.bibkit_edits.specs.declared.edit.Refusal.{Refusal}
use Rattle.bibkit_edits.specs.declared.edit.Refusal.TheVariants as refusal
use Rattle.bibkit_edits.specs.declared.editing.Step.{Step}
use Rattle.bibkit_edits.specs.declared.editing.Step.TheVariants as step

-- a text in a style that parses like the old one, with its fields in order, is an outcome of `Format`
pub style_made : (style : Style) (d : Document) (new : List ℕ) → new ≡ text_in_style style d.text d.says
    → IsReadAlike (says_in_order style d.text d.says) new → IsEdited (IsInStyle style d) new
style_made style d new is alike = record {
  document = record { text = new; says = alike.tells };
  outcome = record { text = is; alike = alike.alike };
  is = refl;
  read = alike.read;
}

-- a text in a style that is made from another text is the text after a format
pub text_style_made : (style : Style) (text new : List ℕ) → IsTextInStyle style text new → IsMade (Format style) text new
text_style_made style text new is =
    let document : Document = record { text = text; says = is.says } in
    record {
      document = document;
      read = record { same = refl; read = is.read };
      safe = refl;
      edited = style_made style document new is.is is.alike;
    }

-- a text sorted by the places of an order, which parses like the sorted document, is an outcome of `Sort`
pub order_made : (order : Order) (d : Document) (places new : List ℕ) → ArePlacesIn (order_parts order) d.says places
    → IsSortedText d places new → IsReadSorted d places new → IsEdited (IsInOrder order d) new
order_made order d places new placed is read = record {
  document = record { text = new; says = read.tells };
  outcome = record {
    places = places;
    placed = placed;
    text = is;
    alike = record { order = read.order; in_order = read.in_order; alike = read.alike };
  };
  is = refl;
  read = read.read;
}

-- `Expand` may return the text of a document in which the abbreviations in fields of entries are expanded
pub expansion_made : (d : Document) (new : List ℕ) → IsExpanded d new → IsEdited (IsWrittenOut d) new
expansion_made d new made = record {
  document = record { text = new; says = made.changed.read.tells };
  outcome = made;
  is = refl;
  read = made.changed.read.read;
}

-- a text with abbreviations for repeated texts is an outcome of `Collect`
pub collection_made : (d : Document) (fields : List (List ℕ)) (at_least : ℕ) (new : List ℕ)
    → AreMadeAbbreviations d fields at_least new → IsEdited (AreTextsCollected fields at_least d) new
collection_made d fields at_least new made = record {
  document = record { text = new; says = made.read.tells };
  outcome = made;
  is = refl;
  read = made.read.read;
}

-- a text with the types and fields of a dialect is an outcome of converting to that dialect
pub conversion_made : (dialect : Dialect) (d : Document) (new : List ℕ) → IsConverted dialect d new
    → IsEdited (IsDocumentConverted dialect d) new
conversion_made dialect d new made = record {
  document = record { text = new; says = made.read.tells };
  outcome = made;
  is = refl;
  read = made.read.read;
}

-- a text with its references resolved is an outcome of `Resolve`
pub resolution_made : (d : Document) (new : List ℕ) → IsResolved d new → IsEdited (IsResolvedDocument d) new
resolution_made d new made = record {
  document = record { text = new; says = made.read.tells };
  outcome = made;
  is = refl;
  read = made.read.read;
}

-- if the name and the value of an edit can be written, a text with this edit of a field of some entries is an outcome of `Fields`
pub fields_made : (keys : List (List ℕ)) (edit : FieldEdit) (set : BTreeSet (Bor (List ℕ))) (d : Document) (new : List ℕ)
    → ((key : List ℕ) → is_in_set set key ≡ is_listed keys key) → CanBeNewName (edit_name edit)
    → HasFitValue d.says.abbreviations (first_start (is_in_set set) (length d.text) d.says.entries) edit
    → IsChanged (selected_edited d.text set edit) d new → IsEdited (AreFieldsEdited keys edit d) new
fields_made keys edit set d new has name value made = record {
  document = record { text = new; says = made.read.tells };
  outcome = record { set = set; has = has; name = name; value = value; changed = made };
  is = refl;
  read = made.read.read;
}

-- if a call that succeeds returns a text with an edit that can be written, the text is an outcome of `Fields`
pub all_fields_made : {S E : Type 0} (bytes : S → List ℕ) (r : Result S E) (keys : List (List ℕ)) (edit : FieldEdit)
    (set : BTreeSet (Bor (List ℕ))) (d : Document)
    → ((key : List ℕ) → is_in_set set key ≡ is_listed keys key) → OnOk r (CanBeNewName (edit_name edit))
    → OnOk r (HasFitValue d.says.abbreviations (first_start (is_in_set set) (length d.text) d.says.entries) edit)
    → IfOk r (λ new. IsChanged (selected_edited d.text set edit) d (bytes new))
    → IfOk r (λ new. IsEdited (AreFieldsEdited keys edit d) (bytes new))
all_fields_made bytes (Ok new) keys edit set d has name value made = fields_made keys edit set d (bytes new) has name value made
all_fields_made bytes (Err e) keys edit set d has name value made = _

-- a text without a field of some entries is an outcome of `UnsetAll`
pub unset_made : (keys : List (List ℕ)) (name : List ℕ) (set : BTreeSet (Bor (List ℕ))) (d : Document) (new : List ℕ)
    → ((key : List ℕ) → is_in_set set key ≡ is_listed keys key) → IsEdited (FieldsUnset d (is_in_set set) name) new
    → IsEdited (AreFieldsUnset keys name d) new
unset_made keys name set d new has made = record {
  document = made.document;
  outcome = record { set = set; has = has; unset = made.outcome };
  is = made.is;
  read = made.read;
}

-- a text without some entries is an outcome of `RemoveAll`
pub removal_made : (keys : List (List ℕ)) (set : BTreeSet (Bor (List ℕ))) (d : Document) (new : List ℕ)
    → ((key : List ℕ) → is_in_set set key ≡ is_listed keys key) → IsEdited (EntriesRemoved d (is_in_set set)) new
    → IsEdited (AreEntriesRemoved keys d) new
removal_made keys set d new has made = record {
  document = made.document;
  outcome = record { set = set; has = has; removed = made.outcome };
  is = made.is;
  read = made.read;
}

-- two tests that select the same keys agree on whether an entry would be empty
empty_same : (one other : List ℕ → Bool) (name : List ℕ) (es : List EntryReading) → ((key : List ℕ) → one key ≡ other key)
    → list_any (would_be_empty one name) es ≡ list_any (would_be_empty other name) es
empty_same one other name [] same = refl
empty_same one other name (e ∷ es) same =
    ap (λ b. (b && have_only name e.fields) || list_any (would_be_empty one name) es) (same e.key.text)
    ∙ ap (λ b. would_be_empty other name e || b) (empty_same one other name es same)

unset_error : (one other : List ℕ → Bool) (name : List ℕ) (d : Document) (e : EditError) → ((key : List ℕ) → one key ≡ other key)
    → UnsettingIsRefused d one name e → UnsettingIsRefused d other name e
unset_error one other name d error.UnknownKey same why = why
unset_error one other name d error.KeyIsThere same why = why
unset_error one other name d error.NotAKey same why = why
unset_error one other name d error.NotAName same why = why
unset_error one other name d error.NotInBraces same why = why
unset_error one other name d error.NotBare same why = why
unset_error one other name d error.DefinitionIsThere same why = why
unset_error one other name d error.NoFieldLeft same why = sym (empty_same one other name d.says.entries same) ∙ why
unset_error one other name d error.OutOfMemory same why = tt

-- unsetting may be refused for the same reasons by two tests that select the same keys
pub unset_refused : {S : Type 0} (r : Result S EditError) (d : Document) (one other : List ℕ → Bool) (name : List ℕ)
    → ((key : List ℕ) → one key ≡ other key) → IfErr r (UnsettingIsRefused d one name) → IfErr r (UnsettingIsRefused d other name)
unset_refused (Ok new) d one other name same why = _
unset_refused (Err e) d one other name same why = unset_error one other name d e same why

-- if edits of `text` make `new`, and one more edit of `new` makes `newer`, then all these edits of `text` make `newer`
pub made_more : {edits : List Edit} {edit : Edit} {text new newer : List ℕ} → AreMade edits text new
    → IsMade edit new newer → AreMade (edits ++ edit ∷ []) text newer
made_more {newer = newer} none more = next newer more none
made_more (next between one rest) more = next between one (made_more rest more)

-- a list of edits is the edits before an index, the edit at it, and those after it
pub edits_parts : (edits : List Edit) (i : ℕ) (d : Edit) → i < length edits → edits ≡ take i edits ++ get_or edits i d ∷ drop (i + 1) edits
edits_parts edits i d below =
    sym (take-append-drop (i + 1) edits) ∙ ap (λ first. first ++ drop (i + 1) edits) (take_more edits i d below)
    ∙ append_assoc (take i edits) (get_or edits i d ∷ []) (drop (i + 1) edits)

-- without edits, the text is unchanged
pub first_none : (text : List ℕ) → AreFirstMade [] text text
first_none text = record { made = none; read = inl refl }

-- the text after an edit is a document
made_read : {edit : Edit} {text new : List ℕ} → IsMade edit text new → (d : Document) × IsDocumentOf new d
made_read made = (made.edited.document, record { same = sym made.edited.is; read = made.edited.read })

-- if the first `i` edits are made, and the edit at the index `i` is made of their text, the first `i + 1` are made
pub first_more : (edits : List Edit) (i : ℕ) (d : Edit) {text new between newer : List ℕ} → i < length edits
    → AreFirstMade (take i edits) text new → between ≡ new
    → IsMade (get_or edits i d) between newer → AreFirstMade (take (i + 1) edits) text newer
first_more edits i d {text} {new} {between} {newer} below first same made = record {
  made =
      subst (λ es. AreMade es text newer) (sym (take_more edits i d below))
      (made_more first.made (subst (λ t. IsMade (get_or edits i d) t newer) same made));
  read = inr (made_read made);
}

-- if a text is that of a document, it has no error that makes parsing fail
read_fine : {text : List ℕ} {e : ParseError} {d : Document} → IsDocumentOf text d → IsReported text e → ⊥
read_fine {text} {e} {d} read reported =
    let fails = subst (λ t. IsReported t e) (sym read.same) reported in file_unread fails.fails read.read

-- if the edits `done` are made and the edit after them may be refused, then all edits may be refused for that reason
pub first_refused : (done rest : List Edit) (edit : Edit) {text new : List ℕ} (why : Refusal)
    → AreFirstMade done text new → IsTextRefused edit new (length done) why → AreRefused (done ++ edit ∷ rest) text why
first_refused done rest edit (refusal.NotUtf8 at) first refused = absurd refused
first_refused done rest edit {text} {new} (refusal.File e) first refused =
    elim first.read as (λ _. AreRefused (done ++ edit ∷ rest) text (refusal.File e)) [
      | inl same ↦ AreRefused.file (subst (λ t. IsReported t e) same refused)
      | inr (d, read) ↦ absurd (read_fine read refused)
    ]
first_refused done rest edit {new = new} (refusal.Added e) first refused =
    AreRefused.added edit done rest new refused.more refl first.made refused.adds refused.reported
first_refused done rest edit {text} {new} (refusal.Edit at why) first refused =
    subst (λ i. AreRefused (done ++ edit ∷ rest) text (refusal.Edit i why)) (sym refused.0)
    (AreRefused.refused edit done rest new refused.1.document refl first.made refused.1.read refused.1.refused refused.1.other)
first_refused done rest edit {text} {new} (refusal.EarlyUse at definition) first refused =
    subst (λ i. AreRefused (done ++ edit ∷ rest) text (refusal.EarlyUse i definition)) (sym refused.0)
    (AreRefused.early_use edit done rest new refused.1.document refl first.made refused.1.read refused.1.meets)
first_refused done rest edit {text} {new} (refusal.ReferenceCycle at entry) first refused =
    subst (λ i. AreRefused (done ++ edit ∷ rest) text (refusal.ReferenceCycle i entry)) (sym refused.0)
    (AreRefused.reference_cycle edit done rest new refused.1.document refl first.made refused.1.read refused.1.meets)
first_refused done rest edit {text} {new} (refusal.UnbalancedQuotes at) first refused =
    subst (λ i. AreRefused (done ++ edit ∷ rest) text (refusal.UnbalancedQuotes i)) (sym refused.0)
    (AreRefused.unbalanced_quotes edit done rest new refused.1.document refl first.made refused.1.read refused.1.unsafe)
first_refused done rest edit refusal.OutOfMemory first refused = AreRefused.no_memory

-- if the edits before the index `i` are made and the edit at `i` may be refused, then all of them may be refused for that reason
pub refused_at : (edits : List Edit) (i : ℕ) (d : Edit) {text new between : List ℕ} (why : Refusal) → i < length edits
    → AreFirstMade (take i edits) text new → between ≡ new
    → IsTextRefused (get_or edits i d) between i why → AreRefused edits text why
refused_at edits i d {text} {new} why below first same refused =
    let count : length (take i edits) ≡ i = (let within : i ≤ length edits = omega (arith, below) in length-take-le i edits within) in
    subst (λ es. AreRefused es text why) (sym (edits_parts edits i d below))
    (first_refused (take i edits) (drop (i + 1) edits) (get_or edits i d) why first
    (subst (λ n. IsTextRefused (get_or edits i d) new n why) (sym count)
    (subst (λ t. IsTextRefused (get_or edits i d) t i why) same refused)))

-- if parsing the text to be added fails with an error that isn't out of memory, then that text has this error
adds_error : {edit : Edit} {text : List ℕ} {e : ParseError} → (e.kind ≡ kind.OutOfMemory → ⊥) → AddsUnread edit text e
    → AddsError edit text e
adds_error {e = e} other adds = record {
  more = adds.more;
  adds = adds.adds;
  reported = elim adds.why as (λ _. IsReported adds.more e) [ inl out ↦ absurd (other (ap (λ e. e.kind) out)) | inr reported ↦ reported ];
}

-- if parsing the text to be added may fail with an error of the kind `k`, the edit may be refused with the refusal for that kind
added_refused : (edit : Edit) (text : List ℕ) (index : ℕ) (e : ParseError) (k : ParseErrorKind) → e.kind ≡ k
    → AddsUnread edit text e → IsTextRefused edit text index (unless_no_memory k (refusal.Added e))
added_refused edit text index e kind.OutOfMemory is adds = tt
added_refused edit text index e kind.UnexpectedEof is adds =
    adds_error (λ out. let clash : kind.UnexpectedEof ≡ kind.OutOfMemory = sym is ∙ out in cc) adds
added_refused edit text index e (kind.Unexpected t) is adds =
    adds_error (λ out. let clash : kind.Unexpected t ≡ kind.OutOfMemory = sym is ∙ out in cc) adds
added_refused edit text index e (kind.Expected t) is adds =
    adds_error (λ out. let clash : kind.Expected t ≡ kind.OutOfMemory = sym is ∙ out in cc) adds
added_refused edit text index e (kind.UnknownAbbreviation n) is adds =
    adds_error (λ out. let clash : kind.UnknownAbbreviation n ≡ kind.OutOfMemory = sym is ∙ out in cc) adds
added_refused edit text index e kind.MalformedCommand is adds =
    adds_error (λ out. let clash : kind.MalformedCommand ≡ kind.OutOfMemory = sym is ∙ out in cc) adds
added_refused edit text index e (kind.DuplicateKey n) is adds =
    adds_error (λ out. let clash : kind.DuplicateKey n ≡ kind.OutOfMemory = sym is ∙ out in cc) adds
added_refused edit text index e (kind.ResolutionError t) is adds =
    adds_error (λ out. let clash : kind.ResolutionError t ≡ kind.OutOfMemory = sym is ∙ out in cc) adds
added_refused edit text index e (kind.AbbreviationCycle n) is adds =
    adds_error (λ out. let clash : kind.AbbreviationCycle n ≡ kind.OutOfMemory = sym is ∙ out in cc) adds
added_refused edit text index e (kind.ReferenceCycle n) is adds =
    adds_error (λ out. let clash : kind.ReferenceCycle n ≡ kind.OutOfMemory = sym is ∙ out in cc) adds

-- if an edit may be refused with an error that isn't out of memory, `IsEditRefused` holds for the error
why_refused : (edit : Edit) (d : Document) {why : EditError} → (why ≡ error.OutOfMemory → ⊥)
    → IsEditRefused edit d why ⊎ (why ≡ error.OutOfMemory) → IsEditRefused edit d why
why_refused edit d other (inl refused) = refused
why_refused edit d other (inr out) = absurd (other out)

-- if an edit of a document may be refused with an error that isn't out of memory, the edit of its text may be refused with it
named_refused : (edit : Edit) (text : List ℕ) (d : Document) {why : EditError} → (why ≡ error.OutOfMemory → ⊥) → IsDocumentOf text d
    → IsEditRefused edit d why ⊎ (why ≡ error.OutOfMemory) → IsRefusedAt edit text why
named_refused edit text d other read refused =
    record { document = d; read = read; refused = why_refused edit d other refused; other = other }

-- if an edit of a document may be refused with an error, the edit of its text may be refused with the same error
edit_refused : (edit : Edit) (text : List ℕ) (index : ℕ) (d : Document) (why : EditError) → IsDocumentOf text d
    → IsEditRefused edit d why ⊎ (why ≡ error.OutOfMemory)
    → IsTextRefused edit text index (edit_refusal why index)
edit_refused edit text index d error.OutOfMemory read refused = tt
edit_refused edit text index d error.UnknownKey read refused =
    (refl, named_refused edit text d (λ out. let clash : error.UnknownKey ≡ error.OutOfMemory = out in cc) read refused)
edit_refused edit text index d error.KeyIsThere read refused =
    (refl, named_refused edit text d (λ out. let clash : error.KeyIsThere ≡ error.OutOfMemory = out in cc) read refused)
edit_refused edit text index d error.NotAKey read refused =
    (refl, named_refused edit text d (λ out. let clash : error.NotAKey ≡ error.OutOfMemory = out in cc) read refused)
edit_refused edit text index d error.NotAName read refused =
    (refl, named_refused edit text d (λ out. let clash : error.NotAName ≡ error.OutOfMemory = out in cc) read refused)
edit_refused edit text index d error.NotInBraces read refused =
    (refl, named_refused edit text d (λ out. let clash : error.NotInBraces ≡ error.OutOfMemory = out in cc) read refused)
edit_refused edit text index d error.NotBare read refused =
    (refl, named_refused edit text d (λ out. let clash : error.NotBare ≡ error.OutOfMemory = out in cc) read refused)
edit_refused edit text index d error.DefinitionIsThere read refused =
    (refl, named_refused edit text d (λ out. let clash : error.DefinitionIsThere ≡ error.OutOfMemory = out in cc) read refused)
edit_refused edit text index d error.NoFieldLeft read refused =
    (refl, named_refused edit text d (λ out. let clash : error.NoFieldLeft ≡ error.OutOfMemory = out in cc) read refused)

-- if an edit of a document may fail with a step, the edit of its text may be refused with the refusal of that step
pub step_refused : (edit : Edit) (text : List ℕ) (index : ℕ) (d : Document) (s : Step) → IsDocumentOf text d
    → StepIsRefused edit d s → IsTextRefused edit text index (refusal_at s index)
step_refused edit text index d (step.Added e) read refused =
    added_refused edit text index e e.kind refl (subst (λ t. AddsUnread edit t e) read.same refused)
step_refused edit text index d (step.Refused why) read refused = edit_refused edit text index d why read refused
step_refused edit text index d (step.EarlyUse definition) read refused = (refl, record { document = d; read = read; meets = refused })
step_refused edit text index d (step.ReferenceCycle entry) read refused = (refl, record { document = d; read = read; meets = refused })
step_refused edit text index d step.UnbalancedQuotes read refused = (refl, record { document = d; read = read; unsafe = refused })

-- the result of adding the document of a text with the line ends of the file is the result of adding the text
pub adds_made : {d : Document} {text new : List ℕ} (more : Document) → IsDocumentOf (with_line_ends_of d.text text) more
    → IsEdited (EntriesAdded d more) new → IsEdited (TextAdded d text) new
adds_made more read made = record {
  document = made.document;
  outcome = record { more = more; read = read; added = made.outcome };
  is = made.is;
  read = made.read;
}
