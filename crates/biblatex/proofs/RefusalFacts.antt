-- Errors and bibliographies of a file and of a text.
use Rattle.std.proofs.Common.{◌≡◌, ℕ, zero, suc, ◌<◌, List, [], ◌∷◌, false, length, map, refl, sym, ap, ◌∙◌, subst, inl, inr, ◌⊎◌, Some, Result, Ok, Err}
use Rattle.std.specs.Prelude.{IfErr, IfOk, OnOk, slice_get}
use Rattle.std.specs.declared.ops.Range.{Range}
use Rattle.bib_entry.specs.declared.entry.Entry.{Entry}
use Rattle.bib_abbreviations.specs.Abbreviations.{Definitions}
use Rattle.bib_collections.specs.Graph.{HasNoCycle, IsFirstOnCycle}
use Rattle.bib_collections.specs.Sorted.{ByText}
use Rattle.bib_syntax.specs.Errors.{Refuses, out_of_memory}
use Rattle.bib_syntax.specs.Grammar.{IsFile, IsRawReading}
use Rattle.bib_syntax.proofs.FileFacts.{file_same}
use Rattle.bib_syntax.proofs.AnyFacts.{file_any}
use Rattle.bib_syntax.specs.Reading.{EntryReading, FileReading}
use Rattle.bib_syntax.specs.Views.{entry_reading_of}
use Rattle.bib_syntax.specs.declared.raw.ParseError.{ParseError}
use Rattle.bib_syntax.specs.declared.raw.ParseErrorKind.TheVariants.{ReferenceCycle}
use Rattle.bib_syntax.specs.declared.raw.RawEntry.{RawEntry}
use Rattle.bib_text.specs.declared.spanned.Spanned.{Spanned}
use Rattle.bib_file_entries.specs.Bibliography.{Bibliography}
use Rattle.bib_file_entries.specs.Loaded.{AreEntries, definition_in}
use Rattle.bib_inheritance.specs.Resolving.{AreDatesRead, AreResolved, Inherits, IsCycleAt, IsDateError, IsResolvingError, graph_by, has_bad_date, texts_of_entries}
use Rattle.bib_syntax.specs.SyntaxErrors.{IsReported}
use Rattle.biblatex.specs.Headline.{IsAcceptedText, IsBibliographyOf, IsErrorOf}
use Rattle.biblatex.specs.Resolved.{AreOwn, IsAccepted, IsFirstErrorOf, IsLoaded, graph_of, names_of}
use Rattle.biblatex.proofs.ResolvedFacts.{dates_of_each, accepted_faultless}
use Rattle.bib_text.proofs.ListFacts.{some_same}

-- the raw entry of the entry at an index: it has the same key
reported : {definitions : Definitions} {claimed : List (List ℕ)} (said : List EntryReading) (own : List Entry)
    (index : ℕ) (entry : Entry) → AreEntries definitions claimed said own → slice_get own index ≡ Some entry
    → (one : EntryReading) × (slice_get said index ≡ Some one) × (entry.key ≡ one.key.text)
reported said own index entry AreEntries.none there = cc
reported (one ∷ said) (first ∷ own) zero entry (AreEntries.next fresh is rest) there =
    (one, refl, sym (ap (λ (e : Entry). e.key) (some_same there)) ∙ is.key)
reported (one ∷ said) (first ∷ own) (suc index) entry (AreEntries.next fresh is rest) there = reported said own index entry rest there

-- a raw entry starts and ends where its span does
raw_at : (raw : List (Spanned RawEntry)) (index : ℕ) (one : EntryReading) (span : Range ℕ)
    → slice_get (map entry_reading_of raw) index ≡ Some one → slice_get (map (λ r. r.span) raw) index ≡ Some span
    → (one.start ≡ span.start) × (one.end ≡ span.end)
raw_at [] index one span there stands = cc
raw_at (r ∷ raw) zero one span there stands = (
  ap (λ (o : EntryReading). o.start) (sym (some_same there)) ∙ ap (λ (s : Range ℕ). s.start) (some_same stands),
  ap (λ (o : EntryReading). o.end) (sym (some_same there)) ∙ ap (λ (s : Range ℕ). s.end) (some_same stands),
)
raw_at (r ∷ raw) (suc index) one span there stands = raw_at raw index one span there stands

range_is : (s t : Range ℕ) → s.start ≡ t.start → s.end ≡ t.end → s ≡ t
range_is s t a b = λ i. record { start = a i; end = b i }

-- the error of a cycle has the span and the key of the raw entry
cycle_reported : {definitions : Definitions} {claimed : List (List ℕ)} (raw : List (Spanned RawEntry))
    (own : List Entry) (index : ℕ) (e : ParseError) → AreEntries definitions claimed (map entry_reading_of raw) own
    → IsCycleAt (map (λ r. r.span) raw) own index e
    → (one : EntryReading) × (slice_get (map entry_reading_of raw) index ≡ Some one)
    ×
    (let span : Range ℕ = record { start = one.start; end = one.end } in
    e ≡ record { span = span; kind = ReferenceCycle one.key.text })
cycle_reported raw own index e are at =
    let one = reported (map entry_reading_of raw) own index at.entry are at.here in
    let stands = raw_at raw index one.0 at.span one.1 at.stands in (
      one.0,
      one.1,
      at.is
          ∙ ap (λ (s : Range ℕ). (let f : ParseError = record { span = s; kind = ReferenceCycle at.entry.key } in f))
          (range_is at.span (record { start = one.0.start; end = one.0.end }) (sym stands.0) (sym stands.1))
          ∙ ap
          (λ k.
          (let f : ParseError =
          record { span = record { start = one.0.start; end = one.0.end }; kind = ReferenceCycle k } in
          f)) one.2,
    )

-- an error of inheriting is a first error of the raw bibliography
pub resolving_reported : {says : FileReading} (raw : List (Spanned RawEntry)) (own : List Entry) (names : ByText ℕ)
    (e : ParseError) → says.entries ≡ map entry_reading_of raw → AreOwn says own → names_of own ≡ names
    → IsResolvingError (map (λ r. r.span) raw) own (graph_by names own) e
    → IsFirstErrorOf says e
resolving_reported {says} raw own names e says_raw are named (IsResolvingError.cycle {index = index} first at) =
    let one = cycle_reported raw own index e (subst (λ l. AreEntries (definition_in says.abbreviations) [] l own) says_raw are) at in
    IsFirstErrorOf.cycle are (subst (λ n. IsFirstOnCycle (graph_by n own) index) (sym named) first)
    (record { said = one.0; there = ap (λ l. slice_get l index) says_raw ∙ one.1; is = one.2 })
resolving_reported {says} raw own names e says_raw are named
    (IsResolvingError.date {values = values} {index = index} none solves looks earlier is) =
    IsFirstErrorOf.date are (subst (λ n. HasNoCycle (graph_by n own)) (sym named) none)
    (subst (λ n. Inherits (texts_of_entries own) (graph_by n own) values) (sym named) solves) looks
    (subst
    (λ n. (other : ℕ) → other < index → has_bad_date (texts_of_entries own) (graph_by n own) values other ≡ false)
    (sym named) earlier)
    (subst (λ n. IsDateError own (graph_by n own) values index e) (sym named) is)

-- a first error of a raw bibliography shows that it is not accepted
pub refused : {says : FileReading} {T : Type 0} (r : Result T ParseError) (e : ParseError) → r ≡ Err e
    → (e ≡ out_of_memory) ⊎ IsFirstErrorOf says e
    → IfErr r (λ e. (e ≡ out_of_memory) ⊎ (IsFirstErrorOf says e × (IsAccepted says → ⊥)))
refused {says} r e is (inl memory) =
    subst (λ r. IfErr r (λ e. (e ≡ out_of_memory) ⊎ (IsFirstErrorOf says e × (IsAccepted says → ⊥)))) (sym is)
    (inl memory)
refused {says} r e is (inr error) =
    subst (λ r. IfErr r (λ e. (e ≡ out_of_memory) ⊎ (IsFirstErrorOf says e × (IsAccepted says → ⊥)))) (sym is)
    (inr (error, λ accepted. accepted_faultless accepted error))

-- a text whose raw bibliography is not accepted is not accepted, because it has no other raw bibliography
not_accepted : {says : FileReading} (text : List ℕ) → IsRawReading text says → (IsAccepted says → ⊥) → IsAcceptedText text → ⊥
not_accepted text reads none accepted = none (subst IsAccepted (file_same accepted.reading reads) accepted.accepted)

-- a first error of a raw bibliography is an error of its text, which is then not accepted
pub refused_text : {T : Type 0} {says : FileReading} (text : List ℕ) (r : Result T ParseError) → IsRawReading text says
    → IfErr r (λ e. (e ≡ out_of_memory) ⊎ (IsFirstErrorOf says e × (IsAccepted says → ⊥)))
    → IfErr r (λ e. (e ≡ out_of_memory) ⊎ (IsErrorOf text e × (IsAcceptedText text → ⊥)))
refused_text text (Ok x) reads h = tt
refused_text text (Err e) reads (inl memory) = inl memory
refused_text text (Err e) reads (inr error) = inr (IsErrorOf.first reads error.0, not_accepted text reads error.1)

-- unless it is out of memory, an error for a text that the file grammar doesn't accept is an error of the text, which isn't accepted
pub refused_syntax : {text : List ℕ} {e : ParseError} → Refuses text e (IsFile text → ⊥)
    → (e ≡ out_of_memory) ⊎ IsReported text e → (e ≡ out_of_memory) ⊎ (IsErrorOf text e × (IsAcceptedText text → ⊥))
refused_syntax (inl memory) reported = inl memory
refused_syntax (inr error) (inl memory) = inl memory
refused_syntax (inr error) (inr reported) =
    inr (IsErrorOf.syntax reported error.1, λ accepted. error.1 (accepted.says, file_any accepted.reading))

-- ---- bibliographies of raw bibliographies

-- there are as many own entries as raw entries
pub entries_count : {definitions : Definitions} {claimed : List (List ℕ)} (said : List EntryReading) (own : List Entry)
    → AreEntries definitions claimed said own → length said ≡ length own
entries_count said own AreEntries.none = refl
entries_count (one ∷ said) (first ∷ own) (AreEntries.next fresh is rest) = ap suc (entries_count said own rest)

-- resolved entries with their names are a bibliography of the raw bibliography
pub loaded : {says : FileReading} (own entries : List Entry) (names : ByText ℕ) → AreOwn says own → names_of own ≡ names
    → AreResolved own (graph_by names own) entries
    → IsLoaded says (let l : Bibliography = record { entries = entries; names = names } in l)
loaded own entries names are named resolved =
    let graph : graph_by names own ≡ graph_of own = ap (λ n. graph_by n own) (sym named) in
    let none : HasNoCycle (graph_of own) = subst HasNoCycle graph resolved.no_cycle in
    let inherits : Inherits (texts_of_entries own) (graph_of own) (texts_of_entries entries) =
    subst (λ g. Inherits (texts_of_entries own) g (texts_of_entries entries)) graph resolved.inherited.inherits in
    record {
      accepted = record {
        own = own;
        entries = are;
        no_cycle = none;
        dates =
            dates_of_each own (texts_of_entries entries) none inherits
            (subst (λ g. AreDatesRead (texts_of_entries own) g (texts_of_entries entries)) graph resolved.dates);
      };
      keys = resolved.inherited.keys;
      inherits = inherits;
      chunks = resolved.inherited.chunks;
      names = sym named;
    }

-- ---- bibliographies of texts

-- a bibliography of the raw reading of a text is a bibliography of the text
pub bibliography_of : {E : Type 0} {says : FileReading} (text : List ℕ) (r : Result Bibliography E)
    → IsRawReading text says → IfOk r (IsLoaded says) → IfOk r (IsBibliographyOf text)
bibliography_of {says = says} text (Ok bibliography) reads is = record { says = says; reading = reads; loaded = is }
bibliography_of text (Err e) reads is = tt

-- a text is accepted if its raw bibliography has a bibliography
pub accepted_text : {E : Type 0} {says : FileReading} (text : List ℕ) (r : Result Bibliography E)
    → IsRawReading text says → IfOk r (IsLoaded says) → OnOk r (IsAcceptedText text)
accepted_text {says = says} text (Ok bibliography) reads is = record { says = says; reading = reads; accepted = is.accepted }
accepted_text text (Err e) reads is = tt
