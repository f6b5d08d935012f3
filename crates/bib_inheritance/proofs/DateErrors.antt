-- An error for each entry that lacks a required date and refers to an entry with an unreadable date.
use Rattle.std.proofs.Common.{◌≡◌, ℕ, ◌+◌, List, [], ◌∷◌, ◌++◌, Bool, true, false, cond, ◌&&◌, ◌||◌, Some, get_or, map, refl, sym, ap, ◌∙◌, subst}
use Rattle.std.specs.Prelude.{find}
use Rattle.std.specs.List.{list_any}
use Rattle.std.proofs.lemmas.Bool.{false≢true}
use Rattle.bib_entry.specs.declared.entry.Entry.{Entry}
use Rattle.bib_tables.specs.declared.type_error.TypeError.{TypeError}
use Rattle.bib_collections.specs.Graph.{Graph, refs_of}
use Rattle.std.proofs.Math.Bool.{and-false}
use Rattle.bib_inheritance.specs.InheritableDate.{looks_for_date}
use Rattle.bib_inheritance.specs.EntryTexts.{EntryTexts}
use Rattle.bib_syntax.specs.declared.raw.ParseError.{ParseError}
use Rattle.bib_syntax.specs.declared.raw.ParseErrorKind.TheVariants.{ResolutionError}
use Rattle.bib_inheritance.specs.Cutting.{IsUnreadError}
use Rattle.bib_inheritance.specs.Recovered.{EachReported, passed, reported}
use Rattle.bib_inheritance.specs.Resolving.{AllKeepChunks, IsDateError, IsPlaceAt, at_index, has_bad_date, is_bad_date, texts_of_entries, texts_of_entry}
use Rattle.bib_inheritance.specs.Turning.{IsUnreadDate, is_unread_at}
use Rattle.bib_inheritance.proofs.CutFacts.{each_same}
use Rattle.bib_inheritance.proofs.DatesRead.{bad_at, of_dates, place_unread}
use Rattle.bib_text.proofs.ListFacts.{found_any}

-- ---- one more entry

module _ (looks : List Bool) (graph : Graph) (entries : List Entry) (index : ℕ) (errors : List ParseError) where
  abbrev values : List EntryTexts
  values = texts_of_entries entries

  abbrev Fails : ℕ → Type 0
  Fails k = is_unread_at looks graph values k ≡ true

  -- if the next entry doesn't lack a required date, it adds no error
  pub looks_for_none : get_or looks index false ≡ false → EachReported Fails (IsUnreadError graph entries) index errors
      → EachReported Fails (IsUnreadError graph entries) (index + 1) errors
  looks_for_none unflagged h =
      passed h
      (λ bad. false≢true (sym (ap (λ b. b && list_any (is_bad_date values) (refs_of graph index)) unflagged) ∙ bad))

  -- if no reference of it has an unreadable date, it adds no error
  pub finds_none : list_any (is_bad_date values) (refs_of graph index) ≡ false
      → EachReported Fails (IsUnreadError graph entries) index errors
      → EachReported Fails (IsUnreadError graph entries) (index + 1) errors
  finds_none read h =
      passed h
      (λ bad.
      false≢true (sym (ap (λ b. get_or looks index false && b) read ∙ and-false (get_or looks index false)) ∙ bad))

  -- if it lacks a required date, and references of it have unreadable dates, it adds the error of the first of these
  pub finds_one : (error : TypeError) (e : ParseError) → get_or looks index false ≡ true
      → IsUnreadDate entries (refs_of graph index) error
      → e ≡ record { span = error.span; kind = ResolutionError error.kind }
      → EachReported Fails (IsUnreadError graph entries) index errors
      → EachReported Fails (IsUnreadError graph entries) (index + 1) (errors ++ e ∷ [])
  finds_one error e flagged unread is h =
      reported h
      (ap (λ b. b && list_any (is_bad_date values) (refs_of graph index)) flagged
      ∙ found_any (is_bad_date values) (refs_of graph index) unread.reference unread.first)
      (record { error = error; unread = unread; is = is })

-- ---- all entries

-- the error of a date, by the resolved entries, is its error by the own entries
date_error : (own : List Entry) (graph : Graph) (entries : List Entry) (index : ℕ) (e : ParseError)
    → map (λ e. e.key) entries ≡ map (λ e. e.key) own → AllKeepChunks own entries
    → IsUnreadError graph entries index e → IsDateError own graph (texts_of_entries entries) index e
date_error own graph entries index e keys kept h = record {
  reference = h.unread.reference;
  first = h.unread.first;
  kind = h.error.kind;
  is = ap (λ (x : ParseError). x.kind) h.is;
  may = h.unread.may;
  of_dates = of_dates (at_index (texts_of_entries entries) h.unread.reference).fields h.error.kind h.unread.may;
  place = subst (IsPlaceAt own (texts_of_entries entries) h.unread.reference) (ap (λ (x : ParseError). x.span) (sym h.is))
      (place_unread own entries h.unread.reference h.unread.entry h.error.span keys kept h.unread.there h.unread.lies);
}

-- the errors of the flagged entries are those of the entries that lack a required date
pub dates_reported : (own : List Entry) (looks : List Bool) (graph : Graph) (entries : List Entry) (n : ℕ)
    (errors : List ParseError) → looks ≡ map (λ e. looks_for_date (texts_of_entry e)) own
    → map (λ e. e.key) entries ≡ map (λ e. e.key) own → AllKeepChunks own entries
    → EachReported (λ index. is_unread_at looks graph (texts_of_entries entries) index ≡ true) (IsUnreadError graph entries) n errors
    → EachReported (λ index. has_bad_date (texts_of_entries own) graph (texts_of_entries entries) index ≡ true)
    (IsDateError own graph (texts_of_entries entries)) n errors
dates_reported own looks graph entries n errors are keys kept =
    each_same (λ index. is_unread_at looks graph (texts_of_entries entries) index ≡ true)
    (λ index. has_bad_date (texts_of_entries own) graph (texts_of_entries entries) index ≡ true)
    (IsUnreadError graph entries) (IsDateError own graph (texts_of_entries entries)) n errors
    (λ index bad. sym (bad_at own looks graph (texts_of_entries entries) index are) ∙ bad)
    (λ index bad. bad_at own looks graph (texts_of_entries entries) index are ∙ bad)
    (λ index e. date_error own graph entries index e keys kept)
