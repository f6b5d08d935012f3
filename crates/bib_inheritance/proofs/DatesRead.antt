-- Entries that lack a required date and refer to an entry with an unreadable date.
use Rattle.std.proofs.Common.{◌≡◌, ℕ, zero, suc, List, [], ◌∷◌, ◌++◌, take, drop, Bool, false, true, ◌&&◌, get_or, length, map, refl, sym, ap, subst, arith, ◌∙◌, Option, Some, None}
use Rattle.std.specs.Prelude.{IsSomeAnd, codes, slice_get}
use Rattle.std.specs.FinMap as by_name
use Rattle.std.proofs.lemmas.List.{length-map}
use Rattle.std.proofs.Math.Seq.{take-append_seam}
use Rattle.std.proofs.lemmas.Option.{get_or_from_slice_get, slice_get-get_or, slice_get_within}
use Rattle.std.specs.List.{list_any}
use Rattle.std.specs.declared.ops.Range.{Range}
use Rattle.bib_chunks.specs.Styled.{Atom}
use Rattle.bib_dates.specs.Readings.{IsDateKind, MayRefuse}
use Rattle.bib_dates.proofs.KindFacts.{has_date_kind}
use Rattle.bib_entry.specs.declared.entry.Entry.{Entry}
use Rattle.bib_tables.specs.declared.type_error.TypeError.{TypeError}
use Rattle.bib_tables.specs.declared.type_error.TypeErrorKind.{TypeErrorKind}
use Rattle.bib_collections.specs.Graph.{Graph, HasNoCycle, refs_of}
use Rattle.bib_inheritance.specs.InheritableDate.{DateMayFail, IsPlaceOfDate, looks_for_date, three_fields}
use Rattle.bib_inheritance.specs.References.{plain}
use Rattle.bib_inheritance.specs.EntryTexts.{EntryTexts, FieldTexts}
use Rattle.bib_syntax.specs.declared.raw.ParseError.{ParseError}
use Rattle.bib_syntax.specs.declared.raw.ParseErrorKind.TheVariants.{ResolutionError}
use Rattle.bib_inheritance.specs.Resolving.{AllKeepChunks, Inherits, IsPlaceAt, IsResolvingError, at_index, has_bad_date, is_bad_date, texts_of_entries, texts_of_entry}
use Rattle.bib_inheritance.specs.Turning.{IsFirstUnread, is_unread_at}
use Rattle.bib_inheritance.proofs.TurnFacts.{texts_at_index}

-- the flag at an index tells whether the entry there lacks a required date
pub looks_at : (own : List Entry) (index : ℕ)
    → get_or (map (λ e. looks_for_date (texts_of_entry e)) own) index false
    ≡ looks_for_date (at_index (texts_of_entries own) index)
looks_at [] index = refl
looks_at (e ∷ own) zero = refl
looks_at (e ∷ own) (suc index) = looks_at own index

-- the flags lead to the same bad dates as the definition
pub bad_at : (own : List Entry) (looks : List Bool) (graph : Graph) (values : List EntryTexts) (index : ℕ)
    → looks ≡ map (λ e. looks_for_date (texts_of_entry e)) own
    → is_unread_at looks graph values index ≡ has_bad_date (texts_of_entries own) graph values index
bad_at own looks graph values index are =
    ap (λ b. b && list_any (is_bad_date values) (refs_of graph index))
    (ap (λ l. get_or l index false) are ∙ looks_at own index)

-- parsing a date in three fields fails only with kinds that dates have
pub of_dates : (fields : FieldTexts) (kind : TypeErrorKind) → DateMayFail fields kind → IsDateKind kind
of_dates fields kind = go (fields (codes "year")) where
  go : (year : Option (List Atom)) → IsSomeAnd year (λ y. MayRefuse (three_fields fields (plain y)) kind) → IsDateKind kind
  go None may = absurd may
  go (Some y) may = has_date_kind (three_fields fields (plain y)) kind may

-- if entries have the keys of the own entries, each of them has an own entry at its index
written_at : (own entries : List Entry) (index : ℕ) (entry : Entry) → map (λ e. e.key) entries ≡ map (λ e. e.key) own
    → slice_get entries index ≡ Some entry → (written : Entry) × (slice_get own index ≡ Some written)
written_at own entries index entry keys there =
    let as_long : length entries ≡ length own =
    sym (length-map entries (λ (e : Entry). e.key)) ∙ ap length keys ∙ length-map own (λ (e : Entry). e.key) in
    (get_or own index entry, slice_get-get_or own index entry (omega (arith, slice_get_within entries index entry there, as_long)))

-- the span of the date error of a resolved entry is one that `IsPlaceAt` allows by the own entries
pub place_unread : (own entries : List Entry) (index : ℕ) (entry : Entry) (place : Range ℕ)
    → map (λ e. e.key) entries ≡ map (λ e. e.key) own → AllKeepChunks own entries → slice_get entries index ≡ Some entry
    → IsPlaceOfDate (by_name.get entry.fields) place
    → IsPlaceAt own (texts_of_entries entries) index place
place_unread own entries index entry place keys kept there lies =
    let written = written_at own entries index entry keys there in
    let within = slice_get_within entries index entry there in
    record {
      written = written.0;
      there = written.1;
      entry = entry;
      becomes = sym (texts_at_index entries index entry within (sym (get_or_from_slice_get entries index entry entry there)));
      keeps = kept index written.0 entry written.1 there;
      lies = lies;
    }

-- without cycles, the error of the first flagged entry that refers to a bad date is an error of inheriting
pub date_unread : (spans : List (Range ℕ)) (own : List Entry) (looks : List Bool) (graph : Graph) (entries : List Entry)
    (error : TypeError) (e : ParseError)
    →
    ((index : ℕ)
    → is_unread_at looks graph (texts_of_entries entries) index
    ≡ has_bad_date (texts_of_entries own) graph (texts_of_entries entries) index)
    → ((index : ℕ) → get_or looks index false ≡ true → looks_for_date (at_index (texts_of_entries own) index) ≡ true)
    → HasNoCycle graph → Inherits (texts_of_entries own) graph (texts_of_entries entries)
    → map (λ e. e.key) entries ≡ map (λ e. e.key) own → AllKeepChunks own entries
    → IsFirstUnread looks graph entries error → e ≡ record { span = error.span; kind = ResolutionError error.kind }
    → IsResolvingError spans own graph e
date_unread spans own looks graph entries error e same looking none solves keys kept first is =
    IsResolvingError.date none solves (looking first.index first.flagged)
    (λ other before. sym (same other) ∙ first.earlier other before)
    (record {
      reference = first.unread.reference;
      first = first.unread.first;
      kind = error.kind;
      is = ap (λ (x : ParseError). x.kind) is;
      may = first.unread.may;
      of_dates = of_dates (at_index (texts_of_entries entries) first.unread.reference).fields error.kind first.unread.may;
      place = subst (IsPlaceAt own (texts_of_entries entries) first.unread.reference) (ap (λ (x : ParseError). x.span) (sym is))
          (place_unread own entries first.unread.reference first.unread.entry error.span keys kept first.unread.there first.unread.lies);
    })

-- overwriting the first elements of a list by a list of length `n`, and taking `n`, gives the new elements
pub all_taken : {A : Type 0} (n : ℕ) (new old : List A) → length new ≡ n → take n (new ++ drop (length new) old) ≡ new
all_taken n new old e = subst (λ k. take k (new ++ drop (length new) old) ≡ new) e (take-append_seam new (drop (length new) old))
