-- The first error of a raw bibliography lies in its text, or is an error of a date.
use Rattle.std.proofs.Common.{◌≡◌, ℕ, zero, suc, ◌<◌, ◌^◌, Bool, List, [], ◌∷◌, length, refl, ap, subst, arith, inl, inr, ◌⊎◌, Option, None, Some, Result, Ok, Err}
use Rattle.std.specs.Prelude.{reverse, find, bytes_eq, option_map}
use Rattle.std.specs.Prelude.{IfErr, slice_get}
use Rattle.std.specs.List.{AllByRecursion}
use Rattle.bib_syntax.specs.Errors.{out_of_memory}
use Rattle.bib_syntax.specs.Grammar.{IsRawReading}
use Rattle.bib_syntax.proofs.SliceFacts.{file_stands}
use mathlib.Core.List.{reverse_aux}
use Rattle.bib_text.proofs.ListFacts.{found_has, some_same}
use Rattle.bib_abbreviations.specs.Abbreviations.{Definitions, IsFirstError}
use Rattle.bib_abbreviations.specs.Abbreviations.{IsFirstError as first_error}
use Rattle.bib_contents.specs.Contents.{LiesBetween}
use Rattle.bib_syntax.specs.Reading.{Part, Piece, FieldReading, EntryReading, FileReading}
use Rattle.bib_syntax.specs.Slices.{StandsIn, PieceStandsIn, FieldStandsIn, EntryStandsIn, ReadingStandsIn}
use Rattle.bib_syntax.specs.declared.raw.ParseError.{ParseError}
use Rattle.bib_file_entries.specs.Loaded.{IsFirstErrorOfEntries, IsFirstErrorOfFields, definition_in}
use Rattle.bib_text.proofs.OptionFacts.{none_is_some}
use Rattle.biblatex.specs.Resolved.{IsFirstErrorOf, IsOfDate}

-- a property that holds for each element of two lists holds for each of the first reversed before the second
turned_all : {A : Type 0} (P : A → Type 0) (xs ys : List A) → AllByRecursion P xs → AllByRecursion P ys
    → AllByRecursion P (reverse_aux xs ys)
turned_all P [] ys all more = more
turned_all P (x ∷ xs) ys all more = turned_all P xs (x ∷ ys) all.1 (all.0, more)

-- the pieces of each definition occur in the text
abbrev DefinitionsStandIn : List ℕ → Definitions → Type 0
DefinitionsStandIn text definitions =
    (name : List ℕ) (definition : List Piece) → definitions name ≡ Some definition
    → AllByRecursion (PieceStandsIn text) definition

-- the pieces of a definition occur in the text if its raw field does
definition_stands : (text : List ℕ) (definition : List Piece) (found : Option FieldReading)
    → ((f : FieldReading) → found ≡ Some f → FieldStandsIn text f)
    → option_map (λ (f : FieldReading). f.value.pieces) found ≡ Some definition → AllByRecursion (PieceStandsIn text) definition
definition_stands text definition None stands is = absurd (none_is_some is)
definition_stands text definition (Some f) stands is = subst (AllByRecursion (PieceStandsIn text)) (some_same is) (stands f refl).pieces

-- the pieces of all definitions occur in the text if the raw fields do
definitions_stand : (text : List ℕ) (abbreviations : List FieldReading)
    → AllByRecursion (FieldStandsIn text) abbreviations → DefinitionsStandIn text (definition_in abbreviations)
definitions_stand text abbreviations all name definition is =
    definition_stands text definition (find (λ f. bytes_eq name f.name.text) (reverse abbreviations))
    (λ f found.
    found_has (FieldStandsIn text) (λ f. bytes_eq name f.name.text) (reverse abbreviations) f
    (turned_all (FieldStandsIn text) abbreviations [] all tt) found) is

-- an error with the span of a part of the text lies in the text
part_lies : {text : List ℕ} {p : Part} → StandsIn text p → (e : ParseError) → e.span.start ≡ p.start
    → e.span.end ≡ p.end → LiesBetween 0 (length text) e
part_lies stands e starts ends = (omega arith, omega (arith, stands.size, starts, ends), omega (arith, stands.within, ends))

-- the first error of pieces lies in a text of fewer than 2^64 bytes, if these and the pieces of all definitions occur in it
first_error_lies : {definitions : Definitions} {is_verbatim : Bool} {path : List (List ℕ)} {pieces : List Piece}
    {e : ParseError} (text : List ℕ) → length text < 2 ^ 64
    → DefinitionsStandIn text definitions → AllByRecursion (PieceStandsIn text) pieces
    → IsFirstError definitions is_verbatim path pieces e → LiesBetween 0 (length text) e
first_error_lies text small definitions all (first_error.unread fails inside) =
    let stands = all.0 in
    let lies = inside stands.size (omega (arith, small, stands.within)) in
    (omega arith, lies.1, omega (arith, lies.2, stands.within))
first_error_lies {e = e} text small definitions all (first_error.unknown absent m is) =
    part_lies all.0 e (ap (λ x. x.span.start) is) (ap (λ x. x.span.end) is)
first_error_lies {e = e} text small definitions all (first_error.cycle on is) =
    part_lies all.0 e (ap (λ x. x.span.start) is) (ap (λ x. x.span.end) is)
first_error_lies text small definitions all (first_error.inside {definition = definition} off d error) =
    first_error_lies text small definitions (definitions _ definition d) error
first_error_lies text small definitions all (first_error.following says error) = first_error_lies text small definitions all.1 error

-- the first error of raw fields lies in a text of fewer than 2^64 bytes, if these and the pieces of all definitions occur in it
fields_error_lies : {definitions : Definitions} {fields : List FieldReading} {e : ParseError} (text : List ℕ)
    → length text < 2 ^ 64 → DefinitionsStandIn text definitions
    → AllByRecursion (FieldStandsIn text) fields → IsFirstErrorOfFields definitions fields e → LiesBetween 0 (length text) e
fields_error_lies text small definitions all (IsFirstErrorOfFields.here error unread) =
    first_error_lies text small definitions all.0.pieces error
fields_error_lies text small definitions all (IsFirstErrorOfFields.following read error) =
    fields_error_lies text small definitions all.1 error

-- the first error of raw entries lies in a text of fewer than 2^64 bytes, if these and the pieces of all definitions occur in it
entries_error_lies : {definitions : Definitions} {claimed : List (List ℕ)} {said : List EntryReading} {e : ParseError}
    (text : List ℕ) → length text < 2 ^ 64
    → DefinitionsStandIn text definitions → AllByRecursion (EntryStandsIn text) said
    → IsFirstErrorOfEntries definitions claimed said e → LiesBetween 0 (length text) e
entries_error_lies text small definitions all (IsFirstErrorOfEntries.duplicate was is) =
    let entry = all.0 in
    let starts = ap (λ x. x.span.start) is in
    let ends = ap (λ x. x.span.end) is in
    (omega arith, omega (arith, entry.ordered, starts, ends), omega (arith, entry.within, ends))
entries_error_lies text small definitions all (IsFirstErrorOfEntries.unreadable fresh error) =
    fields_error_lies text small definitions all.0.fields error
entries_error_lies text small definitions all (IsFirstErrorOfEntries.following fresh read error) =
    entries_error_lies text small definitions all.1 error

-- if all raw entries occur in the text, so does the one at an index
entry_stands : {text : List ℕ} (said : List EntryReading) (index : ℕ) (one : EntryReading)
    → AllByRecursion (EntryStandsIn text) said → slice_get said index ≡ Some one → EntryStandsIn text one
entry_stands [] index one all there = cc
entry_stands {text} (first ∷ rest) zero one all there = subst (EntryStandsIn text) (some_same there) all.0
entry_stands (first ∷ rest) (suc index) one all there = entry_stands rest index one all.1 there

-- if the parts of a raw bibliography occur in a text of fewer than 2^64 bytes,
-- its first error lies in the text, or is an error of a date
pub error_lies : {says : FileReading} {e : ParseError} (text : List ℕ) → length text < 2 ^ 64
    → ReadingStandsIn text says → IsFirstErrorOf says e → IsOfDate e ⊎ LiesBetween 0 (length text) e
error_lies {says} text small stands (IsFirstErrorOf.entry error) =
    inr
    (entries_error_lies text small (definitions_stand text says.abbreviations stands.abbreviations) stands.entries
    error)
error_lies {says} text small stands (IsFirstErrorOf.cycle {index = index} own first is) =
    let entry = entry_stands says.entries index is.said stands.entries is.there in
    let starts = ap (λ x. x.span.start) is.is in
    let ends = ap (λ x. x.span.end) is.is in
    inr (omega arith, omega (arith, entry.ordered, starts, ends), omega (arith, entry.within, ends))
error_lies text small stands (IsFirstErrorOf.date own none inherits looks earlier is) =
    inl (record { kind = is.kind; is = is.is; of_dates = is.of_dates })

-- if each error of a result is out of memory or a first error of the raw reading of a text of fewer than 2^64 bytes,
-- it lies in the text, or is out of memory or an error of a date
pub refused_inside : {T : Type 0} (X : Type 0) {says : FileReading} (text : List ℕ) (r : Result T ParseError)
    → length text < 2 ^ 64 → IsRawReading text says
    → IfErr r (λ e. (e ≡ out_of_memory) ⊎ (IsFirstErrorOf says e × X))
    → IfErr r (λ e. (e ≡ out_of_memory) ⊎ IsOfDate e ⊎ LiesBetween 0 (length text) e)
refused_inside X text (Ok x) small reads refused = tt
refused_inside X text (Err e) small reads (inl memory) = inl memory
refused_inside X text (Err e) small reads (inr error) = inr (error_lies text small (file_stands text refl reads) error.0)
