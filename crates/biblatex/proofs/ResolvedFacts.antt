-- The styled texts of a file's bibliography are unique: those of its own entries, and those after inheriting.
use Rattle.std.proofs.Common.{◌≡◌, ℕ, ◌+◌, ◌<◌, List, [], ◌∷◌, ◌++◌, Bool, true, false, cond, length, get_or, drop, map, refl, sym, ap, ◌∙◌, subst, arith, Option, Some, None, option_map, length-append, MatchOption}
use Rattle.std.specs.Prelude.{◌&&◌, ◌||◌, find}
use Rattle.std.specs.List.{list_any}
use Rattle.std.specs.FinMap as by_name
use Rattle.std.proofs.lemmas.Bool.{false≢true}
use Rattle.std.proofs.lemmas.List.{append-nil, append_assoc, length-map}
use Rattle.bib_chunks.specs.Styled.{styled}
use Rattle.bib_chunks.specs.declared.chunk.Chunk.{Chunk}
use Rattle.bib_abbreviations.specs.Abbreviations.{Definitions}
use Rattle.bib_abbreviations.proofs.LawFacts.{evaluates_same}
use Rattle.bib_entry.specs.declared.entry.Entry.{Entry}
use Rattle.bib_collections.specs.Graph.{Graph, HasNoCycle, HasOneSolution, Leads, refs_of}
use Rattle.bib_collections.proofs.Walks as walks
use Rattle.bib_inheritance.specs.InheritableDate.{looks_for_date}
use Rattle.bib_inheritance.specs.References.{references}
use Rattle.bib_inheritance.specs.EntryTexts.{EntryTexts, FieldTexts, fields_of, no_entry}
use Rattle.bib_collections.specs.Names.{AreIndicesBelow, with_claims, claims_for}
use Rattle.bib_collections.specs.Sorted.{ByText}
use Rattle.bib_syntax.specs.Reading.{EntryReading, FieldReading, FileReading}
use Rattle.bib_syntax.specs.declared.raw.ParseError.{ParseError}
use Rattle.bib_tables.specs.declared.mechanics.EntryType.{EntryType}
use Rattle.bib_text.specs.declared.spanned.Spanned.{Spanned}
use Rattle.bib_file_entries.specs.Bibliography.{Bibliography, claims, empty_bibliography, with_last_entry}
use Rattle.bib_file_entries.specs.Loaded.{AreEntries, IsEntry, FieldSays, field_in, loaded_after}
use Rattle.bib_inheritance.specs.Resolving.{AreDatesRead, Inherits, at_index, graph_by, is_bad_date, rule_by, texts_of_entries, texts_of_entry}
use Rattle.biblatex.specs.Resolved.{AreOwn, IsAccepted, IsFirstErrorOf, IsLoaded, graph_of, names_of}
use Rattle.bib_inheritance.proofs.ExistenceFacts.{heirs}
use Rattle.bib_inheritance.proofs.RangeFacts.{graph_in_range}
use Rattle.bib_file_entries.proofs.BibliographyFacts.{below_claimed, below_empty, below_more}
use Rattle.bib_file_entries.proofs.LoadedFacts.{claims_same, no_entries}
use Rattle.bib_text.proofs.ListFacts.{found_any}

-- ---- two lists of own entries of one file

-- the texts of entries with the same type and the same fields are equal
pub entry_texts_same : (k l : EntryType) (f g : FieldTexts) → k ≡ l → ((name : List ℕ) → f name ≡ g name)
    → (let s : EntryTexts = record { entry_type = k; fields = f } in s)
    ≡ (let t : EntryTexts = record { entry_type = l; fields = g } in t)
entry_texts_same k l f g entry_types fields = λ i. record { entry_type = entry_types i; fields = λ name. fields name i }

-- the contents of a field have one styled text
found_same : (definitions : Definitions) (found : Option FieldReading) (one two : Option (List (Spanned Chunk)))
    → MatchOption found (one ≡ None) (λ f. (chunks : List (Spanned Chunk)) × (one ≡ Some chunks) × FieldSays definitions f chunks)
    → MatchOption found (two ≡ None) (λ f. (chunks : List (Spanned Chunk)) × (two ≡ Some chunks) × FieldSays definitions f chunks)
    → option_map styled one ≡ option_map styled two
found_same definitions None one two first second = rw (first, second) refl
found_same definitions (Some f) one two first second = rw (first.1, second.1) (ap Some (evaluates_same first.2.says second.2.says))

-- two entries of one raw entry have the same texts
entries_same : (definitions : Definitions) (said : EntryReading) (one two : Entry) → IsEntry definitions said one
    → IsEntry definitions said two → texts_of_entry one ≡ texts_of_entry two
entries_same definitions said one two first second =
    entry_texts_same one.entry_type two.entry_type (fields_of one.fields) (fields_of two.fields) (first.kind ∙ sym second.kind)
    (λ name.
    found_same definitions (field_in said.fields name) (by_name.get one.fields name) (by_name.get two.fields name)
    (first.fields name) (second.fields name))

-- two lists of entries of the same raw entries have the same texts
all_texts_go : {definitions : Definitions} {said : List EntryReading} {one two : List Entry} (claimed : List (List ℕ))
    → AreEntries definitions claimed said one → AreEntries definitions claimed said two
    → texts_of_entries one ≡ texts_of_entries two
all_texts_go claimed AreEntries.none AreEntries.none = refl
all_texts_go {definitions} claimed
    (AreEntries.next {said = s} {rest = rest} {entry = a} {entries = as'} fresh is following)
    (AreEntries.next {entry = b} {entries = bs} fresh' is' after') =
    ap (λ x. x ∷ texts_of_entries as') (entries_same definitions s a b is is')
    ∙ ap (λ xs. texts_of_entry b ∷ xs)
    (all_texts_go (claimed ++ claims a) following
    (subst (λ names. AreEntries definitions (claimed ++ names) rest bs) (claims_same b a is' is) after'))

-- two lists of entries of the same raw entries claim the same names
claims_go : {definitions : Definitions} {said : List EntryReading} {one two : List Entry} (claimed : List (List ℕ))
    → AreEntries definitions claimed said one → AreEntries definitions claimed said two
    → map claims one ≡ map claims two
claims_go claimed AreEntries.none AreEntries.none = refl
claims_go {definitions} claimed
    (AreEntries.next {said = s} {rest = rest} {entry = a} {entries = as'} fresh is following)
    (AreEntries.next {entry = b} {entries = bs} fresh' is' after') =
    ap (λ x. x ∷ map claims as') (claims_same a b is is')
    ∙ ap (λ xs. claims b ∷ xs)
    (claims_go (claimed ++ claims a) following
    (subst (λ names. AreEntries definitions (claimed ++ names) rest bs) (claims_same b a is' is) after'))

-- two lists of entries of the same raw entries have the same keys
keys_go : {definitions : Definitions} {said : List EntryReading} {one two : List Entry} (claimed : List (List ℕ))
    → AreEntries definitions claimed said one → AreEntries definitions claimed said two
    → map (λ e. e.key) one ≡ map (λ e. e.key) two
keys_go claimed AreEntries.none AreEntries.none = refl
keys_go {definitions} claimed (AreEntries.next {said = s} {rest = rest} {entry = a} {entries = as'} fresh is following)
    (AreEntries.next {entry = b} {entries = bs} fresh' is' after') =
    ap (λ x. x ∷ map (λ (e : Entry). e.key) as') (is.key ∙ sym is'.key)
    ∙ ap (λ xs. b.key ∷ xs)
    (keys_go (claimed ++ claims a) following
    (subst (λ names. AreEntries definitions (claimed ++ names) rest bs) (claims_same b a is' is) after'))

-- adding entries with the same claims to bibliographies of the same length and with the same names gives the same names
pub names_go : (l m : Bibliography) (a b : List Entry) → length l.entries ≡ length m.entries → l.names ≡ m.names
    → map claims a ≡ map claims b → (loaded_after l a).names ≡ (loaded_after m b).names
names_go l m [] [] n e c = e
names_go l m [] (y ∷ b) n e c = cc
names_go l m (x ∷ a) [] n e c = cc
names_go l m (x ∷ a) (y ∷ b) n e c =
    let head : claims x ≡ claims y = ap (λ cs. get_or cs 0 []) c in
    names_go (with_last_entry l x) (with_last_entry m y) a b
    (length-append l.entries (x ∷ []) ∙ ap (λ k. k + 1) n ∙ sym (length-append m.entries (y ∷ [])))
    (ap (λ names. with_claims names (claims_for (claims x) (length l.entries))) e
    ∙ ap (λ cs. with_claims m.names (claims_for cs (length l.entries))) head
    ∙ ap (λ k. with_claims m.names (claims_for (claims y) k)) n)
    (ap (drop 1) c)

-- the graph of entries, in terms of their names and texts
by_all_texts : (names : ByText ℕ) (own : List Entry)
    → graph_by names own ≡ map (λ (s : EntryTexts). references names s.fields) (texts_of_entries own)
by_all_texts names [] = refl
by_all_texts names (e ∷ own) = ap (λ rows. references names (fields_of e.fields) ∷ rows) (by_all_texts names own)

-- the graph of entries depends only on their names and texts
pub graphs_by : (names others : ByText ℕ) (one two : List Entry) → names ≡ others
    → texts_of_entries one ≡ texts_of_entries two → graph_by names one ≡ graph_by others two
graphs_by names others one two same all_texts =
    by_all_texts names one ∙ ap (λ n. map (λ (s : EntryTexts). references n s.fields) (texts_of_entries one)) same
    ∙ ap (map (λ (s : EntryTexts). references others s.fields)) all_texts ∙ sym (by_all_texts others two)

-- two lists of own entries of a file agree, except for the borders and the spans of chunks
module _ (says : FileReading) {one two : List Entry} (first : AreOwn says one) (second : AreOwn says two) where
  pub all_texts_same : texts_of_entries one ≡ texts_of_entries two
  all_texts_same = all_texts_go [] first second

  pub keys_same : map (λ e. e.key) one ≡ map (λ e. e.key) two
  keys_same = keys_go [] first second

  pub names_same : names_of one ≡ names_of two
  names_same = names_go empty_bibliography empty_bibliography one two refl refl (claims_go [] first second)

  pub graph_same : graph_of one ≡ graph_of two
  graph_same = graphs_by (names_of one) (names_of two) one two names_same all_texts_same

-- ---- each name points to an entry

-- adding entries keeps each name pointing to an entry
names_below_go : (l : Bibliography) (own : List Entry) → AreIndicesBelow (length l.entries) l.names
    → AreIndicesBelow (length (loaded_after l own).entries) (loaded_after l own).names
names_below_go l [] below = below
names_below_go l (e ∷ own) below =
    let longer = length-append l.entries (e ∷ []) in
    names_below_go (with_last_entry l e) own
    (below_claimed (length (l.entries ++ e ∷ [])) (claims e) l.names (length l.entries)
    (below_more (length l.entries) (length (l.entries ++ e ∷ [])) l.names below (omega (arith, longer)))
    (omega (arith, longer)))

-- adding entries adds their number to the length
entries_after : (l : Bibliography) (own : List Entry) → length (loaded_after l own).entries ≡ length l.entries + length own
entries_after l [] = omega arith
entries_after l (e ∷ own) =
    let longer = length-append l.entries (e ∷ []) in
    omega (arith, entries_after (with_last_entry l e) own, longer)

-- each name of own entries points to an entry
pub names_below : (own : List Entry) → AreIndicesBelow (length own) (names_of own)
names_below own =
    let many : length (loaded_after empty_bibliography own).entries ≡ length own = entries_after empty_bibliography own ∙ (omega arith) in
    subst (λ n. AreIndicesBelow n (names_of own)) many (names_below_go empty_bibliography own (below_empty 0))

-- ---- the solution is unique

-- if each name points to an entry and the graph has no cycle, two solutions are equal
pub solutions_by : (names : ByText ℕ) (own : List Entry) (a b : List EntryTexts) → AreIndicesBelow (length own) names
    → HasNoCycle (graph_by names own)
    → Inherits (texts_of_entries own) (graph_by names own) a → Inherits (texts_of_entries own) (graph_by names own) b → a ≡ b
solutions_by names own a b below none first second =
    let one = walks.one_solution (graph_by names own) (graph_in_range names own below) none no_entry (rule_by (texts_of_entries own)) in
    one.2 a first ∙ sym (one.2 b second)

-- two solutions of the inheritance equation of own entries are equal if no entry leads to itself
pub solutions_same : (own : List Entry) (a b : List EntryTexts) → HasNoCycle (graph_of own)
    → Inherits (texts_of_entries own) (graph_of own) a → Inherits (texts_of_entries own) (graph_of own) b → a ≡ b
solutions_same own a b none first second = solutions_by (names_of own) own a b (names_below own) none first second

-- without cycles, `AreDatesRead` holds for each solution if it holds for one
pub dates_of_each : (own : List Entry) (one : List EntryTexts) → HasNoCycle (graph_of own)
    → Inherits (texts_of_entries own) (graph_of own) one
    → AreDatesRead (texts_of_entries own) (graph_of own) one → (values : List EntryTexts)
    → Inherits (texts_of_entries own) (graph_of own) values → AreDatesRead (texts_of_entries own) (graph_of own) values
dates_of_each own one none solves read values other =
    subst (AreDatesRead (texts_of_entries own) (graph_of own)) (solutions_same own one values none solves other) read

-- two bibliographies of one raw bibliography have the same texts
pub fields_once : {says : FileReading} (one other : Bibliography) → IsLoaded says one → IsLoaded says other
    → texts_of_entries one.entries ≡ texts_of_entries other.entries
fields_once {says} one other first second =
    let moved : Inherits (texts_of_entries first.accepted.own) (graph_of first.accepted.own) (texts_of_entries other.entries) =
    subst (λ g. Inherits (texts_of_entries first.accepted.own) g (texts_of_entries other.entries))
    (graph_same says second.accepted.entries first.accepted.entries)
    (subst (λ s. Inherits s (graph_of second.accepted.own) (texts_of_entries other.entries))
    (all_texts_same says second.accepted.entries first.accepted.entries) second.inherits)
    in
    solutions_same first.accepted.own (texts_of_entries one.entries) (texts_of_entries other.entries)
    first.accepted.no_cycle first.inherits moved

-- ---- an accepted file has a bibliography

-- each accepted raw bibliography has a bibliography
pub bibliography_of : {says : FileReading} → IsAccepted says → (bibliography : Bibliography) × IsLoaded says bibliography
bibliography_of accepted =
    let own = accepted.own in
    let found = heirs own (graph_of own) (length-map own _) (graph_in_range (names_of own) own (names_below own)) accepted.no_cycle in (
      record { entries = found.0; names = names_of own },
      record { accepted = accepted; keys = found.1.keys; inherits = found.1.inherits; chunks = found.1.chunks; names = refl },
    )

-- ---- an accepted file has no error

-- `AreDatesRead` contradicts an entry that lacks a required date and refers to an entry with an unreadable date
pub bad_apart : (own : List EntryTexts) (graph : Graph) (values : List EntryTexts) (index : ℕ)
    → looks_for_date (at_index own index) ≡ true → list_any (is_bad_date values) (refs_of graph index) ≡ true
    → AreDatesRead own graph values → ⊥
bad_apart own graph values index looks bad read =
    false≢true (sym (read index) ∙ ap (λ b. b && list_any (is_bad_date values) (refs_of graph index)) looks ∙ bad)

-- an accepted raw bibliography has no first error
pub accepted_faultless : {says : FileReading} {e : ParseError} → IsAccepted says → IsFirstErrorOf says e → ⊥
accepted_faultless accepted (IsFirstErrorOf.entry error) = no_entries error accepted.entries
accepted_faultless {says} accepted (IsFirstErrorOf.cycle {index = index} own first is) =
    accepted.no_cycle index (subst (λ g. index < length g) (graph_same says own accepted.entries) first.within)
    (subst (λ g. Leads g index index) (graph_same says own accepted.entries) first.cycle)
accepted_faultless {says} accepted (IsFirstErrorOf.date {own = own} {values = values} {index = index} are none solves looks earlier is) =
    let moved : Inherits (texts_of_entries accepted.own) (graph_of accepted.own) values =
    subst (λ g. Inherits (texts_of_entries accepted.own) g values) (graph_same says are accepted.entries)
    (subst (λ s. Inherits s (graph_of own) values) (all_texts_same says are accepted.entries) solves)
    in
    bad_apart (texts_of_entries accepted.own) (graph_of accepted.own) values index
    (subst (λ s. looks_for_date (at_index s index) ≡ true) (all_texts_same says are accepted.entries) looks)
    (subst (λ g. list_any (is_bad_date values) (refs_of g index) ≡ true) (graph_same says are accepted.entries)
    (found_any (is_bad_date values) (refs_of (graph_of own) index) is.reference is.first))
    (accepted.dates values moved)

-- ---- own entries with their names

abbrev pub with_names : List Entry → ByText ℕ → Bibliography
with_names own names = record { entries = own; names = names }

-- adding entries appends them to the list
entries_go : (l : Bibliography) (own : List Entry) → (loaded_after l own).entries ≡ l.entries ++ own
entries_go l [] = sym (append-nil l.entries)
entries_go l (e ∷ own) = entries_go (with_last_entry l e) own ∙ append_assoc l.entries (e ∷ []) own

-- adding own entries to the empty bibliography gives these entries and their names
pub all_after : (own : List Entry) {names : ByText ℕ} → names ≡ names_of own → loaded_after empty_bibliography own ≡ with_names own names
all_after own is = ap (λ es. with_names es (names_of own)) (entries_go empty_bibliography own) ∙ ap (with_names own) (sym is)
