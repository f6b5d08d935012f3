-- Lemmas about the entries of a file.
use Rattle.std.proofs.Common.{◌≡◌, ℕ, ◌+◌, Bool, true, false, List, [], ◌∷◌, ◌++◌, length, length-append, refl, sym, ap, ◌∙◌, subst, arith, append_assoc, Option, None, Some, MatchOption, cond, ◌||◌, is_none, is_some}
use Rattle.std.specs.Prelude.{bytes_eq, codes}
use Rattle.std.specs.FinMap as by_name
use Rattle.std.specs.FinMap.{get-empty, get-insert}
use Rattle.std.proofs.lemmas.Bool.{both_ways}
use Rattle.std.proofs.lemmas.Cmp.{nat_list_cmp_total}
use Rattle.std.proofs.lemmas.List.{append-nil}
use Rattle.std.proofs.lemmas.List.Folds.{list_any-append}
use Rattle.std.proofs.lemmas.Map.Text.{is_eq-slice_cmp}
use Rattle.bib_syntax.specs.declared.raw.ParseErrorKind.TheVariants.{DuplicateKey}
use Rattle.std.specs.Option.{option_map_or}
use Rattle.bib_syntax.specs.declared.raw.ParseError.{ParseError}
use Rattle.bib_chunks.specs.Styled.{styled}
use Rattle.bib_chunks.specs.declared.chunk.Chunk.{Chunk}
use Rattle.bib_text.specs.declared.spanned.Spanned.{Spanned}
use Rattle.bib_abbreviations.specs.Abbreviations.{Definitions}
use Rattle.bib_syntax.specs.Reading.{FieldReading, EntryReading}
use Rattle.bib_abbreviations.proofs.LawFacts.{evaluates_same}
use Rattle.bib_entry.specs.declared.entry.Entry.{Entry}
use Rattle.bib_file_entries.specs.Bibliography.{Bibliography, claims, aliases, empty_bibliography, with_last_entry}
use Rattle.bib_chunks.specs.Lists.{comma_texts}
use Rattle.bib_file_entries.specs.Loaded.{AllCanBeRead, IsEntry, AreEntries, IsFirstErrorOfFields, IsFirstErrorOfEntries, FieldSays, field_in, is_claimed, loaded_after}
use Rattle.bib_collections.specs.Names.{AreIndicesBelow, with_claims, claims_for}
use Rattle.bib_collections.specs.Sorted.{ByText, by_bytes}
use Rattle.bib_file_entries.proofs.BibliographyFacts.{below_empty, below_claimed, below_more}
use Rattle.std.proofs.Math.Bool.{or-false}

-- two entries of one raw entry have the same other names
aliases_found : (definitions : Definitions) (found : Option FieldReading) (one two : Option (List (Spanned Chunk)))
    → MatchOption found (one ≡ None) (λ f. (chunks : List (Spanned Chunk)) × (one ≡ Some chunks) × FieldSays definitions f chunks)
    → MatchOption found (two ≡ None) (λ f. (chunks : List (Spanned Chunk)) × (two ≡ Some chunks) × FieldSays definitions f chunks)
    → option_map_or (λ chunks. comma_texts (styled chunks)) one [] ≡ option_map_or (λ chunks. comma_texts (styled chunks)) two []
aliases_found definitions None one two first second = rw (first, second) refl
aliases_found definitions (Some f) one two first second =
    rw (first.1, second.1) (ap comma_texts (evaluates_same first.2.says second.2.says))

-- two entries of one raw entry claim the same names
pub claims_same : {definitions : Definitions} {said : EntryReading} (one two : Entry) → IsEntry definitions said one
    → IsEntry definitions said two → claims one ≡ claims two
claims_same {definitions} {said} one two first second =
    ap (λ key. key ∷ aliases one) (first.key ∙ sym second.key)
    ∙ ap (λ names. two.key ∷ names)
    (aliases_found definitions (field_in said.fields (codes "ids")) (by_name.get one.fields (codes "ids"))
    (by_name.get two.fields (codes "ids")) (first.fields (codes "ids")) (second.fields (codes "ids")))

-- if the fields have a first error, not all can be parsed
pub fields_unread : {definitions : Definitions} {fields : List FieldReading} {e : ParseError}
    → IsFirstErrorOfFields definitions fields e → AllCanBeRead definitions fields → ⊥
fields_unread (IsFirstErrorOfFields.here error unread) all = unread all.0
fields_unread (IsFirstErrorOfFields.following read error) all = fields_unread error all.1

-- if the raw entries have a first error, they have no entries
pub no_entries : {definitions : Definitions} {claimed : List (List ℕ)} {said : List EntryReading} {e : ParseError}
    {found : List Entry} → IsFirstErrorOfEntries definitions claimed said e
    → AreEntries definitions claimed said found → ⊥
no_entries (IsFirstErrorOfEntries.duplicate was is) (AreEntries.next fresh read rest) = both_ways _ fresh was
no_entries (IsFirstErrorOfEntries.unreadable fresh error) (AreEntries.next fresh' read rest) = fields_unread error read.readable
no_entries {definitions} {claimed} (IsFirstErrorOfEntries.following {rest = more} {entry = one} fresh read error)
    (AreEntries.next {entry = two} {entries = others} fresh' read' rest) =
    no_entries error (subst (λ names. AreEntries definitions (claimed ++ names) more others) (claims_same two one read' read) rest)

-- a name that isn't new was claimed before
pub had_by : {A : Type 0} (o : Option A) (is_new : Bool) → is_new ≡ is_none o → is_new ≡ false → is_some o ≡ true
had_by None is_new is old = sym old ∙ is
had_by (Some x) is_new is old = refl

-- a name that is new wasn't claimed before
pub absent_by : {A : Type 0} (o : Option A) (is_new : Bool) → is_new ≡ is_none o → is_new ≡ true → is_some o ≡ false
absent_by None is_new is new = refl
absent_by (Some x) is_new is new = sym new ∙ is

-- adding two lists of entries one after the other is adding their concatenation
pub loaded_more : (bibliography : Bibliography) (first second : List Entry)
    → loaded_after bibliography (first ++ second) ≡ loaded_after (loaded_after bibliography first) second
loaded_more bibliography [] second = refl
loaded_more bibliography (entry ∷ first) second = loaded_more (with_last_entry bibliography entry) first second

one_more : (test : Bool) (index : ℕ) (had : Option ℕ) (later : Bool)
    → (is_some (cond test (Some index) had) || later) ≡ (is_some had || (test || later))
one_more true index None later = refl
one_more true index (Some p) later = refl
one_more false index had later = refl

-- after claiming names for an index, the claimed names are the old ones and these
pub names_claimed : (index : ℕ) (more : List (List ℕ)) (names : ByText ℕ) (name : List ℕ)
    → is_some (by_name.get (with_claims names (claims_for more index)) name) ≡ (is_some (by_name.get names name) || is_claimed more name)
names_claimed index [] names name = sym (or-false (is_some (by_name.get names name)))
names_claimed index (one ∷ more) names name =
    names_claimed index more (by_name.insert names one index) name
    ∙ ap (λ o. is_some o || is_claimed more name)
    (get-insert nat_list_cmp_total names one index name
    ∙ ap (λ b. cond b (Some index) (by_name.get names name)) (is_eq-slice_cmp name one))
    ∙ one_more (bytes_eq name one) index (by_name.get names name) (is_claimed more name)

-- the entries so far were loaded, and claimed the names. Entries of the remaining raw entries follow them, and a first error
-- of the remaining ones is one of the whole
pub record LoadedSoFar (definitions : Definitions) (said rest : List EntryReading) (found : List Entry) (names : ByText ℕ) : Type 0 where
  pub earlier : List (List ℕ)
  pub same : (name : List ℕ) → is_some (by_name.get names name) ≡ is_claimed earlier name
  pub onward : (more : List Entry) → AreEntries definitions earlier rest more → AreEntries definitions [] said (found ++ more)
  pub faulty : (e : ParseError) → IsFirstErrorOfEntries definitions earlier rest e → IsFirstErrorOfEntries definitions [] said e
  pub bibliography : loaded_after empty_bibliography found ≡ record { entries = found; names = names }
  pub below : AreIndicesBelow (length found) names

-- before the first raw entry, nothing is loaded
pub loaded_none : (definitions : Definitions) (said : List EntryReading) → LoadedSoFar definitions said said [] by_name.empty
loaded_none definitions said = record {
  earlier = [];
  same = λ name. ap is_some (get-empty by_bytes name);
  onward = λ more read. read;
  faulty = λ e error. error;
  bibliography = refl;
  below = below_empty 0;
}

-- after one more entry, the claimed names are the old ones and its claims
pub same_next : (earlier : List (List ℕ)) (entry : Entry) (names : ByText ℕ) (index : ℕ)
    → ((name : List ℕ) → is_some (by_name.get names name) ≡ is_claimed earlier name)
    → (name : List ℕ)
    → is_some (by_name.get (with_claims names (claims_for (claims entry) index)) name)
    ≡ is_claimed (earlier ++ claims entry) name
same_next earlier entry names index same name =
    names_claimed index (claims entry) names name
    ∙ ap (λ b. b || is_claimed (claims entry) name) (same name)
    ∙ sym (list_any-append (bytes_eq name) earlier (claims entry))

-- if entries are added to the empty bibliography, and then one more, this is appended, and its claims point to it
pub bibliography_next : (found : List Entry) (entry : Entry) (names : ByText ℕ)
    → loaded_after empty_bibliography found ≡ record { entries = found; names = names }
    → loaded_after empty_bibliography (found ++ entry ∷ [])
    ≡ record { entries = found ++ entry ∷ []; names = with_claims names (claims_for (claims entry) (length found)) }
bibliography_next found entry names loaded =
    loaded_more empty_bibliography found (entry ∷ []) ∙ ap (λ bibliography. with_last_entry bibliography entry) loaded

-- each name still points to an entry when an entry is added with its claims
pub below_next : (found : List Entry) (entry : Entry) (names : ByText ℕ) → AreIndicesBelow (length found) names
    → AreIndicesBelow (length (found ++ entry ∷ [])) (with_claims names (claims_for (claims entry) (length found)))
below_next found entry names below =
    let count : length (found ++ entry ∷ []) ≡ length found + 1 = length-append found (entry ∷ []) in
    below_claimed (length (found ++ entry ∷ [])) (claims entry) names (length found)
    (below_more (length found) (length (found ++ entry ∷ [])) names below (omega (arith, count))) (omega (arith, count))

-- one more raw entry is loaded
pub loaded_next : {definitions : Definitions} {said : List EntryReading} {one : EntryReading} {rest : List EntryReading}
    {found : List Entry} {names : ByText ℕ} (entry : Entry)
    → LoadedSoFar definitions said (one ∷ rest) found names → is_some (by_name.get names one.key.text) ≡ false
    → IsEntry definitions one entry
    → LoadedSoFar definitions said rest (found ++ entry ∷ []) (with_claims names (claims_for (claims entry) (length found)))
loaded_next {definitions} {said} {one} {rest} {found} {names} entry loaded absent read =
    let fresh : is_claimed loaded.earlier one.key.text ≡ false = sym (loaded.same one.key.text) ∙ absent in
    record {
      earlier = loaded.earlier ++ claims entry;
      same = same_next loaded.earlier entry names (length found) loaded.same;
      onward = λ others following.
          subst (AreEntries definitions [] said) (sym (append_assoc found (entry ∷ []) others))
          (loaded.onward (entry ∷ others) (AreEntries.next fresh read following));
      faulty = λ e error. loaded.faulty e (IsFirstErrorOfEntries.following fresh read error);
      bibliography = bibliography_next found entry names loaded.bibliography;
      below = below_next found entry names loaded.below;
    }

-- all raw entries were loaded
pub loaded_all : {definitions : Definitions} {said : List EntryReading} {found : List Entry} {names : ByText ℕ}
    → LoadedSoFar definitions said [] found names → AreEntries definitions [] said found
loaded_all {definitions} {said} {found} loaded =
    subst (AreEntries definitions [] said) (append-nil found) (loaded.onward [] AreEntries.none)

-- if the next key was claimed before, this is the first error
pub error_duplicate : {definitions : Definitions} {said : List EntryReading} {one : EntryReading}
    {rest : List EntryReading} {found : List Entry} {names : ByText ℕ} (e : ParseError)
    → LoadedSoFar definitions said (one ∷ rest) found names → is_some (by_name.get names one.key.text) ≡ true
    → e ≡ record { span = record { start = one.start; end = one.end }; kind = DuplicateKey one.key.text }
    → IsFirstErrorOfEntries definitions [] said e
error_duplicate {one = one} e loaded had is = loaded.faulty e (IsFirstErrorOfEntries.duplicate (sym (loaded.same one.key.text) ∙ had) is)

-- otherwise the first error of the next entry's fields is the first error
pub error_unreadable : {definitions : Definitions} {said : List EntryReading} {one : EntryReading}
    {rest : List EntryReading} {found : List Entry} {names : ByText ℕ} (e : ParseError)
    → LoadedSoFar definitions said (one ∷ rest) found names → is_some (by_name.get names one.key.text) ≡ false
    → IsFirstErrorOfFields definitions one.fields e
    → IsFirstErrorOfEntries definitions [] said e
error_unreadable {one = one} e loaded absent error =
    loaded.faulty e (IsFirstErrorOfEntries.unreadable (sym (loaded.same one.key.text) ∙ absent) error)
