-- The kept entries of a file are entries of its kept raw entries. If there are no errors, all raw entries are kept.
-- If all can be loaded, there are no errors.
use Rattle.std.proofs.Common.{◌≡◌, ℕ, true, cond, List, [], ◌∷◌, ◌++◌, length, refl, sym, ap, ap₂, ◌∙◌, subst, inl, inr, ◌⊎◌, ◌||◌, is_some, Option, Some, None}
use Rattle.std.specs.List.{AllZip}
use Rattle.std.proofs.lemmas.Bool.{both_ways}
use Rattle.bib_text.proofs.ListFacts.{all_zip_append}
use Rattle.bib_abbreviations.proofs.LawFacts.{error_is_one}
use Rattle.bib_abbreviations.specs.Abbreviations.{AreOneError, Definitions, HoldsName, IsKnown, Reaches, error_at, is_known, month}
use Rattle.bib_entry.specs.declared.entry.Entry.{Entry}
use Rattle.bib_file_entries.specs.Bibliography.{claims}
use Rattle.bib_file_entries.specs.Kept.{EntriesKept, FieldsKept, mended_field, unknown_names, with_fields}
use Rattle.bib_file_entries.specs.Loaded.{AllCanBeRead, AreEntries, CanBeRead, IsEntry}
use Rattle.bib_file_entries.proofs.LoadedFacts.{claims_same}
use Rattle.bib_file_entries.proofs.MendingFacts.{known_stay}
use Rattle.bib_syntax.specs.Reading.{EntryReading, FieldReading, Piece}
use Rattle.bib_syntax.specs.Reading.Piece.{abbreviation, literal}
use Rattle.bib_syntax.specs.declared.raw.ParseError.{ParseError}
use Rattle.bib_syntax.specs.declared.raw.ParseErrorKind.TheVariants.{UnknownAbbreviation}
use Rattle.std.proofs.Math.Bool.{or-true}

-- a file with only the kept raw entries has the kept entries
pub kept_are_entries : {d : Definitions} {claimed : List (List ℕ)} {said kept : List EntryReading}
    {entries : List Entry} {errors : List ParseError}
    → EntriesKept d claimed said kept entries errors → AreEntries d claimed kept entries
kept_are_entries EntriesKept.none = AreEntries.none
kept_are_entries (EntriesKept.duplicate was rest) = kept_are_entries rest
kept_are_entries (EntriesKept.next fresh fields is rest) = AreEntries.next fresh is (kept_are_entries rest)

-- ---- without errors all is kept

no_cons : {A B : Type 0} {x : A} {xs : List A} → x ∷ xs ≡ [] → B
no_cons e = cc

-- if the concatenation of two lists is empty, so is the first
pub none_before : {A : Type 0} (xs ys : List A) → xs ++ ys ≡ [] → xs ≡ []
none_before [] ys e = refl
none_before (x ∷ xs) ys e = no_cons e

-- if the concatenation of two lists is empty, so is the second
pub none_after : {A : Type 0} (xs ys : List A) → xs ++ ys ≡ [] → ys ≡ []
none_after [] ys e = e
none_after (x ∷ xs) ys e = no_cons e

-- a field without undefined abbreviations is not changed
pub mended_same : (d : Definitions) (f : FieldReading) → unknown_names d f.value.pieces ≡ [] → mended_field d f ≡ f
mended_same d f e =
    ap
    (λ (pieces : List Piece).
    (let g : FieldReading =
    record { name = f.name; value = record { pieces = pieces; start = f.value.start; end = f.value.end } } in
    g)) (known_stay d f.value.pieces e)

-- without errors, all fields are kept unchanged
pub fields_all : {d : Definitions} {said fields : List FieldReading} {errors : List ParseError}
    → FieldsKept d said fields errors → errors ≡ [] → fields ≡ said
fields_all FieldsKept.none e = refl
fields_all {d} (FieldsKept.kept {f = f} {errors = later} can rest) e =
    ap₂ (λ g gs. g ∷ gs) (mended_same d f (none_before (unknown_names d f.value.pieces) later e))
    (fields_all rest (none_after (unknown_names d f.value.pieces) later e))
fields_all {d} (FieldsKept.left_out {f = f} {e = error} {errors = later} first unread rest) e =
    no_cons (none_after (unknown_names d f.value.pieces) (error ∷ later) e)

-- without errors, all raw entries are kept unchanged
pub entries_all : {d : Definitions} {claimed : List (List ℕ)} {said kept : List EntryReading} {entries : List Entry}
    {errors : List ParseError}
    → EntriesKept d claimed said kept entries errors → errors ≡ [] → kept ≡ said
entries_all EntriesKept.none e = refl
entries_all (EntriesKept.duplicate was rest) e = no_cons e
entries_all (EntriesKept.next {said = s} {first = first} {errors = later} fresh fields is rest) e =
    ap₂ (λ fs ks. with_fields s fs ∷ ks) (fields_all fields (none_before first later e)) (entries_all rest (none_after first later e))

-- ---- if all can be parsed, there is no error

-- the test for a defined abbreviation returns `true` if it is defined
known_test : (d : Definitions) (name : List ℕ) → IsKnown d name → is_known d name ≡ true
known_test d name (inl defined) = ap (λ o. is_some o || is_some (month name)) defined.1
known_test d name (inr begins) = ap (λ o. is_some (d name) || is_some o) begins.1 ∙ or-true (is_some (d name))

-- pieces whose names are all known have no undefined abbreviation
no_unknown : (d : Definitions) (pieces : List Piece) → ((name : List ℕ) → HoldsName pieces name → IsKnown d name)
    → unknown_names d pieces ≡ []
no_unknown d [] known = refl
no_unknown d (literal p ∷ rest) known = no_unknown d rest known
no_unknown d (abbreviation p ∷ rest) known =
    ap (λ b. cond b (unknown_names d rest) (error_at p (UnknownAbbreviation p.text) ∷ unknown_names d rest))
    (known_test d p.text (known p.text (inl refl)))
    ∙ no_unknown d rest (λ name held. known name (inr held))

-- a field that can be parsed has no undefined abbreviation
pub readable_known : (d : Definitions) (f : FieldReading) → CanBeRead d f → unknown_names d f.value.pieces ≡ []
readable_known d f can = no_unknown d f.value.pieces (λ name held. can.known name (Reaches.held held))

-- fields that can be parsed have no errors
pub fields_fine : {d : Definitions} {said fields : List FieldReading} {errors : List ParseError} → AllCanBeRead d said
    → FieldsKept d said fields errors → errors ≡ []
fields_fine all FieldsKept.none = refl
fields_fine {d} all (FieldsKept.kept {f = f} can rest) = ap₂ (λ xs ys. xs ++ ys) (readable_known d f all.0) (fields_fine all.1 rest)
fields_fine {d} all (FieldsKept.left_out {f = f} first unread rest) =
    absurd (unread (subst (CanBeRead d) (sym (mended_same d f (readable_known d f all.0))) all.0))

-- raw entries that can be loaded have no errors
pub entries_fine : {d : Definitions} {claimed : List (List ℕ)} {said kept : List EntryReading}
    {own entries : List Entry} {errors : List ParseError}
    → AreEntries d claimed said own → EntriesKept d claimed said kept entries errors → errors ≡ []
entries_fine AreEntries.none EntriesKept.none = refl
entries_fine (AreEntries.next fresh read others) (EntriesKept.duplicate was rest) = absurd (both_ways _ fresh was)
entries_fine {d} {claimed} (AreEntries.next {said = s} {rest = more} {entry = one} {entries = found} fresh read others)
    (EntriesKept.next {entry = two} {first = first} fresh' fields is rest) =
    let fine : first ≡ [] = fields_fine read.readable fields in
    let same : claims one ≡ claims two =
    claims_same one two read (subst (λ fs. IsEntry d (with_fields s fs) two) (fields_all fields fine) is) in
    ap₂ (λ xs ys. xs ++ ys) fine (entries_fine (subst (λ names. AreEntries d (claimed ++ names) more found) same others) rest)

-- ---- the kept raw entries are unique

-- each error agrees with itself
each_is_one : (errors : List ParseError) → AllZip AreOneError errors errors
each_is_one [] = tt
each_is_one (e ∷ errors) = (inl refl, each_is_one errors)

-- the kept fields are unique, and two lists of their errors agree
fields_once : {d : Definitions} {said fields others : List FieldReading} {errors faults : List ParseError}
    → FieldsKept d said fields errors → FieldsKept d said others faults
    → (fields ≡ others) × AllZip AreOneError errors faults
fields_once FieldsKept.none FieldsKept.none = (refl, tt)
fields_once {d} (FieldsKept.kept {f = f} {errors = es} can rest) (FieldsKept.kept {errors = fs} can' rest') =
    let more = fields_once rest rest' in (
      ap (λ gs. mended_field d f ∷ gs) more.0,
      all_zip_append AreOneError (unknown_names d f.value.pieces) es (unknown_names d f.value.pieces) fs
          (each_is_one (unknown_names d f.value.pieces)) more.1,
    )
fields_once (FieldsKept.kept can rest) (FieldsKept.left_out first unread rest') = absurd (unread can)
fields_once (FieldsKept.left_out first unread rest) (FieldsKept.kept can rest') = absurd (unread can)
fields_once {d} (FieldsKept.left_out {f = f} {e = one} {errors = es} first unread rest)
    (FieldsKept.left_out {e = other} {errors = fs} first' unread' rest') =
    let more = fields_once rest rest' in (
      more.0,
      all_zip_append AreOneError (unknown_names d f.value.pieces) (one ∷ es) (unknown_names d f.value.pieces)
          (other ∷ fs) (each_is_one (unknown_names d f.value.pieces)) (error_is_one first first', more.1),
    )

-- the kept raw entries are unique, and two lists of their errors agree
pub entries_once : {d : Definitions} {claimed : List (List ℕ)} {said kept others : List EntryReading}
    {one two : List Entry} {errors faults : List ParseError}
    → EntriesKept d claimed said kept one errors → EntriesKept d claimed said others two faults
    → (kept ≡ others) × AllZip AreOneError errors faults
entries_once EntriesKept.none EntriesKept.none = (refl, tt)
entries_once (EntriesKept.duplicate was rest) (EntriesKept.duplicate was' rest') =
    let more = entries_once rest rest' in
    (more.0, (inl refl, more.1))
entries_once (EntriesKept.duplicate was rest) (EntriesKept.next fresh fields is rest') = absurd (both_ways _ fresh was)
entries_once (EntriesKept.next fresh fields is rest) (EntriesKept.duplicate was rest') = absurd (both_ways _ fresh was)
entries_once {d} {claimed} (EntriesKept.next {said = s} {entry = a} {first = before} {errors = es} fresh fields is rest)
    (EntriesKept.next {fields = gs} {entry = b} {rest = unsaid} {kept = ks} {entries = bs} {first = before'}
    {errors = fs} fresh' fields' is' rest') =
    let first = fields_once fields fields' in
    let same : claims b ≡ claims a = claims_same b a is' (subst (λ l. IsEntry d (with_fields s l) a) first.0 is) in
    let more = entries_once rest (subst (λ names. EntriesKept d (claimed ++ names) unsaid ks bs fs) same rest') in
    (ap₂ (λ l m. with_fields s l ∷ m) first.0 more.0, all_zip_append AreOneError before es before' fs first.1 more.1)
