-- The entries of a file in which a field is set.
use Rattle.std.proofs.Common.{Option, ◌≡◌, ℕ, ◌<◌, List, [], ◌∷◌, Bool, true, false, cond, get_or, length, map, reverse, append-nil, arith, inl, inr, refl, sym, ap, ◌∙◌, subst, Some, None, ◌≤◌}
use Rattle.std.specs.Prelude.{bytes_eq, slice_get, ◌&&◌, ◌||◌, MatchOption}
use Rattle.std.specs.List.{AllByRecursion, list_all, list_any}
use Rattle.std.specs.Char.{is_ascii_digit, to_ascii_lowercase}
use Rattle.std.specs.Str.{chars, str_to_ascii_lowercase}
use Rattle.std.proofs.lemmas.Bool.{both_ways, cases_lt}
use Rattle.std.proofs.lemmas.Bool.Decides.{eqb_tells}
use Rattle.std.proofs.lemmas.Option.{slice_get-get_or, slice_get_within}
use Rattle.std.proofs.lemmas.Slice.Eq.{bytes_eq-Decides}
use Rattle.bib_abbreviations.specs.Abbreviations.{Definitions, Evaluates, IsReadable, Reaches}
use Rattle.bib_abbreviations.specs.Abbreviations.{Evaluates as evaluates}
use Rattle.bib_chunks.specs.Styled.{Atom}
use Rattle.bib_contents.specs.Contents.{IsContent}
use Rattle.bib_entry.specs.declared.entry.Entry.{Entry}
use Rattle.bib_file_entries.specs.Bibliography.{Bibliography, aliases}
use Rattle.bib_file_entries.specs.Loaded.{AllCanBeRead, definition_in, field_in, is_claimed, name_of}
use Rattle.bib_inheritance.specs.Resolving.{texts_of_entry}
use Rattle.bib_syntax.specs.Reading.{EntryReading, FieldReading, FileReading, Part, Piece}
use Rattle.bib_syntax.specs.Reading.Piece.{abbreviation, literal}
use Rattle.bib_tables.specs.Requirements.{is_one_of}
use Rattle.bib_tables.specs.VerbatimFields.{is_verbatim_field}
use Rattle.bib_syntax.specs.declared.raw.ParseError.{ParseError}
use Rattle.bib_syntax.specs.Grammar.{is_word}
use Rattle.bib_text.proofs.ListFacts.{some_same}
use Rattle.bib_text.proofs.DigitFacts.{lower_digit}
use Rattle.biblatex.specs.Resolved.{AreOwn, IsAccepted, IsFirstErrorOf, IsLoaded, names_of}
use Rattle.biblatex.specs.Places.{ClaimsAt, IsLastClaim}
use Rattle.std.specs.FinMap as by_name
use Rattle.edit_laws.proofs.MovedFacts.{points}
use Rattle.biblatex.proofs.IndexLaws.{keys_fresh}
use Rattle.edit_entries.proofs.EntryChangeFacts.{fields_kept}
use Rattle.edit_entries.proofs.RenamedFacts.{first_passes}
use Rattle.edit_entries.specs.Changes.{entry_changed, field_reading, fields_changed}
use Rattle.edit_entries.specs.Documents.{Document, HasEntry, IsDocument, has_name, is_keyed, is_value, text_at}
use Rattle.edit_entries.specs.Setting.{FieldSet, SetValue, field_put, field_with_value, is_bare_number, is_same_value, new_value, values_set}
use Rattle.edit_laws.proofs.FieldFacts.{HasTextAlready, IsFieldSet, IsText, fields_set, found_passes, new_is_set, values_are_set, values_readable}
use Rattle.edit_laws.proofs.ReplacedFacts.{HasContent, IsReplaced, content_at, differ_at, replaced_at, replaced_key, with_field_texts}
use Rattle.edit_laws.proofs.AcceptedFacts.{still_accepted}
use Rattle.edit_laws.proofs.DifferFacts.{IsUnlinked}
use Rattle.edit_laws.proofs.NumberFacts.{HasNoNumber, IsNoNumber, no_number}
use Rattle.edit_laws.proofs.LiftFacts.{as_long, field_at, same_key}
use Rattle.edit_laws.proofs.TextFacts.{HasText, own_at}
use Rattle.edit_laws.specs.OneField.{AreSet, HasFieldContents, lost_names, text_of_value}

-- an entry with a key is replaced, and its field with the name has a text. It can be parsed if the text and its old fields can be.
pub record IsSetRead (d after : Document) (key name text : List ℕ) : Type 0 where
  pub k : ℕ
  pub e : EntryReading
  pub changed : EntryReading
  pub replaced : IsReplaced d.says after.says k e changed
  pub set : IsFieldSet e.fields changed.fields (str_to_ascii_lowercase name) text
  pub readable : (definitions : Definitions) (atoms : List Atom)
      → IsContent (is_verbatim_field (str_to_ascii_lowercase name)) (chars text) atoms → AllCanBeRead definitions e.fields
      → AllCanBeRead definitions changed.fields
  pub is : e.key.text ≡ key

-- ---- a literal can be parsed

reaches_nothing : {definitions : Definitions} {p : Part} {name : List ℕ} → Reaches definitions (literal p ∷ []) name → ⊥
reaches_nothing (Reaches.held held) = held
reaches_nothing (Reaches.through before is held) = reaches_nothing before

text_readable : {definitions : Definitions} {is_verbatim : Bool} {pieces : List Piece} {text : List ℕ} {atoms : List Atom}
    → IsText pieces text → IsContent is_verbatim (chars text) atoms → IsReadable definitions is_verbatim pieces
text_readable {definitions} {is_verbatim} {pieces} {text} {atoms} says contents =
    subst (IsReadable definitions is_verbatim) (sym says.are) (record {
      known = λ name there. absurd (reaches_nothing there);
      no_cycle = λ name definition there is again. reaches_nothing there;
      texts = λ t held. elim held [
        | inl same ↦ (atoms, subst (λ x. IsContent is_verbatim (chars x) atoms) (sym says.is ∙ same) contents)
        | inr none ↦ absurd none
      ];
      inner_texts = λ name definition there is. absurd (reaches_nothing there);
    })

pub key_is : {d : Document} {key : List ℕ} {k : ℕ} {e : EntryReading} → HasEntry d key k e → e.key.text ≡ key
key_is {d} {key} {k} {e} entry =
    (bytes_eq-Decides e.key.text key).0 (first_passes (is_keyed key) d.says.entries k e entry.first entry.here)

new_readable : (name text : List ℕ) (value : SetValue) (definitions : Definitions) (fs : List FieldReading) (atoms : List Atom)
    → IsText (new_value value).pieces text → IsContent (is_verbatim_field (str_to_ascii_lowercase name)) (chars text) atoms
    → AllCanBeRead definitions fs → AllCanBeRead definitions (field_reading (field_with_value name value) ∷ fs)
new_readable name text value definitions fs atoms new contents read = (text_readable new contents, read)

module _ {d after : Document} {key name text : List ℕ} {value : SetValue} (new : IsText (new_value value).pieces text)
    (already : (k : ℕ) (e : EntryReading) → slice_get d.says.entries k ≡ Some e
    → AllByRecursion (HasTextAlready name value text) e.fields) where
  -- after a field is set, the entry with the key is replaced and has this field with the text
  pub set_read : FieldSet d key name value after → IsSetRead d after key name text
  set_read (FieldSet.changed {k = k} {e = e} entry there fit is) = record {
    k = k;
    e = e;
    changed = entry_changed e (values_set name value e);
    replaced = record { here = entry.here; key = refl; kind = refl; alike = is.alike };
    set =
        subst (λ fs. IsFieldSet e.fields fs (str_to_ascii_lowercase name) text) (sym (fields_set name value text e.fields))
        (values_are_set name value text e.fields there new (already k e entry.here));
    readable = λ definitions atoms contents read.
        subst (AllCanBeRead definitions) (sym (fields_set name value text e.fields))
        (values_readable name value text definitions (text_readable new contents) e.fields read);
    is = key_is entry;
  }
  set_read (FieldSet.added {k = k} {e = e} {first = first} {others = others} entry none are can fit is) =
      let f : FieldReading = field_reading (field_with_value name value) in
      let put : fields_changed e.fields (field_put d.text name value first others).fields ≡ f ∷ e.fields =
      ap (λ fs. fields_changed fs (field_put d.text name value first others).fields) are
      ∙ ap (λ fs. f ∷ first ∷ fs) (fields_kept others) ∙ ap (λ fs. f ∷ fs) (sym are) in
      record {
        k = k;
        e = e;
        changed = entry_changed e (field_put d.text name value first others);
        replaced = record { here = entry.here; key = refl; kind = refl; alike = is.alike };
        set =
            subst (λ fs. IsFieldSet e.fields fs (str_to_ascii_lowercase name) text) (sym put)
            (new_is_set name value text e.fields none new);
        readable = λ definitions atoms contents read.
            subst (AllCanBeRead definitions) (sym put) (new_readable name text value definitions e.fields atoms new contents read);
        is = key_is entry;
      }
  set_read (FieldSet.only {k = k} {e = e} entry none can fit is) =
      let f : FieldReading = field_reading (field_with_value name value) in
      record {
        k = k;
        e = e;
        changed = record e { fields = f ∷ [] };
        replaced = record { here = entry.here; key = refl; kind = refl; alike = is.alike };
        set =
            subst (λ fs. IsFieldSet e.fields (f ∷ fs) (str_to_ascii_lowercase name) text) none
            (new_is_set name value text e.fields (ap (list_any (has_name name)) none) new);
        readable = λ definitions atoms contents read. new_readable name text value definitions [] atoms new contents tt;
        is = key_is entry;
      }

-- ---- a text in braces, or a number

lower_digits : (bs : List ℕ) → list_all is_ascii_digit bs ≡ list_all is_ascii_digit (map to_ascii_lowercase bs)
lower_digits [] = refl
lower_digits (b ∷ bs) =
    ap (λ c. c && list_all is_ascii_digit bs) (sym (lower_digit b))
    ∙ ap (λ c. is_ascii_digit (to_ascii_lowercase b) && c) (lower_digits bs)

lower_number : (text : List ℕ) → is_bare_number text ≡ is_bare_number (str_to_ascii_lowercase text)
lower_number [] = refl
lower_number (b ∷ bs) = lower_digits (b ∷ bs)

-- a name that is equal to a number in any ASCII case is a number
word_number : (name text : List ℕ) → is_bare_number text ≡ true → is_word name text ≡ true → is_bare_number name ≡ true
word_number name text number same =
    lower_number name ∙ ap is_bare_number ((bytes_eq-Decides (str_to_ascii_lowercase name) (str_to_ascii_lowercase text)).0 same)
    ∙ sym (lower_number text) ∙ number

text_already : (text : List ℕ) (f : FieldReading) → is_value text f.value.pieces ≡ true → IsText f.value.pieces text
text_already text f same = go f.value.pieces same
  where
    go : (pieces : List Piece) → is_value text pieces ≡ true → IsText pieces text
    go [] is = cc
    go (abbreviation p ∷ rest) is = cc
    go (literal p ∷ other ∷ rest) is = cc
    go (literal p ∷ []) is = record { part = p; are = refl; is = (bytes_eq-Decides p.text text).0 is }

number_already : (text : List ℕ) (f : FieldReading) → is_bare_number text ≡ true → HasNoNumber f
    → is_same_value (SetValue.bare_text text) f.value.pieces ≡ true → IsText f.value.pieces text
number_already text f number none same = go f.value.pieces none same
  where
    go : (pieces : List Piece) → AllByRecursion IsNoNumber pieces → is_same_value (SetValue.bare_text text) pieces ≡ true
        → IsText pieces text
    go [] none is = cc
    go (p ∷ other ∷ rest) none is = cc
    go (literal p ∷ []) none is =
        record { part = p; are = refl; is = (bytes_eq-Decides p.text text).0 (sym (ap (λ b. b && bytes_eq p.text text) number) ∙ is) }
    go (abbreviation p ∷ []) none is = absurd (both_ways _ none.0 (word_number p.text text number is))

value_already : (name text : List ℕ) (value : SetValue) → text_of_value value ≡ Some text → (fs : List FieldReading)
    → AllByRecursion HasNoNumber fs → AllByRecursion (HasTextAlready name value text) fs
value_already name text value is [] none = tt
value_already name text value is (f ∷ fs) none = (one value is, value_already name text value is fs none.1)
  where
    one : (value : SetValue) → text_of_value value ≡ Some text → is_same_value value f.value.pieces ≡ true → IsText f.value.pieces text
    one (SetValue.plain_text t) is same = subst (IsText f.value.pieces) (some_same is) (text_already t f same)
    one (SetValue.bare_text t) is same = by_number (is_bare_number t) refl is
      where
        by_number : (b : Bool) → is_bare_number t ≡ b → cond b (Some t) None ≡ Some text → IsText f.value.pieces text
        by_number true number is = subst (IsText f.value.pieces) (some_same is) (number_already t f number none.0 same)
        by_number false number is = cc

new_is_text : (value : SetValue) (text : List ℕ) → text_of_value value ≡ Some text → IsText (new_value value).pieces text
new_is_text (SetValue.plain_text t) text is = record { part = text_at 1 t; are = refl; is = some_same is }
new_is_text (SetValue.bare_text t) text is = by_number (is_bare_number t) refl is
  where
    by_number : (b : Bool) → is_bare_number t ≡ b → cond b (Some t) None ≡ Some text
        → IsText (cond (is_bare_number t) (literal (text_at 0 t)) (abbreviation (text_at 0 t)) ∷ []) text
    by_number true number is =
        subst (λ c. IsText (cond c (literal (text_at 0 t)) (abbreviation (text_at 0 t)) ∷ []) text) (sym number)
        (record { part = text_at 0 t; are = refl; is = some_same is })
    by_number false number is = cc

-- after a field is set to a text or a number, the entry with the key is replaced and has this field with the text
pub value_set : {d after : Document} {key name text : List ℕ} {value : SetValue} → IsDocument d → text_of_value value ≡ Some text
    → FieldSet d key name value after → IsSetRead d after key name text
value_set {d} {name = name} {text = text} {value = value} reads is set =
    set_read (new_is_text value text is)
    (λ k e here. value_already name text value is e.fields (no_number k e reads here)) set

-- ---- the own entries

text_evaluates : {definitions : Definitions} {is_verbatim : Bool} {pieces : List Piece} {text : List ℕ} {atoms : List Atom}
    → IsText pieces text → IsContent is_verbatim (chars text) atoms → Evaluates definitions is_verbatim pieces atoms
text_evaluates {definitions} {is_verbatim} {pieces} {text} {atoms} says contents =
    subst (λ ps. Evaluates definitions is_verbatim ps atoms) (sym says.are)
    (subst (Evaluates definitions is_verbatim (literal says.part ∷ [])) (append-nil atoms)
    (evaluates.text (subst (λ t. IsContent is_verbatim (chars t) atoms) (sym says.is) contents) evaluates.none))

module _ {d after : Document} {key name text : List ℕ} (r : IsSetRead d after key name text) where
  abbrev lower : List ℕ
  lower = str_to_ascii_lowercase name

  -- the field of the entry in the new file has the contents of the text
  pub set_content : (others : List Entry) (second : AreOwn after.says others)
      → HasContent (texts_of_entry (replaced_at r.replaced others second).1) lower text
  set_content others second = content_at r.replaced others second lower text r.set.field r.set.here r.set.says

  -- if the contents of the text can be parsed, they are the value of the last raw field with the name
  pub set_has : (atoms : List Atom) → IsContent (is_verbatim_field lower) (chars text) atoms
      → HasText (definition_in d.says.abbreviations) (field_in r.changed.fields lower) (Some atoms)
  set_has atoms contents =
      let named : lower ≡ name_of r.set.field =
      (bytes_eq-Decides lower (name_of r.set.field)).0
      (found_passes (λ g. bytes_eq lower (name_of g)) (reverse r.changed.fields) r.set.field r.set.here) in
      subst (λ o. HasText (definition_in d.says.abbreviations) o (Some atoms)) (sym r.set.here) (
        atoms,
        refl,
        subst (λ n. Evaluates (definition_in d.says.abbreviations) (is_verbatim_field n) r.set.field.value.pieces atoms) named
            (text_evaluates r.set.says contents),
      )

  pub set_own : (own others : List Entry) → AreOwn d.says own → AreOwn after.says others → AreSet own others key lower text
  set_own own others first second =
      let c = set_content others second in
      let at = own_at r.k r.e first r.replaced.here in
      let differ = differ_at r.replaced own others lower (Some c.atoms) first second r.set.others (set_has c.atoms c.contents) in
      record {
        index = r.k;
        atoms = c.atoms;
        contents = c.contents;
        differ = differ;
        is = ap (λ (x : Entry). x.key) (some_same (sym differ.here ∙ at.1)) ∙ at.2.key ∙ r.is;
      }

  -- if the old file is accepted, the field is unlinked and the contents of the text can be parsed, the new file has no error
  pub set_accepted : (atoms : List Atom) {error : ParseError} → IsContent (is_verbatim_field lower) (chars text) atoms
      → IsUnlinked lower → IsAccepted d.says → IsFirstErrorOf after.says error → ⊥
  set_accepted atoms contents apart accepted error =
      still_accepted r.replaced lower (Some atoms) apart accepted
      (λ t are.
      with_field_texts (definition_in d.says.abbreviations) r.e r.changed t lower (Some atoms) are r.replaced.kind r.set.others
      (set_has atoms contents))
      (r.readable (definition_in d.says.abbreviations) atoms contents)
      (λ others second.
      differ_at r.replaced accepted.own others lower (Some atoms) accepted.entries second r.set.others (set_has atoms contents))
      error

-- ---- the bibliography

module _ (says : FileReading) (own : List Entry) (are : AreOwn says own) where
  -- no later own entry has the key of an earlier one
  keys_apart : (i j : ℕ) (x y : Entry) → slice_get own i ≡ Some x → slice_get own j ≡ Some y → x.key ≡ y.key → i < j → ⊥
  keys_apart i j x y here there same less =
      keys_fresh are i j y less there
      (record { entry = x; there = here; claims = ap (λ b. b || is_claimed (aliases x) y.key) (sym (same_start x.key y.key same)) })
    where
      same_start : (a b : List ℕ) → a ≡ b → true ≡ bytes_eq b a
      same_start a b is = sym ((bytes_eq-Decides b a).1 (sym is))

  pub one_key : (i j : ℕ) (x y : Entry) → slice_get own i ≡ Some x → slice_get own j ≡ Some y → x.key ≡ y.key → i ≡ j
  one_key i j x y here there same =
      elim (cases_lt i j) [
        | inl less ↦ absurd (keys_apart i j x y here there same less)
        | inr rest ↦ elim (eqb_tells i j) [
          | inl t ↦ t.1
          | inr t ↦ absurd (keys_apart j i y x there here (sym same) (omega (arith, rest, t.1)))
        ]
      ]

-- a claimed name points to the entry that claims it, or to a later one
found_from : (own : List Entry) (k : ℕ) (name : List ℕ) (o : Option ℕ) → ClaimsAt own k name
    → MatchOption o ((index : ℕ) → ClaimsAt own index name → ⊥) (IsLastClaim own name) → (at : ℕ) × (o ≡ Some at) × (k ≤ at)
found_from own k name None claim none = absurd (none k claim)
found_from own k name (Some at) claim last = (at, refl, last.last k claim)

module _ {d after : Document} {key name text : List ℕ} (r : IsSetRead d after key name text) where
  pub set_contents : {bibliography : Bibliography} → IsLoaded after.says bibliography
      → is_one_of lost_names (str_to_ascii_lowercase name) ≡ false
      → HasFieldContents bibliography key (str_to_ascii_lowercase name) text
  set_contents {bibliography} loaded apart =
      let own = loaded.accepted.own in
      let are = loaded.accepted.entries in
      let c = set_content r own are in
      let at = replaced_at r.replaced own are in
      let field = field_at loaded r.k at.1 (str_to_ascii_lowercase name) c.atoms at.2 c.has apart in
      let is : at.1.key ≡ key = replaced_key r.replaced own are ∙ r.is in
      record {
        index = r.k;
        entry = field.entry;
        here = field.here;
        is = field.is ∙ is;
        one = λ other e there same.
            let within : other < length own =
            subst (λ n. other < n) (as_long loaded) (slice_get_within bibliography.entries other e there) in
            let before : Entry = get_or own other at.1 in
            let found : slice_get own other ≡ Some before = slice_get-get_or own other at.1 within in
            one_key after.says own are other r.k before at.1 found at.2 (sym (same_key loaded other before e found there) ∙ same
            ∙ sym is);
        found =
            subst (λ names. (at : ℕ) × (by_name.get names key ≡ Some at) × (r.k ≤ at)) (sym loaded.names)
            (found_from own r.k key (by_name.get (names_of own) key)
            (record {
              entry = at.1;
              there = at.2;
              claims = ap (λ b. b || is_claimed (aliases at.1) key) ((bytes_eq-Decides key at.1.key).1 (sym is));
            })
            (points own key));
        chunks = field.chunks;
        has = field.has;
        contents =
            subst (IsContent (is_verbatim_field (str_to_ascii_lowercase name)) (chars text)) (sym field.says) c.contents;
      }
