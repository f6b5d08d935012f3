-- The texts of the entries of a file, by its raw entries: they depend on neither spans nor the borders of chunks.
use Rattle.std.proofs.Common.{◌≡◌, ℕ, zero, suc, ◌+◌, List, [], ◌∷◌, ◌++◌, false, map, refl, sym, ap, ◌∙◌, subst, Some, None, Option, option_map, MatchOption}
use Rattle.std.specs.Prelude.{codes, slice_get, slice_set}
use Rattle.std.specs.FinMap as by_name
use Rattle.std.specs.List.{AllZip}
use Rattle.std.specs.Option.{option_map_or}
use Rattle.bib_abbreviations.specs.Abbreviations.{Definitions, Evaluates}
use Rattle.bib_abbreviations.proofs.LawFacts.{evaluates_same}
use Rattle.bib_chunks.specs.Lists.{comma_texts}
use Rattle.bib_chunks.specs.Styled.{Atom, styled}
use Rattle.bib_chunks.specs.declared.chunk.Chunk.{Chunk}
use Rattle.bib_collections.specs.Sorted.{ByText}
use Rattle.bib_entry.specs.declared.entry.Entry.{Entry}
use Rattle.bib_file_entries.specs.Bibliography.{claims, empty_bibliography}
use Rattle.bib_file_entries.specs.Loaded.{AllCanBeRead, AreEntries, FieldSays, IsEntry, field_in, is_claimed, name_of}
use Rattle.bib_inheritance.specs.EntryTexts.{EntryTexts, fields_of}
use Rattle.bib_inheritance.specs.References.{references}
use Rattle.bib_inheritance.specs.Resolving.{graph_by, texts_of_entries, texts_of_entry}
use Rattle.bib_syntax.specs.Reading.{EntryReading, FieldReading}
use Rattle.bib_tables.specs.EntryType.{entry_type_of}
use Rattle.bib_tables.specs.VerbatimFields.{is_verbatim_field}
use Rattle.bib_text.specs.declared.spanned.Spanned.{Spanned}
use Rattle.biblatex.specs.Resolved.{names_of}
use Rattle.biblatex.proofs.ResolvedFacts.{entry_texts_same, names_go}
use Rattle.edit_laws.proofs.AlikeFacts.{AreAlikeFields, FoundAlike, field_alike}
use Rattle.edit_laws.proofs.ReadAlikeFacts.{AreAlikeEntries, by_texts}

-- ---- the texts of a raw entry

-- a text is the value of a raw field, or both are missing
abbrev pub HasText : Definitions → Option FieldReading → Option (List Atom) → Type 0
HasText definitions None text = text ≡ None
HasText definitions (Some f) text =
    (atoms : List Atom) × (text ≡ Some atoms) × Evaluates definitions (is_verbatim_field (name_of f)) f.value.pieces atoms

-- texts are those of a raw entry: its type, and for each name the text of the last field with the name
pub record AreTextsOf (definitions : Definitions) (said : EntryReading) (texts : EntryTexts) : Type 0 where
  pub kind : texts.entry_type ≡ entry_type_of said.kind.text
  pub fields : (name : List ℕ) → HasText definitions (field_in said.fields name) (texts.fields name)

-- the names that an entry with this key and these texts claims
abbrev pub claims_by : List ℕ → EntryTexts → List (List ℕ)
claims_by key texts = key ∷ option_map_or comma_texts (texts.fields (codes "ids")) []

-- texts are those of raw entries in order, after the names `earlier` are claimed: no key was claimed before, and each field can be parsed
pub data AreTexts (definitions : Definitions) : List (List ℕ) → List EntryReading → List EntryTexts → Type 0 where
  none : {earlier : List (List ℕ)} → AreTexts definitions earlier [] []
  next : {earlier : List (List ℕ)} {said : EntryReading} {rest : List EntryReading} {texts : EntryTexts} {more : List EntryTexts}
      → is_claimed earlier said.key.text ≡ false → AreTextsOf definitions said texts → AllCanBeRead definitions said.fields
      → AreTexts definitions (earlier ++ claims_by said.key.text texts) rest more
      → AreTexts definitions earlier (said ∷ rest) (texts ∷ more)

has_text : (definitions : Definitions) (field : Option FieldReading) (chunks : Option (List (Spanned Chunk)))
    → MatchOption field (chunks ≡ None) (λ f. (c : List (Spanned Chunk)) × (chunks ≡ Some c) × FieldSays definitions f c)
    → HasText definitions field (option_map styled chunks)
has_text definitions None chunks is = ap (option_map styled) is
has_text definitions (Some f) chunks is = (styled is.0, ap (option_map styled) is.1, is.2.says)

-- the texts of an entry are those of its raw entry
pub texts_of_entry_are : {definitions : Definitions} {said : EntryReading} (entry : Entry) → IsEntry definitions said entry
    → AreTextsOf definitions said (texts_of_entry entry)
texts_of_entry_are {definitions} {said} entry is = record {
  kind = is.kind;
  fields = λ name. has_text definitions (field_in said.fields name) (by_name.get entry.fields name) (is.fields name);
}

pub claims_are : (entry : Entry) → claims entry ≡ claims_by entry.key (texts_of_entry entry)
claims_are entry = ap (λ names. entry.key ∷ names) (by_texts (by_name.get entry.fields (codes "ids")))

-- the texts of the entries of a file are those of its raw entries
pub texts_are : {definitions : Definitions} {earlier : List (List ℕ)} {said : List EntryReading} {own : List Entry}
    → AreEntries definitions earlier said own → AreTexts definitions earlier said (texts_of_entries own)
texts_are AreEntries.none = AreTexts.none
texts_are {definitions} {earlier} (AreEntries.next {said = s} {rest = rest} {entry = a} {entries = own} fresh is following) =
    AreTexts.next fresh (texts_of_entry_are a is) is.readable
    (subst (λ names. AreTexts definitions (earlier ++ names) rest (texts_of_entries own))
    (claims_are a ∙ ap (λ key. claims_by key (texts_of_entry a)) is.key) (texts_are following))

pub keys_are : {definitions : Definitions} {earlier : List (List ℕ)} {said : List EntryReading} {own : List Entry}
    → AreEntries definitions earlier said own → map (λ (e : Entry). e.key) own ≡ map (λ (s : EntryReading). s.key.text) said
keys_are AreEntries.none = refl
keys_are (AreEntries.next {said = s} {entry = a} {entries = own} fresh is following) =
    ap (λ key. key ∷ map (λ (e : Entry). e.key) own) is.key ∙ ap (λ keys. s.key.text ∷ keys) (keys_are following)

-- ---- alike raw entries have the same texts

module _ (one other : Definitions) where
  pub found_text : {f g : Option FieldReading} (a b : Option (List Atom)) → FoundAlike (AreAlikeFields one other) f g → HasText one f a
      → HasText other g b → a ≡ b
  found_text a b FoundAlike.in_neither first second = first ∙ sym second
  found_text a b (FoundAlike.in_each {x = f} {y = g} are) first second =
      let moved : Evaluates other (is_verbatim_field (name_of g)) g.value.pieces first.0 =
      subst (λ name. Evaluates other (is_verbatim_field name) g.value.pieces first.0) are.name
      (are.means.value (is_verbatim_field (name_of f)) first.0 first.2) in
      first.1 ∙ ap Some (evaluates_same moved second.2) ∙ sym second.1

  pub texts_same : {said tells : EntryReading} (a b : EntryTexts) → AreAlikeEntries one other said tells → AreTextsOf one said a
      → AreTextsOf other tells b → a ≡ b
  texts_same {said} {tells} a b are first second =
      entry_texts_same a.entry_type b.entry_type a.fields b.fields (first.kind ∙ are.kind ∙ sym second.kind)
      (λ name.
      found_text (a.fields name) (b.fields name)
      (subst (λ o. FoundAlike (AreAlikeFields one other) o (field_in tells.fields name)) (are.reordered.found name)
      (field_alike are.ordered tells.fields name are.fields)) (first.fields name) (second.fields name))

  pub all_texts_same : (said tells : List EntryReading) (as' bs : List EntryTexts) → AllZip (AreAlikeEntries one other) said tells
      → AllZip (AreTextsOf one) said as' → AllZip (AreTextsOf other) tells bs → as' ≡ bs
  all_texts_same [] [] [] [] are first second = refl
  all_texts_same [] [] [] (b ∷ bs) are first second = absurd second
  all_texts_same [] [] (a ∷ as') bs are first second = absurd first
  all_texts_same [] (t ∷ tells) as' bs are first second = absurd are
  all_texts_same (s ∷ said) [] as' bs are first second = absurd are
  all_texts_same (s ∷ said) (t ∷ tells) [] bs are first second = absurd first
  all_texts_same (s ∷ said) (t ∷ tells) (a ∷ as') [] are first second = absurd second
  all_texts_same (s ∷ said) (t ∷ tells) (a ∷ as') (b ∷ bs) are first second =
      ap (λ x. x ∷ as') (texts_same a b are.0 first.0 second.0)
      ∙ ap (λ xs. b ∷ xs) (all_texts_same said tells as' bs are.1 first.1 second.1)

pub each_texts : {definitions : Definitions} {earlier : List (List ℕ)} {said : List EntryReading} {texts : List EntryTexts}
    → AreTexts definitions earlier said texts → AllZip (AreTextsOf definitions) said texts
each_texts AreTexts.none = tt
each_texts (AreTexts.next fresh is read following) = (is, each_texts following)

-- ---- elements at an index

module _ {A B : Type 0} (R : A → B → Type 0) where
  pub zip_at : (xs : List A) (ys : List B) (k : ℕ) (x : A) → AllZip R xs ys → slice_get xs k ≡ Some x
      → (y : B) × (slice_get ys k ≡ Some y) × R x y
  zip_at [] ys k x all here = cc
  zip_at (a ∷ xs) [] k x all here = absurd all
  zip_at (a ∷ xs) (b ∷ ys) zero x all here = let same : a ≡ x = cc in (b, refl, subst (λ z. R z b) same all.0)
  zip_at (a ∷ xs) (b ∷ ys) (suc k) x all here = zip_at xs ys k x all.1 here

  pub zip_back_at : (xs : List A) (ys : List B) (k : ℕ) (y : B) → AllZip R xs ys → slice_get ys k ≡ Some y
      → (x : A) × (slice_get xs k ≡ Some x) × R x y
  zip_back_at xs [] k y all here = cc
  zip_back_at [] (b ∷ ys) k y all here = absurd all
  zip_back_at (a ∷ xs) (b ∷ ys) zero y all here = let same : b ≡ y = cc in (a, refl, subst (λ z. R a z) same all.0)
  zip_back_at (a ∷ xs) (b ∷ ys) (suc k) y all here = zip_back_at xs ys k y all.1 here

-- the raw entry at an index has an own entry at this index
pub own_at : {definitions : Definitions} {earlier : List (List ℕ)} {said : List EntryReading} {own : List Entry} (k : ℕ)
    (e : EntryReading) → AreEntries definitions earlier said own → slice_get said k ≡ Some e
    → (entry : Entry) × (slice_get own k ≡ Some entry) × IsEntry definitions e entry
own_at k e AreEntries.none here = cc
own_at {definitions} zero e (AreEntries.next {said = s} {entry = a} fresh is following) here =
    let same : s ≡ e = cc in (a, refl, subst (λ z. IsEntry definitions z a) same is)
own_at (suc k) e (AreEntries.next fresh is following) here = own_at k e following here

-- ---- names and references, by keys and texts

-- the names that each of the entries with these keys and texts claims
abbrev pub all_claims : List (List ℕ) → List EntryTexts → List (List (List ℕ))
all_claims [] texts = []
all_claims (key ∷ keys) [] = []
all_claims (key ∷ keys) (t ∷ texts) = claims_by key t ∷ all_claims keys texts

pub all_claims_are : (own : List Entry) → map claims own ≡ all_claims (map (λ (e : Entry). e.key) own) (texts_of_entries own)
all_claims_are [] = refl
all_claims_are (e ∷ own) =
    ap (λ x. x ∷ map claims own) (claims_are e)
    ∙ ap (λ xs. claims_by e.key (texts_of_entry e) ∷ xs) (all_claims_are own)

-- entries that claim the same names in order have the same map from names to indices
pub names_by_claims : (own others : List Entry) → map claims own ≡ map claims others → names_of own ≡ names_of others
names_by_claims own others are = names_go empty_bibliography empty_bibliography own others refl refl are

-- the references of entries, by the map of names and by their texts
abbrev pub graph_by_texts : ByText ℕ → List EntryTexts → List (List ℕ)
graph_by_texts names texts = map (λ (t : EntryTexts). references names t.fields) texts

pub graph_texts : (names : ByText ℕ) (own : List Entry) → graph_by names own ≡ graph_by_texts names (texts_of_entries own)
graph_texts names [] = refl
graph_texts names (e ∷ own) = ap (λ rows. references names (fields_of e.fields) ∷ rows) (graph_texts names own)

-- ---- a list with another element

-- a function has the same values on a list and on the list with another element if it has the same value on both elements
pub map_set_same : {A B : Type 0} (f : A → B) (xs : List A) (k : ℕ) (x y : A) → slice_get xs k ≡ Some x → f y ≡ f x
    → map f (slice_set xs k y) ≡ map f xs
map_set_same f [] k x y here same = refl
map_set_same f (z ∷ xs) zero x y here same = let is : z ≡ x = cc in ap (λ l. l ∷ map f xs) (same ∙ ap f (sym is))
map_set_same f (z ∷ xs) (suc k) x y here same = ap (λ l. f z ∷ l) (map_set_same f xs k x y here same)

pub claims_set : (keys : List (List ℕ)) (texts : List EntryTexts) (k : ℕ) (x y : EntryTexts) → slice_get texts k ≡ Some x
    → y.fields (codes "ids") ≡ x.fields (codes "ids") → all_claims keys (slice_set texts k y) ≡ all_claims keys texts
claims_set [] texts k x y here same = refl
claims_set (key ∷ keys) [] k x y here same = refl
claims_set (key ∷ keys) (t ∷ texts) zero x y here same =
    let is : t ≡ x = cc in
    ap (λ o. (key ∷ option_map_or comma_texts o []) ∷ all_claims keys texts)
    (same ∙ ap (λ (u : EntryTexts). u.fields (codes "ids")) (sym is))
claims_set (key ∷ keys) (t ∷ texts) (suc k) x y here same =
    ap (λ l. claims_by key t ∷ l) (claims_set keys texts k x y here same)

pub AllZip-set : {A B : Type 0} (R : A → B → Type 0) (xs : List A) (ys : List B) (k : ℕ) (x : A) (y : B) → AllZip R xs ys → R x y
    → AllZip R (slice_set xs k x) (slice_set ys k y)
AllZip-set R [] [] k x y all is = tt
AllZip-set R [] (b ∷ ys) k x y all is = absurd all
AllZip-set R (a ∷ xs) [] k x y all is = absurd all
AllZip-set R (a ∷ xs) (b ∷ ys) zero x y all is = (is, all.1)
AllZip-set R (a ∷ xs) (b ∷ ys) (suc k) x y all is = (all.0, AllZip-set R xs ys k x y all.1 is)
