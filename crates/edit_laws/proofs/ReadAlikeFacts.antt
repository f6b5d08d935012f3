-- Bibliographies of two files with alike entries: the same keys and types, and the same fields, in some order, with pieces that mean the
-- same.
use Rattle.std.proofs.Common.{◌≡◌, ℕ, ◌+◌, ◌<◌, List, [], ◌∷◌, ◌++◌, true, drop, length, length-append, map, get_or, refl, sym, ap, ◌∙◌, subst, Some, None, Option, option_map, MatchOption}
use Rattle.std.specs.Prelude.{codes, unwrap_or}
use Rattle.std.specs.FinMap as by_name
use Rattle.std.specs.List.{AllZip, list_any}
use Rattle.std.specs.Option.{option_map_or}
use Rattle.std.specs.Str.{str_to_ascii_lowercase}
use Rattle.std.proofs.lemmas.Bool.{both_ways}
use Rattle.bib_abbreviations.specs.Abbreviations.{Definitions, Evaluates, IsReadable}
use Rattle.bib_abbreviations.proofs.LawFacts.{evaluates_same}
use Rattle.bib_chunks.specs.Styled.{styled}
use Rattle.bib_chunks.specs.declared.chunk.Chunk.{Chunk}
use Rattle.edit_entries.specs.Edits.{moved_field, moved_piece}
use Rattle.bib_entry.specs.declared.entry.Entry.{Entry}
use Rattle.bib_tables.specs.EntryType.{entry_type_of, entry_type_by_name_or_alias}
use Rattle.bib_tables.specs.VerbatimFields.{is_verbatim_field}
use Rattle.bib_tables.specs.declared.mechanics.EntryType.TheVariants.{Unknown}
use Rattle.bib_file_entries.specs.Bibliography.{Bibliography, aliases, claims, empty_bibliography, with_last_entry}
use Rattle.bib_file_entries.specs.Loaded.{AllCanBeRead, AreEntries, FieldSays, IsEntry, IsFirstErrorOfEntries, IsFirstErrorOfFields, definition_in, field_in, is_claimed, loaded_after, name_of}
use Rattle.edit_format.specs.Formatted.{content, entry_content, entry_in_order, field_in_lowercase, says_in_order}
use Rattle.edit_format.specs.declared.style.Style.{Style}
use Rattle.bib_collections.specs.Graph.{Leads, refs_of}
use Rattle.bib_inheritance.specs.InheritableDate.{looks_for_date}
use Rattle.bib_inheritance.specs.EntryTexts.{fields_of}
use Rattle.bib_collections.specs.Names.{with_claims, claims_for}
use Rattle.bib_inheritance.specs.Resolving.{Inherits, at_index, is_bad_date, texts_of_entries, texts_of_entry}
use Rattle.bib_chunks.specs.Lists.{comma_texts}
use Rattle.bib_syntax.specs.Reading.{EntryReading, FieldReading, FileReading, Part, Piece}
use Rattle.bib_syntax.specs.Reading.Piece.{abbreviation, literal}
use Rattle.bib_syntax.specs.declared.raw.ParseError.{ParseError}
use Rattle.bib_text.specs.declared.spanned.Spanned.{Spanned}
use Rattle.biblatex.specs.Resolved.{AreOwn, IsAccepted, IsFirstErrorOf, IsLoaded, graph_of, names_of}
use Rattle.biblatex.proofs.ResolvedFacts.{graphs_by, solutions_same, entry_texts_same, bad_apart}
use Rattle.edit_laws.proofs.AlikeFacts.{Alike, AreAlikeAbbreviations, AreAlikeFields, DefineAlike, FoundAlike, alike_mean, definitions_alike, field_alike}
use Rattle.edit_laws.proofs.ReorderedFacts.{IsReordered, entry_reordered}
use Rattle.edit_laws.specs.Alike.{AreAlike}
use Rattle.bib_text.proofs.ListFacts.{found_any}

-- two entries have the same key, the same entry type, and alike fields after a change of order that keeps the last field of each name
pub record AreAlikeEntries (one other : Definitions) (said tells : EntryReading) : Type 0 where
  pub key : said.key.text ≡ tells.key.text
  pub kind : entry_type_of said.kind.text ≡ entry_type_of tells.kind.text
  pub ordered : List FieldReading
  pub reordered : IsReordered said.fields ordered
  pub fields : AllZip (AreAlikeFields one other) ordered tells.fields

-- two files have alike entries
pub record AreAlikeFiles (says tells : FileReading) : Type 0 where
  pub entries : AllZip
      (AreAlikeEntries (definition_in says.abbreviations) (definition_in tells.abbreviations))
      says.entries tells.entries

-- ---- alike files, from readings without spans

abbrev text_of : Piece → List ℕ
text_of (literal p) = p.text
text_of (abbreviation p) = p.text

pub cons_head : {A : Type 0} (x y : A) {xs ys : List A} → x ∷ xs ≡ y ∷ ys → x ≡ y
cons_head x y is = ap (λ l. get_or l 0 x) is

pub cons_tail : {A : Type 0} {x y : A} {xs ys : List A} → x ∷ xs ≡ y ∷ ys → xs ≡ ys
cons_tail is = ap (drop 1) is

pub pieces_alike : (ps qs : List Piece) → map (moved_piece (λ at. 0)) ps ≡ map (moved_piece (λ at. 0)) qs → Alike ps qs
pieces_alike [] [] is = Alike.ends
pieces_alike [] (q ∷ qs) is = cc
pieces_alike (p ∷ ps) [] is = cc
pieces_alike (literal p ∷ ps) (literal q ∷ qs) is =
    Alike.same_text {p = p} {q = q} (ap text_of (cons_head _ _ is)) (pieces_alike ps qs (cons_tail is))
pieces_alike (literal p ∷ ps) (abbreviation q ∷ qs) is = cc
pieces_alike (abbreviation p ∷ ps) (literal q ∷ qs) is = cc
pieces_alike (abbreviation p ∷ ps) (abbreviation q ∷ qs) is =
    Alike.same_name {p = p} {q = q} (ap text_of (cons_head _ _ is)) (pieces_alike ps qs (cons_tail is))

-- a field without spans and with its name in ASCII lowercase
abbrev field_content : FieldReading → FieldReading
field_content f = moved_field (λ at. 0) (field_in_lowercase f)

fields_alike : {one other : Definitions} → DefineAlike one other → (fs gs : List FieldReading)
    → map (moved_field (λ at. 0)) (map field_in_lowercase fs) ≡ map (moved_field (λ at. 0)) (map field_in_lowercase gs)
    → AllZip (AreAlikeFields one other) fs gs
fields_alike both [] [] is = tt
fields_alike both [] (g ∷ gs) is = cc
fields_alike both (f ∷ fs) [] is = cc
fields_alike both (f ∷ fs) (g ∷ gs) is =
    let first : field_content f ≡ field_content g = cons_head _ _ is in (
      record {
        name = ap (λ (h : FieldReading). h.name.text) first;
        means = alike_mean both (pieces_alike f.value.pieces g.value.pieces (ap (λ (h : FieldReading). h.value.pieces) first));
      },
      fields_alike both fs gs (cons_tail is),
    )

pub abbreviations_alike : (fs gs : List FieldReading) → map (moved_field (λ at. 0)) fs ≡ map (moved_field (λ at. 0)) gs
    → AllZip AreAlikeAbbreviations fs gs
abbreviations_alike [] [] is = tt
abbreviations_alike [] (g ∷ gs) is = cc
abbreviations_alike (f ∷ fs) [] is = cc
abbreviations_alike (f ∷ fs) (g ∷ gs) is =
    let first : moved_field (λ at. 0) f ≡ moved_field (λ at. 0) g = cons_head _ _ is in (
      record {
        name = ap (λ (h : FieldReading). h.name.text) first;
        pieces = pieces_alike f.value.pieces g.value.pieces (ap (λ (h : FieldReading). h.value.pieces) first);
      },
      abbreviations_alike fs gs (cons_tail is),
    )

-- names that are equal in ASCII lowercase have the same entry type
type_of_lowercase : (name other : List ℕ) → str_to_ascii_lowercase name ≡ str_to_ascii_lowercase other
    → entry_type_of name ≡ entry_type_of other
unfolding entry_type_of entry_type_by_name_or_alias
type_of_lowercase name other same = ap (λ l. unwrap_or (entry_type_by_name_or_alias l) (Unknown l)) same

entries_alike : {one other : Definitions} → DefineAlike one other → (style : Style) (text : List ℕ) (es gs : List EntryReading)
    → map entry_content (map (entry_in_order style text) es) ≡ map entry_content gs → AllZip (AreAlikeEntries one other) es gs
entries_alike both style text [] [] is = tt
entries_alike both style text [] (g ∷ gs) is = cc
entries_alike both style text (e ∷ es) [] is = cc
entries_alike both style text (e ∷ es) (g ∷ gs) is =
    let o = entry_in_order style text e in
    let same = entry_reordered style text e in
    let first : entry_content o ≡ entry_content g = cons_head _ _ is in (
      record {
        key = ap (λ (p : Part). p.text) (sym same.key) ∙ ap (λ (h : EntryReading). h.key.text) first;
        kind =
            ap (λ (p : Part). entry_type_of p.text) (sym same.kind)
            ∙ type_of_lowercase o.kind.text g.kind.text (ap (λ (h : EntryReading). h.kind.text) first);
        ordered = o.fields;
        reordered = same.fields;
        fields = fields_alike both o.fields g.fields (ap (λ (h : EntryReading). h.fields) first);
      },
      entries_alike both style text es gs (cons_tail is),
    )

-- a file is alike to one with the same content, except that its fields are in the order of a style
pub files_alike : (style : Style) (text : List ℕ) (one other : FileReading)
    → content (says_in_order style text one) ≡ content other → AreAlikeFiles one other
files_alike style text one other is = record {
  entries =
      entries_alike
      (definitions_alike one.abbreviations other.abbreviations
      (abbreviations_alike one.abbreviations other.abbreviations (ap (λ (h : FileReading). h.abbreviations) is)))
      style text one.entries other.entries (ap (λ (h : FileReading). h.entries) is);
}

-- ---- the entries of two alike files

-- two entries have the same key, type and styled texts, and claim the same names
pub record AreAlikeOwn (one other : Entry) : Type 0 where
  pub texts : texts_of_entry one ≡ texts_of_entry other
  pub key : one.key ≡ other.key
  pub claims : claims one ≡ claims other

-- the parts of a field between commas are those of its styled text
pub by_texts : (o : Option (List (Spanned Chunk)))
    → option_map_or (λ chunks. comma_texts (styled chunks)) o []
    ≡ option_map_or comma_texts (option_map styled o) []
by_texts None = refl
by_texts (Some chunks) = refl

module _ (one other : Definitions) where
  -- the last fields with a name have the same styled text if they are alike, or are missing in both entries
  found_alike : {f g : Option FieldReading} (c d : Option (List (Spanned Chunk))) → FoundAlike (AreAlikeFields one other) f g
      → MatchOption f (c ≡ None) (λ f. (chunks : List (Spanned Chunk)) × (c ≡ Some chunks) × FieldSays one f chunks)
      → MatchOption g (d ≡ None) (λ g. (chunks : List (Spanned Chunk)) × (d ≡ Some chunks) × FieldSays other g chunks)
      → option_map styled c ≡ option_map styled d
  found_alike c d FoundAlike.in_neither first second = rw (first, second) refl
  found_alike c d (FoundAlike.in_each {x = f} {y = g} are) first second =
      let moved : Evaluates other (is_verbatim_field (name_of g)) g.value.pieces (styled first.0) =
      subst (λ name. Evaluates other (is_verbatim_field name) g.value.pieces (styled first.0)) are.name
      (are.means.value (is_verbatim_field (name_of f)) (styled first.0) first.2.says) in
      rw (first.1, second.1) (ap Some (evaluates_same moved second.2.says))

  module _ {said tells : EntryReading} (a b : Entry) (are : AreAlikeEntries one other said tells) (first : IsEntry one said a)
      (second : IsEntry other tells b) where
    texts_alike : (name : List ℕ) → option_map styled (by_name.get a.fields name) ≡ option_map styled (by_name.get b.fields name)
    texts_alike name =
        found_alike (by_name.get a.fields name) (by_name.get b.fields name)
        (subst (λ o. FoundAlike (AreAlikeFields one other) o (field_in tells.fields name)) (are.reordered.found name)
        (field_alike are.ordered tells.fields name are.fields)) (first.fields name) (second.fields name)

    entry_texts_alike : texts_of_entry a ≡ texts_of_entry b
    entry_texts_alike =
        entry_texts_same a.entry_type b.entry_type (fields_of a.fields) (fields_of b.fields)
        (first.kind ∙ are.kind ∙ sym second.kind) texts_alike

    key_alike : a.key ≡ b.key
    key_alike = first.key ∙ are.key ∙ sym second.key

    claims_alike : claims a ≡ claims b
    claims_alike =
        ap (λ key. key ∷ aliases a) key_alike
        ∙ ap (λ names. b.key ∷ names)
        (by_texts (by_name.get a.fields (codes "ids"))
        ∙ ap (λ o. option_map_or comma_texts o []) (texts_alike (codes "ids"))
        ∙ sym (by_texts (by_name.get b.fields (codes "ids"))))

  -- the loaded entries of two alike lists are alike
  pub all_alike : (earlier : List (List ℕ)) (said tells : List EntryReading) {as' bs : List Entry}
      → AllZip (AreAlikeEntries one other) said tells → AreEntries one earlier said as' → AreEntries other earlier tells bs
      → AllZip AreAlikeOwn as' bs
  all_alike earlier [] [] are AreEntries.none AreEntries.none = tt
  all_alike earlier [] (t ∷ tells) are first second = absurd are
  all_alike earlier (s ∷ said) [] are first second = absurd are
  all_alike earlier (s ∷ said) (t ∷ tells) are (AreEntries.next {entry = a} fresh is following)
      (AreEntries.next {entry = b} {entries = bs} fresh' is' following') =
      let same = claims_alike a b are.0 is is' in (
        record { texts = entry_texts_alike a b are.0 is is'; key = key_alike a b are.0 is is'; claims = same },
        all_alike (earlier ++ claims a) said tells are.1 following
            (subst (λ names. AreEntries other (earlier ++ names) tells bs) (sym same) following'),
      )

  -- fields that are alike to readable ones have no error
  pub fields_faultless : (fs gs : List FieldReading) {e : ParseError} → AllZip (AreAlikeFields one other) fs gs → AllCanBeRead one fs
      → IsFirstErrorOfFields other gs e → ⊥
  fields_faultless [] [] are read error = elim error [ ]
  fields_faultless [] (g ∷ gs) are read error = absurd are
  fields_faultless (f ∷ fs) [] are read error = absurd are
  fields_faultless (f ∷ fs) (g ∷ gs) are read (IsFirstErrorOfFields.here error unread) =
      unread
      (subst (λ name. IsReadable other (is_verbatim_field name) g.value.pieces) are.0.name
      (are.0.means.readable (is_verbatim_field (name_of f)) read.0))
  fields_faultless (f ∷ fs) (g ∷ gs) are read (IsFirstErrorOfFields.following also error) = fields_faultless fs gs are.1 read.1 error

  -- entries that are alike to accepted ones have no error
  pub entries_faultless : (earlier : List (List ℕ)) (said tells : List EntryReading) {own : List Entry} {e : ParseError}
      → AllZip (AreAlikeEntries one other) said tells → AreEntries one earlier said own
      → IsFirstErrorOfEntries other earlier tells e → ⊥
  entries_faultless earlier [] [] are read error = elim error [ ]
  entries_faultless earlier [] (t ∷ tells) are read error = absurd are
  entries_faultless earlier (s ∷ said) [] are read error = absurd are
  entries_faultless earlier (s ∷ said) (t ∷ tells) are (AreEntries.next fresh read rest) (IsFirstErrorOfEntries.duplicate was is) =
      both_ways _ (sym (ap (is_claimed earlier) are.0.key) ∙ fresh) was
  entries_faultless earlier (s ∷ said) (t ∷ tells) are (AreEntries.next fresh read rest) (IsFirstErrorOfEntries.unreadable fresh' error) =
      fields_faultless are.0.ordered t.fields are.0.fields (are.0.reordered.readable one read.readable) error
  entries_faultless earlier (s ∷ said) (t ∷ tells) {e = e} are (AreEntries.next {entry = a} fresh read rest)
      (IsFirstErrorOfEntries.following {entry = b} fresh' read' error) =
      entries_faultless (earlier ++ claims a) said tells are.1 rest
      (subst (λ names. IsFirstErrorOfEntries other (earlier ++ names) tells e)
      (sym (claims_alike a b are.0 read read')) error)

-- ---- files

all_texts_zip : (as' bs : List Entry) → AllZip AreAlikeOwn as' bs → texts_of_entries as' ≡ texts_of_entries bs
all_texts_zip [] [] all = refl
all_texts_zip [] (b ∷ bs) all = absurd all
all_texts_zip (a ∷ as') [] all = absurd all
all_texts_zip (a ∷ as') (b ∷ bs) all =
    ap (λ x. x ∷ texts_of_entries as') all.0.texts ∙ ap (λ xs. texts_of_entry b ∷ xs) (all_texts_zip as' bs all.1)

keys_zip : (as' bs : List Entry) → AllZip AreAlikeOwn as' bs → map (λ (e : Entry). e.key) as' ≡ map (λ (e : Entry). e.key) bs
keys_zip [] [] all = refl
keys_zip [] (b ∷ bs) all = absurd all
keys_zip (a ∷ as') [] all = absurd all
keys_zip (a ∷ as') (b ∷ bs) all = ap (λ x. x ∷ map (λ (e : Entry). e.key) as') all.0.key ∙ ap (λ xs. b.key ∷ xs) (keys_zip as' bs all.1)

names_zip : (l m : Bibliography) (as' bs : List Entry) → length l.entries ≡ length m.entries → l.names ≡ m.names
    → AllZip AreAlikeOwn as' bs
    → (loaded_after l as').names ≡ (loaded_after m bs).names
names_zip l m [] [] count names all = names
names_zip l m [] (b ∷ bs) count names all = absurd all
names_zip l m (a ∷ as') [] count names all = absurd all
names_zip l m (a ∷ as') (b ∷ bs) count names all =
    names_zip (with_last_entry l a) (with_last_entry m b) as' bs
    (length-append l.entries (a ∷ []) ∙ ap (λ k. k + 1) count ∙ sym (length-append m.entries (b ∷ [])))
    (ap (λ n. with_claims n (claims_for (claims a) (length l.entries))) names
    ∙ ap (λ cs. with_claims m.names (claims_for cs (length l.entries))) all.0.claims
    ∙ ap (λ k. with_claims m.names (claims_for (claims b) k)) count)
    all.1

module _ {says tells : FileReading} (are : AreAlikeFiles says tells) where
  module _ (own others : List Entry) (first : AreOwn says own) (second : AreOwn tells others) where
    own_alike : AllZip AreAlikeOwn own others
    own_alike =
        all_alike (definition_in says.abbreviations) (definition_in tells.abbreviations) [] says.entries tells.entries
        are.entries first second

    names_alike : names_of own ≡ names_of others
    names_alike = names_zip empty_bibliography empty_bibliography own others refl refl own_alike

    graph_alike : graph_of own ≡ graph_of others
    graph_alike = graphs_by (names_of own) (names_of others) own others names_alike (all_texts_zip own others own_alike)

  -- a file that is alike to an accepted one has no error
  pub faultless : {e : ParseError} → IsAccepted says → IsFirstErrorOf tells e → ⊥
  faultless accepted (IsFirstErrorOf.entry error) =
      entries_faultless (definition_in says.abbreviations) (definition_in tells.abbreviations) [] says.entries tells.entries are.entries
      accepted.entries error
  faultless accepted (IsFirstErrorOf.cycle {own = own} {index = index} read first is) =
      let same = sym (graph_alike accepted.own own accepted.entries read) in
      accepted.no_cycle index (subst (λ g. index < length g) same first.within) (subst (λ g. Leads g index index) same first.cycle)
  faultless accepted (IsFirstErrorOf.date {own = own} {values = values} {index = index} read none solves looks earlier is) =
      let all_texts = sym (all_texts_zip accepted.own own (own_alike accepted.own own accepted.entries read)) in
      let graph = sym (graph_alike accepted.own own accepted.entries read) in
      let moved : Inherits (texts_of_entries accepted.own) (graph_of accepted.own) values =
      subst (λ g. Inherits (texts_of_entries accepted.own) g values) graph
      (subst (λ s. Inherits s (graph_of own) values) all_texts solves) in
      bad_apart (texts_of_entries accepted.own) (graph_of accepted.own) values index
      (subst (λ s. looks_for_date (at_index s index) ≡ true) all_texts looks)
      (subst (λ g. list_any (is_bad_date values) (refs_of g index) ≡ true) graph
      (found_any (is_bad_date values) (refs_of (graph_of own) index) is.reference is.first))
      (accepted.dates values moved)

  -- the bibliographies of two alike files are alike
  pub bibliographies_alike : (one other : Bibliography) → IsLoaded says one → IsLoaded tells other → AreAlike one other
  bibliographies_alike one other first second =
      let own = first.accepted.own in
      let others = second.accepted.own in
      let zip = own_alike own others first.accepted.entries second.accepted.entries in
      let all_texts = sym (all_texts_zip own others zip) in
      let graph = sym (graph_alike own others first.accepted.entries second.accepted.entries) in
      let moved : Inherits (texts_of_entries own) (graph_of own) (texts_of_entries other.entries) =
      subst (λ g. Inherits (texts_of_entries own) g (texts_of_entries other.entries)) graph
      (subst (λ s. Inherits s (graph_of others) (texts_of_entries other.entries)) all_texts second.inherits) in
      record {
        keys = first.keys ∙ keys_zip own others zip ∙ sym second.keys;
        entries =
            solutions_same own (texts_of_entries one.entries) (texts_of_entries other.entries) first.accepted.no_cycle
            first.inherits moved;
        names = first.names ∙ names_alike own others first.accepted.entries second.accepted.entries ∙ sym second.names;
      }
