-- Entries get new keys: when the references lead to the entries that they led to.
use Rattle.std.proofs.Common.{◌≡◌, ℕ, Bool, true, false, cond, ◌&&◌, ◌||◌, List, [], ◌∷◌, ◌++◌, length, map, drop, codes, Option, Some, None, refl, sym, ap, ◌∙◌, subst, arith, append-nil, drop_at}
use Rattle.std.specs.Prelude.{bytes_eq, encode_utf8, encode_utf8_all, is_some, not, option_and_then, slice_get, ◌==◌}
use Rattle.std.specs.List.{AllByRecursion, AllZip, list_any}
use Rattle.std.specs.Option.{option_map_or, unwrap_or}
use Rattle.std.specs.Str.{str_to_ascii_lowercase, trim}
use Rattle.std.specs.Char.{is_control, is_whitespace}
use Rattle.std.proofs.lemmas.Bool.{and_parts, both_ways, eqb-true}
use Rattle.std.proofs.lemmas.Slice.Eq.{bytes_eq-Decides}
use Rattle.bib_text.specs.Places.{Place, Run}
use Rattle.bib_text.specs.Places.Run.{stop, step}
use Rattle.bib_text.proofs.ListFacts.{some_same, all_weaker}
use Rattle.bib_syntax.specs.Characters.{is_key}
use Rattle.bib_syntax.specs.Grammar.{is_word}
use Rattle.bib_syntax.specs.Reading.{EntryReading, FieldReading, Part, Piece}
use Rattle.bib_syntax.specs.Reading.Piece.{abbreviation, literal}
use Rattle.bib_syntax.proofs.LawFacts.{key_dark}
use Rattle.bib_tables.specs.ReferenceFields.{is_reference_field}
use Rattle.bib_queries.specs.Names.{aliases_in, aliases_of, comma_parts, literal_parts}
use Rattle.edit_entries.specs.Documents.{Document, HasEntry, IsDocument, is_keyed}
use Rattle.edit_entries.specs.Edits.{moved_piece}
use Rattle.edit_entries.specs.NewNames.{CanBeNewKey, is_new_key, is_unsafe_in_key}
use Rattle.edit_entries.specs.References.{CanGetKeys, KeyRenamed, KeysRenamed, between_white, elements_of, is_renamed, meant_index, new_reference, only, renamed_element, renamed_list, renamed_text, renamed_where_listed}
use Rattle.edit_entries.proofs.StandsFacts.{Stands, joined, stands_char}
use Rattle.bib_text.proofs.BoolFacts.{not_or_left}
use Rattle.edit_laws.proofs.LeadChangeFacts.{HasNewNames, IsNewValue, entries_renamed}
use Rattle.edit_laws.proofs.LeadListFacts.{first_facts, zip_own, zip_self, zip_weaker, zip_where}
use Rattle.edit_laws.proofs.LeadNameFacts.{meant_alike, meant_there}
use Rattle.edit_laws.proofs.LeadSplitFacts.{IsElement, IsSpelled, elements_joined, elements_spelled, literal_spelled}
use Rattle.edit_laws.proofs.LeadTextFacts.{AreDark, LacksComma, between_lacks, chars_lack, trim_between}
use Rattle.edit_laws.specs.Renamed.{AreEarlierRenamed, HasSameReferences, HaveSameReferences, MeansSameEntry}

-- ---- new keys

-- a text consists of at least one character, and none is white space or a comma
record IsDark (text : List ℕ) : Type 0 where
  first : ℕ
  rest : List ℕ
  is : encode_utf8_all (first ∷ rest) ≡ text
  dark : AreDark (first ∷ rest)
  lacks : LacksComma (first ∷ rest)

-- a run of characters that a new key may contain consists of characters without white space and commas
run_characters : {u v : Place} → Run is_new_key u v
    → (cs : List ℕ) × Stands u (encode_utf8_all cs) v × AreDark cs × LacksComma cs
run_characters {u} stop = ([], record { same = refl; here = refl; next = omega arith }, tt, tt)
run_characters (step {c = c} char passes run) =
    let rest = run_characters run in
    let key : is_key c ≡ true = (and_parts (is_key c) (not (is_unsafe_in_key c)) passes).0 in
    let plain =
    (and_parts (not (c == 44 || c == 125) && not (is_control c)) (not (is_whitespace c)) key).0 in
    let others = (and_parts (not (c == 44 || c == 125)) (not (is_control c)) plain).0 in (
      c ∷ rest.0,
      joined (encode_utf8 c) (encode_utf8_all rest.0) (stands_char char) rest.1,
      (key_dark c key, rest.2),
      (not_or_left (c == 44) (c == 125) others, rest.3),
    )

-- nothing is after a whole text
drop_whole : (xs : List ℕ) → drop (length xs) xs ≡ []
drop_whole [] = refl
drop_whole (x ∷ xs) = drop_whole xs

-- a text that can be a new key has a character, no white space and no comma
new_dark : (text : List ℕ) → CanBeNewKey text → IsDark text
new_dark text can =
    let run = run_characters can.run in
    by_characters run.0 (sym (drop_at [] text 0 refl) ∙ run.1.here ∙ ap (λ t. encode_utf8_all run.0 ++ t) (drop_whole text)
    ∙ append-nil (encode_utf8_all run.0)) run.2 run.3
  where
    by_characters : (cs : List ℕ) → text ≡ encode_utf8_all cs → AreDark cs → LacksComma cs → IsDark text
    by_characters [] is dark lacks = absurd (omega (arith, can.some, ap length is))
    by_characters (c ∷ cs) is dark lacks = record { first = c; rest = cs; is = sym is; dark = dark; lacks = lacks }

-- ---- fields `ids`

-- a field `ids`, in any ASCII case, isn't a reference field
ids_plain : (name : List ℕ) → is_word name (codes "ids") ≡ true → is_reference_field name ≡ false
ids_plain name is =
    let same : str_to_ascii_lowercase name ≡ str_to_ascii_lowercase (codes "ids") =
    (bytes_eq-Decides (str_to_ascii_lowercase name) (str_to_ascii_lowercase (codes "ids"))).0 is in
    ap
    (λ l.
    bytes_eq l (str_to_ascii_lowercase (codes "crossref")) || bytes_eq l (str_to_ascii_lowercase (codes "xdata"))
    || bytes_eq l (str_to_ascii_lowercase (codes "xref")) || bytes_eq l (str_to_ascii_lowercase (codes "related"))
    || bytes_eq l (str_to_ascii_lowercase (codes "entryset")) || bytes_eq l (str_to_ascii_lowercase (codes "set"))) same

-- the names in literals don't depend on positions
parts_placeless : (ps : List Piece) → literal_parts (map (moved_piece (λ at. 0)) ps) ≡ literal_parts ps
parts_placeless [] = refl
parts_placeless (literal p ∷ ps) = ap (λ l. comma_parts p.text ++ l) (parts_placeless ps)
parts_placeless (abbreviation p ∷ ps) = parts_placeless ps

-- new names in the references of a field don't change the names that it lists as a field `ids`
aliases_kept : (names : List ℕ → List ℕ → Option (List ℕ)) (f h : FieldReading) → HasNewNames names f h → aliases_in h ≡ aliases_in f
aliases_kept names f h n =
    by_name (is_word f.name.text (codes "ids")) refl
  where
    by_name : (b : Bool) → is_word f.name.text (codes "ids") ≡ b → aliases_in h ≡ aliases_in f
    by_name false is =
        ap (λ t. cond (is_word t (codes "ids")) (literal_parts h.value.pieces) []) n.name
        ∙ ap (λ b. cond b (literal_parts h.value.pieces) []) is ∙ sym (ap (λ b. cond b (literal_parts f.value.pieces) []) is)
    by_name true is =
        let value : IsNewValue None f.value.pieces h.value.pieces =
        subst (λ b. IsNewValue (cond b (renamed_text (names f.name.text) f.value.pieces) None) f.value.pieces h.value.pieces)
        (ids_plain f.name.text is) n.value in
        let same : literal_parts h.value.pieces ≡ literal_parts f.value.pieces =
        sym (parts_placeless h.value.pieces) ∙ ap literal_parts value ∙ parts_placeless f.value.pieces in
        ap (λ t. cond (is_word t (codes "ids")) (literal_parts h.value.pieces) []) n.name
        ∙ ap (λ l. cond (is_word f.name.text (codes "ids")) l []) same

-- an entry with new names in its references keeps its names in `ids`
fields_kept : (names : List ℕ → List ℕ → Option (List ℕ)) (fs hs : List FieldReading) → AllZip (HasNewNames names) fs hs
    → aliases_of hs ≡ aliases_of fs
fields_kept names [] [] all = refl
fields_kept names [] (h ∷ hs) all = absurd all
fields_kept names (f ∷ fs) [] all = absurd all
fields_kept names (f ∷ fs) (h ∷ hs) all =
    ap (λ l. l ++ aliases_of hs) (aliases_kept names f h all.0) ∙ ap (λ l. aliases_in f ++ l) (fields_kept names fs hs all.1)

-- ---- one value

-- pieces that equal one literal except for its position are one literal with its text
one_literal : (p : Part) (qs : List Piece) → map (moved_piece (λ at. 0)) qs ≡ map (moved_piece (λ at. 0)) (literal p ∷ [])
    → (q : Part) × (qs ≡ literal q ∷ []) × (q.text ≡ p.text)
one_literal p [] same = absurd (cc)
one_literal p (literal q ∷ []) same = (q, refl, ap text_of same)
  where
    text_of : List Piece → List ℕ
    text_of [] = []
    text_of (literal r ∷ rest) = r.text
    text_of (abbreviation r ∷ rest) = r.text
one_literal p (literal q ∷ r ∷ rest) same = absurd (cc)
one_literal p (abbreviation q ∷ rest) same = absurd (cc)

-- if `list_any` finds no element, each element fails the test
none_pass : (test : List ℕ → Bool) (xs : List (List ℕ)) → list_any test xs ≡ false → AllByRecursion (λ x. test x ≡ false) xs
none_pass test [] none = tt
none_pass test (x ∷ xs) none = by_test (test x) (list_any test xs) refl refl (none_pass test xs) none
  where
    by_test : (a b : Bool) → test x ≡ a → list_any test xs ≡ b
        → (list_any test xs ≡ false → AllByRecursion (λ y. test y ≡ false) xs) → (a || b) ≡ false
        → (test x ≡ false) × AllByRecursion (λ y. test y ≡ false) xs
    by_test true b first rest others is = absurd (cc)
    by_test false true first rest others is = absurd (cc)
    by_test false false first rest others is = (first, others rest)

module _ (es gs : List EntryReading) (keys : ℕ → Option (List ℕ)) (can : CanGetKeys es keys)
    (alike : (field name : List ℕ) (i : ℕ) → meant_index es field name ≡ Some i → meant_index gs field (unwrap_or (keys i) name) ≡ Some i)
    (field : List ℕ) where
  -- the new key that a name gets can be a new key
  new_allowed : (name new : List ℕ) → new_reference es keys field name ≡ Some new → CanBeNewKey new
  new_allowed name new is = by_index (meant_index es field name) refl is
    where
      by_index : (o : Option ℕ) → meant_index es field name ≡ o → option_and_then keys o ≡ Some new → CanBeNewKey new
      by_index None meant gets = absurd (cc)
      by_index (Some i) meant gets =
          let e = meant_there es field name i meant in
          (can.may i e.0 new e.1 gets).allowed

  -- an element with its new name contains no comma
  element_lacks : (element : List ℕ) → IsElement element → LacksComma (renamed_element (new_reference es keys field) element)
  element_lacks element is = by_name (new_reference es keys field (trim element)) refl
    where
      by_name : (o : Option (List ℕ)) → new_reference es keys field (trim element) ≡ o
          → LacksComma (option_map_or (λ new. between_white new element) o element)
      by_name None found = is.lacks
      by_name (Some new) found =
          let key = new_dark new (new_allowed (trim element) new found) in
          between_lacks new element (subst LacksComma key.is (chars_lack (key.first ∷ key.rest) key.lacks)) is.lacks

  -- an element with its new name means the same entry
  element_leads : (element : List ℕ) → IsElement element
      → MeansSameEntry es gs field element (renamed_element (new_reference es keys field) element)
  element_leads element is index meant = by_key (keys index) refl
    where
      by_key : (o : Option (List ℕ)) → keys index ≡ o
          → meant_index gs field (trim (renamed_element (new_reference es keys field) element)) ≡ Some index
      by_key None gets =
          ap (λ p. meant_index gs field (trim (option_map_or (λ new. between_white new element) p element)))
          (ap (option_and_then keys) meant ∙ gets)
          ∙ ap (λ p. meant_index gs field (unwrap_or p (trim element))) (sym gets) ∙ alike field (trim element) index meant
      by_key (Some new) gets =
          let e = meant_there es field (trim element) index meant in
          let key = new_dark new (can.may index e.0 new e.1 gets).allowed in
          let name : trim (between_white new element) ≡ new =
          subst (λ n. trim (between_white n element) ≡ n) key.is
          (subst (λ x. trim (between_white (encode_utf8_all (key.first ∷ key.rest)) x) ≡ encode_utf8_all (key.first ∷ key.rest))
          is.spelled.is (trim_between key.first is.spelled.characters key.rest key.dark)) in
          ap (λ p. meant_index gs field (trim (option_map_or (λ n. between_white n element) p element)))
          (ap (option_and_then keys) meant ∙ gets)
          ∙ ap (meant_index gs field) name
          ∙ ap (λ p. meant_index gs field (unwrap_or p (trim element))) (sym gets) ∙ alike field (trim element) index meant

  -- an element without a new name still means the same entry
  element_stays : (element : List ℕ) → is_renamed (new_reference es keys field) element ≡ false
      → MeansSameEntry es gs field element element
  element_stays element same index meant = by_key (keys index) refl
    where
      by_key : (o : Option (List ℕ)) → keys index ≡ o → meant_index gs field (trim element) ≡ Some index
      by_key None gets = ap (λ p. meant_index gs field (unwrap_or p (trim element))) (sym gets) ∙ alike field (trim element) index meant
      by_key (Some new) gets =
          absurd (both_ways (is_renamed (new_reference es keys field) element) same
          (ap is_some (ap (option_and_then keys) meant ∙ gets)))

  -- if a value is one literal, the new value is one too, and each of its elements means the same entry
  value_leads : (p : Part) (qs : List Piece) → IsSpelled p.text
      → IsNewValue (renamed_where_listed (new_reference es keys field) p.text) (literal p ∷ []) qs
      → (q : Part) × (qs ≡ literal q ∷ []) × AllZip (MeansSameEntry es gs field) (elements_of p.text) (elements_of q.text)
  value_leads p qs spelled value =
      by_test (list_any (is_renamed (new_reference es keys field)) (elements_of p.text)) refl value
    where
      by_test : (b : Bool) → list_any (is_renamed (new_reference es keys field)) (elements_of p.text) ≡ b
          → IsNewValue (cond b (Some (renamed_list (new_reference es keys field) p.text)) None) (literal p ∷ []) qs
          → (q : Part) × (qs ≡ literal q ∷ []) × AllZip (MeansSameEntry es gs field) (elements_of p.text) (elements_of q.text)
      by_test false none same =
          let one = one_literal p qs same in (
            one.0,
            one.1,
            subst (λ t. AllZip (MeansSameEntry es gs field) (elements_of p.text) (elements_of t)) (sym one.2)
                (zip_where (λ x. is_renamed (new_reference es keys field) x ≡ false) (MeansSameEntry es gs field) (elements_of p.text)
                element_stays (none_pass (is_renamed (new_reference es keys field)) (elements_of p.text) none)),
          )
      by_test true some new =
          let elements = elements_spelled p.text spelled in
          let change : List ℕ → List ℕ = renamed_element (new_reference es keys field) in
          let joined : elements_of new.0.text ≡ map change (elements_of p.text) =
          ap elements_of new.2
          ∙ elements_joined change p.text
          (all_weaker IsElement (λ e. LacksComma (change e)) element_lacks (elements_of p.text) elements) in (
            new.0,
            new.1,
            subst (λ l. AllZip (MeansSameEntry es gs field) (elements_of p.text) l) (sym joined)
                (zip_own IsElement (MeansSameEntry es gs field) change (elements_of p.text) element_leads elements),
          )

-- ---- a document with new keys

-- if a document got new keys, its entries can get them
can_of : {d after : Document} {keys : ℕ → Option (List ℕ)} → KeysRenamed d keys after → CanGetKeys d.says.entries keys
can_of (KeysRenamed.renamed can changed) = can

-- both documents have the same references if, with an entry that gets a new key, each earlier one with the same key gets one too
pub references_lead : (d after : Document) (keys : ℕ → Option (List ℕ)) → IsDocument d → KeysRenamed d keys after
    → AreEarlierRenamed d.says.entries keys → HaveSameReferences d after
references_lead d after keys read changed earlier =
    let es : List EntryReading = d.says.entries in
    let gs : List EntryReading = after.says.entries in
    let names : List ℕ → List ℕ → Option (List ℕ) = new_reference es keys in
    let can = can_of changed in
    let r = entries_renamed d after keys read changed in
    let alike =
    meant_alike es gs keys can.free earlier r.key
    (zip_weaker (λ e g. AllZip (HasNewNames names) e.fields g.fields) (λ e g. aliases_of g.fields ≡ aliases_of e.fields) es gs
    (λ k e g here there fields. fields_kept names e.fields g.fields fields) r.fields) in
    zip_weaker (λ e g. AllZip (HasNewNames names) e.fields g.fields) (λ e g. AllZip (HasSameReferences es gs) e.fields g.fields) es gs
    (λ k e g here there fields.
    zip_weaker (HasNewNames names) (HasSameReferences es gs) e.fields g.fields
    (λ j f h here' there' n.
    record {
      name = n.name;
      value = λ p reference one.
          value_leads es gs keys can alike f.name.text p h.value.pieces (literal_spelled d k j e f p read here here' one)
          (subst (λ ps. IsNewValue (renamed_text (names f.name.text) ps) ps h.value.pieces) one
          (subst (λ b. IsNewValue (cond b (renamed_text (names f.name.text) f.value.pieces) None) f.value.pieces h.value.pieces) reference
          n.value));
    }) fields) r.fields

-- no entry before the first one with a key has this key too, so `AreEarlierRenamed` is true if only the first one gets a new key
only_first : (d : Document) (old new : List ℕ) (k : ℕ) (e : EntryReading) → HasEntry d old k e
    → AreEarlierRenamed d.says.entries (only k new)
only_first d old new k e has i j x other below here there same gets = by_index (j == k) refl gets
  where
    by_index : (b : Bool) → (j == k) ≡ b → is_some (cond b (Some new) None) ≡ true → is_some (only k new i) ≡ true
    by_index false is some = absurd (cc)
    by_index true is some =
        let first = first_facts (is_keyed old) d.says.entries k has.first in
        let index : j ≡ k = eqb-true j k is in
        let entry : first.element ≡ other = some_same (sym first.here ∙ ap (slice_get d.says.entries) (sym index) ∙ there) in
        let key : x.key.text ≡ first.element.key.text = same ∙ ap (λ (z : EntryReading). z.key.text) (sym entry) in
        absurd
        (both_ways (is_keyed old x) (first.before i x (omega (arith, below, index)) here) (ap (λ t. bytes_eq t old) key ∙ first.passes))

-- after the first entry with a key gets another one, the document has the same references
pub one_leads : (d after : Document) (old new : List ℕ) → IsDocument d → KeyRenamed d old new after → HaveSameReferences d after
one_leads d after old new read (KeyRenamed.same has equal) =
    let es : List EntryReading = d.says.entries in
    zip_self (λ e g. AllZip (HasSameReferences es es) e.fields g.fields) es
    (λ e.
    zip_self (HasSameReferences es es) e.fields
    (λ f.
    record {
      name = refl;
      value = λ p reference one.
          (p, one, zip_self (MeansSameEntry es es f.name.text) (elements_of p.text) (λ element index meant. meant));
    }))
one_leads d after old new read (KeyRenamed.renamed {k = k} {e = e} has differ changed) =
    references_lead d after (only k new) read changed (only_first d old new k e has)
