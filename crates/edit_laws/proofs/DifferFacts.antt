-- Bibliographies of two files that differ in one field of one entry.
use Rattle.std.proofs.Common.{◌≡◌, ◌⊎◌, ℕ, zero, suc, ◌<◌, ◌≤◌, eqb, inl, inr, List, [], ◌∷◌, ◌++◌, Bool, true, false, cond, get_or, length, map, refl, sym, ap, ◌∙◌, subst, arith, Some, None, Option, is_some}
use Rattle.std.specs.Prelude.{bytes_eq, codes, not, slice_get, slice_set, ◌&&◌, ◌||◌}
use Rattle.std.specs.List.{AllZip, Contains, filter_map}
use Rattle.std.specs.Option.{option_map_or}
use Rattle.std.specs.FinMap as by_name
use Rattle.std.proofs.lemmas.List.{ext_get_or, get_or-map, length-map}
use Rattle.std.proofs.lemmas.Bool.Decides.{eqb_tells}
use Rattle.std.proofs.lemmas.Option.{slice_get_within}
use Rattle.std.proofs.lemmas.Bool.{cases_lt}
use Rattle.bib_text.proofs.BoolFacts.{or_false_left, or_false_right}
use Rattle.bib_text.proofs.ListFacts.{get_mapped}
use Rattle.bib_chunks.specs.Lists.{comma_texts}
use Rattle.bib_chunks.specs.Styled.{Atom}
use Rattle.bib_collections.proofs.Walks.{below_from_edge, map_agree}
use Rattle.bib_collections.specs.Graph.{HasNoCycle, Leads, one as one_edge, more as more_edges, refs_of}
use Rattle.bib_collections.specs.Sorted.{ByText}
use Rattle.bib_entry.specs.declared.entry.Entry.{Entry}
use Rattle.bib_file_entries.specs.Bibliography.{Bibliography}
use Rattle.bib_inheritance.proofs.RangeFacts.{graph_in_range}
use Rattle.bib_inheritance.specs.EntryTexts.{EntryTexts, FieldTexts, fields_of, first_some, has, no_entry}
use Rattle.bib_inheritance.specs.InheritableDate.{date_for, last_date, looks_for_date}
use Rattle.bib_inheritance.specs.Inherited.{date_parts, field_by, inherited_field, with_inherited_fields}
use Rattle.bib_inheritance.specs.References.{plain, reference_names, references}
use Rattle.bib_inheritance.specs.Resolving.{Inherits, at_index, rule_by, texts_of_entries, texts_of_entry}
use Rattle.bib_syntax.specs.Reading.{FileReading}
use Rattle.bib_tables.specs.Requirements.{is_one_of, rules_of}
use Rattle.bib_tables.specs.declared.mechanics.EntryType.{EntryType}
use Rattle.biblatex.proofs.ResolvedFacts.{all_texts_same, graph_same, keys_same, names_below, names_same}
use Rattle.biblatex.specs.Resolved.{AreOwn, IsLoaded, graph_of, names_of}
use Rattle.edit_laws.proofs.LiftFacts.{at_texts}
use Rattle.edit_laws.proofs.SolutionFacts.{related}
use Rattle.edit_laws.proofs.TextFacts.{all_claims, all_claims_are, claims_set, graph_by_texts, graph_texts, map_set_same, names_by_claims}
use Rattle.edit_laws.specs.OneField.{AreAlikeExcept, DifferInField, linked_names, with_field_text}

-- ---- lists

set_apart : {A : Type 0} (xs : List A) (k a : ℕ) (x d : A) → (a ≡ k → ⊥) → get_or (slice_set xs k x) a d ≡ get_or xs a d
set_apart [] k a x d apart = refl
set_apart (y ∷ xs) zero zero x d apart = absurd (apart refl)
set_apart (y ∷ xs) zero (suc a) x d apart = refl
set_apart (y ∷ xs) (suc k) zero x d apart = refl
set_apart (y ∷ xs) (suc k) (suc a) x d apart = set_apart xs k a x d (λ e. apart (ap suc e))

set_here : {A : Type 0} (xs : List A) (k : ℕ) (x y d : A) → slice_get xs k ≡ Some x → get_or (slice_set xs k y) k d ≡ y
set_here [] k x y d here = cc
set_here (z ∷ xs) zero x y d here = refl
set_here (z ∷ xs) (suc k) x y d here = set_here xs k x y d here

pub same_zip : {A : Type 0} (xs ys : List A) → AllZip (λ x y. x ≡ y) xs ys → xs ≡ ys
same_zip [] [] all = refl
same_zip [] (y ∷ ys) all = absurd all
same_zip (x ∷ xs) [] all = absurd all
same_zip (x ∷ xs) (y ∷ ys) all = ap (λ z. z ∷ xs) all.0 ∙ ap (λ l. y ∷ l) (same_zip xs ys all.1)

-- beyond the last index, there are no texts
pub past : (xs : List EntryTexts) (i : ℕ) → length xs ≤ i → at_index xs i ≡ no_entry
past [] i above = refl
past (x ∷ xs) zero above = absurd (omega (arith, above))
past (x ∷ xs) (suc i) above = past xs i (omega (arith, above))

-- ---- a field that isn't one of the linked ones

pub record IsUnlinked (name : List ℕ) : Type 0 where
  pub ids : bytes_eq (codes "ids") name ≡ false
  pub crossref : bytes_eq (codes "crossref") name ≡ false
  pub xdata : bytes_eq (codes "xdata") name ≡ false
  pub date : bytes_eq (codes "date") name ≡ false
  pub year : bytes_eq (codes "year") name ≡ false
  pub month : bytes_eq (codes "month") name ≡ false
  pub day : bytes_eq (codes "day") name ≡ false

pub unlinked : (name : List ℕ) → is_one_of linked_names name ≡ false → IsUnlinked name
unlinked name apart =
    let one : Bool = bytes_eq (codes "day") name || false in
    let two : Bool = bytes_eq (codes "month") name || one in
    let three : Bool = bytes_eq (codes "year") name || two in
    let four : Bool = bytes_eq (codes "date") name || three in
    let five : Bool = bytes_eq (codes "xdata") name || four in
    let six : Bool = bytes_eq (codes "crossref") name || five in
    let s = or_false_right (bytes_eq (codes "ids") name) six apart in
    let f = or_false_right (bytes_eq (codes "crossref") name) five s in
    let r = or_false_right (bytes_eq (codes "xdata") name) four f in
    let t = or_false_right (bytes_eq (codes "date") name) three r in
    let w = or_false_right (bytes_eq (codes "year") name) two t in
    let o = or_false_right (bytes_eq (codes "month") name) one w in
    record {
      ids = or_false_left (bytes_eq (codes "ids") name) six apart;
      crossref = or_false_left (bytes_eq (codes "crossref") name) five s;
      xdata = or_false_left (bytes_eq (codes "xdata") name) four f;
      date = or_false_left (bytes_eq (codes "date") name) three r;
      year = or_false_left (bytes_eq (codes "year") name) two t;
      month = or_false_left (bytes_eq (codes "month") name) one w;
      day = or_false_left (bytes_eq (codes "day") name) false o;
    }

-- a field with another name keeps its text
pub other_field : (name : List ℕ) (text : Option (List Atom)) (texts : EntryTexts) (other : List ℕ) → bytes_eq other name ≡ false
    → (with_field_text name text texts).fields other ≡ texts.fields other
other_field name text texts other apart = ap (λ b. cond b text (texts.fields other)) apart

reference_names_by : (f g : FieldTexts) → f (codes "crossref") ≡ g (codes "crossref") → f (codes "xdata") ≡ g (codes "xdata")
    → reference_names f ≡ reference_names g
reference_names_by f g crossref xdata =
    ap (λ o. option_map_or (λ atoms. plain atoms ∷ []) o [] ++ option_map_or comma_texts (f (codes "xdata")) []) crossref
    ∙ ap (λ o. option_map_or (λ atoms. plain atoms ∷ []) (g (codes "crossref")) [] ++ option_map_or comma_texts o []) xdata

-- mapping each element to itself changes nothing
pub map_itself : (xs : List ℕ) → map (λ a. a) xs ≡ xs
map_itself [] = refl
map_itself (x ∷ xs) = ap (λ l. x ∷ l) (map_itself xs)

-- an entry with another value of an unlinked field has the same other fields after inheriting
module _ {name : List ℕ} (apart : IsUnlinked name) (old : EntryTexts) (text : Option (List Atom)) where
  pub looks_same : looks_for_date old ≡ looks_for_date (with_field_text name text old)
  looks_same =
      ap (λ o. (rules_of old.entry_type).needs_date && not (is_some o || has old (codes "year")))
      (sym (other_field name text old (codes "date") apart.date))
      ∙ ap (λ o. (rules_of old.entry_type).needs_date && not (has (with_field_text name text old) (codes "date") || is_some o))
      (sym (other_field name text old (codes "year") apart.year))

  field_by_same : (date : Option (List Atom)) (f g : FieldTexts) (offered : List ℕ → Option (List Atom)) (field : List ℕ)
      → f field ≡ g field → field_by date f offered field ≡ field_by date g offered field
  field_by_same None f g offered field same =
      ap (λ o. cond (bytes_eq field (codes "xdata")) None (first_some o (offered field))) same
  field_by_same (Some d) f g offered field same =
      ap
      (λ o.
      cond (bytes_eq field (codes "date")) (Some d)
      (cond (is_one_of date_parts field) None (cond (bytes_eq field (codes "xdata")) None (first_some o (offered field))))) same

  pub inherited_same : (references : List EntryTexts) (field : List ℕ) → bytes_eq field name ≡ false
      → (with_inherited_fields old references).fields field ≡ (with_inherited_fields
      (with_field_text name text old) references).fields field
  inherited_same references field other =
      let offered : List ℕ → Option (List Atom) = λ n. inherited_field old.entry_type n references in
      ap (λ b. field_by (cond b (last_date references) None) old.fields offered field) looks_same
      ∙ field_by_same (date_for (with_field_text name text old) references) old.fields
      (with_field_text name text old).fields offered field
      (sym (other_field name text old field other))

module _ {own others : List Entry} {k : ℕ} {name : List ℕ} {text : Option (List Atom)} (differ : DifferInField own others k name text)
    (apart : IsUnlinked name) where
  abbrev old : EntryTexts
  old = texts_of_entry differ.entry

  abbrev new : EntryTexts
  new = with_field_text name text old

  old_here : slice_get (texts_of_entries own) k ≡ Some old
  old_here = get_mapped texts_of_entry own k differ.entry differ.here

  -- both files have the same names of entries
  pub differ_names : names_of own ≡ names_of others
  differ_names =
      names_by_claims own others
      (all_claims_are own ∙ ap (λ keys. all_claims keys (texts_of_entries own)) (sym differ.keys)
      ∙ sym
      (all_claims_are others ∙ ap (all_claims (map (λ (e : Entry). e.key) others)) differ.texts
      ∙ claims_set (map (λ (e : Entry). e.key) others) (texts_of_entries own) k old new old_here
      (other_field name text old (codes "ids") apart.ids)))

  same_references : (names : ByText ℕ) → references names new.fields ≡ references names old.fields
  same_references names =
      ap (filter_map (by_name.get names))
      (reference_names_by new.fields old.fields (other_field name text old (codes "crossref") apart.crossref)
      (other_field name text old (codes "xdata") apart.xdata))

  -- both files have the same references
  pub differ_graph : graph_of own ≡ graph_of others
  differ_graph =
      graph_texts (names_of own) own ∙ ap (λ names. graph_by_texts names (texts_of_entries own)) differ_names
      ∙ sym
      (graph_texts (names_of others) others ∙ ap (graph_by_texts (names_of others)) differ.texts
      ∙ map_set_same (λ (t : EntryTexts). references (names_of others) t.fields) (texts_of_entries own) k old new old_here
      (same_references (names_of others)))

  -- the texts of the other entries are the same
  pub differ_apart : (a : ℕ) → (a ≡ k → ⊥) → at_index (texts_of_entries own) a ≡ at_index (texts_of_entries others) a
  differ_apart a other = sym (ap (λ l. get_or l a no_entry) differ.texts ∙ set_apart (texts_of_entries own) k a new no_entry other)

  pub differ_here : at_index (texts_of_entries others) k ≡ new
  differ_here = ap (λ l. get_or l k no_entry) differ.texts ∙ set_here (texts_of_entries own) k old new no_entry old_here

  -- an entry is another one than that at `k`, and doesn't lead to it
  abbrev IsApart : ℕ → Type 0
  IsApart a = (a ≡ k → ⊥) × (Leads (graph_of own) a k → ⊥)

  module _ (none : HasNoCycle (graph_of own)) (values news : List EntryTexts)
      (first : Inherits (texts_of_entries own) (graph_of own) values)
      (second : Inherits (texts_of_entries others) (graph_of others) news) where
    moved : Inherits (texts_of_entries others) (graph_of own) news
    moved = subst (λ g. Inherits (texts_of_entries others) g news) (sym differ_graph) second

    pub apart_same : (a : ℕ) → a < length (graph_of own) → IsApart a → at_index values a ≡ at_index news a
    apart_same a below p =
        related (graph_of own) (graph_of own) (graph_in_range (names_of own) own (names_below own)) (λ x. x) no_entry
        (rule_by (texts_of_entries own)) (rule_by (texts_of_entries others)) (λ x y. x ≡ y) IsApart (λ x within. within)
        (λ x within q. sym (map_itself (refs_of (graph_of own) x)))
        (λ x y q edge. (
          λ is. q.1 (one_edge (subst (Contains (refs_of (graph_of own) x)) is edge)),
          λ leads. q.1 (more_edges edge leads),
        ))
        (λ x within q xs ys all.
        ap (λ t. with_inherited_fields t xs) (differ_apart x q.0)
        ∙ ap (with_inherited_fields (at_index (texts_of_entries others) x)) (same_zip xs ys all)) none values news a first moved below p

    -- the entries to which the changed entry refers have the same texts after inheriting
    pub references_same : k < length (graph_of own)
        → map (at_index values) (refs_of (graph_of own) k) ≡ map (at_index news) (refs_of (graph_of own) k)
    references_same within =
        map_agree (at_index values) (at_index news) (refs_of (graph_of own) k)
        (λ b edge.
        apart_same b (below b edge) (
          λ is. none k within (one_edge (subst (Contains (refs_of (graph_of own) k)) is edge)),
          λ leads. none k within (more_edges edge leads),
        ))
      where
        below : (b : ℕ) → Contains (refs_of (graph_of own) k) b → b < length (graph_of own)
        below b edge = below_from_edge (graph_of own) k b (graph_in_range (names_of own) own (names_below own)) within edge

    -- the changed entry has the same other fields after inheriting
    pub fields_same : k < length (graph_of own) → (field : List ℕ) → bytes_eq field name ≡ false
        → (at_index values k).fields field ≡ (at_index news k).fields field
    fields_same within field other =
        ap (λ (t : EntryTexts). t.fields field)
        (first.each k within
        ∙ ap (λ t. with_inherited_fields t (map (at_index values) (refs_of (graph_of own) k))) (at_texts own k differ.entry differ.here)
        ∙ ap (with_inherited_fields old) (references_same within))
        ∙ inherited_same apart old text (map (at_index news) (refs_of (graph_of own) k)) field other
        ∙ ap (λ (t : EntryTexts). t.fields field)
        (sym
        (moved.each k within
        ∙ ap (λ t. with_inherited_fields t (map (at_index news) (refs_of (graph_of own) k))) differ_here))

    -- each entry has the same type after inheriting
    pub type_same : (a : ℕ) → a < length (graph_of own) → (at_index values a).entry_type ≡ (at_index news a).entry_type
    type_same a within =
        ap (λ (t : EntryTexts). t.entry_type) (first.each a within) ∙ by_index (eqb_tells a k)
        ∙ sym (ap (λ (t : EntryTexts). t.entry_type) (moved.each a within))
      where
        by_index : ((eqb a k ≡ true) × (a ≡ k)) ⊎ ((eqb a k ≡ false) × (a ≡ k → ⊥))
            → (at_index (texts_of_entries own) a).entry_type ≡ (at_index (texts_of_entries others) a).entry_type
        by_index (inl t) =
            ap (λ i. (at_index (texts_of_entries own) i).entry_type) t.1
            ∙ ap (λ (x : EntryTexts). x.entry_type) (at_texts own k differ.entry differ.here) ∙ sym (ap (λ
            (x : EntryTexts). x.entry_type) differ_here)
            ∙ ap (λ i. (at_index (texts_of_entries others) i).entry_type) (sym t.1)
        by_index (inr t) = ap (λ (x : EntryTexts). x.entry_type) (differ_apart a t.1)

-- ---- two bibliographies

types_are : (es : List Entry) → map (λ (e : Entry). e.entry_type) es ≡ map (λ (t : EntryTexts). t.entry_type) (texts_of_entries es)
types_are [] = refl
types_are (e ∷ es) = ap (λ l. e.entry_type ∷ l) (types_are es)

key_count : (xs ys : List Entry) → map (λ (e : Entry). e.key) xs ≡ map (λ (e : Entry). e.key) ys → length xs ≡ length ys
key_count xs ys same =
    sym (length-map xs (λ (e : Entry). e.key)) ∙ ap length same ∙ length-map ys (λ (e : Entry). e.key)

module _ {says tells : FileReading} {one other : Bibliography} (first : IsLoaded says one) (second : IsLoaded tells other)
    (own : List Entry) (are : AreOwn says own) {k : ℕ} {name key : List ℕ} {text : Option (List Atom)}
    (differ : DifferInField own second.accepted.own k name text) (apart : IsUnlinked name) (is : differ.entry.key ≡ key) where
  abbrev others : List Entry
  others = second.accepted.own

  graphs : graph_of first.accepted.own ≡ graph_of own
  graphs = graph_same says first.accepted.entries are

  none : HasNoCycle (graph_of own)
  none = subst HasNoCycle graphs first.accepted.no_cycle

  solves : Inherits (texts_of_entries own) (graph_of own) (texts_of_entries one.entries)
  solves =
      subst (λ g. Inherits (texts_of_entries own) g (texts_of_entries one.entries)) graphs
      (subst (λ t. Inherits t (graph_of first.accepted.own) (texts_of_entries one.entries))
      (all_texts_same says first.accepted.entries are) first.inherits)

  rows : length (graph_of own) ≡ length own
  rows = length-map own (λ (e : Entry). references (names_of own) (fields_of e.fields))

  within_own : k < length own
  within_own = slice_get_within own k differ.entry differ.here

  one_long : length one.entries ≡ length own
  one_long = key_count one.entries own (first.keys ∙ keys_same says first.accepted.entries are)

  other_long : length other.entries ≡ length own
  other_long = key_count other.entries own (second.keys ∙ differ.keys)

  same_types : map (λ (e : Entry). e.entry_type) one.entries ≡ map (λ (e : Entry). e.entry_type) other.entries
  same_types =
      types_are one.entries
      ∙ ext_get_or no_entry.entry_type (map type (texts_of_entries one.entries)) (map type (texts_of_entries other.entries))
      (length-map (texts_of_entries one.entries) type ∙ texts_long one.entries ∙ one_long
      ∙ sym (length-map (texts_of_entries other.entries) type ∙ texts_long other.entries ∙ other_long))
      (λ i below.
      let inside : i < length own =
      subst (λ n. i < n) (length-map (texts_of_entries one.entries) type ∙ texts_long one.entries ∙ one_long) below in
      get_or-map type (texts_of_entries one.entries) i no_entry no_entry.entry_type
      (subst (λ n. i < n) (sym (texts_long one.entries ∙ one_long)) inside)
      ∙ type_same differ apart none (texts_of_entries one.entries) (texts_of_entries other.entries) solves second.inherits i
      (subst (λ n. i < n) (sym rows) inside)
      ∙ sym
      (get_or-map type (texts_of_entries other.entries) i no_entry no_entry.entry_type
      (subst (λ n. i < n) (sym (texts_long other.entries ∙ other_long)) inside)))
      ∙ sym (types_are other.entries)
    where
      type : EntryTexts → EntryType
      type t = t.entry_type

      texts_long : (es : List Entry) → length (texts_of_entries es) ≡ length es
      texts_long es = length-map es texts_of_entry

  -- the bibliographies are alike, except for this field and the entries that lead to this entry
  pub alike_except : AreAlikeExcept own one other key name
  alike_except = record {
    index = k;
    entry = differ.entry;
    here = differ.here;
    is = is;
    keys = first.keys ∙ keys_same says first.accepted.entries are ∙ sym differ.keys ∙ sym second.keys;
    types = same_types;
    names = first.names ∙ names_same says first.accepted.entries are ∙ differ_names differ apart ∙ sym second.names;
    fields = λ field apart'.
        fields_same differ apart none (texts_of_entries one.entries) (texts_of_entries other.entries) solves second.inherits
        (subst (λ n. k < n) (sym rows) within_own) field apart';
    others = λ at not leads. by_range at (cases_lt at (length (graph_of own))) not leads;
  }
    where
      by_range : (at : ℕ) → (at < length (graph_of own)) ⊎ (length (graph_of own) ≤ at) → (at ≡ k → ⊥)
          → (Leads (graph_of own) at k → ⊥)
          → at_index (texts_of_entries one.entries) at ≡ at_index (texts_of_entries other.entries) at
      by_range at (inl below) not leads =
          apart_same differ apart none (texts_of_entries one.entries)
          (texts_of_entries other.entries) solves second.inherits at below (not, leads)
      by_range at (inr above) not leads =
          past (texts_of_entries one.entries) at (omega (arith, above, rows, one_long, length-map one.entries texts_of_entry))
          ∙ sym (past (texts_of_entries other.entries) at (omega
          (arith, above, rows, other_long, length-map other.entries texts_of_entry)))
