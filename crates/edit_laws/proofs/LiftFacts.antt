-- Fields of entries after inheriting, in a bibliography.
use Rattle.std.proofs.Common.{◌≡◌, ℕ, zero, suc, ◌<◌, List, [], ◌∷◌, Bool, true, false, cond, get_or, length, map, refl, sym, ap, ◌∙◌, subst, Some, None, Option, option_map, is_some}
use Rattle.std.specs.Prelude.{bytes_eq, codes, not, slice_get, ◌&&◌, ◌||◌}
use Rattle.std.specs.Cmp.Lexicographic.{nat_list_eq_equiv}
use Rattle.std.specs.FinMap as by_name
use Rattle.std.proofs.lemmas.Bool.{both_ways}
use Rattle.std.proofs.lemmas.List.{length-map}
use Rattle.std.proofs.lemmas.Option.{slice_get-get_or, slice_get_within}
use Rattle.std.proofs.lemmas.Slice.Eq.{bytes_eq-Decides}
use Rattle.bib_chunks.specs.Styled.{Atom, styled}
use Rattle.bib_chunks.specs.declared.chunk.Chunk.{Chunk}
use Rattle.bib_collections.specs.Graph.{refs_of}
use Rattle.bib_entry.specs.declared.entry.Entry.{Entry}
use Rattle.bib_file_entries.specs.Bibliography.{Bibliography}
use Rattle.bib_inheritance.specs.EntryTexts.{EntryTexts, first_some, has}
use Rattle.bib_inheritance.specs.InheritableDate.{last_date, looks_for_date}
use Rattle.bib_inheritance.specs.Inherited.{date_parts, field_by, inherited_field, plain_field, with_inherited_fields}
use Rattle.bib_inheritance.specs.Resolving.{Inherits, at_index, texts_of_entries, texts_of_entry}
use Rattle.bib_syntax.specs.Reading.{FileReading}
use Rattle.bib_tables.specs.Requirements.{is_one_of, rules_of}
use Rattle.bib_text.proofs.ListFacts.{some_same}
use Rattle.bib_text.specs.declared.spanned.Spanned.{Spanned}
use Rattle.biblatex.proofs.ResolvedFacts.{all_texts_same, graph_same}
use Rattle.biblatex.specs.Resolved.{AreOwn, IsLoaded, graph_of}
use Rattle.edit_laws.specs.OneField.{lost_names}

-- ---- one entry

none_of : (a b c : Bool) → (a || (b || (c || false))) ≡ false → (a ≡ false) × (b ≡ false) × (c ≡ false)
none_of true b c is = cc
none_of false true c is = cc
none_of false false true is = cc
none_of false false false is = (refl, refl, refl)

module _ (own : EntryTexts) (name : List ℕ) (atoms : List Atom) (is : own.fields name ≡ Some atoms) where
  -- an entry that has this field has each field of the same name
  has_named : (other : List ℕ) → bytes_eq name other ≡ true → has own other ≡ true
  has_named other same =
      ap is_some (ap own.fields (sym ((bytes_eq-Decides name other).0 same)) ∙ is)

  plain_kept : (offered : Option (List Atom)) → bytes_eq name (codes "xdata") ≡ false
      → cond (bytes_eq name (codes "xdata")) None (first_some (own.fields name) offered) ≡ Some atoms
  plain_kept offered apart =
      ap (λ b. cond b None (first_some (own.fields name) offered)) apart ∙ ap (λ o. first_some o offered) is

  dated_parts : (looks : Bool) (date year : Bool) → (looks && not (date || year)) ≡ true → (date ≡ false) × (year ≡ false)
  dated_parts true false false both = (refl, refl)
  dated_parts true true year both = cc
  dated_parts true false true both = cc
  dated_parts false date year both = cc

  not_named : (other : List ℕ) → has own other ≡ false → bytes_eq name other ≡ false
  not_named other lacks = by_case (bytes_eq name other) refl
    where
      by_case : (b : Bool) → bytes_eq name other ≡ b → b ≡ false
      by_case true same = absurd (both_ways _ lacks (has_named other same))
      by_case false apart = refl

  -- an entry keeps a field of its own after inheriting if the field isn't one of `lost_names`
  pub own_kept : (references : List EntryTexts) → is_one_of lost_names name ≡ false
      → (with_inherited_fields own references).fields name ≡ Some atoms
  own_kept references apart = by_looks (looks_for_date own) refl
    where
      offered : List ℕ → Option (List Atom)
      offered other = inherited_field own.entry_type other references

      parts : (bytes_eq (codes "xdata") name ≡ false) × (bytes_eq (codes "month") name ≡ false) × (bytes_eq (codes "day") name ≡ false)
      parts = none_of (bytes_eq (codes "xdata") name) (bytes_eq (codes "month") name) (bytes_eq (codes "day") name) apart

      not_xdata : bytes_eq name (codes "xdata") ≡ false
      not_xdata = nat_list_eq_equiv.symm name (codes "xdata") ∙ parts.0

      no_part : bytes_eq (codes "year") name ≡ false → is_one_of date_parts name ≡ false
      no_part year =
          ap (λ b. b || (bytes_eq (codes "month") name || (bytes_eq (codes "day") name || false))) year
          ∙ ap (λ b. b || (bytes_eq (codes "day") name || false)) parts.1 ∙ ap (λ b. b || false) parts.2

      by_date : (date : Option (List Atom)) → bytes_eq name (codes "date") ≡ false → is_one_of date_parts name ≡ false
          → field_by date own.fields offered name ≡ Some atoms
      by_date None not_date no_part = plain_kept (offered name) not_xdata
      by_date (Some d) not_date no_part =
          ap (λ b. cond b (Some d) (cond (is_one_of date_parts name) None (plain_field own.fields offered name))) not_date
          ∙ ap (λ b. cond b None (plain_field own.fields offered name)) no_part ∙ plain_kept (offered name) not_xdata

      by_looks : (b : Bool) → looks_for_date own ≡ b
          → field_by (cond (looks_for_date own) (last_date references) None) own.fields offered name ≡ Some atoms
      by_looks false looks =
          ap (λ b. field_by (cond b (last_date references) None) own.fields offered name) looks ∙ plain_kept (offered name) not_xdata
      by_looks true looks =
          let lacks = dated_parts (rules_of own.entry_type).needs_date (has own (codes "date")) (has own (codes "year")) looks in
          ap (λ b. field_by (cond b (last_date references) None) own.fields offered name) looks
          ∙ by_date (last_date references) (not_named (codes "date") lacks.0)
          (no_part (nat_list_eq_equiv.symm (codes "year") name ∙ not_named (codes "year") lacks.1))

-- ---- a bibliography

pub at_texts : (own : List Entry) (k : ℕ) (entry : Entry) → slice_get own k ≡ Some entry → at_index
    (texts_of_entries own) k ≡ texts_of_entry entry
at_texts [] k entry here = cc
at_texts (e ∷ own) zero entry here = let same : e ≡ entry = cc in ap texts_of_entry same
at_texts (e ∷ own) (suc k) entry here = at_texts own k entry here

-- the key of the entry at an index
pub key_at : (xs : List Entry) (k : ℕ) (x : Entry) → slice_get xs k ≡ Some x → get_or (map (λ (e : Entry). e.key) xs) k [] ≡ x.key
key_at [] k x here = cc
key_at (e ∷ xs) zero x here = let same : e ≡ x = cc in ap (λ (y : Entry). y.key) same
key_at (e ∷ xs) (suc k) x here = key_at xs k x here

chunks_of : (o : Option (List (Spanned Chunk))) (atoms : List Atom) → option_map styled o ≡ Some atoms
    → (chunks : List (Spanned Chunk)) × (o ≡ Some chunks) × (styled chunks ≡ atoms)
chunks_of None atoms is = cc
chunks_of (Some chunks) atoms is = (chunks, refl, some_same is)

-- an entry of a bibliography that has a text as a field
pub record HasFieldAt (bibliography : Bibliography) (k : ℕ) (key name : List ℕ) (atoms : List Atom) : Type 0 where
  pub entry : Entry
  pub here : slice_get bibliography.entries k ≡ Some entry
  pub is : entry.key ≡ key
  pub chunks : List (Spanned Chunk)
  pub has : by_name.get entry.fields name ≡ Some chunks
  pub says : styled chunks ≡ atoms

module _ {says : FileReading} {bibliography : Bibliography} (loaded : IsLoaded says bibliography) where
  abbrev own : List Entry
  own = loaded.accepted.own

  pub as_long : length bibliography.entries ≡ length own
  as_long =
      sym (length-map bibliography.entries (λ (e : Entry). e.key)) ∙ ap length loaded.keys ∙ length-map own (λ (e : Entry). e.key)

  -- the entries at an index before and after inheriting have the same key
  pub same_key : (k : ℕ) (before later : Entry) → slice_get own k ≡ Some before → slice_get bibliography.entries k ≡ Some later
      → later.key ≡ before.key
  same_key k before later here there =
      sym (key_at bibliography.entries k later there) ∙ ap (λ keys. get_or keys k []) loaded.keys ∙ key_at own k before here

  -- the texts at an index solve the inheritance equation
  pub solved_at : (k : ℕ) → k < length own
      → at_index (texts_of_entries bibliography.entries) k
      ≡ with_inherited_fields (at_index (texts_of_entries own) k) (map (at_index (texts_of_entries bibliography.entries)) (refs_of
      (graph_of own) k))
  solved_at k within =
      loaded.inherits.each k (subst (λ n. k < n) (sym (length-map own _)) within)

  -- an entry of the bibliography has each field that it has before inheriting, if the field isn't one of `lost_names`
  pub field_at : (k : ℕ) (before : Entry) (name : List ℕ) (atoms : List Atom) → slice_get own k ≡ Some before
      → (texts_of_entry before).fields name ≡ Some atoms → is_one_of lost_names name ≡ false
      → HasFieldAt bibliography k before.key name atoms
  field_at k before name atoms here is apart =
      let within : k < length own = slice_get_within own k before here in
      let entry : Entry = get_or bibliography.entries k before in
      let there : slice_get bibliography.entries k ≡ Some entry =
      slice_get-get_or bibliography.entries k before (subst (λ n. k < n) (sym as_long) within) in
      let texts : (texts_of_entry entry).fields name ≡ Some atoms =
      ap (λ (t : EntryTexts). t.fields name) (sym (at_texts bibliography.entries k entry there) ∙ solved_at k within)
      ∙ own_kept (at_index (texts_of_entries own) k) name atoms (ap (λ (t : EntryTexts). t.fields name) (at_texts own k before here) ∙ is)
      (map (at_index (texts_of_entries bibliography.entries)) (refs_of (graph_of own) k)) apart in
      let found = chunks_of (by_name.get entry.fields name) atoms texts in
      record {
        entry = entry;
        here = there;
        is = same_key k before entry here there;
        chunks = found.0;
        has = found.1;
        says = found.2;
      }

-- the texts of a bibliography solve the inheritance equation of any own entries of the file
pub inherits_by : (says : FileReading) {bibliography : Bibliography} → IsLoaded says bibliography → (own : List Entry) → AreOwn says own
    → Inherits (texts_of_entries own) (graph_of own) (texts_of_entries bibliography.entries)
inherits_by says {bibliography} loaded own are =
    subst (λ g. Inherits (texts_of_entries own) g (texts_of_entries bibliography.entries)) (graph_same says loaded.accepted.entries are)
    (subst (λ t. Inherits t (graph_of loaded.accepted.own) (texts_of_entries bibliography.entries))
    (all_texts_same says loaded.accepted.entries are) loaded.inherits)
