-- In a graph in range without cycles, the inheritance equation is solved by entries: an inherited text is the text of chunks,
-- and finitely many fields are inherited.
use Rattle.std.proofs.Common.{◌≡◌, ℕ, ◌<◌, List, [], ◌∷◌, ◌++◌, Bool, true, false, not, cond, ◌&&◌, ◌||◌, length, get_or, map, refl, sym, ap, ◌∙◌, subst, arith, inl, inr, ◌⊎◌, Option, Some, None, option_map, is_some, codes, append-nil}
use Rattle.std.specs.Prelude.{slice_get, reverse}
use Rattle.std.specs.Ordering.{eq_by_cmp}
use Rattle.std.specs.List.{list_any, flat_map}
use Rattle.std.specs.Str.{bytes_eq}
use Rattle.std.specs.FinMap as by_name
use Rattle.std.specs.FinMap.{get, get-empty, find, entries, insert, remove}
use Rattle.std.proofs.lemmas.Bool.{false≢true, or_parts}
use Rattle.std.proofs.lemmas.Cmp.{nat_list_cmp_total}
use Rattle.std.proofs.lemmas.List.{ext_get_or, length-map}
use Rattle.std.proofs.lemmas.List.Folds.{list_any-append}
use Rattle.std.proofs.lemmas.Map.Text.{is_eq-slice_cmp}
use Rattle.std.proofs.lemmas.Option.{get_or_from_slice_get, slice_get_within}
use Rattle.std.proofs.Math.ListN.{get_or-map}
use Rattle.bib_text.proofs.BytesFacts.{bytes_turned, bytes_itself}
use Rattle.bib_text.proofs.BoolFacts.{and_true_right, not_or_left}
use Rattle.bib_chunks.specs.Styled.{Atom, styled}
use Rattle.bib_chunks.specs.declared.chunk.Chunk.TheVariants.{Normal}
use Rattle.bib_entry.specs.declared.entry.Entry.{Entry}
use Rattle.bib_tables.specs.Requirements.{Names, inheritable, is_container, is_one_of, never_inherited, rules_of}
use Rattle.bib_tables.specs.declared.mechanics.EntryType.{EntryType}
use Rattle.bib_tables.specs.declared.mechanics.EntryType.TheVariants.{Misc}
use Rattle.bib_dates.specs.Rewritten.{rewritten_date}
use Rattle.bib_dates.specs.Readings.{readable_value}
use Rattle.bib_dates.specs.Written.{date_text}
use Rattle.bib_dates.specs.declared.date.Date.{Date}
use Rattle.bib_collections.specs.Graph.{Graph, HasNoCycle, IsInRange, Solves, refs_of}
use Rattle.bib_collections.proofs.Walks as walks
use Rattle.bib_inheritance.specs.InheritableDate.{date_for, dated_text, inheritable_date, inheritable_date_by, last_date, looks_for_date, of_one_field, of_three_fields, three_fields, written_date}
use Rattle.bib_inheritance.specs.Inherited.{date_parts, field_by, first_offer, inherited_field, offer, offer_names, offered_field, plain_field, wants, with_inherited_fields}
use Rattle.bib_inheritance.specs.References.{plain}
use Rattle.bib_inheritance.specs.EntryTexts.{EntryTexts, FieldTexts, fields_of, first_named, first_some, has, no_entry, texts_of_fields}
use Rattle.bib_inheritance.proofs.FieldFacts as made
use Rattle.bib_inheritance.proofs.GatheredFacts.{Value, bytes_decides, has_names, styled_first, flipped, nothing_either}
use Rattle.bib_collections.specs.Sorted.{ByText, by_bytes}
use Rattle.bib_inheritance.specs.Resolving.{HaveInherited, KeepsChunks, at_index, rule_by, texts_of_entries, texts_of_entry}

-- ---- the fields that a reference offers, as chunks

styled_if : (b : Bool) (x : Option Value) → option_map styled (cond b x None) ≡ cond b (option_map styled x) None
styled_if true x = refl
styled_if false x = refl

-- the chunks of the first of these fields that exists
abbrev first_chunks : ByText Value → Names → Option Value
first_chunks fields [] = None
first_chunks fields (name ∷ names) = first_some (get fields name) (first_chunks fields names)

-- the styled text of these chunks is the first offer
first_styled : (fields : ByText Value) (names : Names)
    → option_map styled (first_chunks fields names) ≡ first_offer (fields_of fields) names
first_styled fields [] = refl
first_styled fields (name ∷ names) =
    styled_first (get fields name) (first_chunks fields names) ∙ ap (first_some (fields_of fields name)) (first_styled fields names)

-- the chunks of the field of this name that is inherited from the first reference that offers one
abbrev inherited_chunks : EntryType → List ℕ → List Entry → Option Value
inherited_chunks entry_type name [] = None
inherited_chunks entry_type name (r ∷ rest) =
    first_some (cond (wants entry_type (texts_of_entry r) name) (first_chunks r.fields (offer_names r.entry_type name)) None)
    (inherited_chunks entry_type name rest)

-- the styled text of these chunks is the inherited field
inherited_styled : (entry_type : EntryType) (name : List ℕ) (refs : List Entry)
    → option_map styled (inherited_chunks entry_type name refs) ≡ inherited_field entry_type name (texts_of_entries refs)
inherited_styled entry_type name [] = refl
inherited_styled entry_type name (r ∷ rest) =
    let given = cond (wants entry_type (texts_of_entry r) name) (first_chunks r.fields (offer_names r.entry_type name)) None in
    styled_first given (inherited_chunks entry_type name rest)
    ∙ ap (λ o. first_some o (option_map styled (inherited_chunks entry_type name rest)))
    (styled_if (wants entry_type (texts_of_entry r) name) (first_chunks r.fields (offer_names r.entry_type name))
    ∙ ap (λ o. cond (wants entry_type (texts_of_entry r) name) o None) (first_styled r.fields (offer_names r.entry_type name)))
    ∙ ap (first_some (offered_field entry_type (texts_of_entry r) name)) (inherited_styled entry_type name rest)

-- ---- the names that can be inherited are finitely many

-- the names of the fields in a map
abbrev names_in : ByText Value → Names
names_in fields = map (λ e. e.0) (entries fields)

-- the names of the fields of the references, followed by the names inheritable for a type
abbrev names_given : EntryType → List Entry → Names
names_given entry_type [] = inheritable entry_type
names_given entry_type (r ∷ rest) = names_in r.fields ++ names_given entry_type rest

-- a name that the reference doesn't have and that isn't inheritable for the type is not inherited
unwanted : (n c i h : Bool) → i ≡ false → h ≡ false → ((not n && (c || i)) && (not c || h)) ≡ false
unwanted true c i h none lacks = refl
unwanted false true i h none lacks = lacks
unwanted false false i h none lacks = ap (λ b. b && true) none

-- a name that is not among all these names is not inheritable for the type
last_names : (entry_type : EntryType) (refs : List Entry) (q : List ℕ)
    → is_one_of (names_given entry_type refs) q ≡ false → is_one_of (inheritable entry_type) q ≡ false
last_names entry_type [] q other = other
last_names entry_type (r ∷ rest) q other =
    last_names entry_type rest q
    (or_parts (is_one_of (names_in r.fields) q) (is_one_of (names_given entry_type rest) q)
    (sym (list_any-append (λ each. bytes_eq each q) (names_in r.fields) (names_given entry_type rest)) ∙ other)).1

-- no field of any other name is inherited
other_name : (entry_type : EntryType) (refs : List Entry) (q : List ℕ)
    → is_one_of (names_given entry_type refs) q ≡ false → inherited_field entry_type q (texts_of_entries refs) ≡ None
other_name entry_type [] q other = refl
other_name entry_type (r ∷ rest) q other =
    let parts =
    or_parts (is_one_of (names_in r.fields) q) (is_one_of (names_given entry_type rest) q)
    (sym (list_any-append (λ each. bytes_eq each q) (names_in r.fields) (names_given entry_type rest)) ∙ other) in
    let lacks : has (texts_of_entry r) q ≡ false = sym (has_names r.fields q) ∙ parts.0 in
    ap (λ b. first_some (cond b (offer (texts_of_entry r) q) None) (inherited_field entry_type q (texts_of_entries rest)))
    (unwanted (is_one_of never_inherited q) (is_container entry_type) (is_one_of (inheritable entry_type) q)
    (has (texts_of_entry r) q) (last_names entry_type rest q parts.1) lacks)
    ∙ other_name entry_type rest q parts.1

-- ---- the list of fields of a function

-- a list of fields with a field of this name in front, if there is a value
abbrev with_first : List ℕ → Option Value → List (List ℕ × Value) → List (List ℕ × Value)
with_first name None rest = rest
with_first name (Some value) rest = (name, value) ∷ rest

-- the fields of these names
abbrev listed : (List ℕ → Option Value) → Names → List (List ℕ × Value)
listed f [] = []
listed f (name ∷ names) = with_first name (f name) (listed f names)

-- finding a name in a list with one more field
listed_first : (f : List ℕ → Option Value) (name q : List ℕ) (rest : List (List ℕ × Value)) (among : Bool)
    → first_named rest q ≡ cond among (f q) None
    → first_named (with_first name (f name) rest) q ≡ cond (bytes_eq name q || among) (f q) None
listed_first f name q rest among below =
    elim (bytes_decides name q) [
      | inl same ↦
          subst (λ n. first_named (with_first n (f n) rest) q ≡ cond (bytes_eq n q || among) (f q) None) (sym same.1)
          (here (f q) refl ∙ ap (λ b. cond (b || among) (f q) None) (sym (ap (λ n. bytes_eq n q) (sym same.1) ∙ same.0)))
      | inr other ↦ there (f name) other.0 ∙ below ∙ ap (λ b. cond (b || among) (f q) None) (sym other.0)
    ]
  where
    here : (o : Option Value) → f q ≡ o → first_named (with_first q o rest) q ≡ f q
    here None none = below ∙ ap (λ o. cond among o None) none ∙ nothing_either among ∙ sym none
    here (Some value) is = ap (λ b. cond b (Some value) (first_named rest q)) (flipped q q ∙ bytes_itself q) ∙ sym is

    there : (o : Option Value) → bytes_eq name q ≡ false → first_named (with_first name o rest) q ≡ first_named rest q
    there None apart = refl
    there (Some value) apart = ap (λ b. cond b (Some value) (first_named rest q)) (flipped q name ∙ apart)

-- the list has the field of a name if this is among the names, and no field of any other name
listed_finds : (f : List ℕ → Option Value) (names : Names) (q : List ℕ)
    → first_named (listed f names) q ≡ cond (is_one_of names q) (f q) None
listed_finds f [] q = refl
listed_finds f (name ∷ names) q = listed_first f name q (listed f names) (is_one_of names q) (listed_finds f names q)

-- ---- an entry after inheriting

-- the fields that an entry lacks and inherits
abbrev lacked : Entry → List Entry → List ℕ → Option Value
lacked own refs name = cond (is_some (fields_of own.fields name)) None (inherited_chunks own.entry_type name refs)

-- the list of the fields that an entry lacks and inherits
abbrev given_to : Entry → List Entry → List (List ℕ × Value)
given_to own refs = listed (lacked own refs) (names_given own.entry_type refs)

-- the styled text of a field that an entry lacks and inherits
lacked_styled : (own : Entry) (refs : List Entry) (q : List ℕ)
    → option_map styled (lacked own refs q)
    ≡ cond (is_some (fields_of own.fields q)) None (inherited_field own.entry_type q (texts_of_entries refs))
lacked_styled own refs q =
    turned (is_some (fields_of own.fields q)) (inherited_chunks own.entry_type q refs)
    ∙ ap (cond (is_some (fields_of own.fields q)) None) (inherited_styled own.entry_type q refs)
  where
    turned : (b : Bool) (x : Option Value) → option_map styled (cond b None x) ≡ cond b None (option_map styled x)
    turned true x = refl
    turned false x = refl

-- the styled text of such a field in the list
given_styled : (own : Entry) (refs : List Entry) (q : List ℕ)
    → option_map styled (first_named (given_to own refs) q)
    ≡ cond (is_some (fields_of own.fields q)) None (inherited_field own.entry_type q (texts_of_entries refs))
given_styled own refs q =
    ap (option_map styled) (listed_finds (lacked own refs) (names_given own.entry_type refs) q)
    ∙ styled_if (is_one_of (names_given own.entry_type refs) q) (lacked own refs q)
    ∙ ap (λ o. cond (is_one_of (names_given own.entry_type refs) q) o None) (lacked_styled own refs q)
    ∙ all (is_one_of (names_given own.entry_type refs) q) refl
  where
    all : (b : Bool) → is_one_of (names_given own.entry_type refs) q ≡ b
        → cond b (cond (is_some (fields_of own.fields q)) None (inherited_field own.entry_type q (texts_of_entries refs))) None
        ≡ cond (is_some (fields_of own.fields q)) None (inherited_field own.entry_type q (texts_of_entries refs))
    all true is = refl
    all false is =
        sym
        (ap (cond (is_some (fields_of own.fields q)) None) (other_name own.entry_type refs q is)
        ∙ nothing_either (is_some (fields_of own.fields q)))

-- a text as one normal chunk
abbrev as_chunk : List ℕ → Value
as_chunk text = record { v = Normal text; span = record { start = 0; end = 0 } } ∷ []

chunk_styled : (text : List ℕ) → styled (as_chunk text) ≡ written_date text
chunk_styled text = append-nil (written_date text)

-- an optional styled text is the text of optional chunks
abbrev HasChunks : Option (List Atom) → Type 0
HasChunks atoms = (date : Option Value) × (option_map styled date ≡ atoms)

-- the date in one field is the text of chunks
of_one : (own : Value) (text : Option (List ℕ)) → HasChunks (dated_text (of_one_field (styled own) text))
of_one own None = (Some own, refl)
of_one own (Some text) = (Some (as_chunk text), ap Some (chunk_styled text))

-- the date in three fields is the text of chunks
of_three : (date : Option Date) → HasChunks (dated_text (of_three_fields date))
of_three None = (None, refl)
of_three (Some date) = (Some (as_chunk (date_text date)), ap Some (chunk_styled (date_text date)))

-- the date of an entry is the text of chunks
date_by : (fields : FieldTexts) (date : Option Value) (year : Option (List Atom))
    → HasChunks (dated_text (inheritable_date_by fields (option_map styled date) year))
date_by fields (Some date) year = of_one date (rewritten_date (plain (styled date)))
date_by fields None (Some year) = of_three (readable_value (three_fields fields (plain year)))
date_by fields None None = (None, refl)

-- the last date of references is the text of chunks
last_chunks : (refs : List Entry) → HasChunks (last_date (texts_of_entries refs))
last_chunks [] = (None, refl)
last_chunks (r ∷ rest) =
    let fields = fields_of r.fields in
    let later = last_chunks rest in
    let here = date_by fields (get r.fields (codes "date")) (fields (codes "year")) in (
      first_some later.0 here.0,
      styled_first later.0 here.0 ∙ ap (λ o. first_some o (option_map styled here.0)) later.1
          ∙ ap (first_some (last_date (texts_of_entries rest))) here.1,
    )

-- the inherited date is the text of chunks
date_chunks : (own : Entry) (refs : List Entry) → HasChunks (date_for (texts_of_entry own) (texts_of_entries refs))
date_chunks own refs = go (looks_for_date (texts_of_entry own)) where
  go : (b : Bool) → HasChunks (cond b (last_date (texts_of_entries refs)) None)
  go true = last_chunks refs
  go false = (None, refl)

-- there is a map of the fields that `field_by` returns for the own fields, the given ones and the inherited date
fields_by : (own : Entry) (given : List (List ℕ × Value)) (date : Option Value)
    → (fields : ByText Value) × ((name : List ℕ) → get fields name ≡ field_by date (get own.fields) (first_named given) name)
fields_by own given None = (
  remove (made.fields_map (reverse (reverse (entries own.fields ++ given)))) (codes "xdata"),
  λ q. made.field_gathered own.fields given (codes "xdata") q,
)
fields_by own given (Some date) =
    let plain_ones = remove (made.fields_map (reverse (reverse (entries own.fields ++ given)))) (codes "xdata") in (
      insert (remove (remove (remove plain_ones (codes "year")) (codes "month")) (codes "day")) (codes "date") date,
      λ q. made.field_dated plain_ones (codes "year") (codes "month") (codes "day") (codes "date") date q
          ∙ ap (λ o. cond (bytes_eq q (codes "date")) (Some date) (cond (is_one_of date_parts q) None o))
          (made.field_gathered own.fields given (codes "xdata") q),
    )

-- an entry after inheriting: it has the same key, the fields of the rule, and the own chunks of the fields that it keeps
pub record IsHeir (own : Entry) (refs : List Entry) (entry : Entry) : Type 0 where
  pub key : entry.key ≡ own.key
  pub is : texts_of_entry entry ≡ with_inherited_fields (texts_of_entry own) (texts_of_entries refs)
  pub keeps : KeepsChunks own entry

-- an own field keeps its chunks or is removed, if no date is inherited in place of an own field `date`
stays_by : (date : Option Value) (own : ByText Value) (given : List ℕ → Option Value) (name : List ℕ) (chunks : Value)
    → get own name ≡ Some chunks
    → (option_map styled date ≡ None ⊎ get own (codes "date") ≡ None)
    → (field_by date (get own) given name ≡ Some chunks) ⊎ (field_by date (get own) given name ≡ None)
stays_by date own given name chunks has free = with_date date free where
  plainly : (plain_field (get own) given name ≡ Some chunks) ⊎ (plain_field (get own) given name ≡ None)
  plainly = go (bytes_eq name (codes "xdata")) where
    go : (b : Bool)
        → (cond b None (first_some (get own name) (given name)) ≡ Some chunks)
        ⊎ (cond b None (first_some (get own name) (given name)) ≡ None)
    go true = inr refl
    go false = inl (ap (λ o. first_some o (given name)) has)

  with_date : (d : Option Value) → (option_map styled d ≡ None ⊎ get own (codes "date") ≡ None)
      → (field_by d (get own) given name ≡ Some chunks) ⊎ (field_by d (get own) given name ≡ None)
  with_date None free = plainly
  with_date (Some value) (inl none) = cc
  with_date (Some value) (inr lacks) = elim (bytes_decides name (codes "date")) [
    | inl same ↦ cc
    | inr other ↦ subst
        (λ b.
        (cond b (Some value) (cond (is_one_of date_parts name) None (plain_field (get own) given name))
        ≡ Some chunks)
        ⊎
        (cond b (Some value) (cond (is_one_of date_parts name) None (plain_field (get own) given name))
        ≡ None)) (sym other.0) (past (is_one_of date_parts name))
  ] where
    past : (b : Bool)
        → (cond b None (plain_field (get own) given name) ≡ Some chunks)
        ⊎ (cond b None (plain_field (get own) given name) ≡ None)
    past true = inr refl
    past false = plainly

nothing_there : (o : Option Value) → is_some (option_map styled o) ≡ false → o ≡ None
nothing_there None e = refl
nothing_there (Some value) e = absurd (false≢true (sym e))

-- an entry that inherits a date has no own field `date`
free_of_date : (own : Entry) (refs : List Entry)
    → (date_for (texts_of_entry own) (texts_of_entries refs) ≡ None) ⊎ (get own.fields (codes "date") ≡ None)
free_of_date own refs = go (looks_for_date (texts_of_entry own)) refl where
  go : (b : Bool) → looks_for_date (texts_of_entry own) ≡ b
      → (cond b (last_date (texts_of_entries refs)) None ≡ None) ⊎ (get own.fields (codes "date") ≡ None)
  go false looks = inl refl
  go true looks =
      inr
      (nothing_there (get own.fields (codes "date"))
      (not_or_left (has (texts_of_entry own) (codes "date")) (has (texts_of_entry own) (codes "year"))
      (and_true_right (rules_of own.entry_type).needs_date
      (not (has (texts_of_entry own) (codes "date") || has (texts_of_entry own) (codes "year"))) looks)))

-- each entry can inherit from any references
heir : (own : Entry) (refs : List Entry) → (entry : Entry) × IsHeir own refs entry
heir own refs =
    let given = given_to own refs in
    let date = date_chunks own refs in
    let made_of = fields_by own given date.0 in (
      record own { fields = made_of.0 },
      record {
        key = refl;
        is =
            made.inherits own.entry_type own.fields made_of.0 (texts_of_entries refs) given date.0
            (given_styled own refs) date.1 made_of.1;
        keeps = λ name chunks has.
            let free : (option_map styled date.0 ≡ None) ⊎ (get own.fields (codes "date") ≡ None) =
            elim (free_of_date own refs) [ inl none ↦ inl (date.1 ∙ none) | inr lacks ↦ inr lacks ] in
            elim (stays_by date.0 own.fields (first_named given) name chunks has free)
            [ inl same ↦ inl (made_of.1 name ∙ same) | inr gone ↦ inr (made_of.1 name ∙ gone) ];
      },
    )

-- ---- all entries

-- the entry at an index that has no entry
abbrev blank : Entry
blank = record { key = []; entry_type = Misc; fields = by_name.empty }

blank_texts : texts_of_entry blank ≡ no_entry
blank_texts = λ i. record { entry_type = Misc; fields = λ name. ap (option_map styled) (get-empty by_bytes name) i }

entry_at : (own : List Entry) (index : ℕ) → texts_of_entry (get_or own index blank) ≡ at_index (texts_of_entries own) index
entry_at own index = sym (get_or-map texts_of_entry own index blank) ∙ ap (get_or (texts_of_entries own) index) blank_texts

-- the texts of the entries at these indices
at_indices : (values : List Entry) (indices : List ℕ)
    → texts_of_entries (map (λ r. get_or values r blank) indices)
    ≡ map (λ r. get_or (texts_of_entries values) r no_entry) indices
at_indices values [] = refl
at_indices values (r ∷ rest) =
    ap (λ s. s ∷ texts_of_entries (map (λ x. get_or values x blank) rest)) (entry_at values r)
    ∙ ap (λ ss. get_or (texts_of_entries values) r no_entry ∷ ss) (at_indices values rest)

-- the entry at an index after inheriting
abbrev next : List Entry → ℕ → List Entry → Entry
next own index refs = (heir (get_or own index blank) refs).0

module _ (own : List Entry) (graph : Graph) (long : length graph ≡ length own) (in_range : IsInRange graph) (none : HasNoCycle graph) where
  solved : (values : List Entry) × Solves blank (next own) graph values
  solved = let one = walks.one_solution graph in_range none blank (next own) in (one.0, one.1)

  values : List Entry
  values = solved.0

  each : (index : ℕ) → index < length graph
      → get_or values index blank ≡ next own index (map (λ r. get_or values r blank) (refs_of graph index))
  unfolding values solved
  each index within = solved.1.each index within

  is_heir : (index : ℕ) → index < length graph
      → IsHeir (get_or own index blank) (map (λ r. get_or values r blank) (refs_of graph index))
      (get_or values index blank)
  is_heir index within =
      subst (IsHeir (get_or own index blank) (map (λ r. get_or values r blank) (refs_of graph index)))
      (sym (each index within))
      (heir (get_or own index blank) (map (λ r. get_or values r blank) (refs_of graph index))).1

  equation : (index : ℕ) → index < length graph
      → get_or (texts_of_entries values) index no_entry
      ≡ rule_by (texts_of_entries own) index
      (map (λ r. get_or (texts_of_entries values) r no_entry) (refs_of graph index))
  equation index within =
      let refs = map (λ r. get_or values r blank) (refs_of graph index) in
      sym (entry_at values index)
      ∙ (is_heir index within).is
      ∙ ap (λ s. with_inherited_fields s (texts_of_entries refs)) (entry_at own index)
      ∙ ap (with_inherited_fields (at_index (texts_of_entries own) index)) (at_indices values (refs_of graph index))

  long_values : length values ≡ length graph
  unfolding values solved
  long_values = solved.1.same_length

  key_at : (entries : List Entry) (index : ℕ) → get_or (map (λ (e : Entry). e.key) entries) index [] ≡ (get_or entries index blank).key
  key_at entries index = get_or-map (λ (e : Entry). e.key) entries index blank

  -- if each reference is in range and there is no cycle, the equation has a solution of entries
  pub heirs : (entries : List Entry) × HaveInherited own graph entries
  heirs = (
    values,
    record {
      keys = ext_get_or [] (map (λ (e : Entry). e.key) values) (map (λ (e : Entry). e.key) own)
          (length-map values _ ∙ long_values ∙ long ∙ sym (length-map own _))
          (λ index below.
          key_at values index
          ∙ (is_heir index (subst (λ n. index < n) (length-map values _ ∙ long_values) below)).key
          ∙ sym (key_at own index));
      inherits = record { same_length = length-map values _ ∙ long_values; each = equation };
      chunks = λ index written entry there here.
          let within : index < length graph = subst (λ n. index < n) (sym long) (slice_get_within own index written there) in
          let kept = (is_heir index within).keeps in
          subst (λ e. KeepsChunks written e) (get_or_from_slice_get values index entry blank here)
          (subst (λ o. KeepsChunks o (get_or values index blank)) (get_or_from_slice_get own index written blank there) kept);
    },
  )
