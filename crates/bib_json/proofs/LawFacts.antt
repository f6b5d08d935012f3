-- Each field of an entry is found in its object, and so is the date of the entry.
use Rattle.std.proofs.Common.{◌≡◌, ℕ, List, [], ◌∷◌, map, codes, Bool, true, false, true≢false, cond, Option, Some, None, option_map, Ordering, Less, Equal, Greater, refl, sym, ap, ◌∙◌}
use Rattle.std.proofs.lemmas.Map.Text.{is_eq-slice_cmp}
use Rattle.std.proofs.lemmas.Slice.Eq.{bytes_eq-Decides}
use Rattle.std.specs.FinMap.{entries, entries_sorted, find, get-entries, is_sorted}
use Rattle.std.specs.FinMap as by_name
use Rattle.std.specs.FinMap.Entries.{below_all}
use Rattle.std.specs.Option.{option_map_or, option_or}
use Rattle.std.specs.Ordering.{is_eq, is_lt}
use Rattle.std.specs.Prelude.{◌&&◌, bytes_eq, is_some, option_and_then, T}
use Rattle.bib_text.proofs.OptionFacts.{or_none}
use Rattle.bib_chunks.specs.Values.{Value}
use Rattle.bib_collections.specs.Sorted.{ByText, by_bytes}
use Rattle.bib_dates.specs.Chunks.{date_read}
use Rattle.bib_entry.specs.declared.entry.Entry.{Entry}
use Rattle.serde_json.proofs.Views.{get_member-put, get_member-put_other}
use Rattle.serde_json.specs.Data.{Data, Members, no_members, put, string}
use Rattle.serde_json.specs.Find.{get, get_member}
use Rattle.bib_json.specs.Chunks.{chunks_json}
use Rattle.bib_json.specs.Dates.{date_json}
use Rattle.bib_json.specs.Entries.{date_in_parts, entry_date, entry_object, type_text}
use Rattle.bib_json.specs.Fields.{field_json, field_member, fields_json}
use Rattle.bib_json.specs.Objects.{object_of, with_members}
use Rattle.bib_json.specs.Values.{value_json}
use Rattle.bib_collections.proofs.SortedFacts.{first, second}

abbrev Field : Type 0
Field = List ℕ × Value

passed : (o : Ordering) (v : Value) (rest : Option Value) → T (is_lt o) → cond (is_eq o) (Some v) rest ≡ rest
passed Less v rest p = refl
passed Equal v rest p = absurd p
passed Greater v rest p = absurd p

-- a name isn't found among fields with greater names
none_after : (name : List ℕ) (fields : List Field) → T (below_all by_bytes name fields) → find by_bytes name fields ≡ None
none_after name [] p = refl
none_after name (field ∷ rest) p = passed (by_bytes name field.0) field.1 _ (first _ _ p) ∙ none_after name rest (second _ _ p)

-- looking up a name in the later fields, and then in the members with a field put, is looking it up in this field and the later ones, and
-- then in the members
next : (b : Bool) (name : List ℕ) (field : Field) (rest : List Field) (ms : Members) → bytes_eq name field.0 ≡ b
    → T (below_all by_bytes field.0 rest)
    → option_or (option_map (field_json name) (find by_bytes name rest)) (get_member name (put field.0 (field_json field.0 field.1) ms))
    ≡ option_or (option_map (field_json name) (cond b (Some field.1) (find by_bytes name rest))) (get_member name ms)
next true name field rest ms is below =
    let same : name ≡ field.0 = (bytes_eq-Decides name field.0).0 is in
    let d = field_json field.0 field.1 in
    let none : find by_bytes name rest ≡ None = ap (λ n. find by_bytes n rest) same ∙ none_after field.0 rest below in
    ap (λ o. option_or (option_map (field_json name) o) (get_member name (put field.0 d ms))) none
    ∙ ap (λ n. get_member n (put field.0 d ms)) same ∙ get_member-put field.0 d ms ∙ ap (λ n. Some (field_json n field.1)) (sym same)
next false name field rest ms is below =
    let other = λ (same : name ≡ field.0). true≢false (sym ((bytes_eq-Decides name field.0).1 same) ∙ is) in
    ap (λ o. option_or (option_map (field_json name) (find by_bytes name rest)) o)
    (get_member-put_other name field.0 (field_json field.0 field.1) ms other)

found_among : (fields : List Field) (ms : Members) (name : List ℕ) → T (is_sorted by_bytes fields)
    → get_member name (with_members ms (map field_member fields))
    ≡ option_or (option_map (field_json name) (find by_bytes name fields)) (get_member name ms)
found_among [] ms name p = refl
found_among (field ∷ rest) ms name p =
    found_among rest (put field.0 (field_json field.0 field.1) ms) name (second _ _ p)
    ∙ next (bytes_eq name field.0) name field rest ms refl (first _ _ p)
    ∙ ap
    (λ b.
    option_or (option_map (field_json name) (cond b (Some field.1) (find by_bytes name rest)))
    (get_member name ms)) (sym (is_eq-slice_cmp name field.0))

-- the member of a name in the object of all fields is the JSON value of the field of this name
found_field : (fields : ByText Value) (name : List ℕ)
    → get name (fields_json fields) ≡ option_map (field_json name) (by_name.get fields name)
found_field fields name =
    found_among (entries fields) no_members name (entries_sorted fields) ∙ or_none _
    ∙ ap (λ o. option_map (field_json name) o) (sym (get-entries fields name))

-- the object of an entry has the object of its fields, whether or not it has a date
fields_in : (kind key : List ℕ) (fields : Data) (date : Option Data)
    → get (codes "fields") (object_of (
    (codes "type", Some (string kind))
    ∷ (codes "key", Some (string key))
    ∷ (codes "fields", Some fields)
    ∷ (codes "date", date)
    ∷ []))
    ≡ Some fields
fields_in kind key fields None = refl
fields_in kind key fields (Some date) = refl

-- the member of a name in the fields of an entry's object is the JSON value of the field of this name
pub found_in_entry : (entry : Entry) (name : List ℕ)
    → option_and_then (get name) (get (codes "fields") (entry_object entry))
    ≡ option_map (field_json name) (by_name.get entry.fields name)
found_in_entry entry name =
    ap (option_and_then (get name))
    (fields_in (type_text entry.entry_type) entry.key (fields_json entry.fields) (option_map date_json (entry_date entry)))
    ∙ found_field entry.fields name

-- the object of an entry has the date of the entry, if there is one
date_in : (kind key : List ℕ) (fields : Data) (date : Option Data)
    → get (codes "date") (object_of (
    (codes "type", Some (string kind))
    ∷ (codes "key", Some (string key))
    ∷ (codes "fields", Some fields)
    ∷ (codes "date", date)
    ∷ []))
    ≡ date
date_in kind key fields None = refl
date_in kind key fields (Some date) = refl

-- the object of a field has the value of the field, if there is one
value_in : (chunks : Data) (value : Option Data)
    → get (codes "value") (object_of ((codes "chunks", Some chunks) ∷ (codes "value", value) ∷ [])) ≡ value
value_in chunks None = refl
value_in chunks (Some value) = refl

-- if there is a field `date`, the date of the entry is the value in the object of the field
value_of_date : (entry : Entry) (field : Option Value) → is_some field ≡ true
    → option_map date_json (option_map_or date_read field (date_in_parts entry))
    ≡ option_and_then (get (codes "value")) (option_map (field_json (codes "date")) field)
value_of_date entry None has = absurd (true≢false (sym has))
value_of_date entry (Some chunks) has = sym (value_in (chunks_json chunks) (value_json (codes "date") chunks))

-- the date of an entry's object is the value of the field `date`, if the entry has this field
pub same_date : (entry : Entry) → is_some (by_name.get entry.fields (codes "date")) ≡ true
    → get (codes "date") (entry_object entry)
    ≡ option_and_then (get (codes "value")) (option_and_then (get (codes "date")) (get (codes "fields") (entry_object entry)))
same_date entry has =
    date_in (type_text entry.entry_type) entry.key (fields_json entry.fields) (option_map date_json (entry_date entry))
    ∙ value_of_date entry (by_name.get entry.fields (codes "date")) has
    ∙ ap (option_and_then (get (codes "value"))) (sym (found_in_entry entry (codes "date")))
