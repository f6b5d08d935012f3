-- The JSON of an entry is parsed as the entry.
use Rattle.std.proofs.Common.{◌≡◌, ◌+◌, ◌==◌, ℕ, Bool, true, false, cond, T, List, [], ◌∷◌, ◌++◌, map, reverse, length, codes, Option, Some, None, option_map, Ordering, Less, Equal, Greater, refl, sym, ap, ap₂, subst, ◌∙◌, arith, append-nil, append_assoc, ◌^◌, ◌-◌}
use Rattle.std.proofs.lemmas.Bool.Decides.{nat_tests}
use Rattle.std.proofs.lemmas.Cmp.{nat_list_cmp_total}
use Rattle.std.proofs.lemmas.List.{reverse-append, length-map, length-reverse}
use Rattle.std.specs.FinMap.{entries, entries_sorted, find, from_entries, is_sorted, len, len-empty, len-insert, get-from_entries}
use Rattle.std.specs.FinMap.Entries.{below_all}
use Rattle.std.specs.List.{AllByRecursion}
use Rattle.std.specs.Option.{option_map_or}
use Rattle.std.specs.Ordering.{is_eq, match_ordering, ordering_reverse}
use Rattle.std.specs.Prelude.{Ok, Err, is_some}
use Rattle.json.specs.Json as json
use Rattle.serde_json.specs.Data.{Data, number, unsigned, string, Members, no_members, member, put}
use Rattle.serde_json.specs.View.{items_of}
use Rattle.serde_json.specs.Written.{outline, items_outline, members_outline}
use Rattle.bib_text.specs.declared.spanned.Spanned.{Spanned}
use Rattle.bib_text.proofs.ListFacts.{all_push, all_reverse}
use Rattle.bib_chunks.specs.Styled.{text_of}
use Rattle.bib_chunks.specs.Values.{Value}
use Rattle.bib_chunks.specs.declared.chunk.Chunk.{Chunk}
use Rattle.bib_chunks.specs.declared.chunk.Chunk.TheVariants.{Normal, Verbatim, Math}
use Rattle.bib_collections.proofs.SortedFacts.{first, second, less}
use Rattle.bib_collections.specs.Sorted.{by_bytes}
use Rattle.bib_entry.specs.declared.entry.Entry.{Entry}
use Rattle.bib_from_csl.specs.Objects.{listed_items, listed_members}
use Rattle.bib_json.proofs.ReadingFacts.{entries_document}
use Rattle.bib_json.specs.Arrays.{array_text}
use Rattle.bib_json.specs.Chunks.{chunk_json, chunks_json, kind_name}
use Rattle.bib_json.specs.Dates.{date_json}
use Rattle.bib_json.specs.Entries.{entry_date, entry_object, json_text_of, type_text, IsReadBack}
use Rattle.bib_json.specs.Fields.{field_json, field_member}
use Rattle.bib_json.specs.Objects.{object_of, with_members}
use Rattle.bib_json.specs.Values.{value_json}
use Rattle.bib_from_json.specs.GivenChunks.{before_chunks, chunk_in, chunks_from, field_chunks}
use Rattle.bib_from_json.specs.GivenEntries.{are_distinct, before_entries, before_given_fields, entries_of_elements, entries_in, entries_read, entry_of_element, entry_unless, entry_with, fields_from, name_pair, no_json, unfit_whole}
use Rattle.bib_from_json.specs.GivenOf.{detached, given_entry, given_field}
use Rattle.bib_from_json.specs.declared.given.GivenField.{GivenField}
use Rattle.bib_from_json.specs.declared.reading.Fault.TheVariants.{FieldTwice}

-- ---- chunks

-- the object of a chunk, with a number as the value of `start` and one as the value of `end` unless the flag says that there are none
abbrev chunk_object : Chunk → Bool → ℕ → ℕ → Data
chunk_object v is_nowhere start end = object_of (
    (codes "kind", Some (string (kind_name v)))
    ∷ (codes "text", Some (string (text_of v)))
    ∷ (codes "start", cond is_nowhere None (Some (number (unsigned start))))
    ∷ (codes "end", cond is_nowhere None (Some (number (unsigned end))))
    ∷ [])

object_read : (v : Chunk) (is_nowhere : Bool) (start end : ℕ) → chunk_in (outline (chunk_object v is_nowhere start end)) ≡ Ok v
object_read (Normal text) true start end = refl
object_read (Verbatim text) true start end = refl
object_read (Math text) true start end = refl
object_read (Normal text) false start end = refl
object_read (Verbatim text) false start end = refl
object_read (Math text) false start end = refl

chunk_read : (c : Spanned Chunk) → chunk_in (outline (chunk_json c)) ≡ Ok c.v
chunk_read c = object_read c.v (c.span.start == 2 ^ 64 - 1) c.span.start c.span.end

chunks_read : (chunks : Value) → chunks_from (listed_items (items_outline (items_of (map chunk_json chunks)))) ≡ Ok (detached chunks)
chunks_read [] = refl
chunks_read (c ∷ cs) = ap₂ before_chunks (chunk_read c) (chunks_read cs)

-- ---- fields

-- the chunks of a field are parsed back, whether or not it has a value
valued_read : (chunks : Value) (value : Option Data)
    → field_chunks (outline (object_of ((codes "chunks", Some (chunks_json chunks)) ∷ (codes "value", value) ∷ [])))
    ≡ Ok (detached chunks)
valued_read chunks None = chunks_read chunks
valued_read chunks (Some value) = chunks_read chunks

field_read : (name : List ℕ) (chunks : Value) → field_chunks (outline (field_json name chunks)) ≡ Ok (detached chunks)
field_read name chunks = valued_read chunks (value_json name chunks)

abbrev Field : Type 0
Field = List ℕ × Value

-- a field as a member of the JSON object
abbrev json_member : Field → List ℕ × json.Json
json_member f = (f.0, outline (field_json f.0 f.1))

pub fields_read : (key : List ℕ) (fields : List Field) → fields_from key (map json_member fields) ≡ Ok (map given_field fields)
fields_read key [] = refl
fields_read key (f ∷ fs) = ap₂ (before_given_fields key f.0) (field_read f.0 f.1) (fields_read key fs)

-- ---- the members of the object of fields

-- a member after the others
abbrev with_last : Members → List ℕ → Data → Members
with_last no_members name d = member name d no_members
with_last (member other e ms) name d = member other e (with_last ms name d)

-- the names of members are less than those of fields
abbrev AreBelow : Members → List Field → Type 0
AreBelow no_members fields = Unit {0}
AreBelow (member name d ms) fields = T (below_all by_bytes name fields) × AreBelow ms fields

placed : (o : Ordering) (A B C : Members) → o ≡ Less → match_ordering (ordering_reverse o) A B C ≡ C
placed Less A B C is = refl
placed Equal A B C is = cc
placed Greater A B C is = cc

put_last : (ms : Members) (f : Field) (fields : List Field) (d : Data) → AreBelow ms (f ∷ fields) → put f.0 d ms ≡ with_last ms f.0 d
put_last no_members f fields d below = refl
put_last (member name e ms) f fields d below =
    ap
    (λ o. match_ordering o (member f.0 d (member name e ms)) (member name d ms) (member name e (put f.0 d ms)))
    (nat_list_cmp_total.antisymm f.0 name)
    ∙ placed (by_bytes name f.0) _ _ _ (less _ (first _ _ below.0)) ∙ ap (member name e) (put_last ms f fields d below.1)

below_last : (ms : Members) (f : Field) (fields : List Field) (d : Data) → AreBelow ms (f ∷ fields) → T (below_all by_bytes f.0 fields)
    → AreBelow (with_last ms f.0 d) fields
below_last no_members f fields d below rest = (rest, tt)
below_last (member name e ms) f fields d below rest = (second _ _ below.0, below_last ms f fields d below.1 rest)

listed_last : (ms : Members) (name : List ℕ) (d : Data)
    → listed_members (members_outline (with_last ms name d)) ≡ listed_members (members_outline ms) ++ (name, outline d) ∷ []
listed_last no_members name d = refl
listed_last (member other e ms) name d = ap (λ l. (other, outline e) ∷ l) (listed_last ms name d)

listed_after : (fields : List Field) (ms : Members) → T (is_sorted by_bytes fields) → AreBelow ms fields
    → listed_members (members_outline (with_members ms (map field_member fields)))
    ≡ listed_members (members_outline ms) ++ map json_member fields
listed_after [] ms sorted below = sym (append-nil (listed_members (members_outline ms)))
listed_after (f ∷ fields) ms sorted below =
    let d = field_json f.0 f.1 in
    ap (λ m. listed_members (members_outline (with_members m (map field_member fields)))) (put_last ms f fields d below)
    ∙ listed_after fields (with_last ms f.0 d) (second _ _ sorted) (below_last ms f fields d below (first _ _ sorted))
    ∙ ap (λ l. l ++ map json_member fields) (listed_last ms f.0 d)
    ∙ append_assoc (listed_members (members_outline ms)) (json_member f ∷ []) (map json_member fields)

-- the members of the object of sorted fields are the fields in their order
pub fields_listed : (fields : List Field) → T (is_sorted by_bytes fields)
    → listed_members (members_outline (with_members no_members (map field_member fields))) ≡ map json_member fields
fields_listed fields sorted = listed_after fields no_members sorted tt

-- ---- distinct names

abbrev Pair : Type 0
Pair = List ℕ × Unit {0}

abbrev IsOther : Pair → Pair → Type 0
IsOther p q = is_eq (by_bytes p.0 q.0) ≡ false

-- no pair has the name of a later one
abbrev AreOthers : List Pair → Type 0
AreOthers [] = Unit {0}
AreOthers (p ∷ ps) = AllByRecursion (IsOther p) ps × AreOthers ps

others_push : (ps : List Pair) (p : Pair) → AreOthers ps → AllByRecursion (λ q. IsOther q p) ps → AreOthers (ps ++ p ∷ [])
others_push [] p others all = (tt, tt)
others_push (q ∷ ps) p others all = (all_push (IsOther q) ps p others.0 all.0, others_push ps p others.1 all.1)

not_found : (p : Pair) (ps : List Pair) → AllByRecursion (IsOther p) ps → find by_bytes p.0 ps ≡ None
not_found p [] all = refl
not_found p (q ∷ ps) all = ap (λ b. cond b (Some q.1) (find by_bytes p.0 ps)) all.0 ∙ not_found p ps all.1

-- a map of such pairs has as many names as there are pairs
count_others : (ps : List Pair) → AreOthers ps → len (from_entries {R = by_bytes} ps) ≡ length ps
count_others [] others = len-empty by_bytes (Unit {0})
count_others (p ∷ ps) others =
    len-insert nat_list_cmp_total (from_entries ps) p.0 p.1
    ∙ ap
    (λ o. cond (is_some o) (len (from_entries {R = by_bytes} ps)) (len (from_entries {R = by_bytes} ps) + 1))
    (get-from_entries nat_list_cmp_total ps p.0 ∙ not_found p ps others.0)
    ∙ ap (λ n. n + 1) (count_others ps others.1) ∙ (omega arith)

above : (o : Ordering) → o ≡ Less → is_eq (ordering_reverse o) ≡ false
above Less is = refl
above Equal is = cc
above Greater is = refl

-- the name of a field before sorted fields is none of theirs
others_of : (f : Field) (fields : List Field) → T (below_all by_bytes f.0 fields)
    → AllByRecursion (λ q. IsOther q (name_pair (given_field f))) (map name_pair (map given_field fields))
others_of f [] below = tt
others_of f (g ∷ fields) below = (
  ap is_eq (nat_list_cmp_total.antisymm g.0 f.0) ∙ above (by_bytes f.0 g.0) (less _ (first _ _ below)),
  others_of f fields (second _ _ below),
)

reversed : (fields : List Field) → T (is_sorted by_bytes fields) → AreOthers (reverse (map name_pair (map given_field fields)))
reversed [] sorted = tt
reversed (f ∷ fields) sorted =
    let p = name_pair (given_field f) in
    let rest = map name_pair (map given_field fields) in
    subst AreOthers (sym (reverse-append (p ∷ []) rest))
    (others_push (reverse rest) p (reversed fields (second _ _ sorted))
    (all_reverse (λ q. IsOther q p) rest (others_of f fields (first _ _ sorted))))

same_number : (a b : ℕ) → a ≡ b → (a == b) ≡ true
same_number a b is = grind (arith, nat_tests)

-- sorted fields have distinct names
pub sorted_are_distinct : (fields : List Field) → T (is_sorted by_bytes fields) → are_distinct (map given_field fields) ≡ true
sorted_are_distinct fields sorted =
    let pairs = map name_pair (map given_field fields) in
    same_number _ _
    (count_others (reverse pairs) (reversed fields sorted) ∙ length-reverse pairs ∙ length-map (map given_field fields) name_pair)

-- ---- entries

-- the entry with these fields is not refused if their names are distinct
with_distinct : (kind key : List ℕ) (fields : List GivenField) → are_distinct fields ≡ true
    → entry_with kind key fields ≡ Ok (record { kind = kind; key = key; fields = fields })
with_distinct kind key fields is =
    ap (λ b. cond b (Ok (record { kind = kind; key = key; fields = fields })) (Err (unfit_whole FieldTwice key))) is

-- an entry with the members of the object of sorted fields is parsed as one with these fields
parts_read : (kind key : List ℕ) (fields : List Field) → T (is_sorted by_bytes fields)
    → entry_unless kind key (fields_from key (listed_members (members_outline (with_members no_members (map field_member fields)))))
    ≡ Ok (record { kind = kind; key = key; fields = map given_field fields })
parts_read kind key fields sorted =
    ap (λ ms. entry_unless kind key (fields_from key ms)) (fields_listed fields sorted)
    ∙ ap (entry_unless kind key) (fields_read key fields)
    ∙ with_distinct kind key (map given_field fields) (sorted_are_distinct fields sorted)

-- the object of an entry with sorted fields is parsed as the entry, whether or not it has a date
dated_read : (kind key : List ℕ) (fields : List Field) (date : Option Data) → T (is_sorted by_bytes fields)
    → entry_of_element (outline (object_of (
    (codes "type", Some (string kind))
    ∷ (codes "key", Some (string key))
    ∷ (codes "fields", Some (object_of (map field_member fields)))
    ∷ (codes "date", date)
    ∷ [])))
    ≡ Ok (record { kind = kind; key = key; fields = map given_field fields })
dated_read kind key fields None sorted = parts_read kind key fields sorted
dated_read kind key fields (Some date) sorted = parts_read kind key fields sorted

-- the object of an entry is parsed as the entry
entry_read : (entry : Entry) → entry_of_element (outline (entry_object entry)) ≡ Ok (given_entry entry)
entry_read entry =
    dated_read (type_text entry.entry_type) entry.key (entries entry.fields) (option_map date_json (entry_date entry))
    (entries_sorted entry.fields)

elements_read : (index : ℕ) (all : List Entry)
    → entries_of_elements index (listed_items (items_outline (items_of (map entry_object all)))) ≡ Ok (map given_entry all)
elements_read index [] = refl
elements_read index (entry ∷ rest) = ap₂ (before_entries index) (entry_read entry) (elements_read (index + 1) rest)

-- the text of the array of entries is parsed as the entries, if the text of each parses back to its object
pub text_read : (all : List Entry) → AllByRecursion IsReadBack all
    → entries_read (array_text (map json_text_of all)) ≡ Ok (map given_entry all)
unfolding entries_read
text_read all read =
    ap (λ j. option_map_or entries_in j (Err no_json)) (entries_document all read) ∙ elements_read 0 all
