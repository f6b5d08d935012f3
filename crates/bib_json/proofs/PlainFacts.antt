-- The object of an entry has no float, so its text is known. It is not deep, so the text is parsed back.
use Rattle.std.proofs.Common.{◌≡◌, ℕ, suc, ◌≤◌, arith, List, [], ◌∷◌, map, ℤ, pos, negsuc, Bool, true, false, if◌then◌else◌, Option, Some, None, option_map, option_and_then, unwrap_or, Ordering, Less, Equal, Greater, nat_cmp, refl}
use Rattle.std.proofs.Math.Nat.{le-max_left, le-max_right, max-le}
use Rattle.std.specs.Cmp.Lexicographic.{slice_cmp}
use Rattle.std.specs.Ordering.{match_ordering}
use Rattle.std.specs.FinMap.{entries}
use Rattle.std.specs.declared.ops.Range.{Range}
use Rattle.std.proofs.lemmas.Bool.{or_from}
use Rattle.bib_chunks.specs.Cuts.{and_list}
use Rattle.bib_chunks.specs.Values.{Value}
use Rattle.bib_chunks.specs.declared.chunk.Chunk.{Chunk}
use Rattle.bib_dates.specs.Chunks.{date_read}
use Rattle.bib_dates.specs.declared.date.Date.{Date}
use Rattle.bib_dates.specs.declared.date.Datetime.{Datetime}
use Rattle.bib_dates.specs.declared.date.Time.{Time}
use Rattle.bib_entry.specs.declared.entry.Entry.{Entry}
use Rattle.bib_tables.specs.declared.types.lang.Language.{Language as ALanguage}
use Rattle.bib_people.specs.People.{people_of}
use Rattle.bib_people.specs.declared.person.Person.{Person}
use Rattle.bib_text.specs.declared.spanned.Spanned.{Spanned}
use Rattle.bib_text.proofs.BoolFacts.{or_false_left, or_false_right}
use Rattle.bib_values.specs.Enumerations.{pagination_read, gender_read, language_read}
use Rattle.bib_values.specs.Lists.{strings_read}
use Rattle.bib_values.specs.Numbers.{number_read}
use Rattle.bib_values.specs.Ranges.{ranges_read}
use Rattle.serde_json.specs.Data.{Data, Members, no_members, member, put, string, number, boolean, depth, items_depth, members_depth}
use Rattle.serde_json.specs.Find.{of_integer}
use Rattle.serde_json.specs.Read.{max_depth}
use Rattle.serde_json.specs.View.{items_of}
use Rattle.serde_json.specs.Written.{has_float, items_have_float, members_have_float}
use Rattle.bib_json.specs.Chunks.{chunk_members, chunk_json, chunks_json}
use Rattle.bib_json.specs.Dates.{offset_minutes, offset_json, time_members, time_json, counted_json, datetime_members, datetime_json, members_of_date, date_json, date_start, date_end}
use Rattle.bib_json.specs.Entries.{entry_date, entry_members, entry_object}
use Rattle.bib_json.specs.Fields.{field_members, field_json, field_member}
use Rattle.bib_json.specs.Objects.{Member, with_given, with_members, object_of, array_of}
use Rattle.bib_json.specs.ValueTypes.{value_type}
use Rattle.bib_json.specs.Values.{person_members, person_json, range_json, part_json, language_json, language_or_part, typed_json}
use Rattle.bib_json.specs.declared.types.ValueType.{ValueType}
use Rattle.bib_json.specs.declared.types.ValueType.TheVariants as type

-- a value has no float, and its depth is at most `n`
record IsPlain (n : ℕ) (d : Data) : Type 0 where
  pub no_float : has_float d ≡ false
  pub shallow : depth d ≤ n

-- members have no float, and their depth is at most `n`
record ArePlain (n : ℕ) (ms : Members) : Type 0 where
  pub no_float : members_have_float ms ≡ false
  pub shallow : members_depth ms ≤ n

-- the same for an optional value
abbrev IsPlainIfGiven : ℕ → Option Data → Type 0
IsPlainIfGiven n None = Unit {0}
IsPlainIfGiven n (Some d) = IsPlain n d

-- the same for the optional values of members
abbrev AreGivenPlain : ℕ → List Member → Type 0
AreGivenPlain n [] = Unit {0}
AreGivenPlain n (m ∷ rest) = IsPlainIfGiven n m.1 × AreGivenPlain n rest

at_most_one_more : (a b n : ℕ) → a ≤ b → b ≤ n → a ≤ n
at_most_one_more a b n p q = omega arith

one_deeper : (a n : ℕ) → a ≤ n → suc a ≤ suc n
one_deeper a n p = omega arith

one_less : (a : ℕ) → a ≤ 6 → suc a ≤ max_depth
one_less a p = omega arith

-- members are plain if the first one and the others are; the next two lemmas state the converse
before_plain : {n : ℕ} (k : List ℕ) (d : Data) (ms : Members) → IsPlain n d → ArePlain n ms → ArePlain n (member k d ms)
before_plain k d ms p q = record { no_float = or_from _ _ p.no_float q.no_float; shallow = max-le p.shallow q.shallow }

first_plain : {n : ℕ} (k : List ℕ) (d : Data) (ms : Members) → ArePlain n (member k d ms) → IsPlain n d
first_plain {n} k d ms p =
    record {
      no_float = or_false_left (has_float d) (members_have_float ms) p.no_float;
      shallow = at_most_one_more (depth d) _ n (le-max_left (depth d) (members_depth ms)) p.shallow;
    }

rest_plain : {n : ℕ} (k : List ℕ) (d : Data) (ms : Members) → ArePlain n (member k d ms) → ArePlain n ms
rest_plain {n} k d ms p =
    record {
      no_float = or_false_right (has_float d) (members_have_float ms) p.no_float;
      shallow = at_most_one_more (members_depth ms) _ n (le-max_right (depth d) (members_depth ms)) p.shallow;
    }

placed : {n : ℕ} (o : Ordering) (k l : List ℕ) (d e : Data) (ms : Members) → IsPlain n d → IsPlain n e → ArePlain n ms
    → ArePlain n (put k d ms)
    → ArePlain n (match_ordering o (member k d (member l e ms)) (member l d ms) (member l e (put k d ms)))
placed Less k l d e ms p q r s = before_plain k d _ p (before_plain l e ms q r)
placed Equal k l d e ms p q r s = before_plain l d ms p r
placed Greater k l d e ms p q r s = before_plain l e _ q s

put_plain : {n : ℕ} (k : List ℕ) (d : Data) (ms : Members) → IsPlain n d → ArePlain n ms → ArePlain n (put k d ms)
put_plain k d no_members p q = before_plain k d no_members p q
put_plain k d (member l e ms) p q =
    let rest = rest_plain l e ms q in
    placed (slice_cmp nat_cmp k l) k l d e ms p (first_plain l e ms q) rest (put_plain k d ms p rest)

given_plain : {n : ℕ} (k : List ℕ) (o : Option Data) (ms : Members) → IsPlainIfGiven n o → ArePlain n ms → ArePlain n (with_given k o ms)
given_plain k None ms p q = q
given_plain k (Some d) ms p q = put_plain k d ms p q

with_members_plain : {n : ℕ} (ms : Members) (members : List Member) → ArePlain n ms → AreGivenPlain n members
    → ArePlain n (with_members ms members)
with_members_plain ms [] p q = p
with_members_plain ms (m ∷ rest) p q = with_members_plain (with_given m.0 m.1 ms) rest (given_plain m.0 m.1 ms q.0 p) q.1

none_plain : (n : ℕ) → ArePlain n no_members
none_plain n = record { no_float = refl; shallow = omega arith }

object_plain : {n : ℕ} (members : List Member) → AreGivenPlain n members → IsPlain (suc n) (object_of members)
object_plain {n} members p =
    let all = with_members_plain no_members members (none_plain n) p in
    record { no_float = all.no_float; shallow = one_deeper _ n all.shallow }

items_plain : {n : ℕ} {T : Type 0} (element : T → Data) (elements : List T) → ((x : T) → IsPlain n (element x))
    → (items_have_float (items_of (map element elements)) ≡ false) × (items_depth (items_of (map element elements)) ≤ n)
items_plain element [] p = (refl, omega arith)
items_plain element (x ∷ xs) p =
    let rest = items_plain element xs p in
    (or_from _ _ (p x).no_float rest.0, max-le (p x).shallow rest.1)

array_plain : {n : ℕ} {T : Type 0} (element : T → Data) (elements : List T) → ((x : T) → IsPlain n (element x))
    → IsPlain (suc n) (array_of element elements)
array_plain {n} element elements p =
    let all = items_plain element elements p in
    record { no_float = all.0; shallow = one_deeper _ n all.1 }

mapped_plain : {n : ℕ} {T : Type 0} (f : T → Data) (o : Option T) → ((x : T) → IsPlain n (f x)) → IsPlainIfGiven n (option_map f o)
mapped_plain f None p = tt
mapped_plain f (Some x) p = p x

-- a value of depth 0 without a float is plain
leaf : {n : ℕ} (d : Data) → has_float d ≡ false → depth d ≡ 0 → IsPlain n d
leaf d p q = record { no_float = p; shallow = omega arith }

-- a greater bound holds too
deeper : {m n : ℕ} (d : Data) → m ≤ n → IsPlain m d → IsPlain n d
deeper {m} {n} d h p = record { no_float = p.no_float; shallow = at_most_one_more (depth d) m n p.shallow h }

integer_plain : {n : ℕ} (z : ℤ) → IsPlain n (number (of_integer z))
integer_plain (pos k) = leaf _ refl refl
integer_plain (negsuc k) = leaf _ refl refl

-- ---- chunks

chosen_plain : {n : ℕ} (b : Bool) (d : Data) → IsPlain n d → IsPlainIfGiven n (if b then None else Some d)
chosen_plain true d p = tt
chosen_plain false d p = p

chunk_plain : (c : Spanned Chunk) → IsPlain 1 (chunk_json c)
chunk_plain c =
    object_plain (chunk_members c) (
      leaf _ refl refl,
      (leaf _ refl refl, (chosen_plain _ _ (leaf _ refl refl), (chosen_plain _ _ (leaf _ refl refl), tt))),
    )

chunks_plain : (chunks : Value) → IsPlain 2 (chunks_json chunks)
chunks_plain chunks = array_plain chunk_json chunks chunk_plain

-- ---- dates

time_plain : (t : Time) → IsPlain 1 (time_json t)
time_plain t =
    object_plain (time_members t) (
      leaf _ refl refl,
      (
        leaf _ refl refl,
        (leaf _ refl refl, (mapped_plain offset_json t.offset (λ offset. integer_plain (offset_minutes offset)), tt)),
      ),
    )

datetime_plain : (d : Datetime) → IsPlain 2 (datetime_json d)
datetime_plain d =
    object_plain (datetime_members d) (
      integer_plain d.year,
      (
        mapped_plain counted_json d.month (λ index. leaf _ refl refl),
        (mapped_plain counted_json d.day (λ index. leaf _ refl refl), (mapped_plain time_json d.time time_plain, tt)),
      ),
    )

date_plain : (d : Date) → IsPlain 3 (date_json d)
date_plain d =
    object_plain (members_of_date d) (
      leaf _ refl refl,
      (
        mapped_plain datetime_json (date_start d.value) datetime_plain,
        (mapped_plain datetime_json (date_end d.value) datetime_plain, (leaf _ refl refl, (leaf _ refl refl, tt))),
      ),
    )

-- ---- values

string_plain : {n : ℕ} (text : List ℕ) → IsPlain n (string text)
string_plain text = leaf (string text) refl refl

person_plain : (p : Person) → IsPlain 1 (person_json p)
person_plain p =
    object_plain (person_members p) (
      leaf _ refl refl,
      (
        leaf _ refl refl,
        (
          leaf _ refl refl,
          (
            leaf _ refl refl,
            (
              mapped_plain string p.id string_plain,
              (
                mapped_plain string p.prefix_initials string_plain,
                (mapped_plain string p.given_initials string_plain, (mapped_plain boolean p.use_prefix (λ b. leaf _ refl refl), tt)),
              ),
            ),
          ),
        ),
      ),
    )

range_plain : (range : Range ℕ) → IsPlain 1 (range_json range)
range_plain range = record { no_float = refl; shallow = omega arith }

named_plain : {n : ℕ} (name : Option ALanguage) (part : Value) → IsPlain n (unwrap_or (option_map language_json name) (part_json part))
named_plain None part = leaf _ refl refl
named_plain (Some language) part = leaf _ refl refl

two_three : {d : Data} → IsPlain 2 d → IsPlain 3 d
two_three {d} p = deeper d (omega arith) p

list_plain : {T : Type 0} (element : T → Data) (elements : List T) → ((x : T) → IsPlain 1 (element x))
    → IsPlain 3 (array_of element elements)
list_plain element elements p = two_three (array_plain element elements p)

typed_plain : (type : ValueType) (chunks : Value) → IsPlainIfGiven 3 (typed_json type chunks)
typed_plain type.People chunks = list_plain person_json (people_of chunks) person_plain
typed_plain type.Date chunks = mapped_plain date_json (date_read chunks) date_plain
typed_plain type.Number chunks = mapped_plain (λ n. number (of_integer n)) (number_read chunks) integer_plain
typed_plain type.Pages chunks = mapped_plain (array_of range_json) (ranges_read chunks) (λ ranges. list_plain range_json ranges range_plain)
typed_plain type.Keys chunks = list_plain string (strings_read chunks) string_plain
typed_plain type.Parts chunks = list_plain part_json (and_list chunks) (λ part. leaf _ refl refl)
typed_plain type.Languages chunks = list_plain language_or_part (and_list chunks) (λ part. named_plain (language_read part) part)
typed_plain type.Language chunks = mapped_plain language_json (language_read chunks) (λ language. leaf _ refl refl)
typed_plain type.Pagination chunks = mapped_plain _ (pagination_read chunks) (λ scheme. leaf _ refl refl)
typed_plain type.Role chunks = leaf _ refl refl
typed_plain type.Gender chunks = mapped_plain _ (gender_read chunks) (λ gender. leaf _ refl refl)

typed_if_plain : (type : Option ValueType) (chunks : Value) → IsPlainIfGiven 3 (option_and_then (λ type. typed_json type chunks) type)
typed_if_plain None chunks = tt
typed_if_plain (Some type) chunks = typed_plain type chunks

-- ---- fields and entries

field_plain : (name : List ℕ) (chunks : Value) → IsPlain 4 (field_json name chunks)
field_plain name chunks =
    object_plain (field_members name chunks)
    (two_three (chunks_plain chunks), (typed_if_plain (value_type name) chunks, tt))

fields_plain : (fields : List (List ℕ × Value)) → AreGivenPlain 4 (map field_member fields)
fields_plain [] = tt
fields_plain (field ∷ rest) = (field_plain field.0 field.1, fields_plain rest)

-- the object of an entry has the date of depth 3 beside the fields of depth 5
three_five : {d : Data} → IsPlain 3 d → IsPlain 5 d
three_five {d} p = deeper d (omega arith) p

whole_plain : (entry : Entry) → IsPlain 6 (entry_object entry)
whole_plain entry =
    object_plain (entry_members entry) (
      leaf _ refl refl,
      (
        leaf _ refl refl,
        (
          object_plain (map field_member (entries entry.fields)) (fields_plain (entries entry.fields)),
          (mapped_plain date_json (entry_date entry) (λ d. three_five (date_plain d)), tt),
        ),
      ),
    )

-- no part of an entry's object is a float
pub entry_has_no_float : (entry : Entry) → has_float (entry_object entry) ≡ false
entry_has_no_float entry = (whole_plain entry).no_float

-- the depth of an entry's object is less than the greatest that is parsed
pub entry_is_shallow : (entry : Entry) → suc (depth (entry_object entry)) ≤ max_depth
entry_is_shallow entry = one_less (depth (entry_object entry)) (whole_plain entry).shallow
