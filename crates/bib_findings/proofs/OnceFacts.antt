-- The findings of names that are reported once in a file.
use Rattle.std.proofs.Common.{◌≡◌, ℕ, true, false, not, ◌&&◌, ◌||◌, Bool, List, [], ◌∷◌, ◌++◌, ◌+◌, ◌<◌, ◌≤◌, length, get_or, map, take, Some, refl, sym, ap, ◌∙◌, append_assoc, append-nil, subst, cond}
use Rattle.std.specs.Prelude.{slice_get}
use Rattle.std.specs.List.{All, filter}
use Rattle.std.proofs.lemmas.Grind.{flat_map-append}
use Rattle.std.proofs.lemmas.List.{map-append, map_more, take_all, take_more}
use Rattle.std.proofs.lemmas.List.Elements.{All-get_or, filter-append}
use Rattle.bib_text.specs.declared.spanned.Spanned.{Spanned}
use Rattle.bib_syntax.specs.Reading.{EntryReading, FieldReading, Part}
use Rattle.bib_syntax.specs.Views.{entry_reading_of, field_of, part_of}
use Rattle.bib_syntax.specs.declared.raw.Pair.{Pair}
use Rattle.bib_syntax.specs.declared.raw.RawEntry.{RawEntry}
use Rattle.bib_findings.specs.Counted.{ArePartsCounted, CountsMore, counted_of}
use Rattle.bib_findings.specs.Duplicates.{entries_at}
use Rattle.bib_findings.specs.Foreign.{is_foreign}
use Rattle.bib_findings.specs.Names.{has_suggestion, is_unknown_field}
use Rattle.bib_findings.specs.Types.{has_type_suggestion, is_known_type}
use Rattle.bib_findings.specs.Once.{count_of, fields_once, fields_once_of, first_parts, is_field_once, is_type_once, once_each, types_once}
use Rattle.bib_findings.specs.declared.finding.Finding.{Finding}
use Rattle.bib_findings.specs.declared.once.Counted.{Counted}
use Rattle.std.proofs.Math.Bool.{and-false}
use Rattle.bib_findings.proofs.ListFacts.{get_mapped, given_more}

-- those names of the fields of an entry with this type that are reported once in a file
abbrev pub once_of : List ℕ → List Pair → List Part
once_of kind fields = filter (λ p. is_field_once kind p.text) (map (λ f. f.name) (map field_of fields))

-- counting no part leaves the counts as they are
pub counts_none : (counted : List Counted) → CountsMore [] counted counted
counts_none counted parts are = subst (ArePartsCounted counted) (sym (append-nil parts)) are

-- counting parts and then others counts both
counts_both : (first second : List Part) (old mid new : List Counted) → CountsMore first old mid → CountsMore second mid new
    → CountsMore (first ++ second) old new
counts_both first second old mid new before later parts are =
    subst (ArePartsCounted new) (append_assoc parts first second) (later (parts ++ first) (before parts are))

-- those names up to an index are those before it, and then the name at it if it is one of them
once_next : (kind : List ℕ) (fields : List Pair) (index : ℕ) (field : Pair) → index < length fields → field ≡ get_or fields index field
    → once_of kind (take (index + 1) fields) ≡ once_of kind (take index fields) ++ once_of kind (field ∷ [])
once_next kind fields index field within is =
    ap (once_of kind) (take_more fields index field within ∙ ap (λ one. take index fields ++ one ∷ []) (sym is))
    ∙ ap (λ l. filter (λ p. is_field_once kind p.text) (map (λ f. f.name) l)) (map-append field_of (take index fields) (field ∷ []))
    ∙ ap (filter (λ p. is_field_once kind p.text)) (map-append (λ (f : FieldReading). f.name) (map field_of (take index fields)) _)
    ∙ filter-append (λ p. is_field_once kind p.text) (map (λ f. f.name) (map field_of (take index fields))) _

-- if those names before the next field are counted, and then the name of this field, which is one of them, those up to it are counted
pub counted_next : (kind : List ℕ) (fields : List Pair) (index : ℕ) (field : Pair) (old mid new : List Counted) → index < length fields
    → field ≡ get_or fields index field → is_field_once kind field.key.v.now ≡ true
    → CountsMore (once_of kind (take index fields)) old mid → CountsMore (part_of field.key ∷ []) mid new
    → CountsMore (once_of kind (take (index + 1) fields)) old new
counted_next kind fields index field old mid new within is named before later =
    let one : once_of kind (field ∷ []) ≡ part_of field.key ∷ [] = ap (λ b. cond b (part_of field.key ∷ []) []) named in
    subst (λ l. CountsMore l old new)
    (sym (once_next kind fields index field within is ∙ ap (λ l. once_of kind (take index fields) ++ l) one))
    (counts_both (once_of kind (take index fields)) (part_of field.key ∷ []) old mid new before later)

-- if those names before the next field are counted, and the name of this field is none of them, those up to it are counted
pub counted_same : (kind : List ℕ) (fields : List Pair) (index : ℕ) (field : Pair) (old new : List Counted) → index < length fields
    → field ≡ get_or fields index field → is_field_once kind field.key.v.now ≡ false
    → CountsMore (once_of kind (take index fields)) old new → CountsMore (once_of kind (take (index + 1) fields)) old new
counted_same kind fields index field old new within is other before =
    let none : once_of kind (field ∷ []) ≡ [] = ap (λ b. cond b (part_of field.key ∷ []) []) other in
    subst (λ l. CountsMore l old new)
    (sym
    (once_next kind fields index field within is ∙ ap (λ l. once_of kind (take index fields) ++ l) none
    ∙ append-nil (once_of kind (take index fields)))) before

-- after the last field of an entry, those names of its fields are counted
pub counted_entry : (said : Spanned RawEntry) (fields : List Pair) (index : ℕ) (old new : List Counted) → fields ≡ said.v.fields.items
    → length fields ≤ index → CountsMore (once_of said.v.kind.v.now (take index fields)) old new
    → CountsMore (fields_once (entry_reading_of said ∷ [])) old new
counted_entry said fields index old new is end before =
    subst (λ l. CountsMore l old new)
    (ap (once_of said.v.kind.v.now) (take_all index fields end ∙ is)
    ∙ sym (append-nil (once_of said.v.kind.v.now said.v.fields.items))) before

-- the type of an entry is counted if it is reported once
pub type_counted : (said : Spanned RawEntry) (old new : List Counted) → is_type_once said.v.kind.v.now ≡ true
    → CountsMore (part_of said.v.kind ∷ []) old new → CountsMore (types_once (entry_reading_of said ∷ [])) old new
type_counted said old new once counted =
    subst (λ l. CountsMore l old new) (sym (ap (λ b. cond b (part_of said.v.kind ∷ []) []) once)) counted

-- any other type isn't counted
pub type_left : (said : Spanned RawEntry) (old : List Counted) → is_type_once said.v.kind.v.now ≡ false
    → CountsMore (types_once (entry_reading_of said ∷ [])) old old
type_left said old other =
    subst (λ l. CountsMore l old old) (sym (ap (λ b. cond b (part_of said.v.kind ∷ []) []) other)) (counts_none old)

-- a field of another program is reported once
pub foreign_once : (kind name : List ℕ) → is_foreign name ≡ true → true ≡ is_field_once kind name
foreign_once kind name foreign =
    sym (ap (λ b. b || (is_known_type kind && (is_unknown_field name && not (has_suggestion name)))) foreign)

-- a known field isn't
pub known_once : (kind name : List ℕ) → is_foreign name ≡ false → is_unknown_field name ≡ false → false ≡ is_field_once kind name
known_once kind name other known =
    sym
    (ap (λ b. b || (is_known_type kind && (is_unknown_field name && not (has_suggestion name)))) other
    ∙ ap (λ b. is_known_type kind && (b && not (has_suggestion name))) known ∙ and-false (is_known_type kind))

-- an unknown field is if the type of its entry is known and there is no suggestion
pub unknown_once : (kind name : List ℕ) (has suggested : Bool) → is_known_type kind ≡ has → is_foreign name ≡ false
    → is_unknown_field name ≡ true → has_suggestion name ≡ suggested → (has && not suggested) ≡ is_field_once kind name
unknown_once kind name has suggested is other unknown says =
    sym
    (ap (λ b. b || (is_known_type kind && (is_unknown_field name && not (has_suggestion name)))) other
    ∙ ap (λ b. is_known_type kind && (b && not (has_suggestion name))) unknown ∙ ap (λ b. is_known_type kind && not b) says
    ∙ ap (λ b. b && not suggested) is)

-- a known type isn't reported once
pub known_type_once : (kind : List ℕ) → is_known_type kind ≡ true → is_type_once kind ≡ false
known_type_once kind known = ap (λ b. not b && not (has_type_suggestion kind)) known

-- an unknown type is if there is no suggestion
pub unknown_type_once : (kind : List ℕ) (suggested : Bool) → is_known_type kind ≡ false → has_type_suggestion kind ≡ suggested
    → is_type_once kind ≡ not suggested
unknown_type_once kind suggested unknown has = ap (λ b. not b && not (has_type_suggestion kind)) unknown ∙ ap not has

-- the entries at the first indices and at the next one
entries_more : (said : List (Spanned RawEntry)) (origins : List ℕ) (index : ℕ) (one : Spanned RawEntry)
    → All (λ i. i < length said) origins → index < length origins → one ≡ get_or said (get_or origins index 0) one
    → entries_at (map entry_reading_of said) (take (index + 1) origins)
    ≡ entries_at (map entry_reading_of said) (take index origins) ++ entry_reading_of one ∷ []
entries_more said origins index one there within is =
    let readings : List EntryReading = map entry_reading_of said in
    let at : ℕ = get_or origins index 0 in
    let here : slice_get readings at ≡ Some (entry_reading_of one) =
    get_mapped entry_reading_of said at one (All-get_or (λ i. i < length said) origins index 0 within there)
    ∙ ap (λ e. Some (entry_reading_of e)) (sym is) in
    ap (entries_at readings) (take_more origins index 0 within)
    ∙ given_more (slice_get readings) (take index origins) at (entry_reading_of one) here

-- if those names of the fields of the first entries are counted, and then those of the next one, those of the entries up to it are counted
pub fields_counted : (said : List (Spanned RawEntry)) (origins : List ℕ) (index : ℕ) (one : Spanned RawEntry) (old new : List Counted)
    → All (λ i. i < length said) origins → index < length origins → one ≡ get_or said (get_or origins index 0) one
    → ArePartsCounted old (fields_once (entries_at (map entry_reading_of said) (take index origins)))
    → CountsMore (fields_once (entry_reading_of one ∷ [])) old new
    → ArePartsCounted new (fields_once (entries_at (map entry_reading_of said) (take (index + 1) origins)))
fields_counted said origins index one old new there within is before later =
    let earlier : List EntryReading = entries_at (map entry_reading_of said) (take index origins) in
    subst (ArePartsCounted new)
    (sym
    (ap fields_once (entries_more said origins index one there within is)
    ∙ flat_map-append fields_once_of earlier (entry_reading_of one ∷ [])))
    (later (fields_once earlier) before)

-- the same for the types of the entries
pub types_counted : (said : List (Spanned RawEntry)) (origins : List ℕ) (index : ℕ) (one : Spanned RawEntry) (old new : List Counted)
    → All (λ i. i < length said) origins → index < length origins → one ≡ get_or said (get_or origins index 0) one
    → ArePartsCounted old (types_once (entries_at (map entry_reading_of said) (take index origins)))
    → CountsMore (types_once (entry_reading_of one ∷ [])) old new
    → ArePartsCounted new (types_once (entries_at (map entry_reading_of said) (take (index + 1) origins)))
types_counted said origins index one old new there within is before later =
    let earlier : List EntryReading = entries_at (map entry_reading_of said) (take index origins) in
    subst (ArePartsCounted new)
    (sym
    (ap types_once (entries_more said origins index one there within is)
    ∙ ap (filter (λ p. is_type_once p.text)) (map-append (λ (e : EntryReading). e.kind) earlier (entry_reading_of one ∷ []))
    ∙ filter-append (λ p. is_type_once p.text) (map (λ e. e.kind) earlier) _))
    (later (types_once earlier) before)

-- the count of nothing
abbrev pub no_count : Counted
no_count = record {
  first = record { ref_ptr = (0, 0); now = record { v = record { ref_ptr = (0, 0); now = [] }; span = record { start = 0; end = 0 } } };
  count = 0;
}

-- the finding of a count
abbrev pub found_of : (Part → ℕ → Finding) → Counted → Finding
found_of finding c = finding (part_of c.first.now) c.count

-- the findings of parts are those of their counts
counts_found : (finding : Part → ℕ → Finding) (all parts : List Part)
    → map (λ (c : Part × ℕ). finding c.0 c.1) (map (count_of all) parts) ≡ map (λ p. finding p (count_of all p).1) parts
counts_found finding all [] = refl
counts_found finding all (p ∷ parts) = ap (λ l. finding p (count_of all p).1 ∷ l) (counts_found finding all parts)

-- mapping counts to findings is mapping them to pairs, and these to findings
pairs_found : (finding : Part → ℕ → Finding) (counted : List Counted)
    → map (found_of finding) counted ≡ map (λ (c : Part × ℕ). finding c.0 c.1) (map counted_of counted)
pairs_found finding [] = refl
pairs_found finding (c ∷ counted) = ap (λ l. found_of finding c ∷ l) (pairs_found finding counted)

-- the findings made from the counts of parts are one for each text of the parts
pub findings_of_counts : (finding : Part → ℕ → Finding) (parts : List Part) (counted : List Counted) → ArePartsCounted counted parts
    → map (found_of finding) counted ≡ once_each finding parts
findings_of_counts finding parts counted are =
    pairs_found finding counted ∙ ap (map (λ (c : Part × ℕ). finding c.0 c.1)) are ∙ counts_found finding parts (first_parts parts)

-- appending the finding of the next count extends the findings of the counts before it
pub finding_next : (finding : Part → ℕ → Finding) (counted : List Counted) (index : ℕ) (old mid new : List Finding) (found : Finding)
    → index < length counted → mid ≡ old ++ map (found_of finding) (take index counted) → new ≡ mid ++ found ∷ []
    → found ≡ found_of finding (get_or counted index no_count) → new ≡ old ++ map (found_of finding) (take (index + 1) counted)
finding_next finding counted index old mid new found within before appended of_one =
    appended ∙ ap (λ l. l ++ found ∷ []) before ∙ append_assoc old (map (found_of finding) (take index counted)) (found ∷ [])
    ∙ ap (λ x. old ++ (map (found_of finding) (take index counted) ++ x ∷ [])) of_one
    ∙ ap (λ l. old ++ l) (sym (map_more (found_of finding) counted index no_count within))
