-- Findings that are appended to others.
use Rattle.std.proofs.Common.{◌≡◌, ℕ, Bool, true, false, cond, List, [], ◌∷◌, ◌++◌, ◌+◌, ◌<◌, length, get_or, take, map, Result, Ok, Err, OnOk, refl, sym, ap, ◌∙◌, append_assoc, append-nil, subst, arith}
use Rattle.std.specs.Prelude.{codes, slice_get, Some}
use Rattle.std.specs.List.{All, filter}
use Rattle.std.proofs.lemmas.List.{map-append, take_more}
use Rattle.std.proofs.lemmas.List.Elements.{All-get_or, filter-append}
use Rattle.bib_text.specs.declared.spanned.Spanned.{Spanned}
use Rattle.bib_syntax.specs.Views.{entry_reading_of}
use Rattle.bib_syntax.specs.declared.raw.RawEntry.{RawEntry}
use Rattle.bib_findings.proofs.ListFacts.{get_mapped, more}
use Rattle.bib_tables.specs.declared.type_error.TypeError.{TypeError}
use Rattle.bib_entry.specs.Reports.{AreMalformed}
use Rattle.bib_entry.specs.declared.entry.Entry.{Entry}
use Rattle.bib_tables.specs.Requirements.{Names}
use Rattle.bib_syntax.specs.Reading.{EntryReading, FieldReading}
use Rattle.bib_findings.specs.Adding.{Adds}
use Rattle.bib_findings.specs.Entries.{AreOfEach, field_finding}
use Rattle.bib_findings.specs.Reported.{AreOfReport, is_reported_field, malformed_finding, malformed_findings, lacking_finding, report_findings, superfluous_fields}
use Rattle.bib_findings.specs.Types.{type_findings}
use Rattle.bib_findings.specs.Cuts.{whole_among}
use Rattle.bib_findings.specs.Definitions.{definition_findings}
use Rattle.bib_findings.specs.Duplicates.{duplicates, entries_at}
use Rattle.bib_findings.specs.Findings.{AreBetween, AreFindingsIn, AreOfEntry, AreOfKept, AreSortedByPlace, reading_findings, single_findings}
use Rattle.bib_findings.specs.Once.{once_findings}
use Rattle.bib_findings.specs.KeyCases.{case_findings}
use Rattle.bib_findings.specs.Lacking.{with_flags}
use Rattle.bib_findings.specs.ParentOrder.{early_findings}
use Rattle.bib_findings.specs.Stray.{stray_findings}
use Rattle.bib_findings.specs.References.{AreReferences}
use Rattle.bib_collections.specs.Sorted.{ByText}
use Rattle.bib_findings.specs.Errors.{block_finding, error_finding}
use Rattle.bib_syntax.specs.declared.raw.ParseError.{ParseError}
use Rattle.bib_syntax.specs.declared.raw.recovery.SkippedBlock.{SkippedBlock}
use Rattle.std.specs.Global.{Global}
use Rattle.std.specs.Prelude.{IfOk, Vec}
use Rattle.bib_findings.specs.Names.{misspelled_findings}
use Rattle.bib_findings.specs.declared.codes.Code.TheVariants.{SuperfluousField}
use Rattle.bib_findings.specs.declared.finding.Finding.{Finding}

-- the findings of the malformed fields up to an index are those of the fields before it and of the one at it
malformed_more : (said : EntryReading) (entry : Entry) (errors : List (List ℕ × TypeError)) (index : ℕ) (item : List ℕ × TypeError)
    → index < length errors → item ≡ get_or errors index item
    → malformed_findings said entry (take (index + 1) errors)
    ≡ malformed_findings said entry (take index errors) ++ malformed_findings said entry (item ∷ [])
malformed_more said entry errors index item within is =
    let reported : List ℕ × TypeError → Bool = λ e. is_reported_field said entry e.0 in
    ap (malformed_findings said entry) (take_more errors index item within ∙ ap (λ e. take index errors ++ e ∷ []) (sym is))
    ∙ ap (map (malformed_finding said entry)) (filter-append reported (take index errors) (item ∷ []))
    ∙ map-append (malformed_finding said entry) (filter reported (take index errors)) (filter reported (item ∷ []))

-- appending the finding of the next malformed field, if its error is reported, extends the findings of the first ones by it
pub reported_next : (said : EntryReading) (entry : Entry) (errors : List (List ℕ × TypeError)) (index : ℕ) (item : List ℕ × TypeError)
    (old mid new : List Finding) (finding : Finding) → index < length errors → item ≡ get_or errors index item
    → mid ≡ old ++ malformed_findings said entry (take index errors)
    → is_reported_field said entry item.0 ≡ true → new ≡ mid ++ finding ∷ [] → finding ≡ malformed_finding said entry item
    → new ≡ old ++ malformed_findings said entry (take (index + 1) errors)
reported_next said entry errors index item old mid new finding within is before reported more of_item =
    let one : malformed_findings said entry (item ∷ []) ≡ malformed_finding said entry item ∷ [] =
    ap (λ b. map (malformed_finding said entry) (cond b (item ∷ []) [])) reported in
    more ∙ ap (λ l. l ++ finding ∷ []) before ∙ append_assoc old (malformed_findings said entry (take index errors)) (finding ∷ [])
    ∙ ap (λ f. old ++ (malformed_findings said entry (take index errors) ++ f ∷ [])) of_item
    ∙ ap (λ l. old ++ (malformed_findings said entry (take index errors) ++ l)) (sym one)
    ∙ ap (λ l. old ++ l) (sym (malformed_more said entry errors index item within is))

-- if the error of the next malformed field isn't reported, the findings of the first ones are also those up to it
pub unreported_next : (said : EntryReading) (entry : Entry) (errors : List (List ℕ × TypeError)) (index : ℕ) (item : List ℕ × TypeError)
    (old mid : List Finding) → index < length errors → item ≡ get_or errors index item
    → mid ≡ old ++ malformed_findings said entry (take index errors)
    → is_reported_field said entry item.0 ≡ false → mid ≡ old ++ malformed_findings said entry (take (index + 1) errors)
unreported_next said entry errors index item old mid within is before unreported =
    let none : malformed_findings said entry (item ∷ []) ≡ [] =
    ap (λ b. map (malformed_finding said entry) (cond b (item ∷ []) [])) unreported in
    before
    ∙ ap (λ l. old ++ l) (sym (append-nil (malformed_findings said entry (take index errors))))
    ∙ ap (λ l. old ++ (malformed_findings said entry (take index errors) ++ l)) (sym none)
    ∙ ap (λ l. old ++ l) (sym (malformed_more said entry errors index item within is))

-- appending three lists in turn appends their concatenation
added_thrice : (old one two new a b c : List Finding) → one ≡ old ++ a → two ≡ one ++ b → new ≡ two ++ c → new ≡ old ++ (a ++ (b ++ c))
added_thrice old one two new a b c first second third =
    third ∙ ap (λ l. l ++ c) (second ∙ ap (λ l. l ++ b) first) ∙ append_assoc (old ++ a) b c ∙ append_assoc old a (b ++ c)

-- appending four lists in turn appends their concatenation
pub added_four_times : (old one two three new a b c d : List Finding) → one ≡ old ++ a → two ≡ one ++ b → three ≡ two ++ c
    → new ≡ three ++ d → new ≡ old ++ (a ++ (b ++ (c ++ d)))
added_four_times old one two three new a b c d first second third fourth =
    added_thrice one two three new b c d second third fourth ∙ ap (λ l. l ++ (b ++ (c ++ d))) first
    ∙ append_assoc old a (b ++ (c ++ d))

-- the findings of the three parts of a report
abbrev parts : EntryReading → Entry → Names → Names → List (List ℕ × TypeError) → List Finding
parts said entry missing superfluous errors =
    map (lacking_finding said) missing
    ++ (map (field_finding said SuperfluousField (codes "superfluous")) superfluous ++ malformed_findings said entry errors)

-- appending the findings of the three parts of a report adds the findings of the report
pub report_added : {E U : Type 0} (said : EntryReading) (entry : Entry) (missing : Names)
    (errors listed : List (List ℕ × TypeError)) (old one two new : List Finding) (r : Result U E)
    → errors ≡ listed → AreMalformed entry listed
    → one ≡ old ++ map (lacking_finding said) missing
    → two ≡ one ++ map (field_finding said SuperfluousField (codes "superfluous")) (superfluous_fields entry)
    → OnOk r (new ≡ two ++ malformed_findings said entry errors) → OnOk r (Adds (AreOfReport missing said entry) old new)
report_added said entry missing errors listed old one two new (Ok u) same_errors malformed first second third = record {
  added = report_findings missing said entry listed;
  are = record { errors = listed; malformed = malformed; are = refl };
  new_is =
      added_thrice old one two new _ _ _ first second third
      ∙ ap (λ all. old ++ parts said entry missing (superfluous_fields entry) all) same_errors;
}
report_added said entry missing errors listed old one two new (Err x) same_errors malformed first second third = tt

-- appending the findings of the type, the report, the misspelled fields and the single fields of an entry in turn adds the findings of the
-- entry
pub entry_added : {E U : Type 0} (missing : Names) (said : EntryReading) (entry : Entry) (old one two three new : List Finding)
    (r : Result U E)
    → one ≡ old ++ type_findings said → Adds (AreOfReport missing said entry) one two → three ≡ two ++ misspelled_findings said
    → OnOk r (new ≡ three ++ single_findings missing said entry) → OnOk r (Adds (AreOfEntry missing said entry) old new)
entry_added missing said entry old one two three new (Ok u) first second third fourth = record {
  added = type_findings said ++ (second.added ++ (misspelled_findings said ++ single_findings missing said entry));
  are = record { of_report = second.added; report = second.are; are = refl };
  new_is =
      added_four_times old one two three new (type_findings said) second.added (misspelled_findings said)
      (single_findings missing said entry) first second.new_is third fourth;
}
entry_added missing said entry old one two three new (Err x) first second third fourth = tt

-- the findings of entries, followed by those of one more entry, are the findings of all of them
each_more : {A : Type 0} (Are : EntryReading → A → List Finding → Type 0) (said : List EntryReading) (indices : List ℕ)
    (entries : List A) (found : List Finding) (index : ℕ) (one : EntryReading) (entry : A)
    (more : List Finding)
    → AreOfEach Are said indices entries found → slice_get said index ≡ Some one → Are one entry more
    → AreOfEach Are said (indices ++ index ∷ []) (entries ++ entry ∷ []) (found ++ more)
each_more Are said _ _ _ index one entry more AreOfEach.none there are =
    subst (AreOfEach Are said (index ∷ []) (entry ∷ [])) (append-nil more) (AreOfEach.next there are AreOfEach.none)
each_more Are said _ _ _ index one entry more
    (AreOfEach.next {indices = indices} {entries = entries} {first = first} {rest = rest} here its following) there
    are =
    subst (AreOfEach Are said _ _) (sym (append_assoc first rest more))
    (AreOfEach.next here its (each_more Are said indices entries rest index one entry more following there are))

-- adding the findings of entries and then those of one more entry adds the findings of all of them
pub each_next : {A : Type 0} (Are : EntryReading → A → List Finding → Type 0) (said : List EntryReading) (indices : List ℕ)
    (entries : List A) (old mid new : List Finding) (index : ℕ) (one : EntryReading) (entry : A)
    → Adds (AreOfEach Are said indices entries) old mid → slice_get said index ≡ Some one → Adds (Are one entry) mid new
    → Adds (AreOfEach Are said (indices ++ index ∷ []) (entries ++ entry ∷ [])) old new
each_next Are said indices entries old mid new index one entry before there more = record {
  added = before.added ++ more.added;
  are = each_more Are said indices entries before.added index one entry more.added before.are there more.are;
  new_is = more.new_is ∙ ap (λ l. l ++ more.added) before.new_is ∙ append_assoc old before.added more.added;
}

-- for no entries, nothing is added
pub each_none : {A : Type 0} (Are : EntryReading → A → List Finding → Type 0) (said : List EntryReading) (old : List Finding)
    → Adds (AreOfEach Are said [] []) old old
each_none Are said old = record { added = []; are = AreOfEach.none; new_is = sym (append-nil old) }

-- adding the findings of the entry at `index` extends those of the entries before it
pub each_at : {A : Type 0} (Are : EntryReading → A → List Finding → Type 0) (said : List (Spanned RawEntry)) (origins : List ℕ)
    (entries : List A) (index : ℕ) (one : Spanned RawEntry) (entry : A) (old mid new : List Finding)
    → All (λ i. i < length said) origins → length origins ≡ length entries → index < length entries
    → one ≡ get_or said (get_or origins index 0) one → entry ≡ get_or entries index entry
    → Adds (AreOfEach Are (map entry_reading_of said) (take index origins) (take index entries)) old mid
    → Adds (Are (entry_reading_of one) entry) mid new
    → Adds (AreOfEach Are (map entry_reading_of said) (take (index + 1) origins) (take (index + 1) entries)) old new
each_at {A} Are said origins entries index one entry old mid new there same within one_is entry_is before added =
    let inside : index < length origins = omega (arith, same) in
    let origin : ℕ = get_or origins index 0 in
    let here : slice_get (map entry_reading_of said) origin ≡ Some (entry_reading_of one) =
    get_mapped entry_reading_of said origin one (All-get_or (λ i. i < length said) origins index 0 inside there)
    ∙ ap (λ e. Some (entry_reading_of e)) (sym one_is) in
    let P : List ℕ → List A → Type 0 = λ is es. Adds (AreOfEach Are (map entry_reading_of said) is es) old new in
    subst (λ is. P is (take (index + 1) entries)) (sym (take_more origins index 0 inside))
    (subst (λ es. P (take index origins ++ origin ∷ []) es) (sym (more entries index entry within entry_is))
    (each_next Are (map entry_reading_of said) (take index origins) (take index entries) old mid new origin
    (entry_reading_of one) entry before here added))

-- appending findings that satisfy `Are` adds such findings
pub added_known : (Are : List Finding → Type 0) (known old new : List Finding) → Are known → new ≡ old ++ known → Adds Are old new
added_known Are known old new are is = record { added = known; are = are; new_is = is }

-- appending four lists in turn to an empty list makes their concatenation
pub added_in_order : (none one two three new a b c d : List Finding) → none ≡ [] → one ≡ none ++ a → two ≡ one ++ b
    → three ≡ two ++ c → new ≡ three ++ d
    → new ≡ a ++ (b ++ (c ++ d))
added_in_order none one two three new a b c d empty first second third fourth =
    let start : one ≡ a = first ∙ ap (λ l. l ++ a) empty in
    added_thrice one two three new b c d second third fourth ∙ ap (λ l. l ++ (b ++ (c ++ d))) start

-- appending four lists in turn to the concatenation of four lists makes the concatenation of all eight
joined_in_order : (a b c d e f g h : List Finding)
    → ((((a ++ (b ++ (c ++ d))) ++ e) ++ f) ++ g) ++ h ≡ a ++ (b ++ (c ++ (d ++ (e ++ (f ++ (g ++ h))))))
joined_in_order a b c d e f g h = simp append_assoc

-- the findings of references, likely duplicates, stray fields, keys, parents, names that are reported once, definitions and text that is
-- read otherwise, appended in turn to an empty list, are those between entries
pub between_are : (text ends : List ℕ) (skipped : List SkippedBlock) (names : ByText ℕ) (said : List EntryReading) (origins : List ℕ)
    (own : List Entry) (definitions : List FieldReading) (whole : List EntryReading)
    (none one two three four five six seven new : List Finding)
    → whole ≡ whole_among skipped (entries_at said origins)
    → none ≡ [] → Adds (AreOfEach (AreReferences names) said origins own) none one → two ≡ one ++ duplicates whole
    → three ≡ two ++ stray_findings text whole → four ≡ three ++ case_findings (entries_at said origins)
    → five ≡ four ++ early_findings (entries_at said origins) → six ≡ five ++ once_findings ends (entries_at said origins)
    → seven ≡ six ++ definition_findings definitions
    → new ≡ seven ++ reading_findings text (entries_at said origins) definitions
    → AreBetween text ends skipped names said origins own definitions new
between_are text ends skipped names said origins own definitions whole none one two three four five six seven new are_whole empty
    references alike strays cases early once defined readings = record {
      of_keys = references.added;
      keys = references.are;
      are =
          readings
          ∙ ap (λ l. l ++ last) defined
          ∙ ap (λ l. (l ++ again) ++ last) once
          ∙ ap (λ l. ((l ++ once_findings ends entries) ++ again) ++ last) early
          ∙ ap (λ l. (((l ++ early_findings entries) ++ once_findings ends entries) ++ again) ++ last)
          (added_in_order none one two three four references.added (duplicates whole) (stray_findings text whole) (case_findings entries)
          empty references.new_is alike strays cases)
          ∙ joined_in_order references.added (duplicates whole) (stray_findings text whole) (case_findings entries) (early_findings entries)
          (once_findings ends entries) again last
          ∙ ap
          (λ l.
          references.added
          ++ (duplicates l
          ++ (stray_findings text l
          ++ (case_findings entries ++ (early_findings entries ++ (once_findings ends entries ++ (again ++ last)))))))
          are_whole;
    } where
      entries : List EntryReading
      entries = entries_at said origins

      again : List Finding
      again = definition_findings definitions

      last : List Finding
      last = reading_findings text entries definitions

-- the sorted findings of all parts are the findings of the recovered file
pub sorted_are : {E : Type 0} (text : List ℕ) (skipped : List SkippedBlock) (lacking : List Bool) (definitions : List FieldReading)
    (errors : List ParseError) (said : List EntryReading) (origins : List ℕ) (entries : List Entry) (between of_entries all : List Finding)
    (r : Result (Vec Finding Global) E)
    → AreOfEach AreOfKept said origins (with_flags lacking entries) of_entries
    → all ≡ map (block_finding text said) skipped ++ (map (error_finding definitions) errors ++ (of_entries ++ between))
    → IfOk r (λ sorted. AreSortedByPlace all sorted.items)
    → IfOk r (λ found. AreFindingsIn text skipped lacking definitions errors said origins entries between found.items)
sorted_are text skipped lacking definitions errors said origins entries between of_entries all (Ok found) reports are sorted = record {
  of_entries = of_entries;
  reports = reports;
  sorted = subst (λ l. AreSortedByPlace l found.items) are sorted;
}
sorted_are text skipped lacking definitions errors said origins entries between of_entries all (Err e) reports are sorted = tt
