-- Marks as they are noted in a map, and the entries that are chosen by them.
use Rattle.std.proofs.Common.{◌≡◌, ℕ, Bool, true, false, List, [], ◌∷◌, ◌++◌, ◌+◌, ◌<◌, ◌≤◌, ◌||◌, length, map, Some, None, refl, sym, ap, ◌∙◌, append_assoc, append-nil, subst, arith, cond, suc, nat_eq, get_or, take, Result, Ok, Err, OnOk, IfOk}
use Rattle.std.specs.Prelude.{count_by, is_some, nat_lt, unwrap_or}
use Rattle.std.specs.List.{All, cons_option, filter, flat_map, list_any}
use Rattle.std.specs.BTreeMap.{BTreeMap, IsEmpty, Updates, get, is_at}
use Rattle.std.specs.Ordering.{nat_cmp}
use Rattle.std.proofs.lemmas.Bool.Decides.{nat_tests}
use Rattle.std.proofs.lemmas.Grind.{flat_map-append}
use Rattle.std.proofs.lemmas.List.Elements.{All-cons, All-head, All-nil, All-tail}
use Rattle.std.proofs.lemmas.List.{length-map, length-take-le, take_more}
use Rattle.std.proofs.lemmas.List.Folds.{list_any-append}
use Rattle.std.proofs.lemmas.Bool.{or_right, or_left}
use Rattle.bib_syntax.specs.Reading.{EntryReading}
use Rattle.bib_syntax.specs.Views.{entry_reading_of}
use Rattle.bib_syntax.specs.declared.raw.RawEntry.{RawEntry}
use Rattle.bib_text.specs.declared.spanned.Spanned.{Spanned}
use Rattle.bib_text.proofs.ListFacts.{element_at, count_none, count_more}
use Rattle.bib_dates.specs.OrderLaws.{nat_is}
use Rattle.bib_findings.specs.Duplicates.{entries_at}
use Rattle.bib_findings.specs.Marks.{AreMetMarks, chosen, has_repeated, is_repeated, listed, listed_all, marks_of, met_mark}
use Rattle.bib_findings.specs.declared.marks.Marks.{Marks}
use Rattle.bib_findings.proofs.SharedFacts.{same_number}
use Rattle.bib_findings.proofs.MarkFacts.{any_counts}

-- the marks of each entry, listed, are all marks of the entries
pub listed_marks : (entries : List EntryReading) → flat_map listed (map marks_of entries) ≡ listed_all entries
listed_marks [] = refl
listed_marks (said ∷ entries) = ap (λ l. listed (marks_of said) ++ l) (listed_marks entries)

-- the selection of one more index appends this index if its entry has a mark that occurs more than once
pub chosen_more : (all : List ℕ) (marks : List Marks) (indices : List ℕ) (one : Marks) (index : ℕ) → length marks ≡ length indices
    → chosen all (marks ++ one ∷ []) (indices ++ index ∷ []) ≡ chosen all marks indices ++ cond (has_repeated all one) (index ∷ []) []
chosen_more all [] [] one index same = refl
chosen_more all [] (other ∷ indices) one index same = absurd (omega (arith, same))
chosen_more all (first ∷ marks) [] one index same = absurd (omega (arith, same))
chosen_more all (first ∷ marks) (other ∷ indices) one index same =
    ap (λ l. cond (has_repeated all first) (other ∷ l) l) (chosen_more all marks indices one index (omega (arith, same)))
    ∙ elim (has_repeated all first) as
    (λ b.
    cond b (other ∷ (chosen all marks indices ++ cond (has_repeated all one) (index ∷ []) []))
    (chosen all marks indices ++ cond (has_repeated all one) (index ∷ []) [])
    ≡ cond b (other ∷ chosen all marks indices) (chosen all marks indices)
    ++ cond (has_repeated all one) (index ∷ []) [])
    [ true ↦ refl | false ↦ refl ]

-- if indices are in range, the entries at the selected ones are those that have a mark that occurs more than once
pub chosen_entries : (all : List ℕ) (said : List EntryReading) (indices : List ℕ) → All (λ index. index < length said) indices
    → entries_at said (chosen all (map marks_of (entries_at said indices)) indices)
    ≡ filter (λ one. has_repeated all (marks_of one)) (entries_at said indices)
chosen_entries all said [] there = refl
chosen_entries all said (index ∷ indices) there =
    let one = element_at said index (All-head (λ i. i < length said) index indices there) in
    let later_there : All (λ i. i < length said) indices = All-tail (λ i. i < length said) index indices there in
    let rest : List EntryReading = entries_at said indices in
    let later : List ℕ = chosen all (map marks_of rest) indices in
    let keep : EntryReading → Bool = λ e. has_repeated all (marks_of e) in
    ap (λ o. entries_at said (chosen all (map marks_of (cons_option o rest)) (index ∷ indices))) one.1
    ∙ elim (keep one.0) as (λ b. entries_at said (cond b (index ∷ later) later) ≡ cond b (one.0 ∷ filter keep rest) (filter keep rest)) [
      | true ↦ ap (λ o. cons_option o (entries_at said later)) one.1
          ∙ ap (λ l. one.0 ∷ l) (chosen_entries all said indices later_there)
      | false ↦ chosen_entries all said indices
          later_there
    ]
    ∙ sym (ap (λ o. filter keep (cons_option o rest)) one.1)

-- selected indices are in range
pub chosen_within : (all : List ℕ) (marks : List Marks) (count : ℕ) (indices : List ℕ)
    → All (λ index. index < count) indices → All (λ index. index < count) (chosen all marks indices)
chosen_within all [] count indices there = All-nil (λ i. i < count)
chosen_within all (one ∷ marks) count [] there = All-nil (λ i. i < count)
chosen_within all (one ∷ marks) count (index ∷ indices) there =
    let later : All (λ i. i < count) (chosen all marks indices) =
    chosen_within all marks count indices (All-tail (λ i. i < count) index indices there) in
    elim (has_repeated all one) as (λ b. All (λ i. i < count) (cond b (index ∷ chosen all marks indices) (chosen all marks indices))) [
      | true ↦ All-cons (λ i. i < count) index (chosen all marks indices) (All-head (λ i. i < count) index indices there)
          later
      | false ↦ later
    ]

-- an appended mark occurs more than once exactly if it occurred before
repeated_more : (all : List ℕ) (one : ℕ) → is_repeated (all ++ one ∷ []) one ≡ list_any (nat_eq one) all
repeated_more all one =
    let counts : count_by (nat_eq one) (all ++ one ∷ []) ≡ count_by (nat_eq one) all + cond (nat_eq one one) 1 0 =
    count_more (nat_eq one) all one in
    let here : ◌≡◌ {A = ℕ} (cond (nat_eq one one) 1 0) 1 = ap (λ b. cond b 1 0) (same_number one) in
    by (list_any (nat_eq one) all) refl
    (let one_more : count_by (nat_eq one) (all ++ one ∷ []) ≡ count_by (nat_eq one) all + 1 =
    omega (arith, counts, here) in
    one_more) (any_counts one all) (none_counts one all)
  where
    none_counts : (one : ℕ) (all : List ℕ) → list_any (nat_eq one) all ≡ false → count_by (nat_eq one) all ≡ 0
    none_counts one all none = count_none (nat_eq one) all none

    by : (there : Bool) → list_any (nat_eq one) all ≡ there
        → count_by (nat_eq one) (all ++ one ∷ []) ≡ count_by (nat_eq one) all + 1
        → (list_any (nat_eq one) all ≡ true → 1 ≤ count_by (nat_eq one) all)
        → (list_any (nat_eq one) all ≡ false → count_by (nat_eq one) all ≡ 0)
        → is_repeated (all ++ one ∷ []) one ≡ list_any (nat_eq one) all
    by true is counts some none =
        (let more : 1 < count_by (nat_eq one) (all ++ one ∷ []) = omega (arith, counts, some is) in
        let r : is_repeated (all ++ one ∷ []) one ≡ true = grind (arith, nat_tests, more) in r) ∙ sym is
    by false is counts some none =
        (let less : count_by (nat_eq one) (all ++ one ∷ []) ≡ 1 = omega (arith, counts, none is) in
        let r : is_repeated (all ++ one ∷ []) one ≡ false = grind (arith, nat_tests, less) in r) ∙ sym is

is_some_times : (there repeated : Bool) → is_some (cond there (Some repeated) None) ≡ there
is_some_times true repeated = refl
is_some_times false repeated = refl

times_here : (all : List ℕ) (one : ℕ) (is_there : Bool) → is_there ≡ list_any (nat_eq one) all
    → Some is_there ≡ met_mark (all ++ one ∷ []) one
times_here all one is_there is =
    let there : list_any (nat_eq one) (all ++ one ∷ []) ≡ true =
    list_any-append (nat_eq one) all (one ∷ [])
    ∙ or_right (list_any (nat_eq one) all) (nat_eq one one || false)
    (or_left (nat_eq one one) false (same_number one)) in
    ap Some (is ∙ sym (repeated_more all one)) ∙ sym (ap (λ b. cond b (Some (is_repeated (all ++ one ∷ []) one)) None) there)

or_none : (p : Bool) → (p || (false || false)) ≡ p
or_none true = refl
or_none false = refl

times_other : (all : List ℕ) (one other : ℕ) → nat_eq other one ≡ false → met_mark (all ++ one ∷ []) other ≡ met_mark all other
times_other all one other differs =
    let there : list_any (nat_eq other) (all ++ one ∷ []) ≡ list_any (nat_eq other) all =
    list_any-append (nat_eq other) all (one ∷ []) ∙ ap (λ b. list_any (nat_eq other) all || (b || false)) differs
    ∙ or_none (list_any (nat_eq other) all) in
    let sum : count_by (nat_eq other) (all ++ one ∷ []) ≡ count_by (nat_eq other) all + cond (nat_eq other one) 1 0 =
    count_more (nat_eq other) all one in
    let none : ◌≡◌ {A = ℕ} (cond (nat_eq other one) 1 0) 0 = ap (λ b. cond b 1 0) differs in
    let counts : count_by (nat_eq other) (all ++ one ∷ []) ≡ count_by (nat_eq other) all = omega (arith, sum, none) in
    ap (λ b. cond b (Some (is_repeated (all ++ one ∷ []) other)) None) there
    ∙ ap (λ n. cond (list_any (nat_eq other) all) (Some (nat_lt 1 n)) None) counts

-- if only the value of one mark changes, to whether the mark occurred before, the map contains the marks with this one appended
noted_by : (met new : BTreeMap ℕ Bool) (all : List ℕ) (one : ℕ) (is_there : Bool) → AreMetMarks met all
    → is_there ≡ is_some (get nat_cmp met one) → get nat_cmp new one ≡ Some is_there
    → ((other : ℕ) → nat_eq other one ≡ false → get nat_cmp new other ≡ get nat_cmp met other) → AreMetMarks new (all ++ one ∷ [])
noted_by met new all one is_there noted is here others other = by (nat_eq other one) refl
  where
    by : (same : Bool) → nat_eq other one ≡ same → get nat_cmp new other ≡ met_mark (all ++ one ∷ []) other
    by true same =
        subst (λ n. get nat_cmp new n ≡ met_mark (all ++ one ∷ []) n) (sym (nat_is other one same))
        (here ∙ times_here all one is_there (is ∙ ap is_some (noted one) ∙ is_some_times (list_any (nat_eq one) all) (is_repeated all one)))
    by false differs = others other differs ∙ noted other ∙ sym (times_other all one other differs)

-- numbers that differ are not at the same place of the order
pub apart : (one other : ℕ) → nat_eq other one ≡ false → is_at (nat_cmp one) other ≡ false
apart one other differs = grind (arith, nat_tests, differs)

-- if a mark is new and gets the value `false`, the map contains the marks with this one appended
pub noted_once : (met new : BTreeMap ℕ Bool) (all : List ℕ) (one : ℕ) → AreMetMarks met all
    → is_some (get nat_cmp met one) ≡ false → Updates nat_cmp met new one (Some false)
    → AreMetMarks new (all ++ one ∷ [])
noted_once met new all one noted absent updates =
    noted_by met new all one false noted (sym absent) updates.1
    (λ other differs. updates.2 other (apart one other differs))

-- if a mark occurred before and gets the value `true`, the map contains the marks with this one appended
pub noted_again : (met mid new : BTreeMap ℕ Bool) (all : List ℕ) (one : ℕ) → AreMetMarks met all
    → is_some (get nat_cmp met one) ≡ true → Updates nat_cmp met mid one (Some false)
    → Updates nat_cmp mid new one (Some true) → AreMetMarks new (all ++ one ∷ [])
noted_again met mid new all one noted there first second =
    noted_by met new all one true noted (sym there) second.1
    (λ other differs. second.2 other (apart one other differs) ∙ first.2 other (apart one other differs))

-- an empty map contains the marks of an empty list
pub none_noted : (met : BTreeMap ℕ Bool) → IsEmpty met → AreMetMarks met []
none_noted met empty one = rw empty refl

-- looking up a mark returns whether it occurs more than once
pub looked_up : (met : BTreeMap ℕ Bool) (all : List ℕ) (one : ℕ) → AreMetMarks met all
    → unwrap_or (get nat_cmp met one) false ≡ (is_repeated all one || false)
looked_up met all one noted = ap (λ o. unwrap_or o false) (noted one) ∙ by (list_any (nat_eq one) all) refl (count_none (nat_eq one) all)
  where
    or_false : (p : Bool) → p ≡ (p || false)
    or_false true = refl
    or_false false = refl

    by : (there : Bool) → list_any (nat_eq one) all ≡ there → (list_any (nat_eq one) all ≡ false → count_by (nat_eq one) all ≡ 0)
        → unwrap_or (cond there (Some (is_repeated all one)) None) false ≡ (is_repeated all one || false)
    by true is none = or_false (is_repeated all one)
    by false is none = (let no : is_repeated all one ≡ false = ap (nat_lt 1) (none is) in ap (λ b. b || false) (sym no))

-- storing three lists of marks in turn stores all of them
pub noted_all : {U E : Type 0} (r : Result U E) (met first second third : BTreeMap ℕ Bool) (a b c : List ℕ)
    → ((all : List ℕ) → AreMetMarks met all → AreMetMarks first (all ++ a))
    → ((all : List ℕ) → AreMetMarks first all → AreMetMarks second (all ++ b))
    → OnOk r ((all : List ℕ) → AreMetMarks second all → AreMetMarks third (all ++ c))
    → OnOk r ((all : List ℕ) → AreMetMarks met all → AreMetMarks third (all ++ (a ++ (b ++ c))))
noted_all (Err e) met first second third a b c one two three = tt
noted_all (Ok u) met first second third a b c one two three = λ all noted.
    subst (AreMetMarks third) (append_assoc (all ++ a) b c ∙ append_assoc all a (b ++ c))
    (three ((all ++ a) ++ b) (two (all ++ a) (one all noted)))

-- storing the marks of the next entry stores the marks of the entries up to it
pub noted_next : (met new : BTreeMap ℕ Bool) (all : List Marks) (index : ℕ) (other : Marks) → index < length all
    → ((marks : List ℕ) → AreMetMarks met marks → AreMetMarks new (marks ++ listed (get_or all index other)))
    → AreMetMarks met (flat_map listed (take index all)) → AreMetMarks new (flat_map listed (take (index + 1) all))
noted_next met new all index other within adds noted =
    subst (AreMetMarks new) (sym (ap (flat_map listed) (take_more all index other within)
    ∙ flat_map-append listed (take index all) (get_or all index other ∷ [])
    ∙ ap (λ l. flat_map listed (take index all) ++ l) (append-nil (listed (get_or all index other)))))
    (adds (flat_map listed (take index all)) noted)

-- there are as many entries at indices in range as indices
pub as_many_entries : (said : List EntryReading) (indices : List ℕ) → All (λ index. index < length said) indices
    → length (entries_at said indices) ≡ length indices
as_many_entries said [] there = refl
as_many_entries said (index ∷ indices) there =
    let one = element_at said index (All-head (λ i. i < length said) index indices there) in
    ap (λ o. length (cons_option o (entries_at said indices))) one.1
    ∙ ap suc (as_many_entries said indices (All-tail (λ i. i < length said) index indices there))

-- if the value of an Ok satisfies `P`, it satisfies each `Q` that follows from `P`
pub on_result : {A E : Type 0} {P Q : A → Type 0} (r : Result A E) → ((a : A) → P a → Q a) → IfOk r P → IfOk r Q
on_result (Ok a) more holds = more a holds
on_result (Err e) more holds = tt

-- indices in range of raw entries are in range of their readings
pub in_range : (said : List (Spanned RawEntry)) (indices : List ℕ) → All (λ index. index < length said) indices
    → All (λ index. index < length (map entry_reading_of said)) indices
in_range said indices there = subst (λ n. All (λ index. index < n) indices) (sym (length-map said entry_reading_of)) there

-- the selection of the first indices and the next one appends that index if its entry has a mark that occurs more than once
pub chosen_next : (met : BTreeMap ℕ Bool) (all : List Marks) (indices found new : List ℕ) (index : ℕ) (other : Marks)
    (d : ℕ) (shared : Bool) → length all ≡ length indices → index < length indices
    → ((listed : List ℕ) → AreMetMarks met listed → shared ≡ has_repeated listed (get_or all index other))
    → new ≡ found ++ cond shared (get_or indices index d ∷ []) []
    → ((listed : List ℕ) → AreMetMarks met listed → found ≡ chosen listed (take index all) (take index indices))
    → (listed : List ℕ) → AreMetMarks met listed → new ≡ chosen listed (take (index + 1) all) (take (index + 1) indices)
chosen_next met all indices found new index other d shared same within says next so_far listed noted =
    next ∙ ap (λ l. l ++ cond shared (get_or indices index d ∷ []) []) (so_far listed noted)
    ∙ ap (λ b. chosen listed (take index all) (take index indices) ++ cond b (get_or indices index d ∷ []) []) (says listed noted)
    ∙ sym
    (chosen_more listed (take index all) (take index indices) (get_or all index other) (get_or indices index d)
    (taken all index (let le : index ≤ length all = omega (arith, same, within) in le)
    ∙ sym (taken indices index (let le : index ≤ length indices = omega (arith, within) in le))))
    ∙ ap (λ l. chosen listed l (take index indices ++ get_or indices index d ∷ []))
    (sym (take_more all index other (let below : index < length all = omega (arith, same, within) in below)))
    ∙ ap (chosen listed (take (index + 1) all)) (sym (take_more indices index d within))
  where
    taken : {A : Type 0} (items : List A) (count : ℕ) → count ≤ length items → length (take count items) ≡ count
    taken items count le = length-take-le count items le
