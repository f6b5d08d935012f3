-- The findings of likely duplicates depend only on the entries with a mark that occurs more than once.
use Rattle.std.proofs.Common.{◌≡◌, ℕ, Bool, true, false, not, List, [], ◌∷◌, ◌++◌, ◌+◌, ◌<◌, ◌≤◌, ◌||◌, refl, sym, ap, ◌∙◌, append_assoc, append-nil, subst, arith, cond, nat_eq}
use mathlib.Core.Logic.{⊎_elim}
use Rattle.std.specs.Prelude.{count_by, find, slice_get, take}
use Rattle.std.specs.List.{All, cons_option, filter, filter_map, list_any}
use Rattle.std.specs.Option.{option_map_or}
use Rattle.std.proofs.lemmas.Bool.Decides.{nat_tests}
use Rattle.std.proofs.lemmas.Grind.{flat_map-append}
use Rattle.std.proofs.lemmas.List.Elements.{All-cons, All-head, All-nil, All-tail, All-weaker, filter-append}
use Rattle.std.proofs.lemmas.List.Sums.{sum_by-append, sum_by-cons}
use Rattle.bib_tables.specs.Requirements.{Names}
use Rattle.bib_syntax.specs.Reading.{EntryReading}
use Rattle.bib_dates.specs.OrderLaws.{nat_is}
use Rattle.bib_findings.specs.Duplicates.{duplicate_after, duplicate_finding, duplicates, duplicates_after, most_compared, same_by}
use Rattle.bib_findings.specs.Identities.{are_told_apart, has_identity, identities}
use Rattle.bib_findings.specs.Marks.{has_repeated, is_repeated, listed, listed_all, marks_of, may_share}
use Rattle.bib_findings.specs.declared.finding.Finding.{Finding}
use Rattle.std.proofs.lemmas.Bool.{or_cases, or_right, or_left}
use Rattle.bib_findings.proofs.SharedFacts.{HasMark, share_mark}

pub count_next : (test : ℕ → Bool) (one : ℕ) (all : List ℕ) → count_by test (one ∷ all) ≡ cond (test one) 1 0 + count_by test all
count_next test one all = sum_by-cons (λ n. cond (test n) 1 0) one all

-- a mark that occurs in a list is counted at least once
pub any_counts : (one : ℕ) (all : List ℕ) → list_any (nat_eq one) all ≡ true → 1 ≤ count_by (nat_eq one) all
any_counts one [] is = absurd (let clash : false ≡ true = is in cc)
any_counts one (first ∷ all) is =
    let next : count_by (nat_eq one) (first ∷ all) ≡ cond (nat_eq one first) 1 0 + count_by (nat_eq one) all =
    count_next (nat_eq one) first all in
    let least : 1 ≤ cond (nat_eq one first) 1 0 + count_by (nat_eq one) all = by (nat_eq one first) is (any_counts one all) in
    omega (arith, next, least)
  where
    by : (here : Bool) → (here || list_any (nat_eq one) all) ≡ true
        → (list_any (nat_eq one) all ≡ true → 1 ≤ count_by (nat_eq one) all)
        → 1 ≤ cond here 1 0 + count_by (nat_eq one) all
    by true is rest = omega arith
    by false is rest = omega (arith, rest is)

any_passes : (test : ℕ → Bool) (one : ℕ) (all : List ℕ) → list_any (nat_eq one) all ≡ true → test one ≡ true → list_any test all ≡ true
any_passes test one [] is passes = absurd (let clash : false ≡ true = is in cc)
any_passes test one (first ∷ all) is passes =
    ⊎_elim (λ here. or_left (test first) (list_any test all) (subst (λ n. test n ≡ true) (nat_is one first here) passes))
    (λ later. or_right (test first) (list_any test all) (any_passes test one all later passes))
    (or_cases (nat_eq one first) (list_any (nat_eq one) all) is)

-- a mark that two entries have occurs more than once
twice : (one : ℕ) (before between rest : List EntryReading) (first second : EntryReading) → HasMark first one → HasMark second one
    → is_repeated (listed_all (before ++ first ∷ (between ++ second ∷ rest))) one ≡ true
twice one before between rest first second here there =
    let count : List ℕ → ℕ = count_by (nat_eq one) in
    let f : EntryReading → List ℕ = λ said. listed (marks_of said) in
    let outer : count (listed_all (before ++ first ∷ (between ++ second ∷ rest)))
    ≡ count (listed_all before) + (count (f first) + count (listed_all (between ++ second ∷ rest))) =
    ap count (flat_map-append f before (first ∷ (between ++ second ∷ rest)))
    ∙ sum_by-append (λ n. cond (nat_eq one n) 1 0) (listed_all before)
    (f first ++ listed_all (between ++ second ∷ rest))
    ∙ ap (λ n. count (listed_all before) + n)
    (sum_by-append (λ n. cond (nat_eq one n) 1 0) (f first) (listed_all (between ++ second ∷ rest))) in
    let inner : count (listed_all (between ++ second ∷ rest)) ≡ count (listed_all between) + (count (f second) + count (listed_all rest)) =
    ap count (flat_map-append f between (second ∷ rest))
    ∙ sum_by-append (λ n. cond (nat_eq one n) 1 0) (listed_all between) (f second ++ listed_all rest)
    ∙ ap (λ n. count (listed_all between) + n) (sum_by-append (λ n. cond (nat_eq one n) 1 0) (f second) (listed_all rest)) in
    let more : 1 < count (listed_all (before ++ first ∷ (between ++ second ∷ rest))) =
    omega (arith, outer, inner, any_counts one (f first) here, any_counts one (f second) there) in
    grind (arith, nat_tests, more)

-- if two entries share an identity, both have a mark that occurs more than once
pub both_kept : (before between rest : List EntryReading) (first second : EntryReading) (all : List ℕ)
    → all ≡ listed_all (before ++ first ∷ (between ++ second ∷ rest))
    → list_any (λ id. has_identity id first) (identities second) ≡ true
    → (has_repeated all (marks_of first) ≡ true) × (has_repeated all (marks_of second) ≡ true)
both_kept before between rest first second all is shares =
    let s = share_mark first second shares in
    let repeated : is_repeated all s.mark ≡ true =
    ap (λ l. is_repeated l s.mark) is ∙ twice s.mark before between rest first second s.of_one s.of_other in (
      any_passes (is_repeated all) s.mark (listed (marks_of first)) s.of_one repeated,
      any_passes (is_repeated all) s.mark (listed (marks_of second)) s.of_other repeated,
    )

-- whether an entry has one of some identities
abbrev HasOneOf : Names → EntryReading → Type 0
HasOneOf ids said = list_any (λ id. has_identity id said) ids ≡ true

-- whether both entries have a mark that occurs more than once, if they share an identity
abbrev Covers : List ℕ → EntryReading → EntryReading → Type 0
Covers all said one =
    HasOneOf (identities said) one
    → (has_repeated all (marks_of one) ≡ true) × (has_repeated all (marks_of said) ≡ true)

abbrev AreCovered : List ℕ → List EntryReading → EntryReading → Type 0
AreCovered all earlier said = All (Covers all said) earlier

covered : (before earlier rest : List EntryReading) (said : EntryReading) (all : List ℕ)
    → all ≡ listed_all (before ++ (earlier ++ said ∷ rest)) → AreCovered all earlier said
covered before [] rest said all is = All-nil (Covers all said)
covered before (one ∷ earlier) rest said all is =
    All-cons (Covers all said) one earlier (both_kept before earlier rest one said all is)
    (covered (before ++ one ∷ []) earlier rest said all
    (is ∙ ap listed_all (sym (append_assoc before (one ∷ []) (earlier ++ said ∷ rest)))))

-- the items that pass a test are the same among the kept items, if all items that pass are kept
filter_kept : (test keep : EntryReading → Bool) (items : List EntryReading)
    → All (λ one. test one ≡ true → keep one ≡ true) items → filter test (filter keep items) ≡ filter test items
filter_kept test keep [] kept = refl
filter_kept test keep (item ∷ items) kept =
    by (filter_kept test keep items (All-tail (λ one. test one ≡ true → keep one ≡ true) item items kept)) (keep item) (test item) refl refl
  where
    by : filter test (filter keep items) ≡ filter test items → (k t : Bool) → keep item ≡ k → test item ≡ t
        → filter test (cond (keep item) (item ∷ filter keep items) (filter keep items))
        ≡ cond (test item) (item ∷ filter test items) (filter test items)
    by rest true t is passes =
        ap (λ b. filter test (cond b (item ∷ filter keep items) (filter keep items))) is
        ∙ ap (λ l. cond (test item) (item ∷ l) l) rest
    by rest false true is passes =
        absurd
        (let clash : false ≡ true =
        sym is ∙ All-head (λ one. test one ≡ true → keep one ≡ true) item items kept passes in
        cc)
    by rest false false is fails =
        ap (λ b. filter test (cond b (item ∷ filter keep items) (filter keep items))) is ∙ rest
        ∙ ap (λ b. cond b (item ∷ filter test items) (filter test items)) (sym fails)

-- if no item passes a test, none is left
filter_none : (test : EntryReading → Bool) (items : List EntryReading) → All (λ one. test one ≡ true → true ≡ false) items
    → filter test items ≡ []
filter_none test [] none = refl
filter_none test (item ∷ items) none =
    by (filter_none test items (All-tail (λ one. test one ≡ true → true ≡ false) item items none)) (test item) refl
  where
    by : filter test items ≡ [] → (t : Bool) → test item ≡ t → cond (test item) (item ∷ filter test items) (filter test items) ≡ []
    by rest true passes = absurd (let clash : true ≡ false = All-head (λ one. test one ≡ true → true ≡ false) item items none passes in cc)
    by rest false fails = ap (λ b. cond b (item ∷ filter test items) (filter test items)) fails ∙ rest

-- a property of the items that have one of some identities holds for those that have the first
of_first : (P : EntryReading → Type 0) (id : List ℕ) (ids : Names) (items : List EntryReading)
    → All (λ one. HasOneOf (id ∷ ids) one → P one) items → All (λ one. has_identity id one ≡ true → P one) items
of_first P id ids items all =
    All-weaker (λ one. HasOneOf (id ∷ ids) one → P one) (λ one. has_identity id one ≡ true → P one)
    (λ one follows has. follows (or_left (has_identity id one) (list_any (λ i. has_identity i one) ids) has)) items all

-- the same for the items that have one of the others
of_others : (P : EntryReading → Type 0) (id : List ℕ) (ids : Names) (items : List EntryReading)
    → All (λ one. HasOneOf (id ∷ ids) one → P one) items → All (λ one. HasOneOf ids one → P one) items
of_others P id ids items all =
    All-weaker (λ one. HasOneOf (id ∷ ids) one → P one) (λ one. HasOneOf ids one → P one)
    (λ one follows has. follows (or_right (has_identity id one) (list_any (λ i. has_identity i one) ids) has)) items all

-- if all entries with one of these identities are kept, the entries that are found by the identities are the same among the kept ones
same_kept : (said : EntryReading) (keep : EntryReading → Bool) (ids : Names) (earlier : List EntryReading)
    → All (λ one. HasOneOf ids one → keep one ≡ true) earlier
    → filter_map (same_by (filter keep earlier) said) ids ≡ filter_map (same_by earlier said) ids
same_kept said keep [] earlier kept = refl
same_kept said keep (id ∷ ids) earlier kept =
    ap (λ l. cons_option (find (λ other. not (are_told_apart said other)) (take most_compared l))
    (filter_map (same_by (filter keep earlier) said) ids))
    (filter_kept (has_identity id) keep earlier (of_first (λ one. keep one ≡ true) id ids earlier kept))
    ∙ ap (cons_option (same_by earlier said id)) (same_kept said keep ids earlier (of_others (λ one. keep one ≡ true) id ids earlier kept))

-- if no entry has one of these identities, none is found by them
same_none : (said : EntryReading) (ids : Names) (earlier : List EntryReading)
    → All (λ one. HasOneOf ids one → true ≡ false) earlier → filter_map (same_by earlier said) ids ≡ []
same_none said [] earlier none = refl
same_none said (id ∷ ids) earlier none =
    ap (λ l. cons_option (find (λ other. not (are_told_apart said other)) (take most_compared l)) (filter_map (same_by earlier said) ids))
    (filter_none (has_identity id) earlier (of_first (λ one. true ≡ false) id ids earlier none))
    ∙ same_none said ids earlier (of_others (λ one. true ≡ false) id ids earlier none)

-- the findings of likely duplicates don't change if entries without a mark that occurs more than once are left out
kept_duplicates : (all : List ℕ) (earlier rest : List EntryReading) → all ≡ listed_all (earlier ++ rest)
    → duplicates_after (filter (λ said. has_repeated all (marks_of said)) earlier)
    (filter (λ said. has_repeated all (marks_of said)) rest) ≡ duplicates_after earlier rest
kept_duplicates all earlier [] is = refl
kept_duplicates all earlier (said ∷ rest) is =
    by
    (kept_duplicates all (earlier ++ said ∷ []) rest
    (is ∙ ap listed_all (sym (append_assoc earlier (said ∷ []) rest)))) (has_repeated all (marks_of said)) refl
  where
    keep : EntryReading → Bool
    keep one = has_repeated all (marks_of one)

    cover : AreCovered all earlier said
    cover = covered [] earlier rest said all is

    finding : List EntryReading → List Finding
    finding found = option_map_or (λ first. duplicate_finding said first ∷ []) (slice_get found 0) []

    by : duplicates_after (filter keep (earlier ++ said ∷ [])) (filter keep rest) ≡ duplicates_after (earlier ++ said ∷ []) rest
        → (k : Bool) → keep said ≡ k
        → duplicates_after (filter keep earlier) (cond (keep said) (said ∷ filter keep rest) (filter keep rest))
        ≡ duplicate_after earlier said ++ duplicates_after (earlier ++ said ∷ []) rest
    by next true kept =
        ap (λ b. duplicates_after (filter keep earlier) (cond b (said ∷ filter keep rest) (filter keep rest))) kept
        ∙ ap (λ l. finding l ++ duplicates_after (filter keep earlier ++ said ∷ []) (filter keep rest))
        (same_kept said keep (identities said) earlier
        (All-weaker (Covers all said) (λ one. HasOneOf (identities said) one → keep one ≡ true)
        (λ one c shares. (c shares).0) earlier cover))
        ∙ ap (λ l. duplicate_after earlier said ++ duplicates_after l (filter keep rest))
        (sym (filter-append keep earlier (said ∷ []) ∙ ap (λ b. filter keep earlier ++ cond b (said ∷ []) []) kept))
        ∙ ap (λ l. duplicate_after earlier said ++ l) next
    by next false left =
        ap (λ b. duplicates_after (filter keep earlier) (cond b (said ∷ filter keep rest) (filter keep rest))) left
        ∙ ap (λ l. duplicates_after l (filter keep rest))
        (sym
        (filter-append keep earlier (said ∷ []) ∙ ap (λ b. filter keep earlier ++ cond b (said ∷ []) []) left
        ∙ append-nil (filter keep earlier)))
        ∙ next
        ∙ ap (λ l. finding l ++ duplicates_after (earlier ++ said ∷ []) rest)
        (sym
        (same_none said (identities said) earlier
        (All-weaker (Covers all said) (λ one. HasOneOf (identities said) one → true ≡ false)
        (λ one c shares. sym (c shares).1 ∙ left) earlier cover)))

-- the findings of likely duplicates among the entries that may share an identity are those among all entries
pub alike : (entries : List EntryReading) → duplicates (may_share entries) ≡ duplicates entries
alike entries = kept_duplicates (listed_all entries) [] entries refl
