-- The names of a merge are all different.
use Rattle.std.proofs.Common.{◌≡◌, inl, inr, ℕ, zero, suc, ◌+◌, ◌<◌, ◌≤◌, ◌^◌, arith, Bool, true, false, List, [], ◌∷◌, ◌++◌, Option, Some, None, drop, length, refl, sym, ap, ◌∙◌, subst}
use Rattle.std.specs.Prelude.{◌⊎◌, ⊤, is_some, slice_get}
use Rattle.std.specs.List.{AllByRecursion, before_first}
use Rattle.std.proofs.lemmas.Bool.{cases_lt}
use Rattle.std.proofs.lemmas.List.{drop-drop}
use Rattle.bib_text.proofs.PlaceFacts.{test_clash}
use Rattle.edit_versions.specs.Distinct.{AreAllDifferent}
use Rattle.edit_versions.proofs.ApartFacts.{names_are_distinct}
use Rattle.edit_versions.proofs.IndexFacts.{AmongOrNone, IsAmong, among_or_none, names_lead_to_units}
use Rattle.edit_versions.specs.Versions.{VersionReading, has_unit_named, named_index, version_names}
use Rattle.edit_merge.specs.Picked.{Versions, before_shared, last_shared, merged_names, names_behind, order_by, order_choice, run_behind, woven}
use Rattle.edit_merge.specs.declared.picking.Choice.{Choice}
use Rattle.edit_merge.specs.declared.picking.Choice.TheVariants.{Ours, Theirs, Conflict}
use Rattle.edit_merge.proofs.OrderFacts.{run_more, run_stops}
use Rattle.edit_merge.proofs.WovenFacts.{get_dropped}

-- ---- lists of different names

-- a name that isn't one of these is equal to none of them
pub none_equal : (names : List (List ℕ)) (name : List ℕ) → (IsAmong name names → ⊥) → AllByRecursion (λ other. name ≡ other → ⊥) names
none_equal [] name none = _
none_equal (n ∷ ns) name none = ((λ same. none (inl same)), none_equal ns name (λ here. none (inr here)))

pub not_among : (names : List (List ℕ)) (name : List ℕ) → AllByRecursion (λ other. name ≡ other → ⊥) names → IsAmong name names → ⊥
not_among [] name all here = here
not_among (n ∷ ns) name all (inl same) = all.0 same
not_among (n ∷ ns) name all (inr here) = not_among ns name all.1 here

pub among_either : (name : List ℕ) (xs ys : List (List ℕ)) → IsAmong name (xs ++ ys) → IsAmong name xs ⊎ IsAmong name ys
among_either name [] ys here = inr here
among_either name (x ∷ xs) ys (inl same) = inl (inl same)
among_either name (x ∷ xs) ys (inr here) = elim (among_either name xs ys here) [
  | inl first ↦ inl (inr first)
  | inr second ↦ inr second
]

-- two lists of different names that share no name are one such list
pub joined : (xs ys : List (List ℕ)) → AreAllDifferent xs → AreAllDifferent ys
    → ((name : List ℕ) → IsAmong name xs → IsAmong name ys → ⊥) → AreAllDifferent (xs ++ ys)
joined [] ys first second apart = second
joined (x ∷ xs) ys first second apart = (
  none_equal (xs ++ ys) x (λ here. by (among_either x xs ys here)),
  joined xs ys first.1 second (λ name here there. apart name (inr here) there),
)
  where
    by : IsAmong x xs ⊎ IsAmong x ys → ⊥
    by (inl here) = not_among xs x first.0 here
    by (inr there) = apart x (inl refl) there

different_drop : (count : ℕ) (names : List (List ℕ)) → AreAllDifferent names → AreAllDifferent (drop count names)
different_drop zero names all = all
different_drop (suc count) [] all = _
different_drop (suc count) (n ∷ ns) all = different_drop count ns all.1

-- the names before the first one that passes a test
run_among_names : (test : List ℕ → Bool) (names : List (List ℕ)) (name : List ℕ) → IsAmong name (before_first test names)
    → IsAmong name names
run_among_names test [] name here = here
run_among_names test (n ∷ ns) name here = by (test n) refl here (λ there. run_among_names test ns name there)
  where
    more : (IsAmong name (before_first test ns) → IsAmong name ns) → IsAmong name (n ∷ before_first test ns) → IsAmong name (n ∷ ns)
    more rest (inl same) = inl same
    more rest (inr there) = inr (rest there)

    by : (passes : Bool) → test n ≡ passes → IsAmong name (before_first test (n ∷ ns))
        → (IsAmong name (before_first test ns) → IsAmong name ns) → IsAmong name (n ∷ ns)
    by true is here rest = absurd (subst (IsAmong name) (run_stops test n ns is) here)
    by false is here rest = more rest (subst (IsAmong name) (run_more test n ns is) here)

different_run : (test : List ℕ → Bool) (names : List (List ℕ)) → AreAllDifferent names → AreAllDifferent (before_first test names)
different_run test [] all = _
different_run test (n ∷ ns) all = by (test n) refl (different_run test ns all.1)
  where
    by : (passes : Bool) → test n ≡ passes → AreAllDifferent (before_first test ns) → AreAllDifferent (before_first test (n ∷ ns))
    by true is rest = subst AreAllDifferent (sym (run_stops test n ns is)) tt
    by false is rest =
        subst AreAllDifferent (sym (run_more test n ns is))
        (none_equal (before_first test ns) n (λ here. not_among ns n all.0 (run_among_names test ns n here)), rest)

-- ---- a name in a run

-- a name is at an index from a start on, and no name from the start up to it passes the test
record IsInRun (test : List ℕ → Bool) (names : List (List ℕ)) (start : ℕ) (name : List ℕ) : Type 0 where
  index : ℕ
  here : slice_get names index ≡ Some name
  from : start ≤ index
  fails : (k : ℕ) (other : List ℕ) → start ≤ k → k ≤ index → slice_get names k ≡ Some other → test other ≡ false

in_run : (test : List ℕ → Bool) (names : List (List ℕ)) (start : ℕ) (left : List (List ℕ)) (name : List ℕ) → drop start names ≡ left
    → IsAmong name (before_first test left) → IsInRun test names start name
in_run test names start [] name is here = absurd here
in_run test names start (n ∷ ns) name is here = by (test n) refl here (λ there. in_run test names (start + 1) ns name next there)
  where
    next : drop (start + 1) names ≡ ns
    next = sym (drop-drop 1 start names) ∙ ap (drop 1) is

    only : test n ≡ false → (k : ℕ) (other : List ℕ) → start ≤ k → k ≤ start → slice_get names k ≡ Some other → test other ≡ false
    only fact k other low high get =
        let same : k ≡ start = omega (arith, low, high) in
        let found : Some other ≡ Some n = sym get ∙ ap (slice_get names) same ∙ get_dropped names start n ns is in
        let equal : other ≡ n = cc in
        ap test equal ∙ fact

    more : test n ≡ false → (IsAmong name (before_first test ns) → IsInRun test names (start + 1) name)
        → IsAmong name (n ∷ before_first test ns) → IsInRun test names start name
    more fact rest (inl same) = record {
      index = start;
      here = get_dropped names start n ns is ∙ ap Some (sym same);
      from = omega arith;
      fails = only fact;
    }
    more fact rest (inr there) =
        let found = rest there in
        let later : start + 1 ≤ found.index = found.from in
        record {
          index = found.index;
          here = found.here;
          from = omega (arith, later);
          fails = λ k other low high get.
              elim (cases_lt start k) [
                | inl less ↦ found.fails k other (omega (arith, less)) high get
                | inr most ↦ only fact k other low most get
              ];
        }

    by : (passes : Bool) → test n ≡ passes → IsAmong name (before_first test (n ∷ ns))
        → (IsAmong name (before_first test ns) → IsInRun test names (start + 1) name) → IsInRun test names start name
    by true fact here rest = absurd (subst (IsAmong name) (run_stops test n ns fact) here)
    by false fact here rest = more fact rest (subst (IsAmong name) (run_more test n ns fact) here)

-- a run doesn't reach over a name that passes the test
no_crossing : (test : List ℕ → Bool) (names : List (List ℕ)) (start : ℕ) (name : List ℕ) → (r : IsInRun test names start name) → (i : ℕ)
    (shared : List ℕ) → slice_get names i ≡ Some shared → test shared ≡ true → start ≤ i → i ≤ r.index → ⊥
no_crossing test names start name r i shared get passes low high = test_clash (test shared) passes (r.fails i shared low high get)

-- ---- runs of the other version

-- an index is that of a name that both versions have, if there is an index
abbrev IsStart : VersionReading → VersionReading → Option ℕ → Type 0
IsStart main other None = ⊤
IsStart main other (Some i) = (name : List ℕ) × (slice_get (version_names other) i ≡ Some name) × (has_unit_named main name ≡ true)

-- the index at which the run after an index begins
abbrev start_at : Option ℕ → ℕ
start_at None = 0
start_at (Some i) = i + 1

behind_is : (v : VersionReading) (index : Option ℕ) → drop (start_at index) (version_names v) ≡ names_behind v index
behind_is v None = refl
behind_is v (Some i) = sym (drop-drop 1 i (version_names v))

different_behind : (v : VersionReading) (index : Option ℕ) → length v.units < 2 ^ 64 → AreAllDifferent (names_behind v index)
different_behind v index fits =
    subst AreAllDifferent (behind_is v index) (different_drop (start_at index) (version_names v) (names_are_distinct v fits))

placed : (main other : VersionReading) (index : Option ℕ) (name : List ℕ) → IsAmong name (run_behind main other index)
    → IsInRun (has_unit_named main) (version_names other) (start_at index) name
placed main other index name here =
    in_run (has_unit_named main) (version_names other) (start_at index) (names_behind other index) name (behind_is other index) here

-- a name in a run is none of the main version
lacks : (main other : VersionReading) (index : Option ℕ) (name : List ℕ) → IsAmong name (run_behind main other index)
    → has_unit_named main name ≡ false
lacks main other index name here =
    let r = placed main other index name here in
    r.fails r.index name r.from (let same : r.index ≤ r.index = omega arith in same) r.here

one_index : (v : VersionReading) (name : List ℕ) (i j : ℕ) → length v.units < 2 ^ 64 → slice_get (version_names v) i ≡ Some name
    → slice_get (version_names v) j ≡ Some name → i ≡ j
one_index v name i j fits first second =
    let found : Some i ≡ Some j = sym (names_lead_to_units v fits i name first) ∙ names_lead_to_units v fits j name second in cc

-- a name is in one run only
one_start : (main other : VersionReading) (s t : Option ℕ) (name : List ℕ) → length other.units < 2 ^ 64 → IsStart main other s
    → IsStart main other t → IsAmong name (run_behind main other s) → IsAmong name (run_behind main other t) → s ≡ t
one_start main other s t name fits first second here there =
    by s t first second (placed main other s name here) (placed main other t name there)
  where
    by : (s t : Option ℕ) → IsStart main other s → IsStart main other t
        → IsInRun (has_unit_named main) (version_names other) (start_at s) name
        → IsInRun (has_unit_named main) (version_names other) (start_at t) name → s ≡ t
    by None None first second one two = refl
    by None (Some j) first second one two =
        let same : one.index ≡ two.index = one_index other name one.index two.index fits one.here two.here in
        let later : j + 1 ≤ two.index = two.from in
        absurd
        (no_crossing (has_unit_named main) (version_names other) 0 name one j second.0 second.1 second.2 (omega arith)
        (omega (arith, same, later)))
    by (Some i) None first second one two =
        let same : one.index ≡ two.index = one_index other name one.index two.index fits one.here two.here in
        let later : i + 1 ≤ one.index = one.from in
        absurd
        (no_crossing (has_unit_named main) (version_names other) 0 name two i first.0 first.1 first.2 (omega arith)
        (omega (arith, same, later)))
    by (Some i) (Some j) first second one two =
        let same : one.index ≡ two.index = one_index other name one.index two.index fits one.here two.here in
        let later : i + 1 ≤ one.index = one.from in
        let later' : j + 1 ≤ two.index = two.from in
        elim (cases_lt i j) [
          | inl less ↦ absurd
              (no_crossing (has_unit_named main) (version_names other) (i + 1) name one j second.0 second.1 second.2
              (omega (arith, less)) (omega (arith, same, later')))
          | inr most ↦ elim (cases_lt j i) [
            | inl less ↦ absurd
                (no_crossing (has_unit_named main) (version_names other) (j + 1) name two i first.0 first.1 first.2
                (omega (arith, less)) (omega (arith, same, later)))
            | inr most' ↦ ap Some (let equal : i ≡ j = omega (arith, most, most') in equal)
          ]
        ]

-- ---- one order

-- a name in one order is one of the main version, or in the run after an index: the one at the start, or that of a name that both have
data IsWoven (main other : VersionReading) (last : Option ℕ) (names : List (List ℕ)) (name : List ℕ) : Type 0 where
  own : IsAmong name names → IsWoven main other last names name
  run : IsAmong name (run_behind main other last) → IsWoven main other last names name
  later : (i : ℕ) (shared : List ℕ) → IsAmong shared names → named_index other shared ≡ Some i
      → IsAmong name (run_behind main other (Some i)) → IsWoven main other last names name

woven_member : (main other : VersionReading) (last : Option ℕ) (names : List (List ℕ)) (name : List ℕ)
    → IsAmong name (woven main other last names) → IsWoven main other last names name
woven_member main other last [] name here = IsWoven.run here
woven_member main other last (n ∷ ns) name here =
    by (named_index other n) refl (λ start there. woven_member main other start ns name there) here
  where
    kept : IsWoven main other last ns name → IsWoven main other last (n ∷ ns) name
    kept (IsWoven.own among) = IsWoven.own (inr among)
    kept (IsWoven.run here) = IsWoven.run here
    kept (IsWoven.later i shared among leads here) = IsWoven.later i shared (inr among) leads here

    passed : (i : ℕ) → named_index other n ≡ Some i → IsWoven main other (Some i) ns name → IsWoven main other last (n ∷ ns) name
    passed i is (IsWoven.own among) = IsWoven.own (inr among)
    passed i is (IsWoven.run here) = IsWoven.later i n (inl refl) is here
    passed i is (IsWoven.later j shared among leads here) = IsWoven.later j shared (inr among) leads here

    after : (i : ℕ) → named_index other n ≡ Some i
        → (IsAmong name (woven main other (Some i) ns) → IsWoven main other (Some i) ns name)
        → IsAmong name (n ∷ woven main other (Some i) ns) → IsWoven main other last (n ∷ ns) name
    after i is rest (inl same) = IsWoven.own (inl same)
    after i is rest (inr there) = passed i is (rest there)

    by : (index : Option ℕ) → named_index other n ≡ index
        → ((start : Option ℕ) → IsAmong name (woven main other start ns) → IsWoven main other start ns name)
        → IsAmong name (before_shared main other last index ++ (n ∷ woven main other (last_shared last index) ns))
        → IsWoven main other last (n ∷ ns) name
    by None is rest (inl same) = IsWoven.own (inl same)
    by None is rest (inr there) = kept (rest last there)
    by (Some i) is rest here = elim (among_either name (run_behind main other last) (n ∷ woven main other (Some i) ns) here) [
      | inl first ↦ IsWoven.run first
      | inr second ↦ after i is (rest (Some i)) second
    ]

at_index : (names : List (List ℕ)) (name : List ℕ) → IsAmong name names → (i : ℕ) × (slice_get names i ≡ Some name)
at_index [] name here = absurd here
at_index (n ∷ ns) name (inl same) = (0, ap Some (sym same))
at_index (n ∷ ns) name (inr here) = let rest = at_index ns name here in (suc rest.0, rest.1)

pub leads_at : (v : VersionReading) (name : List ℕ) (i : ℕ) → length v.units < 2 ^ 64 → named_index v name ≡ Some i
    → slice_get (version_names v) i ≡ Some name
leads_at v name i fits leads = by (among_or_none v name)
  where
    by : AmongOrNone v name → slice_get (version_names v) i ≡ Some name
    by (AmongOrNone.among here) =
        let at = at_index (version_names v) name here in
        let found : Some i ≡ Some at.0 = sym leads ∙ names_lead_to_units v fits at.0 name at.1 in
        let same : i ≡ at.0 = cc in
        ap (slice_get (version_names v)) same ∙ at.1
    by (AmongOrNone.none absent) = absurd (let clash : Some i ≡ None = sym leads ∙ absent in cc)

own_named : (v : VersionReading) (name : List ℕ) → length v.units < 2 ^ 64 → IsAmong name (version_names v)
    → has_unit_named v name ≡ true
own_named v name fits here =
    let at = at_index (version_names v) name here in ap is_some (names_lead_to_units v fits at.0 name at.1)

-- these names of the main version and the names of the other version after an index are different in one order, if no later name of both
-- versions is at this index
all_different : (main other : VersionReading) (last : Option ℕ) (names : List (List ℕ)) → length other.units < 2 ^ 64
    → IsStart main other last → AreAllDifferent names → ((n : List ℕ) → IsAmong n names → has_unit_named main n ≡ true)
    → ((i : ℕ) (n : List ℕ) → IsAmong n names → last ≡ Some i → named_index other n ≡ Some i → ⊥)
    → AreAllDifferent (woven main other last names)
all_different main other last [] fits start differ owned apart =
    different_run (has_unit_named main) (names_behind other last) (different_behind other last fits)
all_different main other last (n ∷ ns) fits start differ owned apart =
    by (named_index other n) refl
    (λ s started distinct. all_different main other s ns fits started differ.1 (λ m here. owned m (inr here)) distinct)
  where
    not_own : (name : List ℕ) → has_unit_named main name ≡ true → (s : Option ℕ) → IsAmong name (run_behind main other s) → ⊥
    not_own name has s here = test_clash (has_unit_named main name) has (lacks main other s name here)

    not_again : (s : Option ℕ) → IsWoven main other s ns n → ⊥
    not_again s (IsWoven.own among) = not_among ns n differ.0 among
    not_again s (IsWoven.run here) = not_own n (owned n (inl refl)) s here
    not_again s (IsWoven.later i shared among leads here) = not_own n (owned n (inl refl)) (Some i) here

    once : (s : Option ℕ) → AllByRecursion (λ other. n ≡ other → ⊥) (woven main other s ns)
    once s = none_equal (woven main other s ns) n (λ here. not_again s (woven_member main other s ns n here))

    -- the other names of both versions are at other indices than the first one
    distinct : (i : ℕ) → named_index other n ≡ Some i → (j : ℕ) (m : List ℕ) → IsAmong m ns → Some i ≡ Some j
        → named_index other m ≡ Some j → ⊥
    distinct i is j m here same leads =
        let mine : slice_get (version_names other) j ≡ Some n = leads_at other n j fits (is ∙ same) in
        let found : Some n ≡ Some m = sym mine ∙ leads_at other m j fits leads in
        let equal : m ≡ n = cc in
        not_among ns n differ.0 (subst (λ x. IsAmong x ns) equal here)

    begins : (i : ℕ) → named_index other n ≡ Some i → IsStart main other (Some i)
    begins i is = (n, leads_at other n i fits is, owned n (inl refl))

    -- a name of the run before the first name is no later one
    apart_from : (i : ℕ) → named_index other n ≡ Some i → (name : List ℕ) → IsAmong name (run_behind main other last)
        → IsWoven main other (Some i) ns name → ⊥
    apart_from i is name here (IsWoven.own among) = not_own name (owned name (inr among)) last here
    apart_from i is name here (IsWoven.run there) =
        apart i n (inl refl) (one_start main other last (Some i) name fits start (begins i is) here there) is
    apart_from i is name here (IsWoven.later j shared among leads there) =
        apart j shared (inr among)
        (one_start main other last (Some j) name fits start
        (shared, leads_at other shared j fits leads, owned shared (inr among)) here there)
        leads

    after : (i : ℕ) → named_index other n ≡ Some i → (name : List ℕ) → IsAmong name (run_behind main other last)
        → IsAmong name (n ∷ woven main other (Some i) ns) → ⊥
    after i is name here (inl same) = not_own name (ap (has_unit_named main) same ∙ owned n (inl refl)) last here
    after i is name here (inr there) = apart_from i is name here (woven_member main other (Some i) ns name there)

    by : (index : Option ℕ) → named_index other n ≡ index
        → ((s : Option ℕ) → IsStart main other s → ((i : ℕ) (m : List ℕ) → IsAmong m ns → s ≡ Some i → named_index other m ≡ Some i → ⊥)
        → AreAllDifferent (woven main other s ns))
        → AreAllDifferent (before_shared main other last index ++ (n ∷ woven main other (last_shared last index) ns))
    by None is rest = (once last, rest last start (λ i m here. apart i m (inr here)))
    by (Some i) is rest =
        joined (run_behind main other last) (n ∷ woven main other (Some i) ns)
        (different_run (has_unit_named main) (names_behind other last) (different_behind other last fits))
        (once (Some i), rest (Some i) (begins i is) (distinct i is)) (after i is)

-- ---- the names of a merge

in_one_order : (main other : VersionReading) → length main.units < 2 ^ 64 → length other.units < 2 ^ 64
    → AreAllDifferent (woven main other None (version_names main))
in_one_order main other fits fits' =
    all_different main other None (version_names main) fits' tt (names_are_distinct main fits) (λ n here. own_named main n fits here)
    (λ i n here none leads. absurd (let clash : None ≡ Some i = none in cc))

pub merged_names_differ : (vs : Versions) → length vs.ours.units < 2 ^ 64 → length vs.theirs.units < 2 ^ 64
    → AreAllDifferent (merged_names vs)
merged_names_differ vs fits fits' = by (order_choice vs)
  where
    by : (choice : Choice) → AreAllDifferent (order_by vs choice)
    by Ours = in_one_order vs.ours vs.theirs fits fits'
    by Theirs = in_one_order vs.theirs vs.ours fits' fits
    by Conflict = in_one_order vs.ours vs.theirs fits fits'
