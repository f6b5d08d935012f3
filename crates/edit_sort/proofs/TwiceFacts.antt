-- The entries of a sorted text are in order.
use Rattle.std.proofs.Common.{◌≡◌, inl, inr, ℕ, ◌+◌, ◌<◌, ◌≤◌, Bool, true, false, cond, List, [], ◌∷◌, ◌++◌, get_or, length, map, refl, sym, ap, ◌∙◌, subst, arith}
use Rattle.std.specs.Prelude.{◌==◌, ◌||◌}
use Rattle.std.specs.Cmp.{nat_cmp_is}
use Rattle.std.specs.List.{AllByRecursion, Contains, list_any}
use Rattle.std.specs.List.Sorted.{IsSorted}
use Rattle.std.specs.Ordering.{is_lt, nat_cmp, ordering_then}
use Rattle.std.specs.declared.cmp.Ordering.{Ordering}
use Rattle.std.specs.declared.cmp.Ordering.TheVariants.{Less, Equal, Greater}
use Rattle.std.proofs.lemmas.Bool.{cases_lt}
use Rattle.std.proofs.lemmas.List.{length-map}
use Rattle.std.proofs.lemmas.List.Elements.{All-contains_itself, All-from_recursion, recursion_from_All}
use Rattle.std.proofs.lemmas.List.Folds.{list_any-append}
use Rattle.std.proofs.lemmas.List.Sorted.{All-permutation, IsPermutation-map, length_permutation, list_any-IsPermutation}
use Rattle.std.proofs.Math.ListN.{get_or-map}
use Rattle.std.proofs.Math.Bool.{or-false}
use Rattle.bib_text.proofs.BoolFacts.{or_false_right}
use Rattle.bib_syntax.specs.Grammar.{IsRawReading}
use Rattle.bib_syntax.specs.Reading.{EntryReading, FileReading}
use Rattle.bib_syntax.specs.Recovery.{has_byte}
use Rattle.bib_syntax.proofs.FileFacts.{file_same}
use Rattle.edit_entries.specs.Documents.{Document, IsDocument}
use Rattle.edit_entries.specs.Edits.{moved_entry}
use Rattle.edit_sort.specs.Sorted.{AreEntriesInOrder, IsSortedText, Item, after_blank_line, begins_run, comment_in, gap_before, has_block_sign, item_cmp, items, near_comment, rank, space_in, text_in_order, without_white}
use Rattle.edit_sort.specs.Steps.{items_from, run_after, spaces_from}
use Rattle.edit_sort.proofs.AlikeFacts.{PassAlike, head_same, moved_keeps, rank_alike, rank_kept, rest_same}
use Rattle.edit_sort.proofs.FeedFacts.{clear_of}
use Rattle.edit_sort.proofs.FileFacts.{AreLaid, length-items, read_in_order}
use Rattle.edit_sort.proofs.FirstFacts.{IsPlaced, keys_of, keys_of_items, keys_through, place_again, placed_items}
use Rattle.edit_sort.proofs.OneOrderFacts.{IsNotAfter, starts_in_order, up_from}
use Rattle.edit_sort.proofs.ParentFacts.{known_items, IsKnown}
use Rattle.edit_sort.proofs.SameOrderFacts.{AreUp, same_order}
use Rattle.edit_sort.proofs.SetFacts.{any_through}
use Rattle.edit_sort.proofs.StaysFacts.{gap_whole, in_order_stays, white_end}
use Rattle.edit_sort.proofs.StepFacts.{items_are, listed, listed_order}

-- ---- runs

has-append : (xs ys : List ℕ) → has_byte 64 (xs ++ ys) ≡ (has_byte 64 xs || has_byte 64 ys)
has-append xs ys = list_any-append (λ b. b == 64) xs ys

-- a text without an at sign has none after the white space at its start is removed
white_clear : (bytes : List ℕ) → has_byte 64 bytes ≡ false → has_byte 64 (without_white bytes) ≡ false
white_clear bytes clear =
    let end = white_end bytes in
    or_false_right (has_byte 64 end.0) (has_byte 64 (without_white bytes))
    (sym (has-append end.0 (without_white bytes)) ∙ sym (ap (has_byte 64) end.1) ∙ clear)

comment_clear : (is_first : Bool) (gap : List ℕ) → has_byte 64 (comment_in is_first gap) ≡ false
comment_clear is_first gap = by_run (begins_run is_first gap) refl
  where
    near : List ℕ
    near = after_blank_line gap

    by_sign : (c : Bool) → has_block_sign near ≡ c → has_byte 64 (cond c [] (without_white near)) ≡ false
    by_sign true is = refl
    by_sign false is = white_clear near (clear_of near is).at

    by_run : (c : Bool) → begins_run is_first gap ≡ c → has_byte 64 (cond c (near_comment near) (without_white gap)) ≡ false
    by_run true is = by_sign (has_block_sign near) refl
    by_run false is = white_clear gap (or_false_right is_first (has_byte 64 gap) is)

-- a comment without an at sign after a space doesn't change the run
run_of_space : (run : ℕ) (space comment : List ℕ) → has_byte 64 comment ≡ false → run_after run (space ++ comment) ≡ run_after run space
run_of_space run space comment clear =
    ap (λ b. cond b (run + 1) run) (has-append space comment ∙ ap (λ b. has_byte 64 space || b) clear ∙ or-false (has_byte 64 space))

abbrev AreRuns : ℕ → List (List ℕ) → List Item → Type 0
AreRuns run [] [] = Unit {0}
AreRuns run [] (i ∷ rest) = ⊥
AreRuns run (s ∷ ss) [] = ⊥
AreRuns run (s ∷ ss) (i ∷ rest) = (i.run ≡ run_after run s) × AreRuns (run_after run s) ss rest

same_runs : (run : ℕ) (spaces : List (List ℕ)) (xs ys : List Item) → AreRuns run spaces xs → AreRuns run spaces ys
    → map (λ i. i.run) xs ≡ map (λ i. i.run) ys
same_runs run [] [] [] runs runs' = refl
same_runs run [] [] (y ∷ ys) runs runs' = absurd runs'
same_runs run [] (x ∷ xs) ys runs runs' = absurd runs
same_runs run (s ∷ ss) [] ys runs runs' = absurd runs
same_runs run (s ∷ ss) (x ∷ xs) [] runs runs' = absurd runs'
same_runs run (s ∷ ss) (x ∷ xs) (y ∷ ys) runs runs' =
    ap (λ n. n ∷ map (λ i. i.run) xs) (runs.0 ∙ sym runs'.0) ∙ ap (λ l. y.run ∷ l) (same_runs (run_after run s) ss xs ys runs.1 runs'.1)

old_runs : (all : List EntryReading) (text places : List ℕ) (index at run : ℕ) (es : List EntryReading)
    → AreRuns run (spaces_from text index at es) (items_from all text places index at run es)
old_runs all text places index at run [] = tt
old_runs all text places index at run (e ∷ es) =
    let gap = gap_before text at e in
    let space = space_in (index == 0) gap in
    let same : run_after run gap ≡ run_after run space =
    ap (run_after run) (sym (gap_whole (index == 0) gap))
    ∙ run_of_space run space (comment_in (index == 0) gap) (comment_clear (index == 0) gap) in (
      same,
      subst
          (λ n.
          AreRuns n (spaces_from text (index + 1) (e.end + 1) es)
          (items_from all text places (index + 1) (e.end + 1) (run_after run gap) es)) same
          (old_runs all text places (index + 1) (e.end + 1) (run_after run gap) es),
    )

IsClear : Item → Type 0
IsClear i = has_byte 64 i.comment ≡ false

new_runs : (all : List EntryReading) (text places : List ℕ) (index at run : ℕ) (es : List EntryReading)
    (spaces : List (List ℕ)) (order : List Item) → AreLaid text at es spaces order → AllByRecursion IsClear order
    → AreRuns run spaces (items_from all text places index at run es)
unfolding IsClear
new_runs all text places index at run [] [] [] laid clear = tt
new_runs all text places index at run [] [] (i ∷ order) laid clear = absurd laid
new_runs all text places index at run [] (s ∷ ss) order laid clear = absurd laid
new_runs all text places index at run (e ∷ es) [] order laid clear = absurd laid
new_runs all text places index at run (e ∷ es) (s ∷ ss) [] laid clear = absurd laid
new_runs all text places index at run (e ∷ es) (s ∷ ss) (i ∷ order) laid clear =
    let gap = gap_before text at e in
    let same : run_after run gap ≡ run_after run s = ap (run_after run) laid.0 ∙ run_of_space run s i.comment clear.0 in (
      same,
      subst (λ n. AreRuns n ss (items_from all text places (index + 1) (e.end + 1) (run_after run gap) es)) same
          (new_runs all text places (index + 1) (e.end + 1) (run_after run gap) es ss order laid.1 clear.1),
    )

clear_from : (all : List EntryReading) (text places : List ℕ) (index at run : ℕ)
    (es : List EntryReading) → AllByRecursion IsClear (items_from all text places index at run es)
unfolding IsClear
clear_from all text places index at run [] = tt
clear_from all text places index at run (e ∷ es) = (
  comment_clear (index == 0) (gap_before text at e),
  clear_from all text places (index + 1) (e.end + 1) (run_after run (gap_before text at e)) es,
)

-- ---- the numbers of runs never fall

run_more : (b : Bool) (run : ℕ) → run ≤ cond b (run + 1) run
run_more true run = omega arith
run_more false run = omega arith

runs_above : (all : List EntryReading) (text places : List ℕ) (index at run low : ℕ)
    (es : List EntryReading) → low ≤ run
    → AllByRecursion (λ n. low ≤ n) (map (λ i. i.run) (items_from all text places index at run es))
runs_above all text places index at run low [] below = tt
runs_above all text places index at run low (e ∷ es) below =
    let more : low ≤ run_after run (gap_before text at e) = omega (arith, run_more (has_byte 64 (gap_before text at e)) run) in
    (more, runs_above all text places (index + 1) (e.end + 1) (run_after run (gap_before text at e)) low es more)

pub runs_up : (all : List EntryReading) (text places : List ℕ) (index at run : ℕ) (es : List EntryReading)
    → AreUp (λ m n. m ≤ n) (map (λ i. i.run) (items_from all text places index at run es))
runs_up all text places index at run [] = tt
runs_up all text places index at run (e ∷ es) =
    let next = run_after run (gap_before text at e) in
    (runs_above all text places (index + 1) (e.end + 1) next next es (omega arith), runs_up all text places (index + 1) (e.end + 1) next es)

run_below : (x y : Item) → IsNotAfter x y → x.run ≤ y.run
run_below x y up =
    elim (cases_lt y.run x.run) [
      | inr fits ↦ fits
      | inl over ↦
          let less : nat_cmp y.run x.run ≡ Less = sym (nat_cmp_is y.run x.run Less over) in
          let rest =
          ordering_then (nat_cmp y.rank x.rank)
          (ordering_then (nat_cmp y.place x.place) (nat_cmp y.entry.start x.entry.start)) in
          let clash : true ≡ false = sym (ap (λ o. is_lt (ordering_then o rest)) less) ∙ up in
          absurd (cc)
    ]

below_all : (x : Item) (xs : List Item) → AllByRecursion (IsNotAfter x) xs → AllByRecursion (λ n. x.run ≤ n) (map (λ i. i.run) xs)
below_all x [] up = tt
below_all x (y ∷ ys) up = (run_below x y up.0, below_all x ys up.1)

order_up : (xs : List Item) → AreUp IsNotAfter xs → AreUp (λ m n. m ≤ n) (map (λ i. i.run) xs)
order_up [] up = tt
order_up (x ∷ xs) up = (below_all x xs up.0, order_up xs up.1)

all_units : (ns : List ℕ) → AllByRecursion (λ n. Unit {0}) ns
all_units [] = tt
all_units (n ∷ ns) = (tt, all_units ns)

pub runs_in_order : (d : Document) (places : List ℕ) (order : List Item) → AreEntriesInOrder (items d places) order
    → map (λ i. i.run) (items d places) ≡ map (λ i. i.run) order
runs_in_order d places order in_order =
    let runs = λ (xs : List Item). map (λ i. i.run) xs in
    let rise : AreUp (λ m n. m ≤ n) (runs (items d places)) =
    subst (λ l. AreUp (λ m n. m ≤ n) (map (λ (i : Item). i.run) l)) (sym (items_are d places))
    (runs_up d.says.entries d.text places 0 0 0 d.says.entries) in
    same_order (λ (n : ℕ). n) (λ n. Unit {0}) (λ m n. m ≤ n) (λ m n known known' same. same)
    (λ m n known known' up up'. omega (arith, up, up')) (runs (items d places)) (runs order) rise
    (order_up order (up_from order in_order.sorted)) (all_units (runs (items d places))) (all_units (runs order))
    (IsPermutation-map (λ i. i.run) (items d places) order in_order.permutation)

-- ---- places

same_places : (all all' : List EntryReading) (text places : List ℕ) (order : List Item) (index at run : ℕ) (es : List EntryReading)
    (left : List Item) → keys_of all' ≡ map (λ i. i.entry.key.text) order → AllByRecursion (IsPlaced all places) order
    → AllByRecursion (Contains order) left → keys_of es ≡ map (λ i. i.entry.key.text) left
    → map (λ i. i.place) (items_from all' text (map (λ i. i.place) order) index at run es) ≡ map (λ i. i.place) left
same_places all all' text places order index at run [] [] keys placed there same = refl
same_places all all' text places order index at run [] (i ∷ left) keys placed there same = absurd (cc)
same_places all all' text places order index at run (e ∷ es) [] keys placed there same = absurd (cc)
same_places all all' text places order index at run (e ∷ es) (i ∷ left) keys placed there same =
    let texts = map (λ (j : Item). j.entry.key.text) left in
    let here : e.key.text ≡ i.entry.key.text = head_same e.key.text i.entry.key.text (keys_of es) texts same in
    let places' = map (λ (j : Item). j.place) order in
    let rest = items_from all' text places' (index + 1) (e.end + 1) (run_after run (gap_before text at e)) es in
    ap (λ n. n ∷ map (λ j. j.place) rest) (place_again all all' places order e i keys placed there.0 here)
    ∙ ap (λ l. i.place ∷ l)
    (same_places all all' text places order (index + 1) (e.end + 1) (run_after run (gap_before text at e)) es left keys placed
    there.1 (rest_same e.key.text i.entry.key.text (keys_of es) texts same))

-- ---- ranks

entries_are : (all : List EntryReading) (text places : List ℕ) (index at run : ℕ)
    (es : List EntryReading) → map (λ i. i.entry) (items_from all text places index at run es) ≡ es
entries_are all text places index at run [] = refl
entries_are all text places index at run (e ∷ es) =
    ap (λ l. e ∷ l) (entries_are all text places (index + 1) (e.end + 1) (run_after run (gap_before text at e)) es)

abbrev without_places : List EntryReading → List EntryReading
without_places es = map (moved_entry (λ n. 0)) es

-- entries that are those of a sorted document except for byte offsets pass the same tests as the entries of the document
any_alike : (d : Document) (places : List ℕ) (order : List Item) (es : List EntryReading)
    → AreEntriesInOrder (items d places) order
    → without_places es ≡ without_places (map (λ i. i.entry) order) → PassAlike d.says.entries es
any_alike d places order es in_order alike p same =
    let m = moved_entry (λ n. 0) in
    let ordered = map (λ (i : Item). i.entry) order in
    let all = map (λ (i : Item). i.entry) (listed d places) in
    sym (any_through p m es (same m (moved_keeps (λ n. 0)))) ∙ ap (list_any p) alike
    ∙ any_through p m ordered (same m (moved_keeps (λ n. 0)))
    ∙ sym
    (list_any-IsPermutation p all ordered
    (IsPermutation-map (λ i. i.entry) (listed d places) order (listed_order d places order in_order).permutation))
    ∙ ap (list_any p) (entries_are d.says.entries d.text places 0 0 0 d.says.entries)

same_ranks : (all all' : List EntryReading) (text places : List ℕ) (index at run : ℕ)
    (es : List EntryReading) (order : List Item) → ((e : EntryReading) → rank all' e ≡ rank all e)
    → without_places es ≡ without_places (map (λ i. i.entry) order)
    → AllByRecursion (IsKnown all) order → map (λ i. i.rank) (items_from all' text places index at run es) ≡ map (λ i. i.rank) order
same_ranks all all' text places index at run [] [] ranks alike known = refl
same_ranks all all' text places index at run [] (i ∷ order) ranks alike known = absurd (cc)
same_ranks all all' text places index at run (e ∷ es) [] ranks alike known = absurd (cc)
same_ranks all all' text places index at run (e ∷ es) (i ∷ order) ranks alike known =
    let m = moved_entry (λ n. 0) in
    let head : m e ≡ m i.entry = head_same (m e) (m i.entry) (without_places es) (without_places (map (λ j. j.entry) order)) alike in
    let rest = rest_same (m e) (m i.entry) (without_places es) (without_places (map (λ j. j.entry) order)) alike in
    let here : rank all' e ≡ i.rank =
    sym (rank_kept all' m (moved_keeps (λ n. 0)) e) ∙ ap (rank all') head ∙ rank_kept all' m (moved_keeps (λ n. 0)) i.entry
    ∙ ranks i.entry ∙ sym known.0.ranked in
    ap (λ n. n ∷ map (λ j. j.rank) (items_from all' text places (index + 1) (e.end + 1) (run_after run (gap_before text at e)) es)) here
    ∙ ap (λ l. i.rank ∷ l)
    (same_ranks all all' text places (index + 1) (e.end + 1) (run_after run (gap_before text at e)) es order ranks
    rest known.1)

-- ---- the order

not_less : (a b c s s' : Ordering) → is_lt (ordering_then a (ordering_then b (ordering_then c s))) ≡ false
    → s' ≡ Greater → is_lt (ordering_then a (ordering_then b (ordering_then c s'))) ≡ false
not_less Less b c s s' up last = up
not_less Greater b c s s' up last = refl
not_less Equal Less c s s' up last = up
not_less Equal Greater c s s' up last = refl
not_less Equal Equal Less s s' up last = up
not_less Equal Equal Greater s s' up last = refl
not_less Equal Equal Equal s s' up last = ap is_lt last

same_at : {B : Type 0} (f : Item → B) (xs ys : List Item) (n : ℕ) (d : Item) → map f xs ≡ map f ys → f (get_or xs n d) ≡ f (get_or ys n d)
same_at f xs ys n d same = sym (get_or-map f xs n d) ∙ ap (λ l. get_or l n (f d)) same ∙ get_or-map f ys n d

pub sorted_as : (xs ys : List Item) → map (λ i. i.run) xs ≡ map (λ i. i.run) ys
    → map (λ i. i.rank) xs ≡ map (λ i. i.rank) ys → map (λ i. i.place) xs ≡ map (λ i. i.place) ys
    → ((k j : ℕ) (i : Item) → k < j → j < length xs → (get_or xs k i).entry.start < (get_or xs j i).entry.start)
    → IsSorted item_cmp ys → IsSorted item_cmp xs
sorted_as xs ys runs ranks places rise sorted k d from within =
    let size : length xs ≡ length ys = sym (length-map xs (λ i. i.run)) ∙ ap length runs ∙ length-map ys (λ i. i.run) in
    let x = get_or xs k d in
    let x' = get_or xs (k + 1) d in
    let y = get_or ys k d in
    let y' = get_or ys (k + 1) d in
    let last : nat_cmp x'.entry.start x.entry.start ≡ Greater =
    sym (nat_cmp_is x'.entry.start x.entry.start Greater (rise k (k + 1) d (omega arith) within)) in
    let whole =
    λ (r r' n n' p p' : ℕ).
    is_lt
    (ordering_then (nat_cmp r' r)
    (ordering_then (nat_cmp n' n) (ordering_then (nat_cmp p' p) (nat_cmp x'.entry.start x.entry.start)))) in
    ap (λ r. whole r x'.run x.rank x'.rank x.place x'.place) (same_at (λ i. i.run) xs ys k d runs)
    ∙ ap (λ r. whole y.run r x.rank x'.rank x.place x'.place) (same_at (λ i. i.run) xs ys (k + 1) d runs)
    ∙ ap (λ n. whole y.run y'.run n x'.rank x.place x'.place) (same_at (λ i. i.rank) xs ys k d ranks)
    ∙ ap (λ n. whole y.run y'.run y.rank n x.place x'.place) (same_at (λ i. i.rank) xs ys (k + 1) d ranks)
    ∙ ap (λ p. whole y.run y'.run y.rank y'.rank p x'.place) (same_at (λ i. i.place) xs ys k d places)
    ∙ ap (λ p. whole y.run y'.run y.rank y'.rank y.place p) (same_at (λ i. i.place) xs ys (k + 1) d places)
    ∙ not_less (nat_cmp y'.run y.run) (nat_cmp y'.rank y.rank) (nat_cmp y'.place y.place)
    (nat_cmp y'.entry.start y.entry.start) (nat_cmp x'.entry.start x.entry.start)
    (sorted k d from (omega (arith, size))) last

-- the entries of a sorted text are in order by the places of its items
pub sorted_in_order : (d : Document) (places : List ℕ) (order : List Item) (again : FileReading)
    → IsDocument d → AreEntriesInOrder (items d places) order → IsRawReading (text_in_order d order) again
    → IsSorted item_cmp (items (record { text = text_in_order d order; says = again }) (map (λ i. i.place) order))
sorted_in_order d places order again read in_order read' =
    let text = text_in_order d order in
    let d' : Document = record { text = text; says = again } in
    let places' = map (λ (i : Item). i.place) order in
    let all = d.says.entries in
    let spaces = spaces_from d.text 0 0 all in
    let said = read_in_order d places order read in_order in
    let same : again ≡ said.reading = file_same read' said.read in
    let laid : AreLaid text 0 again.entries spaces order = subst (λ r. AreLaid text 0 r.entries spaces order) (sym same) said.laid in
    let alike : without_places again.entries ≡ without_places (map (λ i. i.entry) order) =
    ap (λ r. without_places r.entries) same ∙ ap (λ r. r.entries) said.alike in
    let clear = recursion_from_All IsClear order
    (All-permutation IsClear (listed d places) order (listed_order d places order in_order).permutation
    (All-from_recursion IsClear (listed d places) (clear_from all d.text places 0 0 0 all)))
    in
    let runs : map (λ (i : Item). i.run) (items d' places') ≡ map (λ (i : Item). i.run) order =
    ap (map (λ (i : Item). i.run)) (items_are d' places')
    ∙ same_runs 0 spaces (listed d' places') (listed d places)
    (new_runs again.entries text places' 0 0 0 again.entries spaces order laid clear)
    (old_runs all d.text places 0 0 0 all)
    ∙ ap (map (λ (i : Item). i.run)) (sym (items_are d places)) ∙ runs_in_order d places order in_order in
    let as_long : length again.entries ≡ length order =
    sym (length-map again.entries (moved_entry (λ n. 0))) ∙ ap length alike
    ∙ length-map (map (λ (i : Item). i.entry) order) (moved_entry (λ n. 0)) ∙ length-map order (λ i. i.entry) in
    let size : length again.entries ≡ length all =
    as_long ∙ length_permutation (listed d places) order (listed_order d places order in_order).permutation
    ∙ length-items all d.text places 0 0 0 all in
    let keys : keys_of again.entries ≡ map (λ (i : Item). i.entry.key.text) order =
    sym (keys_through (moved_entry (λ n. 0)) again.entries (λ e. refl)) ∙ ap keys_of alike
    ∙ keys_through (moved_entry (λ n. 0)) (map (λ (i : Item). i.entry) order) (λ e. refl)
    ∙ keys_of_items order in
    let ranks =
    ap (map (λ (i : Item). i.rank)) (items_are d' places')
    ∙ same_ranks all again.entries text places' 0 0 0 again.entries order
    (rank_alike all again.entries (any_alike d places order again.entries in_order alike) size) alike
    (known_items d places order in_order) in
    let named =
    ap (map (λ (i : Item). i.place)) (items_are d' places')
    ∙ same_places all again.entries text places order 0 0 0 again.entries order keys (placed_items d places order in_order)
    (recursion_from_All (Contains order) order (All-contains_itself order)) keys in
    sorted_as (items d' places') order runs ranks named (starts_in_order d' places' read') in_order.sorted

pub twice_is_once : (d : Document) (places : List ℕ) (order : List Item) (again : FileReading) (new : List ℕ)
    → IsDocument d → AreEntriesInOrder (items d places) order → IsRawReading (text_in_order d order) again
    → IsSortedText (record { text = text_in_order d order; says = again }) (map (λ i. i.place) order) new → new ≡ text_in_order d order
twice_is_once d places order again new read in_order read' sorted =
    in_order_stays (record { text = text_in_order d order; says = again }) (map (λ i. i.place) order) new read'
    (sorted_in_order d places order again read in_order read') sorted
