-- Removing the first entries with some keys at once gives the same text as removing them one after the other.
use Rattle.std.proofs.Common.{◌≡◌, ◌⊎◌, inl, inr, ℕ, zero, suc, ◌+◌, ◌<◌, ◌≤◌, Bool, true, false, cond, ◌&&◌, ◌||◌, not, List, [], ◌∷◌, ◌++◌, length, map, take, drop, refl, sym, ap, ◌∙◌, subst, arith, append_assoc, append-nil, Some}
use Rattle.std.specs.Prelude.{bytes_eq, slice_get}
use Rattle.std.specs.Char.{is_whitespace}
use Rattle.std.specs.List.{AllByRecursion, IsDistinct, list_all, list_any, remove}
use Rattle.std.proofs.Math.Bool.{or-false, or-true}
use Rattle.std.proofs.lemmas.Bool.{and_parts, cases_lt, or_parts}
use Rattle.std.proofs.lemmas.List.{map-append}
use Rattle.std.proofs.lemmas.List.Folds.{list_any-append}
use Rattle.bib_text.specs.Places.{Longest, Place, Run, Stops, place}
use Rattle.bib_text.proofs.BoundaryFacts.{Border}
use Rattle.bib_text.proofs.BytesFacts.{bytes_itself, bytes_same, bytes_turned}
use Rattle.bib_text.proofs.ListFacts.{any_mapped, get_here}
use Rattle.bib_text.proofs.PlaceFacts.{ahead_run, ahead_then, char_here, same_place}
use Rattle.bib_queries.specs.Needed.{is_listed}
use Rattle.bib_syntax.specs.Reading.{EntryReading}
use Rattle.edit_entries.specs.Documents.{Document, EntryRemoved, HasEntry, IsDocument, entry_removed, first_position, is_keyed, next_index}
use Rattle.edit_entries.specs.EditList.{AreEditsInOrder}
use Rattle.edit_entries.specs.Edits.{Edit, edited, edited_all, moved_entry, moved_place}
use Rattle.edit_entries.specs.RemovalLists.{entry_if}
use Rattle.edit_entries.specs.Selected.{AreRemovals, RemovedInTurn, has_each, is_first_with, passing_after}
use Rattle.edit_entries.proofs.AllFacts.{all_found}
use Rattle.edit_entries.proofs.EditFacts.{Fits, after_frame, before_frame, length-edited, moved_after, moved_before, zone_after, zone_before}
use Rattle.edit_entries.proofs.EntriesRemovedFacts.{passing_in_order, same_rest, stops_moved}
use Rattle.edit_entries.proofs.EntryFacts.{ahead_entry}
use Rattle.edit_entries.proofs.ExchangedFacts.{OrderAround, later_turned, moved_edit, order_around}
use Rattle.edit_entries.proofs.FirstFacts.{all_same, passing_first}
use Rattle.edit_entries.proofs.KeptFacts.{edited_append}
use Rattle.edit_entries.proofs.RemovedFacts.{after_run, entry_placed, entry_removed_read, file_border, taken_out}
use Rattle.edit_entries.proofs.SplitFacts.{ahead_file_before, split_file}
use Rattle.edit_entries.proofs.TrimmedFacts.{edits_earlier}
use Rattle.edit_entries.proofs.ZoneFacts.{Inside, inside, longest_there, run_there}

-- ---- the edits around one of them

record RemovalSplit (text : List ℕ) (first rest : List EntryReading) (e : EntryReading) (edits : List Edit) : Type 0 where
  earlier : List Edit
  end : ℕ
  later : List Edit
  before : AreRemovals text first earlier
  white : Longest is_whitespace (place text (e.end + 1)) (place text end)
  following : AreRemovals text rest later
  whole : edits ≡ earlier ++ (record { start = e.start; end = end; bytes = [] }) ∷ later

split_removals : (text : List ℕ) (first rest : List EntryReading) (e : EntryReading) (edits : List Edit)
    → AreRemovals text (first ++ e ∷ rest) edits → RemovalSplit text first rest e edits
split_removals text [] rest e [] removals = elim removals [ ]
split_removals text [] rest e (x ∷ xs) (AreRemovals.next {at = n} white others) = record {
  earlier = [];
  end = n;
  later = xs;
  before = AreRemovals.none;
  white = white;
  following = others;
  whole = refl;
}
split_removals text (f ∷ fs) rest e [] removals = elim removals [ ]
split_removals text (f ∷ fs) rest e (x ∷ xs) (AreRemovals.next {at = n} white others) =
    let more = split_removals text fs rest e xs others in
    record {
      earlier = x ∷ more.earlier;
      end = more.end;
      later = more.later;
      before = AreRemovals.next white more.before;
      white = more.white;
      following = more.following;
      whole = ap (λ l. x ∷ l) more.whole;
    }

removals_joined : (text : List ℕ) (es fs : List EntryReading) (xs ys : List Edit) → AreRemovals text es xs → AreRemovals text fs ys
    → AreRemovals text (es ++ fs) (xs ++ ys)
removals_joined text [] fs [] ys first second = second
removals_joined text [] fs (x ∷ xs) ys first second = elim first [ ]
removals_joined text (e ∷ es) fs [] ys first second = elim first [ ]
removals_joined text (e ∷ es) fs (x ∷ xs) ys (AreRemovals.next white rest) second =
    AreRemovals.next white (removals_joined text es fs xs ys rest second)

-- ---- one entry is removed first

module _ (d : Document) (k : ℕ) (e : EntryReading) (at : ℕ) (read : IsDocument d) (here : slice_get d.says.entries k ≡ Some e)
    (white : Longest is_whitespace (place d.text (e.end + 1)) (place d.text at)) where
  abbrev edit : Edit
  edit = record { start = e.start; end = at; bytes = [] }

  abbrev move : ℕ → ℕ
  move = moved_place edit

  abbrev new : List ℕ
  new = edited edit d.text

  module _ (ordered : e.start < at) (within : at ≤ length d.text) where
    sizes : e.start ≤ length d.text
    sizes = omega (arith, ordered, within)

    same : drop e.start new ≡ drop at d.text
    same = same_rest e.start at d.text sizes

    long : length new + at ≡ length d.text + (e.start + length {A = ℕ} [])
    long = length-edited edit d.text (omega (arith, ordered)) within

    -- a character or the end of the text is after the white space after the entry
    border : Border (place d.text at)
    border =
        let s = split_file k e read here in
        let b = s.block in
        let to_end = ahead_then (ahead_file_before s.first) (ahead_entry b) in
        let closing : s.end.at ≡ e.end + 1 = omega (arith, b.closes.next, b.ends) in
        let end_is : s.end ≡ place d.text (e.end + 1) = same_place {u = s.end} {v = place d.text (e.end + 1)} to_end.text closing in
        file_border (after_run (subst (λ p. Run is_whitespace p (place d.text at)) (sym end_is) white.run) s.rest)

    border_there : Border (place d.text at) → Border (place new e.start)
    border_there (inl end) = inl (omega (arith, end, long))
    border_there (inr found) = inr (found.0, _, char_here new (drop found.1.at d.text) e.start found.0 (same ∙ found.2.here))

    fits : Fits edit d.text
    fits = record { ordered = omega (arith, ordered); within = within; border = border_there border }

    inside_before : (n : ℕ) → n ≤ e.start → Inside (before_frame edit d.text) (place d.text n)
    inside_before n small = record {
      text = refl;
      start = omega arith;
      end = small;
      moved = ap (λ m. m + 0) (moved_before edit n (omega (arith, small, ordered)));
    }

    -- white space before the entry is as long as before
    white_before : (a n : ℕ) → n ≤ e.start → Longest is_whitespace (place d.text a) (place d.text n)
        → Longest is_whitespace (place new a) (place new n)
    white_before a n small w =
        let forward : a ≤ n = (ahead_run w.run).at in
        let z = zone_before edit d.text fits in
        let ia = inside_before a (omega (arith, small, forward)) in
        let iv = inside_before n small in
        let first : move a ≡ a = moved_before edit a (omega (arith, small, forward, ordered)) in
        let last : move n ≡ n = moved_before edit n (omega (arith, small, ordered)) in
        let back : Longest is_whitespace (place new (move a)) (place new (move n)) → Longest is_whitespace (place new a) (place new n) =
        λ (l : Longest is_whitespace (place new (move a)) (place new (move n))).
        subst (λ m. Longest is_whitespace (place new m) (place new n)) first
        (subst (λ m. Longest is_whitespace (place new (move a)) (place new m)) last l) in
        elim (cases_lt n e.start) [
          | inl below ↦ back (longest_there z ia iv below w)
          | inr past ↦
              let is : e.start ≡ n = omega (arith, past, small) in
              let stops : Stops is_whitespace (place new e.start) =
              stops_moved is_whitespace d.text new at e.start (sym same) white.stops in
              back (record {
                run = run_there z ia iv w.run;
                stops = subst (λ m. Stops is_whitespace (place new m)) (is ∙ sym last) stops;
              })
        ]

    before_kept : (es : List EntryReading) (edits : List Edit) → AllByRecursion (λ y. y.start ≤ y.end) es
        → AllByRecursion (λ a. a.end ≤ e.start) edits → AreRemovals d.text es edits
        → AreRemovals new (map (moved_entry move) es) edits
    before_kept [] [] placed small removals = AreRemovals.none
    before_kept [] (a ∷ rest) placed small removals = elim removals [ ]
    before_kept (y ∷ ys) [] placed small removals = elim removals [ ]
    before_kept (y ∷ ys) (a ∷ rest) placed small (AreRemovals.next {at = n} w others) =
        let forward : y.end + 1 ≤ n = (ahead_run w.run).at in
        let low : n ≤ e.start = small.0 in
        let start : move y.start ≡ y.start = moved_before edit y.start (omega (arith, placed.0, forward, low, ordered)) in
        let end : move y.end ≡ y.end = moved_before edit y.end (omega (arith, forward, low, ordered)) in
        let w' : Longest is_whitespace (place new (move y.end + 1)) (place new n) =
        subst (λ m. Longest is_whitespace (place new (m + 1)) (place new n)) (sym end) (white_before (y.end + 1) n low w) in
        let one : (s : ℕ) → Edit = λ (s : ℕ). record { start = s; end = n; bytes = [] } in
        subst (λ s. AreRemovals new (map (moved_entry move) (y ∷ ys)) (one s ∷ rest)) start
        (AreRemovals.next {e = moved_entry move y} w' (before_kept ys rest placed.1 small.1 others))

    after_moved : (es : List EntryReading) (edits : List Edit) → AllByRecursion (λ y. y.start ≤ y.end) es
        → AreEditsInOrder d.text at edits → AreRemovals d.text es edits
        → AreRemovals new (map (moved_entry move) es) (map (moved_edit move) edits)
    after_moved [] [] placed order removals = AreRemovals.none
    after_moved [] (a ∷ rest) placed order removals = elim removals [ ]
    after_moved (y ∷ ys) [] placed order removals = elim removals [ ]
    after_moved (y ∷ ys) (a ∷ rest) placed order (AreRemovals.next {at = n} w others) =
        let forward : y.end + 1 ≤ n = (ahead_run w.run).at in
        let end : n ≤ length d.text = order.3.0 in
        let low : at ≤ y.start = order.0 in
        let past : at ≤ y.end = omega (arith, low, placed.0) in
        let z = zone_after edit d.text (omega (arith, ordered)) within in
        let iu : Inside (after_frame edit d.text) (place d.text (y.end + 1)) =
        inside z refl (omega (arith, past)) (omega (arith, forward, end)) in
        let iv : Inside (after_frame edit d.text) (place d.text n) = inside z refl (omega (arith, past, forward)) (omega (arith, end)) in
        let next : move (y.end + 1) ≡ move y.end + 1 =
        omega (arith, moved_after edit (y.end + 1) (omega (arith, past)), moved_after edit y.end past) in
        let w' : Longest is_whitespace (place new (move y.end + 1)) (place new (move n)) =
        subst (λ m. Longest is_whitespace (place new m) (place new (move n))) next
        (longest_there z iu iv (omega (arith, end)) w) in
        AreRemovals.next {e = moved_entry move y} w'
        (after_moved ys rest placed.1
        (edits_earlier d.text n at rest (omega (arith, past, forward)) order.4) others)

-- ---- the first entries with the other keys

-- two lists of entries have the same keys, except for one
abbrev SameKeys : List ℕ → List EntryReading → List EntryReading → Type 0
SameKeys key b b' = (other : List ℕ) → bytes_eq key other ≡ false → list_any (is_keyed other) b ≡ list_any (is_keyed other) b'

module _ (key : List ℕ) (keys : List (List ℕ)) (unlisted : is_listed keys key ≡ false) (move : ℕ → ℕ) where
  same_keys_more : (b b' : List EntryReading) (x : EntryReading) → SameKeys key b b'
      → SameKeys key (b ++ x ∷ []) (b' ++ moved_entry move x ∷ [])
  same_keys_more b b' x same other differs =
      list_any-append (is_keyed other) b (x ∷ []) ∙ ap (λ t. t || list_any (is_keyed other) (x ∷ [])) (same other differs)
      ∙ sym (list_any-append (is_keyed other) b' (moved_entry move x ∷ []))

  test_same : (b b' : List EntryReading) (x : EntryReading) → SameKeys key b b'
      → (bytes_eq key x.key.text ≡ true → list_any (is_keyed x.key.text) b ≡ true)
      → is_first_with (key ∷ keys) b x ≡ is_first_with keys b' (moved_entry move x)
  test_same b b' x same before = by_case (bytes_eq key x.key.text) refl
    where
      by_case : (c : Bool) → bytes_eq key x.key.text ≡ c
          → ((c || is_listed keys x.key.text) && not (list_any (is_keyed x.key.text) b))
          ≡ (is_listed keys x.key.text && not (list_any (is_keyed x.key.text) b'))
      by_case true is =
          ap not (before is)
          ∙ sym
          (ap (λ t. t && not (list_any (is_keyed x.key.text) b'))
          (ap (is_listed keys) (sym (bytes_same key x.key.text is)) ∙ unlisted))
      by_case false is = ap (λ t. is_listed keys x.key.text && not t) (same x.key.text is)

  -- the first entries with the other keys are the same in both lists
  passing_same : (b b' xs : List EntryReading) → SameKeys key b b'
      → (list_any (is_keyed key) b ≡ true) ⊎ (list_any (is_keyed key) xs ≡ false)
      → passing_after (is_first_with keys) b' (map (moved_entry move) xs)
      ≡ map (moved_entry move) (passing_after (is_first_with (key ∷ keys)) b xs)
  passing_same b b' [] same side = refl
  passing_same b b' (x ∷ xs) same side =
      let view : EntryReading → EntryReading = moved_entry move in
      let others : List EntryReading = passing_after (is_first_with keys) (b' ++ view x ∷ []) (map view xs) in
      let passes : Bool = is_first_with (key ∷ keys) b x in
      ap (λ t. cond t (view x ∷ others) others) (sym (test_same b b' x same (before side)))
      ∙ ap (λ l. cond passes (view x ∷ l) l) (passing_same (b ++ x ∷ []) (b' ++ view x ∷ []) xs (same_keys_more b b' x same) (next side))
      ∙ mapped passes (passing_after (is_first_with (key ∷ keys)) (b ++ x ∷ []) xs)
    where
      mapped : (c : Bool) (l : List EntryReading)
          → cond c (moved_entry move x ∷ map (moved_entry move) l) (map (moved_entry move) l) ≡ map (moved_entry move) (cond c (x ∷ l) l)
      mapped true l = refl
      mapped false l = refl

      before : (list_any (is_keyed key) b ≡ true) ⊎ (list_any (is_keyed key) (x ∷ xs) ≡ false)
          → bytes_eq key x.key.text ≡ true → list_any (is_keyed x.key.text) b ≡ true
      before (inl there) is = ap (λ k. list_any (is_keyed k) b) (sym (bytes_same key x.key.text is)) ∙ there
      before (inr none) is =
          absurd
          (let clash : true ≡ false =
          sym is ∙ bytes_turned key x.key.text ∙ (or_parts (is_keyed key x) (list_any (is_keyed key) xs) none).0 in cc)

      next : (list_any (is_keyed key) b ≡ true) ⊎ (list_any (is_keyed key) (x ∷ xs) ≡ false)
          → (list_any (is_keyed key) (b ++ x ∷ []) ≡ true) ⊎ (list_any (is_keyed key) xs ≡ false)
      next (inl there) =
          inl (list_any-append (is_keyed key) b (x ∷ []) ∙ ap (λ t. t || list_any (is_keyed key) (x ∷ [])) there)
      next (inr none) = inr (or_parts (is_keyed key x) (list_any (is_keyed key) xs) none).1

passing_append : (test : List EntryReading → EntryReading → Bool) (b xs ys : List EntryReading)
    → passing_after test b (xs ++ ys) ≡ passing_after test b xs ++ passing_after test (b ++ xs) ys
passing_append test b [] ys = ap (λ l. passing_after test l ys) (sym (append-nil b))
passing_append test b (x ∷ xs) ys =
    ap (λ l. cond (test b x) (x ∷ l) l)
    (passing_append test (b ++ x ∷ []) xs ys
    ∙ ap (λ l. passing_after test (b ++ x ∷ []) xs ++ passing_after test l ys) (append_assoc b (x ∷ []) xs))
    ∙ joined (test b x) (passing_after test (b ++ x ∷ []) xs) (passing_after test (b ++ (x ∷ xs)) ys)
  where
    joined : (c : Bool) (p q : List EntryReading) → cond c (x ∷ (p ++ q)) (p ++ q) ≡ cond c (x ∷ p) p ++ q
    joined true p q = refl
    joined false p q = refl

passing_all : (P : EntryReading → Type 0) (test : List EntryReading → EntryReading → Bool) (b xs : List EntryReading)
    → AllByRecursion P xs → AllByRecursion P (passing_after test b xs)
passing_all P test b [] all = tt
passing_all P test b (x ∷ xs) all = by_case (test b x) (passing_all P test (b ++ x ∷ []) xs all.1)
  where
    by_case : (c : Bool) → AllByRecursion P (passing_after test (b ++ x ∷ []) xs)
        → AllByRecursion P (cond c (x ∷ passing_after test (b ++ x ∷ []) xs) (passing_after test (b ++ x ∷ []) xs))
    by_case true rest = (all.0, rest)
    by_case false rest = rest

all_first : (P : EntryReading → Type 0) (xs ys : List EntryReading) → AllByRecursion P (xs ++ ys) → AllByRecursion P xs
all_first P [] ys all = tt
all_first P (x ∷ xs) ys all = (all.0, all_first P xs ys all.1)

all_last : (P : EntryReading → Type 0) (xs ys : List EntryReading) → AllByRecursion P (xs ++ ys) → AllByRecursion P ys
all_last P [] ys all = all
all_last P (x ∷ xs) ys all = all_last P xs ys all.1

-- ---- the first entry with a key

record FirstKeyed (key : List ℕ) (es : List EntryReading) : Type 0 where
  before : List EntryReading
  entry : EntryReading
  rest : List EntryReading
  whole : es ≡ before ++ entry ∷ rest
  is : is_keyed key entry ≡ true
  none : list_any (is_keyed key) before ≡ false
  first : first_position (is_keyed key) es ≡ Some (length before)

first_keyed : (key : List ℕ) (es : List EntryReading) → list_any (is_keyed key) es ≡ true → FirstKeyed key es
first_keyed key [] found = absurd (let clash : false ≡ true = found in cc)
first_keyed key (x ∷ xs) found = by_case (is_keyed key x) refl (first_keyed key xs)
  where
    by_case : (c : Bool) → is_keyed key x ≡ c → (list_any (is_keyed key) xs ≡ true → FirstKeyed key xs) → FirstKeyed key (x ∷ xs)
    by_case true is later = record {
      before = [];
      entry = x;
      rest = xs;
      whole = refl;
      is = is;
      none = refl;
      first = ap (λ c. cond c (Some 0) (next_index (first_position (is_keyed key) xs))) is;
    }
    by_case false is later =
        let more = later (sym (ap (λ c. c || list_any (is_keyed key) xs) is) ∙ found) in
        record {
          before = x ∷ more.before;
          entry = more.entry;
          rest = more.rest;
          whole = ap (λ l. x ∷ l) more.whole;
          is = more.is;
          none = ap (λ c. c || list_any (is_keyed key) more.before) is ∙ more.none;
          first = ap (λ c. cond c (Some 0) (next_index (first_position (is_keyed key) xs))) is ∙ ap next_index more.first;
        }

-- a key that differs from some others isn't one of them
not_listed : (key : List ℕ) (keys : List (List ℕ)) → AllByRecursion (λ other. bytes_eq key other ≡ false) keys → is_listed keys key ≡ false
not_listed key [] differs = refl
not_listed key (other ∷ keys) differs =
    ap (λ c. c || is_listed keys key) (sym (bytes_turned key other) ∙ differs.0) ∙ not_listed key keys differs.1

-- a listed key differs from one that isn't listed
listed_differs : (key other : List ℕ) (keys : List (List ℕ)) → is_listed keys key ≡ false → is_listed keys other ≡ true
    → bytes_eq key other ≡ false
listed_differs key other keys none there = by_case (bytes_eq key other) refl
  where
    by_case : (c : Bool) → bytes_eq key other ≡ c → c ≡ false
    by_case true is =
        absurd (let clash : false ≡ true = sym none ∙ ap (is_listed keys) (bytes_same key other is) ∙ there in cc)
    by_case false is = refl

none_pass : (b es : List EntryReading) → passing_after (is_first_with []) b es ≡ []
none_pass b [] = refl
none_pass b (e ∷ es) = none_pass (b ++ e ∷ []) es

no_edits : (text : List ℕ) (edits : List Edit) → AreRemovals text [] edits → edits ≡ []
no_edits text [] removals = refl
no_edits text (x ∷ xs) removals = elim removals [ ]

-- ---- all entries

pub in_turn : (keys : List (List ℕ)) (d : Document) (edits : List Edit) → IsDocument d → IsDistinct bytes_eq keys
    → has_each d.says.entries keys ≡ true → AreRemovals d.text (passing_after (is_first_with keys) [] d.says.entries) edits
    → (last : Document) × RemovedInTurn keys d last × IsDocument last × (last.text ≡ edited_all edits d.text)
unfolding IsDistinct
in_turn [] d edits read distinct found removals =
    let none : edits ≡ [] = no_edits d.text edits (subst (λ es. AreRemovals d.text es edits) (none_pass [] d.says.entries) removals) in
    (d, RemovedInTurn.none, read, ap (λ es. edited_all es d.text) (sym none))
in_turn (key ∷ keys) d edits read distinct found removals =
    let f = first_keyed key d.says.entries (and_parts _ _ found).0 in
    let e : EntryReading = f.entry in
    let k : ℕ = length f.before in
    let here : slice_get d.says.entries k ≡ Some e = ap (λ l. slice_get l k) f.whole ∙ get_here f.before e f.rest in
    let test : List EntryReading → EntryReading → Bool = is_first_with (key ∷ keys) in
    let other : List EntryReading → EntryReading → Bool = is_first_with keys in
    let P : List EntryReading = passing_after test [] f.before in
    let Q : List EntryReading = passing_after test (f.before ++ e ∷ []) f.rest in
    let named : e.key.text ≡ key = bytes_same e.key.text key f.is in
    let passes : test f.before e ≡ true =
    ap (λ n. is_listed (key ∷ keys) n && not (list_any (is_keyed n) f.before)) named
    ∙ ap (λ c. (c || is_listed keys key) && not (list_any (is_keyed key) f.before)) (bytes_itself key) ∙ ap not f.none in
    let parts : passing_after test [] d.says.entries ≡ P ++ e ∷ Q =
    ap (passing_after test []) f.whole ∙ passing_append test [] f.before (e ∷ f.rest)
    ∙ ap (λ l. P ++ l) (passing_first test f.before f.rest e ∙ ap (λ c. entry_if c e ++ Q) passes) in
    let split = split_removals d.text P Q e edits (subst (λ es. AreRemovals d.text es edits) parts removals) in
    let x : Edit = record { start = e.start; end = split.end; bytes = [] } in
    let move : ℕ → ℕ = moved_place x in
    let view : EntryReading → EntryReading = moved_entry move in
    let order = order_around d.text 0 split.earlier x split.later
    (subst (AreEditsInOrder d.text 0) split.whole (passing_in_order d read test edits removals)) in
    let placed : AllByRecursion (λ y. y.start ≤ y.end) (f.before ++ e ∷ f.rest) =
    subst (AllByRecursion (λ y. y.start ≤ y.end)) f.whole
    (all_found (λ y. y.start ≤ y.end) d.says.entries (λ i y there. (entry_placed d i y read there).ordered)) in
    let first_placed =
    passing_all (λ y. y.start ≤ y.end) test [] f.before (all_first (λ y. y.start ≤ y.end) f.before (e ∷ f.rest) placed) in
    let last_placed = all_last (λ y. y.start ≤ y.end) f.before (e ∷ f.rest) placed in
    let rest_placed = passing_all (λ y. y.start ≤ y.end) test (f.before ++ e ∷ []) f.rest last_placed.1 in
    let forward : e.end + 1 ≤ split.end = (ahead_run split.white.run).at in
    let ordered : e.start < split.end = omega (arith, last_placed.0, forward) in
    let next : Document = entry_removed d k e split.end in
    let listed : next.says.entries ≡ map view f.before ++ map view f.rest =
    ap (λ l. remove (map view l) k) f.whole ∙ taken_out view f.before f.rest e k refl in
    let unlisted : is_listed keys key ≡ false = not_listed key keys distinct.0 in
    let same : SameKeys key (f.before ++ e ∷ []) (map view f.before) = λ name differs.
    list_any-append (is_keyed name) f.before (e ∷ [])
    ∙ ap (λ c. list_any (is_keyed name) f.before || (c || false)) (ap (λ n. bytes_eq n name) named ∙ differs)
    ∙ or-false (list_any (is_keyed name) f.before) ∙ sym (any_mapped view (is_keyed name) f.before) in
    let there : list_any (is_keyed key) (f.before ++ e ∷ []) ≡ true =
    list_any-append (is_keyed key) f.before (e ∷ []) ∙ ap (λ c. list_any (is_keyed key) f.before || (c || false)) f.is
    ∙ or-true (list_any (is_keyed key) f.before) in
    let left : passing_after other [] next.says.entries ≡ map view P ++ map view Q =
    ap (passing_after other []) listed ∙ passing_append other [] (map view f.before) (map view f.rest)
    ∙ ap (λ l. l ++ passing_after other (map view f.before) (map view f.rest))
    (passing_same key keys unlisted move [] [] f.before (λ name differs. refl) (inr f.none))
    ∙ ap (λ l. map view P ++ l)
    (passing_same key keys unlisted move (f.before ++ e ∷ []) (map view f.before) f.rest same (inl there)) in
    let edits' : List Edit = split.earlier ++ map (moved_edit move) split.later in
    let removals' : AreRemovals next.text (passing_after other [] next.says.entries) edits' =
    subst (λ es. AreRemovals next.text es edits') (sym left)
    (removals_joined next.text (map view P) (map view Q) split.earlier (map (moved_edit move) split.later)
    (before_kept d k e split.end read here split.white ordered order.within P split.earlier first_placed order.before split.before)
    (after_moved d k e split.end read here split.white ordered order.within Q split.later rest_placed order.following split.following)) in
    let found' : has_each next.says.entries keys ≡ true =
    ap (λ es. has_each es keys) listed
    ∙ all_same (λ name. list_any (is_keyed name) (map view f.before ++ map view f.rest))
    (λ name. list_any (is_keyed name) d.says.entries) keys
    (λ name is.
    let absent : is_keyed name e ≡ false = ap (λ n. bytes_eq n name) named ∙ listed_differs key name keys unlisted is in
    list_any-append (is_keyed name) (map view f.before) (map view f.rest)
    ∙ ap (λ c. c || list_any (is_keyed name) (map view f.rest)) (any_mapped view (is_keyed name) f.before)
    ∙ ap (λ c. list_any (is_keyed name) f.before || c) (any_mapped view (is_keyed name) f.rest)
    ∙ ap (λ c. list_any (is_keyed name) f.before || (c || list_any (is_keyed name) f.rest)) (sym absent)
    ∙ sym (list_any-append (is_keyed name) f.before (e ∷ f.rest)) ∙ ap (list_any (is_keyed name)) (sym f.whole))
    ∙ (and_parts _ _ found).1 in
    let later = in_turn keys next edits' (entry_removed_read d k e split.end read here split.white) distinct.1 found' removals' in
    let has : HasEntry d key k e = record { first = f.first; here = here } in
    let text : edited_all edits' next.text ≡ edited_all edits d.text =
    edited_append split.earlier (map (moved_edit move) split.later) next.text
    ∙ ap (edited_all split.earlier) (later_turned x split.later d.text order.ordered order.following)
    ∙ sym (edited_append split.earlier (x ∷ split.later) d.text) ∙ ap (λ es. edited_all es d.text) (sym split.whole) in
    (later.0, RemovedInTurn.next (EntryRemoved.removed has split.white) later.1, later.2, later.3 ∙ text)
