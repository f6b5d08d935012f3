-- The entries with selected keys are removed, from the last to the first.
use Rattle.std.proofs.Common.{◌≡◌, ◌⊎◌, inl, inr, ℕ, zero, suc, ◌+◌, ◌<◌, ◌≤◌, Bool, true, false, cond, List, [], ◌∷◌, ◌++◌, length, map, take, drop, refl, sym, ap, ◌∙◌, subst, arith, append_assoc, length-append, Some, Result, Ok, Err}
use Rattle.std.specs.Prelude.{IfOk, filter, not, option_map, slice_get}
use Rattle.std.specs.Char.{is_whitespace}
use Rattle.std.specs.List.{remove}
use Rattle.std.proofs.lemmas.List.{drop_at, map-append, length-take-le}
use Rattle.std.proofs.lemmas.Option.{slice_get-map}
use Rattle.bib_text.specs.Places.{CharAt, Longest, Place, Run, Stops, place}
use Rattle.bib_text.proofs.ListFacts.{get_here, remove_mapped}
use Rattle.bib_text.proofs.PlaceFacts.{ahead_char, ahead_run, ahead_then, char_here, same_place, stops_at, stops_at_end, char_within}
use Rattle.bib_syntax.specs.Reading.{EntryReading, FileReading}
use Rattle.bib_syntax.specs.Grammar.{Block, File, longest}
use Rattle.bib_syntax.specs.Grammar.{File as file}
use Rattle.bib_syntax.proofs.FieldFacts.{ahead_identifier}
use Rattle.bib_syntax.proofs.FileFacts.{ahead_body}
use Rattle.edit_entries.specs.Cuts.{AreEntriesCut}
use Rattle.edit_entries.specs.Documents.{Document, IsDocument, IsEdited, entry_removed}
use Rattle.edit_entries.specs.EditList.{AreEditsInOrder}
use Rattle.edit_entries.specs.Edits.{Edit, edited, edited_all, moved_entry, moved_file, moved_place, placeless}
use Rattle.edit_entries.specs.Selected.{AreRemovals, EntriesRemoved, FirstsRemoved, has_each, has_selected_key, is_first_with, passing_after}
use Rattle.edit_entries.proofs.AgreementFacts.{same_bytes, same_character, same_run}
use Rattle.edit_entries.proofs.ByEntriesFacts.{ByEntries, by_entries}
use Rattle.edit_entries.proofs.CutFacts.{cut_file, document_cut, entries_cut}
use Rattle.edit_entries.proofs.EditFacts as after
use Rattle.edit_entries.proofs.EditFacts.{front, moved_before}
use Rattle.edit_entries.proofs.EntryFacts.{ahead_entry}
use Rattle.edit_entries.proofs.KeptFacts.{entry_inside, entry_stays, within_earlier, within_order}
use Rattle.edit_entries.proofs.MadeFacts.{of_entries}
use Rattle.edit_entries.proofs.PlacelessFacts.{file_placeless}
use Rattle.edit_entries.proofs.RemovalFacts.{get_remove_before}
use Rattle.edit_entries.proofs.RemovedFacts.{after_run, entry_removed_read, taken_out}
use Rattle.edit_entries.proofs.SelectedFacts.{Chain, chain_kept}
use Rattle.edit_entries.proofs.SplitFacts.{FileBefore, ahead_file_before, split_file}

-- ---- the start of the next entry

-- the byte offset at which the first of these entries begins, or else `end`
abbrev next_start : List EntryReading → ℕ → ℕ
next_start [] end = end
next_start (e ∷ es) end = e.start

next_past : (text : List ℕ) (at : ℕ) (es : List EntryReading) → AreEntriesCut text at es → at ≤ next_start es (length text)
next_past text at [] cut = cut.0
next_past text at (e ∷ es) cut = cut.0.ordered

-- a file begins at or before its first entry
reaches : (text : List ℕ) {u : Place} {says : FileReading} → u.text ≡ text → File longest u says
    → u.at ≤ next_start says.entries (length text)
reaches text {u} {says} same x =
    next_past text u.at says.entries (entries_cut text u.at same refl (cut_file text same x) (by_entries x))

-- a character begins at a place and ends at or before a byte offset
record IsCharacterBefore (u : Place) (high : ℕ) : Type 0 where
  char : ℕ
  next : Place
  here : CharAt u char next
  before : next.at ≤ high

block_sign : {u v : Place} {r : FileReading} (b : Block longest u r v) → b.head.name_start.at ≤ v.at
block_sign b =
    let h = b.head in
    omega (
      arith,
      (ahead_identifier h.name).at,
      (ahead_run h.white.run).at,
      (ahead_char h.opens).at,
      (ahead_run h.white'.run).at,
      (ahead_body b.body).at,
    )

before_entry : {u s : Place} {says : FileReading} (high : ℕ) → s.at ≡ high → FileBefore u says s → (u.at ≡ high) ⊎ IsCharacterBefore u high
before_entry high is FileBefore.none = inl is
before_entry high is (FileBefore.skipped char passes others) =
    inr (record { char = _; next = _; here = char; before = omega (arith, (ahead_file_before others).at, is) })
before_entry high is (FileBefore.line_comment m others) =
    inr (record {
      char = _;
      next = _;
      here = m.sign;
      before = omega (arith, (ahead_run m.line.run).at, (ahead_file_before others).at, is);
    })
before_entry high is (FileBefore.block b others) =
    inr (record {
      char = _;
      next = _;
      here = b.head.sign;
      before = omega (arith, block_sign b, (ahead_file_before others).at, is);
    })

after_entries : {u : Place} {says : FileReading} (text : List ℕ) → u.text ≡ text → File longest u says
    → (u.at ≡ length text) ⊎ IsCharacterBefore u (length text)
after_entries text same (file.end end) = inl (end ∙ ap length same)
after_entries text same (file.skipped char passes x) =
    inr (record { char = _; next = _; here = char; before = omega (arith, char_within char, ap length char.same, ap length same) })
after_entries text same (file.line_comment m x) =
    inr (record { char = _; next = _; here = m.sign; before = omega (arith, char_within m.sign, ap length m.sign.same, ap length same) })
after_entries text same (file.block b x) =
    let sign = b.head.sign in
    inr (record { char = _; next = _; here = sign; before = omega (arith, char_within sign, ap length sign.same, ap length same) })

-- a place in a file is the start of the next entry or the end of the file, or a character before these begins there
first_character : (text : List ℕ) {u : Place} {says : FileReading} → u.text ≡ text → ByEntries u says
    → (u.at ≡ next_start says.entries (length text)) ⊎ IsCharacterBefore u (next_start says.entries (length text))
first_character text {u} same (ByEntries.last x none) =
    subst (λ es. (u.at ≡ next_start es (length text)) ⊎ IsCharacterBefore u (next_start es (length text))) (sym none)
    (after_entries text same x)
first_character text {u} same (ByEntries.more {rest = rest} {e = e} first none block x others) =
    subst
    (λ es.
    (u.at ≡ next_start (es ++ e ∷ rest.entries) (length text)) ⊎ IsCharacterBefore u (next_start (es ++ e ∷ rest.entries) (length text)))
    (sym none) (before_entry e.start (sym block.starts) first)

-- ---- one entry

-- if no character that passes a test begins a text, none begins the same text elsewhere
pub stops_moved : (test : ℕ → Bool) (x y : List ℕ) (a b : ℕ) → drop a x ≡ drop b y → Stops test (place x a) → Stops test (place y b)
stops_moved test x y a b same stops c v char = stops c _ (char_here x (drop v.at y) a c (same ∙ char.here))

-- after a stretch is removed, the text at its start is the text that was after it
pub same_rest : (start end : ℕ) (text : List ℕ) → start ≤ length text
    → drop start (edited (record { start = start; end = end; bytes = [] }) text) ≡ drop end text
same_rest start end text within =
    let same : start ≡ start + length {A = ℕ} [] = omega arith in
    ap (λ m. drop m (edited (record { start = start; end = end; bytes = [] }) text)) same ∙ after.rest start end [] text within

-- a document after edits of its later entries, as in `Chain`; no white space is at the byte offset `at` of its text
pub record Removals (d : Document) (later : List Edit) (before rest : List EntryReading) (at : ℕ) : Type 0 where
  pub chain : Chain d later before rest at
  pub stops : Stops is_whitespace (place chain.after.text at)

-- if a reading has an entry between others except for byte offsets, it has only the others after the entry is removed
removed_alike : (d new : Document) (before rest : List EntryReading) (e : EntryReading) (at : ℕ)
    → placeless new.says ≡ placeless (of_entries d.says (before ++ e ∷ rest))
    → placeless (entry_removed new (length before) e at).says ≡ placeless (of_entries d.says (before ++ rest))
removed_alike d new before rest e at alike =
    let k : ℕ = length before in
    let edit : Edit = record { start = e.start; end = at; bytes = [] } in
    let move = moved_place edit in
    let view = moved_entry (λ n. 0) in
    let without : FileReading → FileReading = λ (says : FileReading). of_entries says (remove says.entries k) in
    ap (of_entries (placeless (moved_file move new.says))) (remove_mapped view (map (moved_entry move) new.says.entries) k)
    ∙ ap without (file_placeless move new.says ∙ alike)
    ∙ ap (of_entries (placeless d.says)) (taken_out view before rest e k refl ∙ sym (map-append view before rest))

-- the opposite of a test
abbrev other : (List EntryReading → EntryReading → Bool) → List EntryReading → EntryReading → Bool
other test before e = not (test before e)

-- if a test doesn't depend on the entries before an entry, the entries that pass it are the filtered ones
passing_filter : (test : EntryReading → Bool) (before es : List EntryReading)
    → passing_after (λ before e. test e) before es ≡ filter test es
passing_filter test before [] = refl
passing_filter test before (e ∷ es) = ap (λ l. cond (test e) (e ∷ l) l) (passing_filter test (before ++ e ∷ []) es)

module _ (d : Document) (read : IsDocument d) where
  -- if later entries are edited, as in `Removals`, the entry `e` and the white space after it can be removed too
  removal_step : (before es rest : List EntryReading) (later : List Edit) (e : EntryReading) (n : ℕ) → d.says.entries ≡ before ++ e ∷ es
      → AreEntriesCut d.text e.start (e ∷ es) → Longest is_whitespace (place d.text (e.end + 1)) (place d.text n)
      → Removals d later (before ++ e ∷ []) rest (next_start es (length d.text))
      → Removals d (record { start = e.start; end = n; bytes = [] } ∷ later) before rest e.start
  removal_step before es rest later e n whole cut white more =
      let k : ℕ = length before in
      let high : ℕ = next_start es (length d.text) in
      let chain = more.chain in
      let new : Document = chain.after in
      let edit : Edit = record { start = e.start; end = n; bytes = [] } in
      let move = moved_place edit in
      let here : slice_get d.says.entries k ≡ Some e = ap (λ l. slice_get l k) whole ∙ get_here before e es in
      let size : length (before ++ e ∷ []) ≡ suc k = omega (arith, length-append before (e ∷ [])) in
      let here' : slice_get new.says.entries k ≡ Some e = chain.kept k e (omega (arith, size)) here in
      let s = split_file k e read here in
      let b = s.block in
      let to_end = ahead_then (ahead_file_before s.first) (ahead_entry b) in
      let closing : s.end.at ≡ e.end + 1 = omega (arith, b.closes.next, b.ends) in
      let end_is : s.end ≡ place d.text (e.end + 1) = same_place {u = s.end} {v = place d.text (e.end + 1)} to_end.text closing in
      let blank : Run is_whitespace s.end (place d.text n) = subst (λ p. Run is_whitespace p (place d.text n)) (sym end_is) white.run in
      let following : File longest (place d.text n) s.following = after_run blank s.rest in
      let listed : s.following.entries ≡ es =
      sym
      (drop_at (s.before.entries ++ e ∷ []) s.following.entries (suc k)
      (omega (arith, length-append s.before.entries (e ∷ []), s.index)))
      ∙ ap (drop (suc k)) (append_assoc s.before.entries (e ∷ []) s.following.entries ∙ sym (ap (λ x. x.entries) s.whole) ∙ whole
      ∙ sym (append_assoc before (e ∷ []) es)) ∙ drop_at (before ++ e ∷ []) es (suc k) size in
      let past : n ≤ high = subst (λ l. n ≤ next_start l (length d.text)) listed (reaches d.text refl following) in
      let forward = (ahead_run white.run).at in
      let run = same_run d.text new.text high chain.front refl (omega (arith, past)) white.run in
      let first : (n ≡ high) ⊎ IsCharacterBefore (place d.text n) high =
      subst (λ l. (n ≡ next_start l (length d.text)) ⊎ IsCharacterBefore (place d.text n) (next_start l (length d.text))) listed
      (first_character d.text refl (by_entries following)) in
      let stops : Stops is_whitespace (place new.text n) = elim first [
        | inl same ↦ subst (λ m. Stops is_whitespace (place new.text m)) (sym same) more.stops
        | inr char ↦ stops_at is_whitespace
            (same_character d.text new.text high chain.front refl (omega (arith, char.before)) char.here)
            (white.stops char.char char.next char.here)
      ] in
      let white' : Longest is_whitespace (place new.text (e.end + 1)) (place new.text n) = record { run = run; stops = stops } in
      let sizes : e.start ≤ length new.text =
      omega (
        arith,
        ap length chain.front,
        length-take-le high d.text (high_within es cut.2),
        length_take high new.text,
        cut.1.whole.ordered,
        forward,
        past,
      ) in
      let at_entry = entry_inside d k e read here in
      let some : e.start < n =
      omega (arith, forward, at_entry.kind_start, at_entry.kind, at_entry.key_start, at_entry.key, at_entry.key_end) in
      record {
        chain = record {
          after = entry_removed new k e n;
          read = entry_removed_read new k e n chain.read here' white';
          text = ap (edited edit) chain.text;
          front =
              front e.start n [] new.text sizes
              ∙ same_bytes new.text d.text high 0 e.start chain.front (omega (arith, cut.1.whole.ordered, forward, past));
          kept = λ i x before_it found.
              let found' = chain.kept i x (omega (arith, before_it, size)) found in
              get_remove_before (map (moved_entry move) new.says.entries) k i before_it
              ∙ slice_get-map (moved_entry move) new.says.entries i ∙ ap (option_map (moved_entry move)) found'
              ∙ ap Some
              (entry_stays new i k x e move chain.read found' here' before_it
              (λ m small. moved_before edit m (omega (arith, small, some))));
          alike =
              removed_alike d new before rest e n
              (chain.alike ∙ ap (λ l. placeless (of_entries d.says l)) (append_assoc before (e ∷ []) rest));
          within = (
            omega arith,
            omega (arith, some),
            cut.1.whole.start_cut,
            cut_file d.text refl following,
            within_earlier d.text n high (length d.text) later past chain.within,
          );
        };
        stops = stops_moved is_whitespace new.text (edited edit new.text) n e.start (sym (same_rest e.start n new.text sizes)) stops;
      }
    where
      high_within : (es : List EntryReading) → AreEntriesCut d.text (e.end + 1) es → next_start es (length d.text) ≤ length d.text
      high_within [] cut = omega arith
      high_within (x ∷ xs) cut = cut.1.whole.start_cut.0

      length_take : (n : ℕ) (xs : List ℕ) → length (take n xs) ≤ length xs
      length_take zero xs = omega arith
      length_take (suc n) [] = omega arith
      length_take (suc n) (x ∷ xs) = omega (arith, length_take n xs)

  -- if later entries are edited, as in `Removals`, the entry `e` can be kept
  stays_step : (before es rest : List EntryReading) (later : List Edit) (e : EntryReading) → d.says.entries ≡ before ++ e ∷ es
      → AreEntriesCut d.text e.start (e ∷ es) → Removals d later (before ++ e ∷ []) rest (next_start es (length d.text))
      → Removals d later before (e ∷ rest) e.start
  stays_step before es rest later e whole cut more =
      let k : ℕ = length before in
      let high : ℕ = next_start es (length d.text) in
      let here : slice_get d.says.entries k ≡ Some e = ap (λ l. slice_get l k) whole ∙ get_here before e es in
      let past : e.end + 1 ≤ high = next_past d.text (e.end + 1) es cut.2 in
      let s = split_file k e read here in
      let b = s.block in
      let to_start = ahead_file_before s.first in
      let h = b.head in
      let bound : h.name_start.at ≤ e.end + 1 =
      omega (
        arith,
        (entry_inside d k e read here).kind,
        (entry_inside d k e read here).key_start,
        (entry_inside d k e read here).key,
        (entry_inside d k e read here).key_end,
        ap (λ p. p.start) h.name.reading,
      ) in
      record {
        chain = chain_kept d before rest later e e.start high (omega (arith, cut.1.whole.ordered, past)) more.chain;
        stops =
            stops_at is_whitespace
            (subst (λ m. CharAt (place more.chain.after.text m) 64 (place more.chain.after.text h.name_start.at)) (sym b.starts)
            (same_character d.text more.chain.after.text high more.chain.front to_start.text (omega (arith, bound, past)) h.sign)) refl;
      }

  all_removed : (test : List EntryReading → EntryReading → Bool) (before es : List EntryReading) (edits : List Edit) (at : ℕ)
      → d.says.entries ≡ before ++ es → AreEntriesCut d.text at es → AreRemovals d.text (passing_after test before es) edits
      → Removals d edits before (passing_after (other test) before es) (next_start es (length d.text))
  all_removed test before [] [] at whole cut removals = record {
    chain = record {
      after = d;
      read = read;
      text = refl;
      front = refl;
      kept = λ i x before_it found. found;
      alike = ap (λ l. placeless (of_entries d.says l)) whole;
      within = omega arith;
    };
    stops = stops_at_end is_whitespace refl;
  }
  all_removed test before [] (x ∷ xs) at whole cut removals = elim removals [ ]
  all_removed test before (e ∷ es) edits at whole cut removals =
      by_case (test before e) edits
      (λ later others.
      all_removed test (before ++ e ∷ []) es later (e.end + 1) (whole ∙ sym (append_assoc before (e ∷ []) es)) cut.2 others) removals
    where
      cut' : AreEntriesCut d.text e.start (e ∷ es)
      cut' = (record { ordered = omega arith; start_cut = cut.0.end_cut; end_cut = cut.0.end_cut }, cut.1, cut.2)

      gone : List EntryReading
      gone = passing_after test (before ++ e ∷ []) es

      left : List EntryReading
      left = passing_after (other test) (before ++ e ∷ []) es

      by_case : (b : Bool) (edits : List Edit)
          → ((later : List Edit) → AreRemovals d.text gone later → Removals d later (before ++ e ∷ []) left (next_start es (length d.text)))
          → AreRemovals d.text (cond b (e ∷ gone) gone) edits → Removals d edits before (cond (not b) (e ∷ left) left) e.start
      by_case true [] more removals = elim removals [ ]
      by_case true (x ∷ xs) more (AreRemovals.next {at = n} white removals) =
          removal_step before es left xs e n whole cut' white (more xs removals)
      by_case false edits more removals = stays_step before es left edits e whole cut' (more edits removals)

  pub entries_removed : (test : List EntryReading → EntryReading → Bool) (edits : List Edit)
      → AreRemovals d.text (passing_after test [] d.says.entries) edits
      → Removals d edits [] (passing_after (other test) [] d.says.entries) (next_start d.says.entries (length d.text))
  entries_removed test edits removals = all_removed test [] d.says.entries edits 0 refl (document_cut d.text d.says read) removals

  pub passing_in_order : (test : List EntryReading → EntryReading → Bool) (edits : List Edit)
      → AreRemovals d.text (passing_after test [] d.says.entries) edits → AreEditsInOrder d.text 0 edits
  passing_in_order test edits removals =
      let at : ℕ = next_start d.says.entries (length d.text) in
      within_order d.text 0 (length d.text) edits
      (within_earlier d.text 0 at (length d.text) edits (omega arith) (entries_removed test edits removals).chain.within)

  pub removals_in_order : (selected : List ℕ → Bool) (edits : List Edit)
      → AreRemovals d.text (filter (has_selected_key selected) d.says.entries) edits → AreEditsInOrder d.text 0 edits
  removals_in_order selected edits removals =
      let test : EntryReading → Bool = has_selected_key selected in
      passing_in_order (λ before e. test e) edits
      (subst (λ es. AreRemovals d.text es edits) (sym (passing_filter test [] d.says.entries)) removals)

-- if a call returns a text with the edits that remove the selected entries, it returns the document without them
pub removal_answer : {S E : Type 0} (bytes : S → List ℕ) (r : Result S E) (d : Document) (selected : List ℕ → Bool) (edits : List Edit)
    → IsDocument d → AreRemovals d.text (filter (has_selected_key selected) d.says.entries) edits
    → IfOk r (λ new. bytes new ≡ edited_all edits d.text) → IfOk r (λ new. IsEdited (EntriesRemoved d selected) (bytes new))
removal_answer bytes (Err e) d selected edits read removals is = _
removal_answer bytes (Ok new) d selected edits read removals is =
    let test : EntryReading → Bool = has_selected_key selected in
    let removals' = subst (λ es. AreRemovals d.text es edits) (sym (passing_filter test [] d.says.entries)) removals in
    let x = (entries_removed d read (λ before e. test e) edits removals').chain in
    let left = passing_filter (λ e. not (test e)) [] d.says.entries in
    record {
      document = x.after;
      outcome = record {
        edits = edits;
        removals = removals;
        text = x.text;
        alike = x.alike ∙ ap (λ es. placeless (of_entries d.says es)) left;
      };
      is = is ∙ sym x.text;
      read = x.read;
    }

-- a text with the edits that remove the first entry with each of some keys, each of which is the key of an entry
pub firsts_removed : {S : Type 0} (bytes : S → List ℕ) (new : S) (d : Document) (keys : List (List ℕ)) (edits : List Edit)
    → IsDocument d → has_each d.says.entries keys ≡ true
    → AreRemovals d.text (passing_after (is_first_with keys) [] d.says.entries) edits
    → bytes new ≡ edited_all edits d.text → IsEdited (FirstsRemoved d keys) (bytes new)
firsts_removed bytes new d keys edits read found removals is =
    let x = (entries_removed d read (is_first_with keys) edits removals).chain in
    record {
      document = x.after;
      outcome = record { found = found; edits = edits; removals = removals; text = x.text; alike = x.alike };
      is = is ∙ sym x.text;
      read = x.read;
    }
