-- The byte offsets of closing braces, stored at their opening braces.
use Rattle.std.proofs.Common.{◌≡◌, ℕ, zero, suc, ◌+◌, ◌-◌, ◌<◌, ◌≤◌, true, false, List, [], ◌∷◌, ◌++◌, length, drop, refl, sym, ap, subst, ◌∙◌, arith, inl, inr, reverse, replicate}
use Rattle.std.specs.Prelude.{encode_utf8_all, slice_index, nat_lt}
use Rattle.std.specs.List.{list_all}
use Rattle.std.proofs.Math.ListN.{set, length-set}
use Rattle.std.proofs.lemmas.Bool.{lt-ltb, cases_eq}
use Rattle.std.proofs.lemmas.Grind.{get_or-set_at}
use Rattle.std.proofs.lemmas.List.{get_or-set_other, length-replicate}
use Rattle.bib_text.specs.Places.{Place, place}
use Rattle.bib_contents.specs.Arguments.{Closes}
use Rattle.bib_contents.specs.Contents.{begins}
use Rattle.bib_contents.specs.Progress.{left, Passes}
use Rattle.bib_contents.proofs.ArgumentFacts.{BracedRead, braced_none, braced_opens, braced_closes, braced_found, is_no_brace, is_closing, next_brace, passes_ahead, passes_one, passes_within}

-- the offsets after open braces, the innermost first; from the first of them to `s`, `depth` braces are opened and stay open
pub data AreOpen (text : List ℕ) (start : ℕ) (s : Place) : ℕ → List ℕ → Type 0 where
  nothing : {depth : ℕ} → AreOpen text start s depth []
  following : {depth begin : ℕ} {opened : List ℕ} → BracedRead (place text begin) depth s → start ≤ begin → begin ≤ s.at
      → AreOpen text start s (depth + 1) opened → AreOpen text start s depth (begin ∷ opened)

-- an opening brace was read
pub open_opened : {text : List ℕ} {start : ℕ} {s t w : Place} {run : List ℕ} {depth : ℕ} {opened : List ℕ}
    → AreOpen text start s depth opened → Passes s run t → list_all is_no_brace run ≡ true → Passes t (123 ∷ []) w
    → AreOpen text start w (depth + 1) opened
open_opened AreOpen.nothing passed plain brace = AreOpen.nothing
open_opened (AreOpen.following read ahead before rest) passed plain brace =
    AreOpen.following (braced_opens read passed plain brace) ahead
    (let a = passes_ahead passed in let b = passes_ahead brace in omega (arith, before, a, b))
    (open_opened rest passed plain brace)

-- a closing brace was read, and a brace is open after the first offset
pub open_closed : {text : List ℕ} {start : ℕ} {s t w : Place} {run : List ℕ} {c : ℕ} {opened : List ℕ}
    (depth before : ℕ) → AreOpen text start s depth opened → depth ≡ before + 1 → Passes s run t
    → list_all is_no_brace run ≡ true → begins is_no_brace (left t) ≡ false → Passes t (c ∷ []) w → (c ≡ 123 → ⊥)
    → AreOpen text start w before opened
open_closed depth before AreOpen.nothing is passed plain ends brace differs = AreOpen.nothing
open_closed {text} {start} {s} {t} {w} depth before (AreOpen.following {begin = begin} read after ahead rest) is passed
    plain ends brace differs =
    let some : nat_lt 0 depth ≡ true = lt-ltb 0 depth (omega (arith, is)) in
    let same : depth - 1 ≡ before = omega (arith, is) in
    AreOpen.following (subst (λ n. BracedRead (place text begin) n w) same (braced_closes read passed plain ends brace differs some)) after
    (let a = passes_ahead passed in let b = passes_ahead brace in omega (arith, ahead, a, b))
    (open_closed (depth + 1) (before + 1) rest (omega (arith, is)) passed plain ends brace differs)

-- a place is the place at its offset in its text
pub place_here : {u : Place} (text : List ℕ) → u.text ≡ text → place text u.at ≡ u
place_here {u} text same = λ i. record { text = sym same i; at = u.at }

-- the brace that was opened last is closed
pub closes_here : {text : List ℕ} {s t w : Place} {begin c : ℕ} {run : List ℕ} → BracedRead (place text begin) 0 s
    → Passes s run t → list_all is_no_brace run ≡ true → begins is_no_brace (left t) ≡ false → Passes t (c ∷ []) w
    → (c ≡ 123 → ⊥) → w.text ≡ text
    → Closes text begin t.at
unfolding lib.Utf8.encode
closes_here {text} {s} {t} {w} {begin} {c} {run} read passed plain ends brace differs same =
    let is : c ≡ 125 = is_closing c (next_brace c (left t) (left w) ends brace.left) differs in
    let found = braced_found read passed plain ends brace differs in
    let whole : t.text ≡ text = sym brace.same ∙ same in
    let closing : Passes t (125 ∷ []) w = subst (λ x. Passes t (x ∷ []) w) is brace in
    let next : w.at ≡ t.at + 1 = closing.next in
    record {
      inside = found.0;
      width = found.1.next;
      spelt = found.1.here ∙ ap (λ bs. encode_utf8_all found.0 ++ drop t.at bs) whole;
      balanced = found.3;
      brace = ap (drop t.at) (sym whole) ∙ closing.here ∙ ap (λ bs. 125 ∷ drop w.at bs) same ∙ ap (λ n. 125 ∷ drop n text) next;
    }

-- each stored end belongs to the brace at its index
abbrev pub AreNoted : ℕ → List ℕ → List ℕ → Type 0
AreNoted start places text =
    (index : ℕ) → 0 < slice_index places index → slice_index places index < length text
    → Closes text (start + index) (slice_index places index)

-- one more end is stored
pub noted_more : (start begin end : ℕ) (places text : List ℕ) → AreNoted start places text → Closes text begin end
    → start ≤ begin → begin - start < length places → AreNoted start (set places (begin - start) end) text
noted_more start begin end places text noted closes after within index some inside = elim (cases_eq index (begin - start)) [
  | inl same ↦
      let is : slice_index (set places (begin - start) end) index ≡ end = get_or-set_at places (begin - start) index end 0 same within in
      let at : start + index ≡ begin = omega (arith, same, after) in
      rw (is, at) closes
  | inr other ↦
      let is : slice_index (set places (begin - start) end) index ≡ slice_index places index =
      get_or-set_other places (begin - start) index end 0 other in
      rw is (noted index (rw is at some) (rw is at inside))
]

-- braces were read up to `s`: each end in `places` belongs to the brace at its index, and the braces in `waits` are open
pub record AreReadTo (text : List ℕ) (start : ℕ) (s : Place) (places waits : List ℕ) : Type 0 where
  pub same : s.text ≡ text
  pub following : start ≤ s.at
  pub within : s.at ≤ length s.text
  pub size : length places + start ≡ length text
  pub noted : AreNoted start places text
  pub opened : AreOpen text start s 0 (reverse waits)

-- a step of the loop: an opening brace
pub read_opened : {text : List ℕ} {start c : ℕ} {s t w : Place} {run places waits more : List ℕ}
    → AreReadTo text start s places waits → Passes s run t → list_all is_no_brace run ≡ true → Passes t (c ∷ []) w
    → c ≡ 123 → reverse more ≡ w.at ∷ reverse waits
    → AreReadTo text start w places more
read_opened {text} {start} {c} {s} {t} {w} {run} {places} {waits} {more} read passed plain brace is pushed =
    let opening : Passes t (123 ∷ []) w = subst (λ x. Passes t (x ∷ []) w) is brace in
    let same : w.text ≡ text = brace.same ∙ passed.same ∙ read.same in
    let after : start ≤ w.at =
    (let a = passes_ahead passed in
    let b = passes_ahead brace in let here : start ≤ s.at = read.following in omega arith) in
    record {
      same = same;
      following = after;
      within = passes_within brace (passes_within passed read.within);
      size = read.size;
      noted = read.noted;
      opened =
          subst (AreOpen text start w 0) (sym pushed)
          (AreOpen.following (subst (λ u. BracedRead u 0 w) (sym (place_here text same)) (braced_none w)) after
          (omega arith) (open_opened read.opened passed plain opening));
    }

-- a step of the loop: the closing brace of an open one
pub read_closed : {text : List ℕ} {start c begin : ℕ} {s t w : Place} {run places waits rest : List ℕ}
    → AreReadTo text start s places waits → Passes s run t → list_all is_no_brace run ≡ true
    → begins is_no_brace (left t) ≡ false → Passes t (c ∷ []) w → (c ≡ 123 → ⊥) → reverse waits ≡ begin ∷ reverse rest
    → (start ≤ begin) × (begin - start < length places) × AreReadTo text start w (set places (begin - start) t.at) rest
read_closed {text} {start} {c} {begin} {s} {t} {w} {run} {places} {waits} {rest} read passed plain ends brace differs popped =
    popped_one (reverse waits) read.opened popped
  where
    popped_one : (all : List ℕ) → AreOpen text start s 0 all → all ≡ begin ∷ reverse rest
        → (start ≤ begin) × (begin - start < length places) × AreReadTo text start w (set places (begin - start) t.at) rest
    popped_one all AreOpen.nothing is = absurd (cc)
    popped_one all (AreOpen.following {begin = first} {opened = others} first_read after ahead more) is =
        let first_is : first ≡ begin = cc in
        let others_are : others ≡ reverse rest = cc in
        let same : w.text ≡ text = brace.same ∙ passed.same ∙ read.same in
        let end : w.at ≤ length w.text = passes_within brace (passes_within passed read.within) in
        let run_ahead : s.at ≤ t.at = passes_ahead passed in
        let brace_ahead : t.at + 1 ≤ w.at = passes_one brace in
        let size : length places + start ≡ length w.text = read.size ∙ sym (ap length same) in
        let low : start ≤ begin = omega (arith, after, first_is) in
        let within : begin - start < length places = omega (arith, ahead, first_is, end, run_ahead, brace_ahead, size, low) in (
          low,
          within,
          record {
            same = same;
            following = (let here : start ≤ s.at = read.following in omega (arith, here, run_ahead, brace_ahead));
            within = end;
            size = ap (λ n. n + start) (length-set places (begin - start) t.at) ∙ read.size;
            noted =
                noted_more start begin t.at places text read.noted
                (closes_here (subst (λ n. BracedRead (place text n) 0 s) first_is first_read) passed plain ends
                brace differs same) low within;
            opened = subst (AreOpen text start w 0) others_are (open_closed 1 0 more refl passed plain ends brace differs);
          },
        )

-- an element of a list of zeros, or beyond its end, is 0
zeros : (n index : ℕ) → slice_index (replicate n 0) index ≡ 0
zeros zero index = refl
zeros (suc n) zero = refl
zeros (suc n) (suc index) = zeros n index

-- at the start no end is stored
pub read_none : {text places waits : List ℕ} {start : ℕ} {s : Place} → s.text ≡ text → start ≡ s.at → s.at ≤ length text
    → places ≡ replicate (length text - start) 0 → waits ≡ [] → AreReadTo text start s places waits
read_none {text} {places} {waits} {start} {s} same here within empty alone = record {
  same = same;
  following = omega (arith, here);
  within = rw same within;
  size =
      (let count : length places ≡ length text - start = ap length empty ∙ length-replicate (length text - start) 0 in
      omega (arith, here, within, count));
  noted = λ index some inside. absurd (omega (arith, some, ap (λ xs. slice_index xs index) empty, zeros (length text - start) index));
  opened = rw alone AreOpen.nothing;
}

-- past a closing brace without an opening one, the stored ends stay and no brace is open
pub read_alone : {text : List ℕ} {start c : ℕ} {s t w : Place} {run places waits more : List ℕ}
    → AreReadTo text start s places waits → Passes s run t → Passes t (c ∷ []) w → more ≡ []
    → AreReadTo text start w places more
read_alone {text} {start} {c} {s} {t} {w} read passed brace alone = record {
  same = brace.same ∙ passed.same ∙ read.same;
  following = (let a = passes_ahead passed in let b = passes_ahead brace in let here : start ≤ s.at = read.following in omega arith);
  within = passes_within brace (passes_within passed read.within);
  size = read.size;
  noted = read.noted;
  opened = rw alone AreOpen.nothing;
}
