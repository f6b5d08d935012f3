-- Facts about text that is parsed as characters, whatever braces are open.
use Rattle.std.proofs.Common.{◌≡◌, ℕ, zero, suc, ◌+◌, Bool, true, false, not, ◌&&◌, List, [], ◌∷◌, ◌++◌, drop, map, replicate, refl, sym, ap, ◌∙◌, subst, arith, inl, inr}
use Rattle.std.specs.Prelude.{◌==◌, nat_lt, encode_utf8_all}
use Rattle.std.specs.List.{list_all}
use Rattle.std.specs.Char.{len_utf8}
use Rattle.std.specs.Str.{chars, IsUtf8, IsCharBoundary}
use Rattle.std.proofs.lemmas.Bool.{and_parts, both_ways, not-true, eqb-true, ne_eqb, lt-ltb, or_cases}
use Rattle.std.proofs.lemmas.List.{map-append}
use Rattle.std.proofs.lemmas.Str.{IsUtf8-drop}
use Rattle.bib_text.specs.Places.{Place, place, CharAt, between}
use Rattle.bib_text.proofs.PlaceFacts.{place_after, same_place}
use Rattle.bib_text.proofs.TextFacts.{ahead, MovesPast, passed_char, passed_none, passed_append, passed_between, chars_whole, two_parts}
use Rattle.bib_contents.specs.Contents.{ContentUnit, IsNext, begins, dashes, is_empty, is_escaped, is_space, is_ordinary, character}
use Rattle.bib_contents.specs.Progress.{left, Passes, Goes, ReadsAs, is_alone}
use Rattle.bib_contents.proofs.ProgressFacts.{passes, passes_then, passes_none, stands_left}
use Rattle.bib_contents.proofs.ReaderFacts.{goes_here, goes_then, goes_unit, no_argument}
use Rattle.std.proofs.Math.Bool.{or-false, and-true}

-- nothing was passed
pub reads_none : (is_verbatim : Bool) (u : Place) → ReadsAs is_verbatim u [] u
reads_none is_verbatim u = record { passed = []; passes = passes_none u; goes = λ depth. goes_here is_verbatim depth (left u) }

-- two texts that are parsed as characters, one after the other
pub reads_then : {is_verbatim : Bool} {u v w : Place} {cs ds : List ℕ} → ReadsAs is_verbatim u cs v
    → ReadsAs is_verbatim v ds w → ReadsAs is_verbatim u (cs ++ ds) w
reads_then {is_verbatim} {u} {v} {w} {cs} {ds} first second = record {
  passed = first.passed ++ second.passed;
  passes = passes_then first.passes second.passes;
  goes = λ depth.
      subst (λ xs. Goes is_verbatim depth (left u) xs depth (left w)) (sym (map-append (character depth) cs ds))
      (goes_then (first.goes depth) (second.goes depth));
}

-- the characters from `u` to `v` are parsed as themselves
pub record Itself (is_verbatim : Bool) (u v : Place) : Type 0 where
  pub shown : List ℕ
  pub passed : MovesPast u shown v
  pub goes : (depth : ℕ) → Goes is_verbatim depth (left u) (map (character depth) shown) depth (left v)

-- in UTF-8 text, an empty run is parsed as itself
pub itself_none : (is_verbatim : Bool) (u : Place) → IsUtf8 (ahead u) → Itself is_verbatim u u
itself_none is_verbatim u utf8 = record { shown = []; passed = passed_none u utf8; goes = λ depth. goes_here is_verbatim depth (left u) }

-- one more character, which is a unit
itself_more : {is_verbatim : Bool} {u v w : Place} {c : ℕ} → Itself is_verbatim u v → CharAt v c w
    → ((depth : ℕ) → Goes is_verbatim depth (c ∷ left w) (map (character depth) (c ∷ [])) depth (left w))
    → Itself is_verbatim u w
itself_more {is_verbatim} {u} {v} {w} {c} before char goes =
    let one = passed_char char before.passed.utf8 in
    record {
      shown = before.shown ++ c ∷ [];
      passed = passed_append before.passed one;
      goes = λ depth.
          let here : Goes is_verbatim depth (left v) (map (character depth) (c ∷ [])) depth (left w) = rw one.spelt (goes depth) in
          subst (λ xs. Goes is_verbatim depth (left u) xs depth (left w))
          (sym (map-append (character depth) before.shown (c ∷ []))) (goes_then (before.goes depth) here);
    }

-- an ordinary character is parsed as itself
pub itself_ordinary : {is_verbatim : Bool} {u v w : Place} {c : ℕ} → Itself is_verbatim u v → CharAt v c w
    → is_ordinary is_verbatim c ≡ true → Itself is_verbatim u w
itself_ordinary {is_verbatim} {u} {v} {w} {c} before char ordinary =
    let one : IsNext is_verbatim (ContentUnit.other c) (c ∷ left w) (left w) = record { fits = ordinary; spells = refl } in
    itself_more before char
    (λ depth.
    goes_unit {u = ContentUnit.other c} {inner = []} one refl (λ argument holds. absurd (no_argument holds))
    refl)

-- a space with no white space after it is parsed as itself
itself_space : {is_verbatim : Bool} {u v w : Place} → Itself is_verbatim u v → CharAt v 32 w
    → begins is_space (left w) ≡ false → Itself is_verbatim u w
unfolding is_space
itself_space {is_verbatim} {u} {v} {w} before char stops =
    let one : IsNext is_verbatim (ContentUnit.spaces (32 ∷ [])) (32 ∷ left w) (left w) = record { fits = ap not stops; spells = refl } in
    itself_more before char
    (λ depth.
    goes_unit {u = ContentUnit.spaces (32 ∷ [])} {inner = []} one refl
    (λ argument holds. absurd (no_argument holds)) refl)

-- a hyphen with no hyphen after it is parsed as itself
itself_hyphen : {is_verbatim : Bool} {u v w : Place} → Itself is_verbatim u v → CharAt v 45 w
    → begins (λ d. d == 45) (left w) ≡ false → Itself is_verbatim u w
itself_hyphen {is_verbatim} {u} {v} {w} before char stops =
    let one : IsNext is_verbatim (ContentUnit.hyphens 1) (45 ∷ left w) (left w) = record { fits = ap not stops; spells = refl } in
    itself_more before char
    (λ depth.
    goes_unit {u = ContentUnit.hyphens 1} {inner = []} one refl (λ argument holds. absurd (no_argument holds))
    refl)

-- a space with no white space after it, or a hyphen with no hyphen after it, is parsed as itself
pub itself_alone : {is_verbatim : Bool} {u v w : Place} {c : ℕ} → Itself is_verbatim u v → CharAt v c w
    → is_alone c (left w) ≡ true → Itself is_verbatim u w
itself_alone {is_verbatim} {u} {v} {w} {c} before char alone =
    elim (or_cases (c == 32 && not (begins is_space (left w))) (c == 45 && not (begins (λ d. d == 45) (left w))) alone) [
      | inl space ↦
          let parts = and_parts (c == 32) (not (begins is_space (left w))) space in
          itself_space before (subst (λ x. CharAt v x w) (eqb-true c 32 parts.0) char) (not-true _ parts.1)
      | inr hyphen ↦
          let parts = and_parts (c == 45) (not (begins (λ d. d == 45) (left w))) hyphen in
          itself_hyphen before (subst (λ x. CharAt v x w) (eqb-true c 45 parts.0) char) (not-true _ parts.1)
    ]

-- ---- one character and the text after it

-- a space passes `is_alone` if and only if no white space follows it
pub alone_space : (c : ℕ) (rest : List ℕ) → c ≡ 32 → is_alone c rest ≡ not (begins is_space rest)
alone_space c rest is = rw is (or-false (not (begins is_space rest)))

-- a hyphen passes `is_alone` if and only if no hyphen follows it
pub alone_hyphen : (c : ℕ) (rest : List ℕ) → c ≡ 45 → is_alone c rest ≡ not (begins (λ d. d == 45) rest)
alone_hyphen c rest is = rw is refl

-- at the end of a text, a character that isn't a space passes `is_alone` if and only if it is a hyphen
pub alone_last : (c : ℕ) (rest : List ℕ) → rest ≡ [] → (c ≡ 32 → ⊥) → is_alone c rest ≡ (c == 45)
alone_last c rest ends differs = rw (ends, ne_eqb c 32 differs) (and-true (c == 45))

-- in UTF-8 text, the character at a place is the first of those left
pub left_here : (text : List ℕ) (at : ℕ) {v : Place} {c : ℕ} → IsUtf8 text → IsCharBoundary text at
    → CharAt (place text at) c v → left (place text at) ≡ c ∷ left v
left_here text at utf8 boundary char = stands_left char (IsUtf8-drop text at utf8 boundary)

-- in UTF-8 text, no character was passed at the start
pub itself_start : (is_verbatim : Bool) (text : List ℕ) (at : ℕ) → IsUtf8 (drop at text)
    → Itself is_verbatim (place text at) (place text at)
itself_start is_verbatim text at utf8 = itself_none is_verbatim (place text at) utf8

-- one more ordinary character
pub itself_char : {is_verbatim : Bool} {u v : Place} {c : ℕ} (text : List ℕ) (at : ℕ)
    → Itself is_verbatim u (place text at) → CharAt (place text at) c v → is_ordinary is_verbatim c ≡ true
    → Itself is_verbatim u (place text (at + len_utf8 c))
itself_char {is_verbatim} {u} text at before char ordinary =
    subst (λ p. Itself is_verbatim u p) (place_after char) (itself_ordinary before char ordinary)

-- the passed characters are those of the UTF-8 text between the places
pub itself_reads : {is_verbatim : Bool} {u v : Place} (eaten : List ℕ) → Itself is_verbatim u v → IsUtf8 eaten
    → eaten ≡ between u v → ReadsAs is_verbatim u (chars eaten) v
itself_reads {is_verbatim} {u} {v} eaten itself utf8 is =
    let same : chars eaten ≡ itself.shown = chars_whole itself.shown eaten utf8 (is ∙ passed_between itself.passed) in
    rw same record { passed = itself.shown; passes = passes itself.passed; goes = itself.goes }

-- the same between equal places
pub reads_moved : {is_verbatim : Bool} {cs : List ℕ} (text : List ℕ) (start at : ℕ) (u v : Place) → text ≡ u.text
    → start ≡ u.at → v ≡ place u.text at → ReadsAs is_verbatim (place text start) cs (place text at)
    → ReadsAs is_verbatim u cs v
reads_moved {is_verbatim} {cs} text start at u v same here there reads =
    subst (λ p. ReadsAs is_verbatim p cs v) (same_place {u = place text start} {v = u} same here)
    (subst (λ p. ReadsAs is_verbatim (place text start) cs p) (ap (λ t. place t at) same ∙ sym there) reads)

-- ---- runs of white space and of hyphens

some_space : (space rest tail : List ℕ) (c : ℕ) → c ∷ rest ≡ space ++ tail → is_space c ≡ true
    → begins is_space tail ≡ false → is_empty space ≡ false
some_space [] rest tail c is white stops = absurd (both_ways (begins is_space tail) stops (subst (λ t. begins is_space t ≡ true) is white))
some_space (d ∷ ds) rest tail c is white stops = refl

-- the longest run of white space is a unit
pub spaces_next : (is_verbatim : Bool) {u w : Place} (c : ℕ) (rest space : List ℕ) → left u ≡ c ∷ rest
    → is_space c ≡ true → Passes u space w → list_all is_space space ≡ true → begins is_space (left w) ≡ false
    → IsNext is_verbatim (ContentUnit.spaces space) (left u) (left w)
spaces_next is_verbatim {u} {w} c rest space here white passed all stops = record {
  fits = rw (some_space space rest (left w) c (sym here ∙ passed.left) white stops, all, stops) refl;
  spells = passed.left;
}

-- white space is parsed as one space
pub reads_spaces : {is_verbatim : Bool} {u w : Place} {space : List ℕ}
    → IsNext is_verbatim (ContentUnit.spaces space) (left u) (left w) → Passes u space w
    → ReadsAs is_verbatim u (32 ∷ []) w
reads_spaces {space = space} one passed = record {
  passed = space;
  passes = passed;
  goes = λ depth. goes_unit {u = ContentUnit.spaces space} {inner = []} one refl (λ argument holds. absurd (no_argument holds)) refl;
}

some_hyphens : (n : ℕ) (rest tail : List ℕ) → 45 ∷ rest ≡ replicate n 45 ++ tail → begins (λ d. d == 45) tail ≡ false → nat_lt 0 n ≡ true
some_hyphens zero rest tail is stops =
    absurd (both_ways (begins (λ d. d == 45) tail) stops (subst (λ t. begins (λ d. d == 45) t ≡ true) is refl))
some_hyphens (suc n) rest tail is stops = lt-ltb 0 (suc n) (omega arith)

-- hyphens that no hyphen follows are parsed as dashes
pub reads_hyphens : (is_verbatim : Bool) {u w : Place} {c : ℕ} {rest cs : List ℕ} (n : ℕ) → left u ≡ c ∷ rest → c ≡ 45
    → Passes u cs w → left u ≡ replicate n 45 ++ left w → begins (λ d. d == 45) (left w) ≡ false
    → ReadsAs is_verbatim u (dashes n) w
reads_hyphens is_verbatim {u} {w} {c} {rest} {cs} n here hyphen passed spelt stops =
    let some : nat_lt 0 n ≡ true = some_hyphens n rest (left w) (ap (λ d. d ∷ rest) (sym hyphen) ∙ sym here ∙ spelt) stops in
    let one : IsNext is_verbatim (ContentUnit.hyphens n) (left u) (left w) = record { fits = rw (some, stops) refl; spells = spelt } in
    record {
      passed = cs;
      passes = passed;
      goes = λ depth. goes_unit {u = ContentUnit.hyphens n} {inner = []} one refl (λ argument holds. absurd (no_argument holds)) refl;
    }

-- texts that were parsed and written one after another
pub renders_then : {is_verbatim : Bool} {u v w : Place} (a b c : List ℕ)
    → (shown : List ℕ) × ReadsAs is_verbatim u shown v × (b ≡ a ++ encode_utf8_all shown)
    → (shown : List ℕ) × ReadsAs is_verbatim v shown w × (c ≡ b ++ encode_utf8_all shown)
    → (shown : List ℕ) × ReadsAs is_verbatim u shown w × (c ≡ a ++ encode_utf8_all shown)
renders_then a b c first second = (first.0 ++ second.0, reads_then first.1 second.1, two_parts a b c first.0 second.0 first.2 second.2)

-- at an equal place nothing was passed
pub reads_same : {is_verbatim : Bool} {u v : Place} → v ≡ u → ReadsAs is_verbatim u [] v
reads_same {is_verbatim} {u} {v} same = subst (λ p. ReadsAs is_verbatim u [] p) (sym same) (reads_none is_verbatim u)

-- an escaped character is the first unit
pub escaped_next : (is_verbatim : Bool) {u w : Place} (c : ℕ) → Passes u (92 ∷ c ∷ []) w
    → is_escaped is_verbatim c ≡ true → IsNext is_verbatim (ContentUnit.escaped c) (left u) (left w)
escaped_next is_verbatim c passed escaped = record { fits = escaped; spells = passed.left }

-- an escaped character, with its backslash, is parsed as the character
pub reads_escaped : {is_verbatim : Bool} {u w : Place} {c : ℕ}
    → IsNext is_verbatim (ContentUnit.escaped c) (left u) (left w) → Passes u (92 ∷ c ∷ []) w
    → ReadsAs is_verbatim u (c ∷ []) w
reads_escaped {c = c} one passed = record {
  passed = 92 ∷ c ∷ [];
  passes = passed;
  goes = λ depth. goes_unit {u = ContentUnit.escaped c} {inner = []} one refl (λ argument holds. absurd (no_argument holds)) refl;
}
