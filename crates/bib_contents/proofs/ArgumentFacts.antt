-- Facts about the hyphens, the math and the arguments in braces that a cursor consumes.
use Rattle.std.proofs.Common.{◌≡◌, ℕ, suc, ◌+◌, ◌-◌, ◌<◌, ◌≤◌, Bool, true, false, not, ◌&&◌, if◌then◌else◌, List, [], ◌∷◌, ◌++◌, length, drop, replicate, refl, sym, ap, ◌∙◌, subst, arith, append_assoc, length-append, length-drop, take, ◌^◌, inl, inr, add-one, Option, None, Some, MatchOption}
use Rattle.std.specs.Prelude.{◌==◌, nat_lt, encode_utf8_all}
use Rattle.std.specs.List.{list_all, list_any}
use Rattle.std.specs.Str.{chars, IsUtf8, IsCharBoundary}
use Rattle.std.proofs.lemmas.Bool.{and_parts, cases_Bool, both_ways, not-true, eqb-true, lt-ltb}
use Rattle.std.proofs.lemmas.List.{append-nil, take_at, length-take-le, drop-take}
use Rattle.std.proofs.lemmas.Str.{encodes-chars, length-encode, len_utf8_bounds, IsCharBoundary-from_drop}
use Rattle.std.specs.Char.{len_utf8}
use Rattle.std.specs.Prelude.{encode_utf8}
use Rattle.bib_text.specs.Places.{Place, place, between}
use Rattle.bib_text.proofs.TextFacts.{chars_whole, chars_past, encode_one}
use Rattle.bib_text.specs.Runs.{leading_run}
use Rattle.bib_contents.specs.Contents.{ContentUnit, begins, balances, unit_spelling, fits, IsNext}
use Rattle.bib_contents.specs.Arguments.{Closes, Encloses}
use Rattle.bib_contents.specs.Progress.{left, Passes}
use Rattle.bib_contents.proofs.UnitFacts.{first_unit, unit_first}
use Rattle.bib_contents.proofs.ProgressFacts.{passes_then, passes_none}

-- the place after passed characters is in the text if the place before them is
pub passes_within : {u v : Place} {cs : List ℕ} → Passes u cs v → u.at ≤ length u.text → v.at ≤ length v.text
passes_within {u} {v} {cs} passed within =
    let sizes : length u.text - u.at ≡ length (encode_utf8_all cs) + length (drop v.at v.text) =
    sym (length-drop u.at u.text) ∙ ap length passed.here ∙ length-append (encode_utf8_all cs) _ in
    let texts : length v.text ≡ length u.text = ap length passed.same in
    let next : v.at ≡ u.at + length (encode_utf8_all cs) = passed.next in
    omega arith

-- a place after passed characters is not earlier
pub passes_ahead : {u v : Place} {cs : List ℕ} → Passes u cs v → u.at ≤ v.at
passes_ahead {u} {v} {cs} passed =
    let next : v.at ≡ u.at + length (encode_utf8_all cs) = passed.next in
    omega arith

-- after passing characters, no more characters are left than before
pub passes_shorter : {u v : Place} {cs : List ℕ} → Passes u cs v → length (left v) ≤ length (left u)
passes_shorter {u} {v} {cs} passed =
    let size : length (left u) ≡ length cs + length (left v) = ap length passed.left ∙ length-append cs (left v) in
    omega arith

-- passing a character moves the place by at least one byte
pub passes_one : {u v : Place} {c : ℕ} → Passes u (c ∷ []) v → u.at + 1 ≤ v.at
passes_one {u} {v} {c} passed =
    let next : v.at ≡ u.at + length (encode_utf8_all (c ∷ [])) = passed.next in
    let size : length (encode_utf8_all (c ∷ [])) ≡ len_utf8 c = ap length (sym (encode_one c)) ∙ length-encode c in
    let width : 1 ≤ len_utf8 c = (len_utf8_bounds c).0 in
    omega arith

-- the UTF-8 text between two places consists of the passed characters
pub passes_text : {u v : Place} {cs : List ℕ} (start : ℕ) (bs : List ℕ) → Passes u cs v → start ≡ u.at → IsUtf8 bs
    → bs ≡ between (place v.text start) v → chars bs ≡ cs
passes_text {u} {v} {cs} start bs passed is utf8 taken =
    let next : v.at ≡ u.at + length (encode_utf8_all cs) = passed.next in
    let size : length (encode_utf8_all cs) ≡ v.at - u.at = omega arith in
    let cut : between (place v.text start) v ≡ encode_utf8_all cs =
    ap (λ n. take (v.at - n) (drop n v.text)) is ∙ ap (λ t. take (v.at - u.at) (drop u.at t)) passed.same
    ∙ ap (take (v.at - u.at)) passed.here ∙ take_at (encode_utf8_all cs) (drop v.at v.text) (v.at - u.at) size in
    chars_whole cs bs utf8 (taken ∙ cut)

-- a text of hyphens is as many hyphens as it has characters, and its encoding is itself
pub all_hyphens : (cs : List ℕ) → list_all (λ c. c == 45) cs ≡ true → (cs ≡ replicate (length cs) 45) × (encode_utf8_all cs ≡ cs)
unfolding lib.Utf8.encode
all_hyphens [] all = (refl, refl)
all_hyphens (c ∷ cs) all =
    let parts = and_parts (c == 45) (list_all (λ c. c == 45) cs) all in
    let rest = all_hyphens cs parts.1 in
    rw (eqb-true c 45 parts.0) (ap (λ xs. 45 ∷ xs) rest.0, ap (λ xs. 45 ∷ xs) rest.1)

-- a UTF-8 text of hyphens has as many characters as bytes
pub hyphens_bytes : (bs : List ℕ) → IsUtf8 bs → list_all (λ c. c == 45) (chars bs) ≡ true → chars bs ≡ replicate (length bs) 45
hyphens_bytes bs utf8 all =
    let both = all_hyphens (chars bs) all in
    both.0 ∙ ap (λ n. replicate n 45) (ap length (sym both.1 ∙ encodes-chars bs utf8))

-- if the first character neither passes the test nor fails it, there is none
pub nothing_left : (test : ℕ → Bool) (xs : List ℕ) → begins (λ c. not (test c)) xs ≡ false → begins test xs ≡ false → xs ≡ []
nothing_left test [] one two = refl
nothing_left test (c ∷ cs) one two = absurd (both_ways (not (test c)) one (rw two refl))

-- a text that contains the end of a formula contains a dollar sign
without_dollar : (text rest : List ℕ) → list_all (λ c. not (c == 36)) ((text ++ 36 ∷ []) ++ rest) ≡ true → ⊥
without_dollar [] rest all = both_ways false refl all
without_dollar (c ∷ cs) rest all = without_dollar cs rest (and_parts (not (c == 36)) _ all).1

-- equal lists have equal rests after their first elements
pub after_first : {c d : ℕ} {xs ys : List ℕ} → c ∷ xs ≡ d ∷ ys → xs ≡ ys
after_first same = ap (drop 1) same

-- outside verbatim fields, a dollar sign without a second one begins no unit
pub no_formula : (text : List ℕ) → list_all (λ c. not (c == 36)) text ≡ true → (u : ContentUnit) (rest : List ℕ)
    → IsNext false u (36 ∷ text) rest → ⊥
no_formula text all u rest one =
    let is : ContentUnit.formula (leading_run (λ d. not (d == 36)) text) ≡ u =
    ap (first_unit false) one.spells ∙ unit_first false u rest one.fits in
    let inside = leading_run (λ d. not (d == 36)) text in
    let spelt : text ≡ (inside ++ 36 ∷ []) ++ rest = after_first (one.spells ∙ ap (λ x. unit_spelling x ++ rest) (sym is)) in
    without_dollar inside rest (rw spelt at all)

-- a text of characters other than `$` contains no `$`
pub all_none : (text : List ℕ) → list_all (λ d. not (d == 36)) text ≡ true → list_any (λ c. c == 36) text ≡ false
all_none [] all = refl
all_none (c ∷ cs) all =
    let parts = and_parts (not (c == 36)) (list_all (λ d. not (d == 36)) cs) all in
    rw (not-true (c == 36) parts.0) (all_none cs parts.1)

-- outside verbatim fields, math up to the second dollar sign is the first unit
pub formula_found : (before text after : List ℕ) → list_all (λ d. not (d == 36)) text ≡ true
    → before ≡ text ++ 36 ∷ after → IsNext false (ContentUnit.formula text) (36 ∷ before) after
formula_found before text after all is = record {
  fits = rw (all_none text all) refl;
  spells = ap (λ xs. 36 ∷ xs) (is ∙ sym (append_assoc text (36 ∷ []) after));
}

-- whether a brace of the text closes `depth` open ones and one more
abbrev pub closes : ℕ → List ℕ → Bool
closes depth [] = false
closes depth (c ∷ cs) =
    if c == 123 then closes (suc depth) cs
    else if c == 125 then (if nat_lt 0 depth then closes (depth - 1) cs else true)
    else closes depth cs

-- whether a character isn't a brace
abbrev pub is_no_brace : ℕ → Bool
is_no_brace c = not (c == 123) && not (c == 125)

-- characters without braces don't change whether a text balances
pub balances_run : (depth : ℕ) (cs tail : List ℕ) → list_all is_no_brace cs ≡ true → balances depth (cs ++ tail) ≡ balances depth tail
balances_run depth [] tail all = refl
balances_run depth (c ∷ cs) tail all =
    let parts = and_parts (is_no_brace c) (list_all is_no_brace cs) all in
    let plain = and_parts (not (c == 123)) (not (c == 125)) parts.0 in
    rw (not-true (c == 123) plain.0, not-true (c == 125) plain.1) (balances_run depth cs tail parts.1)

-- characters without braces don't change whether a text closes the open braces
pub closes_run : (depth : ℕ) (cs tail : List ℕ) → list_all is_no_brace cs ≡ true → closes depth (cs ++ tail) ≡ closes depth tail
closes_run depth [] tail all = refl
closes_run depth (c ∷ cs) tail all =
    let parts = and_parts (is_no_brace c) (list_all is_no_brace cs) all in
    let plain = and_parts (not (c == 123)) (not (c == 125)) parts.0 in
    rw (not-true (c == 123) plain.0, not-true (c == 125) plain.1) (closes_run depth cs tail parts.1)

-- if a text balances with `depth` open braces before it, the closing brace after it closes one more
pub closes_balanced : (depth : ℕ) (text rest : List ℕ) → balances depth text ≡ true → closes depth (text ++ 125 ∷ rest) ≡ true
closes_balanced depth [] rest balanced = rw (eqb-true depth 0 balanced) refl
closes_balanced depth (c ∷ cs) rest balanced =
    elim (cases_Bool (c == 123)) [
      | inl opens ↦ rw opens (closes_balanced (suc depth) cs rest (rw opens at balanced))
      | inr opens ↦
          elim (cases_Bool (c == 125)) [
            | inl ends ↦
                let parts = and_parts (nat_lt 0 depth) (balances (depth - 1) cs) (rw (opens, ends) at balanced) in
                rw (opens, ends, parts.0) (closes_balanced (depth - 1) cs rest parts.1)
            | inr ends ↦ rw (opens, ends) (closes_balanced depth cs rest (rw (opens, ends) at balanced))
          ]
    ]

-- an argument was parsed from `u` to `s`, where `depth` braces are open
pub record BracedRead (u : Place) (depth : ℕ) (s : Place) : Type 0 where
  pub characters : List ℕ
  pub passed : Passes u characters s
  pub balanced : (tail : List ℕ) → balances 0 (characters ++ tail) ≡ balances depth tail
  pub closed : closes 0 (left u) ≡ closes depth (left s)

-- at the start of an argument no character was passed
pub braced_none : (u : Place) → BracedRead u 0 u
braced_none u = record { characters = []; passed = passes_none u; balanced = λ tail. refl; closed = refl }

-- a run of characters without braces keeps the depth
braced_run : {u s t : Place} {depth : ℕ} {run : List ℕ} → BracedRead u depth s → Passes s run t
    → list_all is_no_brace run ≡ true → BracedRead u depth t
braced_run {u} {s} {t} {depth} {run} read passed plain = record {
  characters = read.characters ++ run;
  passed = passes_then read.passed passed;
  balanced = λ tail.
      ap (balances 0) (append_assoc read.characters run tail) ∙ read.balanced (run ++ tail)
      ∙ balances_run depth run tail plain;
  closed = read.closed ∙ ap (closes depth) passed.left ∙ closes_run depth run (left t) plain;
}

-- an opening brace increases the depth
braced_open : {u s t : Place} {depth : ℕ} → BracedRead u depth s → Passes s (123 ∷ []) t → BracedRead u (depth + 1) t
braced_open {u} {s} {t} {depth} read passed = record {
  characters = read.characters ++ 123 ∷ [];
  passed = passes_then read.passed passed;
  balanced = λ tail.
      ap (balances 0) (append_assoc read.characters (123 ∷ []) tail) ∙ read.balanced (123 ∷ tail)
      ∙ ap (λ n. balances n tail) (sym (add-one depth));
  closed = read.closed ∙ ap (closes depth) passed.left ∙ ap (λ n. closes n (left t)) (sym (add-one depth));
}

-- a closing brace of an open one decreases the depth
braced_close : {u s t : Place} {depth : ℕ} → BracedRead u depth s → nat_lt 0 depth ≡ true → Passes s (125 ∷ []) t
    → BracedRead u (depth - 1) t
braced_close {u} {s} {t} {depth} read within passed = record {
  characters = read.characters ++ 125 ∷ [];
  passed = passes_then read.passed passed;
  balanced = λ tail. ap (balances 0) (append_assoc read.characters (125 ∷ []) tail) ∙ read.balanced (125 ∷ tail) ∙ rw within refl;
  closed = read.closed ∙ ap (closes depth) passed.left ∙ rw within refl;
}

-- the character after the longest run without braces is a brace
pub next_brace : (c : ℕ) (xs rest : List ℕ) → begins is_no_brace xs ≡ false → xs ≡ c ∷ rest → is_no_brace c ≡ false
next_brace c xs rest ends is = rw is at ends

-- an opening brace after a run without braces adds one to the open ones
pub braced_opens : {u s t w : Place} {depth : ℕ} {run : List ℕ} → BracedRead u depth s → Passes s run t
    → list_all is_no_brace run ≡ true → Passes t (123 ∷ []) w → BracedRead u (depth + 1) w
braced_opens read passed plain brace = braced_open (braced_run read passed plain) brace

-- a brace that isn't an opening one is a closing one
pub is_closing : (c : ℕ) → is_no_brace c ≡ false → (c ≡ 123 → ⊥) → c ≡ 125
is_closing c brace differs = grind arith

-- a closing brace after a run without braces lowers the number of open braces by one, if one is open
pub braced_closes : {u s t w : Place} {depth : ℕ} {run : List ℕ} {c : ℕ} → BracedRead u depth s → Passes s run t
    → list_all is_no_brace run ≡ true → begins is_no_brace (left t) ≡ false → Passes t (c ∷ []) w → (c ≡ 123 → ⊥)
    → nat_lt 0 depth ≡ true
    → BracedRead u (depth - 1) w
braced_closes {u} {s} {t} {w} {depth} {run} {c} read passed plain ends brace differs within =
    let is : c ≡ 125 = is_closing c (next_brace c (left t) (left w) ends brace.left) differs in
    braced_close (braced_run read passed plain) within (subst (λ x. Passes t (x ∷ []) w) is brace)

-- at depth 0 a closing brace ends the argument
pub braced_found : {u s t w : Place} {run : List ℕ} {c : ℕ} → BracedRead u 0 s → Passes s run t
    → list_all is_no_brace run ≡ true → begins is_no_brace (left t) ≡ false → Passes t (c ∷ []) w → (c ≡ 123 → ⊥)
    → (cs : List ℕ) × Passes u cs t × (left u ≡ cs ++ 125 ∷ left w) × (balances 0 cs ≡ true)
braced_found {u} {s} {t} {w} {run} {c} read passed plain ends brace differs =
    let is : c ≡ 125 = is_closing c (next_brace c (left t) (left w) ends brace.left) differs in
    let whole = braced_run read passed plain in
    let last : left t ≡ 125 ∷ left w = brace.left ∙ ap (λ x. x ∷ left w) is in (
      whole.characters,
      whole.passed,
      whole.passed.left ∙ ap (λ xs. whole.characters ++ xs) last,
      ap (balances 0) (sym (append-nil whole.characters)) ∙ whole.balanced [],
    )

-- if the text ends first, no brace closes the argument
pub braced_never : {u s t : Place} {depth : ℕ} {run : List ℕ} → BracedRead u depth s → Passes s run t
    → list_all is_no_brace run ≡ true → left t ≡ []
    → (text rest : List ℕ) → left u ≡ text ++ 125 ∷ rest → balances 0 text ≡ true → ⊥
braced_never {u} {s} {t} {depth} {run} read passed plain ended text rest is balanced =
    let whole = braced_run read passed plain in
    both_ways (closes 0 (left u)) (whole.closed ∙ ap (closes depth) ended) (ap (closes 0) is ∙ closes_balanced 0 text rest balanced)

-- a step of the loop: an opening brace
pub braced_opened : {u s t w : Place} {depth : ℕ} {run : List ℕ} {c : ℕ} → BracedRead u depth s → depth ≤ s.at
    → Passes s run t → list_all is_no_brace run ≡ true → Passes t (c ∷ []) w → c ≡ 123
    → BracedRead u (depth + 1) w × (depth + 1 ≤ w.at)
braced_opened {u} {s} {t} {w} {depth} {run} {c} read bound passed plain brace is = (
  braced_opens read passed plain (subst (λ x. Passes t (x ∷ []) w) is brace),
  (let one : t.at + 1 ≤ w.at = passes_one brace in let run' : s.at ≤ t.at = passes_ahead passed in omega arith),
)

-- a step of the loop: a closing brace
pub braced_closed : {u s t w : Place} {depth : ℕ} {run : List ℕ} {c : ℕ} → BracedRead u depth s → depth ≤ s.at
    → Passes s run t → list_all is_no_brace run ≡ true → begins is_no_brace (left t) ≡ false → Passes t (c ∷ []) w
    → (c ≡ 123 → ⊥) → (depth ≡ 0 → ⊥)
    → BracedRead u (depth - 1) w × (depth - 1 ≤ w.at)
braced_closed {u} {s} {t} {w} {depth} {run} {c} read bound passed plain ends brace differs some =
    let positive : 0 < depth = omega (arith, some) in (
      braced_closes read passed plain ends brace differs (lt-ltb 0 depth positive),
      (let one : t.at + 1 ≤ w.at = passes_one brace in let run' : s.at ≤ t.at = passes_ahead passed in omega arith),
    )

-- a UTF-8 argument whose braces balance was passed, and its closing brace
pub encloses : {u t w inside : Place} {cs : List ℕ} (start : ℕ) → Passes u cs t → balances 0 cs ≡ true
    → Passes t (125 ∷ []) w → inside ≡ place (take t.at t.text) start → start ≡ u.at
    → IsUtf8 (drop inside.at inside.text) → t.at ≤ length t.text → Encloses u inside w
encloses {u} {t} {w} {inside} {cs} start passed balanced brace is here utf8 within =
    let size : length (take t.at t.text) ≡ t.at = length-take-le t.at t.text within in
    let long : length inside.text ≡ t.at = ap (λ p. length p.text) is ∙ size in
    let at : inside.at ≡ u.at = ap (λ p. p.at) is ∙ here in
    let next : t.at ≡ u.at + length (encode_utf8_all cs) = passed.next in
    let following : t.at + 1 ≤ w.at = passes_one brace in
    let cut : drop inside.at inside.text ≡ encode_utf8_all cs =
    ap (λ p. drop p.at p.text) is ∙ ap (λ n. drop n (take t.at t.text)) here ∙ ap (λ n. drop u.at (take n t.text)) next
    ∙ drop-take u.at (length (encode_utf8_all cs)) t.text
    ∙ ap (λ bs. take (length (encode_utf8_all cs)) (drop u.at bs)) passed.same
    ∙ ap (take (length (encode_utf8_all cs))) passed.here
    ∙ take_at (encode_utf8_all cs) (drop t.at t.text) (length (encode_utf8_all cs)) refl in
    let same : left inside ≡ cs = chars_whole cs (drop inside.at inside.text) utf8 cut in
    record {
      stands = record {
        cut = ap (λ p. p.text) is ∙ ap (λ bs. take t.at bs) passed.same ∙ ap (λ n. take n u.text) (sym long);
        following = omega (arith, at);
        within = omega (arith, at, long, next);
        ends = omega (arith, long, following);
      };
      spelt = passed.left ∙ ap (λ xs. cs ++ xs) brace.left ∙ ap (λ xs. xs ++ 125 ∷ left w) (sym same);
      balanced = ap (balances 0) same ∙ balanced;
    }

-- a closing brace without an opening one ends a UTF-8 argument
pub braced_encloses : {u s t w inside : Place} {depth : ℕ} {run : List ℕ} {c : ℕ} (start : ℕ) → BracedRead u depth s
    → depth ≡ 0 → Passes s run t → list_all is_no_brace run ≡ true → begins is_no_brace (left t) ≡ false
    → Passes t (c ∷ []) w → (c ≡ 123 → ⊥)
    → inside ≡ place (take t.at t.text) start → start ≡ u.at → IsUtf8 (drop inside.at inside.text)
    → t.at ≤ length t.text → Encloses u inside w
braced_encloses {u} {s} {t} {w} {inside} {depth} {run} {c} start read none passed plain ends brace differs is here utf8 within =
    let found = braced_found (subst (λ d. BracedRead u d s) none read) passed plain ends brace differs in
    let closing : c ≡ 125 = is_closing c (next_brace c (left t) (left w) ends brace.left) differs in
    encloses start found.1 found.3 (subst (λ x. Passes t (x ∷ []) w) closing brace) is here utf8 within

-- the characters of a UTF-8 text that begins with a closing brace are this brace and the characters after it
chars_brace : (bs rest : List ℕ) → IsUtf8 bs → bs ≡ 125 ∷ rest → chars bs ≡ 125 ∷ chars rest
unfolding lib.Utf8.encode
chars_brace bs rest utf8 is = (chars_past (125 ∷ []) bs rest utf8 is).0

-- if a closing brace comes next, eating a character passes it
brace_eaten : {t w : Place} {rest : List ℕ} (found : Option ℕ)
    → MatchOption found ((left t ≡ []) × (w ≡ t)) (λ c. Passes t (c ∷ []) w) → left t ≡ 125 ∷ rest
    → Passes t (125 ∷ []) w
brace_eaten None eaten ahead = absurd (cc (eaten.0, ahead))
brace_eaten {t} {w} (Some c) eaten ahead = let is : c ≡ 125 = cc (eaten.left, ahead) in subst (λ x. Passes t (x ∷ []) w) is eaten

-- a UTF-8 argument whose end is known was passed, with its closing brace
pub known_encloses : {u t w inside : Place} (start end : ℕ) (found : Option ℕ) → Closes u.text start end → start ≡ u.at
    → t ≡ place u.text end → IsUtf8 (drop u.at u.text) → end < length u.text
    → MatchOption found ((left t ≡ []) × (w ≡ t)) (λ c. Passes t (c ∷ []) w)
    → inside ≡ place (take t.at t.text) start → IsUtf8 (drop inside.at inside.text) → Encloses u inside w
known_encloses {u} {t} {w} {inside} start end found closes here there utf8 within eaten is inside_utf8 =
    let spelt : drop u.at u.text ≡ encode_utf8_all closes.inside ++ drop end u.text =
    subst (λ n. drop n u.text ≡ encode_utf8_all closes.inside ++ drop end u.text) here closes.spelt in
    let past = chars_past closes.inside (drop u.at u.text) (drop end u.text) utf8 spelt in
    let passed : Passes u closes.inside t = record {
      same = ap (λ p. p.text) there;
      here = spelt ∙ ap (λ bs. encode_utf8_all closes.inside ++ bs) (sym (ap (λ p. drop p.at p.text) there));
      next = ap (λ p. p.at) there ∙ closes.width ∙ ap (λ n. n + length (encode_utf8_all closes.inside)) here;
      left = past.0 ∙ ap (λ cs. closes.inside ++ cs) (sym (ap (λ p. chars (drop p.at p.text)) there));
    } in
    let ahead : left t ≡ 125 ∷ chars (drop (end + 1) u.text) =
    ap (λ p. chars (drop p.at p.text)) there ∙ chars_brace (drop end u.text) (drop (end + 1) u.text) past.1 closes.brace in
    encloses start passed closes.balanced (brace_eaten found eaten ahead) is here inside_utf8
    (omega (arith, ap (λ p. p.at) there, within, ap (λ p. length p.text) there))

-- the end of an argument in UTF-8 text is at a character boundary
pub closes_boundary : {text : List ℕ} {start end : ℕ} → Closes text start end → IsUtf8 (drop start text)
    → end < length text → IsCharBoundary text end
closes_boundary {text} {start} {end} closes utf8 within =
    IsCharBoundary-from_drop text end (omega (arith, within))
    (chars_past closes.inside (drop start text) (drop end text) utf8 closes.spelt).1

-- the depth of an argument in a text of fewer than 2^63 bytes is below 2^63
pub braced_bound : {u s : Place} {depth : ℕ} → BracedRead u depth s → u.at ≤ length u.text → length u.text < 2 ^ 63
    → depth ≤ s.at → depth < 2 ^ 63
braced_bound {u} {s} {depth} read within fits bound =
    let inside : s.at ≤ length s.text = passes_within read.passed within in
    let same : length s.text ≡ length u.text = ap length read.passed.same in
    omega arith
