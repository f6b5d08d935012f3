-- Two texts that have the same bytes in a zone: the parts of the first in the zone are also in the second.
use Rattle.std.proofs.Common.{◌≡◌, ℕ, ◌+◌, ◌-◌, ◌<◌, ◌≤◌, Bool, List, ◌++◌, length, take, drop, refl, sym, ap, ◌∙◌, subst, arith, inl, inr}
use Rattle.std.specs.Prelude.{encode_utf8}
use Rattle.std.specs.Char.{len_utf8}
use Rattle.std.proofs.lemmas.List.{take-take, drop-take, drop-drop, take_at, take-append-drop}
use Rattle.std.proofs.lemmas.Str.{length-encode}
use Rattle.std.proofs.lemmas.Bool.{cases_lt}
use Rattle.bib_text.specs.Places.{Place, place, CharAt, Run, Stops, Longest, AtEnd, between}
use Rattle.bib_text.specs.Places.Run.{stop, step}
use Rattle.bib_text.specs.Braces.{Parts}
use Rattle.bib_text.specs.Braces.Parts.{none, plain, hidden, nested}
use Rattle.bib_text.proofs.BraceFacts.{ahead_parts}
use Rattle.bib_text.proofs.PlaceFacts.{char_here, Ahead, ahead_then, ahead_char, ahead_run}
use Rattle.bib_syntax.specs.Reading.{Part, part}
use Rattle.edit_entries.specs.Edits.{moved_part}

-- two texts, the function that moves byte offsets from the first to the second, and a zone: from `from` to `end`, which begins at `to` in
-- the second
pub record Frame : Type 0 where
  pub old : List ℕ
  pub new : List ℕ
  pub move : ℕ → ℕ
  pub from : ℕ
  pub to : ℕ
  pub end : ℕ

-- the zone has the same bytes in both texts, its byte offsets keep their distances, and no character of the second text crosses its end
pub record Zone (f : Frame) : Type 0 where
  pub moves : (n : ℕ) → f.from ≤ n → n < f.end → f.move n + f.from ≡ n + f.to
  pub same : take (f.end - f.from) (drop f.from f.old) ≡ take (f.end - f.from) (drop f.to f.new)
  pub cut : {u v : Place} {c : ℕ} → u.text ≡ f.new → CharAt u c v → u.at + f.from < f.end + f.to → v.at + f.from ≤ f.end + f.to

-- the place in the second text of a place of the first
abbrev pub there : Frame → Place → Place
there f u = place f.new (f.move u.at)

-- a place of the first text is in the zone or at its end
pub record Inside (f : Frame) (u : Place) : Type 0 where
  pub text : u.text ≡ f.old
  pub start : f.from ≤ u.at
  pub end : u.at ≤ f.end
  pub moved : f.move u.at + f.from ≡ u.at + f.to

pub inside : {f : Frame} {u : Place} → Zone f → u.text ≡ f.old → f.from ≤ u.at → u.at < f.end → Inside f u
inside {f} {u} z text start below = record { text = text; start = start; end = omega arith; moved = z.moves u.at start below }

-- a place between two places of the zone is in the zone
pub inside_between : {f : Frame} {u v w : Place} → Zone f → Inside f u → Inside f v → Ahead u w → Ahead w v → Inside f w
inside_between {f} {u} {v} {w} z iu iv first second =
    let text : w.text ≡ f.old = first.text ∙ iu.text in
    let start : f.from ≤ w.at = omega (arith, iu.start, first.at) in
    let end : w.at ≤ f.end = omega (arith, iv.end, second.at) in
    elim (cases_lt w.at f.end) [
      | inl below ↦ inside z text start below
      | inr past ↦
          let last : v.at ≡ w.at = omega (arith, iv.end, second.at) in
          record { text = text; start = start; end = end; moved = subst (λ n. f.move n + f.from ≡ n + f.to) last iv.moved }
    ]

-- bytes within the first bytes of a list are the same in the whole list
pub inner : (size k n : ℕ) (xs : List ℕ) → k + n ≤ size → take n (drop k (take size xs)) ≡ take n (drop k xs)
inner size k n xs fits =
    let whole : size ≡ k + (size - k) = omega arith in
    ap (λ m. take n (drop k (take m xs))) whole ∙ ap (take n) (drop-take k (size - k) xs) ∙ take-take n (size - k) (drop k xs) (omega arith)

-- bytes of the zone are the same in the second text
pub bytes_there : {f : Frame} → Zone f → (a n b : ℕ) → f.from ≤ a → a + n ≤ f.end → b + f.from ≡ a + f.to
    → take n (drop b f.new) ≡ take n (drop a f.old)
bytes_there {f} z a n b start end is =
    let size : ℕ = f.end - f.from in
    let k : ℕ = a - f.from in
    let fits : k + n ≤ size = omega arith in
    let from_old : f.from + k ≡ a = omega arith in
    let from_new : f.to + k ≡ b = omega arith in
    ap (λ m. take n (drop m f.new)) (sym from_new) ∙ ap (take n) (sym (drop-drop k f.to f.new))
    ∙ sym (inner size k n (drop f.to f.new) fits)
    ∙ ap (λ xs. take n (drop k xs)) (sym z.same)
    ∙ inner size k n (drop f.from f.old) fits ∙ ap (take n) (drop-drop k f.from f.old) ∙ ap (λ m. take n (drop m f.old)) from_old

-- a character is parsed at a place with its bytes
pub copied : (old new rest : List ℕ) (a b c : ℕ) → drop a old ≡ encode_utf8 c ++ rest
    → take (len_utf8 c) (drop b new) ≡ take (len_utf8 c) (drop a old)
    → CharAt (place new b) c (place new (b + len_utf8 c))
copied old new rest a b c here same =
    let bytes : take (len_utf8 c) (drop b new) ≡ encode_utf8 c =
    same ∙ ap (take (len_utf8 c)) here ∙ take_at (encode_utf8 c) rest (len_utf8 c) (length-encode c) in
    char_here new (drop (len_utf8 c) (drop b new)) b c
    (sym (take-append-drop (len_utf8 c) (drop b new)) ∙ ap (λ xs. xs ++ drop (len_utf8 c) (drop b new)) bytes)

-- a character of the zone is at the moved place in the second text
pub char_there : {f : Frame} {u v : Place} {c : ℕ} → Zone f → Inside f u → Inside f v → CharAt u c v → CharAt (there f u) c (there f v)
char_there {f} {u} {v} {c} z iu iv char =
    let next : v.at ≡ u.at + len_utf8 c = char.next in
    let here : drop u.at f.old ≡ encode_utf8 c ++ drop v.at f.old =
    subst (λ t. drop u.at t ≡ encode_utf8 c ++ drop v.at t) iu.text char.here in
    let bytes = bytes_there z u.at (len_utf8 c) (f.move u.at) iu.start (omega (arith, iv.end)) iu.moved in
    let stands : CharAt (there f u) c (place f.new (f.move u.at + len_utf8 c)) =
    copied f.old f.new (drop v.at f.old) u.at (f.move u.at) c here bytes in
    let width : f.move u.at + len_utf8 c ≡ f.move v.at = omega (arith, iu.moved, iv.moved) in
    subst (λ n. CharAt (there f u) c (place f.new n)) width stands

-- a character that begins in the zone, and ends at or before its end, is at the moved place in the second text
pub char_there_last : {f : Frame} {u v : Place} {c : ℕ} → Zone f → Inside f u → v.at ≤ f.end → CharAt u c v
    → CharAt (there f u) c (place f.new (f.move u.at + len_utf8 c))
char_there_last {f} {u} {v} {c} z iu end char =
    let next : v.at ≡ u.at + len_utf8 c = char.next in
    let here : drop u.at f.old ≡ encode_utf8 c ++ drop v.at f.old =
    subst (λ t. drop u.at t ≡ encode_utf8 c ++ drop v.at t) iu.text char.here in
    copied f.old f.new (drop v.at f.old) u.at (f.move u.at) c here
    (bytes_there z u.at (len_utf8 c) (f.move u.at) iu.start (omega arith) iu.moved)

-- a character at the moved place of a place before the end of the zone is at this place of the first text, too
pub char_back : {f : Frame} {u w : Place} {c : ℕ} → Zone f → Inside f u → u.at < f.end → CharAt (there f u) c w
    → CharAt u c (place u.text (u.at + len_utf8 c))
char_back {f} {u} {w} {c} z iu below char =
    let next : w.at ≡ f.move u.at + len_utf8 c = char.next in
    let start : f.move u.at + f.from < f.end + f.to = omega (arith, iu.moved) in
    let end : w.at + f.from ≤ f.end + f.to = z.cut {u = there f u} refl char start in
    let bytes = bytes_there z u.at (len_utf8 c) (f.move u.at) iu.start (omega (arith, iu.moved)) iu.moved in
    let stands : CharAt (place f.old u.at) c (place f.old (u.at + len_utf8 c)) =
    copied f.new f.old (drop w.at f.new) (f.move u.at) u.at c char.here (sym bytes) in
    subst (λ t. CharAt (place t u.at) c (place t (u.at + len_utf8 c))) (sym iu.text) stands

pub stops_there : {f : Frame} {u : Place} (test : ℕ → Bool) → Zone f → Inside f u → u.at < f.end → Stops test u → Stops test (there f u)
stops_there test z iu below stops c w char = stops c _ (char_back z iu below char)

pub run_there : {f : Frame} {test : ℕ → Bool} {u v : Place} → Zone f → Inside f u → Inside f v → Run test u v
    → Run test (there f u) (there f v)
run_there z iu iv stop = stop
run_there z iu iv (step char passes rest) =
    let iw = inside_between z iu iv (ahead_char char) (ahead_run rest) in
    step (char_there z iu iw char) passes (run_there z iw iv rest)

pub longest_there : {f : Frame} {u v : Place} {test : ℕ → Bool} → Zone f → Inside f u → Inside f v → v.at < f.end
    → Longest test u v → Longest test (there f u) (there f v)
longest_there {f} {u} {v} {test} z iu iv below l = record { run = run_there z iu iv l.run; stops = stops_there test z iv below l.stops }

pub parts_there : {f : Frame} {u v : Place} → Zone f → Inside f u → Inside f v → Parts u v → Parts (there f u) (there f v)
parts_there z iu iv none = none
parts_there z iu iv (plain char passes rest) =
    let iw = inside_between z iu iv (ahead_char char) (ahead_parts rest) in
    plain (char_there z iu iw char) passes (parts_there z iw iv rest)
parts_there z iu iv (hidden slash char rest) =
    let a = inside_between z iu iv (ahead_char slash) (ahead_then (ahead_char char) (ahead_parts rest)) in
    let b = inside_between z a iv (ahead_char char) (ahead_parts rest) in
    hidden (char_there z iu a slash) (char_there z a b char) (parts_there z b iv rest)
parts_there z iu iv (nested opens parts closes rest) =
    let a =
    inside_between z iu iv (ahead_char opens)
    (ahead_then (ahead_parts parts) (ahead_then (ahead_char closes) (ahead_parts rest))) in
    let b = inside_between z a iv (ahead_parts parts) (ahead_then (ahead_char closes) (ahead_parts rest)) in
    let c = inside_between z b iv (ahead_char closes) (ahead_parts rest) in
    nested (char_there z iu a opens) (parts_there z a b parts) (char_there z b c closes) (parts_there z c iv rest)

-- the text between two places of the zone is the same in the second text
pub between_there : {f : Frame} {u v : Place} → Zone f → Inside f u → Inside f v → Ahead u v → between (there f u) (there f v) ≡ between u v
between_there {f} {u} {v} z iu iv ahead =
    let size : f.move v.at - f.move u.at ≡ v.at - u.at = omega (arith, iu.moved, iv.moved, ahead.at, iu.start) in
    ap (λ n. take n (drop (f.move u.at) f.new)) size
    ∙ bytes_there z u.at (v.at - u.at) (f.move u.at) iu.start (omega (arith, iv.end, ahead.at)) iu.moved
    ∙ ap (λ t. take (v.at - u.at) (drop u.at t)) (sym iu.text)

pub part_there : {f : Frame} {u v : Place} → Zone f → Inside f u → Inside f v → Ahead u v
    → part (there f u) (there f v) ≡ moved_part f.move (part u v)
part_there {f} {u} {v} z iu iv ahead =
    let build : List ℕ → Part = λ (t : List ℕ). record { text = t; start = f.move u.at; end = f.move v.at } in
    ap build (between_there z iu iv ahead)

-- the end of the first text, in the zone or at its end, is moved to the end of the second. This holds if both texts have the same length
-- from the start of the zone on
pub end_there : {f : Frame} {u : Place} → Inside f u → length f.old + f.to ≡ length f.new + f.from → AtEnd u → AtEnd (there f u)
end_there {f} {u} iu same end =
    let size : length u.text ≡ length f.old = ap length iu.text in
    omega (arith, iu.moved)
