-- Text that is inserted before the first entry of a file, and the reading of the whole.
use Rattle.std.proofs.Common.{◌≡◌, ℕ, ◌+◌, ◌-◌, ◌<◌, ◌≤◌, cond, List, [], ◌∷◌, ◌++◌, length, take, drop, refl, sym, ap, ◌∙◌, subst, arith, length-drop}
use Rattle.std.specs.Prelude.{not, filter}
use Rattle.std.specs.List.{AllByRecursion}
use Rattle.std.proofs.lemmas.Bool.{lt-ltb, le-ltb}
use Rattle.bib_text.specs.Places.{Place, place, CharAt}
use Rattle.bib_text.proofs.PlaceFacts.{ahead_char, char_left}
use Rattle.bib_text.proofs.BoundaryFacts.{Border, not_over}
use Rattle.bib_text.proofs.ListFacts.{all_append}
use Rattle.bib_syntax.specs.Reading.{Part, FieldReading, FileReading, then}
use Rattle.bib_syntax.specs.Grammar.{BlockKind, Body, Field, Fields, File, IsRawReading, longest}
use Rattle.bib_syntax.specs.Grammar.{Body as body}
use Rattle.bib_syntax.specs.Grammar.{Fields as fields}
use Rattle.bib_syntax.specs.Grammar.{File as file}
use Rattle.bib_syntax.proofs.FieldFacts.{ahead_field, ahead_fields, ahead_gap}
use Rattle.bib_syntax.proofs.FileFacts.{ahead_block, ahead_head, ahead_line_comment, block_same, empty_reading-then, first_block, line_comment_rest, skipped_rest, then-then}
use Rattle.edit_entries.specs.Edits.{moved_file}
use Rattle.edit_entries.proofs.MovedFacts.{file_before_there, file_there}
use Rattle.edit_entries.proofs.SplitFacts.{FileBefore, ahead_file_before}
use Rattle.edit_entries.proofs.ZoneFacts.{Frame, Inside, Zone}
use Rattle.edit_strings.specs.Collected.{is_before}

-- ---- the rest of a file after a part of it

-- the rest of a file
pub record RestOf (w : Place) (before says : FileReading) : Type 0 where
  pub rest : FileReading
  pub read : File longest w rest
  pub whole : says ≡ then before rest

-- a file that begins with a part is this part and a rest
pub rest_after : {u w : Place} {before says : FileReading} → FileBefore u before w → File longest u says → RestOf w before says
rest_after {says = says} FileBefore.none x = record { rest = says; read = x; whole = sym (empty_reading-then says) }
rest_after (FileBefore.skipped char passes others) x = rest_after others (skipped_rest char passes x)
rest_after (FileBefore.line_comment m others) x = rest_after others (line_comment_rest m x)
rest_after (FileBefore.block {v = v} {first = first} {rest = more} b others) x =
    let f = first_block b.head.sign x in
    let same = block_same f.block b in
    let left = rest_after others (subst (λ p. File longest p f.rest) same.1 f.left) in
    record {
      rest = left.rest;
      read = left.read;
      whole = f.whole ∙ ap (λ r. then r f.rest) same.0 ∙ ap (then first) left.whole ∙ sym (then-then first more left.rest);
    }

-- ---- a part of a file at the start of another text

abbrev front_frame : List ℕ → List ℕ → ℕ → Frame
front_frame old new at = record { old = old; new = new; move = λ n. n; from = 0; to = 0; end = at }

zone_front : (old new : List ℕ) (at : ℕ) → take at old ≡ take at new → Border (place new at) → Zone (front_frame old new at)
zone_front old new at same border =
    let size : at - 0 ≡ at = omega arith in
    record {
      moves = λ n from below. refl;
      same = ap (λ n. take n old) size ∙ same ∙ ap (λ n. take n new) (sym size);
      cut = λ {u} {v} {c} text char below. omega (arith, not_over new at border text char (omega arith));
    }

-- a part of a file up to an at sign is one in a text with the same bytes up to there
pub front_there : (old new : List ℕ) (at : ℕ) {says : FileReading} {x : Place} → take at old ≡ take at new → Border (place new at)
    → CharAt (place old at) 64 x → FileBefore (place old 0) says (place old at)
    → FileBefore (place new 0) (moved_file (λ n. n) says) (place new at)
front_there old new at same border sign before =
    let start : Inside (front_frame old new at) (place old 0) =
    record { text = refl; start = omega arith; end = omega arith; moved = refl } in
    let end : Inside (front_frame old new at) (place old at) =
    record { text = refl; start = omega arith; end = omega arith; moved = refl } in
    file_before_there (zone_front old new at same border) start end sign before

-- ---- the rest of a file as a text of its own, and a text at the end of another

abbrev tail_frame : List ℕ → ℕ → Frame
tail_frame text at = record { old = text; new = drop at text; move = λ n. n - at; from = at; to = 0; end = length text + 1 }

zone_tail : (text : List ℕ) (at : ℕ) → at ≤ length text → Zone (tail_frame text at)
zone_tail text at within = record {
  moves = λ n from below. omega arith;
  same = refl;
  cut = λ {u} {v} {c} same char below. omega (arith, char_left char, char.next, ap length same, length-drop at text);
}

-- the rest of a file is a file
pub tail_read : (text : List ℕ) (at : ℕ) {says : FileReading} → at ≤ length text → File longest (place text at) says
    → IsRawReading (drop at text) (moved_file (λ n. n - at) says)
tail_read text at {says} within x =
    let start : Inside (tail_frame text at) (place text at) =
    record { text = refl; start = omega arith; end = omega (arith, within); moved = omega arith } in
    let from : at - at ≡ 0 = omega arith in
    subst (λ n. File longest (place (drop at text) n) (moved_file (λ n. n - at) says)) from
    (file_there (zone_tail text at within) refl (omega (arith, length-drop at text, within)) start x)

abbrev back_frame : List ℕ → List ℕ → ℕ → Frame
back_frame text whole at = record { old = text; new = whole; move = λ n. n + at; from = 0; to = at; end = length text + 1 }

zone_back : (text whole : List ℕ) (at : ℕ) → at ≤ length whole → drop at whole ≡ text → Zone (back_frame text whole at)
zone_back text whole at within here =
    let size : length text + 1 - 0 ≡ length text + 1 = omega arith in
    record {
      moves = λ n from below. omega arith;
      same = ap (take (length text + 1 - 0)) (sym here);
      cut = λ {u} {v} {c} same char below.
          omega (arith, char_left char, char.next, ap length same, length-drop at whole, ap length here, within);
    }

-- a file parses at the end of another text, with moved byte offsets
pub back_read : (text whole : List ℕ) (at : ℕ) {says : FileReading} → at ≤ length whole → drop at whole ≡ text → IsRawReading text says
    → File longest (place whole at) (moved_file (λ n. n + at) says)
back_read text whole at {says} within here x =
    let start : Inside (back_frame text whole at) (place text 0) =
    record { text = refl; start = omega arith; end = omega arith; moved = omega arith } in
    let from : 0 + at ≡ at = omega arith in
    subst (λ n. File longest (place whole n) (moved_file (λ n. n + at) says)) from
    (file_there (zone_back text whole at within here) refl (omega (arith, ap length here, length-drop at whole, within)) start x)

-- ---- the byte offsets at which definitions begin

-- the definitions begin before a byte offset
abbrev pub AreBefore : ℕ → List FieldReading → Type 0
AreBefore at fs = AllByRecursion (λ f. f.name.start < at) fs

abbrev pub AreFrom : ℕ → List FieldReading → Type 0
AreFrom at fs = AllByRecursion (λ f. at ≤ f.name.start) fs

before_later : (at later : ℕ) (fs : List FieldReading) → at ≤ later → AreBefore at fs → AreBefore later fs
before_later at later [] less all = tt
before_later at later (f ∷ fs) less all = (omega (arith, all.0), before_later at later fs less all.1)

pub from_earlier : (at earlier : ℕ) (fs : List FieldReading) → earlier ≤ at → AreFrom at fs → AreFrom earlier fs
from_earlier at earlier [] less all = tt
from_earlier at earlier (f ∷ fs) less all = (omega (arith, all.0), from_earlier at earlier fs less all.1)

field_start : {u v : Place} {f : FieldReading} → Field longest u f v → f.name.start ≡ u.at
field_start field = ap (λ p. p.start) field.name.reading

fields_before : {u v : Place} {fs : List FieldReading} (at : ℕ) → Fields longest u fs v → v.at < at → AreBefore at fs
fields_before at (fields.none white) below = tt
fields_before at (fields.last field gap) below =
    (omega (arith, field_start field, (ahead_field field).at, (ahead_gap gap).at), tt)
fields_before at (fields.more field gap comma gap' rest) below = (
  omega (
    arith,
    field_start field,
    (ahead_field field).at,
    (ahead_gap gap).at,
    (ahead_char comma).at,
    (ahead_gap gap').at,
    (ahead_fields rest).at,
  ),
  fields_before at rest below,
)

fields_from : {u v : Place} {fs : List FieldReading} (at : ℕ) → Fields longest u fs v → at ≤ u.at → AreFrom at fs
fields_from at (fields.none white) past = tt
fields_from at (fields.last field gap) past = (omega (arith, field_start field), tt)
fields_from at (fields.more field gap comma gap' rest) past = (
  omega (arith, field_start field),
  fields_from at rest (omega (arith, (ahead_field field).at, (ahead_gap gap).at, (ahead_char comma).at, (ahead_gap gap').at)),
)

strict : {u v : Place} → CharAt u 125 v → u.at < v.at
strict char = omega (arith, char.next)

body_before : {start u v : Place} {kind : Part} {k : BlockKind} {says : FileReading} → Body longest start kind k u says v
    → AreBefore v.at says.abbreviations
body_before (body.comment brace chars closes) = tt
body_before (body.preamble quoted white closes is_brace) = tt
body_before {v = v} (body.strings fs closes) = fields_before v.at fs (strict closes)
body_before (body.entry key_end key white comma gap list closes) = tt

body_from : {start u v : Place} {kind : Part} {k : BlockKind} {says : FileReading} (at : ℕ) → at ≤ u.at
    → Body longest start kind k u says v → AreFrom at says.abbreviations
body_from at past (body.comment brace chars closes) = tt
body_from at past (body.preamble quoted white closes is_brace) = tt
body_from at past (body.strings fs closes) = fields_from at fs past
body_from at past (body.entry key_end key white comma gap list closes) = tt

-- the definitions of a part of a file begin before its end
pub all_before : {u v : Place} {says : FileReading} → FileBefore u says v → AreBefore v.at says.abbreviations
all_before FileBefore.none = tt
all_before (FileBefore.skipped char passes others) = all_before others
all_before (FileBefore.line_comment m others) = all_before others
all_before {v = v} (FileBefore.block {v = w} {first = first} {rest = rest} b others) =
    all_append (λ f. f.name.start < v.at) first.abbreviations rest.abbreviations
    (before_later w.at v.at first.abbreviations (ahead_file_before others).at (body_before b.body)) (all_before others)

-- the definitions of the rest of a file begin at or after its start
pub all_from : {u : Place} {says : FileReading} → File longest u says → AreFrom u.at says.abbreviations
all_from (file.end end) = tt
all_from {u} {says} (file.skipped {v = v} char passes x) = from_earlier v.at u.at says.abbreviations (ahead_char char).at (all_from x)
all_from {u} {says} (file.line_comment {v = v} m x) =
    from_earlier v.at u.at says.abbreviations (ahead_line_comment m).at (all_from x)
all_from {u} (file.block {v = v} {first = first} {rest = rest} b x) =
    all_append (λ f. u.at ≤ f.name.start) first.abbreviations rest.abbreviations
    (body_from u.at (ahead_head b.head).at b.body) (from_earlier v.at u.at rest.abbreviations (ahead_block b).at (all_from x))

-- ---- the definitions before an offset, and the others

kept_before : (at : ℕ) (fs : List FieldReading) → AreBefore at fs → filter (is_before at) fs ≡ fs
kept_before at [] all = refl
kept_before at (f ∷ fs) all =
    ap (λ b. cond b (f ∷ filter (is_before at) fs) (filter (is_before at) fs)) (lt-ltb f.name.start at all.0)
    ∙ ap (λ gs. f ∷ gs) (kept_before at fs all.1)

none_before : (at : ℕ) (fs : List FieldReading) → AreFrom at fs → filter (is_before at) fs ≡ []
none_before at [] all = refl
none_before at (f ∷ fs) all =
    ap (λ b. cond b (f ∷ filter (is_before at) fs) (filter (is_before at) fs)) (le-ltb f.name.start at all.0) ∙ none_before at fs all.1

kept_from : (at : ℕ) (fs : List FieldReading) → AreFrom at fs → filter (λ f. not (is_before at f)) fs ≡ fs
kept_from at [] all = refl
kept_from at (f ∷ fs) all =
    ap (λ b. cond (not b) (f ∷ filter (λ f. not (is_before at f)) fs) (filter (λ f. not (is_before at f)) fs))
    (le-ltb f.name.start at all.0)
    ∙ ap (λ gs. f ∷ gs) (kept_from at fs all.1)

none_from : (at : ℕ) (fs : List FieldReading) → AreBefore at fs → filter (λ f. not (is_before at f)) fs ≡ []
none_from at [] all = refl
none_from at (f ∷ fs) all =
    ap (λ b. cond (not b) (f ∷ filter (λ f. not (is_before at f)) fs) (filter (λ f. not (is_before at f)) fs))
    (lt-ltb f.name.start at all.0) ∙ none_from at fs all.1

-- the definitions before a byte offset are the first ones, if the others begin at or after it
pub split_before : (at : ℕ) (fs gs : List FieldReading) → AreBefore at fs → AreFrom at gs → filter (is_before at) (fs ++ gs) ≡ fs
split_before at [] gs before from = none_before at gs from
split_before at (f ∷ fs) gs before from =
    ap (λ b. cond b (f ∷ filter (is_before at) (fs ++ gs)) (filter (is_before at) (fs ++ gs))) (lt-ltb f.name.start at before.0)
    ∙ ap (λ hs. f ∷ hs) (split_before at fs gs before.1 from)

pub split_from : (at : ℕ) (fs gs : List FieldReading) → AreBefore at fs → AreFrom at gs → filter (λ f. not (is_before at f)) (fs ++ gs) ≡ gs
split_from at [] gs before from = kept_from at gs from
split_from at (f ∷ fs) gs before from =
    ap (λ b. cond (not b) (f ∷ filter (λ f. not (is_before at f)) (fs ++ gs)) (filter (λ f. not (is_before at f)) (fs ++ gs)))
    (lt-ltb f.name.start at before.0) ∙ split_from at fs gs before.1 from

pub all_kept : (fs : List FieldReading) → (filter (is_before 0) fs ≡ []) × (filter (λ f. not (is_before 0 f)) fs ≡ fs)
all_kept fs = (none_before 0 fs (any fs), kept_from 0 fs (any fs))
  where
    any : (gs : List FieldReading) → AreFrom 0 gs
    any [] = tt
    any (g ∷ gs) = (omega arith, any gs)
