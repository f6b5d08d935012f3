-- Plain text: it has no at sign except in line comments, and ends each of these. So it parses to the empty reading wherever it occurs.
use Rattle.std.proofs.Common.{◌≡◌, inl, inr, ℕ, ◌<◌, ◌≤◌, Bool, true, false, List, [], ◌∷◌, ◌++◌, length, refl, sym, ap, ◌∙◌, subst, arith}
use Rattle.std.specs.Prelude.{◌==◌, ◌&&◌, not}
use Rattle.std.specs.Char.{is_ascii_whitespace}
use Rattle.std.specs.List.{list_all}
use Rattle.std.proofs.lemmas.Bool.{cases_lt, eqb-true, not-false, and_parts}
use Rattle.std.proofs.lemmas.List.Folds.{list_any-append}
use Rattle.edit_format.proofs.GapFacts.{blank_small, blank_skipped}
use Rattle.bib_text.specs.Places.{Place, CharAt, Run, between}
use Rattle.bib_text.specs.Places.Run.{stop, step}
use Rattle.bib_text.proofs.PlaceFacts.{Ahead, ahead_here, ahead_then, ahead_char, ahead_run, pass_clash, same_char, same_place, stops_at, test_clash}
use Rattle.bib_syntax.specs.Reading.{FileReading, empty_reading}
use Rattle.bib_syntax.specs.Grammar.{Block, longest}
use Rattle.bib_syntax.specs.Recovery.{has_byte}
use Rattle.bib_syntax.proofs.FieldFacts.{ahead_identifier}
use Rattle.bib_syntax.proofs.FileFacts.{ahead_body}
use Rattle.bib_text.proofs.BoundaryFacts.{not_over}
use Rattle.bib_text.proofs.BoolFacts.{or_false_right}
use Rattle.edit_entries.proofs.SplitFacts.{FileBefore, ahead_file_before}
use Rattle.edit_entries.proofs.ZoneFacts.{Frame, Zone, Inside, there, inside_between, char_there, run_there}
use Rattle.edit_entries.proofs.CutFacts.{Stood, stood}
use Rattle.edit_entries.proofs.ElementFacts.{one_byte, parted}
use Rattle.edit_entries.proofs.StandsFacts.{Stands, ascii, first_part, last_part, nothing, past}

-- whether a character is no line feed
abbrev pub in_line : ℕ → Bool
in_line c = not (c == 10)

pub data Plain : Place → Place → Type 0 where
  none : {u : Place} → Plain u u
  skipped : {u v w : Place} {c : ℕ} → CharAt u c v → not (c == 64) && not (c == 37) ≡ true → Plain v w → Plain u w
  line_comment : {u i v w x : Place} → CharAt u 37 i → Run in_line i v → CharAt v 10 w → Plain w x → Plain u x

pub ahead_plain : {u v : Place} → Plain u v → Ahead u v
ahead_plain {u} Plain.none = ahead_here u
ahead_plain (Plain.skipped char passes rest) = ahead_then (ahead_char char) (ahead_plain rest)
ahead_plain (Plain.line_comment sign line feed rest) =
    ahead_then (ahead_char sign) (ahead_then (ahead_run line) (ahead_then (ahead_char feed) (ahead_plain rest)))

-- if a character follows plain text, there is one at its start too
pub stood_plain : {u v : Place} → Plain u v → Stood v → Stood u
stood_plain Plain.none s = s
stood_plain (Plain.skipped char passes rest) s = stood char
stood_plain (Plain.line_comment sign line feed rest) s = stood sign

-- plain text parses to the empty reading
pub plain_read : {u v : Place} → Plain u v → FileBefore u empty_reading v
plain_read Plain.none = FileBefore.none
plain_read (Plain.skipped char passes rest) = FileBefore.skipped char passes (plain_read rest)
plain_read (Plain.line_comment sign line feed rest) =
    FileBefore.line_comment
    (record { inside = _; sign = sign; line = record { run = line; stops = stops_at in_line feed refl } })
    (FileBefore.skipped feed refl (plain_read rest))

-- plain text of a zone is plain in the other text
pub plain_there : {f : Frame} {u v : Place} → Zone f → Inside f u → Inside f v → Plain u v → Plain (there f u) (there f v)
plain_there z iu iv Plain.none = Plain.none
plain_there z iu iv (Plain.skipped char passes rest) =
    let a = inside_between z iu iv (ahead_char char) (ahead_plain rest) in
    Plain.skipped (char_there z iu a char) passes (plain_there z a iv rest)
plain_there z iu iv (Plain.line_comment sign line feed rest) =
    let after_line = ahead_then (ahead_char feed) (ahead_plain rest) in
    let a = inside_between z iu iv (ahead_char sign) (ahead_then (ahead_run line) after_line) in
    let b = inside_between z a iv (ahead_run line) after_line in
    let d = inside_between z b iv (ahead_char feed) (ahead_plain rest) in
    Plain.line_comment (char_there z iu a sign) (run_there z a b line) (char_there z b d feed) (plain_there z d iv rest)

-- ---- text before an at sign that contains none

none_later : {u w s : Place} → Ahead u w → Ahead w s → s.at ≤ length u.text → has_byte 64 (between u s) ≡ false
    → has_byte 64 (between w s) ≡ false
none_later {u} {w} {s} first rest within clear =
    or_false_right (has_byte 64 (between u w)) (has_byte 64 (between w s))
    (sym (list_any-append (λ b. b == 64) (between u w) (between w s))
    ∙ sym (ap (has_byte 64) (parted first rest within)) ∙ clear)

sign_there : {u w s : Place} → CharAt u 64 w → Ahead w s → s.at ≤ length u.text → has_byte 64 (between u s) ≡ true
sign_there {u} {w} {s} sign rest within =
    ap (has_byte 64) (parted (ahead_char sign) rest within)
    ∙ ap (λ t. has_byte 64 (t ++ between w s)) (one_byte 64 (omega arith) sign)

block_there : {u w s : Place} {first : FileReading} → Block longest u first w → Ahead w s → s.at ≤ length u.text
    → has_byte 64 (between u s) ≡ true
block_there b rest within =
    let head = b.head in
    let from_name =
    ahead_then (ahead_identifier head.name)
    (ahead_then (ahead_run head.white.run) (ahead_then (ahead_char head.opens) (ahead_run head.white'.run))) in
    sign_there head.sign (ahead_then from_name (ahead_then (ahead_body b.body) rest)) within

pub before_plain : {u s x : Place} {says : FileReading} → FileBefore u says s → CharAt s 64 x → s.at ≤ length u.text
    → has_byte 64 (between u s) ≡ false → Plain u s × (says ≡ empty_reading)
before_plain FileBefore.none sign within clear = (Plain.none, refl)
before_plain (FileBefore.skipped char passes others) sign within clear =
    let rest =
    before_plain others sign (omega (arith, within, ap length char.same))
    (none_later (ahead_char char) (ahead_file_before others) within clear) in
    (Plain.skipped char passes rest.0, rest.1)
before_plain (FileBefore.line_comment m FileBefore.none) sign within clear = absurd (test_clash (in_line 64) refl (m.line.stops 64 _ sign))
before_plain {u} {s} (FileBefore.line_comment {v = v} m (FileBefore.skipped {v = w} {c = c} char passes others)) sign within clear =
    let over = ahead_then (ahead_char m.sign) (ahead_then (ahead_run m.line.run) (ahead_char char)) in
    let rest =
    before_plain others sign (omega (arith, within, ap length over.text))
    (none_later over (ahead_file_before others) within clear) in
    let feed : c ≡ 10 = eqb-true c 10 (not-false (c == 10) (m.line.stops c w char)) in
    (Plain.line_comment m.sign m.line.run (subst (λ d. CharAt v d w) feed char) rest.0, rest.1)
before_plain (FileBefore.line_comment m (FileBefore.line_comment m' others)) sign within clear =
    absurd (test_clash (in_line 37) refl (m.line.stops 37 _ m'.sign))
before_plain (FileBefore.line_comment m (FileBefore.block b others)) sign within clear =
    absurd (test_clash (in_line 64) refl (m.line.stops 64 _ b.head.sign))
before_plain {u} {s} (FileBefore.block b others) sign within clear =
    absurd (test_clash (has_byte 64 (between u s)) (block_there b (ahead_file_before others) within) clear)

-- ---- plain text that is cut after white space at its start

pub white_split : {u m s : Place} (white : List ℕ) → list_all is_ascii_whitespace white ≡ true → Stands u white m
    → Plain u s → m.at ≤ s.at → Plain u m × Plain m s
white_split {u} {m} {s} [] all stands plain below =
    (subst (λ p. Plain u p) (nothing stands) Plain.none, subst (λ p. Plain p s) (nothing stands) plain)
white_split (b ∷ bs) all stands Plain.none below = absurd (omega (arith, stands.next))
white_split {u} {m} {s} (b ∷ bs) all stands (Plain.skipped char passes rest) below =
    let is = and_parts (is_ascii_whitespace b) (list_all is_ascii_whitespace bs) all in
    let here = ascii b (blank_small b is.0) (first_part (b ∷ []) bs stands) in
    let same = same_char char here in
    let others =
    white_split {u = past u (b ∷ [])} {m = m} {s = s} bs is.1 (last_part (b ∷ []) bs stands)
    (subst (λ p. Plain p s) same.1 rest) below in
    (Plain.skipped here (blank_skipped b is.0) others.0, others.1)
white_split {u} {m} {s} (b ∷ bs) all stands (Plain.line_comment sign line feed rest) below =
    let is = and_parts (is_ascii_whitespace b) (list_all is_ascii_whitespace bs) all in
    let here = ascii b (blank_small b is.0) (first_part (b ∷ []) bs stands) in
    let same : 37 ≡ b = (same_char sign here).0 in
    absurd (test_clash (is_ascii_whitespace b) is.0 (ap is_ascii_whitespace (sym same)))

-- a line contains no line feed
pub none_in_line : {i v l m : Place} → l.text ≡ i.text → CharAt l 10 m → Run in_line i v → i.at ≤ l.at → l.at < v.at → ⊥
none_in_line same feed stop from below = omega arith
none_in_line {i} {v} {l} {m} same feed (step {v = w} {c = c} char passes rest) from below =
    elim (cases_lt l.at w.at) [
      | inr past_it ↦ none_in_line (same ∙ sym char.same) feed rest past_it below
      | inl before ↦ elim (cases_lt i.at l.at) [
        | inl inside ↦ omega (arith, not_over l.text l.at (inr (10, m, feed)) (sym same) char inside)
        | inr here ↦ pass_clash in_line char passes (subst (λ p. CharAt p 10 m) (same_place same (omega arith)) feed) refl
      ]
    ]
