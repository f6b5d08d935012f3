-- White space between entries parses as before if it is replaced by blank lines.
use Rattle.std.proofs.Common.{◌≡◌, ℕ, zero, suc, ◌+◌, ◌-◌, ◌<◌, ◌≤◌, Bool, true, false, cond, List, [], ◌∷◌, ◌++◌, Option, None, Some, length, drop, map, refl, sym, ap, ◌∙◌, subst, arith, append_assoc}
use Rattle.std.specs.Prelude.{◌==◌, ◌&&◌, encode_utf8, not}
use Rattle.std.specs.Char.{is_ascii_whitespace}
use Rattle.std.specs.List.{list_all, prefix_len}
use Rattle.std.proofs.lemmas.Bool.Decides.{nat_tests}
use Rattle.std.proofs.lemmas.Bool.{ne_eqb, and_parts}
use Rattle.std.proofs.lemmas.List.{append-nil}
use Rattle.std.proofs.lemmas.List.Folds.{list_all-append}
use Rattle.std.proofs.lemmas.Str.{encode_ascii}
use Rattle.bib_text.specs.Places.{Place, CharAt, between}
use Rattle.bib_text.proofs.PlaceFacts.{Ahead, ahead_then, ahead_char, ahead_run}
use Rattle.bib_syntax.specs.Reading.{FileReading, empty_reading}
use Rattle.bib_syntax.specs.Grammar.{Block, longest}
use Rattle.bib_syntax.proofs.FieldFacts.{ahead_identifier}
use Rattle.bib_syntax.proofs.FileFacts.{ahead_body}
use Rattle.edit_entries.specs.Edits.{moved_entry, moved_file}
use Rattle.edit_entries.proofs.MovedFacts.{file_before_there}
use Rattle.edit_entries.proofs.SplitFacts.{FileBefore, ahead_file_before}
use Rattle.edit_entries.proofs.ZoneFacts.{there}
use Rattle.edit_format.specs.Formatted.{content, gap_in_style, line_ends}
use Rattle.edit_format.proofs.ContentFacts.{file_placeless}
use Rattle.edit_entries.proofs.ElementFacts.{char_parted}
use Rattle.edit_entries.proofs.StandsFacts.{Stands, ascii, copied_before, copy_frame, first_part, last_part, nothing, past}

-- ---- ASCII white space

abbrev pub are_blank : List ℕ → Bool
are_blank bytes = list_all is_ascii_whitespace bytes

blank_both : (xs ys : List ℕ) → are_blank (xs ++ ys) ≡ true → (are_blank xs ≡ true) × (are_blank ys ≡ true)
blank_both xs ys all = and_parts (are_blank xs) (are_blank ys) (sym (list_all-append is_ascii_whitespace xs ys) ∙ all)

-- a line end after some line ends is one more line end
pub one_more : (line_end : List ℕ) (count : ℕ) → line_ends line_end count ++ line_end ≡ line_ends line_end (suc count)
one_more line_end zero = sym (append-nil line_end)
one_more line_end (suc count) =
    append_assoc line_end (line_ends line_end count) line_end ∙ ap (λ t. line_end ++ t) (one_more line_end count)

pub blank_ends : (line_end : List ℕ) (count : ℕ) → are_blank line_end ≡ true → are_blank (line_ends line_end count) ≡ true
blank_ends line_end zero all = refl
blank_ends line_end (suc count) all =
    list_all-append is_ascii_whitespace line_end (line_ends line_end count)
    ∙ ap (λ c. c && are_blank (line_ends line_end count)) all ∙ blank_ends line_end count all

-- a text without the ASCII white space at its start is empty exactly if it is only ASCII white space
pub trimmed_blank : (bytes : List ℕ) → (length (drop (prefix_len is_ascii_whitespace bytes) bytes) == 0) ≡ are_blank bytes
trimmed_blank [] = refl
trimmed_blank (b ∷ bs) = by_test (is_ascii_whitespace b) (trimmed_blank bs)
  where
    by_test : (x : Bool) → (length (drop (prefix_len is_ascii_whitespace bs) bs) == 0) ≡ are_blank bs
        → (length (drop (cond x (1 + prefix_len is_ascii_whitespace bs) 0) (b ∷ bs)) == 0) ≡ (x && are_blank bs)
    by_test true rest =
        let next : 1 + prefix_len is_ascii_whitespace bs ≡ suc (prefix_len is_ascii_whitespace bs) = omega arith in
        ap (λ n. length (drop n (b ∷ bs)) == 0) next ∙ rest
    by_test false rest = ne_eqb (suc (length bs)) 0 (λ same. omega (arith, same))

-- ASCII white space is an ASCII byte
pub blank_small : (b : ℕ) → is_ascii_whitespace b ≡ true → b < 128
blank_small b is = grind (arith, nat_tests)

-- ASCII white space is neither an at sign nor a percent sign
pub blank_skipped : (b : ℕ) → is_ascii_whitespace b ≡ true → (not (b == 64) && not (b == 37)) ≡ true
blank_skipped b is = grind (arith, nat_tests)

-- ASCII white space parses to the empty reading
blank_read : {u v : Place} (bytes : List ℕ) → are_blank bytes ≡ true → Stands u bytes v → FileBefore u empty_reading v
blank_read {u} {v} [] all s = subst (λ p. FileBefore u empty_reading p) (nothing s) FileBefore.none
blank_read {u} {v} (b ∷ bs) all s =
    let is = and_parts (is_ascii_whitespace b) (are_blank bs) all in
    FileBefore.skipped (ascii b (blank_small b is.0) (first_part (b ∷ []) bs s)) (blank_skipped b is.0)
    (blank_read {u = past u (b ∷ [])} {v = v} bs is.1 (last_part (b ∷ []) bs s))

not_blank : (c : ℕ) (rest : List ℕ) → c < 128 → is_ascii_whitespace c ≡ false → are_blank (encode_utf8 c ++ rest) ≡ true → ⊥
not_blank c rest small dark all =
    let first : are_blank (encode_utf8 c) ≡ true = (blank_both (encode_utf8 c) rest all).0 in
    let byte : (is_ascii_whitespace c && true) ≡ true = sym (ap are_blank (encode_ascii c small)) ∙ first in
    let clash : true ≡ false = sym (and_parts (is_ascii_whitespace c) true byte).0 ∙ dark in
    absurd (cc)

blank_says : {u v : Place} {says : FileReading} → FileBefore u says v → v.at ≤ length u.text
    → are_blank (between u v) ≡ true → says ≡ empty_reading
blank_says FileBefore.none within all = refl
blank_says {u} {v} (FileBefore.skipped {v = w} {c = c} char passes others) within all =
    let split = char_parted char (ahead_file_before others) within in
    blank_says others (omega (arith, within, ap length char.same))
    (blank_both (encode_utf8 c) (between w v) (sym (ap are_blank split) ∙ all)).1
blank_says {u} {v} (FileBefore.line_comment {v = w} m others) within all =
    let over = ahead_then (ahead_run m.line.run) (ahead_file_before others) in
    absurd (not_blank 37 (between m.inside v) (omega arith) refl (sym (ap are_blank (char_parted m.sign over within)) ∙ all))
blank_says {u} {v} (FileBefore.block {v = w} b others) within all =
    absurd (block_not_blank b (ahead_file_before others) within all)
  where
    block_not_blank : {u w v : Place} {first : FileReading} → Block longest u first w → Ahead w v → v.at ≤ length u.text
        → are_blank (between u v) ≡ true → ⊥
    block_not_blank {u} {w} {v} b ahead within all =
        let head = b.head in
        let from_name =
        ahead_then (ahead_identifier head.name)
        (ahead_then (ahead_run head.white.run) (ahead_then (ahead_char head.opens) (ahead_run head.white'.run))) in
        let over = ahead_then from_name (ahead_then (ahead_body b.body) ahead) in
        not_blank 64 (between head.name_start v) (omega arith) refl (sym (ap are_blank (char_parted head.sign over within)) ∙ all)

-- ---- the text before an entry

-- the output for the text before an entry parses to the same content, which has no entries
pub record GapRead (line_end : List ℕ) (blank_lines : Option ℕ) (before : FileReading) (gap : List ℕ) (u p : Place) : Type 0 where
  pub reading : FileReading
  pub file : FileBefore u reading p
  pub none : reading.entries ≡ []
  pub alike : content reading ≡ content before
  pub again : gap_in_style line_end blank_lines gap ≡ gap

-- a copied gap parses
kept_gap : (line_end : List ℕ) (blank_lines : Option ℕ) {a s u p w x : Place} {before : FileReading}
    → FileBefore a before s → before.entries ≡ [] → s.at ≤ length a.text → CharAt s 64 x → Stands u (between a s) p
    → CharAt p 64 w
    → gap_in_style line_end blank_lines (between a s) ≡ between a s → GapRead line_end blank_lines before (between a s) u p
kept_gap line_end blank_lines {a} {s} {u} {p} {before = before} first none within sign stands sign' again =
    let c = copied_before (ahead_file_before first) within stands sign' in
    let move = λ (n : ℕ). n - a.at + u.at in
    record {
      reading = moved_file move before;
      file = subst (λ r. FileBefore r (moved_file move before) p) c.goes_start
          (subst (λ r. FileBefore (there (copy_frame a s u) a) (moved_file move before) r) c.goes_end
          (file_before_there c.zone c.start c.end sign first));
      none = ap (map (moved_entry move)) none;
      alike = file_placeless move before;
      again = again;
    }

-- blank lines parse
blank_gap : (line_end : List ℕ) (count : ℕ) {a s u p : Place} {before : FileReading} → are_blank line_end ≡ true
    → FileBefore a before s → s.at ≤ length a.text → are_blank (between a s) ≡ true
    → Stands u (line_ends line_end (suc count)) p → GapRead line_end (Some count) before (line_ends line_end (suc count)) u p
blank_gap line_end count {a} {s} {u} {p} {before} ends first within all stands =
    let blank : are_blank (line_ends line_end (suc count)) ≡ true = blank_ends line_end (suc count) ends in
    record {
      reading = empty_reading;
      file = blank_read (line_ends line_end (suc count)) blank stands;
      none = refl;
      alike = ap content (sym (blank_says first within all));
      again = ap (λ c. cond c (line_ends line_end (suc count)) (line_ends line_end (suc count))) blank;
    }

pub gap_read : (line_end : List ℕ) (blank_lines : Option ℕ) {a s u p w x : Place} {before : FileReading}
    → are_blank line_end ≡ true → FileBefore a before s → before.entries ≡ [] → s.at ≤ length a.text → CharAt s 64 x
    → Stands u (gap_in_style line_end blank_lines (between a s)) p → CharAt p 64 w
    → GapRead line_end blank_lines before (gap_in_style line_end blank_lines (between a s)) u p
gap_read line_end None ends first none within sign stands sign' = kept_gap line_end None first none within sign stands sign' refl
gap_read line_end (Some count) {a} {s} {u} {p} {w} {x} {before} ends first none within sign stands sign' =
    by_white (are_blank (between a s)) refl
  where
    new : Bool → List ℕ
    new c = cond c (line_ends line_end (suc count)) (between a s)

    by_white : (c : Bool) → are_blank (between a s) ≡ c
        → GapRead line_end (Some count) before (gap_in_style line_end (Some count) (between a s)) u p
    by_white true is =
        subst (λ t. GapRead line_end (Some count) before t u p) (sym (ap new is))
        (blank_gap line_end count ends first within is (subst (λ t. Stands u t p) (ap new is) stands))
    by_white false is =
        subst (λ t. GapRead line_end (Some count) before t u p) (sym (ap new is))
        (kept_gap line_end (Some count) first none within sign (subst (λ t. Stands u t p) (ap new is) stands) sign'
        (ap new is))
