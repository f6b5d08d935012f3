-- A text in one style parses to the old reading, except for spans, the case of names and the order of fields.
use Rattle.std.proofs.Common.{◌≡◌, ℕ, ◌+◌, ◌-◌, ◌≤◌, Bool, true, false, cond, List, [], ◌∷◌, ◌++◌, Option, None, length, drop, take, map, refl, sym, ap, ◌∙◌, subst, arith}
use Rattle.bib_text.specs.Places.{Place, place, between}
use Rattle.bib_text.proofs.PlaceFacts.{char_within}
use Rattle.bib_syntax.specs.Reading.{EntryReading, FileReading, then}
use Rattle.bib_syntax.specs.Kept.{entry_alone}
use Rattle.bib_syntax.specs.Grammar.{File, IsRawReading, longest}
use Rattle.bib_syntax.specs.Grammar.{File as file}
use Rattle.edit_entries.specs.Edits.{moved_entry, moved_file}
use Rattle.edit_entries.proofs.EditFacts.{text_stands}
use Rattle.edit_entries.proofs.EntryCopyFacts.{rest_copied}
use Rattle.edit_entries.proofs.EntryFacts.{ahead_entry}
use Rattle.edit_entries.proofs.MovedFacts.{body_within}
use Rattle.edit_entries.proofs.SplitFacts.{ahead_file_before, joined_file}
use Rattle.edit_format.specs.Formatted.{IsReadAlike, content, entry_content, entry_in_order, entry_in_style, gap_in_style, line_end_of, rest_in_style, says_in_order, text_in_style}
use Rattle.edit_format.specs.declared.style.Style.{Style}
use Rattle.edit_format.proofs.ContentFacts.{content_then, file_placeless}
use Rattle.edit_format.proofs.EntryFacts.{entry_read}
use Rattle.edit_format.proofs.FieldFacts.{IsLineEnd}
use Rattle.edit_format.proofs.GapFacts.{gap_read}
use Rattle.edit_entries.proofs.ByEntriesFacts.{ByEntries, by_entries}
use Rattle.edit_entries.proofs.StandsFacts.{Stands, ascii, between_stands, first_part, past}

-- the line end of a text is one
pub line_end_is : (text : List ℕ) → IsLineEnd (line_end_of text)
line_end_is text = by_choice _
  where
    by_choice : (b : Bool) → IsLineEnd (cond b (13 ∷ 10 ∷ []) (10 ∷ []))
    by_choice true = record {
      white = ((omega arith, refl), ((omega arith, refl), _));
      blank = refl;
      ending = λ u v rest s.
          record {
            char = 13;
            next = _;
            here = ascii 13 (omega arith) (first_part (13 ∷ []) (10 ∷ rest) s);
            no_name = refl;
            no_digit = refl;
            no_point = refl;
          };
    }
    by_choice false = record {
      white = ((omega arith, refl), _);
      blank = refl;
      ending = λ u v rest s.
          record {
            char = 10;
            next = _;
            here = ascii 10 (omega arith) (first_part (10 ∷ []) rest s);
            no_name = refl;
            no_digit = refl;
            no_point = refl;
          };
    }

-- the gap before each entry of the text `new` is the output for the gap before the entry at the same index of the text `old`
abbrev pub AreGapsInStyle : List ℕ → Style → Option ℕ → List ℕ → List ℕ → ℕ → ℕ → List EntryReading → List EntryReading → Type 0
AreGapsInStyle line_end style blank_lines new old m n [] [] = Unit {0}
AreGapsInStyle line_end style blank_lines new old m n [] (e ∷ es) = ⊥
AreGapsInStyle line_end style blank_lines new old m n (e' ∷ es') [] = ⊥
AreGapsInStyle line_end style blank_lines new old m n (e' ∷ es') (e ∷ es) =
    (between (place new m) (place new e'.start) ≡ gap_in_style line_end blank_lines (between (place old n) (place old e.start)))
    × AreGapsInStyle line_end style style.blank_lines new old (e'.end + 1) (e.end + 1) es' es

-- the output for the rest of a file from `a` on parses from a place of another text on. Formatting it again doesn't change it.
pub record FileRead (line_end : List ℕ) (style : Style) (blank_lines : Option ℕ) (a : Place) (says : FileReading) (u : Place) : Type 0 where
  pub reading : FileReading
  pub file : File longest u reading
  pub alike : content reading ≡ content (says_in_order style a.text says)
  pub gaps : AreGapsInStyle line_end style blank_lines u.text a.text u.at a.at reading.entries says.entries
  pub again : rest_in_style line_end style blank_lines u.text u.at reading.entries ≡ drop u.at u.text

-- if the text from a place on begins with some bytes, these are in the text from this place on
pub stands_here : (u : Place) (xs ys : List ℕ) → drop u.at u.text ≡ xs ++ ys → Stands u xs (past u xs)
stands_here u xs ys here = record { same = refl; here = here ∙ ap (λ t. xs ++ t) (sym (text_stands u.text xs ys u.at here)); next = refl }

rest_read : (line_end : List ℕ) (style : Style) (blank_lines : Option ℕ) {a u : Place} {says : FileReading}
    → File longest a says → says.entries ≡ [] → a.at ≤ length a.text → u.at ≤ length u.text
    → drop u.at u.text ≡ drop a.at a.text → FileRead line_end style blank_lines a says u
rest_read line_end style blank_lines {a} {u} {says} x none within within' same =
    record {
      reading = moved_file (λ n. n - a.at + u.at) says;
      file = rest_copied x within within' same;
      alike =
          file_placeless (λ n. n - a.at + u.at) says
          ∙ ap (λ es. content (record says { entries = es }))
          (none ∙ sym (ap (map (entry_in_order style a.text)) none));
      gaps =
          subst
          (λ es.
          AreGapsInStyle line_end style blank_lines u.text a.text u.at a.at (map (moved_entry (λ n. n - a.at + u.at)) es) es)
          (sym none) tt;
      again = ap (λ es. rest_in_style line_end style blank_lines u.text u.at (map (moved_entry (λ n. n - a.at + u.at)) es)) none;
    }

alike_then : (gap before rest reading : FileReading) (e e' : EntryReading) → content gap ≡ content before
    → entry_content e' ≡ entry_content e → content reading ≡ content rest
    → content (then gap (then (entry_alone e') reading)) ≡ content (then before (then (entry_alone e) rest))
alike_then gap before rest reading e e' between_entries entry others =
    content_then gap (then (entry_alone e') reading)
    ∙ ap (λ r. then r (content (then (entry_alone e') reading))) between_entries
    ∙ ap (then (content before))
    (content_then (entry_alone e') reading ∙ ap (λ y. then (entry_alone y) (content reading)) entry
    ∙ ap (then (entry_alone (entry_content e))) others ∙ sym (content_then (entry_alone e) rest))
    ∙ sym (content_then before (then (entry_alone e) rest))

-- the content of a reading with ordered fields is that of its parts with ordered fields
then_in_order : (style : Style) (text : List ℕ) (before rest : FileReading) (e : EntryReading) → before.entries ≡ []
    → content (then before (then (entry_alone (entry_in_order style text e)) (says_in_order style text rest)))
    ≡ content (says_in_order style text (then before (then (entry_alone e) rest)))
then_in_order style text before rest e none =
    let ordered = entry_in_order style text in
    ap (λ es. content (record (then before (then (entry_alone e) rest)) { entries = es }))
    (ap (λ es. es ++ ordered e ∷ map ordered rest.entries) none ∙ sym (ap (λ es. map ordered (es ++ e ∷ rest.entries)) none))

pub file_read : (line_end : List ℕ) (style : Style) (blank_lines : Option ℕ) {a u : Place} {says : FileReading}
    → IsLineEnd line_end → ByEntries a says → a.at ≤ length a.text → u.at ≤ length u.text
    → drop u.at u.text ≡ rest_in_style line_end style blank_lines a.text a.at says.entries
    → FileRead line_end style blank_lines a says u
file_read line_end style blank_lines {a} {u} {says} ends (ByEntries.last x none) within within' here =
    rest_read line_end style blank_lines x none within within'
    (here ∙ ap (λ es. rest_in_style line_end style blank_lines a.text a.at es) none)
file_read line_end style blank_lines {a} {u} ends
    (ByEntries.more {s = s} {v = v} {before = before} {rest = rest} {e = e} first none x file' others) within
    within' here =
    let to_start = ahead_file_before first in
    let to_end = ahead_entry x in
    let end_text : v.text ≡ a.text = to_end.text ∙ to_start.text in
    let end_within : v.at ≤ length v.text = char_within x.closes in
    let next : v.at ≡ x.brace.at + 1 = x.closes.next in
    let end_is : e.end + 1 ≡ v.at = omega (arith, x.ends) in
    let entry_bytes = entry_in_style line_end style a.text e in
    let rest_bytes = rest_in_style line_end style style.blank_lines a.text (e.end + 1) rest.entries in
    let gap = gap_in_style line_end blank_lines (between a s) in
    let whole : drop u.at u.text ≡ gap ++ (entry_bytes ++ rest_bytes) =
    here ∙ ap (λ es. rest_in_style line_end style blank_lines a.text a.at (es ++ e ∷ rest.entries)) none
    ∙ ap (λ n. gap_in_style line_end blank_lines (take (n - a.at) (drop a.at a.text)) ++ (entry_bytes ++ rest_bytes)) x.starts in
    let p = past u gap in
    let s0 = stands_here u gap (entry_bytes ++ rest_bytes) whole in
    let here' : drop p.at p.text ≡ entry_bytes ++ rest_bytes = text_stands u.text gap (entry_bytes ++ rest_bytes) u.at whole in
    let q = past p entry_bytes in
    let s1 = stands_here p entry_bytes rest_bytes here' in
    let entry = entry_read line_end style a.text ends to_start.text x s1 in
    let here'' : drop q.at q.text ≡ rest_in_style line_end style style.blank_lines v.text v.at rest.entries =
    text_stands p.text entry_bytes rest_bytes p.at here'
    ∙ ap (λ n. rest_in_style line_end style style.blank_lines a.text n rest.entries) end_is
    ∙ ap (λ t. rest_in_style line_end style style.blank_lines t v.at rest.entries) (sym end_text) in
    let rest_said =
    file_read line_end style style.blank_lines {a = v} {u = q} {says = rest} ends others end_within
    (body_within entry.block.body) here'' in
    let start_within : s.at ≤ length a.text = omega (arith, to_end.at, end_within, ap length end_text) in
    let before' = gap_read line_end blank_lines ends.blank first none start_within x.head.sign s0 entry.block.head.sign in
    let e' = entry.reading in
    let new_gap : between (place u.text u.at) (place u.text e'.start) ≡ gap =
    ap (λ n. take (n - u.at) (drop u.at u.text)) entry.starts ∙ between_stands gap s0 in
    let old_gap : between (place a.text a.at) (place a.text e.start) ≡ between a s =
    ap (λ n. take (n - a.at) (drop a.at a.text)) x.starts in
    let after_gaps : AreGapsInStyle line_end style style.blank_lines u.text a.text (e'.end + 1) (e.end + 1) rest_said.reading.entries
    rest.entries =
    subst
    (λ n. AreGapsInStyle line_end style style.blank_lines u.text a.text n (e.end + 1) rest_said.reading.entries rest.entries)
    (sym entry.ends)
    (subst (λ n. AreGapsInStyle line_end style style.blank_lines u.text a.text q.at n rest_said.reading.entries rest.entries)
    (sym end_is)
    (subst (λ t. AreGapsInStyle line_end style style.blank_lines u.text t q.at v.at rest_said.reading.entries rest.entries)
    end_text rest_said.gaps)) in
    let rest_again = λ (n : ℕ). rest_in_style line_end style style.blank_lines u.text n rest_said.reading.entries in
    let entry_again = entry_in_style line_end style u.text entry.reading in
    record {
      reading = then before'.reading (then (entry_alone entry.reading) rest_said.reading);
      file = joined_file before'.file (file.block entry.block rest_said.file);
      alike =
          alike_then before'.reading before (says_in_order style a.text rest) rest_said.reading
          (entry_in_order style a.text e) entry.reading before'.alike entry.alike
          (rest_said.alike ∙ ap (λ t. content (says_in_order style t rest)) end_text)
          ∙ then_in_order style a.text before rest e none;
      gaps =
          subst
          (λ es.
          AreGapsInStyle line_end style blank_lines u.text a.text u.at a.at (es ++ e' ∷ rest_said.reading.entries)
          (before.entries ++ e ∷ rest.entries)) (sym before'.none)
          (subst
          (λ es.
          AreGapsInStyle line_end style blank_lines u.text a.text u.at a.at (e' ∷ rest_said.reading.entries)
          (es ++ e ∷ rest.entries)) (sym none) (new_gap ∙ ap (gap_in_style line_end blank_lines) (sym old_gap), after_gaps));
      again = ap (λ es. rest_in_style line_end style blank_lines u.text u.at (es ++ entry.reading ∷ rest_said.reading.entries)) before'.none
          ∙ ap
          (λ n.
          gap_in_style line_end blank_lines (between u (place u.text n))
          ++ (entry_again ++ rest_again (entry.reading.end + 1))) entry.starts
          ∙ ap (λ t. gap_in_style line_end blank_lines t ++ (entry_again ++ rest_again (entry.reading.end + 1))) (between_stands gap s0)
          ∙ ap (λ t. t ++ (entry_again ++ rest_again (entry.reading.end + 1))) before'.again
          ∙ ap (λ t. gap ++ (t ++ rest_again (entry.reading.end + 1))) entry.again
          ∙ ap (λ n. gap ++ (entry_bytes ++ rest_again n)) entry.ends
          ∙ ap (λ t. gap ++ (entry_bytes ++ t)) rest_said.again ∙ ap (λ t. gap ++ t) (sym s1.here) ∙ sym s0.here;
    }

pub text_read : (style : Style) (text : List ℕ) (says : FileReading) → IsRawReading text says
    → IsReadAlike (says_in_order style text says) (text_in_style style text says)
text_read style text says read =
    let new = text_in_style style text says in
    let r =
    file_read (line_end_of text) style None {a = place text 0} {u = place new 0} {says = says} (line_end_is text)
    (by_entries read) (omega arith) (omega arith) refl in
    record { tells = r.reading; read = r.file; alike = r.alike }
