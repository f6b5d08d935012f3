-- A text whose entries are read one by one: where it may be cut, and what is read so far.
use Rattle.std.proofs.Common.{◌≡◌, ◌∙◌, ℕ, ◌+◌, ◌-◌, ◌<◌, arith, List, [], ◌∷◌, ◌++◌, None, Option, ap, append-nil, append_assoc, length, refl, subst, sym}
use Rattle.std.specs.Str.{IsCharBoundary}
use Rattle.bib_text.specs.Places.{Place, between, place}
use Rattle.bib_syntax.specs.EntryReader.{FileRead, IsNextEntry}
use Rattle.bib_syntax.specs.Grammar.{File, longest}
use Rattle.bib_syntax.specs.Kept.{entry_alone}
use Rattle.bib_syntax.specs.Reading.{EntryReading, FileReading, then}
use Rattle.bib_syntax.proofs.FileFacts.{block_read, block_smaller, then-then}
use Rattle.edit_entries.specs.Cuts.{CanBeCut, IsEntryCut}
use Rattle.edit_entries.proofs.CutFacts.{entry_cut}
use Rattle.edit_entries.proofs.SplitFacts.{entry_block}
use Rattle.edit_format.specs.Formatted.{entry_in_style, gap_in_style, rest_in_style}
use Rattle.edit_format.specs.declared.style.Style.{Style}

-- the next entry and the gap before it may be cut out of the text. Parsing continues after the closing brace at the end of the entry
pub next_cut : (text : List ℕ) {u v : Place} {e : EntryReading} → u.text ≡ text → IsNextEntry u e v → IsCharBoundary text u.at
    → IsCharBoundary text v.at → CanBeCut text u.at e.start × IsEntryCut text e × (v.at ≡ e.end + 1)
next_cut text {u} {v} {e} same next cut after =
    let b = entry_block e next.block refl in
    let whole = entry_cut text (next.same ∙ same) b after in (
      record { ordered = omega (arith, next.forward, b.starts); start_cut = cut; end_cut = whole.whole.start_cut },
      whole,
      omega (arith, b.closes.next, b.ends),
    )

-- the content up to the next entry, with the entry
abbrev pub with_entry : FileReading → FileReading → EntryReading → FileReading
with_entry says before e = then (then says before) (entry_alone e)

-- the text up to the end of the next entry parses to the content before this entry, with the entry
pub next_read : {start u v : Place} {says : FileReading} {e : EntryReading} → FileRead start says u → (next : IsNextEntry u e v)
    → FileRead start (with_entry says next.before e) v
next_read {start} {u} {v} {says} {e} read next =
    let to_entry : FileRead start (then says next.before) next.start =
    record {
      there = λ r x. subst (λ s. File longest start s) (sym (then-then says next.before r))
          (read.there (then next.before r) (next.read.there r x));
      fails = λ kind w f. read.fails kind w (next.read.fails kind w f);
    } in
    block_read to_entry next.block

-- with the next entry, the entries are those so far and this one
pub next_entries : (says : FileReading) {u v : Place} {e : EntryReading} (next : IsNextEntry u e v)
    → (with_entry says next.before e).entries ≡ says.entries ++ e ∷ []
next_entries says {e = e} next =
    ap (λ es. (says.entries ++ es) ++ e ∷ []) next.none ∙ ap (λ es. es ++ e ∷ []) (append-nil says.entries)

-- parsing an entry moves forward
pub next_smaller : {u v : Place} {e : EntryReading} → v.text ≡ u.text → IsNextEntry u e v
    → length v.text - v.at < length u.text - u.at
next_smaller {u} {v} same next =
    let block = block_smaller next.block in
    omega (arith, block, next.forward, ap length next.same)

-- the output so far and that for the rest make the output for the whole text, also after a gap and an entry are written
pub next_written : (line_end text : List ℕ) (style : Style) (blank_lines : Option ℕ) (old before new : List ℕ) (at next : ℕ)
    (e : EntryReading) (all : List EntryReading)
    → before ≡ old ++ gap_in_style line_end blank_lines (between (place text at) (place text e.start))
    → new ≡ before ++ entry_in_style line_end style text e → next ≡ e.end + 1
    → ((es : List EntryReading) → old ++ rest_in_style line_end style blank_lines text at es
    ≡ rest_in_style line_end style None text 0 (all ++ es))
    → (es : List EntryReading) → new ++ rest_in_style line_end style style.blank_lines text next es
    ≡ rest_in_style line_end style None text 0 ((all ++ e ∷ []) ++ es)
next_written line_end text style blank_lines old before new at next e all gap entry past written es =
    let gap_is = gap_in_style line_end blank_lines (between (place text at) (place text e.start)) in
    let entry_is = entry_in_style line_end style text e in
    let rest = rest_in_style line_end style style.blank_lines text (e.end + 1) es in
    ap (λ n. new ++ rest_in_style line_end style style.blank_lines text n es) past
    ∙ ap (λ t. t ++ rest) (entry ∙ ap (λ t. t ++ entry_is) gap)
    ∙ append_assoc (old ++ gap_is) entry_is rest ∙ append_assoc old gap_is (entry_is ++ rest)
    ∙ written (e ∷ es) ∙ ap (rest_in_style line_end style None text 0) (sym (append_assoc all (e ∷ []) es))
