-- Formatting a text twice in the same style is the same as formatting it once.
use Rattle.std.proofs.Common.{◌≡◌, ℕ, List, [], None, refl, ap, ◌∙◌, arith}
use Rattle.bib_text.specs.Places.{place}
use Rattle.bib_syntax.specs.Reading.{FileReading}
use Rattle.bib_syntax.specs.Grammar.{IsRawReading}
use Rattle.bib_syntax.proofs.FileFacts.{file_same}
use Rattle.edit_format.specs.Formatted.{line_end_of, rest_in_style, text_in_style}
use Rattle.edit_format.specs.declared.style.Style.{Style}
use Rattle.edit_format.proofs.FileFacts.{file_read, line_end_is}
use Rattle.edit_format.proofs.LineEndFacts.{InFront, line_end_cases, lines_end}
use Rattle.edit_entries.proofs.ByEntriesFacts.{by_entries}

pub twice_is_once : (style : Style) (text : List ℕ) (says again : FileReading) → IsRawReading text says
    → IsRawReading (text_in_style style text says) again
    → text_in_style style (text_in_style style text says) again ≡ text_in_style style text says
twice_is_once style text says again read read' =
    let new = text_in_style style text says in
    let line_end = line_end_of text in
    let r =
    file_read line_end style None {a = place text 0} {u = place new 0} {says = says} (line_end_is text)
    (by_entries read) (omega arith) (omega arith) refl in
    let same : again ≡ r.reading = file_same read' r.file in
    let ends : line_end_of new ≡ line_end =
    lines_end line_end style None [] {a = place text 0} {says = says} (line_end_cases text) (InFront.stays refl)
    (by_entries read) (omega arith) refl in
    ap (λ s. text_in_style style new s) same ∙ ap (λ e. rest_in_style e style None new 0 r.reading.entries) ends ∙ r.again
