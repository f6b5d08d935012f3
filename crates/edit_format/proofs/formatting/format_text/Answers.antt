use Rattle.std.proofs.Common.{◌≡◌, ◌∙◌, ◌+◌, arith, [], ◌++◌, None, ap, subst, sym}
use Rattle.std.proofs.lemmas.Result.{err_from_is_err_and}
use Rattle.std.proofs.lemmas.Str.{IsCharBoundary-start}
use Rattle.std.specs.Str.{IsCharBoundary}
use Rattle.std.specs.String.{string_bytes}
use Rattle.bib_text.specs.Places.{place}
use Rattle.bib_syntax.specs.EntryReader.{FileRead, HasNoEntry, IsNextEntry}
use Rattle.bib_syntax.specs.Grammar.{IsRawReading}
use Rattle.bib_syntax.specs.Reading.{empty_reading, then}
use Rattle.bib_syntax.specs.Views.{entry_reading_of}
use Rattle.bib_syntax.proofs.FieldFacts.{refuses_from}
use Rattle.bib_syntax.proofs.FileFacts.{no_file_read}
use Rattle.bib_syntax.proofs.FileFailureFacts.{file_unread}
use Rattle.bib_syntax.proofs.ModeFacts.{file_longest}
use Rattle.edit_entries.specs.Cuts.{CanBeCut, IsEntryCut}
use Rattle.edit_format.specs.Formatted.{IsReadAlike, gap_in_style, rest_in_style, says_in_order, text_in_style}
use Rattle.edit_format.proofs.FileFacts.{text_read}
use Rattle.edit_format.proofs.ReaderFacts.{next_cut, next_entries, next_read, next_smaller, next_written, with_entry}
use Rattle.edit_format.proofs.formatting.format_text.Goals as goal
use Rattle.edit_format.proofs.formatting.format_text.Goals.{In-Some}

-- the next entry
next_of : (c : In-Some) → IsNextEntry c.entries.entries (entry_reading_of c.in-Some.entry) c.next_entry.new.self
next_of c = rw c.in-Some.is at c.in_ok-entry.ensures.found

-- the next entry and the gap before it may be cut out of the text
cut_of : (c : In-Some) → CanBeCut c.args.text.now c.entries.at c.in-Some.entry.span.start
    × IsEntryCut c.args.text.now (entry_reading_of c.in-Some.entry)
    × (c.next_entry.new.self.at ≡ c.in-Some.entry.span.end + 1)
cut_of c =
    let same = c.entries.invariant.0 in
    let here = c.entries.invariant.1 in
    let cut = subst (IsCharBoundary c.args.text.now) here c.entries.invariant.2 in
    let after = subst (λ t. IsCharBoundary t c.next_entry.new.self.at) (c.in_ok-entry.ensures.text ∙ same) c.in_ok-entry.ensures.boundary in
    let all = next_cut c.args.text.now same (next_of c) cut after in
    (subst (λ n. CanBeCut c.args.text.now n c.in-Some.entry.span.start) (sym here) all.0, all.1, all.2)

pub entries-init : goal.entries-init
entries-init c =
    let text = c.args.text.now in (
      ap (λ p. p.text) c.new-entries.ensures,
      sym (ap (λ p. p.at) c.new-entries.ensures),
      IsCharBoundary-start text c.utf8.text,
      (
        empty_reading,
        subst (FileRead (place text 0) empty_reading) (sym c.new-entries.ensures) (no_file_read (place text 0)),
        (λ es. ap (λ t. t ++ rest_in_style c.line_end.result.now c.args.style.now None text 0 es) c.new-new.ensures.bytes),
      ),
    )

pub returns-in_err-entry-clause-refused : goal.returns-in_err-entry-clause-refused
returns-in_err-entry-clause-refused c =
    let p = err_from_is_err_and c.from_residual.result c.from_residual.ensures.1 in
    let read = c.entries.invariant.3.1 in
    rw (p.1, p.2) (refuses_from {u = place c.args.text.now 0} {v = c.entries.entries} _ _
    (record { text = c.entries.invariant.0; at = omega arith })
    (λ r file. let l = file_longest file.1 in file_unread (read.fails r.kind r.place r.fails) l.1)
    c.in_err-entry.ensures.fails)

pub range-requires-clause-start_le_end : goal.range-requires-clause-start_le_end
range-requires-clause-start_le_end c = (cut_of (goal.at.range-requires-clause-start_le_end c).In-Some).0.ordered

pub range-requires-clause-end_boundary : goal.range-requires-clause-end_boundary
range-requires-clause-end_boundary c = (cut_of (goal.at.range-requires-clause-end_boundary c).In-Some).0.end_cut

pub push_entry-requires : goal.push_entry-requires
push_entry-requires c = (cut_of (goal.at.push_entry-requires c).In-Some).1

pub entries-smaller : goal.entries-smaller
entries-smaller c = next_smaller c.in_ok-entry.ensures.text (next_of (goal.at.entries-smaller c).In-Some)

pub entries-preserved : goal.entries-preserved
entries-preserved c =
    let at = goal.at.entries-preserved c in
    let text = c.args.text.now in
    let next = next_of at.In-Some in
    let says = c.entries.invariant.3.0 in
    let e = entry_reading_of c.in-Some.entry in
    let same = c.in_ok-entry.ensures.text ∙ c.entries.invariant.0 in (
      same,
      c.cursor-at.ensures.place,
      subst (λ t. IsCharBoundary t c.cursor-at.result) same c.cursor-at.ensures.boundary,
      (
        with_entry says next.before e,
        next_read c.entries.invariant.3.1 next,
        (λ es.
            next_written c.line_end.result.now text c.args.style.now c.entries.blank_lines (string_bytes c.entries.new)
            (string_bytes c.push_gap.new.new) (string_bytes c.push_entry.new.new) c.entries.at c.cursor-at.result e says.entries
            (c.in_ok-push_gap.ensures
            ∙ ap (λ gap. string_bytes c.entries.new ++ gap_in_style c.line_end.result.now c.entries.blank_lines gap) c.range.ensures.value)
            c.in_ok-push_entry.ensures (c.cursor-at.ensures.place ∙ (cut_of at.In-Some).2) c.entries.invariant.3.2 es
            ∙ ap (λ all. rest_in_style c.line_end.result.now c.args.style.now None text 0 (all ++ es)) (sym (next_entries says next))),
      ),
    )

pub returns-clause-made : goal.returns-clause-made
returns-clause-made c =
    let text = c.args.text.now in
    let style = c.args.style.now in
    let none : HasNoEntry c.entries.entries = rw c.in_default.is at c.in_ok-entry.ensures.found in
    let said = c.entries.invariant.3.0 in
    let says = then said none.says in
    let read : IsRawReading text says = c.entries.invariant.3.1.there none.says none.read in
    let is : string_bytes c.push_str.new.self ≡ text_in_style style text says =
    c.in_ok-push_str.ensures.bytes ∙ ap (λ t. string_bytes c.entries.new ++ t) c.range_from.ensures.value
    ∙ c.entries.invariant.3.2 []
    ∙ ap (λ es. rest_in_style c.line_end.result.now style None text 0 (said.entries ++ es)) (sym none.none)
    ∙ ap (λ line_end. rest_in_style line_end style None text 0 says.entries) c.line_end.ensures in
    record {
      says = says;
      read = read;
      is = is;
      alike = subst (IsReadAlike (says_in_order style text says)) (sym is) (text_read style text says read);
    }
