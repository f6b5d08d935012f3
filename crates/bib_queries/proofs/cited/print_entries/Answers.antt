use Rattle.std.proofs.Common.{◌≡◌, ◌∙◌, ◌++◌, length, map, take, ap, sym, subst}
use Rattle.std.specs.List.{flat_map}
use Rattle.std.specs.String.{string_bytes}
use Rattle.std.proofs.lemmas.List.{length_push}
use Rattle.std.proofs.lemmas.Slice.Zip.{zip_turn, zip_end}
use Rattle.bib_syntax.specs.Recovery.{IsBlockOf}
use Rattle.bib_syntax.specs.Views.{entry_reading_of}
use Rattle.bib_queries.specs.Cited.{entry_line}
use Rattle.bib_queries.specs.Needed.{with_marks}
use Rattle.bib_queries.proofs.MarkFacts.{all_at, marked_all, marked_made}
use Rattle.bib_queries.proofs.cited.print_entries.Goals as goal

pub print_if-requires : goal.print_if-requires
print_if-requires c =
    let t =
    zip_turn c.args.entries.now c.args.marks.now c.entries.yielded c.into_iter-entry-iterator.result
    c.entries.entry-iterator c.next.new.self c.next.result (cc) (cc) c.entries.yielded_by _ c.in-Some.is
    c.next.ensures.steps in
    all_at (IsBlockOf c.args.text.now) entry_reading_of c.args.entries.now (length c.entries.yielded)
    c.in-Some.entry.now t.0 (sym (t.2 c.in-Some.entry.now)) c.requires

pub entries-preserved : goal.entries-preserved
entries-preserved c =
    let t =
    zip_turn c.args.entries.now c.args.marks.now c.entries.yielded c.into_iter-entry-iterator.result
    c.entries.entry-iterator c.next.new.self c.next.result (cc) (cc) c.entries.yielded_by _ c.in-Some.is
    c.next.ensures.steps in
    subst
    (λ n.
    string_bytes c.print_if.new.printed
    ≡ string_bytes c.args.printed.now
    ++ flat_map (entry_line c.args.line_end.now c.args.text.now)
    (with_marks (take n c.args.marks.now) (map entry_reading_of (take n c.args.entries.now))))
    (sym (length_push c.entries.yielded (c.in-Some.entry, c.in-Some.mark)))
    (marked_made entry_reading_of (entry_line c.args.line_end.now c.args.text.now) c.args.marks.now c.args.entries.now
    (length c.entries.yielded) c.in-Some.mark.now c.in-Some.entry.now (string_bytes c.args.printed.now)
    (string_bytes c.entries.printed) (string_bytes c.print_if.new.printed)
    t.1 t.0 (sym (t.3 c.in-Some.mark.now)) (sym (t.2 c.in-Some.entry.now)) c.entries.invariant c.in_ok-print_if.ensures)

pub returns : goal.returns
returns c =
    let end =
    zip_end c.args.entries.now c.args.marks.now c.entries.yielded c.into_iter-entry-iterator.result
    c.entries.entry-iterator c.next.new.self c.next.result (cc) (cc) c.entries.yielded_by c.in-None.is
    c.next.ensures.steps in
    c.entries.invariant
    ∙ ap (λ l. string_bytes c.args.printed.now ++ flat_map (entry_line c.args.line_end.now c.args.text.now) l)
    (marked_all entry_reading_of c.args.marks.now c.args.entries.now (length c.entries.yielded) end)
