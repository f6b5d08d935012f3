use Rattle.std.proofs.Common.{◌≡◌, ◌∙◌, ◌++◌, length, map, take, ap, sym, subst}
use Rattle.std.specs.List.{flat_map}
use Rattle.std.proofs.lemmas.List.{length_push}
use Rattle.std.proofs.lemmas.Slice.Zip.{zip_turn, zip_end}
use Rattle.bib_syntax.specs.Views.{entry_reading_of}
use Rattle.bib_queries.specs.Cited.{used_in_entry}
use Rattle.bib_queries.specs.Needed.{with_marks}
use Rattle.bib_queries.specs.Texts.{text_list}
use Rattle.bib_queries.proofs.MarkFacts.{marked_all, marked_made}
use Rattle.bib_queries.proofs.cited.used_abbreviations.Goals as goal

pub entries-preserved : goal.entries-preserved
entries-preserved c =
    let t =
    zip_turn c.args.entries.now c.args.marks.now c.entries.yielded c.into_iter-entry-iterator.result
    c.entries.entry-iterator c.next.new.self c.next.result (cc) (cc) c.entries.yielded_by _ c.in-Some.is
    c.next.ensures.steps in
    subst
    (λ n.
    text_list c.push_used_if.new.names
    ≡ text_list c.new-names.result
    ++ flat_map (used_in_entry)
    (with_marks (take n c.args.marks.now) (map entry_reading_of (take n c.args.entries.now))))
    (sym (length_push c.entries.yielded (c.in-Some.entry, c.in-Some.mark)))
    (marked_made entry_reading_of (used_in_entry) c.args.marks.now c.args.entries.now (length c.entries.yielded)
    c.in-Some.mark.now c.in-Some.entry.now (text_list c.new-names.result) (text_list c.entries.names)
    (text_list c.push_used_if.new.names)
    t.1 t.0 (sym (t.3 c.in-Some.mark.now)) (sym (t.2 c.in-Some.entry.now)) c.entries.invariant c.in_ok-push_used_if.ensures)

pub returns : goal.returns
returns c =
    let end =
    zip_end c.args.entries.now c.args.marks.now c.entries.yielded c.into_iter-entry-iterator.result
    c.entries.entry-iterator c.next.new.self c.next.result (cc) (cc) c.entries.yielded_by c.in-None.is
    c.next.ensures.steps in
    c.entries.invariant
    ∙ ap (λ l. text_list c.new-names.result ++ flat_map (used_in_entry) l)
    (marked_all entry_reading_of c.args.marks.now c.args.entries.now (length c.entries.yielded) end)
    ∙ ap
    (λ l.
    map (λ n. n.now) l
    ++ flat_map used_in_entry (with_marks c.args.marks.now (map entry_reading_of c.args.entries.now)))
    c.new-names.ensures.items
