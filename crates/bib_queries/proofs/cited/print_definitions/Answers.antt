use Rattle.std.proofs.Common.{◌≡◌, ◌∙◌, ◌++◌, length, map, take, ap, sym, subst}
use Rattle.std.specs.List.{flat_map}
use Rattle.std.specs.String.{string_bytes}
use Rattle.std.proofs.lemmas.List.{length_push}
use Rattle.std.proofs.lemmas.Slice.Zip.{zip_turn, zip_end}
use Rattle.bib_syntax.specs.Views.{field_of}
use Rattle.bib_queries.specs.Cited.{definition_line}
use Rattle.bib_queries.specs.Needed.{with_marks}
use Rattle.bib_queries.specs.Standing.{IsFieldIn}
use Rattle.bib_queries.proofs.MarkFacts.{all_at, marked_all, marked_made}
use Rattle.bib_queries.proofs.cited.print_definitions.Goals as goal

pub print_definition-requires : goal.print_definition-requires
print_definition-requires c =
    let t =
    zip_turn c.args.pairs.now c.args.marks.now c.pairs.yielded c.into_iter-pair-iterator.result
    c.pairs.pair-iterator c.next.new.self c.next.result (cc) (cc) c.pairs.yielded_by _ c.in-Some.is
    c.next.ensures.steps in
    all_at (IsFieldIn c.args.text.now) field_of c.args.pairs.now (length c.pairs.yielded) c.in-Some.pair.now t.0
    (sym (t.2 c.in-Some.pair.now)) c.requires

pub pairs-preserved : goal.pairs-preserved
pairs-preserved c =
    let t =
    zip_turn c.args.pairs.now c.args.marks.now c.pairs.yielded c.into_iter-pair-iterator.result
    c.pairs.pair-iterator c.next.new.self c.next.result (cc) (cc) c.pairs.yielded_by _ c.in-Some.is
    c.next.ensures.steps in
    subst
    (λ n.
    string_bytes c.print_definition.new.printed
    ≡ string_bytes c.args.printed.now
    ++ flat_map (definition_line c.args.line_end.now c.args.text.now)
    (with_marks (take n c.args.marks.now) (map field_of (take n c.args.pairs.now))))
    (sym (length_push c.pairs.yielded (c.in-Some.pair, c.in-Some.mark)))
    (marked_made field_of (definition_line c.args.line_end.now c.args.text.now) c.args.marks.now c.args.pairs.now (length c.pairs.yielded)
    c.in-Some.mark.now c.in-Some.pair.now (string_bytes c.args.printed.now) (string_bytes c.pairs.printed)
    (string_bytes c.print_definition.new.printed)
    t.1 t.0 (sym (t.3 c.in-Some.mark.now)) (sym (t.2 c.in-Some.pair.now)) c.pairs.invariant c.in_ok-print_definition.ensures)

pub returns : goal.returns
returns c =
    let end =
    zip_end c.args.pairs.now c.args.marks.now c.pairs.yielded c.into_iter-pair-iterator.result c.pairs.pair-iterator
    c.next.new.self c.next.result (cc) (cc) c.pairs.yielded_by c.in-None.is c.next.ensures.steps in
    c.pairs.invariant
    ∙ ap (λ l. string_bytes c.args.printed.now ++ flat_map (definition_line c.args.line_end.now c.args.text.now) l)
    (marked_all field_of c.args.marks.now c.args.pairs.now (length c.pairs.yielded) end)
