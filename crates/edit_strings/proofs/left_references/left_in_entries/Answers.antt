use Rattle.std.proofs.Common.{List, ◌+◌, ◌++◌, drop, length, map, sym, ap, ◌∙◌, subst, arith}
use Rattle.std.proofs.lemmas.List.{length-map}
use Rattle.bib_syntax.specs.Reading.{FieldReading}
use Rattle.bib_syntax.specs.Views.{entry_reading_of, field_of}
use Rattle.edit_entries.specs.NewKeys.{name_for}
use Rattle.edit_strings.specs.Left.{left_in}
use Rattle.edit_strings.specs.Tables.{AreRows, field_expanded, indexed_back, rows_of, written_by}
use Rattle.edit_strings.specs.Views.{lent_left}
use Rattle.edit_strings.proofs.ListFacts.{flat_step, left}
use Rattle.edit_strings.proofs.OrderFacts.{IsAhead, indices_step}
use Rattle.edit_strings.proofs.IndexFacts.{indices_below}
use Rattle.edit_strings.proofs.WrittenFacts.{rows_ordered}
use Rattle.edit_strings.proofs.left_references.left_in_entries.Goals as goal

pub push_left_in-requires-clause-ordered : goal.push_left_in-requires-clause-ordered
push_left_in-requires-clause-ordered c =
    let xs = c.args.definitions.now in
    let rows = rows_of c.args.known.now.rows.items in
    rows_ordered (map field_of xs) rows
    (subst (λ n. AreRows (map field_of xs) n rows) (sym (length-map xs field_of)) c.requires.rows)

pub push_left_in-requires-clause-below : goal.push_left_in-requires-clause-below
push_left_in-requires-clause-below c =
    let rows = c.args.known.now.rows.items in
    let size = length-map rows (λ r. indexed_back r.items) in
    indices_below (map field_of c.args.definitions.now) c.in_ok-next.next (length rows) c.add_before.new.indices
    (omega (arith, c.in_ok-next.ensures.within, c.requires.rows.as_many, size)) c.in_ok-next.ensures.indices

pub entries-preserved : goal.entries-preserved
entries-preserved c =
    let known = c.args.known.now in
    let xs = c.args.definitions.now in
    let defined : List FieldReading = map field_of xs in
    let rows = rows_of known.rows.items in
    let es = c.args.entries.now in
    let i = c.entries.entry-index in
    let x = c.entry-item.result in
    let step =
    indices_step xs c.requires.definitions.0 c.requires.definitions.1 c.entries.next c.in_ok-next.next (entry_reading_of x)
    (map entry_reading_of (drop (i + 1) es)) c.add_before.new.indices
    (subst (IsAhead defined c.entries.next) (left entry_reading_of es i x c.entries-test.true c.entry-item.is) c.entries.invariant.ahead)
    c.in_ok-next.ensures.within c.in_ok-next.ensures.before c.in_ok-next.ensures.next c.in_ok-next.ensures.indices in
    let added =
    c.in_ok-push_left_in.ensures
    ∙ ap
    (λ ix. lent_left c.entries.left.items ++ left_in (name_for known.names) (λ e. field_expanded rows ix) (entry_reading_of x)) step.0 in
    record {
      added =
          flat_step entry_reading_of es i x c.entries-test.true c.entry-item.is
          (left_in (name_for known.names) (written_by defined rows)) _ _ _ added c.entries.invariant.added;
      ahead = step.1;
      indices = c.in_ok-next.ensures.indices;
    }
