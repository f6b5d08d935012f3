use Rattle.std.proofs.Common.{◌≡◌, List, ◌+◌, ◌++◌, drop, length, map, sym, ap, ◌∙◌, subst, arith}
use Rattle.std.specs.List.{AllByRecursion}
use Rattle.std.proofs.lemmas.List.{length-map}
use Rattle.bib_syntax.specs.Reading.{FieldReading}
use Rattle.bib_syntax.specs.Views.{entry_reading_of, field_of}
use Rattle.edit_entries.specs.EditList.{edit_of}
use Rattle.edit_strings.specs.Expanded.{count_before, index_before}
use Rattle.edit_strings.specs.Tables.{AreRows, IsExpansionCut, entry_expansion, expansion_by, field_edits, lowercase_index_in, indexed_back, rows_of}
use Rattle.edit_strings.proofs.ListFacts.{all_step, flat_step, left}
use Rattle.edit_strings.proofs.OrderFacts.{IsAhead, indices_step}
use Rattle.edit_strings.proofs.IndexFacts.{indices_below}
use Rattle.edit_strings.proofs.WrittenFacts.{rows_ordered}
use Rattle.edit_strings.proofs.expanding.expansions.Goals as goal
use Rattle.edit_strings.proofs.expanding.expansions.Goals.{In_ok-next}

-- the map has the indices before the entry, and its definitions begin before the following entries
reached : (c : In_ok-next) → (lowercase_index_in c.add_before.new.indices ≡ index_before (map field_of c.args.names.now.definitions.now)
    (count_before (map field_of c.args.names.now.definitions.now) (entry_reading_of c.entry-item.result)))
    × IsAhead (map field_of c.args.names.now.definitions.now) c.in_ok-next.next
    (map entry_reading_of (drop (c.entries.entry-index + 1) c.args.entries.now))
reached c =
    let xs = c.args.names.now.definitions.now in
    let es = c.args.entries.now in
    let i = c.entries.entry-index in
    let x = c.entry-item.result in
    indices_step xs c.requires.definitions.0 c.requires.definitions.1 c.entries.next c.in_ok-next.next (entry_reading_of x)
    (map entry_reading_of (drop (i + 1) es)) c.add_before.new.indices
    (subst (IsAhead (map field_of xs) c.entries.next) (left entry_reading_of es i x c.entries-test.true c.entry-item.is)
    c.entries.invariant.ahead) c.in_ok-next.ensures.within c.in_ok-next.ensures.before c.in_ok-next.ensures.next
    c.in_ok-next.ensures.indices

pub push_expansions-requires-clause-ordered : goal.push_expansions-requires-clause-ordered
push_expansions-requires-clause-ordered c =
    let xs = c.args.names.now.definitions.now in
    let rows = rows_of c.args.names.now.rows.items in
    rows_ordered (map field_of xs) rows
    (subst (λ n. AreRows (map field_of xs) n rows) (sym (length-map xs field_of)) c.requires.rows)

pub push_expansions-requires-clause-below : goal.push_expansions-requires-clause-below
push_expansions-requires-clause-below c =
    let rows = c.args.names.now.rows.items in
    let size = length-map rows (λ r. indexed_back r.items) in
    indices_below (map field_of c.args.names.now.definitions.now) c.in_ok-next.next (length rows) c.add_before.new.indices
    (omega (arith, c.in_ok-next.ensures.within, c.requires.rows.as_many, size)) c.in_ok-next.ensures.indices

pub push_expansions-requires-clause-cut : goal.push_expansions-requires-clause-cut
push_expansions-requires-clause-cut c =
    let names = c.args.names.now in
    let defined : List FieldReading = map field_of names.definitions.now in
    let rows = rows_of names.rows.items in
    let x = c.entry-item.result in
    let step = reached ((goal.at.push_expansions-requires-clause-cut c).In_ok-next) in
    let here =
    (all_step entry_reading_of c.args.entries.now c.entries.entry-index x c.entries-test.true c.entry-item.is
    (λ e. AllByRecursion (IsExpansionCut names.text.now rows (index_before defined (count_before defined e))) e.fields)
    c.entries.invariant.cut).0 in
    subst (λ fs. AllByRecursion (IsExpansionCut names.text.now rows (lowercase_index_in c.add_before.new.indices)) (map field_of fs))
    (sym c.deref.ensures.value)
    (subst (λ ix. AllByRecursion (IsExpansionCut names.text.now rows ix) (map field_of x.v.fields.items)) (sym step.0) here)

pub entries-preserved : goal.entries-preserved
entries-preserved c =
    let names = c.args.names.now in
    let defined : List FieldReading = map field_of names.definitions.now in
    let text = names.text.now in
    let rows = rows_of names.rows.items in
    let es = c.args.entries.now in
    let i = c.entries.entry-index in
    let x = c.entry-item.result in
    let step = reached ((goal.at.entries-preserved c).In_ok-next) in
    let added =
    c.in_ok-push_expansions.ensures
    ∙ ap
    (λ fs.
    map edit_of c.entries.edits.items
    ++ field_edits (expansion_by text rows (lowercase_index_in c.add_before.new.indices)) text (map field_of fs))
    c.deref.ensures.value
    ∙ ap (λ ix. map edit_of c.entries.edits.items ++ field_edits (expansion_by text rows ix) text (map field_of x.v.fields.items)) step.0 in
    record {
      added =
          flat_step entry_reading_of es i x c.entries-test.true c.entry-item.is
          (λ e. field_edits (entry_expansion text defined rows e) text e.fields) _ _ _ added c.entries.invariant.added;
      cut =
          (all_step entry_reading_of es i x c.entries-test.true c.entry-item.is
          (λ e. AllByRecursion (IsExpansionCut text rows (index_before defined (count_before defined e))) e.fields)
          c.entries.invariant.cut).1;
      ahead = step.1;
      indices = c.in_ok-next.ensures.indices;
    }
