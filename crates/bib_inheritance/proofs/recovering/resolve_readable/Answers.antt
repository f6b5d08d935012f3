use Rattle.std.proofs.Common.{◌≡◌, ◌∙◌, true, ap, arith, sym, subst, length}
use Rattle.std.proofs.lemmas.List.{length-map, with_items_is}
use Rattle.bib_collections.specs.Graph.{IsInRange}
use Rattle.bib_collections.specs.Rows.{rows}
use Rattle.bib_collections.proofs.Rows.{length-rows}
use Rattle.bib_entry.specs.declared.entry.Entry.{Entry}
use Rattle.bib_inheritance.specs.References.{references}
use Rattle.bib_inheritance.specs.EntryTexts.{fields_of}
use Rattle.bib_inheritance.specs.Cutting.{IsUnreadError}
use Rattle.bib_inheritance.specs.Recovered.{EachReported}
use Rattle.bib_inheritance.specs.Resolving.{Inherits, graph_by, texts_of_entries}
use Rattle.bib_inheritance.specs.Turning.{IsCacheOf, is_unread_at}
use Rattle.bib_inheritance.proofs.DatesRead.{all_taken}
use Rattle.bib_inheritance.proofs.RangeFacts.{graph_in_range}
use Rattle.bib_inheritance.proofs.RecoveredFacts.{recovered}
use Rattle.bib_inheritance.proofs.recovering.resolve_readable.Goals as goal

pub order_and_cycles-requires-clause-in_range : goal.order_and_cycles-requires-clause-in_range
order_and_cycles-requires-clause-in_range c =
    subst (λ l. IsInRange (rows l)) (sym c.deref_mut.ensures.value)
    (subst IsInRange (sym c.in_ok-refs.ensures)
    (graph_in_range c.args.names.now c.args.entries.now c.requires.below))

pub take_turns-requires-clause-in_range : goal.take_turns-requires-clause-in_range
take_turns-requires-clause-in_range c =
    let new = c.order_and_cycles.new.refs in
    let len : length new ≡ length c.in_ok-refs.refs.items = c.in_ok-order.ensures.rows ∙ ap length c.deref_mut.ensures.value in
    let is = c.deref-2.ensures.value ∙ with_items_is c.in_ok-refs.refs new (omega (arith, len, c.in_ok-refs.refs.ok.0)) in
    let first =
    subst (λ l. IsInRange (rows l)) (sym c.deref_mut.ensures.value)
    (subst IsInRange (sym c.in_ok-refs.ensures)
    (graph_in_range c.args.names.now c.args.entries.now c.requires.below)) in
    subst (λ l. IsInRange (rows l)) (sym is) (c.in_ok-order.ensures.cut.in_range first)

pub date_errors-requires-clause-in_range : goal.date_errors-requires-clause-in_range
date_errors-requires-clause-in_range c =
    let new = c.order_and_cycles.new.refs in
    let len : length new ≡ length c.in_ok-refs.refs.items = c.in_ok-order.ensures.rows ∙ ap length c.deref_mut.ensures.value in
    let is = c.deref-4.ensures.value ∙ with_items_is c.in_ok-refs.refs new (omega (arith, len, c.in_ok-refs.refs.ok.0)) in
    let first =
    subst (λ l. IsInRange (rows l)) (sym c.deref_mut.ensures.value)
    (subst IsInRange (sym c.in_ok-refs.ensures)
    (graph_in_range c.args.names.now c.args.entries.now c.requires.below)) in
    subst (λ l. IsInRange (rows l)) (sym is) (c.in_ok-order.ensures.cut.in_range first)

pub date_errors-requires-clause-dates : goal.date_errors-requires-clause-dates
date_errors-requires-clause-dates c =
    let new = c.take_turns.new.dates in
    let same : c.deref_mut-3.result.now ≡ new =
    c.deref_mut-3.ensures.value ∙ all_taken c.in_ok-dates.dates.len new c.in_ok-dates.dates.items (omega arith) in
    subst (IsCacheOf c.take_turns.new.entries) (sym same) c.in_ok-take_turns.ensures.dates

pub returns-clause-recovered : goal.returns-clause-recovered
returns-clause-recovered c =
    let own = c.args.entries.now in
    let names = c.args.names.now in
    let new = c.order_and_cycles.new.refs in
    let cut = c.order_and_cycles.new.entries in
    let values = texts_of_entries c.take_turns.new.entries in
    let len : length new ≡ length c.in_ok-refs.refs.items = c.in_ok-order.ensures.rows ∙ ap length c.deref_mut.ensures.value in
    let items = with_items_is c.in_ok-refs.refs new (omega (arith, len, c.in_ok-refs.refs.ok.0)) in
    let graph_is : rows c.deref_mut.result.now ≡ graph_by names own = ap rows c.deref_mut.ensures.value ∙ c.in_ok-refs.ensures in
    let n : length c.deref-4.result.now ≡ length own =
    omega (
      arith,
      ap length c.deref-4.ensures.value,
      ap length items,
      len,
      length-rows c.in_ok-refs.refs.items,
      ap length c.in_ok-refs.ensures,
      length-map own (λ (e : Entry). references names (fields_of e.fields)),
    ) in
    recovered c.args.spans.now names own cut c.take_turns.new.entries (rows c.deref_mut.result.now) (rows new)
    c.deref-5.result.now (length c.deref-4.result.now)
    c.in_ok-order.errors.items c.in_ok-unread.unread.items c.append.new.self.items graph_is c.in_ok-order.ensures.cut
    c.in_ok-take_turns.ensures.inherited.keys
    (subst (λ l. Inherits (texts_of_entries cut) (rows l) values) (c.deref-2.ensures.value ∙ items)
    c.in_ok-take_turns.ensures.inherited.inherits)
    c.in_ok-take_turns.ensures.inherited.chunks
    (c.deref-5.ensures.value ∙ c.in_ok-looks.ensures) n
    (subst
    (λ l.
    EachReported (λ index. is_unread_at c.deref-5.result.now (rows l) values index ≡ true)
    (IsUnreadError (rows l) c.take_turns.new.entries) (length c.deref-4.result.now)
    c.in_ok-unread.unread.items) (c.deref-4.ensures.value ∙ items) c.in_ok-unread.ensures)
    c.in_ok-append.ensures.items
