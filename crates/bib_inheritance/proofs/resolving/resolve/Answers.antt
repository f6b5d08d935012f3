use Rattle.std.proofs.Common.{◌≡◌, ◌∙◌, ℕ, false, ap, sym, subst, inl, inr, arith}
use Rattle.std.specs.Prelude.{MatchOption}
use Rattle.std.proofs.lemmas.Result.{err_from_is_err_and}
use Rattle.bib_collections.specs.Graph.{HasNoCycle, IsFirstOnCycle, IsInRange}
use Rattle.bib_collections.specs.Rows.{rows}
use Rattle.bib_inheritance.specs.Resolving.{HaveInherited, Inherits, IsResolvingError, graph_by, texts_of_entries}
use Rattle.bib_inheritance.specs.Turning.{IsCacheOf, IsFirstUnread, is_unread_at}
use Rattle.bib_inheritance.proofs.DatesRead.{all_taken, date_unread}
use Rattle.bib_inheritance.proofs.FlagFacts.{bad_flagged, dates_read, looking}
use Rattle.bib_inheritance.proofs.RangeFacts.{graph_in_range}
use Rattle.bib_inheritance.proofs.resolving.resolve.Goals as goal

pub flagged_graph-requires : goal.flagged_graph-requires
flagged_graph-requires c = c.deref.ensures.value ∙ c.in_ok-flags.ensures

pub take_turns-requires-clause-flags : goal.take_turns-requires-clause-flags
take_turns-requires-clause-flags c = c.deref-5.ensures.value ∙ c.in_ok-flags.ensures

pub order-requires-clause-in_range : goal.order-requires-clause-in_range
order-requires-clause-in_range c =
    subst (λ l. IsInRange (rows l)) (sym c.deref-2.ensures.value)
    (subst IsInRange (sym c.in_ok-refs.ensures.graph)
    (graph_in_range c.args.names.now c.args.entries.now c.requires.below))

pub take_turns-requires-clause-in_range : goal.take_turns-requires-clause-in_range
take_turns-requires-clause-in_range c =
    subst (λ l. IsInRange (rows l)) (sym c.deref-4.ensures.value)
    (subst IsInRange (sym c.in_ok-refs.ensures.graph)
    (graph_in_range c.args.names.now c.args.entries.now c.requires.below))

pub unread_date-requires-clause-in_range : goal.unread_date-requires-clause-in_range
unread_date-requires-clause-in_range c =
    subst (λ l. IsInRange (rows l)) (sym c.deref-6.ensures.value)
    (subst IsInRange (sym c.in_ok-refs.ensures.graph)
    (graph_in_range c.args.names.now c.args.entries.now c.requires.below))

pub unread_date-requires-clause-dates : goal.unread_date-requires-clause-dates
unread_date-requires-clause-dates c =
    let new = c.take_turns.new.dates in
    let same : c.deref_mut-2.result.now ≡ new =
    c.deref_mut-2.ensures.value ∙ all_taken c.in_ok-dates.dates.len new c.in_ok-dates.dates.items (omega arith) in
    subst (IsCacheOf c.take_turns.new.entries) (sym same) c.in_ok-turns.ensures.dates

pub returns-in_err-order-clause-refused : goal.returns-in_err-order-clause-refused
returns-in_err-order-clause-refused c =
    let p = err_from_is_err_and c.from_residual-in_err-order.result c.from_residual-in_err-order.ensures.1 in
    let graph : rows c.deref-2.result.now ≡ graph_by c.args.names.now c.args.entries.now =
    ap rows c.deref-2.ensures.value ∙ c.in_ok-refs.ensures.graph in
    rw (p.1, p.2) (elim c.in_err-order.ensures.refused [
      | inl memory ↦ inl memory
      | inr error ↦ inr (IsResolvingError.cycle (subst (λ g. IsFirstOnCycle g error.0) graph error.1) error.2)
    ])

pub returns-in-Some-clause-refused : goal.returns-in-Some-clause-refused
returns-in-Some-clause-refused c =
    let own = c.args.entries.now in
    let names = c.args.names.now in
    let values = texts_of_entries c.take_turns.new.entries in
    let one : rows c.deref-2.result.now ≡ graph_by names own = ap rows c.deref-2.ensures.value ∙ c.in_ok-refs.ensures.graph in
    let three : rows c.deref-4.result.now ≡ graph_by names own = ap rows c.deref-4.ensures.value ∙ c.in_ok-refs.ensures.graph in
    let four : rows c.deref-6.result.now ≡ graph_by names own = ap rows c.deref-6.ensures.value ∙ c.in_ok-refs.ensures.graph in
    let entries = c.take_turns.new.entries in
    let first =
    subst
    (λ o.
    MatchOption o
    ((index : ℕ) → is_unread_at c.deref-7.result.now (rows c.deref-6.result.now) values index ≡ false)
    (IsFirstUnread c.deref-7.result.now (rows c.deref-6.result.now) entries)) c.in-Some.is
    c.in_ok-error.ensures in
    let are = c.deref-7.ensures.value ∙ c.in_ok-refs.ensures.looks in
    inr (date_unread c.args.spans.now own c.deref-7.result.now (graph_by names own) entries c.in-Some.error
    c.resolution_error.result (λ index. bad_flagged names own c.deref-7.result.now values index are)
    (looking own c.deref-7.result.now are)
    (subst HasNoCycle one c.in_ok-order.ensures.no_cycle)
    (subst (λ g. Inherits (texts_of_entries own) g values) three c.in_ok-turns.ensures.inherited.inherits)
    c.in_ok-turns.ensures.inherited.keys c.in_ok-turns.ensures.inherited.chunks
    (subst (λ g. IsFirstUnread c.deref-7.result.now g entries c.in-Some.error) four first) c.resolution_error.ensures)

pub returns-clause-resolved : goal.returns-clause-resolved
returns-clause-resolved c =
    let own = c.args.entries.now in
    let names = c.args.names.now in
    let values = texts_of_entries c.take_turns.new.entries in
    let one : rows c.deref-2.result.now ≡ graph_by names own = ap rows c.deref-2.ensures.value ∙ c.in_ok-refs.ensures.graph in
    let three : rows c.deref-4.result.now ≡ graph_by names own = ap rows c.deref-4.ensures.value ∙ c.in_ok-refs.ensures.graph in
    let four : rows c.deref-6.result.now ≡ graph_by names own = ap rows c.deref-6.ensures.value ∙ c.in_ok-refs.ensures.graph in
    let read =
    subst
    (λ o.
    MatchOption o
    ((index : ℕ) → is_unread_at c.deref-7.result.now (rows c.deref-6.result.now) values index ≡ false)
    (IsFirstUnread c.deref-7.result.now (rows c.deref-6.result.now) c.take_turns.new.entries))
    c.in-None.is c.in_ok-error.ensures in
    record {
      no_cycle = subst HasNoCycle one c.in_ok-order.ensures.no_cycle;
      inherited = subst (λ g. HaveInherited own g c.take_turns.new.entries) three c.in_ok-turns.ensures.inherited;
      dates = dates_read names own c.deref-7.result.now values (c.deref-7.ensures.value ∙ c.in_ok-refs.ensures.looks)
          (subst (λ g. (index : ℕ) → is_unread_at c.deref-7.result.now g values index ≡ false) four read);
    }
