use Rattle.std.proofs.Common.{◌≡◌, ◌∙◌, ◌++◌, ◌∷◌, [], ◌<◌, ℕ, ap, sym, subst, get_or, length, arith, rules, inl, eqb}
use Rattle.std.specs.List.{All}
use Rattle.std.proofs.lemmas.Bool.{false≢true}
use Rattle.std.proofs.lemmas.List.{take_more, length-map}
use Rattle.bib_entry.specs.Parents.{has_references}
use Rattle.bib_collections.specs.Rows.{rows}
use Rattle.bib_collections.specs.Solving.{IsSolvedTo}
use Rattle.bib_collections.proofs.Rows.{length-rows, row_at, row_in}
use Rattle.bib_collections.proofs.Solving.{solved_all}
use Rattle.bib_collections.proofs.LeadFacts.{turn_within}
use Rattle.bib_inheritance.specs.EntryTexts.{no_entry}
use Rattle.bib_inheritance.specs.Resolving.{rule_by, texts_of_entries, texts_of_entry}
use Rattle.bib_inheritance.specs.Turning.{AreDates}
use Rattle.bib_inheritance.proofs.DateFacts.{after_more, dates_kept, none_read, turn_unread}
use Rattle.bib_inheritance.proofs.FlagFacts.{skipped}
use Rattle.bib_inheritance.proofs.TurnFacts.{no_indices, turned_chunks, turned_more, turned_none}
use Rattle.bib_inheritance.proofs.turning.take_turns.Goals as goal

pub order-init : goal.order-init
order-init c = record {
  turns = c.in_ok-turns.ensures.items;
  turned = turned_none (rows c.args.refs.now) c.args.order.now c.args.entries.now;
  dates = record {
    as_many = c.requires.dates.as_many;
    right = none_read c.args.entries.now c.args.dates.now c.requires.dates.none;
  };
  following = λ index there. absurd (false≢true (sym (c.requires.dates.none index) ∙ there));
}

pub offset_bounds-refs-index : goal.offset_bounds-refs-index
offset_bounds-refs-index c =
    let index : ℕ = get_or c.args.order.now c.order.index-index 0 in
    let within = turn_within (rows c.args.refs.now) c.args.order.now c.order.index-index c.requires.order c.order-test.true in
    let h : index < length c.args.refs.now = omega (arith, within, length-rows c.args.refs.now) in
    search rules

pub bounds-refs-index : goal.bounds-refs-index
bounds-refs-index c =
    let within = turn_within (rows c.args.refs.now) c.args.order.now c.order.index-index c.requires.order c.order-test.true in
    omega (arith, within, length-rows c.args.refs.now)

pub offset_bounds-refs-index-in-order : goal.offset_bounds-refs-index-in-order
offset_bounds-refs-index-in-order c =
    let index : ℕ = get_or c.args.order.now c.order.index-index 0 in
    let within = turn_within (rows c.args.refs.now) c.args.order.now c.order.index-index c.requires.order c.order-test.true in
    let h : index < length c.args.refs.now = omega (arith, within, length-rows c.args.refs.now) in
    search rules

pub bounds-refs-index-in-order : goal.bounds-refs-index-in-order
bounds-refs-index-in-order c =
    let within = turn_within (rows c.args.refs.now) c.args.order.now c.order.index-index c.requires.order c.order-test.true in
    omega (arith, within, length-rows c.args.refs.now)

pub bounds-flags-index : goal.bounds-flags-index
bounds-flags-index c =
    let within = turn_within (rows c.args.refs.now) c.args.order.now c.order.index-index c.requires.order c.order-test.true in
    omega (
      arith,
      within,
      length-rows c.args.refs.now,
      c.requires.as_long,
      ap length c.requires.flags,
      length-map c.args.entries.now has_references,
    )

pub take_turn-requires-clause-references : goal.take_turn-requires-clause-references
take_turn-requires-clause-references c =
    let refs = c.args.refs.now in
    let index : ℕ = get_or c.args.order.now c.order.index-index 0 in
    let within = turn_within (rows refs) c.args.order.now c.order.index-index c.requires.order c.order-test.true in
    let row =
    row_in refs index c.index-refs-index-in-order.result c.requires.in_range
    (omega (arith, within, length-rows refs)) c.index-refs-index-in-order.is in
    subst (λ n. All (λ r. r < n) c.deref.result.now) (sym (c.order.invariant.turned.as_long ∙ c.requires.as_long))
    (subst (λ l. All (λ r. r < length refs) l) (sym c.deref.ensures.value) row)

pub take_turn-requires-clause-index : goal.take_turn-requires-clause-index
take_turn-requires-clause-index c =
    let within = turn_within (rows c.args.refs.now) c.args.order.now c.order.index-index c.requires.order c.order-test.true in
    omega (arith, within, length-rows c.args.refs.now, c.order.invariant.turned.as_long, c.requires.as_long)

pub order-preserved : goal.order-preserved
order-preserved c =
    let refs = c.args.refs.now in
    let i = c.order.index-index in
    let index : ℕ = get_or c.args.order.now i 0 in
    let within = turn_within (rows refs) c.args.order.now i c.requires.order c.order-test.true in
    let row =
    c.deref.ensures.value
    ∙ sym
    (row_at refs index c.index-refs-index-in-order.result (omega (arith, within, length-rows refs))
    c.index-refs-index-in-order.is) in
    let turn = c.in_ok-take_turn.ensures.turned in
    record {
      turns =
          c.in_ok-take_turn.ensures.turns ∙ ap (λ l. l ++ index ∷ []) c.order.invariant.turns
          ∙ sym (take_more c.args.order.now i 0 c.order-test.true);
      turned =
          turned_more (rows refs) c.args.order.now c.args.entries.now c.order.entries c.take_turn.new.entries i turn.0
          c.deref.result.now c.requires.order c.order-test.true
          (c.requires.as_long ∙ sym (length-rows refs)) row turn.1 turn.2 c.order.invariant.turned;
      dates = record {
        as_many = c.in_ok-take_turn.ensures.dates.as_many ∙ sym c.in_ok-take_turn.ensures.length;
        right = subst (λ l. AreDates l c.take_turn.new.dates) (sym turn.1)
            (dates_kept c.order.entries index turn.0 c.take_turn.new.dates
            (turn_unread (rows refs) c.args.order.now c.deref.result.now i c.requires.order c.order-test.true row
            c.order.dates c.take_turn.new.dates c.in_ok-take_turn.ensures.added c.order.invariant.following)
            c.in_ok-take_turn.ensures.dates.right);
      };
      following =
          after_more (rows refs) c.args.order.now c.deref.result.now i c.requires.order c.order-test.true row
          c.order.dates c.take_turn.new.dates c.in_ok-take_turn.ensures.added c.order.invariant.following;
    }

pub order-preserved-then-is_empty : goal.order-preserved-then-is_empty
order-preserved-then-is_empty c =
    let refs = c.args.refs.now in
    let i = c.order.index-index in
    let index : ℕ = get_or c.args.order.now i 0 in
    let within = turn_within (rows refs) c.args.order.now i c.requires.order c.order-test.true in
    let row = row_at refs index c.index-refs-index.result (omega (arith, within, length-rows refs)) c.index-refs-index.is in
    let none =
    no_indices c.index-refs-index.result.items
    (ap (λ n. eqb n 0) (sym c.index-refs-index.result.ok.0) ∙ sym c.is_empty.ensures ∙ c.if-is_empty.true) in
    record {
      turns =
          c.in_ok-push.ensures.items ∙ ap (λ l. l ++ index ∷ []) c.order.invariant.turns
          ∙ sym (take_more c.args.order.now i 0 c.order-test.true);
      turned =
          skipped (rows refs) c.args.order.now c.args.entries.now c.order.entries c.args.flags.now i
          c.index-refs-index.result.items c.requires.order c.order-test.true
          (c.requires.as_long ∙ sym (length-rows refs)) c.requires.flags c.if-not-flags-index.true none (sym row) c.order.invariant.turned;
      dates = c.order.invariant.dates;
      following =
          after_more (rows refs) c.args.order.now c.index-refs-index.result.items i c.requires.order c.order-test.true
          (sym row) c.order.dates c.order.dates (λ other there. inl there) c.order.invariant.following;
    }

pub returns-clause-inherited : goal.returns-clause-inherited
returns-clause-inherited c =
    let refs = c.args.refs.now in
    let own = c.args.entries.now in
    let at_end : c.order.index-index ≡ length c.args.order.now = omega arith in
    record {
      keys = c.order.invariant.turned.keys;
      inherits = solved_all no_entry (rule_by (texts_of_entries own)) (rows refs) c.args.order.now (texts_of_entries own)
          (texts_of_entries c.order.entries) c.requires.order
          (length-map own texts_of_entry ∙ c.requires.as_long ∙ sym (length-rows refs))
          (subst
          (λ n.
          IsSolvedTo no_entry (rule_by (texts_of_entries own)) (rows refs) c.args.order.now (texts_of_entries own) n
          (texts_of_entries c.order.entries)) at_end c.order.invariant.turned.solved);
      chunks = turned_chunks (rows refs) c.args.order.now own c.order.entries c.order.index-index c.order.invariant.turned;
    }
