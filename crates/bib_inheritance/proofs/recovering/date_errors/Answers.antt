use Rattle.std.proofs.Common.{◌≡◌, ◌<◌, ◌∙◌, ℕ, List, false, true, length, ap, arith, sym, subst}
use Rattle.std.specs.Prelude.{MatchOption}
use Rattle.std.specs.List.{All, list_any}
use Rattle.bib_collections.specs.Graph.{Graph, refs_of}
use Rattle.bib_collections.specs.Rows.{rows}
use Rattle.bib_collections.proofs.Rows.{row_at, row_in}
use Rattle.bib_inheritance.specs.EntryTexts.{EntryTexts}
use Rattle.bib_inheritance.specs.Cutting.{IsUnreadError}
use Rattle.bib_inheritance.specs.Recovered.{EachReported, none}
use Rattle.bib_inheritance.specs.Resolving.{is_bad_date, texts_of_entries}
use Rattle.bib_inheritance.specs.Turning.{IsUnreadDate, is_unread_at}
use Rattle.bib_inheritance.proofs.DateErrors.{finds_none, finds_one, looks_for_none}
use Rattle.bib_inheritance.proofs.recovering.date_errors.Goals as goal
use Rattle.bib_inheritance.proofs.recovering.date_errors.Goals.{in-Some+in_ok-push, in_default}

pub entries-init : goal.entries-init
entries-init c = record {
  reported = rw c.new-errors.ensures.items none;
  dates = c.requires.dates;
}

pub first_unread-requires-clause-indices : goal.first_unread-requires-clause-indices
first_unread-requires-clause-indices c =
    subst (λ n. All (λ r. r < n) c.deref.result.now) (sym c.requires.as_long)
    (subst (λ l. All (λ r. r < length c.args.refs.now) l) (sym c.deref.ensures.value)
    (row_in c.args.refs.now c.entries.index c.index-refs-index.result c.requires.in_range c.entries-test.true
    c.index-refs-index.is))

pub entries-preserved-then-not-looks-index : goal.entries-preserved-then-not-looks-index
entries-preserved-then-not-looks-index c = record {
  reported =
      looks_for_none c.args.looks.now (rows c.args.refs.now) c.args.entries.now c.entries.index c.entries.errors.items
      c.if-not-looks-index.true c.entries.invariant.reported;
  dates = c.entries.invariant.dates;
}

pub entries-preserved : goal.entries-preserved
entries-preserved c =
    let graph : Graph = rows c.args.refs.now in
    let values : List EntryTexts = texts_of_entries c.args.entries.now in
    let index : ℕ = c.entries.index in
    let row : c.deref.result.now ≡ refs_of graph index =
    c.deref.ensures.value
    ∙ sym (row_at c.args.refs.now index c.index-refs-index.result c.entries-test.true c.index-refs-index.is) in
    record {
      reported = elim c.match-branch-2.branch [
        | in-Some+in_ok-push w ↦
            let found : IsUnreadDate c.args.entries.now c.deref.result.now w.in-Some.error =
            subst
            (λ o.
            MatchOption o (list_any (is_bad_date values) c.deref.result.now ≡ false)
            (IsUnreadDate c.args.entries.now c.deref.result.now)) w.in-Some.is c.in_ok-error.ensures.unread
            in
            rw (ap (λ v. v.items) w.errors-is ∙ w.in_ok-push.ensures.items)
            (finds_one c.args.looks.now graph c.args.entries.now index c.entries.errors.items w.in-Some.error
            w.resolution_error.result c.if-not-looks-index.false
            (subst (λ l. IsUnreadDate c.args.entries.now l w.in-Some.error) row found) w.resolution_error.ensures
            c.entries.invariant.reported)
        | in_default w ↦
            let found : list_any (is_bad_date values) c.deref.result.now ≡ false =
            subst
            (λ o.
            MatchOption o (list_any (is_bad_date values) c.deref.result.now ≡ false)
            (IsUnreadDate c.args.entries.now c.deref.result.now)) w.in_default.is
            c.in_ok-error.ensures.unread in
            rw (ap (λ v. v.items) w.errors-is)
            (finds_none c.args.looks.now graph c.args.entries.now index c.entries.errors.items
            (subst (λ l. list_any (is_bad_date values) l ≡ false) row found) c.entries.invariant.reported)
      ];
      dates = c.in_ok-error.ensures.dates;
    }

pub returns : goal.returns
returns c =
    let at_end : c.entries.index ≡ length c.args.refs.now = omega arith in
    subst
    (λ n.
    EachReported
    (λ index.
    is_unread_at c.args.looks.now (rows c.args.refs.now) (texts_of_entries c.args.entries.now) index
    ≡ true) (IsUnreadError (rows c.args.refs.now) c.args.entries.now) n c.entries.errors.items)
    at_end c.entries.invariant.reported
