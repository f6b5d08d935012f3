use Rattle.std.proofs.Common.{◌≡◌, ◌∙◌, ℕ, List, Some, map, sym, arith}
use Rattle.std.proofs.lemmas.List.{length-map}
use Rattle.bib_syntax.specs.Views.{entry_reading_of}
use Rattle.edit_entries.specs.NewKeys.{key_for}
use Rattle.edit_entries.specs.References.{MayGetKey}
use Rattle.edit_entries.proofs.KeyFacts.{on_no, on_yes}
use Rattle.edit_entries.proofs.PositionFacts.{slice_get-map}
use Rattle.edit_entries.proofs.TakenFacts.{each_more, within_of}
use Rattle.edit_entries.proofs.keys.may_get_keys.Goals as goal

pub returns-then-not-may : goal.returns-then-not-may
returns-then-not-may c =
    let found = on_no _ _ c.may_get_key-may.result c.if-not-may.true c.may_get_key-may.ensures in
    record {
      index = c.entries.index;
      entry = entry_reading_of c.index-entries-index.result;
      new = found.0;
      here = slice_get-map entry_reading_of c.args.entries.now c.entries.index c.index-entries-index.result
          c.entries-test.true c.index-entries-index.is;
      gets = sym c.at.ensures ∙ found.1;
      cant = found.2;
    }

pub entries-preserved : goal.entries-preserved
entries-preserved c =
    let known = on_yes _ _ c.may_get_key-may.result c.if-not-may.false c.may_get_key-may.ensures in
    each_more (λ k e. (new : List ℕ) → key_for c.args.keys.now k ≡ Some new → MayGetKey e new) entry_reading_of
    c.args.entries.now c.entries.index c.index-entries-index.result c.entries-test.true c.index-entries-index.is
    c.entries.invariant (λ new gets. known new (c.at.ensures ∙ gets))

pub returns : goal.returns
returns c = λ k e new here gets.
    c.entries.invariant k e
    (omega (arith, within_of (map entry_reading_of c.args.entries.now) k e here, length-map c.args.entries.now entry_reading_of))
    here new gets
