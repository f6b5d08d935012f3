use Rattle.std.proofs.Common.{◌≡◌, ◌<◌, get_or, length, map, sym, ap, ◌∙◌, subst, arith}
use Rattle.std.specs.Prelude.{◌&&◌, ◌||◌}
use Rattle.std.specs.List.{list_any}
use Rattle.std.proofs.lemmas.List.{get_or-map, length-map, take_all}
use Rattle.bib_collections.specs.Graph.{refs_of}
use Rattle.bib_collections.specs.Names.{AreIndicesBelow}
use Rattle.bib_collections.specs.Rows.{rows}
use Rattle.bib_syntax.specs.Reading.{EntryReading}
use Rattle.bib_syntax.specs.Views.{entry_reading_of, field_of}
use Rattle.edit_sort.specs.Ranks.{AreChildren, names_index, owner}
use Rattle.edit_sort.proofs.SetFacts.{any_more}
use Rattle.edit_sort.proofs.crossrefs.children_of.Goals as goal

pub entries-init : goal.entries-init
entries-init c = record {
  same_length = c.in_ok-children.ensures.length;
  children = λ test index. ap (list_any test) (c.in_ok-children.ensures.rows index);
}

pub bounds-owners-index : goal.bounds-owners-index
bounds-owners-index c =
    omega (
      arith,
      ap length c.requires.owners,
      length-map (map entry_reading_of c.args.entries.now) (owner c.args.names.now),
      length-map c.args.entries.now entry_reading_of,
      c.entries-test.true,
    )

pub add_references-requires : goal.add_references-requires
add_references-requires c = record {
  below = subst (λ n. AreIndicesBelow n c.args.names.now) (sym c.entries.invariant.same_length) c.requires.below;
}

pub entries-preserved : goal.entries-preserved
entries-preserved c =
    let names = c.args.names.now in
    let entries = c.args.entries.now in
    let all = map entry_reading_of entries in
    let index = c.entries.index in
    let e = entry_reading_of c.index-entries-index.result in
    let within : index < length entries = c.entries-test.true in
    let own : get_or c.args.owners.now index 0 ≡ owner names e =
    ap (λ l. get_or l index 0) c.requires.owners
    ∙ get_or-map (owner names) all index e 0 (omega (arith, length-map entries entry_reading_of))
    ∙ ap (owner names)
    (get_or-map entry_reading_of entries index c.index-entries-index.result e within
    ∙ ap entry_reading_of (sym c.index-entries-index.is)) in
    record {
      same_length = c.in_ok-add_references.ensures.length ∙ c.entries.invariant.same_length;
      children = λ test at.
          let old = list_any test (refs_of (rows c.entries.children.items) at) in
          let p = λ (x : EntryReading). list_any (names_index names at) x.fields && test (owner names x) in
          c.in_ok-add_references.ensures.rows test at
          ∙ ap (λ l. old || (list_any (names_index names at) (map field_of l) && test (get_or c.args.owners.now index 0)))
          c.deref.ensures.value
          ∙ ap (λ n. old || (list_any (names_index names at) e.fields && test n)) own
          ∙ ap (λ b. b || p e) (c.entries.invariant.children test at)
          ∙ sym (any_more p entry_reading_of entries index c.index-entries-index.result within c.index-entries-index.is);
    }

pub returns-clause-rows : goal.returns-clause-rows
returns-clause-rows c =
    subst (λ l. AreChildren c.args.names.now (map entry_reading_of l) (rows c.entries.children.items))
    (take_all c.entries.index c.args.entries.now (omega arith)) c.entries.invariant.children
