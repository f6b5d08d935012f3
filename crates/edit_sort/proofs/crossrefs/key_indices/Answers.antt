use Rattle.std.proofs.Common.{◌≡◌, ◌+◌, ◌++◌, [], ◌∷◌, Some, cond, is_some, map, option_map, slice_get, take, sym, ap, ◌∙◌, subst, arith, refl}
use Rattle.std.specs.FinMap.{get, insert}
use Rattle.std.proofs.lemmas.List.{length-map, take-map, take_all}
use Rattle.std.proofs.lemmas.List.Elements.{All-nil}
use Rattle.std.proofs.lemmas.Option.{slice_get-map, slice_get_read}
use Rattle.bib_text.proofs.ListFacts.{mapped_more}
use Rattle.bib_syntax.specs.Views.{entry_reading_of}
use Rattle.edit_sort.specs.Ranks.{HaveIndices}
use Rattle.edit_sort.proofs.RankFacts.{AreFirstKeys, HasIndex, first_none, indices_none, keys_more}
use Rattle.edit_sort.proofs.crossrefs.key_indices.Goals as goal

pub entries-init : goal.entries-init
entries-init c = record {
  of_key = indices_none (map entry_reading_of c.args.entries.now) c.new-names.result c.new-names.ensures;
  first = first_none (map entry_reading_of c.args.entries.now) c.new-names.result c.new-names.ensures;
  each = All-nil (HasIndex c.new-names.result);
}

pub entries-preserved : goal.entries-preserved
entries-preserved c =
    let entries = c.args.entries.now in
    let all = map entry_reading_of entries in
    let index = c.entries.index in
    let e = entry_reading_of c.index-entries-index.result in
    let here : slice_get all index ≡ Some e =
    slice_get-map entry_reading_of entries index
    ∙ ap (option_map entry_reading_of)
    (slice_get_read entries _ index c.index-entries-index.result refl c.entries-test.true c.index-entries-index.is) in
    let is =
    c.in_ok-claim_first.ensures
    ∙ ap (λ k. cond (is_some (get c.entries.names k)) c.entries.names (insert c.entries.names k index)) c.in_ok-key.ensures in
    subst (AreFirstKeys all c.claim_first.new.names)
    (sym
    (take-map entry_reading_of (index + 1) entries
    ∙ mapped_more entry_reading_of entries index c.index-entries-index.result c.entries-test.true c.index-entries-index.is
    ∙ ap (λ l. l ++ e ∷ []) (sym (take-map entry_reading_of index entries))))
    (keys_more all c.entries.names c.claim_first.new.names e index here is c.entries.invariant)

pub returns : goal.returns
returns c =
    let all = map entry_reading_of c.args.entries.now in
    let whole : take c.entries.index all ≡ all =
    take_all c.entries.index all (omega (arith, length-map c.args.entries.now entry_reading_of)) in
    record {
      of_key = c.entries.invariant.of_key;
      first = c.entries.invariant.first;
      each = subst (HaveIndices c.entries.names) whole c.entries.invariant.each;
    }
