use Rattle.std.proofs.Common.{◌≡◌, ap, sym, ◌∙◌, length, map, true, false, rules, is_some}
use Rattle.std.specs.FinMap.{get}
use Rattle.std.proofs.lemmas.List.{drop_all}
use Rattle.bib_abbreviations.specs.Abbreviations.{given_by, sorted_in}
use Rattle.bib_abbreviations.proofs.AbbreviationFacts.{sorted_given}
use Rattle.bib_file_entries.specs.Bibliography.{claims}
use Rattle.bib_collections.specs.Names.{with_claims, claims_for}
use Rattle.bib_syntax.specs.Views.{entry_reading_of}
use Rattle.bib_text.proofs.ListFacts.{drop_is}
use Rattle.bib_file_entries.proofs.KeepingFacts.{entries_none, entries_duplicate, entries_next, entries_all}
use Rattle.bib_file_entries.proofs.keeping.keep_entries.Goals as goal

pub entries-init : goal.entries-init
entries-init c = record {
  reader = c.new-reader.ensures;
  kept =
      rw (
        c.in_ok-entries.ensures.items,
        c.in_ok-spans.ensures.items,
        c.in_ok-origins.ensures.items,
        c.new-names.ensures,
        c.new-errors.ensures.items,
      ) (entries_none _ _);
}

pub entries-preserved-then-is_some : goal.entries-preserved-then-is_some
entries-preserved-then-is_some c =
    let here =
    ap (map entry_reading_of)
    (drop_is c.args.raw.now c.entries.said-index c.said-item.result c.entries-test.true c.said-item.is) in
    let had : is_some (get c.entries.names c.said-item.result.v.key.v.now) ≡ true =
    ap is_some (sym c.get.ensures) ∙ sym c.is_some.ensures ∙ c.if-is_some.true in
    record {
      reader = c.entries.invariant.reader;
      kept =
          rw c.in_ok-push.ensures.items
          (entries_duplicate c.in_ok-duplicate.field-0 (rw here at c.entries.invariant.kept) had
          c.in_ok-duplicate.ensures);
    }

pub entries-preserved : goal.entries-preserved
entries-preserved c =
    let here =
    ap (map entry_reading_of)
    (drop_is c.args.raw.now c.entries.said-index c.said-item.result c.entries-test.true c.said-item.is) in
    let same : given_by c.entries.reader ≡ sorted_in c.args.definitions =
    ap given_by c.entries.invariant.reader ∙ sym (sorted_given c.args.definitions) in
    let absent : is_some (get c.entries.names c.said-item.result.v.key.v.now) ≡ false =
    ap is_some (sym c.get.ensures) ∙ sym c.is_some.ensures ∙ c.if-is_some.false in
    let count : c.len.result ≡ length c.entries.entries.items = search rules in
    let more : c.claim_all.new.self
    ≡ with_claims c.entries.names (claims_for (claims c.in_ok-entry.entry) (length c.entries.entries.items)) =
    c.in_ok-claim_all.ensures.claimed
    ∙ ap (λ n. with_claims c.entries.names (claims_for c.in_ok-claims.field-0.items n)) count
    ∙ ap (λ l. with_claims c.entries.names (claims_for l (length c.entries.entries.items))) c.in_ok-claims.ensures in
    record {
      reader = c.in_ok-entry.ensures.same ∙ c.entries.invariant.reader;
      kept =
          rw (c.in_ok-push-4.ensures.items, more, c.in_ok-push-2.ensures.items, c.in_ok-push-3.ensures.items)
          (entries_next c.in_ok-entry.entry (rw here at c.entries.invariant.kept) absent
          (rw same at c.in_ok-entry.ensures.kept));
    }

pub returns-clause-kept : goal.returns-clause-kept
returns-clause-kept c =
    let none = ap (map entry_reading_of) (drop_all c.entries.said-index c.args.raw.now c.entries-test.false) in
    entries_all (rw (none, sym c.in_ok-names.ensures) at c.entries.invariant.kept)

pub returns-clause-below : goal.returns-clause-below
returns-clause-below c = (rw (sym c.in_ok-names.ensures) at c.entries.invariant.kept).below
