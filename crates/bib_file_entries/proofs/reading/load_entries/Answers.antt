use Rattle.std.proofs.Common.{◌≡◌, [], ◌∷◌, ◌++◌, map, ap, sym, ◌∙◌, inl, inr, length, true, false, rules, is_some}
use Rattle.std.specs.FinMap.{get, insert}
use Rattle.std.specs.Vec.Iter.{into_iter_items}
use Rattle.std.proofs.lemmas.List.{nil_from_length}
use Rattle.std.proofs.lemmas.Result.{err_from_is_err_and}
use Rattle.bib_abbreviations.specs.Abbreviations.{given_by, sorted_in}
use Rattle.bib_abbreviations.proofs.AbbreviationFacts.{sorted_given}
use Rattle.bib_file_entries.specs.Bibliography.{aliases, claims}
use Rattle.bib_collections.specs.Names.{with_claims, claims_for}
use Rattle.bib_file_entries.proofs.LoadedFacts.{absent_by, had_by, loaded_none, loaded_next, loaded_all, error_duplicate, error_unreadable}
use Rattle.bib_file_entries.proofs.RawFacts.{entry_same, error_same}
use Rattle.bib_file_entries.proofs.reading.load_entries.Goals as goal

pub entries-init : goal.entries-init
entries-init c = record {
  can_next = tt;
  is_finite = tt;
  reader = c.new-reader.ensures;
  loaded = rw (c.into_iter-said-iterator.ensures.into_iter_gives.0, c.in_ok-entries.ensures.items, c.new-names.ensures) (loaded_none _ _);
}

pub returns-then-not-branch-clause-refused : goal.returns-then-not-branch-clause-refused
returns-then-not-branch-clause-refused c =
    let had : is_some (get c.entries.names c.in-Some.said.v.key.v.now) ≡ true =
    ap (λ k. is_some (get c.entries.names k)) (sym c.in_ok-key.ensures)
    ∙ had_by _ _ c.in_ok-claim_new.ensures.new c.if-not-branch.true in
    inr
    (error_duplicate c.in_ok-duplicate.field-0 (rw c.in-Some.ensures.steps.0 at c.entries.invariant.loaded) had
    c.in_ok-duplicate.ensures)

pub returns-in_err-entry-clause-refused : goal.returns-in_err-entry-clause-refused
returns-in_err-entry-clause-refused c =
    let same : given_by c.entries.reader ≡ sorted_in c.args.definitions =
    ap given_by c.entries.invariant.reader ∙ sym (sorted_given c.args.definitions) in
    let absent : is_some (get c.entries.names c.in-Some.said.v.key.v.now) ≡ false =
    ap (λ k. is_some (get c.entries.names k)) (sym c.in_ok-key.ensures)
    ∙ absent_by _ _ c.in_ok-claim_new.ensures.new c.if-not-branch.false in
    let p = err_from_is_err_and c.from_residual-in_err-entry.result c.from_residual-in_err-entry.ensures.1 in
    rw (p.1, p.2) (elim c.in_err-entry.ensures.refused [
      | inl memory ↦ inl memory
      | inr error ↦ inr
          (error_unreadable _ (rw c.in-Some.ensures.steps.0 at c.entries.invariant.loaded) absent
          (error_same (rw same at error)))
    ])

pub entries-preserved : goal.entries-preserved
entries-preserved c =
    let same : given_by c.entries.reader ≡ sorted_in c.args.definitions =
    ap given_by c.entries.invariant.reader ∙ sym (sorted_given c.args.definitions) in
    let absent : is_some (get c.entries.names c.in-Some.said.v.key.v.now) ≡ false =
    ap (λ k. is_some (get c.entries.names k)) (sym c.in_ok-key.ensures)
    ∙ absent_by _ _ c.in_ok-claim_new.ensures.new c.if-not-branch.false in
    let names = c.entries.names in
    let entry = c.in_ok-entry.entry in
    let index = length c.entries.entries.items in
    let before : c.len-in-entries.result ≡ index = search rules in
    let after : c.len-in-entries-2.result ≡ index = search rules in
    let key : c.claim_new.new.self ≡ insert names entry.key index =
    c.in_ok-claim_new.ensures.claimed ∙ ap (λ n. insert names c.in_ok-key.key n) before
    ∙ ap (λ k. insert names k index) (c.in_ok-key.ensures ∙ sym c.in_ok-entry.ensures.read.key)
    in
    let more : c.claim_all.new.self ≡ with_claims names (claims_for (claims entry) index) =
    c.in_ok-claim_all.ensures.claimed ∙ ap (λ n. with_claims c.claim_new.new.self (claims_for c.in_ok-aliases.field-0.items n)) after
    ∙ ap (λ l. with_claims c.claim_new.new.self (claims_for l index)) c.in_ok-aliases.ensures
    ∙ ap (λ m. with_claims m (claims_for (aliases entry) index)) key
    in
    record {
      can_next = tt;
      is_finite = tt;
      reader = c.in_ok-entry.ensures.same ∙ c.entries.invariant.reader;
      loaded =
          rw (c.in_ok-push.ensures.items, more)
          (loaded_next c.in_ok-entry.entry (rw c.in-Some.ensures.steps.0 at c.entries.invariant.loaded) absent
          (entry_same (rw same at c.in_ok-entry.ensures.read)));
    }

pub returns-clause-loaded : goal.returns-clause-loaded
returns-clause-loaded c =
    let none : into_iter_items c.entries.said-iterator ≡ [] =
    nil_from_length _ (sym c.entries.said-iterator.rest.ok.0 ∙ c.in-None.ensures.steps.0) in
    let all = rw (none, sym c.in_ok-into_names.ensures) at c.entries.invariant.loaded in
    record { read = loaded_all all; bibliography = all.bibliography }
