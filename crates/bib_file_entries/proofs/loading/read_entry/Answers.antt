use Rattle.std.proofs.Common.{◌≡◌, subst, sym, take, ◌∙◌}
use Rattle.std.specs.FinMap as by_name
use Rattle.std.specs.List.{AllZip}
use Rattle.std.proofs.lemmas.List.{take_all}
use Rattle.std.proofs.lemmas.Result.{err_from_is_err_and}
use Rattle.bib_abbreviations.specs.Abbreviations.{given_by}
use Rattle.bib_file_entries.proofs.LoadingFacts.{IsFound, are_readable, found_last, read_more, refused_at}
use Rattle.bib_file_entries.specs.Loading.{IsRead, last_field}
use Rattle.bib_file_entries.proofs.loading.read_entry.Goals as goal

pub fields-preserved : goal.fields-preserved
fields-preserved c = record {
  fields = c.fields.invariant.fields;
  same = c.in_ok-read_field.ensures.same ∙ c.fields.invariant.same;
  read =
      read_more _ c.deref-field-items.result.now c.fields.field-index c.field-item.result c.fields.pairs.items
      c.push.new.self.items c.in_ok-read_field.field-0 c.fields-test.true c.field-item.is c.fields.invariant.read
      (record {
        name = c.in_ok-read_field.ensures.name;
        value = rw c.fields.invariant.same at c.in_ok-read_field.ensures.value;
        readable = rw c.fields.invariant.same at c.in_ok-read_field.ensures.readable;
      }) c.in_ok-push.ensures.items;
}

pub returns-in_err-read_field-clause-refused : goal.returns-in_err-read_field-clause-refused
returns-in_err-read_field-clause-refused c =
    let p = err_from_is_err_and c.from_residual-in_err-read_field.result c.from_residual-in_err-read_field.ensures.1 in
    rw (p.1, p.2, ← c.fields.invariant.fields)
    (refused_at _ c.deref-field-items.result.now c.fields.field-index c.field-item.result c.fields.pairs.items
    c.in_err-read_field.field-0.0 c.fields-test.true c.field-item.is c.fields.invariant.read
    (rw c.fields.invariant.same at c.in_err-read_field.ensures.refused))

pub returns-clause-read : goal.returns-clause-read
returns-clause-read c =
    let definitions = given_by c.args.reader.now in
    let whole : take c.fields.field-index c.deref-field-items.result.now ≡ c.args.raw.now.fields.items =
    take_all c.fields.field-index c.deref-field-items.result.now c.fields-test.false ∙ c.fields.invariant.fields in
    let read : AllZip (IsRead definitions) c.args.raw.now.fields.items c.fields.pairs.items =
    subst (λ l. AllZip (IsRead definitions) l c.fields.pairs.items) whole c.fields.invariant.read in
    record {
      key = c.in_ok-entry_with.ensures.key;
      kind = c.in_ok-entry_with.ensures.kind;
      fields = λ name.
          subst (λ m. IsFound definitions name (last_field c.args.raw.now.fields.items name) (by_name.get m name))
          (sym c.in_ok-entry_with.ensures.fields) (found_last definitions name _ _ read);
      readable = are_readable definitions _ _ read;
    }
