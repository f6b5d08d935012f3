use Rattle.std.proofs.Common.{arith, ◌≡◌, ◌++◌, ◌∙◌, ap, string_bytes}
use Rattle.std.proofs.lemmas.Grind.{common_steps}
use Rattle.std.specs.FinMap.{entries}
use Rattle.std.specs.List.{flat_map}
use Rattle.bib_tables.specs.EntryType.{entry_type_name}
use Rattle.bib_tables.specs.Dialects.{kind_in}
use Rattle.bib_entry.specs.WrittenEntries.{written_field, entry_text}
use Rattle.bib_entry.proofs.DialectFacts.{entry_parts}
use Rattle.bib_entry.proofs.write.write_entry.Goals as goal

pub returns : goal.returns
returns c =
    let e = c.args.entry.now in
    let lines = flat_map (written_field c.args.dialect e.entry_type) (entries e.fields) in
    let written : string_bytes c.push.new.self ≡ string_bytes c.args.out.now
    ++ entry_text (entry_type_name (kind_in c.args.dialect e.entry_type)) e.key lines =
    grind (arith, common_steps) in
    written ∙ ap (λ text. string_bytes c.args.out.now ++ text) (entry_parts c.args.dialect e)
