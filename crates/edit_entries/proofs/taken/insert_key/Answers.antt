use Rattle.std.proofs.Common.{◌∙◌, true, cond, ap}
use Rattle.std.specs.Prelude.{bytes_eq}
use Rattle.std.specs.BTreeSet.{contains_text}
use Rattle.std.specs.Str.{str_to_ascii_lowercase}
use Rattle.std.specs.String.{string_bytes}
use Rattle.std.proofs.lemmas.Map.Text.{btree_set_updates_text}
use Rattle.bib_text.proofs.BoolFacts.{or_cond}
use Rattle.bib_syntax.specs.Grammar.{is_word}
use Rattle.edit_entries.specs.NameSets.{holds_name}
use Rattle.edit_entries.proofs.taken.insert_key.Goals as goal

pub returns-clause-inserted : goal.returns-clause-inserted
returns-clause-inserted c = λ name.
    let low = string_bytes c.in_ok-to_ascii_lowercase.field-0 in
    let before = holds_name (contains_text c.args.set.now) name in
    btree_set_updates_text low c.args.set.now c.insert.new.self true c.in_ok-is_new.ensures.updates (str_to_ascii_lowercase name)
    ∙ ap (λ l. cond (bytes_eq l (str_to_ascii_lowercase name)) true before) c.in_ok-to_ascii_lowercase.ensures.ok
    ∙ or_cond (is_word c.args.key.now name) before
