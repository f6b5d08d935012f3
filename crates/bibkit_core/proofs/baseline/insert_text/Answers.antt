use Rattle.std.proofs.Common.{◌∙◌, ◌||◌, ℕ, List, true, cond, sym, ap}
use Rattle.std.specs.Borrow.{Bor}
use Rattle.std.specs.BTreeSet.{contains_text}
use Rattle.std.specs.Option.{option_map}
use Rattle.std.specs.Prelude.{bytes_eq, option_to_list}
use Rattle.std.specs.String.{string_bytes}
use Rattle.std.proofs.lemmas.Map.Text.{btree_set_updates_text}
use Rattle.bib_queries.specs.Needed.{is_listed}
use Rattle.bib_queries.proofs.CitationFacts.{one_listed}
use Rattle.bibkit_core.proofs.baseline.insert_text.Goals as goal

pub returns-in_ok-insert : goal.returns-in_ok-insert
returns-in_ok-insert c = λ text.
    let old = contains_text c.args.texts.now text in
    btree_set_updates_text (string_bytes c.in_ok-from_str.field-0) c.args.texts.now c.insert.new.self true
    c.in_ok-insert.ensures.updates text
    ∙ ap (λ l. cond (bytes_eq l text) true old) c.in_ok-from_str.ensures.ok
    ∙ sym (one_listed c.in-Some.text.now text old)
    ∙ ap (λ l. is_listed (option_to_list l) text || old)
    (sym (ap (option_map (λ (t : Bor (List ℕ)). t.now)) c.in-Some.is) ∙ c.text_after.ensures)
