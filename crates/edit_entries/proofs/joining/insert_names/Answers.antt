use Rattle.std.proofs.Common.{◌∙◌, ◌||◌, ℕ, List, true, [], cond, map, take, get_or, sym, ap, arith}
use Rattle.std.specs.Prelude.{bytes_eq}
use Rattle.std.specs.Borrow.{Bor}
use Rattle.std.specs.BTreeSet.{contains_text}
use Rattle.std.specs.Str.{str_to_ascii_lowercase}
use Rattle.std.specs.String.{string_bytes}
use Rattle.std.proofs.lemmas.Map.Text.{btree_set_updates_text}
use Rattle.bib_syntax.specs.Grammar.{is_word}
use Rattle.bib_queries.proofs.MarkFacts.{any_more}
use Rattle.edit_entries.specs.NameSets.{holds_name}
use Rattle.edit_entries.specs.NewNames.{has_word}
use Rattle.edit_entries.proofs.NameSetFacts.{or_after}
use Rattle.edit_entries.proofs.joining.insert_names.Goals as goal

pub names-preserved : goal.names-preserved
names-preserved c = λ name.
    let nobody : Bor (List ℕ) = record { ref_ptr = (0, 0); now = [] } in
    let own : List ℕ = (get_or c.args.names.now c.names.name-index nobody).now in
    let before = has_word (map (λ n. n.now) (take c.names.name-index c.args.names.now)) name in
    let first = holds_name (contains_text c.args.set.now) name in
    let low = string_bytes c.in_ok-to_ascii_lowercase.field-0 in
    btree_set_updates_text low c.names.set c.insert.new.self true c.in_ok-insert.ensures.updates
    (str_to_ascii_lowercase name)
    ∙ ap
    (λ l. cond (bytes_eq l (str_to_ascii_lowercase name)) true (holds_name (contains_text c.names.set) name))
    c.in_ok-to_ascii_lowercase.ensures.ok
    ∙ ap (cond (is_word own name) true) (c.names.invariant name)
    ∙ or_after (is_word own name) before first
    ∙ ap (λ b. b || first)
    (sym (any_more (λ n. n.now) (λ n. is_word n name) c.args.names.now c.names.name-index nobody (omega arith)))
