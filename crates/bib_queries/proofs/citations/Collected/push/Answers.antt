use Rattle.std.proofs.Common.{◌≡◌, ◌∙◌, ◌++◌, ◌∷◌, [], Bool, true, cond, sym, ap}
use Rattle.std.specs.Prelude.{bytes_eq, is_some}
use Rattle.std.specs.String.{string_bytes}
use Rattle.std.specs.List.{list_any}
use Rattle.std.specs.BTreeMap.{get_by_text}
use Rattle.std.proofs.lemmas.Map.Text.{btree_map_updates_text}
use Rattle.bib_queries.specs.declared.citations.Citation.{Citation}
use Rattle.bib_queries.proofs.MarkFacts.{any_push}
use Rattle.bib_queries.proofs.CitationFacts.{some_of}
use Rattle.bib_queries.proofs.citations.Collected.push.Goals as goal

pub returns-clause-seen : goal.returns-clause-seen
returns-clause-seen c = λ key.
    let old = c.args.self.now in
    let one : Citation = record { key = c.args.key.now; at = c.args.at } in
    let has : Citation → Bool = λ k. bytes_eq k.key key in
    let items : c.push.new.self.items ≡ old.keys.items ++ one ∷ [] =
    c.in_ok-push.ensures.items
    ∙ ap (λ k. old.keys.items ++ record { key = k; at = c.args.at } ∷ []) c.in_ok-key.ensures in
    let name : string_bytes c.in_ok-from_str.field-0 ≡ c.args.key.now = c.in_ok-from_str.ensures.ok in
    ap is_some
    (btree_map_updates_text (string_bytes c.in_ok-from_str.field-0) old.seen c.insert.new.self _
    c.in_ok-insert.ensures.updates key)
    ∙ some_of (bytes_eq (string_bytes c.in_ok-from_str.field-0) key) tt (get_by_text old.seen key)
    ∙ ap (λ b. cond (bytes_eq b key) true (is_some (get_by_text old.seen key))) name
    ∙ ap (cond (bytes_eq c.args.key.now key) true) (c.requires key)
    ∙ sym (any_push has old.keys.items one) ∙ sym (ap (list_any has) items)
