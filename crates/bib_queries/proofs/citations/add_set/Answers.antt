use Rattle.std.proofs.Common.{◌≡◌, ◌∙◌, ◌∷◌, ◌||◌, [], List, ℕ, true, cond, sym, ap}
use Rattle.std.specs.Prelude.{bytes_eq, is_some}
use Rattle.std.specs.BTreeMap.{get_by_text}
use Rattle.std.specs.Option.{option_map, option_map_or}
use Rattle.std.specs.Str.{trim}
use Rattle.std.specs.String.{string_bytes}
use Rattle.std.proofs.lemmas.Map.Text.{btree_map_updates_text}
use Rattle.bib_queries.specs.Elements.{citekey_text, is_set, set_name, unescaped_text}
use Rattle.bib_queries.specs.Needed.{is_listed}
use Rattle.bib_queries.proofs.CitationFacts.{one_listed, some_of}
use Rattle.bib_queries.proofs.citations.add_set.Goals as goal

pub returns : goal.returns
returns c = λ key.
    let piece : List ℕ = c.args.piece.now in
    let text : List ℕ = c.in-Some.text.now in
    let set : is_set piece ≡ true = sym c.is_set.ensures ∙ c.if-not-is_set.false in
    let text_is = sym c.citekey_text.ensures ∙ ap (option_map (λ t. t.now)) c.in-Some.is in
    let name : string_bytes c.in_ok-from_str.field-0 ≡ trim (unescaped_text text) =
    c.in_ok-from_str.ensures.ok ∙ c.trim.ensures.trim ∙ ap trim (c.as_str.ensures.value ∙ c.in_ok-name.ensures) in
    let names : set_name piece ≡ string_bytes c.in_ok-from_str.field-0 ∷ [] =
    ap (λ b. cond b (option_map_or (λ t. trim (unescaped_text t) ∷ []) (citekey_text piece) []) []) set
    ∙ ap (λ o. option_map_or (λ t. trim (unescaped_text t) ∷ []) o []) text_is ∙ ap (λ n. n ∷ []) (sym name) in
    ap is_some
    (btree_map_updates_text (string_bytes c.in_ok-from_str.field-0) c.args.sets.now c.insert.new.self _
    c.in_ok-insert.ensures.updates key)
    ∙ some_of (bytes_eq (string_bytes c.in_ok-from_str.field-0) key) tt (get_by_text c.args.sets.now key)
    ∙ sym (one_listed (string_bytes c.in_ok-from_str.field-0) key (is_some (get_by_text c.args.sets.now key)))
    ∙ ap (λ l. is_listed l key || is_some (get_by_text c.args.sets.now key)) (sym names)
