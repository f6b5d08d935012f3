use Rattle.std.proofs.Common.{◌≡◌, ◌++◌, ◌∷◌, [], ℕ, ◌+◌, ◌<◌, List, drop, get_or, length, map, sym, ap, ◌∙◌, take, append_assoc}
use Rattle.std.specs.Borrow.{Bor}
use Rattle.std.specs.List.{filter, flat_map}
use Rattle.std.specs.String.{string_bytes}
use Rattle.std.proofs.lemmas.Grind.{flat_map-append}
use Rattle.std.proofs.lemmas.List.{drop_more, map-append, take_more}
use Rattle.bib_syntax.specs.Reading.{FieldReading}
use Rattle.bib_syntax.specs.Views.{field_of}
use Rattle.edit_format.specs.Formatted.{field_laid_out}
use Rattle.edit_format.specs.Ordered.{in_order}
use Rattle.edit_format.specs.Unlisted.{has_name_first, name_texts, unlisted}
use Rattle.edit_format.proofs.OrderFacts.{none_listed, one_name}
use Rattle.edit_format.proofs.order.push_fields.Goals as goal

-- after the fields of one more name are written, the text so far and that of the remaining fields are the text of all fields
written_more : (write : FieldReading → List ℕ) (old new all : List ℕ) (order : List (Bor (List ℕ))) (i : ℕ)
    (d : Bor (List ℕ)) (fs : List FieldReading) → i < length order
    → new ≡ old ++ flat_map write (filter (has_name_first (name_texts (take i order)) (get_or order i d).now) fs)
    → old ++ flat_map write (in_order (name_texts (drop i order)) (unlisted (name_texts (take i order)) fs)) ≡ all
    → new ++ flat_map write (in_order (name_texts (drop (i + 1) order)) (unlisted (name_texts (take (i + 1) order)) fs)) ≡ all
written_more write old new all order i d fs below pushed left =
    let before = name_texts (take i order) in
    let name = (get_or order i d).now in
    let others = name_texts (drop (i + 1) order) in
    let firsts = filter (has_name_first before name) fs in
    let taken : name_texts (take (i + 1) order) ≡ before ++ name ∷ [] =
    ap name_texts (take_more order i d below)
    ∙ map-append (λ (n : Bor (List ℕ)). n.now) (take i order) (get_or order i d ∷ []) in
    let rest = in_order others (unlisted (before ++ name ∷ []) fs) in
    ap (λ t. new ++ flat_map write (in_order others (unlisted t fs))) taken
    ∙ ap (λ t. t ++ flat_map write rest) pushed ∙ append_assoc old (flat_map write firsts) (flat_map write rest)
    ∙ ap (λ t. old ++ t) (sym (flat_map-append write firsts rest) ∙ ap (flat_map write) (sym (one_name before name others fs)))
    ∙ ap (λ ns. old ++ flat_map write (in_order ns (unlisted before fs))) (sym (ap name_texts (drop_more order i d below))) ∙ left

pub names-init : goal.names-init
names-init c =
    let write =
    field_laid_out c.args.layout.now.line_end.now c.args.layout.now.style c.args.layout.now.text.now
    c.padded_width-width.result in
    ap
    (λ fs.
    string_bytes c.args.new.now ++ flat_map write (in_order (name_texts c.args.layout.now.style.order.now) fs))
    (none_listed (map field_of c.args.fields.now))

pub names-preserved : goal.names-preserved
names-preserved c =
    let write =
    field_laid_out c.args.layout.now.line_end.now c.args.layout.now.style c.args.layout.now.text.now
    c.padded_width-width.result in
    written_more write (string_bytes c.names.new) (string_bytes c.push_named.new.new) _
    c.args.layout.now.style.order.now c.names.index _ (map field_of c.args.fields.now) c.names-test.true
    c.in_ok-push_named.ensures c.names.invariant
