use Rattle.std.proofs.Common.{◌≡◌, ◌+◌, ◌<◌, ℕ, List, [], ◌++◌, ◌∷◌, cond, get_or, length, take, sym, ap, ◌∙◌, arith}
use Rattle.std.specs.Prelude.{is_some}
use Rattle.std.specs.Borrow.{Bor}
use Rattle.std.specs.String.{string_bytes}
use Rattle.std.proofs.lemmas.List.{get_or_default}
use Rattle.edit_strings.specs.Collected.{string_line, definition_lines, known_name}
use Rattle.edit_strings.specs.Collecting.{known_in, string_texts}
use Rattle.edit_strings.specs.Views.{lent_texts}
use Rattle.edit_strings.proofs.TextFacts.{lines_push, one_more, size_so_far}
use Rattle.edit_strings.proofs.collecting.definitions.Goals as goal

pub names-preserved : goal.names-preserved
names-preserved c = λ says known.
    let i = c.names.index in
    let line_end = c.args.line_end.now in
    let nobody : Bor (List ℕ) = record { ref_ptr = (0, 0); now = [] } in
    let x : Bor (List ℕ) = get_or c.args.texts.now i nobody in
    let name = c.index-names-index.result in
    let within : i < length c.args.texts.now = omega (arith, c.names-test.true, c.requires) in
    let is = get_or_default c.args.texts.now i nobody x within in
    let names : List (List ℕ) = string_texts (take i c.args.names.now) in
    let texts : List (List ℕ) = lent_texts (take i c.args.texts.now) in
    let size : length names ≡ length texts =
    size_so_far string_bytes c.args.names.now i name c.names-test.true c.index-names-index.is
    ∙ sym (size_so_far (λ t. t.now) c.args.texts.now i x within is) in
    c.in_ok-push_definition.ensures
    ∙ ap (λ l. l ++ cond (is_some (known_in c.args.known.now x.now)) [] (string_line line_end c.as_str.result.now x.now))
    (c.names.invariant says known)
    ∙ ap (λ o. definition_lines says line_end names texts ++ cond (is_some o) [] (string_line line_end c.as_str.result.now x.now))
    (known x.now)
    ∙ ap (λ n. definition_lines says line_end names texts ++ cond (is_some (known_name says x.now)) [] (string_line line_end n x.now))
    c.as_str.ensures.value
    ∙ sym (lines_push says line_end names texts (string_bytes name) x.now size)
    ∙ ap (λ ns. definition_lines says line_end ns (texts ++ x.now ∷ []))
    (sym (one_more string_bytes c.args.names.now i name c.names-test.true c.index-names-index.is))
    ∙ ap (definition_lines says line_end (string_texts (take (i + 1) c.args.names.now)))
    (sym (one_more (λ t. t.now) c.args.texts.now i x within is))
