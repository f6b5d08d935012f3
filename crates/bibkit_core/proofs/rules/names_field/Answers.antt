use Rattle.std.proofs.Common.{rules, tests, ◌∙◌}
use Rattle.std.proofs.lemmas.Iterator.Search.{any_from_yields_List}
use Rattle.std.proofs.lemmas.Iterator.Splits.{YieldsList-from_slice_split}
use Rattle.bibkit_core.specs.Rules.{after_key, is_field_name, ends_word}
use Rattle.bibkit_core.proofs.rules.names_field.Goals as goal

pub returns : goal.returns
returns c =
    any_from_yields_List (is_field_name c.args.field.now) _ _ _ c.any.ensures.ran
    (YieldsList-from_slice_split _ ends_word (after_key c.args.message.now)
    (c.split-words.ensures.rest ∙ c.as_bytes.ensures.value ∙ c.after_key.ensures) c.split-words.ensures.done c.split-words.ensures.closure
    (λ x b q k. search (rules, tests)))
    (λ x b q k. search (rules, tests))
