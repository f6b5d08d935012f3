use Rattle.std.proofs.Common.{ap, ◌∙◌}
use Rattle.std.specs.Prelude.{string_bytes}
use Rattle.std.specs.BTreeMap.{get_by_text}
use Rattle.std.specs.Option.{unwrap_or}
use Rattle.std.specs.Str.{str_to_ascii_lowercase}
use Rattle.bib_keys.proofs.KeyFacts.{gets_key, taken_before}
use Rattle.bib_keys.proofs.keys.take_key.Goals as goal

pub first_free-requires : goal.first_free-requires
first_free-requires c =
    let lowercase = c.as_str.ensures.value ∙ c.in_ok-lowercase.ensures.ok ∙ ap str_to_ascii_lowercase c.deref.ensures in
    taken_before (get_by_text c.args.taken.now) (string_bytes c.args.text.now) c.unwrap_or-start.result c.requires
    (c.unwrap_or-start.ensures
    ∙ ap (λ o. unwrap_or o 0) (c.copied.ensures ∙ c.get.ensures.value ∙ ap (get_by_text c.args.taken.now) lowercase))

pub returns : goal.returns
returns c =
    gets_key (get_by_text c.args.taken.now) (get_by_text c.set.new.taken) (get_by_text c.set-2.new.taken) (string_bytes c.args.text.now)
    (string_bytes c.in_ok-number.key) (string_bytes c.in_ok-lowercase.lowercase) (string_bytes c.in_ok-to_ascii_lowercase.field-0)
    c.in_ok-number.number c.requires (c.in_ok-lowercase.ensures.ok ∙ ap str_to_ascii_lowercase c.deref.ensures)
    (c.in_ok-to_ascii_lowercase.ensures.ok ∙ ap str_to_ascii_lowercase c.deref-2.ensures) c.in_ok-number.ensures.free
    c.in_ok-set.ensures c.in_ok-set-2.ensures
