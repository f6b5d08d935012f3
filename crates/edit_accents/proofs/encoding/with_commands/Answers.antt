use Rattle.std.proofs.Common.{◌≡◌, ◌∙◌, ◌+◌, ◌-◌, ◌++◌, ap, arith, drop, encode_utf8_all, length, sym, take}
use Rattle.std.specs.String.{string_bytes}
use Rattle.std.proofs.lemmas.List.{take_rest}
use Rattle.edit_accents.specs.Accents.{stretch_after}
use Rattle.edit_accents.specs.Balance.{open_count}
use Rattle.edit_accents.specs.Encoded.{character_text}
use Rattle.edit_accents.proofs.EncodedSteps.{escaped_step, plain_step}
use Rattle.edit_accents.proofs.encoding.with_commands.Goals as goal
use Rattle.edit_accents.proofs.encoding.with_commands.Goals.{then-is_escaped+in_ok-push, else-is_escaped+in_ok-push_character}

pub characters-preserved : goal.characters-preserved
characters-preserved c =
    let cs = c.deref-c-items.result.now in
    let i = c.characters.at in
    elim c.if-is_escaped.branch [
      | then-is_escaped+in_ok-push w ↦ record {
        made = escaped_step cs i c.c-item.result (string_bytes c.characters.new) (string_bytes c.if-is_escaped.new) _
            c.characters.stretch c.if-is_escaped.stretch c.characters.is_escaped c.if-is_escaped.is_escaped
            c.characters-test.true c.c-item.is (ap string_bytes w.new-is ∙ w.in_ok-push.ensures.bytes) w.if-is_escaped.true
            w.stretch-is w.is_escaped-is c.characters.invariant.made;
        count = omega (arith, ap open_count w.stretch-is, c.characters.invariant.count);
      }
      | else-is_escaped+in_ok-push_character w ↦
          let rest : take (length w.deref.result.now - (i + 1)) (drop (i + 1) w.deref.result.now) ≡ drop (i + 1) cs =
          take_rest w.deref.result.now (i + 1) ∙ ap (drop (i + 1)) (w.deref.ensures.value ∙ sym c.deref-c-items.ensures.value) in
          record {
            made = plain_step cs i c.c-item.result (string_bytes c.characters.new) (string_bytes c.if-is_escaped.new) _
                c.characters.stretch c.if-is_escaped.stretch c.characters.is_escaped c.if-is_escaped.is_escaped
                c.characters-test.true c.c-item.is (ap string_bytes w.new-is ∙ w.in_ok-push_character.ensures
                ∙ ap (λ r. string_bytes c.characters.new ++ encode_utf8_all (character_text c.characters.stretch c.c-item.result r)) rest)
                w.if-is_escaped.false
                (w.stretch-is ∙ w.stretch_after-stretch.ensures.after ∙ ap (stretch_after c.characters.stretch c.c-item.result) rest)
                w.is_escaped-is c.characters.invariant.made;
            count = omega (arith, ap open_count w.stretch-is, w.stretch_after-stretch.ensures.count, c.characters.invariant.count);
          }
    ]
