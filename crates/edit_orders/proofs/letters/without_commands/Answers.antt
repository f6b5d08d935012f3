use Rattle.std.proofs.Common.{◌∙◌, sym, ap, ◌++◌, ◌∷◌, [], false}
use Rattle.std.specs.Prelude.{encode_utf8_all, encode_utf8}
use Rattle.std.proofs.lemmas.List.{append-nil, map-id}
use Rattle.std.proofs.lemmas.Str.{encodes-append}
use Rattle.std.proofs.lemmas.Iterator.{YieldsList-from_chars}
use Rattle.std.proofs.lemmas.Iterator.Consumers.{YieldsList-end}
use Rattle.edit_orders.specs.Letters.{is_in_name, outside_names, without_commands}
use Rattle.edit_orders.proofs.LetterFacts.{ends_push, kept_skip, kept_take}
use Rattle.edit_orders.proofs.letters.without_commands.Goals as goal

pub chars-preserved-in-Continue-1 : goal.chars-preserved-in-Continue-1
chars-preserved-in-Continue-1 c =
    let same = c.is_in_name-is_name.ensures ∙ ap (λ b. is_in_name b c.in-Some.c) c.chars.invariant.flag in
    record {
      kept = c.in_ok-push.ensures.bytes ∙ ap (λ t. t ++ encode_utf8 c.in-Some.c) c.chars.invariant.kept
          ∙ sym (ap encode_utf8_all (kept_take c.chars.yielded c.in-Some.c (sym same ∙ c.if-not-is_name.true))
          ∙ encodes-append (outside_names false c.chars.yielded) (c.in-Some.c ∷ [])
          ∙ ap (λ t. encode_utf8_all (outside_names false c.chars.yielded) ++ t) (append-nil (encode_utf8 c.in-Some.c)));
      flag = same ∙ sym (ends_push _ c.chars.yielded c.in-Some.c);
    }

pub chars-preserved : goal.chars-preserved
chars-preserved c =
    let same = c.is_in_name-is_name.ensures ∙ ap (λ b. is_in_name b c.in-Some.c) c.chars.invariant.flag in
    record {
      kept =
          c.chars.invariant.kept
          ∙ sym (ap encode_utf8_all (kept_skip c.chars.yielded c.in-Some.c (sym same ∙ c.if-not-is_name.false)));
      flag = same ∙ sym (ends_push _ c.chars.yielded c.in-Some.c);
    }

pub returns : goal.returns
returns c =
    let all =
    YieldsList-end (YieldsList-from_chars c.args.text.now c.utf8.text cc) c.chars.yielded _ c.chars.yielded_by _ _
    c.in-None.is c.next.ensures.steps in
    c.chars.invariant.kept ∙ ap (λ cs. encode_utf8_all (without_commands cs)) (sym (map-id c.chars.yielded) ∙ all.0)
