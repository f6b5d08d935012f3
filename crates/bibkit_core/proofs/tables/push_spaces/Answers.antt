use Rattle.std.proofs.Common.{◌≡◌, ◌+◌, ◌-◌, ◌++◌, ◌∷◌, [], ap, sym, ◌∙◌, append_assoc, arith}
use lib.Utf8.{encode}
use Rattle.std.specs.Prelude.{replicate}
use Rattle.std.specs.String.{string_bytes}
use Rattle.std.proofs.lemmas.List.{replicate_more, append-nil}
use Rattle.bibkit_core.proofs.tables.push_spaces.Goals as goal

pub spaces-init : goal.spaces-init
spaces-init c =
    let none : 0 ≡ c.args.written - c.args.written = omega arith in
    record {
      printed =
          sym (append-nil (string_bytes c.args.text.now))
          ∙ ap (λ n. string_bytes c.args.text.now ++ replicate n 32) none;
      within = omega arith;
    }

pub spaces-preserved : goal.spaces-preserved
unfolding encode
spaces-preserved c =
    let more : c.spaces._column - c.args.written + 1 ≡ c.spaces._column + 1 - c.args.written = omega arith in
    record {
      printed = c.in_ok-push.ensures.bytes ∙ ap (λ t. t ++ 32 ∷ []) c.spaces.invariant.printed
          ∙ append_assoc (string_bytes c.args.text.now) (replicate (c.spaces._column - c.args.written) 32) (32 ∷ [])
          ∙ ap (λ t. string_bytes c.args.text.now ++ t)
          (replicate_more (c.spaces._column - c.args.written) 32 ∙ ap (λ n. replicate n 32) more);
      within = omega arith;
    }

pub returns : goal.returns
returns c =
    let all : c.spaces._column - c.args.written ≡ c.args.width - c.args.written = omega arith in
    c.spaces.invariant.printed ∙ ap (λ n. string_bytes c.args.text.now ++ replicate n 32) all
