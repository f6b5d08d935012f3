use Rattle.std.proofs.Common.{◌≡◌, ◌++◌, ◌∷◌, [], ap, sym, ◌∙◌, append_assoc, arith}
use lib.Utf8.{encode}
use Rattle.std.specs.Prelude.{replicate}
use Rattle.std.specs.String.{string_bytes}
use Rattle.std.proofs.lemmas.List.{replicate_more, append-nil}
use Rattle.edit_format.proofs.fields.push_spaces.Goals as goal

pub spaces-init : goal.spaces-init
spaces-init c = record { written = sym (append-nil (string_bytes c.args.new.now)); within = omega arith }

pub spaces-preserved : goal.spaces-preserved
unfolding encode
spaces-preserved c = record {
  written = c.in_ok-push.ensures.bytes ∙ ap (λ t. t ++ 32 ∷ []) c.spaces.invariant.written
      ∙ append_assoc (string_bytes c.args.new.now) (replicate c.spaces._written 32) (32 ∷ [])
      ∙ ap (λ t. string_bytes c.args.new.now ++ t) (replicate_more c.spaces._written 32);
  within = omega arith;
}

pub returns : goal.returns
returns c =
    let all : c.spaces._written ≡ c.args.count = omega arith in
    c.spaces.invariant.written ∙ ap (λ n. string_bytes c.args.new.now ++ replicate n 32) all
