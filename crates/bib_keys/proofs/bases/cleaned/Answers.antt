use Rattle.std.proofs.lemmas.Grind.{common_steps}
use Rattle.std.proofs.Common.{◌∙◌, sym, arith}
use Rattle.std.specs.Prelude.{string_bytes}
use Rattle.bib_keys.proofs.BaseFacts.{kept}
use Rattle.bib_keys.proofs.bases.cleaned.Goals as goal

pub bytes-preserved : goal.bytes-preserved
bytes-preserved c =
    c.bytes.invariant
    ∙ kept c.bytes.last c.bytes.byte-index c.as_bytes-byte-items.result.now c.args.text.now (string_bytes c.bytes.out)
    (string_bytes c.push.new.self) c.as_bytes-byte-items.ensures.value c.bytes-test.true (sym c.is_kept.ensures ∙ c.if-not-is_kept.false)
    c.in_ok-push.ensures.bytes

pub returns : goal.returns
returns c = grind (arith, common_steps)

pub bytes-preserved-then-not-is_kept : goal.bytes-preserved-then-not-is_kept
bytes-preserved-then-not-is_kept c = grind (arith, common_steps)
