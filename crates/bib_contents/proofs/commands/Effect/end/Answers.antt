use Rattle.std.proofs.Common.{◌∷◌, [], refl}
use Rattle.std.proofs.lemmas.Str.{IsUtf8-string_bytes}
use Rattle.bib_text.proofs.TextFacts.{pushed_chars, pushed_part, encode_one}
use Rattle.bib_contents.proofs.EffectFacts.{boundary_at, symbol_end, unknown_end}
use Rattle.bib_contents.proofs.commands.Effect.end.Goals as goal

pub truncate-requires : goal.truncate-requires
truncate-requires c within =
    let begun = c.requires.begun in
    let boundary = boundary_at begun.0 begun.1 _ begun.2 begun.3 (IsUtf8-string_bytes c.args.out.now) in
    (boundary.0, λ positive less. boundary.1 less)

pub returns-in_ok-push_str-in-Symbol : goal.returns-in_ok-push_str-in-Symbol
returns-in_ok-push_str-in-Symbol c base name inside size is =
    rw c.in-Symbol.is (symbol_end base inside _ _ _ c.in-Symbol.text.now (rw c.in-Symbol.is at size)
    (rw c.in-Symbol.is at is) c.truncate.ensures.bytes
    (pushed_part _ _ _ _ c.in-Symbol.text.now c.in_ok-push_str-in-Symbol.was c.push_str.ensures.bytes refl)
    (rw c.in-Symbol.is at c.requires.fit))

pub returns-in_ok-push-in-Unknown : goal.returns-in_ok-push-in-Unknown
returns-in_ok-push-in-Unknown c base name inside size is =
    rw c.in-Unknown.is
    (unknown_end base name inside _ _ (rw c.in-Unknown.is at is)
    (pushed_chars _ _ _ _ (125 ∷ []) c.in_ok-push-in-Unknown.was c.push.ensures.bytes (encode_one 125)))
