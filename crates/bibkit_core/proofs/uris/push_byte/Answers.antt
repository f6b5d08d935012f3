use Rattle.std.proofs.Common.{rules, sym, subst, ◌∙◌, ◌<◌, ◌≡◌, ◌++◌, ◌∷◌, []}
use Rattle.std.proofs.lemmas.Fmt.{hex_byte}
use Rattle.std.specs.Prelude.{encode_utf8, if◌then◌else◌, is_ok}
use Rattle.std.specs.String.{string_bytes}
use Rattle.bibkit_core.proofs.UriFacts.{kept_appended}
use Rattle.bibkit_core.proofs.uris.push_byte.Goals as goal

pub returns-then-is_path_byte : goal.returns-then-is_path_byte
returns-then-is_path_byte c =
    let old = string_bytes c.args.uri.now in
    let new = string_bytes c.push.new.self in
    kept_appended c.push.result old new c.args.byte (sym c.is_path_byte.ensures ∙ c.if-is_path_byte.true)
    (subst (λ ch. new ≡ (if is_ok c.push.result then old ++ encode_utf8 ch else old)) c.from.ensures c.push.ensures.bytes)
    (subst (λ ch. ch < 128 → encode_utf8 ch ≡ ch ∷ []) c.from.ensures c.push.ensures.ascii)

pub returns : goal.returns
returns c = search (rules, hex_byte)
