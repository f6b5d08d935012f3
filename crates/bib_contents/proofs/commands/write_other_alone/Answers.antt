use Rattle.std.proofs.Common.{◌∷◌, [], sym}
use Rattle.std.specs.Str.{chars}
use Rattle.std.proofs.lemmas.Str.{encodes-chars}
use Rattle.bib_text.proofs.TextFacts.{pushed_chars, encode_one, three_parts}
use Rattle.bib_contents.proofs.CommandFacts.{other_o, other_copyright, other_unknown}
use Rattle.bib_contents.proofs.commands.write_other_alone.Goals as goal

pub returns-in_ok-push-in-o : goal.returns-in_ok-push-in-o
returns-in_ok-push-in-o c =
    rw (other_o c.args.name.now c.in-o.is) (pushed_chars _ _ _ _ (248 ∷ []) c.in_ok-push-in-o.was c.push.ensures.bytes (encode_one 248))

pub returns-in_ok-push-in-copyright : goal.returns-in_ok-push-in-copyright
returns-in_ok-push-in-copyright c =
    rw (other_copyright c.args.name.now c.in-copyright.is)
    (pushed_chars _ _ _ _ (169 ∷ []) c.in_ok-push-in-copyright.was c.push-in-copyright.ensures.bytes
    (encode_one 169))

pub returns-in_ok-push-in_default-2 : goal.returns-in_ok-push-in_default-2
returns-in_ok-push-in_default-2 c =
    rw (other_unknown c.args.name.now c.utf8.name c.in_default.not-o c.in_default.not-copyright)
    (three_parts _ _ _ _ (92 ∷ []) (chars c.args.name.now) (32 ∷ [])
    (pushed_chars _ _ _ _ (92 ∷ []) c.in_ok-push-in_default.was c.push-in_default.ensures.bytes (encode_one 92))
    (pushed_chars _ _ _ _ (chars c.args.name.now) c.in_ok-push_str-in_default.was c.push_str.ensures.bytes
    (sym (encodes-chars _ c.utf8.name)))
    (pushed_chars _ _ _ _ (32 ∷ []) c.in_ok-push-in_default-2.was c.push-in_default-2.ensures.bytes (encode_one 32)))
