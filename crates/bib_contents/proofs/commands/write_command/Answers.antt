use Rattle.std.proofs.Common.{◌≡◌, ◌++◌, sym, ap, length, arith}
use Rattle.std.specs.Prelude.{encode_utf8_all, string_bytes}
use Rattle.std.specs.Str.{chars}
use Rattle.std.proofs.lemmas.Str.{encodes-chars, IsUtf8-string_bytes}
use Rattle.bib_text.proofs.TextFacts.{pushed_chars}
use Rattle.bib_contents.specs.Effects.{before_argument}
use Rattle.bib_contents.proofs.EffectFacts.{wrote_after, wrote_more, wrote_from}
use Rattle.bib_contents.proofs.commands.write_command.Goals as goal

pub end-requires : goal.end-requires
end-requires c = record {
  fit = c.of-effect.ensures.fit;
  begun = (
    chars (string_bytes c.begin.new.out),
    chars c.args.argument.now,
    omega (arith, ap length (encodes-chars _ (IsUtf8-string_bytes c.begin.new.out)), c.len-start.ensures),
    wrote_after _ _ (chars c.args.argument.now) (IsUtf8-string_bytes c.begin.new.out)
        (pushed_chars _ _ _ _ (chars c.args.argument.now) c.in_ok-push_str.was c.push_str.ensures.bytes
        (sym (encodes-chars _ c.utf8.argument))),
  );
}

pub returns : goal.returns
returns c =
    let old = string_bytes c.args.out.now in
    let begun = wrote_after old (string_bytes c.begin.new.out) _ (IsUtf8-string_bytes c.args.out.now) c.in_ok-begin.ensures in
    let size : length (encode_utf8_all (chars old ++ before_argument c.of-effect.result (chars c.args.name.now)))
    ≡ c.len-start.result =
    omega (arith, ap length begun, c.len-start.ensures) in
    let pushed = wrote_more (string_bytes c.begin.new.out) (string_bytes c.push_str.new.self) _ (chars c.args.argument.now) begun
    (pushed_chars _ _ _ _ (chars c.args.argument.now) c.in_ok-push_str.was c.push_str.ensures.bytes
    (sym (encodes-chars _ c.utf8.argument))) in
    rw c.of-effect.ensures.made
    (wrote_from old _ _ (IsUtf8-string_bytes c.args.out.now)
    (c.in_ok-end.ensures (chars old) (chars c.args.name.now) (chars c.args.argument.now) size pushed))
