use Rattle.std.proofs.Common.{sym}
use Rattle.std.specs.Str.{chars}
use Rattle.std.proofs.lemmas.Str.{encodes-chars}
use Rattle.bib_text.proofs.TextFacts.{pushed_chars}
use Rattle.bib_contents.specs.Progress.{Renders}
use Rattle.bib_contents.proofs.PlainFacts.{renders_then}
use Rattle.bib_contents.proofs.plain.write_plain.Goals as goal

pub returns-then-not-branch : goal.returns-then-not-branch
returns-then-not-branch c =
    let shown = chars c.eat_as_is.result.now in
    let run : Renders c.args.is_verbatim c.runs.s c.eat_as_is.new.self c.runs.text c.push_str.new.self = (
      shown,
      c.eat_as_is.ensures,
      pushed_chars _ _ _ _ shown c.in_ok-push_str.was c.push_str.ensures.bytes
          (sym (encodes-chars _ c.eat_as_is.utf8)),
    ) in
    renders_then _ _ _ c.runs.invariant (renders_then _ _ _ run c.in_ok-write_run.ensures.read)

pub runs-preserved : goal.runs-preserved
runs-preserved c =
    let shown = chars c.eat_as_is.result.now in
    let run : Renders c.args.is_verbatim c.runs.s c.eat_as_is.new.self c.runs.text c.push_str.new.self = (
      shown,
      c.eat_as_is.ensures,
      pushed_chars _ _ _ _ shown c.in_ok-push_str.was c.push_str.ensures.bytes
          (sym (encodes-chars _ c.eat_as_is.utf8)),
    ) in
    renders_then _ _ _ c.runs.invariant (renders_then _ _ _ run c.in_ok-write_run.ensures.read)
