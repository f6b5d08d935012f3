use Rattle.std.proofs.Common.{refl, subst}
use Rattle.std.specs.Prelude.{option_map}
use Rattle.bibkit_core.specs.Tasks.{AreDecoded}
use Rattle.bibkit_core.proofs.run.document_text.Goals as goal

pub returns-clause-read : goal.returns-clause-read
returns-clause-read g c = record {
  bytes = c.in-Some.bytes.items;
  decoded = c.in_ok-decoded.decoded;
  read =
      subst (λ o. g.F.Files.reads c.args.files.now c.args.name.now (option_map (λ b. b.items) o) c.bytes_of.new.files)
      c.in-Some.is c.in_ok-bytes.ensures;
  of_bytes = subst (λ b. AreDecoded b c.in_ok-decoded.decoded) c.deref.ensures.value c.in_ok-decoded.ensures;
  text_is = refl;
}
