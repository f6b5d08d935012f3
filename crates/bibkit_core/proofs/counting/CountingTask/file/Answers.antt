use Rattle.std.proofs.Common.{◌++◌, refl, subst}
use Rattle.bib_findings.specs.Findings.{AreFindings}
use Rattle.bib_syntax.specs.Recovery.{IsRecovery}
use Rattle.bibkit_core.proofs.counting.CountingTask.file.Goals as goal

pub returns : goal.returns
returns c =
    let said = c.in_ok-add_text.ensures in
    let met = c.in_ok-add_findings.ensures in
    record {
      text_is = c.new.ensures.bytes;
      counted = λ before same. (
        record { entries = before.entries ++ said.says.entries; found = before.found ++ met.found },
        record {
          decoded = c.in_ok-decoded.decoded;
          says = said.says;
          skipped = said.skipped;
          found = met.found;
          of_bytes = c.in_ok-decoded.ensures;
          recovery = subst (λ t. IsRecovery t said.says said.skipped) c.as_str.ensures.value said.recovery;
          are = subst (λ t. AreFindings t met.found) c.as_str-2.ensures.value met.are;
          after_is = refl;
        },
        met.added.adds _ (said.added.adds before same),
      );
    }
