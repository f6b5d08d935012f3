use Rattle.std.proofs.Common.{◌≡◌, ◌++◌, codes, OnOk, ap, ◌∙◌, subst}
use Rattle.std.specs.String.{string_bytes}
use Rattle.bib_ris.specs.Lines.{ris_line}
use Rattle.bib_ris.specs.Types.{ris_type}
use Rattle.bib_ris.proofs.records.push_type.Goals as goal

pub returns : goal.returns
unfolding Rattle.bib_ris.specs.Records.type_part
returns c =
    subst (λ name. OnOk c.push_line.result (string_bytes c.push_line.new.out ≡ string_bytes c.args.out.now ++ ris_line (codes "TY") name))
    (c.in_ok-name.ensures ∙ ap (ris_type c.args.entry.now.entry_type) c.get.ensures) c.push_line.ensures
