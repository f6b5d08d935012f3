use Rattle.std.proofs.Common.{◌≡◌, ◌++◌, codes, OnOk, ap, ◌∙◌, subst, append_assoc}
use Rattle.std.specs.String.{string_bytes}
use Rattle.bib_ris.specs.Bare.{bare_named}
use Rattle.bib_ris.specs.Lines.{given_line}
use Rattle.bib_ris.specs.Records.{host_part, host_title, whole_host_part}
use Rattle.bib_ris.proofs.titles.push_host.Goals as goal

pub returns : goal.returns
unfolding host_part
returns c =
    let old = string_bytes c.args.out.now in
    let host = given_line (codes "T2") (host_title c.args.entry.now) in
    let whole = whole_host_part c.args.entry.now in
    let short = given_line (codes "JA") (bare_named c.args.entry.now (codes "shortjournal")) in
    subst (λ t. OnOk c.push_field.result (string_bytes c.push_field.new.out ≡ t))
    (ap (λ o. o ++ short) (c.in_ok-push_whole_hosts.ensures ∙ ap (λ o. o ++ whole) c.in_ok-push_host_title.ensures)
    ∙ append_assoc (old ++ host) whole short ∙ append_assoc old host (whole ++ short)) c.push_field.ensures
