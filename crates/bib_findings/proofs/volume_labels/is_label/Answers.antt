use Rattle.std.proofs.Common.{◌≡◌, ◌∙◌, ◌==◌, ◌&&◌, false, true, cond, lit<, sym, ap}
use Rattle.std.specs.List.{after_first, before_first}
use Rattle.std.specs.Prelude.{is_some}
use Rattle.std.proofs.lemmas.Str.Pattern.{split_once_first}
use Rattle.bib_dates.proofs.Cuts.{holds_where_cut}
use Rattle.bib_dates.specs.Dates.{holds}
use Rattle.bib_findings.specs.VolumeLabels.{is_simple_label}
use Rattle.bib_findings.proofs.NameFacts.{split_here}
use Rattle.bib_findings.proofs.volume_labels.is_label.Goals as goal

pub returns-in-Some : goal.returns-in-Some
returns-in-Some c =
    let text = c.args.text.now in
    let cut = c.split_once.ensures.cases in
    let first = before_first (λ b. b == 47) text in
    let second = after_first (λ b. b == 47) text in
    let parts =
    split_here 47 text c.split_once.result (c.in-Some.first, c.in-Some.second) c.in-Some.is
    (split_once_first 47 text c.split_once.result cut (lit< tt)) in
    let has_slash : holds 47 text ≡ true =
    sym (holds_where_cut 47 text c.split_once.result cut (lit< tt)) ∙ ap is_some c.in-Some.is in
    c.are_labels.ensures
    ∙ ap (λ label. is_simple_label label && is_simple_label c.in-Some.second.now) parts.1
    ∙ ap (λ label. is_simple_label first && is_simple_label label) parts.2
    ∙ ap (λ b. cond b (is_simple_label first && is_simple_label second) (is_simple_label text)) (sym has_slash)

pub returns-in-None : goal.returns-in-None
returns-in-None c =
    let none : holds 47 c.args.text.now ≡ false =
    sym (holds_where_cut 47 c.args.text.now c.split_once.result c.split_once.ensures.cases (lit< tt)) ∙ ap is_some c.in-None.is in
    rw none c.is_simple_label.ensures
