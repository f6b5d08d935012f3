use Rattle.std.proofs.Common.{◌≡◌, ◌∙◌, ⊎_elim, sym, ap}
use Rattle.bib_text.specs.Places.{place}
use Rattle.bib_syntax.specs.Blocks.{block_kind_of}
use Rattle.bib_syntax.specs.Kept.{KeptBody as kept_body}
use Rattle.bib_syntax.proofs.KeptFacts.{unopened_at, if_ok, kept_at}
use Rattle.bib_syntax.proofs.raw.kept.kept.Goals as goal
use Rattle.bib_syntax.proofs.raw.kept.kept.Goals.{After-jump}

-- parsing begins at the at sign
here : (c : After-jump) → c.jump.new.self ≡ place c.args.text.now c.args.start
here c = c.jump.ensures ∙ ap (λ u. place u.text c.args.start) (c.new-s.ensures ∙ c.new.ensures)

pub returns-in_default : goal.returns-in_default
returns-in_default c = unopened_at (here (goal.at.returns-in_default c).After-jump) (rw c.in_default.is at c.opening.ensures)

pub returns-in-Comment : goal.returns-in-Comment
returns-in-Comment c =
    let begins = here (goal.at.returns-in-Comment c).After-jump in
    let opened = rw c.in-Some.is at c.opening.ensures in
    ⊎_elim
    (λ is. kept_at begins opened (ap block_kind_of (sym is) ∙ c.block_kind.ensures) (λ u same. kept_body.comment))
    (λ is. kept_at begins opened (ap block_kind_of (sym is) ∙ c.block_kind.ensures) (λ u same. kept_body.preamble))
    c.in-Comment.is

pub returns-in_ok-complete_fields-in-Strings : goal.returns-in_ok-complete_fields-in-Strings
returns-in_ok-complete_fields-in-Strings c =
    kept_at (here (goal.at.returns-in_ok-complete_fields-in-Strings c).After-jump) (rw c.in-Some.is at c.opening.ensures)
    (ap block_kind_of (sym c.in-Strings.is) ∙ c.block_kind.ensures) (λ u same. kept_body.strings c.in_ok-complete_fields-in-Strings.ensures)

pub returns-in-Entry : goal.returns-in-Entry
returns-in-Entry c =
    let begins = here (goal.at.returns-in-Entry c).After-jump in
    if_ok c.kept_entry.result c.kept_entry.ensures
    (λ item body. kept_at begins (rw c.in-Some.is at c.opening.ensures) (ap block_kind_of (sym c.in-Entry.is) ∙ c.block_kind.ensures) body)
