use Rattle.std.proofs.Common.{◌≡◌, ◌++◌, OnOk, subst}
use Rattle.std.specs.Prelude.{List, ℕ}
use Rattle.bib_csl.specs.Fields.{given}
use Rattle.bib_csl.specs.declared.variables.Variable.TheVariants.{CollectionTitle}
use Rattle.bib_csl.proofs.AppendFacts.{after}
use Rattle.bib_csl.proofs.titles.add_container.Goals as goal

pub returns : goal.returns
unfolding Rattle.bib_csl.specs.Titles.container_fields
returns c =
    let r = c.add_text-2.result in
    let last =
    subst
    (λ (text : List ℕ). OnOk r (c.add_text-2.new.fields ≡ c.add_title.new.fields ++ given CollectionTitle text))
    c.in_ok-series_title.ensures c.add_text-2.ensures in
    after r c.args.fields.now c.add_text.new.fields c.add_text-2.new.fields _ _
    (rw c.in_ok-container_title.ensures at c.in_ok-add_text.ensures)
    (after r c.add_text.new.fields c.add_title.new.fields c.add_text-2.new.fields _ _ c.in_ok-add_title.ensures last)
