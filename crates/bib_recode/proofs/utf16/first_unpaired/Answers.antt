use Rattle.std.proofs.lemmas.Grind.{common_steps}
use Rattle.std.proofs.Common.{◌≡◌, ◌+◌, ◌∙◌, ap, sym, arith, drop, subst, length, false, ◌≤◌, ◌-◌, take}
use Rattle.std.specs.Char.Utf16.{has_unpaired_surrogate}
use Rattle.bib_text.proofs.ListFacts.{take_to_end}
use Rattle.bib_recode.specs.Units.{begins_unpaired, character_len}
use Rattle.bib_recode.proofs.UnitFacts.{has_none, next_complete, next_within}
use Rattle.bib_recode.proofs.utf16.first_unpaired.Goals as goal

pub units-init : goal.units-init
units-init c = record { within = omega arith; before = has_none }

pub units-preserved : goal.units-preserved
units-preserved c =
    let units = c.args.units.now in
    let at = c.units.at in
    let whole = take_to_end units at in
    let next : c.character_len-at.result ≡ character_len (drop at units) = c.character_len-at.ensures ∙ ap character_len whole in
    let plain : begins_unpaired (drop at units) ≡ false =
    sym (ap begins_unpaired whole) ∙ sym c.begins_unpaired.ensures ∙ c.if-begins_unpaired.false in
    record {
      within = subst (λ k. at + k ≤ length units) (sym next) (next_within units at c.units-test.true);
      before = subst (λ k. has_unpaired_surrogate (take (at + k) units) ≡ false) (sym next)
          (next_complete units at c.units-test.true c.units.invariant.before plain);
    }

pub returns : goal.returns
returns c = grind (arith, common_steps)

pub returns-then-begins_unpaired : goal.returns-then-begins_unpaired
returns-then-begins_unpaired c = grind (arith, common_steps)
