use Rattle.std.proofs.Common.{◌≡◌, List, ℕ, take}
use Rattle.bib_queries.specs.Needed.{is_listed}
use Rattle.bib_queries.specs.Sets.{is_in_set}
use Rattle.edit_strings.specs.Collected.{AreThoseThat, CanBeCollected, distinct}
use Rattle.edit_strings.specs.Collecting.{known_in}
use Rattle.edit_strings.specs.Views.{lent_texts}
use Rattle.edit_strings.proofs.collected.collected_texts.Given as goal

abbrev pub invariant-texts : goal.invariant-texts
invariant-texts l = record {
  found : AreThoseThat (CanBeCollected (known_in l.known) l.least (lent_texts l.texts)) (distinct (lent_texts (take l.text-index l.texts)))
      (lent_texts l.found.items);
  met : (text : List ℕ) → is_in_set l.met text ≡ is_listed (lent_texts (take l.text-index l.texts)) text;
}
