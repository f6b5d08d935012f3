use Rattle.std.proofs.Common.{◌≡◌, List, ℕ, take}
use Rattle.edit_strings.specs.Collected.{times_of}
use Rattle.edit_strings.specs.Collecting.{count_in}
use Rattle.edit_strings.specs.Views.{lent_texts}
use Rattle.edit_strings.proofs.texts.counts.Given as goal

abbrev pub invariant-texts : goal.invariant-texts
invariant-texts l = (text : List ℕ) → count_in l.counts text ≡ times_of text (lent_texts (take l.text-index l.texts))
