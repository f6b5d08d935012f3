use Rattle.std.proofs.Common.{◌≡◌, List, ℕ, take}
use Rattle.edit_strings.specs.Collected.{text_index}
use Rattle.edit_strings.specs.Views.{lent_texts}
use Rattle.edit_strings.specs.Tables.{index_in}
use Rattle.edit_strings.proofs.collecting.indices.Given as goal

abbrev pub invariant-texts : goal.invariant-texts
invariant-texts l = (text : List ℕ) → index_in l.indices text ≡ text_index (lent_texts (take l.index l.texts)) text
