use Rattle.std.proofs.Common.{◌≡◌, map, take, string_bytes}
use Rattle.serde_json.specs.View.{view}
use Rattle.serde_json.specs.Data.{string}
use Rattle.bib_json.proofs.lists.texts_value.Given as goal

abbrev pub invariant-texts : goal.invariant-texts
invariant-texts l = map view l.elements.items ≡ map string (map (λ s. string_bytes s) (take l.text-index l.texts))
