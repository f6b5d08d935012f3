-- Meaning: words of public contracts.
-- The entries of a text of CSL-JSON, the members of its items that they lack or change, and the errors.
use Rattle.std.specs.Prelude.{◌≡◌, ◌≤◌, ℕ, List, length}
use Rattle.biblatex.specs.Headline.{IsAcceptedText, IsBibliographyOf}
use Rattle.biblatex.specs.Syntax.{Bibliography}
use Rattle.bib_from_csl.specs.declared.converting.Converted.{Converted}
use Rattle.bib_from_csl.specs.declared.converting.ItemsError.{ItemsError}
use Rattle.bib_from_csl.specs.declared.converting.ItemsError.TheVariants.{Refused as refused, NotRead, OutOfMemory}
use Rattle.bib_from_csl.specs.declared.converting.Refusal.{Refusal}
use Rattle.bib_from_csl.specs.declared.given.GivenItem.{GivenItem}
use Rattle.bib_from_csl.specs.declared.reading.Fault.TheVariants.{KeyTwice}
use Rattle.bib_from_csl.specs.declared.reading.ItemsReading.TheVariants.{Are, Refused}
use Rattle.bib_from_csl.specs.FromItems.{items_source}
use Rattle.bib_from_csl.specs.GivenItems.{items_read}
use Rattle.bib_from_csl.specs.Losses.{all_losses}

-- the conversion of a text of CSL-JSON: the source of the entries of its items, and the members that the entries lack or change after the
-- source is parsed
pub record AreEntriesOf (json : List ℕ) (converted : Converted) : Type 0 where
  pub items : List GivenItem
  pub of_json : items_read json ≡ Are items
  pub text : converted.text ≡ items_source items
  pub bibliography : Bibliography
  pub read_again : IsBibliographyOf converted.text bibliography
  pub losses : converted.losses ≡ all_losses items bibliography.entries

-- the text contains items, but the source of their entries can't be parsed
pub record AreUnreadItems (json : List ℕ) : Type 0 where
  pub items : List GivenItem
  pub of_json : items_read json ≡ Are items
  pub unread : IsAcceptedText (items_source items) → ⊥

-- a refusal gives the fault of an element or of the text, or says that two entries have one key
pub data IsItemsRefusal (json : List ℕ) (r : Refusal) : Type 0 where
  no_items : items_read json ≡ Refused r.element r.fault → r.at ≤ length json → IsItemsRefusal json r
  key_twice : r.fault ≡ KeyTwice → r.at ≤ length json → AreUnreadItems json → IsItemsRefusal json r

-- an error says that the entries of two items have one key, that their source can't be parsed, or that memory runs out
abbrev pub IsOfUnreadItems : List ℕ → ItemsError → Type 0
IsOfUnreadItems json (refused r) = (r.fault ≡ KeyTwice) × (r.at ≤ length json)
IsOfUnreadItems json (NotRead e) = Unit {0}
IsOfUnreadItems json OutOfMemory = Unit {0}

-- the reasons why a text can't be converted to entries
abbrev pub MayRefuseItems : List ℕ → ItemsError → Type 0
MayRefuseItems json (refused r) = IsItemsRefusal json r
MayRefuseItems json (NotRead e) = AreUnreadItems json
MayRefuseItems json OutOfMemory = Unit {0}
