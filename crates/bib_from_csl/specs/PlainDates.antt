-- Meaning: words of public contracts.
-- Dates that are parsed back from their text.
use Rattle.std.specs.Prelude.{◌≡◌, ℕ, List, Some}
use Rattle.bib_chunks.specs.declared.chunk.Chunk.TheVariants.{Normal}
use Rattle.bib_chunks.specs.Values.{alone}
use Rattle.bib_csl.specs.Dates.{read_or_unread}
use Rattle.bib_csl.specs.declared.item.ItemDate.{ItemDate}
use Rattle.bib_dates.specs.Chunks.{date_read}
use Rattle.bib_from_csl.specs.WrittenDates.{text_of_item}

-- a date can be written, and its text is parsed as that date
pub record IsDateReadBack (date : ItemDate) : Type 0 where
  pub text : List ℕ
  pub written : text_of_item date ≡ Some text
  pub read : read_or_unread (date_read (alone (Normal text))) text ≡ Some date
