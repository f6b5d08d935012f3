-- Meaning: words of public contracts.
-- Bibliographies that differ only in spans and in the borders of chunks.
use Rattle.std.specs.Prelude.{◌≡◌, map}
use Rattle.bib_file_entries.specs.Bibliography.{Bibliography}
use Rattle.bib_inheritance.specs.Resolving.{texts_of_entries}

-- two bibliographies have the same keys in order, and the same names, which point to the same indices. Each entry has the same type and
-- styled texts of fields in both
pub record AreAlike (one other : Bibliography) : Type 0 where
  pub keys : map (λ e. e.key) one.entries ≡ map (λ e. e.key) other.entries
  pub entries : texts_of_entries one.entries ≡ texts_of_entries other.entries
  pub names : one.names ≡ other.names
