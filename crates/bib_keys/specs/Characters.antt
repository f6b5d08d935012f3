-- Meaning: words of public contracts.
-- The characters of keys, and the texts that can serve as keys.
use Rattle.std.specs.Prelude.{◌≡◌, ℕ, ◌<◌, Bool, true, ◌||◌, ◌==◌, List, length, codes}
use Rattle.std.specs.Char.{is_ascii_alphanumeric}
use Rattle.std.specs.List.{list_all}
use Rattle.std.specs.Str.Iter.{HasSubslice}
use Rattle.bib_text.specs.Characters as char

-- whether `c` is an ASCII letter, an ASCII digit or one of  + - . / : _
abbrev pub is_in_keys : ℕ → Bool
is_in_keys c =
    is_ascii_alphanumeric c
    || (c == char.plus || c == char.hyphen || c == char.point || c == char.slash || c == char.colon || c == char.underscore)

-- BibTeX, Biber and bibtool read the text as a key: it isn't empty, `is_in_keys` holds for each byte, and no two hyphens are in a row
pub record CanServeAsKey (text : List ℕ) : Type 0 where
  pub some : 0 < length text
  pub characters : list_all is_in_keys text ≡ true
  pub hyphens : HasSubslice text (codes "--") → ⊥
