-- Meaning: words of public contracts.
-- BibLaTeX's names of languages, by their tags (BCP 47).
use Rattle.std.specs.Prelude.{ℕ, ◌==◌, if◌then◌else◌, List, [], ◌∷◌, length}
use Rattle.std.specs.List.{before_first}
use Rattle.bib_dates.specs.Dates.{holds as has_byte}
use Rattle.bib_text.specs.Characters as char
use Rattle.bib_csl.specs.Named.{pair, text_named}

-- languages: the tag and BibLaTeX's name
abbrev pub language_names : List (List ℕ × List ℕ)
language_names =
    pair "en-US" "american" ∷
    pair "en-GB" "british" ∷
    pair "en-CA" "canadian" ∷
    pair "en-AU" "australian" ∷
    pair "en-NZ" "newzealand" ∷
    pair "de-AT" "naustrian" ∷
    pair "de-CH" "nswissgerman" ∷
    pair "pt-BR" "brazil" ∷
    pair "pt-PT" "portuguese" ∷
    pair "es-MX" "mexican" ∷
    pair "fr-CA" "canadien" ∷
    pair "sr-Latn" "serbian" ∷
    pair "sr-Cyrl" "serbianc" ∷
    pair "ca" "catalan" ∷
    pair "da" "danish" ∷
    pair "de" "ngerman" ∷
    pair "es" "spanish" ∷
    pair "eu" "basque" ∷
    pair "fi" "finnish" ∷
    pair "fr" "french" ∷
    pair "is" "icelandic" ∷
    pair "it" "italian" ∷
    pair "nb" "norsk" ∷
    pair "nl" "dutch" ∷
    pair "nn" "nynorsk" ∷
    pair "sv" "swedish" ∷
    pair "bg" "bulgarian" ∷
    pair "cs" "czech" ∷
    pair "el" "greek" ∷
    pair "et" "estonian" ∷
    pair "hr" "croatian" ∷
    pair "hu" "hungarian" ∷
    pair "lt" "lithuanian" ∷
    pair "lv" "latvian" ∷
    pair "mr" "marathi" ∷
    pair "pl" "polish" ∷
    pair "ro" "romanian" ∷
    pair "ru" "russian" ∷
    pair "sk" "slovak" ∷
    pair "sl" "slovene" ∷
    pair "tr" "turkish" ∷
    pair "uk" "ukrainian" ∷
    pair "gl" "galician" ∷
    pair "la" "latin" ∷
    pair "no" "norwegian" ∷
    []

-- the first name, or the other one if the first is empty
abbrev pub first_name : List ℕ → List ℕ → List ℕ
first_name first other = if length first == 0 then other else first

-- the tag of a language without its country or script
unfoldable pub without_country : List ℕ → List ℕ
without_country tag = if has_byte char.hyphen tag then before_first (λ b. b == char.hyphen) tag else tag

-- BibLaTeX's name of the language of a tag, or nothing. A tag with a country or a script that has no name of its own has the name of its
-- language.
unfoldable pub language_name : List ℕ → List ℕ
language_name tag = first_name (text_named language_names tag) (text_named language_names (without_country tag))
