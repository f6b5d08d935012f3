-- Meaning: words of public contracts.
-- The languages of the fields `langid` and `language` in BibLaTeX files, with the names and tags of the Rust crate
-- `biblatex`.
use Rattle.std.specs.Prelude.{ℕ, Bool, List, [], ◌∷◌, Option, bytes_eq, codes, encode_utf8_all, find}
use Rattle.std.specs.List.{list_any}
use Prim.Native.String.{String}
use Rattle.bib_tables.specs.declared.types.lang.Language.{Language}
use Rattle.bib_tables.specs.declared.types.lang.Language.TheVariants.{Basque, Bulgarian, Catalan, Croatian, Czech, Danish, Dutch, EnglishUS, EnglishUK, EnglishCA, EnglishAUS, EnglishNZ, Estonian, Finnish, French, German, GermanAT, GermanCH, GermanNew, GermanATNew, GermanCHNew, Greek, Hungarian, Icelandic, Italian, Latvian, Lithuanian, Marathi, NorwegianBokmal, NorwegainNynorsk, Polish, PortugueseBR, Portuguese, Romanian, Russian, SerbianLatin, SerbianCyrillic, Slovak, Slovene, Spanish, Swedish, Turkish, Ukrainian}
use Rattle.bib_text.specs.Enums.{words}

-- the name by which a language is written, its language tag, and the other names by which it is parsed
pub record LanguageRow : Type 0 where
  pub name : List ℕ
  pub tag : List ℕ
  pub others : List (List ℕ)

-- a row of the table: a name, a tag, and the other names with single spaces between them
abbrev pub row : String → String → String → LanguageRow
row name tag others =
    record { name = encode_utf8_all (codes name); tag = codes tag; others = words (codes others) }

-- the table of languages; the tag `en-UK` (not `en-GB`) and the spelling `NorwegainNynorsk` are the Rust crate's
abbrev pub language_row : Language → LanguageRow
language_row Basque = row "Basque" "eu" "basque"
language_row Bulgarian = row "Bulgarian" "bg" "bulgarian"
language_row Catalan = row "Catalan" "ca" "catalan"
language_row Croatian = row "Croatian" "hr" "croatian"
language_row Czech = row "Czech" "cs" "czech"
language_row Danish = row "Danish" "da" "danish"
language_row Dutch = row "Dutch" "nl" "dutch"
language_row EnglishUS = row "American English" "en-US" "american USenglish english"
language_row EnglishUK = row "British English" "en-UK" "british UKenglish"
language_row EnglishCA = row "Canadian English" "en-CA" "canadian"
language_row EnglishAUS = row "Australian English" "en-AU" "australian"
language_row EnglishNZ = row "New Zealand English" "en-NZ" "newzealand"
language_row Estonian = row "Estonian" "et" "estonian"
language_row Finnish = row "Finnish" "fi" "finnish"
language_row French = row "French" "fr" "french"
language_row German = row "German" "de" "german"
language_row GermanAT = row "Austrian" "de-AT" "austrian"
language_row GermanCH = row "Swiss German" "de-CH" "swissgerman"
language_row GermanNew = row "New German" "de" "ngerman"
language_row GermanATNew = row "New Austrian" "de-AT" "naustrian"
language_row GermanCHNew = row "New Swiss German" "de-CH" "nswissgerman"
language_row Greek = row "Greek" "el" "greek"
language_row Hungarian = row "Hungarian" "hu" "hungarian magyar"
language_row Icelandic = row "Icelandic" "is" "icelandic"
language_row Italian = row "Italian" "it" "italian"
language_row Latvian = row "Latvian" "lv" "latvian"
language_row Lithuanian = row "Lithuanian" "lt" "lithuanian"
language_row Marathi = row "Marathi" "mr" "marathi"
language_row NorwegianBokmal = row "Norwegian (Bokmål)" "nb" "norsk"
language_row NorwegainNynorsk = row "Norwegian (Nynorsk)" "nn" "nynorsk"
language_row Polish = row "Polish" "pl" "polish"
language_row PortugueseBR = row "Brazilian Portuguese" "pt-BR" "brazil"
language_row Portuguese = row "Portuguese" "pt-PT" "portuguese portuges"
language_row Romanian = row "Romanian" "ro" "romanian"
language_row Russian = row "Russian" "ru" "russian"
language_row SerbianLatin = row "Serbian (Latin)" "sr-Latn" "serbian"
language_row SerbianCyrillic = row "Serbian (Cyrillic)" "sr-Cyrl" "serbianc"
language_row Slovak = row "Slovak" "sk" "slovak"
language_row Slovene = row "Slovene" "sl" "slovene slovenian"
language_row Spanish = row "Spanish" "es" "spanish"
language_row Swedish = row "Swedish" "sv" "swedish"
language_row Turkish = row "Turkish" "tr" "turkish"
language_row Ukrainian = row "Ukrainian" "uk" "ukrainian"

-- all languages, in the order of the table
abbrev pub languages : List Language
languages =
    Basque ∷ Bulgarian ∷ Catalan ∷ Croatian ∷ Czech ∷ Danish ∷ Dutch ∷ EnglishUS ∷ EnglishUK ∷ EnglishCA ∷
    EnglishAUS ∷ EnglishNZ ∷ Estonian ∷ Finnish ∷ French ∷ German ∷ GermanAT ∷ GermanCH ∷ GermanNew ∷
    GermanATNew ∷ GermanCHNew ∷ Greek ∷ Hungarian ∷ Icelandic ∷ Italian ∷ Latvian ∷ Lithuanian ∷ Marathi ∷
    NorwegianBokmal ∷ NorwegainNynorsk ∷ Polish ∷ PortugueseBR ∷ Portuguese ∷ Romanian ∷ Russian ∷ SerbianLatin ∷
    SerbianCyrillic ∷ Slovak ∷ Slovene ∷ Spanish ∷ Swedish ∷ Turkish ∷ Ukrainian ∷ []

-- whether `text` is exactly the name of `language` or one of its other names
abbrev pub is_named : List ℕ → Language → Bool
is_named text language = list_any (λ name. bytes_eq name text) ((language_row language).name ∷ (language_row language).others)

-- the first language whose name, or one of whose other names, is exactly `text`, or `None`
unfoldable pub language_named : List ℕ → Option Language
language_named text = find (is_named text) languages
