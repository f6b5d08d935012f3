-- Facts about the names of languages.
use Rattle.std.proofs.Common.{◌≡◌, Some, refl}
use Rattle.std.specs.Char.{encode_utf8}
use Rattle.bib_tables.specs.declared.types.lang.Language.{Language}
use Rattle.bib_tables.specs.declared.types.lang.Language.TheVariants.{Basque, Bulgarian, Catalan, Croatian, Czech, Danish, Dutch, EnglishUS, EnglishUK, EnglishCA, EnglishAUS, EnglishNZ, Estonian, Finnish, French, German, GermanAT, GermanCH, GermanNew, GermanATNew, GermanCHNew, Greek, Hungarian, Icelandic, Italian, Latvian, Lithuanian, Marathi, NorwegianBokmal, NorwegainNynorsk, Polish, PortugueseBR, Portuguese, Romanian, Russian, SerbianLatin, SerbianCyrillic, Slovak, Slovene, Spanish, Swedish, Turkish, Ukrainian}
use Rattle.bib_tables.specs.Language.{language_row, language_named}

-- the name of a language means this language
pub language_named-name : (language : Language) → language_named (language_row language).name ≡ Some language
unfolding language_named encode_utf8
language_named-name Basque = refl
language_named-name Bulgarian = refl
language_named-name Catalan = refl
language_named-name Croatian = refl
language_named-name Czech = refl
language_named-name Danish = refl
language_named-name Dutch = refl
language_named-name EnglishUS = refl
language_named-name EnglishUK = refl
language_named-name EnglishCA = refl
language_named-name EnglishAUS = refl
language_named-name EnglishNZ = refl
language_named-name Estonian = refl
language_named-name Finnish = refl
language_named-name French = refl
language_named-name German = refl
language_named-name GermanAT = refl
language_named-name GermanCH = refl
language_named-name GermanNew = refl
language_named-name GermanATNew = refl
language_named-name GermanCHNew = refl
language_named-name Greek = refl
language_named-name Hungarian = refl
language_named-name Icelandic = refl
language_named-name Italian = refl
language_named-name Latvian = refl
language_named-name Lithuanian = refl
language_named-name Marathi = refl
language_named-name NorwegianBokmal = refl
language_named-name NorwegainNynorsk = refl
language_named-name Polish = refl
language_named-name PortugueseBR = refl
language_named-name Portuguese = refl
language_named-name Romanian = refl
language_named-name Russian = refl
language_named-name SerbianLatin = refl
language_named-name SerbianCyrillic = refl
language_named-name Slovak = refl
language_named-name Slovene = refl
language_named-name Spanish = refl
language_named-name Swedish = refl
language_named-name Turkish = refl
language_named-name Ukrainian = refl
