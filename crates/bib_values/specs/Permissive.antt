-- Meaning: words of public contracts.
-- Values that are kept as chunks if they don't parse as their type.
use Rattle.std.specs.Prelude.{◌≡◌, ◌<◌, map, List, length, Option, Some, None}
use Rattle.std.specs.List.{AllByRecursion}
use Rattle.bib_tables.specs.declared.types.lang.Language.{Language}
use Rattle.bib_chunks.specs.Cuts.{and_list}
use Rattle.bib_chunks.specs.Values.{Value}
use Rattle.bib_values.specs.Enumerations.{language_read, language_written}
use Rattle.bib_chunks.specs.Separated.{parts_written}

-- a value of a type, or the chunks that don't parse as the type
pub data Permissive (M : Type 0) : Type 0 where
  typed : M → Permissive M
  as_chunks : Value → Permissive M

-- the value that chunks parse as, if any, otherwise the chunks
abbrev pub permissive : {M : Type 0} → Option M → Value → Permissive M
permissive (Some m) chunks = typed m
permissive None chunks = as_chunks chunks

-- how a permissive value is written: a value as its type writes it, and chunks unchanged
abbrev pub permissive_written : {M : Type 0} → (M → Value) → Permissive M → Value
permissive_written writes (typed m) = writes m
permissive_written writes (as_chunks chunks) = chunks

-- permissive values that parse from their written form: kept values of the type, and chunks that don't parse as the
-- type
abbrev pub PermissiveKept : {M : Type 0} → (M → Type 0) → (Value → Option M) → Permissive M → Type 0
PermissiveKept kept reads (typed m) = kept m
PermissiveKept kept reads (as_chunks chunks) = reads chunks ≡ None

-- the parts of an `and` list, each as a language or, if it isn't one, as its chunks
unfoldable pub languages_read : Value → List (Permissive Language)
languages_read chunks = map (λ part. permissive (language_read part) part) (and_list chunks)

-- languages as an `and` list
abbrev pub languages_written : List (Permissive Language) → Value
languages_written languages = parts_written (map (permissive_written language_written) languages)

-- a language, not chunks
abbrev pub IsLanguage : Permissive Language → Type 0
IsLanguage (typed language) = Unit {0}
IsLanguage (as_chunks chunks) = ⊥

-- lists of languages that parse from their written form: at least one, and each is a language
abbrev pub LanguagesKept : List (Permissive Language) → Type 0
LanguagesKept languages = (0 < length languages) × AllByRecursion IsLanguage languages
