-- Kept permissive values parse from their written form.
use Rattle.std.proofs.Common.{◌≡◌, Option, Some, map, List, [], ◌∷◌, refl, ap, sym, ◌∙◌, length, arith}
use Rattle.std.specs.List.{AllByRecursion}
use Rattle.std.specs.Prelude.{ℕ, encode_utf8_all}
use Rattle.std.specs.Str.{chars}
use Rattle.std.proofs.lemmas.Str.{encodes-chars}
use Rattle.bib_chunks.specs.declared.chunk.Chunk.TheVariants.{Verbatim}
use Rattle.bib_chunks.specs.Formatted.{formatted_chars}
use Rattle.bib_tables.specs.declared.types.lang.Language.{Language}
use Rattle.bib_tables.specs.Language.{language_row, language_named}
use Rattle.bib_tables.proofs.LanguageFacts.{language_named-name}
use Rattle.bib_chunks.specs.Values.{Value, text, alone}
use Rattle.bib_values.specs.Enumerations.{language_read, language_written}
use Rattle.bib_chunks.specs.Separated.{parts_written}
use Rattle.bib_values.specs.Permissive.{Permissive, permissive, permissive_written, PermissiveKept, IsLanguage, LanguagesKept, languages_read, languages_written}
use Rattle.bib_values.specs.Permissive.Permissive.{typed, as_chunks}
use Rattle.bib_chunks.proofs.AndListFacts.{parts_format}
use Rattle.bib_values.proofs.EnumFacts.{name_utf8}

-- kept permissive values parse from their written form if the kept values of the type do
pub permissive_survives : {M : Type 0} (reads : Value → Option M) (writes : M → Value) (kept : M → Type 0)
    → ((m : M) → kept m → reads (writes m) ≡ Some m) → (p : Permissive M) → PermissiveKept kept reads p
    → Some (permissive (reads (permissive_written writes p)) (permissive_written writes p)) ≡ Some p
permissive_survives reads writes kept law (typed m) k = ap (λ read. Some (permissive read (writes m))) (law m k)
permissive_survives reads writes kept law (as_chunks chunks) k = ap (λ read. Some (permissive read chunks)) k

-- the display name of a language
abbrev name : Language → List ℕ
name language = (language_row language).name

first_text : List (List ℕ) → List ℕ
first_text [] = []
first_text (t ∷ rest) = t

other_texts : List (List ℕ) → List (List ℕ)
other_texts [] = []
other_texts (t ∷ rest) = rest

-- chunks that format to the name of a language parse as it
read_one : (part : Value) (language : Language) → formatted_chars part ≡ chars (name language)
    → permissive (language_read part) part ≡ typed language
unfolding language_read
read_one part language formats =
    let named : language_named (text part) ≡ Some language =
    ap language_named (ap encode_utf8_all formats ∙ encodes-chars (name language) (name_utf8 language))
    ∙ language_named-name language in
    ap (λ found. permissive found part) named

-- parts that are formatted to the names of languages are parsed as the languages
read_all : (parts : List Value) (languages : List Language) → map formatted_chars parts ≡ map chars (map name languages)
    → map (λ part. permissive (language_read part) part) parts ≡ map (λ language. typed language) languages
unfolding first_text other_texts
read_all [] [] formats = refl
read_all [] (l ∷ languages) formats = absurd (omega (arith, ap length formats))
read_all (p ∷ parts) [] formats = absurd (omega (arith, ap length formats))
read_all (p ∷ parts) (l ∷ languages) formats =
    ap (λ x. x ∷ map (λ part. permissive (language_read part) part) parts) (read_one p l (ap first_text formats))
    ∙ ap (λ xs. typed l ∷ xs) (read_all parts languages (ap other_texts formats))

-- a list of languages without chunks is a list of typed values
languages_of : (values : List (Permissive Language)) → AllByRecursion IsLanguage values
    → (languages : List Language) × (values ≡ map (λ language. typed language) languages)
languages_of [] all = ([], refl)
languages_of (typed language ∷ rest) all =
    let more = languages_of rest all.1 in
    (language ∷ more.0, ap (λ xs. typed language ∷ xs) more.1)
languages_of (as_chunks chunks ∷ rest) all = absurd all.0

-- languages are written as their names, each as one verbatim chunk
written_names : (languages : List Language)
    → map (permissive_written language_written) (map (λ language. typed language) languages)
    ≡ map (λ t. alone (Verbatim t)) (map name languages)
written_names [] = refl
written_names (l ∷ languages) = ap (λ xs. language_written l ∷ xs) (written_names languages)

-- a list of one language or more parses from its written form
typed_survive : (language : Language) (rest : List Language)
    → languages_read (languages_written (map (λ l. typed l) (language ∷ rest))) ≡ map (λ l. typed l) (language ∷ rest)
unfolding languages_read
typed_survive language rest =
    ap (λ parts. languages_read (parts_written parts)) (written_names (language ∷ rest))
    ∙ read_all _ (language ∷ rest) (parts_format (name language) (map name rest))

-- kept languages parse from their written form
pub languages_survive : (values : List (Permissive Language)) → LanguagesKept values
    → Some (languages_read (languages_written values)) ≡ Some values
languages_survive [] kept = absurd (omega (arith, kept.0))
languages_survive (typed language ∷ rest) kept =
    let more = languages_of rest kept.1.1 in
    let same : typed language ∷ rest ≡ map (λ l. typed l) (language ∷ more.0) = ap (λ xs. typed language ∷ xs) more.1 in
    ap (λ x. Some x) (ap (λ xs. languages_read (languages_written xs)) same ∙ typed_survive language more.0 ∙ sym same)
languages_survive (as_chunks chunks ∷ rest) kept = absurd kept.1.0
