-- Meaning: words of public contracts.
-- The citations of a document in the .aux file that LaTeX writes, or in the .bcf file that BibLaTeX writes for Biber.
use Rattle.std.specs.Prelude.{◌≡◌, ℕ, ◌+◌, ◌==◌, ◌||◌, Bool, if◌then◌else◌, List, [], ◌∷◌, ◌++◌, bytes_eq, codes, fold, length, map}
use Rattle.std.specs.List.{flat_map, list_any, slice_split}
use Rattle.bib_text.specs.Characters as char
use Rattle.bib_queries.specs.Elements.{element_keys, set_names}
use Rattle.bib_queries.specs.Lines.{aux_cited}
use Rattle.bib_queries.specs.Needed.{is_listed}
use Rattle.bib_queries.specs.declared.citations.Citation.{Citation}
use Rattle.bib_queries.specs.declared.citations.Citations.{Citations}

-- a key, or no key if it is among these names
abbrev pub unlisted_key : List (List ℕ) → List ℕ → List (List ℕ)
unlisted_key names key = if is_listed names key then [] else key ∷ []

-- the keys that are not among these names
abbrev pub unlisted_keys : List (List ℕ) → List (List ℕ) → List (List ℕ)
unlisted_keys names keys = flat_map (unlisted_key names) keys

-- the keys that an element of a control file cites, except the names of these sets, because Biber makes the entry of a set itself
abbrev pub bcf_cited : List (List ℕ) → List ℕ → List (List ℕ)
bcf_cited sets piece = unlisted_keys sets (element_keys piece)

-- the citations of these keys at an offset
abbrev pub cites_at : ℕ → List (List ℕ) → List Citation
cites_at at keys = map (λ key. record { key = key; at = at }) keys

-- the citations of pieces of a file, separated by one byte each; `cited` says which keys a piece cites
abbrev pub cites_from : (List ℕ → List (List ℕ)) → ℕ → List (List ℕ) → List Citation
cites_from cited at [] = []
cites_from cited at (piece ∷ rest) = cites_at at (cited piece) ++ cites_from cited (at + (length piece + 1)) rest

-- whether these citations cite all entries: one has the key `*`
abbrev pub cites_all : List Citation → Bool
cites_all cites = list_any (λ c. bytes_eq c.key (codes "*")) cites

-- the citations with one more, unless its key is cited already or is `*`
abbrev pub add_citation : List Citation → Citation → List Citation
add_citation keys c = if bytes_eq c.key (codes "*") || list_any (λ k. bytes_eq k.key c.key) keys then keys else keys ++ c ∷ []

-- the first citation of each key, except the key `*`
abbrev pub first_citations : List Citation → List Citation
first_citations cites = fold add_citation [] cites

-- whether `found` are the citations of `text`, whose pieces are separated by one byte each; `cited` returns the keys of a piece
pub record AreCitations (cited : List ℕ → List (List ℕ)) (separates : ℕ → Bool) (text : List ℕ) (found : Citations) : Type 0 where
  pub keys : found.keys.items ≡ first_citations (cites_from cited 0 (slice_split separates text))
  pub all : found.all ≡ cites_all (cites_from cited 0 (slice_split separates text))

-- whether `found` are the citations of an .aux file with this text
abbrev pub AreAuxCitations : List ℕ → Citations → Type 0
AreAuxCitations text found = AreCitations aux_cited (λ b. b == char.line_feed) text found

-- whether `found` are the citations of a control file with this text
abbrev pub AreBcfCitations : List ℕ → Citations → Type 0
AreBcfCitations text found = AreCitations (bcf_cited (set_names text)) (λ b. b == char.less) text found
