-- Meaning: words of public contracts.
-- Verbatim fields, as the Rust crate `biblatex` lists them.
use Rattle.std.specs.Prelude.{ℕ, Bool, List, [], ◌∷◌, codes, bytes_eq}
use Rattle.std.specs.List.{list_any}

-- The names of the verbatim fields. In their values only hyphens, white space, braces, and a backslash before a brace, a
-- backslash or a colon have a meaning.
abbrev pub verbatim_fields : List (List ℕ)
verbatim_fields =
    codes "file" ∷ codes "doi" ∷ codes "uri" ∷ codes "eprint" ∷ codes "verba" ∷ codes "verbb" ∷ codes "verbc" ∷ codes "pdf" ∷ codes "url"
    ∷ codes "urlraw" ∷ []

-- whether `key` is exactly the name of a verbatim field
abbrev pub is_verbatim_field : List ℕ → Bool
is_verbatim_field key = list_any (bytes_eq key) verbatim_fields
