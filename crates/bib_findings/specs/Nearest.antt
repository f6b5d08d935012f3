-- Meaning: words of public contracts.
-- Suggestions: the known name that an unknown one may mean.
use Rattle.std.specs.Prelude.{ℕ, ◌-◌, ◌==◌, Bool, false, not, ◌&&◌, List, ◌∷◌, ◌++◌, bytes_eq, codes, drop, find, length, nat_eq, nat_le, Option, if◌then◌else◌}
use Rattle.std.specs.List.{ends_with, list_any, starts_with}
use Rattle.std.specs.Str.{chars, str_eq_ignore_ascii_case}
use Rattle.strsim.specs.Edits.{osa_table}
use Rattle.bib_tables.specs.Requirements.{Names}
use Rattle.bib_findings.specs.EntryNames.{entry_name}

-- whether a list contains a name, in any ASCII case
abbrev pub is_known_name : Names → List ℕ → Bool
is_known_name names name = list_any (λ known. str_eq_ignore_ascii_case known name) names

-- the distance of two names: the least number of characters to insert, remove or replace, or of neighbours to swap, if no part is changed
-- twice (optimal string alignment)
abbrev pub distance : List ℕ → List ℕ → ℕ
distance name other = (osa_table (chars name) (chars other)).last_row (length (chars other))

-- whether two texts begin with the same byte
abbrev pub begin_alike : List ℕ → List ℕ → Bool
begin_alike (b ∷ bs) (c ∷ cs) = b == c
begin_alike _ _ = false

-- whether the lengths of two texts in bytes differ by at most one
abbrev pub are_of_like_length : List ℕ → List ℕ → Bool
are_of_like_length name known = nat_le (length name - length known) 1 && nat_le (length known - length name) 1

-- whether a name is a known one, maybe with other characters before or after it, and isn't its plural. Such a name, for example `fjournal`,
-- is someone's own and no typing error.
abbrev pub is_extension : List ℕ → List ℕ → Bool
is_extension name known =
    if starts_with nat_eq name known then not (bytes_eq (drop (length known) name) (codes "s")) else ends_with nat_eq name known

-- whether a name may be a typing error for a known one, with one edit. A name of fewer than four bytes is like another by chance
abbrev pub is_plausible : List ℕ → List ℕ → Bool
is_plausible name known =
    nat_le 4 (length name) && begin_alike name known && are_of_like_length name known && not (is_extension name known)
    && nat_le (distance name known) 1

-- the first of the known names for which a name may be a typing error
abbrev pub suggestion : Names → List ℕ → Option (List ℕ)
suggestion all name = find (is_plausible name) all

-- the message about an unknown name of the entry with this key, with the known name that is suggested. `wrong` says what is unknown, such
-- as `unknown field`
abbrev pub unknown_message : List ℕ → List ℕ → List ℕ → List ℕ → List ℕ
unknown_message key wrong name known =
    entry_name key ++ (codes ": " ++ (wrong ++ (codes " `" ++ (name ++ (codes "`; did you mean `" ++ (known ++ codes "`?"))))))
