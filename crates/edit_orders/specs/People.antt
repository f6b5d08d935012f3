-- Meaning: words of public contracts.
-- Names of people as they are compared: by family name, given name, suffix and prefix, as Biber does.
use Rattle.std.specs.Prelude.{ℕ, Bool, true, false, List, [], ◌∷◌, ◌++◌, Option, None, Some, bytes_eq, codes, if◌then◌else◌}
use Rattle.bib_people.specs.declared.person.Person.{Person}
use Rattle.edit_orders.specs.Letters.{sort_text}

-- a family name, after a prefix if the flag says that the prefix is part of it
abbrev pub family_by : Option Bool → List ℕ → List ℕ → List ℕ
family_by (Some true) prefix name = prefix ++ (codes " " ++ name)
family_by (Some false) prefix name = name
family_by None prefix name = name

-- the family name of a person, after the prefix if that is part of it (`useprefix=true` in the extended name format)
abbrev pub sort_family : Person → List ℕ
sort_family p = family_by p.use_prefix p.prefix p.name

-- a text as it is compared
abbrev pub person_part : List ℕ → List (List ℕ)
person_part text = sort_text text ∷ []

-- the texts by which a person is compared; a person with the family name `others` has none
abbrev pub person_texts : Person → List (List ℕ)
person_texts p =
    if bytes_eq p.name (codes "others") then []
    else person_part (sort_family p) ++ (person_part p.given_name ++ (person_part p.suffix ++ person_part p.prefix))
