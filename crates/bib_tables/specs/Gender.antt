-- Meaning: words of public contracts.
-- Gender and number, from the BibLaTeX manual's values for `gender`.
use Rattle.std.specs.Prelude.{ℕ, Bool, true, false, List, [], ◌∷◌, Option, None, Some, codes, if◌then◌else◌}
use Rattle.std.specs.List.{list_all}
use Rattle.bib_tables.specs.declared.types.Gender.{Gender}
use Rattle.bib_tables.specs.declared.types.Gender.TheVariants.{SingularFemale, SingularMale, SingularNeuter, PluralFemale, PluralMale, PluralNeuter}

-- the name by which a gender is written: the name of its variant
abbrev pub gender_name : Gender → List ℕ
gender_name SingularFemale = codes "SingularFemale"
gender_name SingularMale = codes "SingularMale"
gender_name SingularNeuter = codes "SingularNeuter"
gender_name PluralFemale = codes "PluralFemale"
gender_name PluralMale = codes "PluralMale"
gender_name PluralNeuter = codes "PluralNeuter"

-- the plural of the same gender
abbrev pub plural_of : Gender → Gender
plural_of SingularFemale = PluralFemale
plural_of SingularMale = PluralMale
plural_of SingularNeuter = PluralNeuter
plural_of PluralFemale = PluralFemale
plural_of PluralMale = PluralMale
plural_of PluralNeuter = PluralNeuter

-- the singular of the same gender
abbrev pub singular_of : Gender → Gender
singular_of SingularFemale = SingularFemale
singular_of SingularMale = SingularMale
singular_of SingularNeuter = SingularNeuter
singular_of PluralFemale = SingularFemale
singular_of PluralMale = SingularMale
singular_of PluralNeuter = SingularNeuter

-- whether a gender is female, in the singular or in the plural
abbrev pub is_female : Gender → Bool
is_female SingularFemale = true
is_female PluralFemale = true
is_female _ = false

-- whether a gender is male, in the singular or in the plural
abbrev pub is_male : Gender → Bool
is_male SingularMale = true
is_male PluralMale = true
is_male _ = false

-- the plural of a group: female if all are female, otherwise male if all are male, and otherwise neuter
abbrev pub group_gender : List Gender → Gender
group_gender genders = if list_all is_female genders then PluralFemale else if list_all is_male genders then PluralMale else PluralNeuter

-- the gender of a list: `None` if it is empty, its element if it has one, and otherwise the plural of the group
abbrev pub coalesced_gender : List Gender → Option Gender
coalesced_gender [] = None
coalesced_gender (gender ∷ []) = Some gender
coalesced_gender genders = Some (group_gender genders)
