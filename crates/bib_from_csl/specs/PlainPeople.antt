-- Meaning: words of public contracts.
-- Names that are parsed back from their written form.
use Rattle.std.specs.Prelude.{◌≡◌, ℕ, ◌<◌, ◌==◌, Bool, false, true, not, List, [], ◌∷◌, length, codes, bytes_eq}
use Rattle.std.specs.List.{list_all, list_any}
use Rattle.std.specs.Str.{chars, IsUtf8}
use Rattle.bib_text.specs.Characters as char
use Rattle.bib_people.specs.Kept.{AreWords, is_capital_letter, is_name_byte, is_small_letter}
use Rattle.bib_csl.specs.declared.item.Name.{Name}
use Rattle.bib_csl.specs.declared.item.Name.TheVariants.{Literal, Parts}
use Rattle.bib_csl.specs.declared.item.NameParts.{NameParts}
use Rattle.bib_from_csl.specs.Values.{has_and}
use Rattle.bib_from_csl.specs.WrittenPeople.{particle}

-- a name without parts that isn't empty, has no tilde and isn't the word `others`
pub record IsPlainLiteral (text : List ℕ) : Type 0 where
  pub some : 0 < length text
  pub utf8 : IsUtf8 text
  pub untied : list_any (λ c. c == char.tilde) (chars text) ≡ false
  pub other : bytes_eq text (codes "others") ≡ false

-- a name with a family name and a given name. All words are of ASCII letters, points and hyphens, with single spaces between them, and none
-- is `and` in any ASCII case. Those of the family name begin with capital letters, and those of the particle with lowercase letters. There
-- is no other particle than the one that the entry can write as a prefix.
pub record IsPlainParts (uses_prefix : Bool) (p : NameParts) : Type 0 where
  pub family : AreWords is_capital_letter p.family
  pub given_name : AreWords is_name_byte p.given
  pub suffix : AreWords is_name_byte p.suffix
  pub prefix : AreWords is_small_letter (particle uses_prefix p)
  pub no_and : list_all (λ t. not (has_and t)) (p.family ∷ p.given ∷ p.suffix ∷ particle uses_prefix p ∷ []) ≡ true
  pub has_family : 0 < length p.family
  pub has_given : 0 < length p.given
  pub no_other : particle (not uses_prefix) p ≡ []

-- a plain name, which is parsed back; the flag says whether prefixes are part of family names in the entry
abbrev pub IsPlainName : Bool → Name → Type 0
IsPlainName uses_prefix (Literal text) = IsPlainLiteral text
IsPlainName uses_prefix (Parts p) = IsPlainParts uses_prefix p

-- plain names, which are parsed back; the flag says whether prefixes are part of family names in the entry
abbrev pub ArePlainNames : Bool → List Name → Type 0
ArePlainNames uses_prefix [] = Unit {0}
ArePlainNames uses_prefix (name ∷ names) = IsPlainName uses_prefix name × ArePlainNames uses_prefix names
