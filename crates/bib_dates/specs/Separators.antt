-- Meaning: words of public contracts.
-- Hyphens and colons between the parts of a date, with white space before them.
use Rattle.std.specs.Prelude.{ℕ, ◌==◌}
use Rattle.std.specs.Char.{is_whitespace}
use Rattle.bib_tables.specs.declared.type_error.TypeError.{TypeError}
use Rattle.bib_tables.specs.declared.type_error.TypeErrorKind.TheVariants.{InvalidFormat}
use Rattle.bib_text.specs.Places.{Place, CharAt, Longest}
use Rattle.bib_text.specs.Characters as char

-- the text from `u` to `v` is white space and at least one hyphen, each the longest run
pub record IsHyphens (u v : Place) : Type 0 where
  pub after_white : Place
  pub after_first : Place
  pub white : Longest is_whitespace u after_white
  pub first : CharAt after_white char.hyphen after_first
  pub more : Longest (λ c. c == char.hyphen) after_first v

-- the text from `u` to `v` is the longest run of white space and a colon
pub record IsColon (u v : Place) : Type 0 where
  pub after_white : Place
  pub white : Longest is_whitespace u after_white
  pub colon : CharAt after_white char.colon v

-- the text from `u` to `v` is the longest run of white space, and this character doesn't follow it
pub record IsWithout (c : ℕ) (u v : Place) : Type 0 where
  pub white : Longest is_whitespace u v
  pub none : (w : Place) → CharAt v c w → ⊥

-- the error of a missing sign, with the span of the white space from `u` to `v`
abbrev pub no_sign : Place → Place → TypeError
no_sign u v = record { span = record { start = u.at; end = v.at }; kind = InvalidFormat }
