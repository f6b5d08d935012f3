-- Machinery: words of private contracts.
-- The types of the program as those of the definitions.
use Rattle.std.specs.Prelude.{◌≡◌, ℕ, ◌+◌, ◌<◌, Bool, true, List, length, take, drop}
use Rattle.std.specs.List.{list_any, before_last, after_last}
use Rattle.std.specs.Str.{IsCharBoundary}
use Rattle.bib_people.specs.declared.person.cuts.Kind.{Kind}
use Rattle.bib_people.specs.declared.person.cuts.Kind.TheVariants.{Capital, Lower, Low}
use Rattle.bib_people.specs.declared.person.cuts.Cuts.{Cuts as TheCuts}
use Rattle.bib_people.specs.Letters.{Word}
use Rattle.bib_people.specs.Names.{Cuts, is_capital, is_lower, is_low, is_space_byte}

-- the test of words for a kind
abbrev pub is_of : Kind → Word → Bool
is_of Capital = is_capital
is_of Lower = is_lower
is_of Low = is_low

-- the cuts of the program as those of the definitions
abbrev pub cuts_of : TheCuts → Cuts
cuts_of cuts = record { given = cuts.given; prefix = cuts.prefix }

-- `at` is the byte offset of the last space of a text
pub record IsLastSpace (text : List ℕ) (at : ℕ) : Type 0 where
  pub some : list_any is_space_byte text ≡ true
  pub within : at < length text
  pub before : before_last is_space_byte text ≡ take at text
  pub after : after_last is_space_byte text ≡ drop (at + 1) text
  pub boundary : IsCharBoundary text at
  pub next : IsCharBoundary text (at + 1)
