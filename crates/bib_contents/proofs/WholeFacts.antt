-- The text of an argument neither begins nor ends with a line break.
use Rattle.std.proofs.Common.{◌≡◌, ℕ, zero, suc, Bool, true, false, not, ◌&&◌, List, [], ◌∷◌, ◌++◌, map, refl, sym, ap, subst, ◌∙◌, append-nil, inl, inr, None, Some}
use Rattle.std.specs.Prelude.{◌==◌}
use Rattle.std.proofs.lemmas.Bool.{cases_Bool, and_parts, and_from, both_ways, eqb-true}
use Rattle.bib_chunks.specs.Formatted.{is_break, flowing, formatted_atoms}
use Rattle.bib_chunks.specs.Styled.{Atom}
use Rattle.bib_text.specs.Runs.{leading_run}
use Rattle.bib_contents.specs.Commands.{command_text}
use Rattle.bib_contents.specs.Contents.{Argument, ContentUnit, Reads, begins, character, dashes, fits, inner_text, is_blank, is_space, meaning, unit_text}
use Rattle.bib_contents.specs.Contents.Reads.{end, next}
use Rattle.bib_contents.proofs.ArgumentReading.{name_plain, dashes_plain, escaped_plain, ordinary_plain, single_plain}
use Rattle.bib_contents.proofs.LaidFacts.{IsCapped, IsLed, ends_in_break, ends_append, flowing_lined, begins_append, capped_plain, capped_given, alone_plain, formatted_append, formatted_normal, formatted_verbatim, led_characters, led_math, space_after}
use Rattle.bib_contents.proofs.UnitFacts.{command_parts, first_unit, unit_first}

-- the formatted atoms of a whole text neither begin nor end with a line break
pub record IsWhole (atoms : List Atom) : Type 0 where
  pub led : IsLed atoms
  pub last : ends_in_break (formatted_atoms false atoms) ≡ false

-- the formatted text of a whole text's atoms neither begins nor ends with a line break
pub whole_capped : {atoms : List Atom} → IsWhole atoms → IsCapped (formatted_atoms false atoms)
whole_capped whole = record { first = whole.led.first; last = whole.last }

-- two lists of atoms that don't begin with a line break don't do so together
led_append : (xs ys : List Atom) → IsLed xs → IsLed ys → IsLed (xs ++ ys)
led_append xs ys one two =
    let parts : (space : Bool) → formatted_atoms space (xs ++ ys) ≡ formatted_atoms false xs ++ formatted_atoms false ys = λ space.
    formatted_append space xs ys ∙ ap (λ cs. cs ++ formatted_atoms (space_after space xs) ys) (one.any space)
    ∙ ap (λ cs. formatted_atoms false xs ++ cs) (two.any (space_after space xs)) in
    record {
      any = λ space. parts space ∙ sym (parts false);
      first = ap (begins is_break) (parts false) ∙ begins_append (formatted_atoms false xs) (formatted_atoms false ys) one.first two.first;
    }

-- whether a unit is a backslash before a line break
abbrev breaks_last : ContentUnit → Bool
breaks_last (ContentUnit.copied c) = is_break c
breaks_last u = false

-- the text of a unit doesn't begin with a line break, and ends with one only if the unit is a backslash before a line break
record HasEnds (u : ContentUnit) (inner : List Atom) : Type 0 where
  first : begins is_break (unit_text u inner) ≡ false
  last : breaks_last u ≡ false → ends_in_break (unit_text u inner) ≡ false

-- `HasEnds` is true of a unit whose text neither begins nor ends with a line break
capped_ends : (u : ContentUnit) (inner : List Atom) → IsCapped (unit_text u inner) → HasEnds u inner
capped_ends u inner capped = record { first = capped.first; last = λ plain. capped.last }

-- outside verbatim fields, each unit that fits has such ends, if its argument in braces is a whole text
unit_ends : (u : ContentUnit) (rest : List ℕ) (inner : List Atom) → fits false u rest ≡ true
    → ((text : List ℕ) → inner_text u ≡ Some text → IsWhole inner) → HasEnds u inner
unit_ends (ContentUnit.hyphens n) rest inner right whole =
    capped_ends (ContentUnit.hyphens n) inner (capped_plain (dashes n) (dashes_plain n))
unit_ends (ContentUnit.spaces cs) rest inner right whole = capped_ends (ContentUnit.spaces cs) inner (capped_plain (32 ∷ []) refl)
unit_ends ContentUnit.opening rest inner right whole = capped_ends ContentUnit.opening inner (capped_plain [] refl)
unit_ends ContentUnit.closing rest inner right whole = capped_ends ContentUnit.closing inner (capped_plain [] refl)
unit_ends (ContentUnit.escaped c) rest inner right whole =
    capped_ends (ContentUnit.escaped c) inner (capped_plain (c ∷ []) (and_from _ _ (escaped_plain c right) refl))
unit_ends ContentUnit.backslash rest inner right whole = capped_ends ContentUnit.backslash inner (capped_plain (92 ∷ []) refl)
unit_ends (ContentUnit.copied c) rest inner right whole = record { first = refl; last = λ plain. plain }
unit_ends (ContentUnit.formula text) rest inner right whole = capped_ends (ContentUnit.formula text) inner (capped_plain [] refl)
unit_ends (ContentUnit.command name space Argument.without) rest inner right whole =
    capped_ends (ContentUnit.command name space Argument.without) inner
    (capped_plain (command_text name None)
    (alone_plain name (name_plain name (command_parts false name space rest Argument.without right).1)))
unit_ends (ContentUnit.command name space Argument.empty) rest inner right whole =
    capped_ends (ContentUnit.command name space Argument.empty) inner
    (capped_given name [] (name_plain name (command_parts false name space rest Argument.empty right).1) record
    { first = refl; last = refl })
unit_ends (ContentUnit.command name space (Argument.single c)) rest inner right whole =
    let parts = command_parts false name space rest (Argument.single c) right in
    capped_ends (ContentUnit.command name space (Argument.single c)) inner
    (capped_given name (c ∷ []) (name_plain name parts.1)
    (capped_plain (c ∷ []) (and_from _ _ (single_plain c parts.4) refl)))
unit_ends (ContentUnit.command name space (Argument.braced text)) rest inner right whole =
    capped_ends (ContentUnit.command name space (Argument.braced text)) inner
    (capped_given name (formatted_atoms false inner)
    (name_plain name (command_parts false name space rest (Argument.braced text) right).1)
    (whole_capped (whole text refl)))
unit_ends (ContentUnit.other c) rest inner right whole =
    capped_ends (ContentUnit.other c) inner (capped_plain (c ∷ []) (and_from _ _ (ordinary_plain c right) refl))

-- the atoms of a unit don't begin with a line break, and end with one only if the unit is a backslash before a line break
record IsAdded (u : ContentUnit) (atoms : List Atom) : Type 0 where
  led : IsLed atoms
  last : breaks_last u ≡ false → ends_in_break (formatted_atoms false atoms) ≡ false

characters_last : (depth : ℕ) (cs : List ℕ) → ends_in_break cs ≡ false
    → ends_in_break (formatted_atoms false (map (character depth) cs)) ≡ false
characters_last zero cs last =
    ap ends_in_break (formatted_normal false cs) ∙ (capped_plain (flowing false cs) (flowing_lined false cs)).last
characters_last (suc depth) cs last = ap ends_in_break (formatted_verbatim false depth cs) ∙ last

added_characters : (depth : ℕ) (u : ContentUnit) (inner : List Atom) → HasEnds u inner
    → IsAdded u (map (character depth) (unit_text u inner))
added_characters depth u inner has = record {
  led = led_characters depth (unit_text u inner) has.first;
  last = λ plain. characters_last depth (unit_text u inner) (has.last plain);
}

-- `IsAdded` is true of the atoms of a unit with such ends
added : (depth : ℕ) (u : ContentUnit) (inner : List Atom) → HasEnds u inner → IsAdded u (meaning depth u inner)
added depth (ContentUnit.hyphens n) inner has = added_characters depth (ContentUnit.hyphens n) inner has
added depth (ContentUnit.spaces cs) inner has = added_characters depth (ContentUnit.spaces cs) inner has
added depth ContentUnit.opening inner has = added_characters depth ContentUnit.opening inner has
added depth ContentUnit.closing inner has = added_characters depth ContentUnit.closing inner has
added depth (ContentUnit.escaped c) inner has = added_characters depth (ContentUnit.escaped c) inner has
added depth ContentUnit.backslash inner has = added_characters depth ContentUnit.backslash inner has
added depth (ContentUnit.copied c) inner has = added_characters depth (ContentUnit.copied c) inner has
added depth (ContentUnit.formula text) inner has = record { led = led_math text; last = λ plain. ends_append (36 ∷ text) 36 [] refl }
added depth (ContentUnit.command name space argument) inner has = added_characters depth (ContentUnit.command name space argument) inner has
added depth (ContentUnit.other c) inner has = added_characters depth (ContentUnit.other c) inner has

-- a text that begins with a line break begins with a unit of white space
next_spaces : (c : ℕ) (rest : List ℕ) → is_break c ≡ true → first_unit false (c ∷ rest) ≡ ContentUnit.spaces (c ∷ leading_run is_space rest)
unfolding is_space
next_spaces c rest breaks = elim (cases_Bool (c == 10)) [
  | inl feed ↦ rw (eqb-true c 10 feed) refl
  | inr other ↦ rw (eqb-true c 13 (rw other at breaks)) refl
]

space_shown : (depth : ℕ) (more : List Atom) → formatted_atoms false (character depth 32 ∷ more) ≡ [] → ⊥
space_shown zero more none = cc
space_shown (suc depth) more none = cc

-- white space isn't formatted to nothing
spaces_shown : (depth : ℕ) (u : ContentUnit) (c : ℕ) (rest : List ℕ) (inner more : List Atom)
    → u ≡ ContentUnit.spaces (c ∷ rest) → formatted_atoms false (meaning depth u inner ++ more) ≡ [] → ⊥
spaces_shown depth u c rest inner more is none =
    space_shown depth more (subst (λ w. formatted_atoms false (meaning depth w inner ++ more) ≡ []) is none)

-- a text that begins with a line break isn't formatted to nothing
some_after : (c : ℕ) (depth : ℕ) (text : List ℕ) (atoms : List Atom) → is_break c ≡ true
    → begins (λ d. d == c) text ≡ true → Reads false depth text atoms → formatted_atoms false atoms ≡ [] → ⊥
some_after c depth [] atoms breaks follows read none = both_ways false refl follows
some_after c depth (d ∷ ds) atoms breaks follows
    (next {u = u} {rest = rest} {inner = inner} {atoms = more} one closable argument read) none =
    let same : d ≡ c = eqb-true d c follows in
    let is : u ≡ ContentUnit.spaces (d ∷ leading_run is_space ds) =
    sym (unit_first false u rest one.fits) ∙ ap (first_unit false) (sym one.spells)
    ∙ next_spaces d ds (rw same breaks) in
    spaces_shown depth u d (leading_run is_space ds) inner more is none

-- the text after a unit for which `breaks_last` is true isn't formatted to nothing
after_break : (u : ContentUnit) (depth : ℕ) (rest : List ℕ) (atoms : List Atom) → breaks_last u ≡ true
    → fits false u rest ≡ true → Reads false depth rest atoms → formatted_atoms false atoms ≡ [] → ⊥
after_break (ContentUnit.copied c) depth rest atoms breaks right read none =
    some_after c depth rest atoms breaks (and_parts (not false && is_blank c) (begins (λ d. d == c) rest) right).1 read none
after_break (ContentUnit.hyphens n) depth rest atoms breaks right read none = both_ways false refl breaks
after_break (ContentUnit.spaces cs) depth rest atoms breaks right read none = both_ways false refl breaks
after_break ContentUnit.opening depth rest atoms breaks right read none = both_ways false refl breaks
after_break ContentUnit.closing depth rest atoms breaks right read none = both_ways false refl breaks
after_break (ContentUnit.escaped c) depth rest atoms breaks right read none = both_ways false refl breaks
after_break ContentUnit.backslash depth rest atoms breaks right read none = both_ways false refl breaks
after_break (ContentUnit.formula text) depth rest atoms breaks right read none = both_ways false refl breaks
after_break (ContentUnit.command name space argument) depth rest atoms breaks right read none = both_ways false refl breaks
after_break (ContentUnit.other c) depth rest atoms breaks right read none = both_ways false refl breaks

-- `xs ++ ys` doesn't end with a line break if `ys` doesn't, `xs` does only if `breaks_last` is true, and `ys` then isn't empty
last_joined : (u : ContentUnit) (xs ys : List ℕ) → (breaks_last u ≡ true → ys ≡ [] → ⊥)
    → (breaks_last u ≡ false → ends_in_break xs ≡ false) → ends_in_break ys ≡ false → ends_in_break (xs ++ ys) ≡ false
last_joined u xs [] some alone last = elim (cases_Bool (breaks_last u)) [
  | inl breaks ↦ absurd (some breaks refl)
  | inr plain ↦ ap ends_in_break (append-nil xs) ∙ alone plain
]
last_joined u xs (y ∷ ys) some alone last = ends_append xs y ys last

-- outside verbatim fields, the parsed atoms of a text neither begin nor end with a line break
pub whole_reads : {depth : ℕ} {text : List ℕ} {atoms : List Atom} → Reads false depth text atoms → IsWhole atoms
whole_reads end = record { led = record { any = λ space. refl; first = refl }; last = refl }
whole_reads {depth} (next {u = u} {rest = rest} {inner = inner} {atoms = more} one closable argument read) =
    let following = whole_reads read in
    let here = added depth u inner (unit_ends u rest inner one.fits (λ text holds. whole_reads (argument text holds))) in
    let joined =
    formatted_append false (meaning depth u inner) more
    ∙ ap (λ cs. formatted_atoms false (meaning depth u inner) ++ cs)
    (following.led.any (space_after false (meaning depth u inner))) in
    record {
      led = led_append (meaning depth u inner) more here.led following.led;
      last =
          ap ends_in_break joined
          ∙ last_joined u (formatted_atoms false (meaning depth u inner)) (formatted_atoms false more)
          (λ breaks none. after_break u _ rest more breaks one.fits read none) here.last following.last;
    }
