-- The first unit of a text: there is at most one.
use Rattle.std.proofs.Common.{◌≡◌, ℕ, zero, suc, ◌-◌, Bool, true, false, not, ◌&&◌, if◌then◌else◌, List, [], ◌∷◌, ◌++◌, length, replicate, refl, ap, ◌∙◌, arith, append_assoc, inl, inr}
use Rattle.std.specs.Prelude.{◌==◌, nat_lt}
use Rattle.std.specs.List.{list_all, list_any}
use Rattle.std.proofs.lemmas.Bool.{and_parts, not-true, ne_eqb, eqb-true, both_ways, or_parts, cases_Bool}
use Rattle.std.proofs.lemmas.List.{length-replicate}
use Rattle.bib_chunks.specs.Written.{is_grouping, is_reserved}
use Rattle.bib_text.specs.Runs.{leading_run, rest_after}
use Rattle.bib_contents.specs.Contents.{is_escapable, ContentUnit, Argument, is_escaped, is_space, is_blank, is_name_character, is_sign, is_ordinary, begins, is_empty, balances, argument_spelling, unit_spelling, is_name, is_whole_name, takes_next, is_argument, fits}

-- the characters before the brace that closes `depth` open ones and one more, or all characters if there is no such brace
abbrev pub braces : ℕ → List ℕ → List ℕ
braces depth [] = []
braces depth (c ∷ cs) =
    if c == 123 then c ∷ braces (suc depth) cs
    else if c == 125 then (if nat_lt 0 depth then c ∷ braces (depth - 1) cs else [])
    else c ∷ braces depth cs

-- the argument with which the text after a command's name and white space begins
abbrev pub first_argument : Bool → Bool → List ℕ → Argument
first_argument takes spaced [] = if takes then Argument.empty else Argument.without
first_argument takes spaced (c ∷ cs) =
    if c == 123 then (if spaced then Argument.without else Argument.braced (braces 0 cs))
    else if takes then Argument.single c
    else Argument.without

-- the command with this name and white space, before the rest of a text
abbrev pub command_of : List ℕ → List ℕ → List ℕ → ContentUnit
command_of name space rest = ContentUnit.command name space (first_argument (takes_next name space) (not (is_empty space)) rest)

-- the command with this name, with the white space at the start of the rest of a text
abbrev pub first_command : List ℕ → List ℕ → ContentUnit
first_command name rest = command_of name (leading_run is_space rest) (rest_after is_space rest)

-- the unit that begins with a backslash, given the text after it
abbrev pub first_escape : Bool → List ℕ → ContentUnit
first_escape is_verbatim [] = ContentUnit.backslash
first_escape is_verbatim (c ∷ cs) =
    if is_escaped is_verbatim c then ContentUnit.escaped c
    else if is_verbatim then ContentUnit.backslash
    else if is_blank c then ContentUnit.copied c
    else if is_sign c then first_command (c ∷ []) cs
    else first_command (c ∷ leading_run is_name_character cs) (rest_after is_name_character cs)

-- the unit with which a text begins; for an empty text, an opening brace
abbrev pub first_unit : Bool → List ℕ → ContentUnit
first_unit is_verbatim [] = ContentUnit.opening
first_unit is_verbatim (c ∷ cs) =
    if c == 92 then first_escape is_verbatim cs
    else if c == 123 then ContentUnit.opening
    else if c == 125 then ContentUnit.closing
    else if c == 36 && not is_verbatim then ContentUnit.formula (leading_run (λ d. not (d == 36)) cs)
    else if c == 45 then ContentUnit.hyphens (suc (length (leading_run (λ d. d == 45) cs)))
    else if is_space c then ContentUnit.spaces (c ∷ leading_run is_space cs)
    else ContentUnit.other c

-- characters that pass a test, before one that fails it, are the leading run
pub prefix_run : (test : ℕ → Bool) (cs rest : List ℕ) → list_all test cs ≡ true → begins test rest ≡ false
    → leading_run test (cs ++ rest) ≡ cs
prefix_run test [] [] all stops = refl
prefix_run test [] (d ∷ ds) all stops = rw stops refl
prefix_run test (c ∷ cs) rest all stops =
    let parts = and_parts (test c) (list_all test cs) all in
    rw parts.0 (ap (λ xs. c ∷ xs) (prefix_run test cs rest parts.1 stops))

-- the rest after the longest run of characters that pass a test
pub after_run : (test : ℕ → Bool) (cs rest : List ℕ) → list_all test cs ≡ true → begins test rest ≡ false
    → rest_after test (cs ++ rest) ≡ rest
after_run test [] [] all stops = refl
after_run test [] (d ∷ ds) all stops = rw stops refl
after_run test (c ∷ cs) rest all stops =
    let parts = and_parts (test c) (list_all test cs) all in
    rw parts.0 (after_run test cs rest parts.1 stops)

-- the text in a pair of braces is found
pub braces_run : (depth : ℕ) (cs rest : List ℕ) → balances depth cs ≡ true → braces depth (cs ++ 125 ∷ rest) ≡ cs
braces_run depth [] rest balanced = rw (eqb-true depth 0 balanced) refl
braces_run depth (c ∷ cs) rest balanced =
    elim (cases_Bool (c == 123)) [
      | inl opens ↦ rw opens (ap (λ xs. c ∷ xs) (braces_run (suc depth) cs rest (rw opens at balanced)))
      | inr opens ↦
          elim (cases_Bool (c == 125)) [
            | inl closes ↦
                let parts = and_parts (nat_lt 0 depth) (balances (depth - 1) cs) (rw (opens, closes) at balanced) in
                rw (opens, closes, parts.0) (ap (λ xs. c ∷ xs) (braces_run (depth - 1) cs rest parts.1))
            | inr closes ↦ rw (opens, closes) (ap (λ xs. c ∷ xs) (braces_run depth cs rest (rw (opens, closes) at balanced)))
          ]
    ]

-- a character that passes a test differs from one that fails it
pub other_than : (test : ℕ → Bool) (c k : ℕ) → test c ≡ true → test k ≡ false → (c == k) ≡ false
other_than test c k passes fails = ne_eqb c k (λ same. both_ways (test k) fails (rw same at passes))

-- hyphens before another character are the longest run of them
pub hyphens_run : (n : ℕ) (rest : List ℕ) → begins (λ c. c == 45) rest ≡ false
    → leading_run (λ c. c == 45) (replicate n 45 ++ rest) ≡ replicate n 45
hyphens_run zero rest stops = prefix_run (λ c. c == 45) [] rest refl stops
hyphens_run (suc n) rest stops = ap (λ xs. 45 ∷ xs) (hyphens_run n rest stops)

-- the argument before the rest of a text is found
pub argument_first : (takes spaced : Bool) (argument : Argument) (rest : List ℕ) → is_argument takes spaced argument rest ≡ true
    → first_argument takes spaced (argument_spelling argument ++ rest) ≡ argument
argument_first takes spaced Argument.without [] right = rw (not-true takes right) refl
argument_first takes spaced Argument.without (c ∷ cs) right =
    elim (cases_Bool (c == 123)) [
      | inl opens ↦ rw (opens, rw opens at right) refl
      | inr opens ↦ rw (opens, not-true takes (rw opens at right)) refl
    ]
argument_first takes spaced Argument.empty [] right = rw (and_parts takes true right).0 refl
argument_first takes spaced Argument.empty (c ∷ cs) right = absurd (both_ways false refl (and_parts takes false right).1)
argument_first takes spaced (Argument.single c) rest right =
    let parts = and_parts takes (not (c == 123)) right in
    rw (not-true (c == 123) parts.1, parts.0) refl
argument_first takes spaced (Argument.braced text) rest right =
    let parts = and_parts (not spaced) (balances 0 text) right in
    rw (not-true spaced parts.0, append_assoc text (125 ∷ []) rest) (ap Argument.braced (braces_run 0 text rest parts.1))

-- the white space and the argument after a command's name are found
pub command_first : (name space rest : List ℕ) (argument : Argument) → list_all is_space space ≡ true
    → begins is_space (argument_spelling argument ++ rest) ≡ false
    → is_argument (takes_next name space) (not (is_empty space)) argument rest ≡ true
    → first_command name (space ++ (argument_spelling argument ++ rest)) ≡ ContentUnit.command name space argument
command_first name space rest argument white stops right =
    let more = argument_spelling argument ++ rest in
    ap (λ xs. command_of name xs (rest_after is_space (space ++ more))) (prefix_run is_space space more white stops)
    ∙ ap (λ xs. command_of name space xs) (after_run is_space space more white stops)
    ∙ ap (ContentUnit.command name space) (argument_first (takes_next name space) (not (is_empty space)) argument rest right)

-- white space differs from the characters that begin other units
space_apart : (c : ℕ) → is_space c ≡ true
    → (c == 92 ≡ false) × (c == 123 ≡ false) × (c == 125 ≡ false) × (c == 36 ≡ false) × (c == 45 ≡ false)
unfolding is_space
space_apart c white = (
  other_than is_space c 92 white refl,
  other_than is_space c 123 white refl,
  other_than is_space c 125 white refl,
  other_than is_space c 36 white refl,
  other_than is_space c 45 white refl,
)

-- white space and control characters are not escaped
blank_apart : (c : ℕ) → is_blank c ≡ true → is_escaped false c ≡ false
unfolding is_blank is_escaped is_escapable is_grouping is_reserved
blank_apart c blank =
    let apart = other_than is_blank c in
    rw (
      apart 123 blank refl,
      apart 125 blank refl,
      apart 92 blank refl,
      apart 35 blank refl,
      apart 38 blank refl,
      apart 37 blank refl,
      apart 36 blank refl,
      apart 95 blank refl,
      apart 126 blank refl,
      apart 94 blank refl,
      apart 58 blank refl,
    ) refl

-- an ordinary character differs from those that begin other units
ordinary_apart : (is_verbatim : Bool) (c : ℕ) → is_ordinary is_verbatim c ≡ true
    → (c == 92 ≡ false) × (c == 123 ≡ false) × (c == 125 ≡ false) × (c == 36 && not is_verbatim ≡ false)
    × (c == 45 ≡ false) × (is_space c ≡ false)
unfolding is_ordinary is_grouping
ordinary_apart is_verbatim c ordinary = grind arith

none_any : (text : List ℕ) → list_any (λ c. c == 36) text ≡ false → list_all (λ d. not (d == 36)) text ≡ true
none_any [] none = refl
none_any (c ∷ cs) none =
    let parts = or_parts (c == 36) (list_any (λ c. c == 36) cs) none in
    rw parts.0 (none_any cs parts.1)

-- a name that isn't a sign is found as a whole
name_first : (c : ℕ) (cs tail : List ℕ) (u : ContentUnit) → list_all is_name_character cs ≡ true
    → begins is_name_character tail ≡ false → first_command (c ∷ cs) tail ≡ u
    → first_command (c ∷ leading_run is_name_character (cs ++ tail)) (rest_after is_name_character (cs ++ tail)) ≡ u
name_first c cs tail u named stops found =
    ap (λ xs. first_command (c ∷ xs) (rest_after is_name_character (cs ++ tail))) (prefix_run is_name_character cs tail named stops)
    ∙ ap (first_command (c ∷ cs)) (after_run is_name_character cs tail named stops)
    ∙ found

-- a name that begins with a sign is that sign
sign_first : (c : ℕ) (tail : List ℕ) {u : ContentUnit} (cs : List ℕ) → is_empty cs ≡ true
    → first_command (c ∷ cs) tail ≡ u → first_command (c ∷ []) (cs ++ tail) ≡ u
sign_first c tail [] none found = found
sign_first c tail (d ∷ ds) none found = absurd (both_ways false refl none)

-- outside verbatim fields, a command is found after its backslash
pub escape_first : (c : ℕ) (cs tail : List ℕ) (u : ContentUnit) → is_name (c ∷ cs) ≡ true
    → is_whole_name (c ∷ cs) tail ≡ true → first_command (c ∷ cs) tail ≡ u
    → first_escape false (c ∷ (cs ++ tail)) ≡ u
escape_first c cs tail u name whole found =
    let parts =
    and_parts (not (is_escaped false c) && not (is_blank c))
    (if is_sign c then is_empty cs else list_all is_name_character cs) name in
    let plain = and_parts (not (is_escaped false c)) (not (is_blank c)) parts.0 in
    rw (not-true _ plain.0, not-true _ plain.1)
    (elim (cases_Bool (is_sign c)) [
      | inl sign ↦ rw sign (sign_first c tail cs (rw sign at parts.1) found)
      | inr plain_name ↦ rw plain_name (name_first c cs tail u (rw plain_name at parts.1) (not-true _ (rw plain_name at whole)) found)
    ])

-- the conditions of a command that fits
pub command_parts : (is_verbatim : Bool) (name space rest : List ℕ) (argument : Argument)
    → fits is_verbatim (ContentUnit.command name space argument) rest ≡ true
    → (is_verbatim ≡ false) × (is_name name ≡ true)
    × (is_whole_name name (space ++ (argument_spelling argument ++ rest)) ≡ true) × (list_all is_space space ≡ true)
    × (begins is_space (argument_spelling argument ++ rest) ≡ false)
    × (is_argument (takes_next name space) (not (is_empty space)) argument rest ≡ true)
command_parts is_verbatim name space rest argument right =
    let a5 = and_parts _ (is_argument (takes_next name space) (not (is_empty space)) argument rest) right in
    let a4 = and_parts _ (not (begins is_space (argument_spelling argument ++ rest))) a5.0 in
    let a3 = and_parts _ (list_all is_space space) a4.0 in
    let a2 = and_parts _ (is_whole_name name (space ++ (argument_spelling argument ++ rest))) a3.0 in
    let a1 = and_parts (not is_verbatim) (is_name name) a2.0 in
    (not-true is_verbatim a1.0, a1.1, a2.1, a3.1, not-true _ a4.1, a5.1)

-- if a text begins with a unit, `first_unit` is this unit
pub unit_first : (is_verbatim : Bool) (u : ContentUnit) (rest : List ℕ) → fits is_verbatim u rest ≡ true
    → first_unit is_verbatim (unit_spelling u ++ rest) ≡ u
unit_first is_verbatim (ContentUnit.hyphens zero) rest right = absurd (both_ways false refl right)
unit_first is_verbatim (ContentUnit.hyphens (suc n)) rest right =
    let parts = and_parts (nat_lt 0 (suc n)) (not (begins (λ c. c == 45) rest)) right in
    ap (λ xs. ContentUnit.hyphens (suc (length xs))) (hyphens_run n rest (not-true _ parts.1))
    ∙ ap (λ m. ContentUnit.hyphens (suc m)) (length-replicate n 45)
unit_first is_verbatim (ContentUnit.spaces []) rest right = absurd (both_ways false refl right)
unit_first is_verbatim (ContentUnit.spaces (c ∷ cs)) rest right =
    let parts = and_parts (list_all is_space (c ∷ cs)) (not (begins is_space rest)) right in
    let all = and_parts (is_space c) (list_all is_space cs) parts.0 in
    let apart = space_apart c all.0 in
    rw (apart.0, apart.1, apart.2, apart.3, apart.4, all.0)
    (ap (λ xs. ContentUnit.spaces (c ∷ xs)) (prefix_run is_space cs rest all.1 (not-true _ parts.1)))
unit_first is_verbatim ContentUnit.opening rest right = refl
unit_first is_verbatim ContentUnit.closing rest right = refl
unit_first is_verbatim (ContentUnit.escaped c) rest right = rw right refl
unit_first is_verbatim ContentUnit.backslash [] right = refl
unit_first is_verbatim ContentUnit.backslash (c ∷ cs) right =
    let parts = and_parts is_verbatim (not (is_escaped true c)) right in
    rw (parts.0, not-true _ parts.1) refl
unit_first is_verbatim (ContentUnit.copied c) [] right =
    absurd (both_ways false refl (and_parts (not is_verbatim && is_blank c) false right).1)
unit_first is_verbatim (ContentUnit.copied c) (d ∷ ds) right =
    let parts = and_parts (not is_verbatim && is_blank c) (d == c) right in
    let first = and_parts (not is_verbatim) (is_blank c) parts.0 in
    rw (not-true is_verbatim first.0, eqb-true d c parts.1, blank_apart c first.1, first.1) refl
unit_first is_verbatim (ContentUnit.formula text) rest right =
    let parts = and_parts (not is_verbatim) (not (list_any (λ c. c == 36) text)) right in
    rw (not-true is_verbatim parts.0, append_assoc text (36 ∷ []) rest)
    (ap ContentUnit.formula (prefix_run (λ d. not (d == 36)) text (36 ∷ rest) (none_any text (not-true _ parts.1)) refl))
unit_first is_verbatim (ContentUnit.command [] space argument) rest right =
    absurd (both_ways false refl (command_parts is_verbatim [] space rest argument right).1)
unit_first is_verbatim (ContentUnit.command (c ∷ cs) space argument) rest right =
    let parts = command_parts is_verbatim (c ∷ cs) space rest argument right in
    let joined : cs ++ (space ++ argument_spelling argument) ++ rest ≡ cs ++ (space ++ (argument_spelling argument ++ rest)) =
    append_assoc cs (space ++ argument_spelling argument) rest
    ∙ ap (λ xs. cs ++ xs) (append_assoc space (argument_spelling argument) rest) in
    rw (parts.0, joined)
    (escape_first c cs (space ++ (argument_spelling argument ++ rest)) (ContentUnit.command (c ∷ cs) space argument)
    parts.1 parts.2 (command_first (c ∷ cs) space rest argument parts.3 parts.4 parts.5))
unit_first is_verbatim (ContentUnit.other c) rest right =
    let apart = ordinary_apart is_verbatim c right in
    rw (apart.0, apart.1, apart.2, apart.3, apart.4) (rw (apart.5) refl)
