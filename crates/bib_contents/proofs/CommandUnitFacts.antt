-- Facts about the commands that a cursor consumes.
use Rattle.std.proofs.Common.{◌≡◌, ℕ, Bool, true, false, not, ◌&&◌, ◌||◌, List, [], ◌∷◌, ◌++◌, length, refl, sym, ap, ◌∙◌, subst, arith, append_assoc, Option, None, Some, MatchOption}
use Rattle.std.specs.Prelude.{◌==◌, encode_utf8_all}
use Rattle.std.specs.List.{list_all}
use Rattle.std.specs.Str.{chars, IsUtf8}
use Rattle.std.proofs.lemmas.Bool.{and_parts, both_ways, not-true, not-false, ne_eqb, eqb-true}
use Rattle.std.proofs.lemmas.List.{append_cancel_left}
use Rattle.std.proofs.lemmas.Str.{encodes-chars, chars-nil}
use Rattle.bib_text.specs.Places.{Place}
use Rattle.bib_chunks.specs.Written.{is_grouping}
use Rattle.bib_text.specs.Runs.{leading_run, rest_after}
use Rattle.bib_contents.specs.ContentErrors.{UnitFails}
use Rattle.bib_contents.specs.Contents.{ContentUnit, balances, is_ordinary, Argument, is_escaped, is_space, is_blank, is_name_character, is_sign, is_mark, is_accent_letter, begins, is_empty, argument_spelling, is_name, is_whole_name, takes_next, is_argument, IsNext}
use Rattle.bib_contents.specs.Progress.{left, Passes}
use Rattle.bib_contents.proofs.UnitFacts.{first_unit, first_argument, command_of, unit_first, escape_first, prefix_run, after_run, command_parts}
use Rattle.bib_contents.proofs.ArgumentFacts.{after_first}

first_same : {c d : ℕ} {xs ys : List ℕ} → c ∷ xs ≡ d ∷ ys → c ≡ d
first_same same = cc

-- the first of the characters left is consumed
pub eaten_first : {u v : Place} {c : ℕ} {rest : List ℕ} (found : Option ℕ)
    → MatchOption found ((left u ≡ []) × (v ≡ u)) (λ d. Passes u (d ∷ []) v) → left u ≡ c ∷ rest → Passes u (c ∷ []) v
eaten_first {u} None ended is = absurd (both_ways (is_empty (left u)) (ap is_empty is) (ap is_empty ended.0))
eaten_first {u} {v} {c} {rest} (Some d) passed is = subst (λ x. Passes u (x ∷ []) v) (first_same (sym passed.left ∙ is)) passed

-- a sign that is neither blank nor escaped by a backslash is a name
pub sign_name : (c : ℕ) → is_escaped false c ≡ false → is_blank c ≡ false → is_sign c ≡ true → is_name (c ∷ []) ≡ true
sign_name c escaped blank sign = rw (escaped, blank, sign) refl

-- another character that is neither blank nor escaped by a backslash is a name with the name characters after it
pub other_name : (c : ℕ) (cs : List ℕ) → is_escaped false c ≡ false → is_blank c ≡ false → is_sign c ≡ false
    → list_all is_name_character cs ≡ true → is_name (c ∷ cs) ≡ true
other_name c cs escaped blank sign named = rw (escaped, blank, sign, named) refl

-- a sign is a whole name, whatever comes after it
pub sign_whole : (c : ℕ) (tail : List ℕ) → is_sign c ≡ true → is_whole_name (c ∷ []) tail ≡ true
sign_whole c tail sign = rw sign refl

-- another name is whole if no name character comes after it
pub other_whole : (c : ℕ) (cs tail : List ℕ) → is_sign c ≡ false → begins is_name_character tail ≡ false
    → is_whole_name (c ∷ cs) tail ≡ true
other_whole c cs tail sign stops = rw (sign, stops) refl

spaced_more : (b : ℕ) (bs cs : List ℕ) → encode_utf8_all cs ≡ b ∷ bs → not (length (b ∷ bs) == 0) ≡ not (is_empty cs)
spaced_more b bs [] is = cc
spaced_more b bs (c ∷ cs) is = rw (ne_eqb (length (b ∷ bs)) 0 (λ same. omega (arith, same))) refl

-- a UTF-8 text has characters exactly if it has bytes
pub spaced_chars : (bs : List ℕ) → IsUtf8 bs → not (length bs == 0) ≡ not (is_empty (chars bs))
spaced_chars [] utf8 = rw chars-nil refl
spaced_chars (b ∷ bs) utf8 = spaced_more b bs (chars (b ∷ bs)) (encodes-chars (b ∷ bs) utf8)

-- the consumed command is the first unit
pub command_found : (before name middle space after rest : List ℕ) (takes spaced : Bool) (argument : Argument)
    → before ≡ name ++ middle → is_name name ≡ true → is_whole_name name middle ≡ true
    → middle ≡ space ++ after → list_all is_space space ≡ true → begins is_space after ≡ false
    → takes ≡ takes_next name space → spaced ≡ not (is_empty space)
    → after ≡ argument_spelling argument ++ rest → is_argument takes spaced argument rest ≡ true
    → IsNext false (ContentUnit.command name space argument) (92 ∷ before) rest
command_found before name middle space after rest takes spaced argument leading_run name_is whole then_is white stops
    takes_is spaced_is last right = record {
      fits =
          let tail : middle ≡ space ++ (argument_spelling argument ++ rest) = then_is ∙ ap (λ xs. space ++ xs) last in
          let whole' : is_whole_name name (space ++ (argument_spelling argument ++ rest)) ≡ true = rw tail at whole in
          let stops' : begins is_space (argument_spelling argument ++ rest) ≡ false = rw last at stops in
          let right' : is_argument (takes_next name space) (not (is_empty space)) argument rest ≡ true =
          rw (takes_is, spaced_is) at right in
          rw (name_is, whole', white, stops', right') refl;
      spells =
          ap (λ xs. 92 ∷ xs) (
          leading_run
          ∙ ap (λ xs. name ++ xs)
          (then_is ∙ ap (λ xs. space ++ xs) last ∙ sym (append_assoc space (argument_spelling argument) rest))
          ∙ sym (append_assoc name (space ++ argument_spelling argument) rest)
          );
    }

-- a name without the argument that it requires is no command
no_command : (c : ℕ) (cs space after rest : List ℕ) (u : ContentUnit) → is_name (c ∷ cs) ≡ true
    → is_whole_name (c ∷ cs) (space ++ after) ≡ true → list_all is_space space ≡ true → begins is_space after ≡ false
    →
    ((a : Argument) (rest : List ℕ) → after ≡ argument_spelling a ++ rest
    → is_argument (takes_next (c ∷ cs) space) (not (is_empty space)) a rest ≡ true → ⊥)
    → IsNext false u (92 ∷ ((c ∷ cs) ++ (space ++ after))) rest → ⊥
no_command c cs space after rest u name whole white stops none one =
    let argument = first_argument (takes_next (c ∷ cs) space) (not (is_empty space)) after in
    let found =
    ap (λ xs. command_of (c ∷ cs) xs (rest_after is_space (space ++ after)))
    (prefix_run is_space space after white stops)
    ∙ ap (λ xs. command_of (c ∷ cs) space xs) (after_run is_space space after white stops) in
    let is : ContentUnit.command (c ∷ cs) space argument ≡ u =
    sym (escape_first c cs (space ++ after) (ContentUnit.command (c ∷ cs) space argument) name whole found)
    ∙ ap (first_unit false) one.spells ∙ unit_first false u rest one.fits in
    let this : IsNext false (ContentUnit.command (c ∷ cs) space argument) (92 ∷ ((c ∷ cs) ++ (space ++ after))) rest = rw is one in
    let parts = command_parts false (c ∷ cs) space rest argument this.fits in
    let spelt : (c ∷ cs) ++ (space ++ after) ≡ (c ∷ cs) ++ (space ++ (argument_spelling argument ++ rest)) =
    after_first this.spells ∙ append_assoc (c ∷ cs) (space ++ argument_spelling argument) rest
    ∙ ap (λ xs. (c ∷ cs) ++ xs) (append_assoc space (argument_spelling argument) rest) in
    none argument rest (append_cancel_left space _ _ (append_cancel_left (c ∷ cs) _ _ spelt)) parts.5

-- if the text after a command's name and white space begins with no argument, no unit begins at its backslash
pub command_none : (before name middle space after : List ℕ) (takes spaced : Bool) → before ≡ name ++ middle
    → is_name name ≡ true → is_whole_name name middle ≡ true
    → middle ≡ space ++ after → list_all is_space space ≡ true → begins is_space after ≡ false
    → takes ≡ takes_next name space → spaced ≡ not (is_empty space)
    → ((a : Argument) (rest : List ℕ) → after ≡ argument_spelling a ++ rest → is_argument takes spaced a rest ≡ true → ⊥)
    → (u : ContentUnit) (rest : List ℕ) → IsNext false u (92 ∷ before) rest → ⊥
command_none before [] middle space after takes spaced leading_run name_is whole then_is white stops takes_is spaced_is none u rest one =
    both_ways false refl name_is
command_none before (c ∷ cs) middle space after takes spaced leading_run name_is whole then_is white stops takes_is
    spaced_is none u rest one =
    no_command c cs space after rest u name_is (rw then_is at whole) white stops (rw (takes_is, spaced_is) at none)
    (rw (leading_run, then_is) at one)

-- a command fails if its argument isn't closed
pub unclosed_fails : (before name middle space after : List ℕ) (spaced : Bool) (inside : List ℕ) → before ≡ name ++ middle
    → is_name name ≡ true → is_whole_name name middle ≡ true → middle ≡ space ++ after → spaced ≡ not (is_empty space)
    → spaced ≡ false → after ≡ 123 ∷ inside → ((text rest : List ℕ) → inside ≡ text ++ 125 ∷ rest → balances 0 text ≡ true → ⊥)
    → UnitFails false (92 ∷ before)
unclosed_fails before name middle [] after spaced inside begins_so named whole then_is spaced_is none is unclosed =
    let tail : middle ≡ 123 ∷ inside = then_is ∙ is in
    rw (begins_so ∙ ap (λ xs. name ++ xs) tail) (UnitFails.brace name inside named (rw tail at whole) unclosed)
unclosed_fails before name middle (c ∷ cs) after spaced inside begins_so named whole then_is spaced_is none is unclosed =
    absurd (both_ways spaced none spaced_is)

-- a backslash at the end of a text that isn't verbatim begins no unit
pub no_escape : (before : List ℕ) (is_verbatim : Bool) → before ≡ [] → is_verbatim ≡ false
    → (u : ContentUnit) (rest : List ℕ) → IsNext is_verbatim u (92 ∷ before) rest → ⊥
no_escape before is_verbatim nothing plain u rest one =
    let this : IsNext false u (92 ∷ []) rest = rw (nothing, plain) at one in
    let is : ContentUnit.backslash ≡ u = ap (first_unit false) this.spells ∙ unit_first false u rest this.fits in
    let that : IsNext false ContentUnit.backslash (92 ∷ []) rest = rw is this in
    both_ways false refl that.fits

-- whether a name of one character takes the next character
pub takes_one : (cs rest space : List ℕ) (c : ℕ) → cs ≡ c ∷ rest → rest ≡ []
    → takes_next cs space ≡ (is_mark c || (is_accent_letter c && not (is_empty space)))
takes_one cs rest space c is ends = rw (is, ends) refl

-- a name of two or more characters does not take the next character
pub takes_none : (cs rest space : List ℕ) (c : ℕ) → cs ≡ c ∷ rest → (rest ≡ [] → ⊥) → false ≡ takes_next cs space
takes_none cs [] space c is more = absurd (more refl)
takes_none cs (d ∷ ds) space c is more = rw is refl

-- the empty name takes no character
pub takes_nothing : (cs space : List ℕ) → cs ≡ [] → false ≡ takes_next cs space
takes_nothing cs space is = rw is refl

-- a character that begins no other unit is a dollar sign, and the field isn't verbatim
pub last_dollar : (is_verbatim : Bool) (c : ℕ) → false ≡ is_ordinary is_verbatim c → false ≡ is_space c → (c ≡ 45 → ⊥)
    → (c ≡ 92 → ⊥) → (c ≡ 123 → ⊥) → (c ≡ 125 → ⊥) → (is_verbatim ≡ false) × (c ≡ 36)
unfolding is_ordinary is_grouping
last_dollar is_verbatim c special space hyphen backslash opens closes =
    let shown : false ≡ not (not is_verbatim && c == 36) =
    rw (ne_eqb c 45 hyphen, ne_eqb c 92 backslash, ne_eqb c 123 opens, ne_eqb c 125 closes, sym space) at special in
    let parts = and_parts (not is_verbatim) (c == 36) (not-false _ (sym shown)) in
    (not-true is_verbatim parts.0, eqb-true c 36 parts.1)
