-- The text of an argument: its units one after another, and the effects of commands on it.
use Rattle.std.proofs.Common.{inl, inr, ◌≡◌, ℕ, zero, suc, Bool, true, false, ◌||◌, List, [], ◌∷◌, ◌++◌, map, refl, sym, ap, subst, ◌∙◌, append_assoc, append-nil, arith, ne_eqb, Option, Some, None}
use Rattle.std.specs.Prelude.{◌==◌, codes, bytes_eq}
use Rattle.std.specs.Char.{is_whitespace}
use Rattle.std.specs.List.{list_all}
use Rattle.std.proofs.lemmas.Bool.{cases_Bool, and_parts, and_from, not-true}
use Rattle.bib_chunks.specs.Formatted.{is_break, ends_in_space, char_on_line, flowing, formatted_atoms, is_unbroken}
use Rattle.bib_chunks.specs.Styled.{Atom}
use Rattle.bib_contents.specs.Arguments.{flat_if, argument_written}
use Rattle.bib_contents.specs.Commands.{accents, symbols, stroke, with_mark, letter, bare, other, command_text}
use Rattle.bib_text.specs.Enums.{value_named}
use Rattle.bib_contents.specs.Contents.{begins, character}
use Rattle.bib_contents.proofs.BreakFacts.{plain_nfc, nfc_some}
use Rattle.bib_contents.proofs.CommandFacts.{with_mark-push, named_passes, given_accent, given_symbol, given_other, unknown_shape}
use Rattle.unicode_normalization.specs.Forms.{nfc}

-- whether a text ends with a line break
abbrev pub ends_in_break : List ℕ → Bool
ends_in_break [] = false
ends_in_break (c ∷ []) = is_break c
ends_in_break (c ∷ d ∷ cs) = ends_in_break (d ∷ cs)

-- a text that neither begins nor ends with a line break
pub record IsCapped (cs : List ℕ) : Type 0 where
  pub first : begins is_break cs ≡ false
  pub last : ends_in_break cs ≡ false

-- the character written before a text matters only if the text begins with a line break
pub flowing_any : (space : Bool) (cs : List ℕ) → begins is_break cs ≡ false → flowing space cs ≡ flowing false cs
flowing_any space [] plain = refl
flowing_any space (c ∷ cs) plain = rw plain refl

-- two texts are put on one line each by itself if the second one doesn't begin with a line break
pub flowing_append : (space : Bool) (xs ys : List ℕ) → begins is_break ys ≡ false
    → flowing space (xs ++ ys) ≡ flowing space xs ++ flowing false ys
flowing_append space [] ys plain = flowing_any space ys plain
flowing_append space (c ∷ xs) ys plain =
    ap (λ cs. char_on_line space c ++ cs) (flowing_append (ends_in_space space (char_on_line space c)) xs ys plain)
    ∙ sym (append_assoc (char_on_line space c) _ _)

-- a text without line breaks is unchanged on one line
pub flowing_plain : (space : Bool) (cs : List ℕ) → list_all is_unbroken cs ≡ true → flowing space cs ≡ cs
flowing_plain space [] all = refl
flowing_plain space (c ∷ cs) all =
    let parts = and_parts (is_unbroken c) (list_all is_unbroken cs) all in
    rw (not-true (is_break c) parts.0) (ap (λ xs. c ∷ xs) (flowing_plain (is_whitespace c) cs parts.1))

-- a text that begins with a line break has none on one line, if the text after that break has none on one line
lined_break : (space : Bool) (c : ℕ) (cs : List ℕ) → is_break c ≡ true → list_all is_unbroken (flowing true cs) ≡ true
    → list_all is_unbroken (flowing space (c ∷ cs)) ≡ true
lined_break true c cs breaks rest = rw breaks rest
lined_break false c cs breaks rest = rw breaks rest

-- a text on one line has no line breaks
pub flowing_lined : (space : Bool) (cs : List ℕ) → list_all is_unbroken (flowing space cs) ≡ true
flowing_lined space [] = refl
flowing_lined space (c ∷ cs) = elim (cases_Bool (is_break c)) [
  | inl breaks ↦ lined_break space c cs breaks (flowing_lined true cs)
  | inr plain ↦ rw (plain, plain) (flowing_lined (is_whitespace c) cs)
]

-- two texts without line breaks have none together
pub plain_append : (xs ys : List ℕ) → list_all is_unbroken xs ≡ true → list_all is_unbroken ys ≡ true
    → list_all is_unbroken (xs ++ ys) ≡ true
plain_append [] ys first second = second
plain_append (x ∷ xs) ys first second =
    let parts = and_parts (is_unbroken x) (list_all is_unbroken xs) first in
    and_from _ _ parts.0 (plain_append xs ys parts.1 second)

-- a text without line breaks neither begins nor ends with one
pub capped_plain : (cs : List ℕ) → list_all is_unbroken cs ≡ true → IsCapped cs
capped_plain cs all = record { first = first cs all; last = last cs all }
  where
    first : (cs : List ℕ) → list_all is_unbroken cs ≡ true → begins is_break cs ≡ false
    first [] all = refl
    first (c ∷ cs) all = not-true (is_break c) (and_parts (is_unbroken c) (list_all is_unbroken cs) all).0

    last : (cs : List ℕ) → list_all is_unbroken cs ≡ true → ends_in_break cs ≡ false
    last [] all = refl
    last (c ∷ []) all = not-true (is_break c) (and_parts (is_unbroken c) true all).0
    last (c ∷ d ∷ cs) all = last (d ∷ cs) (and_parts (is_unbroken c) (list_all is_unbroken (d ∷ cs)) all).1

-- appended texts don't begin with a line break if neither does
pub begins_append : (xs ys : List ℕ) → begins is_break xs ≡ false → begins is_break ys ≡ false → begins is_break (xs ++ ys) ≡ false
begins_append [] ys first second = second
begins_append (x ∷ xs) ys first second = first

-- a text doesn't end with a line break if its last part, a character and more, doesn't
pub ends_append : (xs : List ℕ) (y : ℕ) (ys : List ℕ) → ends_in_break (y ∷ ys) ≡ false → ends_in_break (xs ++ y ∷ ys) ≡ false
ends_append [] y ys last = last
ends_append (x ∷ []) y ys last = last
ends_append (x ∷ d ∷ xs) y ys last = ends_append (d ∷ xs) y ys last

-- a text doesn't end with a line break if its last part isn't empty and doesn't
pub ends_some : (xs ys : List ℕ) → (ys ≡ [] → ⊥) → ends_in_break ys ≡ false → ends_in_break (xs ++ ys) ≡ false
ends_some xs [] some last = absurd (some refl)
ends_some xs (y ∷ ys) some last = ends_append xs y ys last

-- two texts that neither begin nor end with a line break don't do so together
pub capped_append : (xs ys : List ℕ) → IsCapped xs → IsCapped ys → IsCapped (xs ++ ys)
capped_append xs [] one two = rw (append-nil xs) one
capped_append xs (y ∷ ys) one two = record { first = begins_append xs (y ∷ ys) one.first two.first; last = ends_append xs y ys two.last }

-- a non-empty text has a last character
pub last_of : (c : ℕ) (cs : List ℕ) → (leading_run : List ℕ) × (d : ℕ) × (c ∷ cs ≡ leading_run ++ d ∷ [])
last_of c [] = ([], c, refl)
last_of c (e ∷ cs) = let rest = last_of e cs in (c ∷ rest.0, rest.1, ap (λ xs. c ∷ xs) rest.2)

-- the last character of a text that doesn't end with a line break isn't one
last_plain : (leading_run : List ℕ) (d : ℕ) → ends_in_break (leading_run ++ d ∷ []) ≡ false → is_break d ≡ false
last_plain [] d last = last
last_plain (c ∷ []) d last = last
last_plain (c ∷ e ∷ leading_run) d last = last_plain (e ∷ leading_run) d last

-- the letter for a character that isn't a line break isn't one
letter_plain : (c : ℕ) → is_break c ≡ false → is_unbroken (letter c) ≡ true
letter_plain c plain = elim (cases_Bool (c == 0x131)) [
  | inl dotless ↦ rw dotless refl
  | inr other ↦ elim (cases_Bool (c == 0x237)) [
    | inl dotless ↦ rw (other, dotless) refl
    | inr others ↦ rw (other, others, plain) refl
  ]
]

-- if neither a character nor a mark is a line break, the letter for the character with the mark on it has none
marked_letter : (c mark : ℕ) → is_break c ≡ false → is_unbroken mark ≡ true → list_all is_unbroken (nfc (letter c ∷ mark ∷ [])) ≡ true
marked_letter c mark plain mark_plain =
    plain_nfc (letter c ∷ mark ∷ []) (and_from _ _ (letter_plain c plain) (and_from _ _ mark_plain refl))

-- the characters for a mark without a letter have no line break if the mark isn't one
bare_plain : (mark : ℕ) → is_unbroken mark ≡ true → list_all is_unbroken (bare mark) ≡ true
bare_plain mark plain = elim (cases_Bool (mark == 0x302)) [
  | inl circumflex ↦ rw circumflex refl
  | inr other ↦ elim (cases_Bool (mark == 0x303)) [
    | inl tilde ↦ rw (other, tilde) refl
    | inr others ↦ rw (other, others, plain) refl
  ]
]

-- if a text doesn't end with a line break, and the mark isn't one,
-- putting the mark on the last character and putting the text on one line can be exchanged
pub flowing_marked : (mark : ℕ) (cs : List ℕ) → is_unbroken mark ≡ true → ends_in_break cs ≡ false
    → flowing false (with_mark mark cs) ≡ with_mark mark (flowing false cs)
flowing_marked mark [] plain last = flowing_plain false (bare mark) (bare_plain mark plain)
flowing_marked mark (c ∷ cs) plain last =
    let split = last_of c cs in
    let here : is_break split.1 ≡ false = last_plain split.0 split.1 (subst (λ xs. ends_in_break xs ≡ false) split.2 last) in
    let composed : list_all is_unbroken (nfc (letter split.1 ∷ mark ∷ [])) ≡ true = marked_letter split.1 mark here plain in
    let kept : flowing false (split.1 ∷ []) ≡ split.1 ∷ [] = flowing_plain false (split.1 ∷ []) (rw here refl) in
    let whole : flowing false (c ∷ cs) ≡ flowing false split.0 ++ split.1 ∷ [] =
    ap (flowing false) split.2 ∙ flowing_append false split.0 (split.1 ∷ []) here
    ∙ ap (λ xs. flowing false split.0 ++ xs) kept in
    ap (λ xs. flowing false (with_mark mark xs)) split.2 ∙ ap (flowing false) (with_mark-push mark split.0 split.1)
    ∙ flowing_append false split.0 (nfc (letter split.1 ∷ mark ∷ []))
    (capped_plain (nfc (letter split.1 ∷ mark ∷ [])) composed).first
    ∙ ap (λ xs. flowing false split.0 ++ xs) (flowing_plain false (nfc (letter split.1 ∷ mark ∷ [])) composed)
    ∙ sym (with_mark-push mark (flowing false split.0) split.1) ∙ sym (ap (with_mark mark) whole)

-- a text that neither begins nor ends with a line break doesn't do so with a mark that isn't one on its last character
capped_marked : (mark : ℕ) (cs : List ℕ) → is_unbroken mark ≡ true → IsCapped cs → IsCapped (with_mark mark cs)
capped_marked mark [] plain capped = capped_plain (bare mark) (bare_plain mark plain)
capped_marked mark (c ∷ cs) plain capped =
    let split = last_of c cs in
    let here : is_break split.1 ≡ false = last_plain split.0 split.1 (subst (λ xs. ends_in_break xs ≡ false) split.2 capped.last) in
    let composed : list_all is_unbroken (nfc (letter split.1 ∷ mark ∷ [])) ≡ true = marked_letter split.1 mark here plain in
    let is : with_mark mark (c ∷ cs) ≡ split.0 ++ nfc (letter split.1 ∷ mark ∷ []) =
    ap (with_mark mark) split.2 ∙ with_mark-push mark split.0 split.1 in
    let caps = capped_plain (nfc (letter split.1 ∷ mark ∷ [])) composed in
    let leading_run : begins is_break (split.0 ++ nfc (letter split.1 ∷ mark ∷ [])) ≡ false =
    prefix_plain split.0 (split.1 ∷ []) (nfc (letter split.1 ∷ mark ∷ []))
    (subst (λ xs. begins is_break xs ≡ false) split.2 capped.first) caps.first in
    rw is record {
      first = leading_run;
      last = ends_some split.0 (nfc (letter split.1 ∷ mark ∷ [])) (nfc_some (letter split.1) (mark ∷ [])) caps.last;
    }
  where
    prefix_plain : (leading_run tail other : List ℕ) → begins is_break (leading_run ++ tail) ≡ false
        → begins is_break other ≡ false → begins is_break (leading_run ++ other) ≡ false
    prefix_plain [] tail other first second = second
    prefix_plain (x ∷ leading_run) tail other first second = first

-- the effect of a command on its argument: a mark is put on it, a text replaces it, the copyright sign comes before it,
-- or it is kept in the command
data Kind (name : List ℕ) : Type 0 where
  marks : (m : ℕ) → is_unbroken m ≡ true → ((cs : List ℕ) → command_text name (Some cs) ≡ with_mark m cs) → Kind name
  stands : (xs : List ℕ) → list_all is_unbroken xs ≡ true → ((cs : List ℕ) → command_text name (Some cs) ≡ xs) → Kind name
  precedes : ((cs : List ℕ) → command_text name (Some cs) ≡ 169 ∷ cs) → Kind name
  stays : ((cs : List ℕ) → command_text name (Some cs) ≡ 92 ∷ (name ++ 123 ∷ (cs ++ 125 ∷ []))) → Kind name

-- no mark of an accent is a line break
accents_plain : list_all (λ row. is_unbroken row.1) accents ≡ true
unfolding accents
accents_plain = refl

-- no text of a symbol has a line break
symbols_plain : list_all (λ row. list_all is_unbroken row.1) symbols ≡ true
unfolding symbols
symbols_plain = refl

kind_other : (name : List ℕ) → value_named accents name ≡ None → value_named symbols name ≡ None → Kind name
kind_other name accent symbol = elim (cases_Bool (bytes_eq name (codes "o"))) [
  | inl is_o ↦ Kind.marks stroke refl (λ cs. given_other name (Some cs) accent symbol ∙ rw is_o refl)
  | inr no_o ↦ elim (cases_Bool (bytes_eq name (codes "copyright"))) [
    | inl sign ↦ Kind.precedes (λ cs. given_other name (Some cs) accent symbol ∙ rw (no_o, sign) refl)
    | inr unknown ↦ Kind.stays (λ cs. given_other name (Some cs) accent symbol ∙ rw (no_o, unknown) (unknown_shape name cs))
  ]
]

kind_found : (name : List ℕ) (accent : Option ℕ) (symbol : Option (List ℕ)) → value_named accents name ≡ accent
    → value_named symbols name ≡ symbol → Kind name
kind_found name (Some m) symbol accent_is symbol_is =
    Kind.marks m (named_passes is_unbroken accents name m accents_plain accent_is)
    (λ cs. given_accent name (Some cs) m accent_is)
kind_found name None (Some xs) accent_is symbol_is =
    Kind.stands xs (named_passes (list_all is_unbroken) symbols name xs symbols_plain symbol_is)
    (λ cs. given_symbol name (Some cs) xs accent_is symbol_is)
kind_found name None None accent_is symbol_is = kind_other name accent_is symbol_is

-- each command has one of these effects
kind_of : (name : List ℕ) → Kind name
kind_of name = kind_found name (value_named accents name) (value_named symbols name) refl refl

-- if the name of a command has no line break, and its argument neither begins nor ends with one, nor does its text
capped_kind : {name : List ℕ} → Kind name → (cs : List ℕ) → list_all is_unbroken name ≡ true → IsCapped cs
    → IsCapped (command_text name (Some cs))
capped_kind {name} (Kind.marks m plain is) cs named capped = subst IsCapped (sym (is cs)) (capped_marked m cs plain capped)
capped_kind {name} (Kind.stands xs plain is) cs named capped = subst IsCapped (sym (is cs)) (capped_plain xs plain)
capped_kind {name} (Kind.precedes is) cs named capped =
    subst IsCapped (sym (is cs)) (capped_append (169 ∷ []) cs (record { first = refl; last = refl }) capped)
capped_kind {name} (Kind.stays is) cs named capped =
    subst IsCapped (sym (is cs)) record
    { first = refl; last = ends_append (92 ∷ name) 123 (cs ++ 125 ∷ []) (ends_append (123 ∷ cs) 125 [] refl) }

-- if the name of a command has no line break, its effect on a text that neither begins nor ends with one is such a text
pub capped_given : (name cs : List ℕ) → list_all is_unbroken name ≡ true → IsCapped cs → IsCapped (command_text name (Some cs))
capped_given name cs named capped = capped_kind (kind_of name) cs named capped

-- if the name of a command has no line break, putting its text on one line puts its argument, which is capped, on one line
flowing_kind : {name : List ℕ} → Kind name → (cs : List ℕ) → list_all is_unbroken name ≡ true → IsCapped cs
    → flowing false (command_text name (Some cs)) ≡ command_text name (Some (flowing false cs))
flowing_kind (Kind.marks m plain is) cs named capped =
    ap (flowing false) (is cs) ∙ flowing_marked m cs plain capped.last ∙ sym (is (flowing false cs))
flowing_kind (Kind.stands xs plain is) cs named capped =
    ap (flowing false) (is cs) ∙ flowing_plain false xs plain ∙ sym (is (flowing false cs))
flowing_kind (Kind.precedes is) cs named capped =
    ap (flowing false) (is cs) ∙ flowing_append false (169 ∷ []) cs capped.first ∙ sym (is (flowing false cs))
flowing_kind {name} (Kind.stays is) cs named capped =
    let closed : flowing false (cs ++ 125 ∷ []) ≡ flowing false cs ++ 125 ∷ [] = flowing_append false cs (125 ∷ []) refl in
    let opened : flowing false (123 ∷ (cs ++ 125 ∷ [])) ≡ 123 ∷ (flowing false cs ++ 125 ∷ []) =
    flowing_append false (123 ∷ []) (cs ++ 125 ∷ []) (begins_append cs (125 ∷ []) capped.first refl)
    ∙ ap (λ xs. 123 ∷ xs) closed in
    ap (flowing false) (is cs) ∙ flowing_append false (92 ∷ name) (123 ∷ (cs ++ 125 ∷ [])) refl
    ∙ ap (λ xs. xs ++ flowing false (123 ∷ (cs ++ 125 ∷ []))) (flowing_plain false (92 ∷ name) (and_from (is_unbroken 92) _ refl named))
    ∙ ap (λ xs. (92 ∷ name) ++ xs) opened ∙ sym (is (flowing false cs))

-- applying a command whose name has no line break and putting its capped argument on one line can be exchanged
pub laid_given : (is_flat : Bool) (name cs : List ℕ) → list_all is_unbroken name ≡ true → IsCapped cs
    → flat_if is_flat (command_text name (Some cs)) ≡ command_text name (Some (flat_if is_flat cs))
laid_given true name cs named capped = flowing_kind (kind_of name) cs named capped
laid_given false name cs named capped = refl

-- the text of a command that is no accent or symbol, without an argument, has no line break if its name has none
alone_other : (name : List ℕ) → list_all is_unbroken name ≡ true → list_all is_unbroken (other name None) ≡ true
alone_other name all = elim (cases_Bool (bytes_eq name (codes "o"))) [
  | inl is_o ↦ rw is_o refl
  | inr no_o ↦ elim (cases_Bool (bytes_eq name (codes "copyright"))) [
    | inl sign ↦ rw (no_o, sign) refl
    | inr unknown ↦ rw (no_o, unknown) (and_from (is_unbroken 92) _ refl (plain_append name (32 ∷ []) all refl))
  ]
]

alone_found : (name : List ℕ) (accent : Option ℕ) (symbol : Option (List ℕ)) → value_named accents name ≡ accent
    → value_named symbols name ≡ symbol → list_all is_unbroken name ≡ true
    → list_all is_unbroken (command_text name None) ≡ true
alone_found name (Some m) symbol accent_is symbol_is all =
    ap (list_all is_unbroken) (given_accent name None m accent_is)
    ∙ and_from _ _ (named_passes is_unbroken accents name m accents_plain accent_is) refl
alone_found name None (Some xs) accent_is symbol_is all =
    ap (list_all is_unbroken) (given_symbol name None xs accent_is symbol_is)
    ∙ named_passes (list_all is_unbroken) symbols name xs symbols_plain symbol_is
alone_found name None None accent_is symbol_is all =
    ap (list_all is_unbroken) (given_other name None accent_is symbol_is) ∙ alone_other name all

-- the text of a command without an argument has no line break if its name has none
pub alone_plain : (name : List ℕ) → list_all is_unbroken name ≡ true → list_all is_unbroken (command_text name None) ≡ true
alone_plain name all = alone_found name (value_named accents name) (value_named symbols name) refl refl all

-- whether the last character written is white space, after these atoms; math leaves the flag unchanged
abbrev pub space_after : Bool → List Atom → Bool
space_after space [] = space
space_after space (Atom.normal c ∷ rest) = space_after (ends_in_space space (char_on_line space c)) rest
space_after space (Atom.verbatim c ∷ rest) = space_after (is_whitespace c) rest
space_after space (Atom.math text ∷ rest) = space_after space rest

-- two lists of atoms are formatted one after the other; the second one with the flag that `space_after` returns for the first
pub formatted_append : (space : Bool) (xs ys : List Atom)
    → formatted_atoms space (xs ++ ys) ≡ formatted_atoms space xs ++ formatted_atoms (space_after space xs) ys
formatted_append space [] ys = refl
formatted_append space (Atom.normal c ∷ xs) ys =
    ap (λ cs. char_on_line space c ++ cs) (formatted_append (ends_in_space space (char_on_line space c)) xs ys)
    ∙ sym (append_assoc (char_on_line space c) _ _)
formatted_append space (Atom.verbatim c ∷ xs) ys = ap (λ cs. c ∷ cs) (formatted_append (is_whitespace c) xs ys)
formatted_append space (Atom.math text ∷ xs) ys =
    ap (λ cs. 36 ∷ (text ++ 36 ∷ cs)) (formatted_append space xs ys) ∙ ap (λ cs. 36 ∷ cs) (sym (append_assoc text _ _))

-- characters outside braces are formatted on one line
pub formatted_normal : (space : Bool) (cs : List ℕ) → formatted_atoms space (map (character zero) cs) ≡ flowing space cs
formatted_normal space [] = refl
formatted_normal space (c ∷ cs) = ap (λ xs. char_on_line space c ++ xs) (formatted_normal (ends_in_space space (char_on_line space c)) cs)

-- the formatted text of verbatim characters is the characters
pub formatted_verbatim : (space : Bool) (depth : ℕ) (cs : List ℕ) → formatted_atoms space (map (character (suc depth)) cs) ≡ cs
formatted_verbatim space depth [] = refl
formatted_verbatim space depth (c ∷ cs) = ap (λ xs. c ∷ xs) (formatted_verbatim (is_whitespace c) depth cs)

-- atoms whose text doesn't begin with a line break
pub record IsLed (atoms : List Atom) : Type 0 where
  pub any : (space : Bool) → formatted_atoms space atoms ≡ formatted_atoms false atoms
  pub first : begins is_break (formatted_atoms false atoms) ≡ false

-- the text of appended atoms, if the second ones do not begin with a line break
pub written_append : (is_flat : Bool) (xs ys : List Atom) → IsLed ys
    → argument_written is_flat (xs ++ ys) ≡ argument_written is_flat xs ++ argument_written is_flat ys
written_append false xs ys led = formatted_append false xs ys ∙ ap (λ cs. formatted_atoms false xs ++ cs) (led.any (space_after false xs))
written_append true xs ys led =
    ap (flowing false) (formatted_append false xs ys ∙ ap (λ cs. formatted_atoms false xs ++ cs) (led.any (space_after false xs)))
    ∙ flowing_append false (formatted_atoms false xs) (formatted_atoms false ys) led.first

-- a text that doesn't begin with a line break doesn't do so on one line
begins_flowing : (space : Bool) (cs : List ℕ) → begins is_break cs ≡ false → begins is_break (flowing space cs) ≡ false
begins_flowing space [] plain = refl
begins_flowing space (c ∷ cs) plain = rw (plain, plain) refl

-- characters that don't begin with a line break are atoms that don't
pub led_characters : (depth : ℕ) (cs : List ℕ) → begins is_break cs ≡ false → IsLed (map (character depth) cs)
led_characters zero cs plain = record {
  any = λ space. formatted_normal space cs ∙ flowing_any space cs plain ∙ sym (formatted_normal false cs);
  first = ap (begins is_break) (formatted_normal false cs) ∙ begins_flowing false cs plain;
}
led_characters (suc depth) cs plain = record {
  any = λ space. formatted_verbatim space depth cs ∙ sym (formatted_verbatim false depth cs);
  first = ap (begins is_break) (formatted_verbatim false depth cs) ∙ plain;
}

-- math doesn't begin with a line break, since it begins with `$`
pub led_math : (text : List ℕ) → IsLed (Atom.math text ∷ [])
led_math text = record { any = λ space. refl; first = refl }

-- whether characters at this depth are put on one line
abbrev pub is_flat_at : Bool → ℕ → Bool
is_flat_at is_flat depth = is_flat || depth == 0

in_braces : (depth : ℕ) → (suc depth == 0) ≡ false
in_braces depth = ne_eqb (suc depth) 0 (λ same. omega (arith, same))

-- characters of an argument are put on one line outside braces, or if the argument around them is
pub written_characters : (is_flat : Bool) (depth : ℕ) (cs : List ℕ)
    → argument_written is_flat (map (character depth) cs) ≡ flat_if (is_flat_at is_flat depth) cs
written_characters false zero cs = formatted_normal false cs
written_characters false (suc depth) cs = rw (in_braces depth) (formatted_verbatim false depth cs)
written_characters true zero cs =
    ap (flowing false) (formatted_normal false cs) ∙ flowing_plain false (flowing false cs) (flowing_lined false cs)
written_characters true (suc depth) cs = ap (flowing false) (formatted_verbatim false depth cs)

-- math in an argument is written between dollar signs, on one line if the flag says so
pub written_math : (is_flat : Bool) (text : List ℕ)
    → argument_written is_flat (Atom.math text ∷ []) ≡ 36 ∷ (flat_if is_flat text ++ 36 ∷ [])
written_math false text = refl
written_math true text = ap (λ cs. 36 ∷ cs) (flowing_append false text (36 ∷ []) refl)
