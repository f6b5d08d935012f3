-- The command for a character becomes the NFC of this character again.
use Rattle.std.proofs.Common.{◌≡◌, ℕ, ◌+◌, ◌<◌, Bool, true, false, cond, List, [], ◌∷◌, ◌++◌, length, drop, refl, sym, ap, ◌∙◌, subst, Option, Some, None, arith}
use Rattle.std.specs.Prelude.{◌==◌, ◌&&◌, ◌||◌, not, nat_lt, IfSome}
use Rattle.std.specs.Char.{is_ascii_alphabetic, is_whitespace}
use Rattle.std.specs.List.{list_any}
use Rattle.std.specs.Option.{option_or}
use Rattle.std.proofs.lemmas.Bool.{eqb-true, ltb-true, ne_eqb}
use Rattle.std.proofs.Math.Bool.{or-true}
use Rattle.std.proofs.lemmas.Bool.Decides.{nat_tests}
use Rattle.std.proofs.lemmas.List.{drop-drop}
use Rattle.bib_text.proofs.PlaceFacts.{test_clash}
use Rattle.bib_text.specs.Enums.{value_named}
use Rattle.bib_contents.specs.Commands.{accents, command_text, letter, symbols}
use Rattle.edit_entries.specs.Documents.{in_braces}
use Rattle.unicode_normalization.specs.Forms.{Form, Nfc, Nfd, nfc, nfd, normalize}
use Rattle.unicode_normalization.specs.QuickCheck.{passes_below}
use Rattle.unicode_normalization.proofs.Computing.{unicode_normalization}
use Rattle.unicode_normalization.proofs.FormsLemmas.{class-latin, nfc-nfd, nfd-nfc, normalize-passes, passes_below-bounds, quick_check-below}
use Rattle.unicode_normalization.proofs.OrderLemmas.{is_ordered-nil, is_ordered-starter}
use Rattle.unicode_normalization.proofs.TableFacts.{is_yes}
use Rattle.edit_accents.specs.Accents.{accented_count, accented_letter, character_if, command_reduced, composed, composed_with, decoded, is_beyond_ascii, leading_letters, name_in_signs, named_letter, only_beyond_ascii, only_character, reduced, reduced_to, sign_of, signs, stretch_after, white_count, with_characters, with_reduction, written}
use Rattle.edit_accents.specs.Encoded.{accent_command, accent_name, accent_on, accent_with, accented, base_text, command_for, command_named, common_names, is_letter, is_put_on, letter_command, name_among, name_in_rows}
use Rattle.edit_accents.specs.declared.decoding.Reduction.{Reduction}
use Rattle.edit_accents.specs.declared.signs.Sign.{Sign}
use Rattle.edit_accents.specs.declared.signs.Sign.TheVariants.{Command, Opening, Closing, Plain, Composed, Grouped}
use Rattle.edit_accents.specs.declared.signs.Stretch.{Stretch}
use Rattle.edit_accents.specs.declared.signs.Stretch.TheVariants.{Text, Accent}
use Rattle.edit_accents.specs.declared.writing.Spot.TheVariants.{Free}
use Rattle.edit_accents.proofs.ComposedFacts.{IsOneInNfc, one_from_two}
use Rattle.edit_accents.proofs.EncodedFacts.{letter_dull}
use Rattle.edit_accents.proofs.FitFacts.{dull_sign}

-- ---- the commands for letters

-- a command in braces becomes this character below U+0200, by itself and as the argument of an accent in braces; the command is longer
-- than a character
record IsReadLetter (name : List ℕ) (c : ℕ) : Type 0 where
  alone : with_characters (in_braces (92 ∷ name)) ≡ c ∷ []
  argument : decoded (signs Accent false (in_braces (92 ∷ name) ++ 125 ∷ [])) ≡ Grouped c ∷ Closing ∷ []
  longer : (length (92 ∷ name) == 1) ≡ false
  low : c < 0x200

-- each name in the list that names a letter parses to this letter
abbrev AllLetters : List (List ℕ) → Type 0
AllLetters [] = Unit {0}
AllLetters (name ∷ names) = IfSome (named_letter name) (IsReadLetter name) × AllLetters names

-- each command for a letter in the output parses to this letter
letters_read : AllLetters common_names
unfolding accents symbols command_text
letters_read = grind (arith)

-- a command is a backslash and a name that parses to this letter
record IsLetterCommand (c : ℕ) (command : List ℕ) : Type 0 where
  name : List ℕ
  spelled : command ≡ 92 ∷ name
  is_read : IsReadLetter name c

-- the command for a letter is a backslash and a name that parses to this letter
letter_among : (names : List (List ℕ)) → AllLetters names → (c : ℕ) (command : List ℕ) → command_named (name_among names c) ≡ Some command
    → IsLetterCommand c command
letter_among [] all c command is = cc
letter_among (name ∷ names) all c command is = here (letter_among names all.1 c command) (named_letter name) all.0 is
  where
    with_test : (command_named (name_among names c) ≡ Some command → IsLetterCommand c command) → (e : ℕ) (b : Bool) → (e == c) ≡ b
        → IsReadLetter name e → command_named (cond b (Some name) (name_among names c)) ≡ Some command → IsLetterCommand c command
    with_test more e true same reads found =
        record { name = name; spelled = cc; is_read = subst (IsReadLetter name) (eqb-true e c same) reads }
    with_test more e false other reads found = more found

    here : (command_named (name_among names c) ≡ Some command → IsLetterCommand c command) → (found : Option ℕ)
        → IfSome found (IsReadLetter name)
        → command_named (cond (is_letter found c) (Some name) (name_among names c)) ≡ Some command → IsLetterCommand c command
    here more None reads found = more found
    here more (Some e) reads found = with_test more e (e == c) refl reads found

-- ---- the names of accents

-- after an opening brace and a backslash, a name begins an accent before any text; if it is a letter, before an opening brace
abbrev AreBegun : ℕ → Bool → Type 0
AreBegun name is_letter = (text : List ℕ) → signs Text false (123 ∷ 92 ∷ name ∷ cond is_letter (123 ∷ text) text)
    ≡ Opening ∷ Command ∷ Plain name ∷ signs Accent false (cond is_letter (123 ∷ text) text)

-- a character is the name of the accent with a mark; no character is composed of a dotless i and this mark
record IsAccentName (name mark : ℕ) : Type 0 where
  marked : value_named accents (name ∷ []) ≡ Some mark
  begins : AreBegun name (is_ascii_alphabetic name)
  apart : only_character (nfc (0x131 ∷ mark ∷ [])) ≡ None

-- each row whose name is one character has the name of the accent with its mark
abbrev AllAccents : List (List ℕ × ℕ) → Type 0
AllAccents [] = Unit {0}
AllAccents (row ∷ rows) = IfSome (only_character row.0) (λ name. IsAccentName name row.1) × AllAccents rows

-- each row of the accents whose name is one character has the name of the accent with its mark
accents_read : AllAccents accents
unfolding accents unicode_normalization
accents_read = assumption (arith)

-- the name that is written for a mark is that of the accent with this mark
accent_of_mark : (rows : List (List ℕ × ℕ)) → AllAccents rows → (mark name : ℕ) → name_in_rows rows mark ≡ Some name
    → IsAccentName name mark
accent_of_mark [] all mark name is = cc
accent_of_mark (row ∷ rows) all mark name is =
    by_mark (accent_of_mark rows all.1 mark name) (row.1 == mark) refl (not (list_any is_beyond_ascii row.0)) is
  where
    by_text : (name_in_rows rows mark ≡ Some name → IsAccentName name mark) → (found : Option ℕ) → IfSome found (λ n. IsAccentName n row.1)
        → row.1 ≡ mark → option_or found (name_in_rows rows mark) ≡ Some name → IsAccentName name mark
    by_text more None reads same found = more found
    by_text more (Some n) reads same found =
        let is_name : n ≡ name = cc in
        subst (λ m. IsAccentName name m) same (subst (λ n. IsAccentName n row.1) is_name reads)

    by_mark : (name_in_rows rows mark ≡ Some name → IsAccentName name mark) → (b : Bool) → (row.1 == mark) ≡ b → (ascii : Bool)
        → option_or (cond (b && ascii) (only_character row.0) None) (name_in_rows rows mark) ≡ Some name → IsAccentName name mark
    by_mark more false other ascii found = more found
    by_mark more true same false found = more found
    by_mark more true same true found = by_text more (only_character row.0) all.0 (eqb-true row.1 mark same) found

-- ---- the argument of an accent

-- signs are a character as an argument and a closing brace
record IsArgument (ss : List Sign) (b : ℕ) : Type 0 where
  found : accented_letter ss ≡ Some b
  adjacent : white_count ss ≡ 0
  closes : drop (accented_count ss) ss ≡ Closing ∷ []

-- the sign of an ASCII letter is plain
plain_letter : (b : ℕ) (stretch : Stretch) → is_ascii_alphabetic b ≡ true → sign_of stretch b ≡ Plain b
plain_letter b stretch is = dull_sign b stretch (letter_dull b is)

-- an ASCII letter is another character than one that isn't an ASCII letter
other_than : (b c : ℕ) → is_ascii_alphabetic b ≡ true → is_ascii_alphabetic c ≡ false → b ≡ c → ⊥
other_than b c is other same = test_clash (is_ascii_alphabetic b) is (ap is_ascii_alphabetic same ∙ other)

-- the signs of an ASCII letter and a closing brace
bare_signs : (b : ℕ) (stretch : Stretch) (text : List ℕ) → is_ascii_alphabetic b ≡ true
    → signs stretch false (b ∷ 125 ∷ text) ≡ Plain b ∷ signs (stretch_after stretch b (125 ∷ text)) false (125 ∷ text)
bare_signs b stretch text is =
    let after : Stretch = stretch_after stretch b (125 ∷ text) in
    ap (λ s. s ∷ signs after (b == 92) (125 ∷ text)) (plain_letter b stretch is)
    ∙ ap (λ h. Plain b ∷ signs after h (125 ∷ text)) (ne_eqb b 92 (other_than b 92 is refl))

-- an ASCII letter before a closing brace stays
bare_decoded : (b : ℕ) → is_ascii_alphabetic b ≡ true → decoded (signs Accent false (b ∷ 125 ∷ [])) ≡ Plain b ∷ Closing ∷ []
bare_decoded b is = ap decoded (bare_signs b Accent [] is)

-- an ASCII letter in braces before a closing brace stays
braced_decoded : (b : ℕ) → is_ascii_alphabetic b ≡ true
    → decoded (signs Accent false (123 ∷ b ∷ 125 ∷ 125 ∷ [])) ≡ Opening ∷ Plain b ∷ Closing ∷ Closing ∷ []
braced_decoded b is = ap (λ ss. decoded (Opening ∷ ss)) (bare_signs b Accent (125 ∷ []) is)

-- an ASCII letter isn't white space
not_white : (b : ℕ) → is_ascii_alphabetic b ≡ true → is_whitespace b ≡ false
not_white b is = grind (arith, nat_tests)

-- an ASCII letter before a closing brace is an argument
bare_argument : (b : ℕ) → is_ascii_alphabetic b ≡ true → IsArgument (Plain b ∷ Closing ∷ []) b
bare_argument b is = record {
  found = ap (λ t. character_if (t || is_beyond_ascii b) b) is;
  adjacent = ap (λ w. cond {A = ℕ} w 1 0) (not_white b is);
  closes = refl;
}

-- an ASCII letter in braces before a closing brace is an argument
braced_argument : (b : ℕ) → is_ascii_alphabetic b ≡ true → IsArgument (Opening ∷ Plain b ∷ Closing ∷ Closing ∷ []) b
braced_argument b is = record {
  found = ap (λ t. character_if ((t || is_beyond_ascii b) && true) b) is;
  adjacent = refl;
  closes = refl;
}

-- a character that a command in braces became is an argument before a closing brace
grouped_argument : (b : ℕ) → IsArgument (Grouped b ∷ Closing ∷ []) b
grouped_argument b = record { found = refl; adjacent = refl; closes = refl }

-- ---- an accent with its argument

-- the name of a command is one character if this is no letter or no letters follow
one_name : (name : ℕ) (ss : List Sign) → (is_ascii_alphabetic name ≡ true → leading_letters ss ≡ [])
    → name_in_signs (Plain name ∷ ss) ≡ name ∷ []
one_name name ss ends = by_letter (is_ascii_alphabetic name) ends
  where
    by_letter : (b : Bool) → (b ≡ true → leading_letters ss ≡ []) → cond b (name ∷ leading_letters ss) (name ∷ []) ≡ name ∷ []
    by_letter true none = ap (λ l. name ∷ l) (none refl)
    by_letter false none = refl

-- an accent before its argument becomes the composed character
accent_over : (name mark b d : ℕ) (ss : List Sign) → value_named accents (name ∷ []) ≡ Some mark
    → (is_ascii_alphabetic name ≡ true → leading_letters ss ≡ []) → IsArgument ss b → composed mark b ≡ Some d
    → with_reduction (reduced Command (Plain name ∷ ss)) (Plain name ∷ ss) ≡ Composed d ∷ Closing ∷ []
accent_over name mark b d ss marked ends argument gives =
    let whole : List Sign = Plain name ∷ ss in
    let accent_after : ℕ → Reduction =
    λ w. reduced_to (composed_with mark (accented_letter (drop w ss))) (1 + w + accented_count (drop w ss)) Command in
    ap (λ n. with_reduction (command_reduced (value_named accents n) n whole) whole) (one_name name ss ends)
    ∙ ap (λ m. with_reduction (command_reduced m (name ∷ []) whole) whole) marked
    ∙ ap (λ w. with_reduction (accent_after w) whole) argument.adjacent
    ∙ ap (λ o. with_reduction (reduced_to (composed_with mark o) (1 + accented_count ss) Command) whole) argument.found
    ∙ ap (λ o. with_reduction (reduced_to o (1 + accented_count ss) Command) whole) gives
    ∙ ap (λ l. Composed d ∷ l) (sym (drop-drop (accented_count ss) 1 whole) ∙ argument.closes)

-- a text whose signs are an accent and its argument in braces becomes the composed character
accent_read : (text : List ℕ) (name mark b d : ℕ) (rest ss : List Sign) → signs Text false text ≡ Opening ∷ Command ∷ Plain name ∷ rest
    → decoded rest ≡ ss → value_named accents (name ∷ []) ≡ Some mark
    → (is_ascii_alphabetic name ≡ true → leading_letters ss ≡ []) → IsArgument ss b → composed mark b ≡ Some d
    → with_characters text ≡ d ∷ []
accent_read text name mark b d rest ss reads becomes marked ends argument gives =
    ap (λ l. written Free (decoded l)) reads
    ∙ ap (λ l. written Free (decoded_step Opening (decoded_step Command (Plain name ∷ l)))) becomes
    ∙ ap (λ l. written Free (decoded_step Opening l)) (accent_over name mark b d ss marked ends argument gives)
  where
    decoded_step : Sign → List Sign → List Sign
    decoded_step s l = with_reduction (reduced s l) l

-- ---- the character on which an accent is put

-- a character that is no dotless i or j stays below an accent
same_letter : (b : ℕ) → (b ≡ 0x131 → ⊥) → (b ≡ 0x237 → ⊥) → letter b ≡ b
same_letter b no_i no_j =
    ap (λ t. cond t 0x69 (cond (b == 0x237) 0x6A b)) (ne_eqb b 0x131 no_i) ∙ ap (λ t. cond t 0x6A b) (ne_eqb b 0x237 no_j)

-- the character of an accent on a letter that isn't dotless
composed_is : (mark b d : ℕ) → letter b ≡ b → nfc (b ∷ mark ∷ []) ≡ d ∷ [] → is_beyond_ascii d ≡ true → composed mark b ≡ Some d
composed_is mark b d same is beyond =
    ap (λ x. only_beyond_ascii (only_character (nfc (x ∷ mark ∷ [])))) same
    ∙ ap (λ l. only_beyond_ascii (only_character l)) is
    ∙ ap (λ t. character_if t d) beyond

-- the command for an accent on an ASCII letter becomes the composed character, if this is one character beyond ASCII
on_ascii : (name mark b d : ℕ) → IsAccentName name mark → is_ascii_alphabetic b ≡ true → nfc (b ∷ mark ∷ []) ≡ d ∷ []
    → is_beyond_ascii d ≡ true → with_characters (in_braces (accent_command name (b ∷ []))) ≡ d ∷ []
on_ascii name mark b d accent is gives beyond = by_name (is_ascii_alphabetic name) refl accent.begins
  where
    made : composed mark b ≡ Some d
    made = composed_is mark b d (same_letter b (other_than b 0x131 is refl) (other_than b 0x237 is refl)) gives beyond

    by_name : (t : Bool) → is_ascii_alphabetic name ≡ t → AreBegun name t
        → with_characters (in_braces (92 ∷ name ∷ cond (t || false) (in_braces (b ∷ [])) (b ∷ []))) ≡ d ∷ []
    by_name true letters begins =
        accent_read (in_braces (92 ∷ name ∷ in_braces (b ∷ []))) name mark b d (signs Accent false (123 ∷ b ∷ 125 ∷ 125 ∷ []))
        (Opening ∷ Plain b ∷ Closing ∷ Closing ∷ []) (begins (b ∷ 125 ∷ 125 ∷ [])) (braced_decoded b is) accent.marked
        (λ t. refl) (braced_argument b is) made
    by_name false sign begins =
        accent_read (in_braces (92 ∷ name ∷ b ∷ [])) name mark b d (signs Accent false (b ∷ 125 ∷ []))
        (Plain b ∷ Closing ∷ []) (begins (b ∷ 125 ∷ [])) (bare_decoded b is) accent.marked
        (λ t. absurd (test_clash (is_ascii_alphabetic name) t sign)) (bare_argument b is) made

-- the command for an accent on a letter with a command becomes the composed character, if this is one character beyond ASCII
on_letter : (name mark b d : ℕ) (text : List ℕ) → IsAccentName name mark → IsLetterCommand b text → nfc (b ∷ mark ∷ []) ≡ d ∷ []
    → is_beyond_ascii d ≡ true → with_characters (in_braces (accent_command name text)) ≡ d ∷ []
on_letter name mark b d text accent command gives beyond =
    subst (λ t. with_characters (in_braces (accent_command name t)) ≡ d ∷ []) (sym command.spelled)
    (ap (λ t. with_characters (in_braces (92 ∷ name ∷ cond t (in_braces spelled) spelled))) in_a_group
    ∙ accent_read (in_braces (92 ∷ name ∷ in_braces spelled)) name mark b d (signs Accent false (in_braces spelled ++ 125 ∷ []))
    (Grouped b ∷ Closing ∷ []) (before_brace (is_ascii_alphabetic name) accent.begins) reads.argument accent.marked
    (λ t. refl) (grouped_argument b) made)
  where
    spelled : List ℕ
    spelled = 92 ∷ command.name

    reads : IsReadLetter command.name b
    reads = command.is_read

    in_a_group : is_ascii_alphabetic name || not (length spelled == 1) ≡ true
    in_a_group = ap (λ t. is_ascii_alphabetic name || not t) reads.longer ∙ or-true (is_ascii_alphabetic name)

    before_brace : (t : Bool) → AreBegun name t
        → signs Text false (in_braces (92 ∷ name ∷ in_braces spelled))
        ≡ Opening ∷ Command ∷ Plain name ∷ signs Accent false (in_braces spelled ++ 125 ∷ [])
    before_brace true begins = begins ((spelled ++ 125 ∷ []) ++ 125 ∷ [])
    before_brace false begins = begins (in_braces spelled ++ 125 ∷ [])

    not_dotless : b ≡ 0x131 → ⊥
    not_dotless same =
        let one : only_character (nfc (0x131 ∷ mark ∷ [])) ≡ Some d =
        ap (λ x. only_character (nfc (x ∷ mark ∷ []))) (sym same) ∙ ap only_character gives in
        let clash : None ≡ Some d = sym accent.apart ∙ one in
        cc

    made : composed mark b ≡ Some d
    made = composed_is mark b d (same_letter b not_dotless (λ same. omega (arith, same, reads.low))) gives beyond

-- ---- forms of one character

-- one character below the first one that may change in a form is in this form
stays_alone : (form : Form) (c : ℕ) → c < passes_below form → normalize form (c ∷ []) ≡ c ∷ []
stays_alone form c low =
    normalize-passes form (c ∷ []) (ap (λ v. is_yes v && true) (quick_check-below form c low))
    (is_ordered-starter c [] (omega (arith, class-latin c (omega (arith, low, (passes_below-bounds form).1)))) is_ordered-nil)

-- a character whose decomposition has two characters has an NFC beyond ASCII, if this is one character
beyond_from_two : (c d b mark : ℕ) → nfd (c ∷ []) ≡ b ∷ mark ∷ [] → nfc (c ∷ []) ≡ d ∷ [] → is_beyond_ascii d ≡ true
beyond_from_two c d b mark two is = by_range (nat_lt d 128) refl
  where
    by_range : (t : Bool) → nat_lt d 128 ≡ t → not t ≡ true
    by_range false high = refl
    by_range true low =
        let one : nfd (d ∷ []) ≡ d ∷ [] = stays_alone Nfd d (omega (arith, ltb-true d 128 low)) in
        let clash : d ∷ [] ≡ b ∷ mark ∷ [] = sym one ∙ ap nfd (sym is) ∙ nfd-nfc (c ∷ []) ∙ two in
        cc

-- a letter with a mark is one character beyond ASCII, the NFC of another one
record IsPair (c b mark : ℕ) : Type 0 where
  one : ℕ
  composes : nfc (b ∷ mark ∷ []) ≡ one ∷ []
  beyond : is_beyond_ascii one ≡ true
  same : one ∷ [] ≡ nfc (c ∷ [])

-- a letter below U+0200 with a mark is one character if another one decomposes into both
pair_of : (c b mark : ℕ) → nfd (c ∷ []) ≡ b ∷ mark ∷ [] → b < 0x200 → IsPair c b mark
pair_of c b mark two low =
    let known : IsOneInNfc c = one_from_two c b mark two low in
    record {
      one = known.one;
      composes = ap nfc (sym two) ∙ nfc-nfd (c ∷ []) ∙ known.is;
      beyond = beyond_from_two c known.one b mark two known.is;
      same = sym known.is;
    }

-- an ASCII letter is below U+0200
letter_low : (b : ℕ) → is_ascii_alphabetic b ≡ true → b < 0x200
letter_low b is = grind (arith, nat_tests)

-- ---- the law

-- the command for an accent on a letter becomes the NFC of the character that decomposes into both
on_base : (c b mark name : ℕ) (command : List ℕ) → IsAccentName name mark → nfd (c ∷ []) ≡ b ∷ mark ∷ []
    → accent_on (Some name) b ≡ Some command → with_characters (in_braces command) ≡ nfc (c ∷ [])
on_base c b mark name command accent two is = by_test (is_put_on name b) is
  where
    by_found : (found : Option (List ℕ)) → letter_command b ≡ found → accent_with name found ≡ Some command
        → with_characters (in_braces command) ≡ nfc (c ∷ [])
    by_found None same with_text = cc
    by_found (Some text) same with_text =
        let spelled : accent_command name text ≡ command = cc in
        let known : IsLetterCommand b text = letter_among common_names letters_read b text same in
        let reads : IsReadLetter known.name b = known.is_read in
        let pair : IsPair c b mark = pair_of c b mark two reads.low in
        ap (λ t. with_characters (in_braces t)) (sym spelled) ∙ on_letter name mark b pair.one text accent known pair.composes pair.beyond
        ∙ pair.same

    by_letter : (t : Bool) → is_ascii_alphabetic b ≡ t → accent_with name (cond t (Some (b ∷ [])) (letter_command b)) ≡ Some command
        → with_characters (in_braces command) ≡ nfc (c ∷ [])
    by_letter true letters with_text =
        let spelled : accent_command name (b ∷ []) ≡ command = cc in
        let pair : IsPair c b mark = pair_of c b mark two (letter_low b letters) in
        ap (λ t. with_characters (in_braces t)) (sym spelled) ∙ on_ascii name mark b pair.one accent letters pair.composes pair.beyond
        ∙ pair.same
    by_letter false other with_text = by_found (letter_command b) refl with_text

    by_test : (t : Bool) → cond t (accent_with name (base_text b)) None ≡ Some command
        → with_characters (in_braces command) ≡ nfc (c ∷ [])
    by_test true with_text = by_letter (is_ascii_alphabetic b) refl with_text
    by_test false with_text = cc

-- the command for the decomposition of a character becomes the NFC of this character
accented_read : (c : ℕ) (cs command : List ℕ) → nfd (c ∷ []) ≡ cs → accented cs ≡ Some command
    → with_characters (in_braces command) ≡ nfc (c ∷ [])
accented_read c [] command two is = cc
accented_read c (b ∷ []) command two is = cc
accented_read c (b ∷ mark ∷ []) command two is = by_name (accent_name mark) refl is
  where
    by_name : (found : Option ℕ) → accent_name mark ≡ found → accent_on found b ≡ Some command
        → with_characters (in_braces command) ≡ nfc (c ∷ [])
    by_name None same on_it = cc
    by_name (Some name) same on_it = on_base c b mark name command (accent_of_mark accents accents_read mark name same) two on_it
accented_read c (b ∷ mark ∷ more ∷ others) command two is = cc

-- the command for a letter becomes the NFC of this letter
letter_read : (c : ℕ) (command : List ℕ) → letter_command c ≡ Some command → with_characters (in_braces command) ≡ nfc (c ∷ [])
letter_read c command is =
    let known : IsLetterCommand c command = letter_among common_names letters_read c command is in
    let reads : IsReadLetter known.name c = known.is_read in
    ap (λ t. with_characters (in_braces t)) known.spelled ∙ reads.alone ∙ sym (stays_alone Nfc c (omega (arith, reads.low)))

-- the command for a character becomes the NFC of this character
pub read_back : (c : ℕ) (command : List ℕ) → command_for c ≡ Some command → with_characters (in_braces command) ≡ nfc (c ∷ [])
read_back c command is = by_range (is_beyond_ascii c) is
  where
    by_letter : (found : Option (List ℕ)) → letter_command c ≡ found → option_or found (accented (nfd (c ∷ []))) ≡ Some command
        → with_characters (in_braces command) ≡ nfc (c ∷ [])
    by_letter None same from_mark = accented_read c (nfd (c ∷ [])) command refl from_mark
    by_letter (Some text) same from_letter = letter_read c command (same ∙ from_letter)

    by_range : (t : Bool) → cond t (option_or (letter_command c) (accented (nfd (c ∷ [])))) None ≡ Some command
        → with_characters (in_braces command) ≡ nfc (c ∷ [])
    by_range true found = by_letter (letter_command c) refl found
    by_range false found = cc
