-- The command for a character has balanced braces, and quotes only after a backslash. So if the braces and quotes of a text fit, they still
-- fit after characters became commands.
use Rattle.std.proofs.Common.{◌≡◌, inl, inr, ℕ, Bool, true, false, cond, List, [], ◌∷◌, ◌++◌, append_assoc, refl, sym, ap, ◌∙◌, subst, Option, Some, None}
use Rattle.std.specs.Prelude.{◌==◌, ◌&&◌, ◌||◌, not, IfSome, length}
use Rattle.std.specs.Char.{is_ascii_alphabetic}
use Rattle.std.specs.List.{list_all}
use Rattle.std.specs.Option.{option_or}
use Rattle.std.proofs.lemmas.Bool.{and_from, and_parts, cases_eq, ne_eqb}
use Rattle.bib_text.proofs.PlaceFacts.{test_clash}
use Rattle.unicode_normalization.specs.Forms.{nfd}
use Rattle.edit_accents.specs.Accents.{is_beyond_ascii, named_letter, stretch_after}
use Rattle.edit_accents.specs.Balance.{can_close, depth_closed, depth_opened, text_fits}
use Rattle.edit_accents.specs.Encoded.{accent_argument, accent_name, accent_on, accent_with, accented, base_text, begins_mark, character_text, command_for, command_named, common_names, encoded, in_braces_or, is_letter, is_put_on, letter_command, name_among, writes_commands}
use Rattle.edit_entries.specs.Documents.{in_braces}
use Rattle.edit_accents.specs.declared.signs.Stretch.{Stretch}
use Rattle.edit_accents.proofs.FitFacts.{IsDull, back_again, close_opened, over_dull}

-- this text before another one doesn't change whether braces and quotes fit
abbrev IsNeutral : List ℕ → Type 0
IsNeutral text = (q : Bool) (d : ℕ) (cs : List ℕ) → text_fits q false d (text ++ cs) ≡ text_fits q false d cs

-- ---- letters

pub letter_dull : (c : ℕ) → is_ascii_alphabetic c ≡ true → IsDull c
letter_dull c is = record {
  no_slash = λ same. test_clash (is_ascii_alphabetic c) is (ap is_ascii_alphabetic same);
  no_quote = λ same. test_clash (is_ascii_alphabetic c) is (ap is_ascii_alphabetic same);
  no_open = λ same. test_clash (is_ascii_alphabetic c) is (ap is_ascii_alphabetic same);
  no_close = λ same. test_clash (is_ascii_alphabetic c) is (ap is_ascii_alphabetic same);
}

letters_neutral : (cs : List ℕ) → list_all is_ascii_alphabetic cs ≡ true → IsNeutral cs
letters_neutral [] all q d rest = refl
letters_neutral (c ∷ cs) all q d rest =
    let parts = and_parts (is_ascii_alphabetic c) (list_all is_ascii_alphabetic cs) all in
    over_dull q d c (cs ++ rest) (letter_dull c parts.0) ∙ letters_neutral cs parts.1 q d rest

-- a name of letters, at least one
abbrev is_name : List ℕ → Bool
is_name [] = false
is_name (c ∷ cs) = list_all is_ascii_alphabetic (c ∷ cs)

names_are_names : list_all is_name common_names ≡ true
names_are_names = refl

command_neutral : (name : List ℕ) → is_name name ≡ true → IsNeutral (92 ∷ name)
command_neutral [] is = absurd (cc)
command_neutral (c ∷ cs) is =
    letters_neutral cs (and_parts (is_ascii_alphabetic c) (list_all is_ascii_alphabetic cs) is).1

letter_neutral : (c : ℕ) → IfSome (letter_command c) IsNeutral
letter_neutral c = among common_names names_are_names
  where
    among : (names : List (List ℕ)) → list_all is_name names ≡ true → IfSome (command_named (name_among names c)) IsNeutral
    among [] all = tt
    among (name ∷ names) all =
        let parts = and_parts (is_name name) (list_all is_name names) all in
        here (is_letter (named_letter name) c) (command_neutral name parts.0) (among names parts.1)
      where
        here : (b : Bool) → IsNeutral (92 ∷ name) → IfSome (command_named (name_among names c)) IsNeutral
            → IfSome (command_named (cond b (Some name) (name_among names c))) IsNeutral
        here true first others = first
        here false first others = others

base_neutral : (c : ℕ) → IfSome (base_text c) IsNeutral
base_neutral c = by_letter (is_ascii_alphabetic c) refl
  where
    by_letter : (b : Bool) → is_ascii_alphabetic c ≡ b → IfSome (cond b (Some (c ∷ [])) (letter_command c)) IsNeutral
    by_letter true is = λ q d cs. over_dull q d c cs (letter_dull c is)
    by_letter false is = letter_neutral c

-- ---- accents

braces_neutral : (text : List ℕ) → IsNeutral text → IsNeutral (in_braces text)
braces_neutral text neutral q d cs =
    let inner : ℕ = depth_opened q d in
    ap (text_fits q false inner) (append_assoc text (125 ∷ []) cs) ∙ neutral q inner (125 ∷ cs)
    ∙ ap (λ b. b && text_fits q false (depth_closed q inner) cs) (close_opened q d)
    ∙ ap (λ n. text_fits q false n cs) (back_again q d)

argument_neutral : (name : ℕ) (text : List ℕ) → IsNeutral text → IsNeutral (accent_argument name text)
argument_neutral name text neutral = by_form (is_ascii_alphabetic name || not (length text == 1))
  where
    by_form : (b : Bool) → IsNeutral (cond b (in_braces text) text)
    by_form true = braces_neutral text neutral
    by_form false = neutral

accent_neutral : (name : ℕ) (text : Option (List ℕ)) → IfSome text IsNeutral → IfSome (accent_with name text) IsNeutral
accent_neutral name None neutral = tt
accent_neutral name (Some text) neutral = argument_neutral name text neutral

accented_neutral : (cs : List ℕ) → IfSome (accented cs) IsNeutral
accented_neutral [] = tt
accented_neutral (c ∷ []) = tt
accented_neutral (c ∷ mark ∷ []) = by_name (accent_name mark)
  where
    by_letter : (b : Bool) (name : ℕ) → IfSome (cond b (accent_with name (base_text c)) None) IsNeutral
    by_letter true name = accent_neutral name (base_text c) (base_neutral c)
    by_letter false name = tt

    by_name : (found : Option ℕ) → IfSome (accent_on found c) IsNeutral
    by_name None = tt
    by_name (Some name) = by_letter (is_put_on name c) name
accented_neutral (c ∷ mark ∷ more ∷ others) = tt

either_neutral : (one other : Option (List ℕ)) → IfSome one IsNeutral → IfSome other IsNeutral → IfSome (option_or one other) IsNeutral
either_neutral None other first second = second
either_neutral (Some text) other first second = first

command_neutral_for : (c : ℕ) → IfSome (command_for c) IsNeutral
command_neutral_for c = by_range (is_beyond_ascii c)
  where
    by_range : (b : Bool) → IfSome (cond b (option_or (letter_command c) (accented (nfd (c ∷ [])))) None) IsNeutral
    by_range true = either_neutral (letter_command c) (accented (nfd (c ∷ []))) (letter_neutral c) (accented_neutral (nfd (c ∷ [])))
    by_range false = tt

-- ---- a text

-- the output for a character other than a backslash, a quote or a brace doesn't change whether braces and quotes fit
dull_neutral : (stretch : Stretch) (c : ℕ) (rest : List ℕ) → IsDull c → IsNeutral (character_text stretch c rest)
dull_neutral stretch c rest dull = by_test (writes_commands stretch && not (begins_mark rest))
  where
    by_command : (found : Option (List ℕ)) → IfSome found IsNeutral → IsNeutral (in_braces_or found c)
    by_command None neutral = λ q d cs. over_dull q d c cs dull
    by_command (Some text) neutral = braces_neutral text neutral

    by_test : (b : Bool) → IsNeutral (cond b (in_braces_or (command_for c) c) (c ∷ []))
    by_test true = by_command (command_for c) (command_neutral_for c)
    by_test false = λ q d cs. over_dull q d c cs dull

-- a backslash doesn't become a command
slash_stays : (stretch : Stretch) (rest : List ℕ) → character_text stretch 92 rest ≡ 92 ∷ []
slash_stays stretch rest = by_test (writes_commands stretch && not (begins_mark rest))
  where
    by_test : (b : Bool) → cond b (in_braces_or (command_for 92) 92) (92 ∷ []) ≡ 92 ∷ []
    by_test true = refl
    by_test false = refl

quote_stays : (stretch : Stretch) (rest : List ℕ) → character_text stretch 34 rest ≡ 34 ∷ []
quote_stays stretch rest = by_test (writes_commands stretch && not (begins_mark rest))
  where
    by_test : (b : Bool) → cond b (in_braces_or (command_for 34) 34) (34 ∷ []) ≡ 34 ∷ []
    by_test true = refl
    by_test false = refl

open_stays : (stretch : Stretch) (rest : List ℕ) → character_text stretch 123 rest ≡ 123 ∷ []
open_stays stretch rest = by_test (writes_commands stretch && not (begins_mark rest))
  where
    by_test : (b : Bool) → cond b (in_braces_or (command_for 123) 123) (123 ∷ []) ≡ 123 ∷ []
    by_test true = refl
    by_test false = refl

close_stays : (stretch : Stretch) (rest : List ℕ) → character_text stretch 125 rest ≡ 125 ∷ []
close_stays stretch rest = by_test (writes_commands stretch && not (begins_mark rest))
  where
    by_test : (b : Bool) → cond b (in_braces_or (command_for 125) 125) (125 ∷ []) ≡ 125 ∷ []
    by_test true = refl
    by_test false = refl

-- if the braces and quotes of a text fit, so do those of the text in which characters became commands
pub encoded_fits : (q h : Bool) (d : ℕ) (stretch : Stretch) (cs : List ℕ) → text_fits q h d cs ≡ true
    → text_fits q h d (encoded stretch h cs) ≡ true
encoded_fits q h d stretch [] is = is
encoded_fits q true d stretch (c ∷ cs) is = encoded_fits q false d stretch cs is
encoded_fits q false d stretch (c ∷ cs) is =
    elim (cases_eq c 92) [
      | inl slash ↦ subst (λ x. text_fits q false d (x ∷ cs) ≡ true → text_fits q false d (encoded stretch false (x ∷ cs)) ≡ true)
          (sym slash)
          (λ on. ap (λ t. text_fits q false d (t ++ encoded (stretch_after stretch 92 cs) true cs)) (slash_stays stretch cs)
          ∙ encoded_fits q true d (stretch_after stretch 92 cs) cs on) is
      | inr no_slash ↦ elim (cases_eq c 34) [
        | inl quote ↦ subst (λ x. text_fits q false d (x ∷ cs) ≡ true → text_fits q false d (encoded stretch false (x ∷ cs)) ≡ true)
            (sym quote)
            (λ on.
            let parts = and_parts (not q) (text_fits q false d cs) on in
            ap (λ t. text_fits q false d (t ++ encoded (stretch_after stretch 34 cs) false cs)) (quote_stays stretch cs)
            ∙ and_from (not q) (text_fits q false d (encoded (stretch_after stretch 34 cs) false cs)) parts.0
            (encoded_fits q false d (stretch_after stretch 34 cs) cs parts.1)) is
        | inr no_quote ↦ elim (cases_eq c 123) [
          | inl opens ↦ subst (λ x. text_fits q false d (x ∷ cs) ≡ true → text_fits q false d (encoded stretch false (x ∷ cs)) ≡ true)
              (sym opens)
              (λ on. ap (λ t. text_fits q false d (t ++ encoded (stretch_after stretch 123 cs) false cs)) (open_stays stretch cs)
              ∙ encoded_fits q false (depth_opened q d) (stretch_after stretch 123 cs) cs on) is
          | inr no_open ↦ elim (cases_eq c 125) [
            | inl closes ↦ subst (λ x. text_fits q false d (x ∷ cs) ≡ true → text_fits q false d (encoded stretch false (x ∷ cs)) ≡ true)
                (sym closes)
                (λ on.
                let parts = and_parts (can_close q d) (text_fits q false (depth_closed q d) cs) on in
                ap (λ t. text_fits q false d (t ++ encoded (stretch_after stretch 125 cs) false cs)) (close_stays stretch cs)
                ∙ and_from (can_close q d) (text_fits q false (depth_closed q d) (encoded (stretch_after stretch 125 cs) false cs)) parts.0
                (encoded_fits q false (depth_closed q d) (stretch_after stretch 125 cs) cs parts.1)) is
            | inr no_close ↦
                let dull : IsDull c = record { no_slash = no_slash; no_quote = no_quote; no_open = no_open; no_close = no_close } in
                let rest : List ℕ = encoded (stretch_after stretch c cs) false cs in
                ap (λ b. text_fits q false d (character_text stretch c cs ++ encoded (stretch_after stretch c cs) b cs))
                (ne_eqb c 92 no_slash)
                ∙ dull_neutral stretch c cs dull q d rest
                ∙ encoded_fits q false d (stretch_after stretch c cs) cs (sym (over_dull q d c cs dull) ∙ is)
          ]
        ]
      ]
    ]
