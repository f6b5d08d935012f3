-- Signs whose braces and quotes fit still fit when commands become characters.
use Rattle.std.proofs.Common.{◌≡◌, ℕ, suc, ◌+◌, Bool, true, false, cond, List, [], ◌∷◌, length, drop, refl, sym, ap, ◌∙◌, subst, Option, Some, None}
use Rattle.std.specs.Prelude.{◌==◌, ◌&&◌, ◌||◌, not, bytes_eq}
use Rattle.std.specs.Char.{is_ascii_alphabetic, is_whitespace}
use Rattle.std.specs.List.{list_all, list_any}
use Rattle.std.specs.Cmp.Lexicographic.{bytes_decides}
use Rattle.std.proofs.lemmas.Bool.{and_from, and_parts, ne_eqb}
use Rattle.std.proofs.lemmas.List.{drop-drop}
use Rattle.bib_text.proofs.PlaceFacts.{test_clash}
use Rattle.bib_text.specs.Enums.{value_named}
use Rattle.bib_contents.specs.Commands.{accents, command_text, letter, symbols}
use Rattle.unicode_normalization.specs.Forms.{nfc}
use Rattle.edit_accents.specs.Accents.{accent_reduced, accented_count, accented_letter, before_others, first_sign_passes, begins_empty, character_if, name_in_signs, command_reduced, composed_with, decoded, end_count, group_reduced, is_beyond_ascii, is_closing, is_group, letter_names, letter_reduced, leading_letters, named_letter, only_beyond_ascii, only_character, reduced, reduced_to, with_reduction, stays, takes_accent, white_count}
use Rattle.edit_accents.specs.Balance.{can_close, depth_closed, fit, is_neutral, depth_opened}
use Rattle.edit_accents.specs.declared.signs.Sign.{Sign}
use Rattle.edit_accents.specs.declared.signs.Sign.TheVariants.{Command, Opening, Closing, Plain, Composed, Grouped}
use Rattle.edit_accents.proofs.FitFacts.{back_again}

-- ---- plain signs

-- the signs after a plain character other than a backslash fit if all signs do
after_plain : (q : Bool) (d c : ℕ) (ss : List Sign) → (c ≡ 92 → ⊥) → fit q false d (Plain c ∷ ss) ≡ true → fit q false d ss ≡ true
after_plain q d c ss no_slash is =
    let rest : is_neutral q c && fit q false d ss ≡ true =
    sym (ap (λ x. cond x (fit q true d ss) (is_neutral q c && fit q false d ss)) (ne_eqb c 92 no_slash)) ∙ is in
    (and_parts (is_neutral q c) (fit q false d ss) rest).1

-- a character that passes a test that the backslash fails isn't a backslash
other_than : (test : ℕ → Bool) (c : ℕ) → test c ≡ true → test 92 ≡ false → c ≡ 92 → ⊥
other_than test c passes fails is = test_clash (test c) passes (ap test is ∙ fails)

some_if : (b : Bool) (c e : ℕ) → character_if b c ≡ Some e → b ≡ true
some_if true c e is = refl
some_if false c e is = cc

-- the signs after the letters at the start fit if all signs do
letters_over : (q : Bool) (d : ℕ) (ss : List Sign) → fit q false d ss ≡ true → fit q false d (drop (length (leading_letters ss)) ss) ≡ true
letters_over q d [] is = is
letters_over q d (Command ∷ ss) is = is
letters_over q d (Opening ∷ ss) is = is
letters_over q d (Closing ∷ ss) is = is
letters_over q d (Composed c ∷ ss) is = is
letters_over q d (Grouped c ∷ ss) is = is
letters_over q d (Plain c ∷ ss) is = by_letter (is_ascii_alphabetic c) refl (letters_over q d ss)
  where
    by_letter : (b : Bool) → is_ascii_alphabetic c ≡ b
        → (fit q false d ss ≡ true → fit q false d (drop (length (leading_letters ss)) ss) ≡ true)
        → fit q false d (drop (length (before_others (character_if b c) (leading_letters ss))) (Plain c ∷ ss)) ≡ true
    by_letter true letter more = more (after_plain q d c ss (other_than is_ascii_alphabetic c letter refl) is)
    by_letter false letter more = is

-- the signs after the white space at the start fit if all signs do
white_over : (q : Bool) (d : ℕ) (ss : List Sign) → fit q false d ss ≡ true → fit q false d (drop (white_count ss) ss) ≡ true
white_over q d [] is = is
white_over q d (Command ∷ ss) is = is
white_over q d (Opening ∷ ss) is = is
white_over q d (Closing ∷ ss) is = is
white_over q d (Composed c ∷ ss) is = is
white_over q d (Grouped c ∷ ss) is = is
white_over q d (Plain c ∷ ss) is = by_white (is_whitespace c) refl (white_over q d ss)
  where
    by_white : (b : Bool) → is_whitespace c ≡ b → (fit q false d ss ≡ true → fit q false d (drop (white_count ss) ss) ≡ true)
        → fit q false d (drop (cond b (suc (white_count ss)) 0) (Plain c ∷ ss)) ≡ true
    by_white true white more = more (after_plain q d c ss (other_than is_whitespace c white refl) is)
    by_white false white more = is

-- ---- braces

-- the signs after a pair of braces fit if all signs do
pair_over : (q : Bool) (d : ℕ) (ss : List Sign) → fit q false (depth_opened q d) (Closing ∷ ss) ≡ true → fit q false d ss ≡ true
pair_over q d ss is =
    subst (λ n. fit q false n ss ≡ true) (back_again q d)
    (and_parts (can_close q (depth_opened q d)) (fit q false (depth_closed q (depth_opened q d)) ss) is).1

closing_over : (q : Bool) (d : ℕ) (ss : List Sign) → first_sign_passes is_closing ss ≡ true → fit q false (depth_opened q d) ss ≡ true
    → fit q false d (drop 1 ss) ≡ true
closing_over q d [] closing is = cc
closing_over q d (Command ∷ ss) closing is = cc
closing_over q d (Opening ∷ ss) closing is = cc
closing_over q d (Closing ∷ ss) closing is = pair_over q d ss is
closing_over q d (Plain c ∷ ss) closing is = cc
closing_over q d (Composed c ∷ ss) closing is = cc
closing_over q d (Grouped c ∷ ss) closing is = cc

-- ---- the argument of an accent

argument_over : (q : Bool) (d e : ℕ) (ss : List Sign) → accented_letter ss ≡ Some e → fit q false d ss ≡ true
    → fit q false d (drop (accented_count ss) ss) ≡ true
argument_over q d e [] found is = cc
argument_over q d e (Command ∷ ss) found is = cc
argument_over q d e (Closing ∷ ss) found is = cc
argument_over q d e (Plain c ∷ ss) found is =
    after_plain q d c ss (other_than takes_accent c (some_if (takes_accent c) c e found) refl) is
argument_over q d e (Composed c ∷ ss) found is = (and_parts (is_beyond_ascii c) (fit q false d ss) is).1
argument_over q d e (Grouped c ∷ ss) found is = (and_parts (is_beyond_ascii c) (fit q false d ss) is).1
argument_over q d e (Opening ∷ []) found is = cc
argument_over q d e (Opening ∷ Command ∷ ss) found is = cc
argument_over q d e (Opening ∷ Opening ∷ ss) found is = cc
argument_over q d e (Opening ∷ Closing ∷ ss) found is = cc
argument_over q d e (Opening ∷ Composed c ∷ ss) found is = cc
argument_over q d e (Opening ∷ Grouped c ∷ ss) found is = cc
argument_over q d e (Opening ∷ Plain c ∷ ss) found is =
    let parts =
    and_parts (takes_accent c) (first_sign_passes is_closing ss)
    (some_if (takes_accent c && first_sign_passes is_closing ss) c e found) in
    closing_over q d ss parts.1 (after_plain q (depth_opened q d) c ss (other_than takes_accent c parts.0 refl) is)

-- ---- the characters that commands become

-- a character that a command became is beyond ASCII
only_beyond : (o : Option ℕ) (e : ℕ) → only_beyond_ascii o ≡ Some e → is_beyond_ascii e ≡ true
only_beyond None e found = cc
only_beyond (Some c) e found = by_test (is_beyond_ascii c) refl found
  where
    by_test : (b : Bool) → is_beyond_ascii c ≡ b → character_if b c ≡ Some e → is_beyond_ascii e ≡ true
    by_test true passes is =
        let same : c ≡ e = cc in
        subst (λ x. is_beyond_ascii x ≡ true) same passes
    by_test false passes is = cc

-- an accent is put on a character, and gives one beyond ASCII
record IsComposed (o : Option ℕ) (e : ℕ) : Type 0 where
  base : ℕ
  found : o ≡ Some base
  beyond : is_beyond_ascii e ≡ true

composed_is : (mark : ℕ) (o : Option ℕ) (e : ℕ) → composed_with mark o ≡ Some e → IsComposed o e
composed_is mark None e found = cc
composed_is mark (Some c) e found = record {
  base = c;
  found = refl;
  beyond = only_beyond (only_character (nfc (letter c ∷ mark ∷ []))) e found;
}

-- there is no character, or it is beyond ASCII
abbrev is_none_or_beyond : Option ℕ → Bool
is_none_or_beyond None = true
is_none_or_beyond (Some c) = is_beyond_ascii c

letters_beyond : list_all (λ name. is_none_or_beyond (only_character (command_text name None))) letter_names ≡ true
unfolding accents symbols command_text
letters_beyond = refl

-- the text of a command is no single character, or it is beyond ASCII
abbrev test : List ℕ → Bool
test name = is_none_or_beyond (only_character (command_text name None))

listed_beyond : (names : List (List ℕ)) (name : List ℕ)
    → list_all (λ n. is_none_or_beyond (only_character (command_text n None))) names ≡ true
    → list_any (bytes_eq name) names ≡ true → is_none_or_beyond (only_character (command_text name None)) ≡ true
listed_beyond [] name all found = cc
listed_beyond (n ∷ names) name all found = by_test (bytes_eq name n) refl (listed_beyond names name)
  where
    by_test : (b : Bool) → bytes_eq name n ≡ b
        → (list_all test names ≡ true → list_any (bytes_eq name) names ≡ true → test name ≡ true) → test name ≡ true
    by_test true same more =
        ap test ((bytes_decides name n).0 same)
        ∙ (and_parts (test n) (list_all test names) all).0
    by_test false other more =
        more (and_parts (test n) (list_all test names) all).1
        (sym (ap (λ b. b || list_any (bytes_eq name) names) other) ∙ found)

letter_beyond : (name : List ℕ) (e : ℕ) → named_letter name ≡ Some e → is_beyond_ascii e ≡ true
letter_beyond name e found = by_test (list_any (bytes_eq name) letter_names) refl found
  where
    by_test : (b : Bool) → list_any (bytes_eq name) letter_names ≡ b
        → cond b (only_character (command_text name None)) None ≡ Some e → is_beyond_ascii e ≡ true
    by_test true listed is =
        sym (ap is_none_or_beyond is) ∙ listed_beyond letter_names name letters_beyond listed
    by_test false listed is = cc

-- the signs after the name of a command fit if the signs after its backslash do
name_over : (q : Bool) (d : ℕ) (ss : List Sign) → fit q true d ss ≡ true → fit q false d (drop (length (name_in_signs ss)) ss) ≡ true
name_over q d (Plain c ∷ ss) is = by_letter (is_ascii_alphabetic c)
  where
    by_letter : (b : Bool) → fit q false d (drop (length (cond b (c ∷ leading_letters ss) (c ∷ []))) (Plain c ∷ ss)) ≡ true
    by_letter true = letters_over q d ss is
    by_letter false = is
name_over q d ss is = absurd (cc)

-- signs fit after a command becomes a character beyond ASCII and the signs after the taken ones fit, or after the command stays
taken_fit : (q : Bool) (d : ℕ) (o : Option ℕ) (count : ℕ) (ss : List Sign) → fit q false d (Command ∷ ss) ≡ true
    → ((e : ℕ) → o ≡ Some e → (is_beyond_ascii e ≡ true) × (fit q false d (drop count ss) ≡ true))
    → fit q false d (with_reduction (reduced_to o count Command) ss) ≡ true
taken_fit q d None count ss is found = is
taken_fit q d (Some e) count ss is found =
    and_from (is_beyond_ascii e) (fit q false d (drop count ss)) (found e refl).0 (found e refl).1

accent_fit : (q : Bool) (d mark size : ℕ) (ss : List Sign) → fit q false d (Command ∷ ss) ≡ true
    → fit q false d (drop size ss) ≡ true → fit q false d (with_reduction (accent_reduced mark size (drop size ss)) ss) ≡ true
accent_fit q d mark size ss is rest_fits =
    let rest : List Sign = drop size ss in
    let white : ℕ = white_count rest in
    let argument : List Sign = drop white rest in
    let count : ℕ = accented_count argument in
    let drops : drop count argument ≡ drop (size + white + count) ss =
    ap (drop count) (drop-drop white size ss) ∙ drop-drop count (size + white) ss in
    taken_fit q d (composed_with mark (accented_letter argument)) (size + white + count) ss is
    (λ e found.
    let x = composed_is mark (accented_letter argument) e found in (
      x.beyond,
      subst (λ l. fit q false d l ≡ true) drops (argument_over q d x.base argument x.found (white_over q d rest rest_fits)),
    ))

empty_over : (q : Bool) (d : ℕ) (ss : List Sign) → begins_empty ss ≡ true → fit q false d ss ≡ true → fit q false d (drop 2 ss) ≡ true
empty_over q d (Opening ∷ ss) empty is = closing_over q d ss empty is
empty_over q d ss empty is = absurd (cc)

end_over : (q : Bool) (d : ℕ) (ss : List Sign) → fit q false d ss ≡ true → fit q false d (drop (end_count ss) ss) ≡ true
end_over q d ss is = by_test (begins_empty ss) refl
  where
    by_test : (b : Bool) → begins_empty ss ≡ b → fit q false d (drop (cond b 2 (white_count ss)) ss) ≡ true
    by_test true empty = empty_over q d ss empty is
    by_test false other = white_over q d ss is

letter_fit : (q : Bool) (d : ℕ) (name : List ℕ) (ss : List Sign) → fit q false d (Command ∷ ss) ≡ true
    → fit q false d (drop (length name) ss) ≡ true
    → fit q false d (with_reduction (letter_reduced (named_letter name) (length name) (drop (length name) ss)) ss) ≡ true
letter_fit q d name ss is rest_fits = by_test (first_sign_passes is_group rest && not (begins_empty rest))
  where
    rest : List Sign
    rest = drop (length name) ss

    by_test : (b : Bool)
        → fit q false d
        (with_reduction
        (cond b (stays Command) (reduced_to (named_letter name) (length name + end_count (drop (length name) ss)) Command)) ss)
        ≡ true
    by_test true = is
    by_test false =
        taken_fit q d (named_letter name) (length name + end_count (drop (length name) ss)) ss is
        (λ e found. (
          letter_beyond name e found,
          subst (λ l. fit q false d l ≡ true) (drop-drop (end_count (drop (length name) ss)) (length name) ss)
              (end_over q d (drop (length name) ss) rest_fits),
        ))

command_fit : (q : Bool) (d : ℕ) (o : Option ℕ) (ss : List Sign) → fit q false d (Command ∷ ss) ≡ true
    → fit q false d (with_reduction (command_reduced o (name_in_signs ss) ss) ss) ≡ true
command_fit q d None ss is = letter_fit q d (name_in_signs ss) ss is (name_over q d ss is)
command_fit q d (Some mark) ss is = accent_fit q d mark (length (name_in_signs ss)) ss is (name_over q d ss is)

group_fit : (q : Bool) (d : ℕ) (ss : List Sign) → fit q false d (Opening ∷ ss) ≡ true
    → fit q false d (with_reduction (group_reduced ss) ss) ≡ true
group_fit q d (Composed c ∷ Closing ∷ ss) is =
    let parts = and_parts (is_beyond_ascii c) (fit q false (depth_opened q d) (Closing ∷ ss)) is in
    and_from (is_beyond_ascii c) (fit q false d ss) parts.0 (pair_over q d ss parts.1)
group_fit q d ss is = is

reduced_fit : (q h : Bool) (d : ℕ) (s : Sign) (ss : List Sign) → fit q h d (s ∷ ss) ≡ true
    → fit q h d (with_reduction (reduced s ss) ss) ≡ true
reduced_fit q true d (Plain c) ss is = is
reduced_fit q true d s ss is = absurd (cc)
reduced_fit q false d Command ss is = command_fit q d (value_named accents (name_in_signs ss)) ss is
reduced_fit q false d Opening ss is = group_fit q d ss is
reduced_fit q false d s ss is = is

-- a sign still fits before other signs if these fit wherever the old ones do
cons_fit : (q h : Bool) (d : ℕ) (s : Sign) (ss ts : List Sign)
    → ((g : Bool) (n : ℕ) → fit q g n ss ≡ true → fit q g n ts ≡ true) → fit q h d (s ∷ ss) ≡ true → fit q h d (s ∷ ts) ≡ true
cons_fit q true d (Plain c) ss ts on is = on false d is
cons_fit q true d s ss ts on is = absurd (cc)
cons_fit q false d Command ss ts on is = on true d is
cons_fit q false d Opening ss ts on is = on false (depth_opened q d) is
cons_fit q false d Closing ss ts on is =
    let parts = and_parts (can_close q d) (fit q false (depth_closed q d) ss) is in
    and_from (can_close q d) (fit q false (depth_closed q d) ts) parts.0 (on false (depth_closed q d) parts.1)
cons_fit q false d (Composed c) ss ts on is =
    let parts = and_parts (is_beyond_ascii c) (fit q false d ss) is in
    and_from (is_beyond_ascii c) (fit q false d ts) parts.0 (on false d parts.1)
cons_fit q false d (Grouped c) ss ts on is =
    let parts = and_parts (is_beyond_ascii c) (fit q false d ss) is in
    and_from (is_beyond_ascii c) (fit q false d ts) parts.0 (on false d parts.1)
cons_fit q false d (Plain c) ss ts on is = by_slash (c == 92) is
  where
    by_slash : (b : Bool) → cond b (fit q true d ss) (is_neutral q c && fit q false d ss) ≡ true
        → cond b (fit q true d ts) (is_neutral q c && fit q false d ts) ≡ true
    by_slash true x = on true d x
    by_slash false x =
        let parts = and_parts (is_neutral q c) (fit q false d ss) x in
        and_from (is_neutral q c) (fit q false d ts) parts.0 (on false d parts.1)

-- if the braces and quotes of signs fit, they still fit when commands become characters
pub decoded_fit : (q h : Bool) (d : ℕ) (ss : List Sign) → fit q h d ss ≡ true → fit q h d (decoded ss) ≡ true
decoded_fit q h d [] is = is
decoded_fit q h d (s ∷ ss) is =
    reduced_fit q h d s (decoded ss) (cons_fit q h d s ss (decoded ss) (λ g n x. decoded_fit q g n ss x) is)
