-- Texts that can be keys.
use Rattle.std.proofs.Common.{◌≡◌, ℕ, ◌+◌, ◌<◌, Bool, true, false, not, cond, List, [], ◌∷◌, ◌++◌, length, refl, sym, ◌∙◌, subst, arith, lit<, length-append}
use Rattle.std.specs.Prelude.{◌&&◌, ◌==◌, codes}
use Rattle.std.specs.Char.{is_ascii_alphanumeric}
use Rattle.std.specs.List.{flat_map, list_all, list_any}
use Rattle.std.proofs.lemmas.Bool.Decides.{nat_tests}
use Rattle.std.proofs.lemmas.List.Folds.{list_all-append}
use Rattle.std.proofs.lemmas.Bool.{and_parts, and_from}
use Rattle.bib_entry.specs.declared.entry.Entry.{Entry}
use Rattle.bib_keys.specs.Bases.{cleaned, cleaned_after, is_kept, pattern_text, part_text}
use Rattle.bib_keys.specs.Characters.{CanServeAsKey, is_in_keys}
use Rattle.bib_keys.specs.Keys.{HasSuffix, IsSuffix}
use Rattle.bib_keys.specs.declared.pattern.Part.{Part}

-- whether no two hyphens are in a row in a text after the character `last`
abbrev pub is_single : ℕ → List ℕ → Bool
is_single last [] = true
is_single last (c ∷ text) = not (last == 45 && c == 45) && is_single c text

-- the characters that stay are allowed
cleaned_allowed : (last : ℕ) (text : List ℕ) → list_all is_in_keys (cleaned_after last text) ≡ true
cleaned_allowed last [] = refl
cleaned_allowed last (c ∷ text) = of (is_kept last c) refl (cleaned_allowed c text) (cleaned_allowed last text) where
  of : (b : Bool) → is_kept last c ≡ b → list_all is_in_keys (cleaned_after c text) ≡ true
      → list_all is_in_keys (cleaned_after last text) ≡ true
      → list_all is_in_keys (cond b (c ∷ cleaned_after c text) (cleaned_after last text)) ≡ true
  of true stays after others =
      and_from (is_in_keys c) (list_all is_in_keys (cleaned_after c text))
      (and_parts (is_in_keys c) (not (last == 45 && c == 45)) stays).0 after
  of false out after others = others

-- no two hyphens in a row stay
cleaned_single : (last : ℕ) (text : List ℕ) → is_single last (cleaned_after last text) ≡ true
cleaned_single last [] = refl
cleaned_single last (c ∷ text) = of (is_kept last c) refl (cleaned_single c text) (cleaned_single last text) where
  of : (b : Bool) → is_kept last c ≡ b → is_single c (cleaned_after c text) ≡ true → is_single last (cleaned_after last text) ≡ true
      → is_single last (cond b (c ∷ cleaned_after c text) (cleaned_after last text)) ≡ true
  of true stays after others =
      and_from (not (last == 45 && c == 45)) (is_single c (cleaned_after c text))
      (and_parts (is_in_keys c) (not (last == 45 && c == 45)) stays).1 after
  of false out after others = others

-- such a text has no two hyphens in a row
single_none : (last : ℕ) (text a b : List ℕ) → is_single last text ≡ true → text ≡ a ++ ((45 ∷ 45 ∷ []) ++ b) → ⊥
single_none last [] [] b h e = cc
single_none last [] (x ∷ a) b h e = cc
single_none last (c ∷ []) [] b h e = cc
single_none last (c ∷ d ∷ text) [] b h e =
    let first : c ≡ 45 = cc in
    let second : d ≡ 45 = cc in
    let rest = (and_parts (not (last == 45 && c == 45)) (is_single c (d ∷ text)) h).1 in
    let here : not (c == 45 && d == 45) ≡ true = (and_parts (not (c == 45 && d == 45)) (is_single d text) rest).0 in
    clash (subst (λ n. not (45 == 45 && n == 45) ≡ true) second (subst (λ n. not (n == 45 && d == 45) ≡ true) first here)) where
      clash : not (45 == 45 && 45 == 45) ≡ true → ⊥
      clash x = cc
single_none last (c ∷ text) (x ∷ a) b h e =
    let rest : text ≡ a ++ ((45 ∷ 45 ∷ []) ++ b) = cc in
    single_none c text a b (and_parts (not (last == 45 && c == 45)) (is_single c text) h).1 rest

-- whether a character is no hyphen
abbrev pub is_no_hyphen : ℕ → Bool
is_no_hyphen c = not (c == 45)

-- a text without hyphens has no two in a row
single_letters : (last : ℕ) (text : List ℕ) → list_all is_no_hyphen text ≡ true → is_single last text ≡ true
single_letters last [] h = refl
single_letters last (c ∷ text) h =
    let both = and_parts (is_no_hyphen c) (list_all is_no_hyphen text) h in
    and_from (not (last == 45 && c == 45)) (is_single c text) (of (last == 45) (c == 45) both.0) (single_letters c text both.1) where
      of : (a b : Bool) → not b ≡ true → not (a && b) ≡ true
      of true b x = x
      of false b x = refl

-- a text without two hyphens in a row stays so if letters that are no hyphens are appended
single_append : (last : ℕ) (text letters : List ℕ) → is_single last text ≡ true → list_all is_no_hyphen letters ≡ true
    → is_single last (text ++ letters) ≡ true
single_append last [] letters h l = single_letters last letters l
single_append last (c ∷ text) letters h l =
    let both = and_parts (not (last == 45 && c == 45)) (is_single c text) h in
    and_from (not (last == 45 && c == 45)) (is_single c (text ++ letters)) both.0 (single_append c text letters both.1 l)

-- a text that can be a key, also with letters after it
pub record IsClean (text : List ℕ) : Type 0 where
  pub some : 0 < length text
  pub characters : list_all is_in_keys text ≡ true
  pub single : is_single 32 text ≡ true

-- the text that a pattern gives for an entry is such a text
pub clean_pattern_text : (pattern : List Part) (entry : Entry) → IsClean (pattern_text pattern entry)
clean_pattern_text pattern entry = of (list_any is_ascii_alphanumeric text) refl where
  text : List ℕ
  text = cleaned (flat_map (part_text entry) pattern)

  some : (l : List ℕ) → list_any is_ascii_alphanumeric l ≡ true → 0 < length l
  some [] h = absurd (clash h) where
    clash : false ≡ true → ⊥
    clash x = cc
  some (c ∷ l) h = omega arith

  of : (b : Bool) → list_any is_ascii_alphanumeric text ≡ b → IsClean (cond b text (codes "nokey"))
  of true h = record {
    some = some text h;
    characters = cleaned_allowed 32 (flat_map (part_text entry) pattern);
    single = cleaned_single 32 (flat_map (part_text entry) pattern);
  }
  of false h = record { some = lit< tt; characters = refl; single = refl }

-- the letters of a suffix are allowed in keys, and none is a hyphen
suffix_letters : (n : ℕ) (letters : List ℕ) → IsSuffix n letters
    → (list_all is_in_keys letters ≡ true) × (list_all is_no_hyphen letters ≡ true)
suffix_letters _ _ IsSuffix.none = (refl, refl)
suffix_letters _ _ (IsSuffix.more {n = n} {letters = letters} k small one) =
    let before = suffix_letters n letters one in (
      list_all-append is_in_keys letters ((97 + k) ∷ []) ∙ and_from _ _ before.0 (allowed (97 + k) (omega arith) (omega arith)),
      list_all-append is_no_hyphen letters ((97 + k) ∷ []) ∙ and_from _ _ before.1 (no_hyphen (97 + k) (omega arith)),
    ) where
      allowed : (c : ℕ) → 96 < c → c < 123 → (is_in_keys c && true) ≡ true
      allowed c low high = grind (arith, nat_tests)

      no_hyphen : (c : ℕ) → 96 < c → (is_no_hyphen c && true) ≡ true
      no_hyphen c low = grind (arith, nat_tests)

-- such a text with a suffix can be a key
pub suffixed_allowed : (n : ℕ) (text key : List ℕ) → IsClean text → HasSuffix n text key → CanServeAsKey key
suffixed_allowed n text key clean has =
    let letters = suffix_letters n has.suffix has.numbered in
    subst CanServeAsKey (sym has.is)
    (record {
      some = omega (arith, length-append text has.suffix, clean.some);
      characters = list_all-append is_in_keys text has.suffix ∙ and_from _ _ clean.characters letters.0;
      hyphens = λ (a, b, e). single_none 32 (text ++ has.suffix) a b (single_append 32 text has.suffix clean.single letters.1) e;
    })
