-- Texts in lowercase, character by character.
use Rattle.std.proofs.Common.{◌≡◌, ℕ, Bool, false, not, ◌&&◌, ◌++◌, ◌+◌, ◌<◌, ◌≤◌, List, [], ◌∷◌, Option, Some, None, length, get_or, drop, refl, sym, ap, ap₂, ◌∙◌, append_assoc, append-nil, arith, cond}
use Rattle.std.specs.Prelude.{chars, encode_utf8_all, option_to_list}
use Rattle.std.specs.Char.Iter.{case_mapping_chars, case_mapping_first, case_mapping_second, case_mapping_third}
use Rattle.std.specs.Char.Unicode.ToLowercase.{to_lowercase}
use Rattle.std.specs.List.{flat_map, list_any}
use Rattle.std.specs.StrCase.Lower.{is_in_word_after, lowercase_before, lowercase_chars, starts_with_cased, str_to_lowercase}
use Rattle.std.proofs.lemmas.List.{drop_all}
use Rattle.std.proofs.lemmas.Str.{encodes-append}
use Rattle.bib_text.proofs.BoolFacts.{or_false_left, or_false_right}
use Rattle.bib_text.proofs.ListFacts.{drop_is}
use Rattle.bib_findings.specs.Lowercase.{is_capital_sigma}

-- without a capital sigma, the lowercase form of a text consists of those of its characters
formed : (in_word : Bool) (characters : List ℕ) → list_any is_capital_sigma characters ≡ false
    → lowercase_chars in_word characters ≡ flat_map to_lowercase characters
formed in_word [] none = refl
formed in_word (c ∷ rest) none =
    ap₂ (λ l m. l ++ m)
    (ap (λ b. cond (b && in_word && not (starts_with_cased rest)) (0x3C2 ∷ []) (to_lowercase c))
    (or_false_left (is_capital_sigma c) (list_any is_capital_sigma rest) none))
    (formed (is_in_word_after in_word c) rest (or_false_right (is_capital_sigma c) (list_any is_capital_sigma rest) none))

pub lowercase_formed : (text : List ℕ) → list_any is_capital_sigma (chars text) ≡ false
    → encode_utf8_all (flat_map to_lowercase (chars text)) ≡ str_to_lowercase text
unfolding str_to_lowercase
lowercase_formed text none = ap encode_utf8_all (sym (formed false (chars text) none))

-- whether `text` and then the lowercase forms of the characters after the first `count` are those of all characters
abbrev pub IsFormed : List ℕ → ℕ → List ℕ → Type 0
IsFormed characters count text =
    encode_utf8_all (flat_map to_lowercase characters) ≡ text ++ encode_utf8_all (flat_map to_lowercase (drop count characters))

-- the next character extends the text by its lowercase form
pub formed_next : (characters : List ℕ) (count c : ℕ) (text more : List ℕ) → IsFormed characters count text
    → count < length characters → c ≡ get_or characters count c → more ≡ text ++ encode_utf8_all (to_lowercase c)
    → IsFormed characters (count + 1) more
formed_next characters count c text more before within is more_is =
    let rest : List ℕ = flat_map to_lowercase (drop (count + 1) characters) in
    before
    ∙ ap (λ l. text ++ encode_utf8_all (flat_map to_lowercase l)) (drop_is characters count c within is)
    ∙ ap (λ l. text ++ l) (encodes-append (to_lowercase c) rest)
    ∙ sym (append_assoc text (encode_utf8_all (to_lowercase c)) (encode_utf8_all rest))
    ∙ ap (λ l. l ++ encode_utf8_all rest) (sym more_is)

-- after the last character, the text consists of the lowercase forms of all characters
pub formed_end : (characters : List ℕ) (count : ℕ) (text : List ℕ) → IsFormed characters count text → count ≡ length characters
    → text ≡ encode_utf8_all (flat_map to_lowercase characters)
formed_end characters count text before all =
    sym
    (before ∙ ap (λ l. text ++ encode_utf8_all (flat_map to_lowercase l)) (drop_all count characters (omega arith)) ∙ append-nil text)

-- texts that are appended one after another are appended together
pub three_appended : (old one two new : List ℕ) (a b c : List ℕ) → one ≡ old ++ encode_utf8_all a → two ≡ one ++ encode_utf8_all b
    → new ≡ two ++ encode_utf8_all c → new ≡ old ++ encode_utf8_all (a ++ (b ++ c))
three_appended old one two new a b c first second third =
    third ∙ ap (λ l. l ++ encode_utf8_all c) (second ∙ ap (λ l. l ++ encode_utf8_all b) first)
    ∙ append_assoc (old ++ encode_utf8_all a) (encode_utf8_all b) (encode_utf8_all c)
    ∙ append_assoc old (encode_utf8_all a) (encode_utf8_all b ++ encode_utf8_all c)
    ∙ ap (λ l. old ++ (encode_utf8_all a ++ l)) (sym (encodes-append b c))
    ∙ ap (λ l. old ++ l) (sym (encodes-append a (b ++ c)))

-- the letters of a lowercase form are the first, the second and the third of them, as far as there are so many
pub letters_listed : (letters : _) (a b c : Option ℕ) → case_mapping_first letters ≡ a → case_mapping_second letters ≡ b
    → case_mapping_third letters ≡ c
    → case_mapping_chars letters ≡ option_to_list a ++ (option_to_list b ++ option_to_list c)
letters_listed letters None None None p q r = rw (p, q, r)
letters_listed letters None None (Some z) p q r = rw (p, q, r)
letters_listed letters None (Some y) None p q r = rw (p, q, r)
letters_listed letters None (Some y) (Some z) p q r = rw (p, q, r)
letters_listed letters (Some x) None None p q r = rw (p, q, r)
letters_listed letters (Some x) None (Some z) p q r = rw (p, q, r)
letters_listed letters (Some x) (Some y) None p q r = rw (p, q, r)
letters_listed letters (Some x) (Some y) (Some z) p q r = rw (p, q, r)
