-- Facts about the text of commands: the code and the definition have equal tables of symbols, and put marks on letters alike.
use Rattle.std.proofs.Common.{append_assoc, ◌≡◌, ℕ, ◌<◌, Bool, true, false, cond, eqb, List, [], ◌∷◌, ◌++◌, length, map, Option, None, Some, refl, sym, ap, ◌∙◌, arith, bytes_eq, encode_utf8_all}
use Rattle.std.specs.Prelude.{codes}
use Rattle.std.specs.Char.{encode_utf8}
use Rattle.std.specs.List.{list_all}
use Rattle.std.specs.Option.{option_map}
use Rattle.std.specs.Str.{chars, IsUtf8}
use Rattle.std.proofs.lemmas.Bool.{and_parts, eqb-true, false≢true}
use Rattle.std.proofs.lemmas.Bool.Decides.{same_from_decides}
use Rattle.std.proofs.lemmas.List.{append-nil}
use Rattle.std.proofs.lemmas.Slice.Eq.{bytes_eq-Decides}
use Rattle.std.proofs.lemmas.Str.{encodes_same, encodes-chars, chars_past_char, chars-nil, IsUtf8-past_char}
use Rattle.bib_text.specs.Enums.{value_named}
use Rattle.bib_text.proofs.TextFacts.{chars_past, chars_whole}
use lib.Utf8.{scalars}
use Rattle.bib_contents.specs.declared.commands.TheConstants.{SYMBOLS}
use Rattle.bib_contents.specs.Commands.{accents, symbols, stroke, letter, with_mark, accent_text, other, command_text}
use Rattle.unicode_normalization.specs.Compose.{primary_composite, compose, compose_after}
use Rattle.unicode_normalization.specs.Forms.{Nfd, nfd, nfc, is_in_form}
use Rattle.unicode_normalization.specs.Order.{is_starter}
use Rattle.unicode_normalization.proofs.Computing.{unicode_normalization}
use Rattle.unicode_normalization.proofs.ComposeLemmas.{joined-free, joined-none, is_blocked-nil, compose-starter, compose_after-nil, compose_after-joined, compose_after-starter, compose_after-kept, is_starter-true, is_starter-false}
use Rattle.unicode_normalization.proofs.FormsLemmas.{decomposed-passing, is_final-Nfd, class-latin, quick_check-ascii, nfc-by_nfd, normalize-Nfd, is_in_form-true}

-- the name of the command `copyright`
abbrev pub copyright : List ℕ
copyright = codes "copyright"

-- the tables of symbols are equal, row by row
pub symbols_are : map {B = List ℕ × List ℕ} (λ row. (row.0.now, row.1.now)) SYMBOLS
    ≡ map {B = List ℕ × List ℕ} (λ row. (encode_utf8_all row.0, encode_utf8_all row.1)) symbols
unfolding encode_utf8 symbols
symbols_are = refl

-- names are equal exactly if their UTF-8 encodings are
same_name : (name bytes : List ℕ) → IsUtf8 bytes → bytes_eq (encode_utf8_all name) bytes ≡ bytes_eq name (chars bytes)
same_name name bytes utf8 =
    let by_bytes = bytes_eq-Decides (encode_utf8_all name) bytes in
    let by_chars = bytes_eq-Decides name (chars bytes) in
    same_from_decides {P = name ≡ chars bytes} _ _ (
      λ h. encodes_same name (chars bytes) (by_bytes.0 h ∙ sym (encodes-chars bytes utf8)),
      λ e. by_bytes.1 (ap encode_utf8_all e ∙ encodes-chars bytes utf8),
    )
    by_chars

-- a look-up of UTF-8 bytes in an encoded table is the encoded look-up of their characters
pub named_encoded : (rows : List (List ℕ × List ℕ)) (bytes : List ℕ) → IsUtf8 bytes
    → value_named (map (λ row. (encode_utf8_all row.0, encode_utf8_all row.1)) rows) bytes
    ≡ option_map encode_utf8_all (value_named rows (chars bytes))
named_encoded [] bytes utf8 = refl
named_encoded (row ∷ rows) bytes utf8 =
    here (bytes_eq (encode_utf8_all row.0) bytes) (bytes_eq row.0 (chars bytes))
    (value_named (map (λ row. (encode_utf8_all row.0, encode_utf8_all row.1)) rows) bytes) (value_named rows (chars bytes))
    row.1 (same_name row.0 bytes utf8) (named_encoded rows bytes utf8)
  where
    here : (is_here is_named : Bool) (first : Option (List ℕ)) (all : Option (List ℕ)) (this : List ℕ)
        → is_here ≡ is_named → first ≡ option_map encode_utf8_all all
        → cond is_here (Some (encode_utf8_all this)) first ≡ option_map encode_utf8_all (cond is_named (Some this) all)
    here true true first all this same following = refl
    here true false first all this same following = cc
    here false true first all this same following = cc
    here false false first all this same following = following

-- a text of two or more characters isn't in a table of one-character names
pub named_longer : {A : Type 0} (rows : List (List ℕ × A)) (c d : ℕ) (cs : List ℕ)
    → list_all (λ row. eqb (length row.0) 1) rows ≡ true → value_named rows (c ∷ d ∷ cs) ≡ None
named_longer [] c d cs short = refl
named_longer (row ∷ rows) c d cs short =
    let parts = and_parts (eqb (length row.0) 1) (list_all (λ row. eqb (length row.0) 1) rows) short in
    let one : length row.0 ≡ 1 = eqb-true _ _ parts.0 in
    passed (bytes_eq row.0 (c ∷ d ∷ cs)) (value_named rows (c ∷ d ∷ cs)) row.1
    (λ same. let longer : length row.0 ≡ length (c ∷ d ∷ cs) = ap length ((bytes_eq-Decides row.0 (c ∷ d ∷ cs)).0 same) in omega arith)
    (named_longer rows c d cs parts.1)
  where
    passed : {A : Type 0} (same : Bool) (rest : Option A) (value : A) → (same ≡ true → ⊥) → rest ≡ None → cond same (Some value) rest ≡ None
    passed true rest value wrong none = absurd (wrong refl)
    passed false rest value wrong none = none

-- each accent is named by one character
pub accents_short : list_all (λ row. eqb (length row.0) 1) accents ≡ true
unfolding accents
accents_short = refl

-- no mark decomposes
marks_stay : list_all (λ row. is_in_form Nfd (row.1 ∷ [])) accents ≡ true
unfolding accents unicode_normalization
marks_stay = refl

-- the stroke doesn't decompose (NFD)
pub stroke_stays : is_in_form Nfd (stroke ∷ []) ≡ true
unfolding unicode_normalization
stroke_stays = refl

-- if each value of a table passes a test, so does each found value
pub named_passes : {A : Type 0} (test : A → Bool) (rows : List (List ℕ × A)) (name : List ℕ) (value : A)
    → list_all (λ row. test row.1) rows ≡ true → value_named rows name ≡ Some value → test value ≡ true
named_passes {A = A} test [] name value all found = cc
named_passes {A = A} test (row ∷ rows) name value all found =
    let parts = and_parts (test row.1) (list_all (λ row. test row.1) rows) all in
    here (bytes_eq row.0 name) (value_named rows name) row.1 value parts.0 (named_passes test rows name value parts.1) found
  where
    here : (is_here : Bool) (rest : Option A) (this value : A) → test this ≡ true
        → (rest ≡ Some value → test value ≡ true) → cond is_here (Some this) rest ≡ Some value → test value ≡ true
    here true rest this value passes following found = cc
    here false rest this value passes following found = following found

-- the mark of an accent doesn't decompose (NFD)
pub mark_stays : (name : List ℕ) (mark : ℕ) → value_named accents name ≡ Some mark → is_in_form Nfd (mark ∷ []) ≡ true
mark_stays name mark found = named_passes (λ m. is_in_form Nfd (m ∷ [])) accents name mark marks_stay found

-- an ASCII character and a mark that doesn't decompose are their own decomposition (NFD)
decomposed_pair : (c mark : ℕ) → c < 128 → is_in_form Nfd (mark ∷ []) ≡ true → nfd (c ∷ mark ∷ []) ≡ c ∷ mark ∷ []
decomposed_pair c mark ascii stays =
    let starter = class-latin c (omega arith) in
    normalize-Nfd (c ∷ mark ∷ [])
    ∙ decomposed-passing Nfd c (mark ∷ []) (is_final-Nfd c (quick_check-ascii Nfd c ascii)) (omega arith)
    ∙ ap (λ cs. c ∷ cs) (sym (normalize-Nfd (mark ∷ [])) ∙ is_in_form-true Nfd (mark ∷ []) stays)

-- the NFC form of an ASCII character and a mark that doesn't decompose is their composition
composed_pair : (c mark : ℕ) → c < 128 → is_in_form Nfd (mark ∷ []) ≡ true → nfc (c ∷ mark ∷ []) ≡ compose (c ∷ mark ∷ [])
composed_pair c mark ascii stays = nfc-by_nfd (c ∷ mark ∷ []) ∙ ap compose (decomposed_pair c mark ascii stays)

-- if an ASCII character and a mark that doesn't decompose have a composite, it is their NFC form
pub composes : (c mark whole : ℕ) → c < 128 → is_in_form Nfd (mark ∷ []) ≡ true → primary_composite c mark ≡ Some whole
    → nfc (c ∷ mark ∷ []) ≡ whole ∷ []
composes c mark whole ascii stays one =
    let starter = class-latin c (omega arith) in
    composed_pair c mark ascii stays ∙ compose-starter c (mark ∷ []) (omega arith)
    ∙ compose_after-joined c [] mark whole [] (joined-free c [] mark (is_blocked-nil mark) ∙ one) ∙ compose_after-nil whole []

-- if an ASCII character and a mark that doesn't decompose have no composite, their NFC form is the two characters
pub stays_apart : (c mark : ℕ) → c < 128 → is_in_form Nfd (mark ∷ []) ≡ true → primary_composite c mark ≡ None
    → nfc (c ∷ mark ∷ []) ≡ c ∷ mark ∷ []
stays_apart c mark ascii stays none =
    let starter = class-latin c (omega arith) in
    composed_pair c mark ascii stays ∙ compose-starter c (mark ∷ []) (omega arith) ∙ following (is_starter mark) refl
  where
    following : (b : Bool) → is_starter mark ≡ b → compose_after c [] (mark ∷ []) ≡ c ∷ mark ∷ []
    following true is =
        compose_after-starter c [] mark [] (joined-none c [] mark none) (is_starter-true mark is)
        ∙ ap (λ cs. c ∷ cs) (compose_after-nil mark [])
    following false is =
        compose_after-kept c [] mark [] (joined-none c [] mark none) (is_starter-false mark is)
        ∙ compose_after-nil c (mark ∷ [])

-- a mark is put on the last character
pub with_mark-push : (mark : ℕ) (leading_run : List ℕ) (c : ℕ)
    → with_mark mark (leading_run ++ c ∷ []) ≡ leading_run ++ nfc (letter c ∷ mark ∷ [])
with_mark-push mark [] c = refl
with_mark-push mark (d ∷ []) c = refl
with_mark-push mark (d ∷ e ∷ leading_run) c = ap (λ cs. d ∷ cs) (with_mark-push mark (e ∷ leading_run) c)

-- if the encoding of one character is UTF-8, it has this character only
pub chars_one : (bytes : List ℕ) (c : ℕ) → IsUtf8 bytes → bytes ≡ encode_utf8 c → chars bytes ≡ c ∷ []
chars_one bytes c utf8 spells = chars_past_char bytes [] c utf8 (spells ∙ sym (append-nil _)) ∙ ap (λ cs. c ∷ cs) chars-nil

-- the characters of a UTF-8 text that ends with `c` are those of the UTF-8 text before it, and `c`
pub chars_last : (bytes leading_run : List ℕ) (c : ℕ) → IsUtf8 bytes → IsUtf8 leading_run
    → bytes ≡ leading_run ++ encode_utf8 c → chars bytes ≡ chars leading_run ++ c ∷ []
chars_last bytes leading_run c utf8 prefix_utf8 ends =
    let past =
    chars_past (chars leading_run) bytes (encode_utf8 c) utf8
    (ends ∙ ap (λ bs. bs ++ encode_utf8 c) (sym (encodes-chars leading_run prefix_utf8))) in
    past.0 ∙ ap (λ cs. chars leading_run ++ cs) (chars_one (encode_utf8 c) c past.1 refl)

-- a UTF-8 text that isn't a name in bytes isn't it in characters
pub not_named : (bytes name : List ℕ) → IsUtf8 bytes → (bytes ≡ encode_utf8_all name → ⊥) → bytes_eq (chars bytes) name ≡ false
not_named bytes name utf8 differs =
    reported (bytes_eq (chars bytes) name)
    (λ h. differs (sym (encodes-chars bytes utf8) ∙ ap encode_utf8_all ((bytes_eq-Decides _ _).0 h)))
  where
    reported : (b : Bool) → (b ≡ true → ⊥) → b ≡ false
    reported true wrong = absurd (wrong refl)
    reported false wrong = refl

-- no accent has an empty name
pub accents_empty : (bytes : List ℕ) → length bytes ≡ 0 → None ≡ value_named accents (chars bytes)
unfolding accents chars
accents_empty [] none = refl
accents_empty (b ∷ bytes) none = absurd (omega arith)

-- no accent has a name of two or more characters
pub accents_longer : (bytes rest : List ℕ) (c : ℕ) → IsUtf8 bytes → bytes ≡ encode_utf8 c ++ rest
    → eqb (length rest) 0 ≡ false → None ≡ value_named accents (chars bytes)
accents_longer bytes rest c utf8 spells more =
    sym
    (ap (value_named accents) (chars_past_char bytes rest c utf8 spells)
    ∙ longer (chars rest) (encodes-chars rest (IsUtf8-past_char bytes rest c utf8 spells)))
  where
    longer : (cs : List ℕ) → encode_utf8_all cs ≡ rest → value_named accents (c ∷ cs) ≡ None
    longer [] spelt = absurd (false≢true (sym more ∙ ap (λ bs. eqb (length bs) 0) (sym spelt)))
    longer (d ∷ cs) spelt = named_longer accents c d cs accents_short

-- a UTF-8 text that is the encoding of one character with nothing after it has this character only
pub accents_one : (bytes rest : List ℕ) (c : ℕ) → IsUtf8 bytes → bytes ≡ encode_utf8 c ++ rest
    → eqb (length rest) 0 ≡ true → chars bytes ≡ c ∷ []
accents_one bytes [] c utf8 spells none = chars_past_char bytes [] c utf8 spells ∙ ap (λ cs. c ∷ cs) chars-nil
accents_one bytes (r ∷ rest) c utf8 spells none = let empty : length (r ∷ rest) ≡ 0 = eqb-true _ _ none in absurd (omega arith)

-- `o` without an argument is the letter ø
pub other_o : (name : List ℕ) → name ≡ 111 ∷ [] → other (chars name) None ≡ 248 ∷ []
unfolding chars
other_o name is = ap (λ bs. other (chars bs) None) is

-- `o` puts a stroke on its argument
pub other_o_with : (name argument : List ℕ) → name ≡ 111 ∷ [] → other (chars name) (Some argument) ≡ with_mark stroke argument
unfolding chars
other_o_with name argument is = ap (λ bs. other (chars bs) (Some argument)) is

-- `copyright` without an argument is the copyright sign
pub other_copyright : (name : List ℕ) → name ≡ copyright → other (chars name) None ≡ 169 ∷ []
unfolding chars
other_copyright name is = ap (λ bs. other (chars bs) None) is

-- `copyright` puts the copyright sign before its argument
pub other_copyright_with : (name argument : List ℕ) → name ≡ copyright → other (chars name) (Some argument) ≡ 169 ∷ argument
unfolding chars
other_copyright_with name argument is = ap (λ bs. other (chars bs) (Some argument)) is

-- the text, by `other`, of a command without an argument whose UTF-8 name is neither `o` nor `copyright`
pub other_unknown : (name : List ℕ) → IsUtf8 name → (name ≡ 111 ∷ [] → ⊥) → (name ≡ copyright → ⊥)
    → other (chars name) None ≡ 92 ∷ (chars name ++ 32 ∷ [])
unfolding encode_utf8
other_unknown name utf8 not_o not_copyright = rw (not_named name (111 ∷ []) utf8 not_o, not_named name copyright utf8 not_copyright)

-- `other` keeps a command with an argument if its UTF-8 name is neither `o` nor `copyright`
pub other_unknown_with : (name argument : List ℕ) → IsUtf8 name → (name ≡ 111 ∷ [] → ⊥) → (name ≡ copyright → ⊥)
    → other (chars name) (Some argument) ≡ codes "\\" ++ chars name ++ codes "{" ++ argument ++ codes "}"
unfolding encode_utf8
other_unknown_with name argument utf8 not_o not_copyright =
    rw (not_named name (111 ∷ []) utf8 not_o, not_named name copyright utf8 not_copyright)

-- the text of a command that is an accent
pub given_accent : (name : List ℕ) (argument : Option (List ℕ)) (mark : ℕ) → value_named accents name ≡ Some mark
    → command_text name argument ≡ accent_text mark argument
unfolding command_text
given_accent name argument mark is = rw is

-- the command of a symbol has its text, whatever the argument
pub given_symbol : (name : List ℕ) (argument : Option (List ℕ)) (text : List ℕ) → value_named accents name ≡ None
    → value_named symbols name ≡ Some text → command_text name argument ≡ text
unfolding command_text
given_symbol name argument text none is = rw (none, is)

-- the text of a command that is neither an accent nor a symbol
pub given_other : (name : List ℕ) (argument : Option (List ℕ)) → value_named accents name ≡ None → value_named symbols name ≡ None
    → command_text name argument ≡ other name argument
unfolding command_text
given_other name argument none absent = rw (none, absent)

-- a found text in UTF-8 is the encoding of a found text
pub symbol_text : (found : Option (List ℕ)) (bytes : List ℕ) → Some bytes ≡ option_map encode_utf8_all found
    → (text : List ℕ) × (found ≡ Some text) × (bytes ≡ encode_utf8_all text)
symbol_text None bytes is = absurd (cc)
symbol_text (Some text) bytes is = (text, refl, cc)

-- if there is no encoding of a text, there is no text
pub symbol_none : (found : Option (List ℕ)) → None ≡ option_map encode_utf8_all found → found ≡ None
symbol_none None is = refl
symbol_none (Some text) is = absurd (cc)

-- the texts of symbols consist of valid characters
symbols_scalars : list_all (λ row. scalars row.1) symbols ≡ true
unfolding symbols
symbols_scalars = refl

-- the encoding of a symbol's text is UTF-8
pub symbol_utf8 : (name text bytes : List ℕ) → value_named symbols name ≡ Some text → bytes ≡ encode_utf8_all text → IsUtf8 bytes
symbol_utf8 name text bytes found is = rw is (text, (named_passes scalars symbols name text symbols_scalars found, refl))

-- the characters of the encoding of a symbol's text are the text
pub symbol_chars : (name text bytes : List ℕ) → value_named symbols name ≡ Some text → bytes ≡ encode_utf8_all text → chars bytes ≡ text
symbol_chars name text bytes found is = chars_whole text bytes (symbol_utf8 name text bytes found is) is

-- the text of an unknown command with its argument, regrouped
pub unknown_shape : (name argument : List ℕ)
    → codes "\\" ++ name ++ codes "{" ++ argument ++ codes "}" ≡ 92 ∷ (name ++ 123 ∷ (argument ++ 125 ∷ []))
unknown_shape name argument = simp append_assoc
