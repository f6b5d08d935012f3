-- The characters of encoded characters, and an element of a comma list whose name is replaced.
use Rattle.std.proofs.Common.{◌≡◌, ℕ, zero, suc, ◌+◌, ◌-◌, ◌*◌, ◌/◌, ◌%◌, ◌<◌, ◌≤◌, Bool, true, false, cond, ◌&&◌, ltb, List, [], ◌∷◌, ◌++◌, length, take, drop, refl, sym, ap, ap₂, ◌∙◌, arith, append_assoc, length-append, take_at, drop_at}
use lib.Utf8.{encode}
use Rattle.std.specs.Prelude.{encode_utf8, encode_utf8_all, ◌==◌}
use Rattle.std.specs.Char.{is_whitespace}
use Rattle.std.specs.List.{AllByRecursion}
use Rattle.std.specs.Str.{chars, chars_after, continuation_len, lead_bits, drop_trailing_whitespace, skip_leading_whitespace, trim, trim_end, trim_start}
use Rattle.std.proofs.lemmas.Bool.{ltb-false, ltb-true, ne_eqb}
use Rattle.std.proofs.lemmas.Bool.Decides.{nat_tests}
use Rattle.std.proofs.lemmas.Str.{chars-nil, encodes-append}
use Rattle.bib_text.proofs.ListFacts.{all_append}
use Rattle.edit_entries.specs.References.{between_white}

-- ---- the characters of bytes

-- a character is complete when no more bytes of it follow
whole : (c : ℕ) (bs : List ℕ) → chars_after zero c bs ≡ c ∷ chars bs
unfolding chars
whole c [] = refl
whole c (b ∷ bs) = refl

-- after a first byte, decoding continues with the number of bytes that it announces and with its bits
led : (a n v : ℕ) (bs : List ℕ) → continuation_len a ≡ n → lead_bits a ≡ v → chars (a ∷ bs) ≡ chars_after n v bs
unfolding chars
led a n v bs size bits = ap₂ (λ m w. chars_after m w bs) size bits

-- the encoding of a character below 128 is decoded
one : (c : ℕ) (rest : List ℕ) → c < 128 → chars (c ∷ rest) ≡ c ∷ chars rest
one c rest below = led c zero c rest (grind (arith, nat_tests)) (grind (arith, nat_tests)) ∙ whole c rest

-- two bytes that encode a character are decoded
two : (c : ℕ) (rest : List ℕ) → 128 ≤ c → c < 2048 → chars ((192 + c / 64) ∷ (128 + c % 64) ∷ rest) ≡ c ∷ chars rest
two c rest low high =
    let is : (192 + c / 64 - 192) * 64 + (128 + c % 64 - 128) ≡ c = omega arith in
    let lead : 192 + c / 64 < 224 = omega arith in
    led (192 + c / 64) (suc zero) (192 + c / 64 - 192) ((128 + c % 64) ∷ rest) (grind (arith, nat_tests)) (grind (arith, nat_tests))
    ∙ whole _ rest ∙ ap (λ x. x ∷ chars rest) is

-- three bytes that encode a character are decoded
three : (c : ℕ) (rest : List ℕ) → 2048 ≤ c → c < 65536
    → chars ((224 + c / 4096) ∷ (128 + (c / 64) % 64) ∷ (128 + c % 64) ∷ rest) ≡ c ∷ chars rest
three c rest low high =
    let is : ((224 + c / 4096 - 224) * 64 + (128 + (c / 64) % 64 - 128)) * 64 + (128 + c % 64 - 128) ≡ c = omega arith in
    let lead : 224 + c / 4096 < 240 = omega arith in
    led (224 + c / 4096) (suc (suc zero)) (224 + c / 4096 - 224) ((128 + (c / 64) % 64) ∷ (128 + c % 64) ∷ rest)
    (grind (arith, nat_tests)) (grind (arith, nat_tests))
    ∙ whole _ rest ∙ ap (λ x. x ∷ chars rest) is

-- four bytes that encode a character are decoded
four : (c : ℕ) (rest : List ℕ) → 65536 ≤ c
    → chars ((240 + c / 262144) ∷ (128 + (c / 4096) % 64) ∷ (128 + (c / 64) % 64) ∷ (128 + c % 64) ∷ rest) ≡ c ∷ chars rest
four c rest low =
    let is : (((240 + c / 262144 - 240) * 64 + (128 + (c / 4096) % 64 - 128)) * 64 + (128 + (c / 64) % 64 - 128)) * 64
    + (128 + c % 64 - 128) ≡ c = omega arith in
    led (240 + c / 262144) (suc (suc (suc zero))) (240 + c / 262144 - 240)
    ((128 + (c / 4096) % 64) ∷ (128 + (c / 64) % 64) ∷ (128 + c % 64) ∷ rest)
    (grind (arith, nat_tests)) (grind (arith, nat_tests))
    ∙ whole _ rest ∙ ap (λ x. x ∷ chars rest) is

-- the first character of an encoded character and more bytes is this character, also if it isn't a scalar value
first_char : (c : ℕ) (rest : List ℕ) → chars (encode_utf8 c ++ rest) ≡ c ∷ chars rest
unfolding encode
first_char c rest = by_size (ltb c 128) (ltb c 2048) (ltb c 65536) refl refl refl
  where
    by_size : (p q r : Bool) → ltb c 128 ≡ p → ltb c 2048 ≡ q → ltb c 65536 ≡ r
        → chars (cond p (c ∷ [])
        (cond q ((192 + c / 64) ∷ (128 + c % 64) ∷ [])
        (cond r ((224 + c / 4096) ∷ (128 + (c / 64) % 64) ∷ (128 + c % 64) ∷ [])
        ((240 + c / 262144) ∷ (128 + (c / 4096) % 64) ∷ (128 + (c / 64) % 64) ∷ (128 + c % 64) ∷ []))) ++ rest)
        ≡ c ∷ chars rest
    by_size true q r a b d = one c rest (ltb-true c 128 a)
    by_size false true r a b d = two c rest (ltb-false c 128 a) (ltb-true c 2048 b)
    by_size false false true a b d = three c rest (ltb-false c 2048 b) (ltb-true c 65536 d)
    by_size false false false a b d = four c rest (ltb-false c 65536 d)

-- decoding encoded characters gives the same characters
pub chars_spelled : (cs : List ℕ) → chars (encode_utf8_all cs) ≡ cs
chars_spelled [] = chars-nil
chars_spelled (c ∷ cs) = first_char c (encode_utf8_all cs) ∙ ap (λ l. c ∷ l) (chars_spelled cs)

-- ---- commas

-- no byte is a comma
abbrev pub LacksComma : List ℕ → Type 0
LacksComma bytes = AllByRecursion (λ b. (b == 44) ≡ false) bytes

-- two texts without commas, one after the other, have no comma
pub lacks_append : (xs ys : List ℕ) → LacksComma xs → LacksComma ys → LacksComma (xs ++ ys)
lacks_append xs ys = all_append (λ b. (b == 44) ≡ false) xs ys

-- a first part of a text without commas has no comma
lacks_take : (n : ℕ) (xs : List ℕ) → LacksComma xs → LacksComma (take n xs)
lacks_take zero [] all = tt
lacks_take zero (x ∷ xs) all = tt
lacks_take (suc n) [] all = tt
lacks_take (suc n) (x ∷ xs) all = (all.0, lacks_take n xs all.1)

-- a last part of a text without commas has no comma
lacks_drop : (n : ℕ) (xs : List ℕ) → LacksComma xs → LacksComma (drop n xs)
lacks_drop zero [] all = all
lacks_drop zero (x ∷ xs) all = all
lacks_drop (suc n) [] all = tt
lacks_drop (suc n) (x ∷ xs) all = lacks_drop n xs all.1

-- an element without commas still has none after its name is replaced by one without commas
pub between_lacks : (new element : List ℕ) → LacksComma new → LacksComma element → LacksComma (between_white new element)
between_lacks new element name all =
    let first : List ℕ = take (length element - length (trim_start element)) element in
    let last : List ℕ = drop (length (trim_end element)) element in
    lacks_append (first ++ new) last
    (lacks_append first new (lacks_take (length element - length (trim_start element)) element all) name)
    (lacks_drop (length (trim_end element)) element all)

-- the bytes of a character that isn't a comma contain no comma
pub char_lacks : (c : ℕ) → (c == 44) ≡ false → LacksComma (encode_utf8 c)
unfolding encode
char_lacks c other = by_size (ltb c 128) (ltb c 2048) (ltb c 65536)
  where
    next : (n : ℕ) → (128 + n % 64 == 44) ≡ false
    next n = ne_eqb (128 + n % 64) 44 (λ same. omega (arith, same))

    lead : (m n : ℕ) → 44 < m → (m + n == 44) ≡ false
    lead m n high = ne_eqb (m + n) 44 (λ same. omega (arith, same))

    by_size : (p q r : Bool)
        → LacksComma
        (cond p (c ∷ [])
        (cond q ((192 + c / 64) ∷ (128 + c % 64) ∷ [])
        (cond r ((224 + c / 4096) ∷ (128 + (c / 64) % 64) ∷ (128 + c % 64) ∷ [])
        ((240 + c / 262144) ∷ (128 + (c / 4096) % 64) ∷ (128 + (c / 64) % 64) ∷ (128 + c % 64) ∷ []))))
    by_size true q r = (other, tt)
    by_size false true r = (lead 192 (c / 64) (omega arith), (next c, tt))
    by_size false false true = (lead 224 (c / 4096) (omega arith), (next (c / 64), (next c, tt)))
    by_size false false false = (lead 240 (c / 262144) (omega arith), (next (c / 4096), (next (c / 64), (next c, tt))))

-- the bytes of characters without commas contain no comma
pub chars_lack : (cs : List ℕ) → LacksComma cs → LacksComma (encode_utf8_all cs)
chars_lack [] all = tt
chars_lack (c ∷ cs) all = lacks_append (encode_utf8 c) (encode_utf8_all cs) (char_lacks c all.0) (chars_lack cs all.1)

-- ---- an element with another name

-- each character is white space
abbrev AreWhite : List ℕ → Type 0
AreWhite cs = AllByRecursion (λ c. is_whitespace c ≡ true) cs

-- no character is white space
abbrev pub AreDark : List ℕ → Type 0
AreDark cs = AllByRecursion (λ c. is_whitespace c ≡ false) cs

-- characters are white space, and the characters from the first that isn't white space on
leading : (cs : List ℕ) → (ws : List ℕ) × (cs ≡ ws ++ skip_leading_whitespace cs) × AreWhite ws
leading [] = ([], refl, tt)
leading (c ∷ cs) = let rest = leading cs in by_case (is_whitespace c) refl rest.0 rest.1 rest.2
  where
    by_case : (b : Bool) → is_whitespace c ≡ b → (ws : List ℕ) → cs ≡ ws ++ skip_leading_whitespace cs → AreWhite ws
        → (vs : List ℕ) × (c ∷ cs ≡ vs ++ cond b (skip_leading_whitespace cs) (c ∷ cs)) × AreWhite vs
    by_case true white ws cut all = (c ∷ ws, ap (λ l. c ∷ l) cut, (white, all))
    by_case false dark ws cut all = ([], refl, tt)

-- characters are the characters up to the last that isn't white space, and white space
trailing : (cs : List ℕ) → (ws : List ℕ) × (cs ≡ drop_trailing_whitespace cs ++ ws) × AreWhite ws
trailing [] = ([], refl, tt)
trailing (c ∷ cs) = let rest = trailing cs in by_case (is_whitespace c) (drop_trailing_whitespace cs) rest.0 refl rest.1 rest.2
  where
    by_case : (b : Bool) (front ws : List ℕ) → is_whitespace c ≡ b → cs ≡ front ++ ws → AreWhite ws
        → (vs : List ℕ) × (c ∷ cs ≡ cond (b && (length front == 0)) [] (c ∷ front) ++ vs) × AreWhite vs
    by_case true [] ws white cut all = (c ∷ ws, ap (λ l. c ∷ l) cut, (white, all))
    by_case true (x ∷ xs) ws white cut all =
        let some : (length (x ∷ xs) == 0) ≡ false = grind arith in
        (ws, ap (λ l. c ∷ l) cut ∙ sym (ap (λ b. cond b [] (c ∷ x ∷ xs) ++ ws) some), all)
    by_case false front ws dark cut all = (ws, ap (λ l. c ∷ l) cut, all)

-- white space before characters is skipped
skip_white : (ws cs : List ℕ) → AreWhite ws → skip_leading_whitespace (ws ++ cs) ≡ skip_leading_whitespace cs
skip_white [] cs all = refl
skip_white (w ∷ ws) cs all =
    ap (λ b. cond b (skip_leading_whitespace (ws ++ cs)) (w ∷ (ws ++ cs))) all.0 ∙ skip_white ws cs all.1

-- a first character that isn't white space isn't skipped
skip_dark : (c : ℕ) (cs : List ℕ) → is_whitespace c ≡ false → skip_leading_whitespace (c ∷ cs) ≡ c ∷ cs
skip_dark c cs dark = ap (λ b. cond b (skip_leading_whitespace cs) (c ∷ cs)) dark

-- if characters are white space, nothing is left when trailing white space is dropped
drop_white : (ws : List ℕ) → AreWhite ws → drop_trailing_whitespace ws ≡ []
drop_white [] all = refl
drop_white (w ∷ ws) all =
    ap₂ (λ b l. cond (b && (length l == 0)) [] (w ∷ l)) all.0 (drop_white ws all.1)

-- white space after characters that aren't white space is dropped
drop_after : (cs ws : List ℕ) → AreDark cs → AreWhite ws → drop_trailing_whitespace (cs ++ ws) ≡ cs
drop_after [] ws dark white = drop_white ws white
drop_after (c ∷ cs) ws dark white =
    ap₂ (λ b l. cond (b && (length l == 0)) [] (c ∷ l)) dark.0 (drop_after cs ws dark.1 white)

-- an element with another name is this name between the white space of the old element
between_spelled : (cs ns : List ℕ)
    → between_white (encode_utf8_all ns) (encode_utf8_all cs)
    ≡ encode_utf8_all ((leading cs).0 ++ (ns ++ (trailing cs).0))
unfolding trim_start trim_end
between_spelled cs ns =
    let l = leading cs in
    let t = trailing cs in
    let name : List ℕ = encode_utf8_all ns in
    let element : List ℕ = encode_utf8_all cs in
    let front : List ℕ = encode_utf8_all l.0 in
    let back : List ℕ = encode_utf8_all t.0 in
    let skipped : List ℕ = encode_utf8_all (skip_leading_whitespace cs) in
    let dropped : List ℕ = encode_utf8_all (drop_trailing_whitespace cs) in
    let starts : trim_start element ≡ skipped = ap (λ x. encode_utf8_all (skip_leading_whitespace x)) (chars_spelled cs) in
    let ends : trim_end element ≡ dropped = ap (λ x. encode_utf8_all (drop_trailing_whitespace x)) (chars_spelled cs) in
    let from_start : element ≡ front ++ skipped = ap encode_utf8_all l.1 ∙ encodes-append l.0 (skip_leading_whitespace cs) in
    let from_end : element ≡ dropped ++ back = ap encode_utf8_all t.1 ∙ encodes-append (drop_trailing_whitespace cs) t.0 in
    let size : length element - length (trim_start element) ≡ length front =
    omega (arith, ap length starts, ap length from_start, length-append front skipped) in
    let first : take (length element - length (trim_start element)) element ≡ front =
    ap (λ n. take n element) size ∙ ap (take (length front)) from_start ∙ take_at front skipped (length front) refl in
    let last : drop (length (trim_end element)) element ≡ back =
    ap (λ x. drop (length x) element) ends ∙ ap (drop (length dropped)) from_end ∙ drop_at dropped back (length dropped) refl in
    ap₂ (λ x y. x ++ name ++ y) first last ∙ append_assoc front name back
    ∙ sym (encodes-append l.0 (ns ++ t.0) ∙ ap (λ x. front ++ x) (encodes-append ns t.0))

-- an element with another name is, without the white space around it, this name, if the name has a character and no white space
pub trim_between : (c : ℕ) (cs ns : List ℕ) → AreDark (c ∷ ns)
    → trim (between_white (encode_utf8_all (c ∷ ns)) (encode_utf8_all cs)) ≡ encode_utf8_all (c ∷ ns)
unfolding trim_start trim_end
trim_between c cs ns dark =
    let ws : List ℕ = (leading cs).0 in
    let vs : List ℕ = (trailing cs).0 in
    let named : List ℕ = (c ∷ ns) ++ vs in
    let start : trim_start (encode_utf8_all (ws ++ named)) ≡ encode_utf8_all named =
    ap (λ x. encode_utf8_all (skip_leading_whitespace x)) (chars_spelled (ws ++ named))
    ∙ ap encode_utf8_all (skip_white ws named (leading cs).2 ∙ skip_dark c (ns ++ vs) dark.0) in
    let end : trim_end (encode_utf8_all named) ≡ encode_utf8_all (c ∷ ns) =
    ap (λ x. encode_utf8_all (drop_trailing_whitespace x)) (chars_spelled named)
    ∙ ap encode_utf8_all (drop_after (c ∷ ns) vs dark (trailing cs).2) in
    ap trim (between_spelled cs (c ∷ ns)) ∙ ap trim_end start ∙ end
