-- The effect of a command on the end of a text.
use Rattle.std.proofs.Common.{◌≡◌, ℕ, ◌+◌, ◌<◌, ◌≤◌, List, [], ◌∷◌, ◌++◌, length, take, refl, sym, ap, subst, ◌∙◌, arith, append_assoc, append-nil, length-append}
use Rattle.std.specs.Prelude.{encode_utf8, encode_utf8_all}
use Rattle.std.specs.Str.{chars, IsUtf8, IsCharBoundary}
use Rattle.std.proofs.lemmas.List.{take_at}
use Rattle.std.proofs.lemmas.Str.{encodes-append, encodes-chars, length-le-encodes, IsCharBoundary-at_seam}
use Rattle.bib_text.proofs.TextFacts.{chars_whole, chars_past, three_parts}
use Rattle.bib_contents.specs.Commands.{with_mark, letter, bare}
use Rattle.bib_contents.proofs.CommandFacts.{with_mark-push, chars_last}
use Rattle.bib_contents.proofs.LaidFacts.{last_of}
use Rattle.unicode_normalization.specs.Forms.{nfc}

-- if characters are appended to encoded characters, the result is the encoding of all of them
pub wrote_more : (now more before cs : List ℕ) → now ≡ encode_utf8_all before → more ≡ now ++ encode_utf8_all cs
    → more ≡ encode_utf8_all (before ++ cs)
wrote_more now more before cs was grew = grew ∙ ap (λ bs. bs ++ encode_utf8_all cs) was ∙ sym (encodes-append before cs)

no_characters : (cs : List ℕ) → length cs ≤ 0 → cs ≡ []
no_characters [] none = refl
no_characters (c ∷ cs) none = absurd (omega (arith, none))

-- a last part that adds no bytes is empty
pub nothing_after : (base inside : List ℕ) → length (encode_utf8_all (base ++ inside)) ≤ length (encode_utf8_all base) → inside ≡ []
nothing_after base inside short =
    let size : length (encode_utf8_all (base ++ inside))
    ≡ length (encode_utf8_all base) + length (encode_utf8_all inside) =
    ap length (encodes-append base inside) ∙ length-append (encode_utf8_all base) _ in
    let wide : length inside ≤ length (encode_utf8_all inside) = length-le-encodes inside in
    no_characters inside (omega (arith, short, size, wide))

-- if a command puts a mark on an empty argument, the mark is written without a letter
pub marked_none : (base inside : List ℕ) (mark : ℕ) (sign old new : List ℕ) {start : ℕ}
    → length (encode_utf8_all base) ≡ start → old ≡ encode_utf8_all (base ++ inside) → length old ≤ start
    → sign ≡ bare mark → new ≡ old ++ encode_utf8_all sign
    → new ≡ encode_utf8_all (base ++ with_mark mark inside)
marked_none base inside mark sign old new {start} size is short bare_is grew =
    let none : inside ≡ [] = nothing_after base inside (omega (arith, short, size, ap length is)) in
    wrote_more old new (base ++ inside) sign is grew ∙ ap (λ cs. encode_utf8_all ((base ++ cs) ++ sign)) none
    ∙ ap (λ cs. encode_utf8_all (cs ++ sign)) (append-nil base)
    ∙ ap (λ cs. encode_utf8_all (base ++ cs)) bare_is ∙ ap (λ cs. encode_utf8_all (base ++ with_mark mark cs)) (sym none)

-- equal texts that end with a character each have the same last character, and are equal before it
pub last_same : (xs ys : List ℕ) (c d : ℕ) → xs ++ c ∷ [] ≡ ys ++ d ∷ [] → (xs ≡ ys) × (c ≡ d)
last_same [] [] c d is = (refl, cc)
last_same [] (y ∷ []) c d is = absurd (cc)
last_same [] (y ∷ e ∷ ys) c d is = absurd (cc)
last_same (x ∷ []) [] c d is = absurd (cc)
last_same (x ∷ e ∷ xs) [] c d is = absurd (cc)
last_same (x ∷ xs) (y ∷ ys) c d is =
    let rest = last_same xs ys c d (cc) in
    let first : x ≡ y = cc in
    (ap (λ z. z ∷ xs) first ∙ ap (λ zs. y ∷ zs) rest.0, rest.1)

-- a mark is put on the last character of a UTF-8 text
pub marked_some : (base : List ℕ) (c : ℕ) (cs : List ℕ) (mark last : ℕ) (old leading_run new : List ℕ) → IsUtf8 old
    → IsUtf8 leading_run → old ≡ encode_utf8_all (base ++ c ∷ cs) → old ≡ leading_run ++ encode_utf8 last
    → new ≡ leading_run ++ encode_utf8_all (nfc (letter last ∷ mark ∷ [])) → new ≡ encode_utf8_all (base ++ with_mark mark (c ∷ cs))
marked_some base c cs mark last old leading_run new utf8 prefix_utf8 is popped grew =
    let split = last_of c cs in
    let whole : chars old ≡ (base ++ split.0) ++ split.1 ∷ [] =
    chars_whole (base ++ c ∷ cs) old utf8 is ∙ ap (λ xs. base ++ xs) split.2
    ∙ sym (append_assoc base split.0 (split.1 ∷ [])) in
    let parts =
    last_same (chars leading_run) (base ++ split.0) last split.1
    (sym (chars_last old leading_run last utf8 prefix_utf8 popped) ∙ whole) in
    wrote_more leading_run new (chars leading_run) (nfc (letter last ∷ mark ∷ [])) (sym (encodes-chars leading_run prefix_utf8)) grew
    ∙ ap (λ xs. encode_utf8_all (xs ++ nfc (letter last ∷ mark ∷ []))) parts.0
    ∙ ap encode_utf8_all
    (append_assoc base split.0 _ ∙ ap (λ d. base ++ (split.0 ++ nfc (letter d ∷ mark ∷ []))) parts.1
    ∙ ap (λ xs. base ++ xs) (sym (ap (with_mark mark) split.2 ∙ with_mark-push mark split.0 split.1)))

-- composing the last character of a UTF-8 text with a mark puts the mark on the last character of its non-empty part `inside`
pub marked_after : (base inside : List ℕ) (mark last : ℕ) (old leading_run new : List ℕ) {start : ℕ}
    → length (encode_utf8_all base) ≡ start → start < length old → IsUtf8 old → IsUtf8 leading_run
    → old ≡ encode_utf8_all (base ++ inside) → old ≡ leading_run ++ encode_utf8 last
    → new ≡ leading_run ++ encode_utf8_all (nfc (letter last ∷ mark ∷ [])) → new ≡ encode_utf8_all (base ++ with_mark mark inside)
marked_after base [] mark last old leading_run new size more utf8 prefix_utf8 is popped grew =
    let same : length old ≡ length (encode_utf8_all base) = ap length is ∙ ap (λ cs. length (encode_utf8_all cs)) (append-nil base) in
    absurd (omega (arith, size, more, same))
marked_after base (c ∷ cs) mark last old leading_run new size more utf8 prefix_utf8 is popped grew =
    marked_some base c cs mark last old leading_run new utf8 prefix_utf8 is popped grew

-- a text truncated to the start of its last part is the part before it
pub cut_back : (base inside now cut : List ℕ) {start : ℕ} → length (encode_utf8_all base) ≡ start
    → now ≡ encode_utf8_all (base ++ inside) → cut ≡ take start now → cut ≡ encode_utf8_all base
cut_back base inside now cut {start} size is taken =
    taken ∙ ap (take start) (is ∙ encodes-append base inside) ∙ take_at (encode_utf8_all base) (encode_utf8_all inside) start size

-- the start of a UTF-8 text's last part is a character boundary
pub boundary_at : (base inside bs : List ℕ) {start : ℕ} → length (encode_utf8_all base) ≡ start
    → bs ≡ encode_utf8_all (base ++ inside) → IsUtf8 bs → IsCharBoundary bs start
boundary_at base inside bs {start} size is utf8 =
    let parts : bs ≡ encode_utf8_all base ++ encode_utf8_all inside = is ∙ encodes-append base inside in
    subst (IsCharBoundary bs) size
    (IsCharBoundary-at_seam bs (encode_utf8_all base) (encode_utf8_all inside) parts
    (chars_past base bs (encode_utf8_all inside) utf8 parts).1)

-- a symbol with a UTF-8 text replaces an argument
pub symbol_end : (base inside now cut new text : List ℕ) {start : ℕ} → length (encode_utf8_all (base ++ [])) ≡ start
    → now ≡ encode_utf8_all ((base ++ []) ++ inside) → cut ≡ take start now → new ≡ cut ++ text → IsUtf8 text
    → new ≡ encode_utf8_all (base ++ chars text)
symbol_end base inside now cut new text {start} size is taken grew utf8 =
    let back : cut ≡ encode_utf8_all base = cut_back (base ++ []) inside now cut size is taken ∙ ap encode_utf8_all (append-nil base) in
    wrote_more cut new base (chars text) back (grew ∙ ap (λ bs. cut ++ bs) (sym (encodes-chars text utf8)))

-- a closing brace completes the text of an unknown command with an argument
pub unknown_end : (base name inside now new : List ℕ)
    → now ≡ encode_utf8_all ((base ++ 92 ∷ (name ++ 123 ∷ [])) ++ inside) → new ≡ now ++ encode_utf8_all (125 ∷ [])
    → new ≡ encode_utf8_all (base ++ 92 ∷ (name ++ 123 ∷ (inside ++ 125 ∷ [])))
unknown_end base name inside now new is grew = wrote_more now new _ (125 ∷ []) is grew ∙ ap encode_utf8_all (regrouped base name inside)
  where
    regrouped : (base name inside : List ℕ)
        → ((base ++ 92 ∷ (name ++ 123 ∷ [])) ++ inside) ++ 125 ∷ [] ≡ base ++ 92 ∷ (name ++ 123 ∷ (inside ++ 125 ∷ []))
    regrouped base name inside = simp append_assoc

-- a UTF-8 text with appended characters is the encoding of its characters and these
pub wrote_after : (old new cs : List ℕ) → IsUtf8 old → new ≡ old ++ encode_utf8_all cs → new ≡ encode_utf8_all (chars old ++ cs)
wrote_after old new cs utf8 grew = wrote_more old new (chars old) cs (sym (encodes-chars old utf8)) grew

-- the encoding of the characters of a UTF-8 text and of more characters is the text with these appended
pub wrote_from : (old new cs : List ℕ) → IsUtf8 old → new ≡ encode_utf8_all (chars old ++ cs) → new ≡ old ++ encode_utf8_all cs
wrote_from old new cs utf8 is = is ∙ encodes-append (chars old) cs ∙ ap (λ bs. bs ++ encode_utf8_all cs) (encodes-chars old utf8)

-- math is written between dollar signs
pub between_dollars : (cs old one two new : List ℕ) → one ≡ old ++ encode_utf8_all (36 ∷ [])
    → two ≡ one ++ encode_utf8_all cs → new ≡ two ++ encode_utf8_all (36 ∷ [])
    → new ≡ old ++ encode_utf8_all (36 ∷ (cs ++ 36 ∷ []))
between_dollars cs old one two new first middle last = three_parts old one two new (36 ∷ []) cs (36 ∷ []) first middle last
