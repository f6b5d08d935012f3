-- Characters of a text don't overlap: no character goes over a place where another begins.
use Rattle.std.proofs.Common.{◌≡◌, ◌≤◌, ◌<◌, ◌+◌, ◌-◌, ◌/◌, ◌⊎◌, inl, inr, ℕ, zero, suc, Bool, true, false, cond, List, [], ◌∷◌, ◌++◌, length, drop, get_or, refl, sym, ap, subst, ◌∙◌, arith, ltb, get_or-drop, length-drop}
use Rattle.std.specs.Prelude.{encode_utf8}
use Rattle.std.specs.Char.{len_utf8}
use Rattle.std.specs.Str.{IsCharBoundary}
use lib.Utf8.{encode, next}
use Rattle.std.proofs.lemmas.Bool.{ltb-true, cases_lt}
use Rattle.std.proofs.lemmas.Str.{length-encode, len_utf8_bounds}
use Rattle.std.proofs.lemmas.List.{get_or_append_left}
use Rattle.bib_text.specs.Places.{Place, place, CharAt, AtEnd, Run}
use Rattle.bib_text.specs.Places.Run.{stop, step}
use Rattle.bib_text.proofs.PlaceFacts.{char_left}

-- ---- the first byte of a character is below 80 or from C0 on

head_of : (x : Bool) (a b rest : List ℕ) → get_or (cond x a b ++ rest) 0 0 ≡ cond x (get_or (a ++ rest) 0 0) (get_or (b ++ rest) 0 0)
head_of true a b rest = refl
head_of false a b rest = refl

lead_value : (x y z : Bool) (c i j k : ℕ) → (x ≡ true → c < 128)
    → 128 ≤ cond x c (cond y (192 + i) (cond z (224 + j) (240 + k)))
    → 192 ≤ cond x c (cond y (192 + i) (cond z (224 + j) (240 + k)))
lead_value true y z c i j k small high = absurd (omega (arith, small refl, high))
lead_value false true z c i j k small high = omega arith
lead_value false false true c i j k small high = omega arith
lead_value false false false c i j k small high = omega arith

-- the first byte of an encoded character, by its code point
lead_is : (c : ℕ) (rest : List ℕ)
    → get_or (encode c ++ rest) 0 0
    ≡ cond (ltb c 128) c (cond (ltb c 2048) (192 + c / 64) (cond (ltb c 65536) (224 + c / 4096) (240 + c / 262144)))
unfolding encode
lead_is c rest =
    head_of (ltb c 128) _ _ rest
    ∙ ap (cond (ltb c 128) c)
    (head_of (ltb c 2048) _ _ rest ∙ ap (cond (ltb c 2048) (192 + c / 64)) (head_of (ltb c 65536) _ _ rest))

-- the offset of a character is a character boundary
pub char_boundary : {u v : Place} {c : ℕ} → CharAt u c v → IsCharBoundary u.text u.at
char_boundary {u} {v} {c} char =
    let same : get_or u.text u.at 0 ≡ get_or (encode c ++ drop v.at u.text) 0 0 =
    sym (ap (λ n. get_or u.text n 0) (omega arith)) ∙ sym (get_or-drop u.at u.text 0 0)
    ∙ ap (λ t. get_or t 0 0) char.here in
    let lead = same ∙ lead_is c (drop v.at u.text) in (
      omega (arith, char_left char),
      λ below high.
          subst (λ b. 192 ≤ b) (sym lead)
          (lead_value (ltb c 128) (ltb c 2048) (ltb c 65536) c (c / 64) (c / 4096) (c / 262144) (ltb-true c 128)
          (subst (λ b. 128 ≤ b) lead high)),
    )

-- the offset where a run begins is a character boundary if the offset where it ends is one
pub run_boundary : {test : ℕ → Bool} {u v : Place} → Run test u v → IsCharBoundary v.text v.at → IsCharBoundary u.text u.at
run_boundary stop boundary = boundary
run_boundary (step char passes rest) boundary = char_boundary char

-- ---- the other bytes of a character are from 80 to BF

-- each of these bytes is from 80 to BF, as the bytes of a character after its first one are
abbrev GoOn : List ℕ → Type 0
GoOn [] = Unit {0}
GoOn (b ∷ bs) = (128 ≤ b) × (b < 192) × GoOn bs

tails : (x y z : Bool) (c i j k : ℕ) (n m l : ℕ)
    → GoOn
    (drop 1
    (cond x (c ∷ [])
    (cond y (i ∷ next n ∷ []) (cond z (j ∷ next m ∷ next n ∷ []) (k ∷ next l ∷ next m ∷ next n ∷ [])))))
tails true y z c i j k n m l = tt
tails false true z c i j k n m l = (omega arith, omega arith, tt)
tails false false true c i j k n m l = (omega arith, omega arith, (omega arith, omega arith, tt))
tails false false false c i j k n m l = (omega arith, omega arith, (omega arith, omega arith, (omega arith, omega arith, tt)))

-- the bytes of a character after its first one are from 80 to BF
tail_of : (c : ℕ) → GoOn (drop 1 (encode c))
unfolding encode
tail_of c = tails (ltb c 128) (ltb c 2048) (ltb c 65536) c (192 + c / 64) (224 + c / 4096) (240 + c / 262144) c (c / 64) (c / 4096)

each_goes_on : (bs : List ℕ) (k : ℕ) → GoOn bs → k < length bs → (128 ≤ get_or bs k 0) × (get_or bs k 0 < 192)
each_goes_on [] k all within = absurd (omega arith)
each_goes_on (b ∷ bs) zero all within = (all.0, all.1)
each_goes_on (b ∷ bs) (suc k) all within = each_goes_on bs k all.2 (omega arith)

-- each byte of a character except the first one is from 80 to BF
inner_byte : (c k : ℕ) → 1 ≤ k → k < len_utf8 c → (128 ≤ get_or (encode_utf8 c) k 0) × (get_or (encode_utf8 c) k 0 < 192)
inner_byte c k some within =
    let size : length (drop 1 (encode_utf8 c)) ≡ len_utf8 c - 1 = length-drop 1 (encode_utf8 c) ∙ ap (λ n. n - 1) (length-encode c) in
    let index : 1 + (k - 1) ≡ k = omega arith in
    let same : get_or (drop 1 (encode_utf8 c)) (k - 1) 0 ≡ get_or (encode_utf8 c) k 0 =
    get_or-drop 1 (encode_utf8 c) (k - 1) 0 ∙ ap (λ n. get_or (encode_utf8 c) n 0) index in
    let each = each_goes_on (drop 1 (encode_utf8 c)) (k - 1) (tail_of c) (omega arith) in
    (subst (λ b. 128 ≤ b) same each.0, subst (λ b. b < 192) same each.1)

-- the byte `k` bytes after a place is byte `k` of the character there
byte_of : {u v : Place} {c : ℕ} (k : ℕ) → CharAt u c v → k < len_utf8 c → get_or u.text (u.at + k) 0 ≡ get_or (encode_utf8 c) k 0
byte_of {u} {v} {c} k char within =
    sym (get_or-drop u.at u.text k 0) ∙ ap (λ t. get_or t k 0) char.here
    ∙ get_or_append_left (encode_utf8 c) (drop v.at u.text) 0 k (omega (arith, length-encode c))

-- the place is the end of its text, or a character is there
abbrev pub Border : Place → Type 0
Border u = AtEnd u ⊎ ((c : ℕ) × (v : Place) × CharAt u c v)

-- no character begins inside another character
lead_clash : {a u v w : Place} {c d : ℕ} → CharAt a d w → u.text ≡ a.text → CharAt u c v → u.at < a.at → a.at < v.at → ⊥
lead_clash {a} {u} {v} {w} {c} {d} lead same char before over =
    let k : ℕ = a.at - u.at in
    let within : k < len_utf8 c = omega (arith, char.next) in
    let index : u.at + k ≡ a.at = omega arith in
    let inner = inner_byte c k (omega arith) within in
    let byte : get_or a.text a.at 0 ≡ get_or (encode_utf8 c) k 0 =
    ap (λ t. get_or t a.at 0) (sym same) ∙ ap (λ n. get_or u.text n 0) (sym index) ∙ byte_of k char within in
    let boundary = char_boundary lead in
    let high : 128 ≤ get_or a.text a.at 0 = subst (λ b. 128 ≤ b) (sym byte) inner.0 in
    let inside : a.at < length a.text = omega (arith, char_left lead, (len_utf8_bounds d).0) in
    omega (arith, boundary.1 inside high, inner.1, byte)

-- if the text ends at `at`, or a character is there, a character that begins before `at` ends at or before `at`
pub not_over : (text : List ℕ) (at : ℕ) {u v : Place} {c : ℕ} → Border (place text at) → u.text ≡ text → CharAt u c v
    → u.at < at → v.at ≤ at
not_over text at {u} {v} {c} (inl end) same char before =
    let size : length u.text ≡ length text = ap length same in
    omega (arith, char_left char, char.next)
not_over text at {u} {v} {c} (inr here) same char before =
    elim (cases_lt at v.at) [
      | inr fits ↦ fits
      | inl over ↦ absurd (lead_clash {a = place text at} here.2 same char before over)
    ]
