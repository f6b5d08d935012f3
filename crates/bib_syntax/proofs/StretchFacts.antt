-- Facts about the bytes of characters, and about stretches without some character, from each place in them.
use Rattle.std.proofs.Common.{◌≡◌, ◌⊎◌, ⊎_elim, ℕ, ◌+◌, ◌-◌, ◌<◌, ◌≤◌, arith, length, length-drop, drop, get_or, true, List, [], ◌∷◌, inl, inr, sym, ap, ◌∙◌, subst}
use Rattle.std.specs.Prelude.{not, ◌==◌, encode_utf8, encode_utf8_all}
use Rattle.std.specs.Char.{len_utf8}
use Rattle.std.specs.Str.{IsUtf8, IsCharBoundary}
use Rattle.std.proofs.lemmas.List.{get_or-drop}
use Rattle.std.proofs.lemmas.Str.{byte_from_char, inside_one, length-encode, drop_past_char, IsUtf8-drop}
use Rattle.std.proofs.lemmas.Bool.{eq-eqb, ne_eqb, eqb-true, cases_lt}
use Rattle.bib_text.specs.Places.{Place, place, CharAt, Run, Longest, EndsOr}
use Rattle.bib_text.specs.Places.Run.{stop, step}
use Rattle.bib_text.proofs.PlaceFacts.{same_place, char_here, char_left}
use Rattle.bib_syntax.specs.Stretches.{IsStretch, IsStretchFrom}
use Rattle.bib_syntax.specs.declared.raw.stretches.Stretch.{Stretch}

-- the byte at an offset is the first byte of the text from this offset
pub first_byte : (text : List ℕ) (at : ℕ) → get_or (drop at text) 0 0 ≡ get_or text at 0
first_byte text at = let sum : at + 0 ≡ at = omega arith in get_or-drop at text 0 0 ∙ ap (λ n. get_or text n 0) sum

-- an ASCII byte in a character is this character
pub byte_in : {u v : Place} {c : ℕ} (k : ℕ) → CharAt u c v → u.at ≤ k → k < v.at → get_or u.text k 0 < 128 → c ≡ get_or u.text k 0
byte_in {u} {v} {c} k char before inside ascii =
    let left : u.at + (k - u.at) ≡ k = omega (arith, before) in
    let byte : get_or (drop u.at u.text) (k - u.at) 0 ≡ get_or u.text k 0 =
    get_or-drop u.at u.text (k - u.at) 0 ∙ ap (λ n. get_or u.text n 0) left in
    let width : k - u.at < length (encode_utf8 c) = omega (arith, char.next, length-encode c, before, inside) in
    inside_one c (drop v.at u.text) (drop u.at u.text) (k - u.at) char.here width (omega (arith, byte, ascii)) ∙ byte

passes_other : (c sign : ℕ) → not (c == sign) ≡ true → c ≡ sign → ⊥
passes_other c sign passes is = let fails : not true ≡ true = subst (λ b. not b ≡ true) (eq-eqb c sign is) passes in cc

-- no byte of a run without an ASCII character is this character
no_sign : (sign : ℕ) {u v : Place} (k : ℕ) → sign < 128 → Run (λ c. not (c == sign)) u v → u.at ≤ k → k < v.at
    → get_or u.text k 0 ≡ sign → ⊥
no_sign sign k ascii stop before inside is = absurd (omega (arith, before, inside))
no_sign sign k ascii (step {v = v} {c = c} char passes rest) before inside is = ⊎_elim
    (λ here. passes_other c sign passes (byte_in k char before here (subst (λ b. b < 128) (sym is) ascii) ∙ is))
    (λ later. no_sign sign k ascii rest later inside (ap (λ t. get_or t k 0) char.same ∙ is))
    (cases_lt k v.at)

-- the byte `sign` is at the offset `end`, or the text ends there
abbrev EndsAt : ℕ → List ℕ → ℕ → Type 0
EndsAt sign text end = (end ≡ length text) ⊎ (get_or text end 0 ≡ sign)

ends_at : (sign : ℕ) (text : List ℕ) (end : ℕ) → sign < 128 → EndsOr (λ c. c == sign ≡ true) (place text end) → EndsAt sign text end
ends_at sign text end ascii (inl ended) = inl ended
ends_at sign text end ascii (inr (c, v, char, is)) =
    let same : c ≡ sign = eqb-true c sign is in
    inr
    (sym (first_byte text end)
    ∙ byte_from_char (drop end text) (drop v.at text) c char.here (subst (λ d. d < 128) (sym same) ascii) ∙ same)

-- no byte from the offset `at` to `end` is `sign`
abbrev Others : ℕ → List ℕ → ℕ → ℕ → Type 0
Others sign text at end = (k : ℕ) → at ≤ k → k < end → get_or text k 0 ≡ sign → ⊥

-- if `sign` is ASCII, a character other than `sign` before the end of a stretch ends at or before it
not_past : (sign : ℕ) (text : List ℕ) (at end c : ℕ) → sign < 128 → at < end
    → CharAt (place text at) c (place text (at + len_utf8 c)) → (c ≡ sign → ⊥) → EndsAt sign text end
    → at + len_utf8 c ≤ end
not_past sign text at end c ascii below char other (inl ended) = omega (arith, ended, char_left char)
not_past sign text at end c ascii below char other (inr is) = ⊎_elim
    (λ inside. absurd (other (byte_in end char (omega (arith, below)) inside (subst (λ b. b < 128) (sym is) ascii) ∙ is)))
    (λ past. past)
    (cases_lt end (at + len_utf8 c))

-- if `sign` is ASCII, the characters from an offset to the end of a stretch are a run without `sign`
to_sign : (sign : ℕ) (text cs : List ℕ) (at end : ℕ) → sign < 128 → encode_utf8_all cs ≡ drop at text → at ≤ end
    → end ≤ length text → Others sign text at end → EndsAt sign text end
    → Run (λ c. not (c == sign)) (place text at) (place text end)
to_sign sign text [] at end ascii left to within others ends =
    let none : 0 ≡ length text - at = ap length left ∙ length-drop at text in
    let same : at ≡ end = omega (arith, none, to, within) in
    subst (λ n. Run (λ c. not (c == sign)) (place text at) (place text n)) same stop
to_sign sign text (c ∷ cs) at end ascii left to within others ends = ⊎_elim
    (λ below.
    let char : CharAt (place text at) c (place text (at + len_utf8 c)) = char_here text (encode_utf8_all cs) at c (sym left) in
    let other : c ≡ sign → ⊥ =
    λ is.
    others at (omega arith) below
    (sym (first_byte text at)
    ∙ byte_from_char (drop at text) (encode_utf8_all cs) c (sym left)
    (subst (λ d. d < 128) (sym is) ascii) ∙ is) in
    let following : at + len_utf8 c ≤ end = not_past sign text at end c ascii below char other ends in
    step char (ap not (ne_eqb c sign other))
    (to_sign sign text cs (at + len_utf8 c) end ascii (sym (drop_past_char text (encode_utf8_all cs) at c (sym left)))
    following within (λ k from. others k (omega (arith, from))) ends))
    (λ above.
    let same : at ≡ end = omega (arith, to, above) in
    subst (λ n. Run (λ c. not (c == sign)) (place text at) (place text n)) same stop)
    (cases_lt at end)

-- if `sign` is ASCII, a stretch continues from each character boundary in it to its end
pub from_inside : (sign : ℕ) (u : Place) (stretch : Stretch) → sign < 128 → IsStretch sign u.text stretch
    → stretch.start ≤ u.at → u.at ≤ stretch.end → IsCharBoundary u.text u.at → IsStretchFrom sign u stretch.end
from_inside sign u stretch ascii is from to may =
    let rest : IsUtf8 (drop u.at u.text) = IsUtf8-drop u.text u.at is.utf8 may in
    let run =
    to_sign sign u.text rest.0 u.at stretch.end ascii rest.1.1 to is.may_end.0
    (λ k before inside. no_sign sign k ascii is.longest.run (omega (arith, from, before)) inside)
    (ends_at sign u.text stretch.end ascii is.stopped) in
    record { longest = record { run = run; stops = is.longest.stops }; stopped = is.stopped; may_end = is.may_end }

-- in UTF-8 text, the longest run without `sign` from one place to another is a stretch
pub stretch_made : (sign start end : ℕ) (text : List ℕ) (u v : Place) → IsUtf8 text → u.text ≡ text → v.text ≡ text
    → start ≡ u.at → end ≡ v.at → Longest (λ c. not (c == sign)) u v → EndsOr (λ c. c == sign ≡ true) v
    → IsCharBoundary v.text end
    → IsStretch sign text (record { start = start; end = end })
stretch_made sign start end text u v utf8 before after from to longest stopped may =
    let first : u ≡ place text start = same_place before (sym from) in
    let last : v ≡ place text end = same_place after (sym to) in
    record {
      utf8 = utf8;
      longest =
          subst (λ p. Longest (λ c. not (c == sign)) p (place text end)) first
          (subst (λ p. Longest (λ c. not (c == sign)) u p) last longest);
      stopped = subst (λ p. EndsOr (λ c. c == sign ≡ true) p) last stopped;
      may_end = subst (λ t. IsCharBoundary t end) after may;
    }
