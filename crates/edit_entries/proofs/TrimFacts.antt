-- White space at the end of a part of a text.
use Rattle.std.proofs.Common.{◌≡◌, ℕ, ◌+◌, ◌-◌, ◌≤◌, List, [], ◌∷◌, ◌++◌, length, take, drop, sym, ap, ◌∙◌, subst, arith, append_assoc, length-append, length-drop}
use Rattle.std.specs.Prelude.{encode_utf8, encode_utf8_all}
use Rattle.std.specs.Char.{is_whitespace, is_not_whitespace, len_utf8}
use Rattle.std.specs.Str.{IsUtf8, IsCharBoundary, NonePass, NoCharPasses}
use Rattle.std.proofs.lemmas.List.{drop-drop, drop-append-le, take-append-drop, take-take, length-take-le}
use Rattle.std.proofs.lemmas.Bool.{not-false}
use Rattle.std.proofs.lemmas.Str.{drop_past_char, length-encode, IsUtf8-drop, IsCharBoundary-from_take, IsCharBoundary-from_rest}
use Rattle.bib_text.specs.Places.{place, Run}
use Rattle.bib_text.specs.Places.Run.{stop, step}
use Rattle.bib_text.proofs.PlaceFacts.{char_here}

-- the bytes of white space characters are a run of white space
run_spelt : (cs : List ℕ) (text rest : List ℕ) (a : ℕ) → NonePass is_not_whitespace cs
    → drop a text ≡ encode_utf8_all cs ++ rest
    → Run is_whitespace (place text a) (place text (a + length (encode_utf8_all cs)))
run_spelt [] text rest a all here =
    let none : a ≡ a + 0 = omega arith in subst (λ n. Run is_whitespace (place text a) (place text n)) none stop
run_spelt (c ∷ cs) text rest a all here =
    let first : drop a text ≡ encode_utf8 c ++ (encode_utf8_all cs ++ rest) =
    here ∙ append_assoc (encode_utf8 c) (encode_utf8_all cs) rest in
    let size : length (encode_utf8_all (c ∷ cs)) ≡ len_utf8 c + length (encode_utf8_all cs) =
    length-append (encode_utf8 c) (encode_utf8_all cs) ∙ ap (λ n. n + length (encode_utf8_all cs)) (length-encode c) in
    let end : a + len_utf8 c + length (encode_utf8_all cs) ≡ a + length (encode_utf8_all (c ∷ cs)) = omega arith in
    let others = run_spelt cs text rest (a + len_utf8 c) all.1 (drop_past_char text (encode_utf8_all cs ++ rest) a c first) in
    step (char_here text (encode_utf8_all cs ++ rest) a c first) (not-false (is_whitespace c) all.0)
    (subst (λ n. Run is_whitespace (place text (a + len_utf8 c)) (place text n)) end others)

-- if all characters after the first `n` bytes of a part are white space, a run of white space goes from there to its end
pub white_rest : (text part : List ℕ) (start end n : ℕ) → part ≡ take (end - start) (drop start text) → start ≤ end
    → end ≤ length text → n ≤ length part → NoCharPasses is_not_whitespace (drop n part)
    → Run is_whitespace (place text (start + n)) (place text end)
white_rest text part start end n is ordered within small white =
    let rest : List ℕ = drop (end - start) (drop start text) in
    let size : length part ≡ end - start =
    ap length is ∙ length-take-le (end - start) (drop start text) (omega (arith, length-drop start text)) in
    let whole : drop start text ≡ part ++ rest = sym (take-append-drop (end - start) (drop start text)) ∙ ap (λ xs. xs ++ rest) (sym is) in
    let here : drop (start + n) text ≡ encode_utf8_all white.0 ++ rest =
    sym (drop-drop n start text) ∙ ap (drop n) whole ∙ drop-append-le n part rest small ∙ ap (λ xs. xs ++ rest) (sym white.1) in
    let left : length (encode_utf8_all white.0) ≡ length part - n = ap length white.1 ∙ length-drop n part in
    let last : start + n + length (encode_utf8_all white.0) ≡ end = omega arith in
    subst (λ m. Run is_whitespace (place text (start + n)) (place text m)) last (run_spelt white.0 text rest (start + n) white.2 here)

-- a text may be cut within a part of it after a prefix of the part that is UTF-8
pub cut_in_part : (text part front : List ℕ) (start end n : ℕ) → IsUtf8 text → IsCharBoundary text start
    → part ≡ take (end - start) (drop start text) → start ≤ end → end ≤ length text
    → front ≡ take n part → n ≤ length part → IsUtf8 front → IsCharBoundary text (start + n)
cut_in_part text part front start end n utf8 boundary is ordered within first small text_front =
    let size : length part ≡ end - start =
    ap length is ∙ length-take-le (end - start) (drop start text) (omega (arith, length-drop start text)) in
    let same : front ≡ take n (drop start text) = first ∙ ap (take n) is ∙ take-take n (end - start) (drop start text) (omega arith) in
    IsCharBoundary-from_rest text start n (omega arith)
    (IsCharBoundary-from_take (drop start text) n (IsUtf8-drop text start utf8 boundary)
    (omega (arith, length-drop start text)) (subst IsUtf8 same text_front))
