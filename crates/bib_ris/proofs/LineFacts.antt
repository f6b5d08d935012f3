-- Texts that are written character by character, on one line.
use Rattle.std.proofs.Common.{◌≡◌, ℕ, List, [], ◌∷◌, ◌++◌, ◌||◌, ◌==◌, Bool, true, false, cond, map, refl, ap, ◌∙◌, append-nil}
use Rattle.std.proofs.lemmas.List.{map-append}
use Rattle.std.proofs.lemmas.Str.{encodes-append}
use Rattle.std.specs.Prelude.{encode_utf8, encode_utf8_all}
use Rattle.std.specs.List.{list_any}
use Rattle.bib_chunks.specs.Formatted.{is_break}
use Rattle.bib_csl.specs.Markup.{no_break_space}
use Rattle.bib_text.specs.Characters as char
use Rattle.bib_ris.specs.Lines.{on_line}

-- writing one more character appends its encoding
pub one_more : (f : ℕ → ℕ) (cs : List ℕ) (c : ℕ) → encode_utf8_all (map f (cs ++ c ∷ [])) ≡ encode_utf8_all (map f cs) ++ encode_utf8 (f c)
one_more f cs c =
    ap encode_utf8_all (map-append f cs (c ∷ [])) ∙ encodes-append (map f cs) (f c ∷ [])
    ∙ ap (λ t. encode_utf8_all (map f cs) ++ t) (append-nil (encode_utf8 (f c)))

kept_or_space : (b other : Bool) (c : ℕ) → is_break c ≡ b → is_break (cond (b || other) char.space c) ≡ false
kept_or_space true other c is = refl
kept_or_space false true c is = refl
kept_or_space false false c is = is

-- a text that is put on one line contains no line break
pub none_breaks : (cs : List ℕ) → list_any is_break (map on_line cs) ≡ false
none_breaks [] = refl
none_breaks (c ∷ cs) =
    ap (λ b. b || list_any is_break (map on_line cs)) (kept_or_space (is_break c) (c == no_break_space) c refl)
    ∙ none_breaks cs
