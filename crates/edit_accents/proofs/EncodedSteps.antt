-- One more character of a text in which characters become commands.
use Rattle.std.proofs.Common.{◌≡◌, ℕ, ◌+◌, ◌<◌, Bool, true, false, List, ◌++◌, length, drop, get_or, append_assoc, sym, ap, ◌∙◌, encode_utf8, encode_utf8_all}
use Rattle.std.specs.Prelude.{◌==◌}
use Rattle.std.proofs.lemmas.Str.{encodes-append}
use Rattle.bib_text.proofs.ListFacts.{drop_is}
use Rattle.edit_accents.specs.Accents.{stretch_after}
use Rattle.edit_accents.specs.Encoded.{character_text, encoded}
use Rattle.edit_accents.specs.declared.signs.Stretch.{Stretch}

-- after a character that a backslash escapes, the text so far and that of the remaining characters are the whole text
pub escaped_step : (cs : List ℕ) (i c : ℕ) (old new whole : List ℕ) (stretch stretch' : Stretch) (is_escaped is_escaped' : Bool)
    → i < length cs → c ≡ get_or cs i c → new ≡ old ++ encode_utf8 c → is_escaped ≡ true → stretch' ≡ stretch → is_escaped' ≡ false
    → old ++ encode_utf8_all (encoded stretch is_escaped (drop i cs)) ≡ whole
    → new ++ encode_utf8_all (encoded stretch' is_escaped' (drop (i + 1) cs)) ≡ whole
escaped_step cs i c old new whole stretch stretch' is_escaped is_escaped' within is pushed escaped same free so_far =
    let rest : List ℕ = drop (i + 1) cs in
    ap (λ s. new ++ encode_utf8_all (encoded s is_escaped' rest)) same ∙ ap (λ b. new ++ encode_utf8_all (encoded stretch b rest)) free
    ∙ ap (λ n. n ++ encode_utf8_all (encoded stretch false rest)) pushed
    ∙ append_assoc old (encode_utf8 c) (encode_utf8_all (encoded stretch false rest))
    ∙ ap (λ l. old ++ encode_utf8_all (encoded stretch true l)) (sym (drop_is cs i c within is))
    ∙ ap (λ b. old ++ encode_utf8_all (encoded stretch b (drop i cs))) (sym escaped) ∙ so_far

-- after any other character, the text so far and that of the remaining characters are the whole text
pub plain_step : (cs : List ℕ) (i c : ℕ) (old new whole : List ℕ) (stretch stretch' : Stretch) (is_escaped is_escaped' : Bool)
    → i < length cs → c ≡ get_or cs i c → new ≡ old ++ encode_utf8_all (character_text stretch c (drop (i + 1) cs)) → is_escaped ≡ false
    → stretch' ≡ stretch_after stretch c (drop (i + 1) cs) → is_escaped' ≡ (c == 92)
    → old ++ encode_utf8_all (encoded stretch is_escaped (drop i cs)) ≡ whole
    → new ++ encode_utf8_all (encoded stretch' is_escaped' (drop (i + 1) cs)) ≡ whole
plain_step cs i c old new whole stretch stretch' is_escaped is_escaped' within is pushed free after escapes so_far =
    let rest : List ℕ = drop (i + 1) cs in
    let here : List ℕ = character_text stretch c rest in
    let others : List ℕ = encoded (stretch_after stretch c rest) (c == 92) rest in
    ap (λ s. new ++ encode_utf8_all (encoded s is_escaped' rest)) after
    ∙ ap (λ b. new ++ encode_utf8_all (encoded (stretch_after stretch c rest) b rest)) escapes
    ∙ ap (λ n. n ++ encode_utf8_all others) pushed
    ∙ append_assoc old (encode_utf8_all here) (encode_utf8_all others)
    ∙ ap (λ l. old ++ l) (sym (encodes-append here others))
    ∙ ap (λ l. old ++ encode_utf8_all (encoded stretch false l)) (sym (drop_is cs i c within is))
    ∙ ap (λ b. old ++ encode_utf8_all (encoded stretch b (drop i cs))) (sym free) ∙ so_far
