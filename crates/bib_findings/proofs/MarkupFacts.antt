-- Texts without HTML and special characters.
use Rattle.std.proofs.Common.{◌≡◌, ℕ, Bool, true, false, ◌==◌, ◌||◌, ◌&&◌, ◌++◌, ◌<◌, List, [], ◌∷◌, Option, None, Some, refl, sym, ap, ap₂, ◌∙◌, subst, cond, arith}
use Rattle.std.specs.Prelude.{IsUtf8, chars, encode_utf8, encode_utf8_all}
use Rattle.std.specs.List.{list_any}
use Rattle.std.specs.Option.{option_map_or, option_or}
use Rattle.std.proofs.lemmas.Bool.Decides.{nat_tests}
use Rattle.std.proofs.lemmas.List.Folds.{list_any-append}
use Rattle.std.proofs.lemmas.Str.{encode_ascii, encodes-chars}
use Rattle.bib_text.proofs.BoolFacts.{or_false_left, or_false_right}
use Rattle.bib_syntax.specs.Reading.{FieldReading}
use Rattle.bib_findings.specs.Html.{Markup, first_html, html_at, html_finding, html_in, printed_finding, reference_after_ampersand, specials_beside, tag_after_less}
use Rattle.bib_findings.specs.HtmlParts.{is_tested_byte}
use Rattle.bib_findings.specs.Identities.{literal_text}
use Rattle.bib_findings.specs.Outside.{open_braces_after, outside, shown}
use Rattle.bib_findings.specs.SpecialCharacters.{first_special, is_in_text, is_latex_special, is_printed, special_finding, special_of, specials_of, zone_after}
use Rattle.bib_findings.specs.declared.special_characters.Zone.{Zone}
use Rattle.bib_findings.specs.declared.special_characters.Zone.TheVariants.{InText}
use Rattle.bib_findings.proofs.SpecialFacts.{and_false}

-- a byte that isn't tested begins no HTML
none_at : (b : ℕ) (rest : List ℕ) → is_tested_byte b ≡ false → html_at (b ∷ rest) ≡ None
none_at b rest none =
    let not_less : (b == 60) ≡ false = or_false_left (b == 60) (is_latex_special b) none in
    let special : is_latex_special b ≡ false = or_false_right (b == 60) (is_latex_special b) none in
    let four : (b == 38 || b == 37 || b == 35 || b == 95) ≡ false =
    or_false_left (b == 38 || b == 37 || b == 35 || b == 95) (b == 94) special in
    let three : (b == 38 || b == 37 || b == 35) ≡ false = or_false_left (b == 38 || b == 37 || b == 35) (b == 95) four in
    let two : (b == 38 || b == 37) ≡ false = or_false_left (b == 38 || b == 37) (b == 35) three in
    let not_ampersand : (b == 38) ≡ false = or_false_left (b == 38) (b == 37) two in
    ap₂ (λ x y. cond x (tag_after_less rest) (cond y (reference_after_ampersand rest) None)) not_less not_ampersand

none_in : (b : Bool) (html : Option Markup) → html ≡ None → cond b html None ≡ None
none_in true html none = none
none_in false html none = refl

-- bytes that aren't tested contain no HTML
no_html : (zone : Zone) (text : List ℕ) → list_any is_tested_byte text ≡ false → first_html zone text ≡ None
no_html zone [] none = refl
no_html zone (b ∷ rest) none =
    let first : html_in zone (b ∷ rest) ≡ None =
    none_in (is_in_text zone) (html_at (b ∷ rest))
    (none_at b rest (or_false_left (is_tested_byte b) (list_any is_tested_byte rest) none)) in
    ap (λ o. option_or o (first_html (zone_after zone b) rest)) first
    ∙ no_html (zone_after zone b) rest (or_false_right (is_tested_byte b) (list_any is_tested_byte rest) none)

-- characters that aren't special have no first special one
none_first : (zone : Zone) (characters : List ℕ) → list_any is_latex_special characters ≡ false → first_special zone characters ≡ None
none_first zone [] none = refl
none_first zone (c ∷ rest) none =
    let first : (is_in_text zone && is_latex_special c) ≡ false =
    ap (λ b. is_in_text zone && b) (or_false_left (is_latex_special c) (list_any is_latex_special rest) none)
    ∙ and_false (is_in_text zone) in
    ap (λ b. cond b (Some c) (first_special (zone_after zone c) rest)) first
    ∙ none_first (zone_after zone c) rest (or_false_right (is_latex_special c) (list_any is_latex_special rest) none)

none_shown : (is_shown : Bool) (c : ℕ) → is_latex_special c ≡ false → list_any is_latex_special (cond is_shown (shown c) []) ≡ false
none_shown false c none = refl
none_shown true c none = by (c == 123) (c == 125) where
  by : (opens closes : Bool) → list_any is_latex_special (cond opens (120 ∷ []) (cond closes [] (c ∷ []))) ≡ false
  by true closes = refl
  by false true = refl
  by false false = ap (λ b. b || false) none

-- the text outside braces has no other special characters
none_outside : (depth : ℕ) (characters : List ℕ) → list_any is_latex_special characters ≡ false
    → list_any is_latex_special (outside depth characters) ≡ false
none_outside depth [] none = refl
none_outside depth (c ∷ rest) none =
    list_any-append is_latex_special (cond (depth == 0) (shown c) []) (outside (open_braces_after depth c) rest)
    ∙ ap₂ (λ x y. x || y)
    (none_shown (depth == 0) c (or_false_left (is_latex_special c) (list_any is_latex_special rest) none))
    (none_outside (open_braces_after depth c) rest (or_false_right (is_latex_special c) (list_any is_latex_special rest) none))

special_is_ascii : (c : ℕ) → is_latex_special c ≡ true → c < 128
special_is_ascii c special = grind (arith, nat_tests)

-- a character whose bytes aren't tested isn't special
none_spelt : (c : ℕ) → list_any is_tested_byte (encode_utf8 c) ≡ false → is_latex_special c ≡ false
none_spelt c none = by (is_latex_special c) refl where
  by : (special : Bool) → is_latex_special c ≡ special → is_latex_special c ≡ false
  by false is = is
  by true is =
      let byte : list_any is_tested_byte (c ∷ []) ≡ false =
      subst (λ l. list_any is_tested_byte l ≡ false) (encode_ascii c (special_is_ascii c is)) none in
      or_false_right (c == 60) (is_latex_special c) (or_false_left (is_tested_byte c) false byte)

-- characters whose bytes aren't tested aren't special
none_encoded : (characters : List ℕ) → list_any is_tested_byte (encode_utf8_all characters) ≡ false
    → list_any is_latex_special characters ≡ false
none_encoded [] none = refl
none_encoded (c ∷ rest) none =
    let both : (list_any is_tested_byte (encode_utf8 c) || list_any is_tested_byte (encode_utf8_all rest)) ≡ false =
    sym (list_any-append is_tested_byte (encode_utf8 c) (encode_utf8_all rest)) ∙ none in
    ap₂ (λ x y. x || y) (none_spelt c (or_false_left _ _ both)) (none_encoded rest (or_false_right _ _ both))

-- a text without tested bytes contains neither HTML nor a special character
pub no_markup : (text : List ℕ) → IsUtf8 text → list_any is_tested_byte text ≡ false
    → (first_html InText text ≡ None) × (special_of text ≡ None)
no_markup text utf8 none = (
  no_html InText text none,
  none_first InText (outside 0 (chars text))
      (none_outside 0 (chars text)
      (none_encoded (chars text) (subst (λ t. list_any is_tested_byte t ≡ false) (sym (encodes-chars text utf8)) none))),
)

-- a field whose text has no tested byte has no findings of HTML and of special characters
pub no_printed : (key : List ℕ) (f : FieldReading) → IsUtf8 (literal_text f.value.pieces)
    → list_any is_tested_byte (literal_text f.value.pieces) ≡ false → printed_finding key f ≡ []
no_printed key f utf8 none = by (is_printed f.name.text) where
  by : (printed : Bool)
      → cond printed
      (option_map_or
      (λ html. html_finding key f html ∷ specials_beside key f html)
      (first_html InText (literal_text f.value.pieces)) (specials_of key f)) []
      ≡ []
  by false = refl
  by true =
      let both = no_markup (literal_text f.value.pieces) utf8 none in
      ap₂
      (λ html special.
      option_map_or (λ h. html_finding key f h ∷ specials_beside key f h) html
      (option_map_or (λ c. special_finding key f c ∷ []) special [])) both.0 both.1
