-- Padded widths and last commas of entries whose fields differ only in spans and in the case of their names.
use Rattle.std.proofs.Common.{◌≡◌, ℕ, List, [], ◌∷◌, fold, length, map, refl, sym, ap, ◌∙◌}
use Rattle.std.specs.Prelude.{max, if◌then◌else◌}
use Rattle.std.specs.Str.{chars}
use Rattle.bib_syntax.specs.Reading.{FieldReading}
use Rattle.edit_format.specs.Formatted.{last_comma, padded_width}
use Rattle.edit_format.specs.declared.style.Style.{Style}
use Rattle.edit_format.proofs.FieldFacts.{field_content}
use Rattle.edit_format.proofs.WidthFacts.{width_lower}

-- the names of fields with the same content have the same number of characters
same_width : (f g : FieldReading) → field_content f ≡ field_content g → length (chars f.name.text) ≡ length (chars g.name.text)
same_width f g same = sym (width_lower f.name.text) ∙ ap (λ h. length (chars h.name.text)) same ∙ width_lower g.name.text

same_longest : (n : ℕ) (fs gs : List FieldReading) → map field_content fs ≡ map field_content gs
    → fold (λ width f. max (length (chars f.name.text)) width) n fs ≡ fold (λ width f. max (length (chars f.name.text)) width) n gs
same_longest n [] [] same = refl
same_longest n [] (g ∷ gs) same = absurd (cc)
same_longest n (f ∷ fs) [] same = absurd (cc)
same_longest n (f ∷ fs) (g ∷ gs) same =
    let first : field_content f ≡ field_content g = cc in
    let rest : map field_content fs ≡ map field_content gs = cc in
    ap (λ k. fold (λ width f. max (length (chars f.name.text)) width) (max k n) fs) (same_width f g first)
    ∙ same_longest (max (length (chars g.name.text)) n) fs gs rest

pub same_padded : (style : Style) (fs gs : List FieldReading) → map field_content fs ≡ map field_content gs
    → padded_width style fs ≡ padded_width style gs
same_padded style fs gs same = ap (λ n. if style.aligned then n else 0) (same_longest 0 fs gs same)

pub same_last : (style : Style) (fs gs : List FieldReading) → map field_content fs ≡ map field_content gs
    → last_comma style fs ≡ last_comma style gs
same_last style [] [] same = refl
same_last style [] (g ∷ gs) same = absurd (cc)
same_last style (f ∷ fs) [] same = absurd (cc)
same_last style (f ∷ fs) (g ∷ gs) same = refl
