-- The first special character outside braces, character by character.
use Rattle.std.proofs.Common.{◌≡◌, inl, inr, ℕ, Bool, true, false, List, [], ◌∷◌, ◌++◌, ◌+◌, ◌<◌, ◌≤◌, ◌==◌, ◌&&◌, length, get_or, drop, refl, sym, ap, ◌∙◌, subst, arith, Some, None, cond}
use Rattle.std.proofs.lemmas.Bool.{cases_eq, ne_eqb}
use Rattle.std.proofs.lemmas.List.{drop_all}
use Rattle.bib_text.proofs.ListFacts.{drop_is}
use Rattle.bib_findings.specs.Outside.{open_braces_after, outside, shown}
use Rattle.bib_findings.specs.SpecialCharacters.{first_special, is_in_text, is_unescaped_special, zone_after, zone_after_shown}
use Rattle.bib_findings.specs.declared.special_characters.Zone.{Zone}
use Rattle.bib_findings.specs.declared.special_characters.Zone.TheVariants.{InText}

-- the first special character of all characters is that of the remaining ones. The first of these is in this zone, after this many open
-- braces
pub record IsSpecialAfter (characters : List ℕ) (count depth : ℕ) (zone : Zone) : Type 0 where
  pub small : depth ≤ count
  pub left : first_special InText (outside 0 characters) ≡ first_special zone (outside depth (drop count characters))

pub and_false : (b : Bool) → (b && false) ≡ false
and_false true = refl
and_false false = refl

-- the first special character of a character as it is shown and of the characters after it
abbrev IsNext : Zone → ℕ → List ℕ → Type 0
IsNext zone c rest =
    first_special zone (shown c ++ rest)
    ≡ cond (is_unescaped_special zone c) (Some c) (first_special (zone_after_shown zone c) rest)

opening_next : (zone : Zone) (rest : List ℕ) → IsNext zone 123 rest
opening_next zone rest =
    ap (λ b. cond b (Some 120) (first_special (zone_after zone 120) rest)) (and_false (is_in_text zone))
    ∙ sym (ap (λ b. cond b (Some 123) (first_special (zone_after zone 120) rest)) (and_false (is_in_text zone)))

closing_next : (zone : Zone) (rest : List ℕ) → IsNext zone 125 rest
closing_next zone rest = sym (ap (λ b. cond b (Some 125) (first_special zone rest)) (and_false (is_in_text zone)))

other_next : (zone : Zone) (c : ℕ) (rest : List ℕ) → (c ≡ 123 → ⊥) → (c ≡ 125 → ⊥) → IsNext zone c rest
other_next zone c rest no_opening no_closing =
    ap (λ b. first_special zone (cond b (120 ∷ []) (cond (c == 125) [] (c ∷ [])) ++ rest)) (ne_eqb c 123 no_opening)
    ∙ ap (λ b. first_special zone (cond b [] (c ∷ []) ++ rest)) (ne_eqb c 125 no_closing)
    ∙ sym
    (ap
    (λ b.
    cond (is_unescaped_special zone c) (Some c)
    (first_special (cond b (zone_after zone 120) (cond (c == 125) zone (zone_after zone c))) rest)) (ne_eqb c 123 no_opening)
    ∙ ap (λ b. cond (is_unescaped_special zone c) (Some c) (first_special (cond b zone (zone_after zone c)) rest))
    (ne_eqb c 125 no_closing))

shown_next : (zone : Zone) (c : ℕ) (rest : List ℕ) → IsNext zone c rest
shown_next zone c rest =
    elim (cases_eq c 123) [
      | inl opening ↦ subst (λ x. IsNext zone x rest) (sym opening) (opening_next zone rest)
      | inr no_opening ↦ elim (cases_eq c 125) [
        | inl closing ↦ subst (λ x. IsNext zone x rest) (sym closing) (closing_next zone rest)
        | inr no_closing ↦ other_next zone c rest no_opening no_closing
      ]
    ]

-- a character is shown only if no brace is open before it
step_by : (is_shown : Bool) (zone : Zone) (c : ℕ) (rest : List ℕ)
    → first_special zone (cond is_shown (shown c) [] ++ rest)
    ≡ cond (is_shown && is_unescaped_special zone c) (Some c) (first_special (cond is_shown (zone_after_shown zone c) zone) rest)
step_by true zone c rest = shown_next zone c rest
step_by false zone c rest = refl

-- the first special character of all characters is the next one, or that of the characters after it
one_step : (characters : List ℕ) (count c depth : ℕ) (zone : Zone) → IsSpecialAfter characters count depth zone
    → count < length characters → c ≡ get_or characters count c
    → first_special InText (outside 0 characters)
    ≡ cond (depth == 0 && is_unescaped_special zone c) (Some c)
    (first_special (cond (depth == 0) (zone_after_shown zone c) zone)
    (outside (open_braces_after depth c) (drop (count + 1) characters)))
one_step characters count c depth zone before within is =
    before.left
    ∙ ap (λ l. first_special zone (outside depth l)) (drop_is characters count c within is)
    ∙ step_by (depth == 0) zone c (outside (open_braces_after depth c) (drop (count + 1) characters))

-- if the next character isn't special, it is passed over
pub special_next : (characters : List ℕ) (count c depth next : ℕ) (zone after : Zone) → IsSpecialAfter characters count depth zone
    → count < length characters → c ≡ get_or characters count c → (depth == 0 && is_unescaped_special zone c) ≡ false
    → after ≡ cond (depth == 0) (zone_after_shown zone c) zone → next ≡ open_braces_after depth c → next ≤ depth + 1
    → IsSpecialAfter characters (count + 1) next after
special_next characters count c depth next zone after before within is none after_is next_is small = record {
  small = let known : depth ≤ count = before.small in omega arith;
  left =
      let rest = drop (count + 1) characters in
      one_step characters count c depth zone before within is
      ∙ ap
      (λ b.
      cond b (Some c)
      (first_special (cond (depth == 0) (zone_after_shown zone c) zone) (outside (open_braces_after depth c) rest))) none
      ∙ ap (λ z. first_special z (outside (open_braces_after depth c) rest)) (sym after_is)
      ∙ ap (λ d. first_special after (outside d rest)) (sym next_is);
}

-- a special character is the first one
pub special_found : (characters : List ℕ) (count c depth : ℕ) (zone : Zone) → IsSpecialAfter characters count depth zone
    → count < length characters → c ≡ get_or characters count c → (depth == 0 && is_unescaped_special zone c) ≡ true
    → Some c ≡ first_special InText (outside 0 characters)
special_found characters count c depth zone before within is special =
    sym
    (one_step characters count c depth zone before within is
    ∙ ap
    (λ b.
    cond b (Some c)
    (first_special (cond (depth == 0) (zone_after_shown zone c) zone)
    (outside (open_braces_after depth c) (drop (count + 1) characters)))) special)

-- after the last character, there is no special one
pub special_end : (characters : List ℕ) (count depth : ℕ) (zone : Zone) → IsSpecialAfter characters count depth zone
    → count ≡ length characters → None ≡ first_special InText (outside 0 characters)
special_end characters count depth zone before all =
    sym (before.left ∙ ap (λ l. first_special zone (outside depth l)) (drop_all count characters (omega arith)))
