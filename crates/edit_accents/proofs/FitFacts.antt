-- If the braces and quotes of a text fit, so do those of its signs. If those of signs fit, so do those of their text.
use Rattle.std.proofs.Common.{◌≡◌, inl, inr, ℕ, suc, ◌<◌, Bool, true, false, cond, List, [], ◌∷◌, ◌++◌, refl, sym, ap, ◌∙◌, subst, arith}
use Rattle.std.specs.Prelude.{◌==◌, ◌&&◌, not}
use Rattle.std.proofs.lemmas.Bool.{and_from, and_parts, cases_eq, lt-ltb, ne_eqb}
use Rattle.bib_text.proofs.PlaceFacts.{test_clash}
use Rattle.edit_accents.specs.Accents.{is_beyond_ascii, reads_commands, sign_of, signs, written_sign, spot_after, stretch_after, written}
use Rattle.edit_accents.specs.Balance.{can_close, depth_closed, fit, text_fits, is_neutral, depth_opened}
use Rattle.edit_accents.specs.declared.signs.Sign.{Sign}
use Rattle.edit_accents.specs.declared.signs.Sign.TheVariants.{Command, Opening, Closing, Plain, Composed, Grouped}
use Rattle.edit_accents.specs.declared.signs.Stretch.{Stretch}
use Rattle.edit_accents.specs.declared.signs.Stretch.TheVariants.{Text, Accent, Math, Address}
use Rattle.edit_accents.specs.declared.writing.Spot.{Spot}
use Rattle.edit_accents.specs.declared.writing.Spot.TheVariants.{Free, Begun, Word, Waits, Closed}

-- ---- characters without a meaning

-- a character other than a backslash, a quote or a brace
pub record IsDull (c : ℕ) : Type 0 where
  pub no_slash : c ≡ 92 → ⊥
  pub no_quote : c ≡ 34 → ⊥
  pub no_open : c ≡ 123 → ⊥
  pub no_close : c ≡ 125 → ⊥

-- the value for a character: one for the backslash, the quote and each brace, and one for all other characters
abbrev by_cases : ℕ → Bool → Bool → Bool → Bool → Bool → Bool
by_cases c hidden quote open_ close_ over =
    cond (c == 92) hidden (cond (c == 34) quote (cond (c == 123) open_ (cond (c == 125) close_ over)))

dull_case : (c : ℕ) (hidden quote open_ close_ over : Bool) → IsDull c → by_cases c hidden quote open_ close_ over ≡ over
dull_case c hidden quote open_ close_ over dull =
    ap (λ x. cond x hidden (cond (c == 34) quote (cond (c == 123) open_ (cond (c == 125) close_ over)))) (ne_eqb c 92 dull.no_slash)
    ∙ ap (λ x. cond x quote (cond (c == 123) open_ (cond (c == 125) close_ over))) (ne_eqb c 34 dull.no_quote)
    ∙ ap (λ x. cond x open_ (cond (c == 125) close_ over)) (ne_eqb c 123 dull.no_open)
    ∙ ap (λ x. cond x close_ over) (ne_eqb c 125 dull.no_close)

pub over_dull : (q : Bool) (d c : ℕ) (cs : List ℕ) → IsDull c → text_fits q false d (c ∷ cs) ≡ text_fits q false d cs
over_dull q d c cs dull = dull_case c _ _ _ _ _ dull

pub is_dull : (c : ℕ) → is_beyond_ascii c ≡ true → IsDull c
is_dull c beyond = record {
  no_slash = no 92 (omega arith);
  no_quote = no 34 (omega arith);
  no_open = no 123 (omega arith);
  no_close = no 125 (omega arith);
}
  where
    no : (n : ℕ) → n < 128 → c ≡ n → ⊥
    no n small is = test_clash (is_beyond_ascii c) beyond (ap not (lt-ltb c 128 (omega (arith, is, small))))

-- ---- the signs of a text

slash_fit : (q : Bool) (d : ℕ) (stretch : Stretch) (ss : List Sign) → fit q true d ss ≡ true
    → fit q false d (sign_of stretch 92 ∷ ss) ≡ true
slash_fit q d Text ss is = is
slash_fit q d Math ss is = is
slash_fit q d Accent ss is = is
slash_fit q d (Address depth) ss is = is

pub dull_sign : (c : ℕ) (stretch : Stretch) → IsDull c → sign_of stretch c ≡ Plain c
dull_sign c stretch dull =
    ap (λ x. cond x Opening (cond (c == 125) Closing (cond (c == 92 && reads_commands stretch) Command (Plain c))))
    (ne_eqb c 123 dull.no_open)
    ∙ ap (λ x. cond x Closing (cond (c == 92 && reads_commands stretch) Command (Plain c))) (ne_eqb c 125 dull.no_close)
    ∙ ap (λ x. cond (x && reads_commands stretch) Command (Plain c)) (ne_eqb c 92 dull.no_slash)

neutral_dull : (q : Bool) (c : ℕ) → IsDull c → is_neutral q c ≡ true
neutral_dull q c dull =
    ap (λ x. not x && not (c == 125) && not (q && c == 34)) (ne_eqb c 123 dull.no_open)
    ∙ ap (λ x. not x && not (q && c == 34)) (ne_eqb c 125 dull.no_close)
    ∙ ap (λ x. not (q && x)) (ne_eqb c 34 dull.no_quote) ∙ never q
  where
    never : (q : Bool) → not (q && false) ≡ true
    never true = refl
    never false = refl

-- signs that fit also fit after a neutral plain character other than a backslash
pub plain_fit : (q : Bool) (d c : ℕ) (ss : List Sign) → (c ≡ 92 → ⊥) → is_neutral q c ≡ true → fit q false d ss ≡ true
    → fit q false d (Plain c ∷ ss) ≡ true
plain_fit q d c ss no_slash neutral is =
    ap (λ x. cond x (fit q true d ss) (is_neutral q c && fit q false d ss)) (ne_eqb c 92 no_slash)
    ∙ and_from (is_neutral q c) (fit q false d ss) neutral is

quote_fit : (q : Bool) (d : ℕ) (ss : List Sign) (rest : Bool) → (rest ≡ true → fit q false d ss ≡ true) → not q && rest ≡ true
    → fit q false d (Plain 34 ∷ ss) ≡ true
quote_fit true d ss rest on is = cc
quote_fit false d ss rest on is = on is

-- if a text fits, its signs fit
pub signs_fit : (q h : Bool) (d : ℕ) (stretch : Stretch) (cs : List ℕ) → text_fits q h d cs ≡ true → fit q h d (signs stretch h cs) ≡ true
signs_fit q h d stretch [] is = is
signs_fit q true d stretch (c ∷ cs) is = signs_fit q false d stretch cs is
signs_fit q false d stretch (c ∷ cs) is =
    elim (cases_eq c 92) [
      | inl slash ↦ subst (λ x. text_fits q false d (x ∷ cs) ≡ true → fit q false d (signs stretch false (x ∷ cs)) ≡ true) (sym slash)
          (λ on. slash_fit q d stretch (signs (stretch_after stretch 92 cs) true cs)
          (signs_fit q true d (stretch_after stretch 92 cs) cs on)) is
      | inr no_slash ↦ elim (cases_eq c 34) [
        | inl quote ↦ subst (λ x. text_fits q false d (x ∷ cs) ≡ true → fit q false d (signs stretch false (x ∷ cs)) ≡ true) (sym quote)
            (λ on. quote_fit q d (signs (stretch_after stretch 34 cs) false cs) (text_fits q false d cs)
            (signs_fit q false d (stretch_after stretch 34 cs) cs) on) is
        | inr no_quote ↦ elim (cases_eq c 123) [
          | inl opens ↦ subst (λ x. text_fits q false d (x ∷ cs) ≡ true → fit q false d (signs stretch false (x ∷ cs)) ≡ true) (sym opens)
              (λ on. signs_fit q false (depth_opened q d) (stretch_after stretch 123 cs) cs on) is
          | inr no_open ↦ elim (cases_eq c 125) [
            | inl closes ↦ subst (λ x. text_fits q false d (x ∷ cs) ≡ true → fit q false d (signs stretch false (x ∷ cs)) ≡ true)
                (sym closes)
                (λ on.
                let parts = and_parts (can_close q d) (text_fits q false (depth_closed q d) cs) on in
                and_from (can_close q d) (fit q false (depth_closed q d) (signs (stretch_after stretch 125 cs) false cs)) parts.0
                (signs_fit q false (depth_closed q d) (stretch_after stretch 125 cs) cs parts.1)) is
            | inr no_close ↦
                let dull : IsDull c = record { no_slash = no_slash; no_quote = no_quote; no_open = no_open; no_close = no_close } in
                let rest : List Sign = signs (stretch_after stretch c cs) false cs in
                ap (λ s. fit q false d (s ∷ signs (stretch_after stretch c cs) (c == 92) cs)) (dull_sign c stretch dull)
                ∙ ap (λ b. fit q false d (Plain c ∷ signs (stretch_after stretch c cs) b cs)) (ne_eqb c 92 no_slash)
                ∙ plain_fit q d c rest no_slash (neutral_dull q c dull)
                (signs_fit q false d (stretch_after stretch c cs) cs (sym (over_dull q d c cs dull) ∙ is))
          ]
        ]
      ]
    ]

-- ---- the text of signs

-- a closing brace may come after an opening one
pub close_opened : (q : Bool) (d : ℕ) → can_close q (depth_opened q d) ≡ true
close_opened true d = refl
close_opened false d = lt-ltb 0 (suc d) (omega arith)

pub back_again : (q : Bool) (d : ℕ) → depth_closed q (depth_opened q d) ≡ d
back_again true d = refl
back_again false d = omega arith

-- a text that fits also fits after a pair of braces
pub closes_again : (q : Bool) (d : ℕ) (cs : List ℕ) → text_fits q false d cs ≡ true
    → can_close q (depth_opened q d) && text_fits q false (depth_closed q (depth_opened q d)) cs ≡ true
closes_again q d cs is =
    and_from (can_close q (depth_opened q d)) (text_fits q false (depth_closed q (depth_opened q d)) cs) (close_opened q d)
    (subst (λ n. text_fits q false n cs ≡ true) (sym (back_again q d)) is)

-- a text that fits also fits after a neutral character other than a backslash
plain_fits : (q : Bool) (d c : ℕ) (cs : List ℕ) → (c ≡ 92 → ⊥) → is_neutral q c ≡ true → text_fits q false d cs ≡ true
    → text_fits q false d (c ∷ cs) ≡ true
plain_fits q d c cs no_slash neutral is =
    let first = and_parts (not (c == 123) && not (c == 125)) (not (q && c == 34)) neutral in
    let second = and_parts (not (c == 123)) (not (c == 125)) first.0 in
    elim (cases_eq c 34) [
      | inl quote ↦ subst (λ x. not (q && x == 34) ≡ true → text_fits q false d (x ∷ cs) ≡ true) (sym quote)
          (λ free. quote_free q free is) first.1
      | inr no_quote ↦ over_dull q d c cs
          (record {
            no_slash = no_slash;
            no_quote = no_quote;
            no_open = λ opens. test_clash (not (c == 123)) second.0 (ap (λ x. not (x == 123)) opens);
            no_close = λ closes. test_clash (not (c == 125)) second.1 (ap (λ x. not (x == 125)) closes);
          }) ∙ is
    ]
  where
    quote_free : (x : Bool) → not (x && true) ≡ true → text_fits x false d cs ≡ true → not x && text_fits x false d cs ≡ true
    quote_free true free on = cc
    quote_free false free on = on

-- a text that fits also fits after a character beyond ASCII in braces
braced_fits : (q : Bool) (d c : ℕ) (cs : List ℕ) → is_beyond_ascii c ≡ true → text_fits q false d cs ≡ true
    → text_fits q false d (123 ∷ c ∷ 125 ∷ cs) ≡ true
braced_fits q d c cs beyond is = over_dull q (depth_opened q d) c (125 ∷ cs) (is_dull c beyond) ∙ closes_again q d cs is

-- a text that fits also fits after the text of a composed character
composed_fits : (q : Bool) (d c : ℕ) (cs : List ℕ) (spot : Spot) → is_beyond_ascii c ≡ true → text_fits q false d cs ≡ true
    → text_fits q false d (written_sign spot (Composed c) ++ cs) ≡ true
composed_fits q d c cs Free beyond is = over_dull q d c cs (is_dull c beyond) ∙ is
composed_fits q d c cs Begun beyond is = over_dull q d c cs (is_dull c beyond) ∙ is
composed_fits q d c cs Word beyond is = braced_fits q d c cs beyond is
composed_fits q d c cs Waits beyond is = braced_fits q d c cs beyond is
composed_fits q d c cs Closed beyond is = over_dull q d c cs (is_dull c beyond) ∙ is

grouped_fits : (q : Bool) (d c : ℕ) (cs : List ℕ) (spot : Spot) → is_beyond_ascii c ≡ true → text_fits q false d cs ≡ true
    → text_fits q false d (written_sign spot (Grouped c) ++ cs) ≡ true
grouped_fits q d c cs Free beyond is = over_dull q d c cs (is_dull c beyond) ∙ is
grouped_fits q d c cs Begun beyond is = braced_fits q d c cs beyond is
grouped_fits q d c cs Word beyond is = braced_fits q d c cs beyond is
grouped_fits q d c cs Waits beyond is = braced_fits q d c cs beyond is
grouped_fits q d c cs Closed beyond is = braced_fits q d c cs beyond is

-- a text fits after a plain character if the signs fit after it, and the text fits wherever the signs do
plain_text_fits : (q : Bool) (d c : ℕ) (ss : List Sign) (cs : List ℕ) → (fit q true d ss ≡ true → text_fits q true d cs ≡ true)
    → (fit q false d ss ≡ true → text_fits q false d cs ≡ true) → fit q false d (Plain c ∷ ss) ≡ true → text_fits q false d (c ∷ cs) ≡ true
plain_text_fits q d c ss cs hidden shown is =
    elim (cases_eq c 92) [
      | inl slash ↦ subst (λ x. fit q false d (Plain x ∷ ss) ≡ true → text_fits q false d (x ∷ cs) ≡ true) (sym slash) hidden is
      | inr no_slash ↦
          let rest : is_neutral q c && fit q false d ss ≡ true =
          sym (ap (λ x. cond x (fit q true d ss) (is_neutral q c && fit q false d ss)) (ne_eqb c 92 no_slash)) ∙ is in
          let parts = and_parts (is_neutral q c) (fit q false d ss) rest in
          plain_fits q d c cs no_slash parts.0 (shown parts.1)
    ]

-- if signs fit, their text fits
pub written_fits : (q h : Bool) (d : ℕ) (spot : Spot) (ss : List Sign) → fit q h d ss ≡ true → text_fits q h d (written spot ss) ≡ true
written_fits q h d spot [] is = is
written_fits q true d spot (Plain c ∷ ss) is = written_fits q false d (spot_after spot (Plain c)) ss is
written_fits q true d spot (Command ∷ ss) is = absurd (cc)
written_fits q true d spot (Opening ∷ ss) is = absurd (cc)
written_fits q true d spot (Closing ∷ ss) is = absurd (cc)
written_fits q true d spot (Composed c ∷ ss) is = absurd (cc)
written_fits q true d spot (Grouped c ∷ ss) is = absurd (cc)
written_fits q false d spot (Command ∷ ss) is = written_fits q true d Begun ss is
written_fits q false d spot (Opening ∷ ss) is = written_fits q false (depth_opened q d) Free ss is
written_fits q false d spot (Closing ∷ ss) is =
    let parts = and_parts (can_close q d) (fit q false (depth_closed q d) ss) is in
    and_from (can_close q d) (text_fits q false (depth_closed q d) (written Closed ss)) parts.0
    (written_fits q false (depth_closed q d) Closed ss parts.1)
written_fits q false d spot (Plain c ∷ ss) is =
    plain_text_fits q d c ss (written (spot_after spot (Plain c)) ss) (written_fits q true d (spot_after spot (Plain c)) ss)
    (written_fits q false d (spot_after spot (Plain c)) ss) is
written_fits q false d spot (Composed c ∷ ss) is =
    let parts = and_parts (is_beyond_ascii c) (fit q false d ss) is in
    composed_fits q d c (written (spot_after spot (Composed c)) ss) spot parts.0
    (written_fits q false d (spot_after spot (Composed c)) ss parts.1)
written_fits q false d spot (Grouped c ∷ ss) is =
    let parts = and_parts (is_beyond_ascii c) (fit q false d ss) is in
    grouped_fits q d c (written (spot_after spot (Grouped c)) ss) spot parts.0
    (written_fits q false d (spot_after spot (Grouped c)) ss parts.1)
