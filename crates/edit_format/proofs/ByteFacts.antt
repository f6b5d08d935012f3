-- Bytes that don't occur in a part of a text.
use Rattle.std.proofs.Common.{◌≡◌, inl, inr, ℕ, ◌+◌, ◌/◌, ◌<◌, ◌≤◌, Bool, true, false, cond, List, [], ◌∷◌, ◌++◌, length, refl, ap, ◌∙◌, subst, ltb, arith}
use Rattle.std.specs.Prelude.{◌==◌, encode_utf8}
use Rattle.std.specs.Char.{is_whitespace}
use Rattle.std.specs.List.{list_any}
use lib.Utf8.{encode, next}
use Rattle.std.proofs.lemmas.Bool.{cases_lt, ltb-true, ne_eqb, or_from}
use Rattle.std.proofs.lemmas.List.Folds.{list_any-append}
use Rattle.std.proofs.lemmas.Str.{encode_ascii}
use Rattle.bib_text.specs.Places.{Place, Run, between}
use Rattle.bib_text.specs.Places.Run.{stop, step}
use Rattle.bib_text.proofs.PlaceFacts.{ahead_char, ahead_run, test_clash}
use Rattle.edit_entries.proofs.ElementFacts.{parted}
use Rattle.edit_format.proofs.NameFacts.{none_between}
use Rattle.edit_entries.proofs.StandsFacts.{AreWhite, between_stands, stands_char}

-- whether some bytes contain this byte
abbrev pub has : ℕ → List ℕ → Bool
has b bytes = list_any (λ x. x == b) bytes

pub none_append : (b : ℕ) (xs ys : List ℕ) → has b xs ≡ false → has b ys ≡ false → has b (xs ++ ys) ≡ false
none_append b xs ys first second = list_any-append (λ x. x == b) xs ys ∙ or_from (has b xs) (has b ys) first second

high : (b d : ℕ) → b < 128 → 128 ≤ d → (d == b) ≡ false
high b d small large = ne_eqb d b (λ same. omega (arith, same))

cons_false : (b d : ℕ) (ds : List ℕ) → (d == b) ≡ false → has b ds ≡ false → has b (d ∷ ds) ≡ false
cons_false b d ds first second = or_from (d == b) (has b ds) first second

bytes_without : (x y z : Bool) (b c i j k n m l : ℕ) → b < 128 → (x ≡ true → ⊥)
    → has b
    (cond x (c ∷ [])
    (cond y ((192 + i) ∷ next n ∷ [])
    (cond z ((224 + j) ∷ next m ∷ next n ∷ []) ((240 + k) ∷ next l ∷ next m ∷ next n ∷ [])))) ≡ false
bytes_without true y z b c i j k n m l small other = absurd (other refl)
bytes_without false true z b c i j k n m l small other =
    cons_false b (192 + i) (next n ∷ []) (high b (192 + i) small (omega arith))
    (cons_false b (next n) [] (high b (next n) small (omega arith)) refl)
bytes_without false false true b c i j k n m l small other =
    cons_false b (224 + j) (next m ∷ next n ∷ []) (high b (224 + j) small (omega arith))
    (cons_false b (next m) (next n ∷ []) (high b (next m) small (omega arith))
    (cons_false b (next n) [] (high b (next n) small (omega arith)) refl))
bytes_without false false false b c i j k n m l small other =
    cons_false b (240 + k) (next l ∷ next m ∷ next n ∷ []) (high b (240 + k) small (omega arith))
    (cons_false b (next l) (next m ∷ next n ∷ []) (high b (next l) small (omega arith))
    (cons_false b (next m) (next n ∷ []) (high b (next m) small (omega arith))
    (cons_false b (next n) [] (high b (next n) small (omega arith)) refl)))

wide_without : (b c : ℕ) → b < 128 → 128 ≤ c → has b (encode_utf8 c) ≡ false
unfolding encode
wide_without b c small large =
    bytes_without (ltb c 128) (ltb c 2048) (ltb c 65536) b c (c / 64) (c / 4096) (c / 262144) c (c / 64) (c / 4096)
    small (λ is. omega (arith, ltb-true c 128 is, large))

-- an ASCII byte doesn't occur in the encoding of another character
pub char_without : (b c : ℕ) → b < 128 → (c ≡ b → ⊥) → has b (encode_utf8 c) ≡ false
char_without b c small other =
    elim (cases_lt c 128) [
      | inl below ↦ ap (has b) (encode_ascii c below) ∙ cons_false b c [] (ne_eqb c b other) refl
      | inr from ↦ wide_without b c small from
    ]

pub other_char : (test : ℕ → Bool) (b c : ℕ) → test b ≡ false → test c ≡ true → c ≡ b → ⊥
other_char test b c fails passes same = test_clash (test b) (subst (λ x. test x ≡ true) same passes) fails

-- an ASCII byte that fails a test doesn't occur in a run of characters that pass it
pub run_without : (test : ℕ → Bool) (b : ℕ) {u v : Place} → b < 128 → test b ≡ false → Run test u v
    → v.at ≤ length u.text → has b (between u v) ≡ false
run_without test b {u} small fails stop within = ap (has b) (none_between u)
run_without test b {u} {v} small fails (step {v = w} {c = c} char passes rest) within =
    ap (has b)
    (parted (ahead_char char) (ahead_run rest) within
    ∙ ap (λ t. t ++ between w v) (between_stands (encode_utf8 c) (stands_char char)))
    ∙ none_append b (encode_utf8 c) (between w v) (char_without b c small (other_char test b c fails passes))
    (run_without test b {u = w} {v = v} small fails rest (omega (arith, within, ap length char.same)))

-- white space contains no percent sign
pub white_without : (bytes : List ℕ) → AreWhite bytes → has 37 bytes ≡ false
white_without [] all = refl
white_without (x ∷ xs) all =
    cons_false 37 x xs (ne_eqb x 37 (λ same. other_char is_whitespace 37 x refl all.0.1 same)) (white_without xs all.1)
