-- Texts that are written character by character.
use Rattle.std.proofs.Common.{◌≡◌, ◌++◌, ℕ, List, [], ◌∷◌, sym, ap, ◌∙◌, append_assoc}
use Rattle.std.specs.List.{flat_map}
use Rattle.std.specs.Str.{chars, IsUtf8}
use Rattle.bib_text.specs.Places.{Place, CharAt, AtEnd}
use Rattle.bib_text.proofs.TextFacts.{ahead, MovesPast, passed_char, chars_at_end}

-- after the text of the next character is written, the texts of the remaining characters are still to be written
pub scanned_step : (written : ℕ → List ℕ) (out more total : List ℕ) {u x : Place} {c : ℕ} → CharAt u c x
    → IsUtf8 (ahead u) → more ≡ out ++ written c
    → out ++ flat_map written (chars (ahead u)) ≡ total
    → (x.text ≡ u.text) × IsUtf8 (ahead x) × (more ++ flat_map written (chars (ahead x)) ≡ total)
scanned_step written out more total {u} {x} {c} char utf8 wrote before =
    let passed : MovesPast u (c ∷ []) x = passed_char char utf8 in (
      passed.same,
      passed.utf8,
      ap (λ o. o ++ flat_map written (chars (ahead x))) wrote
          ∙ append_assoc out (written c) (flat_map written (chars (ahead x)))
          ∙ ap (λ cs. out ++ flat_map written cs) (sym passed.spelt) ∙ before,
    )

-- at the end, nothing is still to be written
pub scanned_end : (written : ℕ → List ℕ) (out total : List ℕ) (u : Place) → AtEnd u
    → out ++ flat_map written (chars (ahead u)) ≡ total → out ++ [] ≡ total
scanned_end written out total u end before = ap (λ cs. out ++ flat_map written cs) (sym (chars_at_end u end)) ∙ before
