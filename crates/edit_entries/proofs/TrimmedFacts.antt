-- The trimmed end of a value: white space goes on from there to the end of its span.
use Rattle.std.proofs.Common.{◌≡◌, ℕ, ◌≤◌, Bool, true, false, cond, not, List, [], ◌∷◌, ◌++◌, length, drop, refl, sym, ap, ◌∙◌, arith, length-append}
use Rattle.std.specs.Prelude.{encode_utf8_all, ◌&&◌, ◌==◌}
use Rattle.std.specs.Char.{is_whitespace, is_not_whitespace}
use Rattle.std.specs.Str.{IsUtf8, NonePass, NoCharPasses, chars, drop_trailing_whitespace, trim_end}
use Rattle.std.proofs.lemmas.List.{drop_at}
use Rattle.std.proofs.lemmas.Str.{IsUtf8-between, chars-encodes, encodes-append}
use Rattle.bib_syntax.specs.Reading.{FieldReading}
use Rattle.edit_entries.specs.Changes.{IsTrimmed}
use Rattle.edit_entries.specs.Documents.{value_stretch}
use Rattle.edit_entries.specs.Edits.{Edit}
use Rattle.edit_entries.specs.Placed.{IsPlaced}
use Rattle.edit_entries.specs.EditList.{AreEditsInOrder}
use Rattle.edit_entries.proofs.TrimFacts.{white_rest}

-- ---- the trimmed end of a value

-- characters are those up to the last that isn't white space, and then white space
trailing : (cs : List ℕ) → (ws : List ℕ) × (cs ≡ drop_trailing_whitespace cs ++ ws) × NonePass is_not_whitespace ws
trailing [] = ([], refl, tt)
trailing (c ∷ cs) = let rest = trailing cs in by_case (is_whitespace c) (drop_trailing_whitespace cs) rest.0 refl rest.1 rest.2
  where
    by_case : (w : Bool) (l ws : List ℕ) → is_whitespace c ≡ w → cs ≡ l ++ ws → NonePass is_not_whitespace ws
        → (vs : List ℕ) × (c ∷ cs ≡ cond (w && (length l == 0)) [] (c ∷ l) ++ vs) × NonePass is_not_whitespace vs
    by_case true [] ws white cut none = (c ∷ ws, ap (λ xs. c ∷ xs) cut, (ap not white, none))
    by_case true (x ∷ xs) ws white cut none =
        let some : (length (x ∷ xs) == 0) ≡ false = grind arith in
        (ws, ap (λ ys. c ∷ ys) cut ∙ sym (ap (λ b. cond b [] (c ∷ x ∷ xs) ++ ws) some), none)
    by_case false l ws white cut none = (ws, ap (λ ys. c ∷ ys) cut, none)

trimmed_at : (part : List ℕ) → IsUtf8 part
    → (length (trim_end part) ≤ length part) × NoCharPasses is_not_whitespace (drop (length (trim_end part)) part)
unfolding trim_end
trimmed_at part utf8 =
    let cs : List ℕ = utf8.0 in
    let are : chars part ≡ cs = ap chars (sym utf8.1.1) ∙ chars-encodes cs utf8.1.0 in
    let parts = trailing cs in
    let front : List ℕ = drop_trailing_whitespace cs in
    let trimmed : trim_end part ≡ encode_utf8_all front = ap (λ l. encode_utf8_all (drop_trailing_whitespace l)) are in
    let whole : part ≡ encode_utf8_all front ++ encode_utf8_all parts.0 =
    sym utf8.1.1 ∙ ap encode_utf8_all parts.1 ∙ encodes-append front parts.0 in
    let rest : drop (length (trim_end part)) part ≡ encode_utf8_all parts.0 =
    ap (λ t. drop (length t) part) trimmed ∙ ap (drop (length (encode_utf8_all front))) whole
    ∙ drop_at (encode_utf8_all front) (encode_utf8_all parts.0) (length (encode_utf8_all front)) refl in (
      omega (arith, ap length whole, length-append (encode_utf8_all front) (encode_utf8_all parts.0), ap length trimmed),
      (parts.0, sym rest, parts.2),
    )

pub trimmed_known : (text : List ℕ) (f : FieldReading) → IsUtf8 text → IsPlaced text f → IsTrimmed text f
trimmed_known text f utf8 placed =
    let part : List ℕ = value_stretch text f in
    let t = trimmed_at part (IsUtf8-between text f.value.start f.value.end utf8 placed.ordered placed.start placed.end) in
    white_rest text part f.value.start f.value.end (length (trim_end part)) refl placed.ordered placed.end.0 t.0 t.1

-- ---- the stretches are in order

-- the value of a field may be cut out, and only white space is between its trimmed end and its end
pub record IsFieldPlaced (text : List ℕ) (f : FieldReading) : Type 0 where
  pub placed : IsPlaced text f
  pub trimmed : IsTrimmed text f

pub edits_earlier : (text : List ℕ) (at less : ℕ) (edits : List Edit) → less ≤ at → AreEditsInOrder text at edits
    → AreEditsInOrder text less edits
edits_earlier text at less [] small order = tt
edits_earlier text at less (edit ∷ edits) small order = (omega (arith, order.0), order.1, order.2, order.3, order.4)
