-- A piece that keeps its delimiters is written as in the file.
use Rattle.std.proofs.Common.{◌≡◌, ℕ, ◌<◌, ◌≤◌, Bool, true, false, List, [], ◌∷◌, ◌++◌, length, codes, cond, sym, ap, ◌∙◌, arith}
use Rattle.std.specs.List.{ends_with}
use lib.Dec.{eqb}
use Rattle.bib_text.specs.Places.{Place, CharAt, between}
use Rattle.bib_text.proofs.BraceFacts.{ahead_parts}
use Rattle.bib_text.proofs.PlaceFacts.{Ahead, ahead_then, ahead_char, char_within}
use Rattle.bib_syntax.specs.Reading.{part, Piece}
use Rattle.bib_syntax.specs.Reading.Piece.{literal}
use Rattle.bib_syntax.specs.Grammar.{Element, longest}
use Rattle.bib_syntax.specs.Grammar.{Element as element}
use Rattle.bib_syntax.proofs.FieldFacts.{ahead_quoted_parts}
use Rattle.edit_format.specs.Delimited.{piece_as_written}
use Rattle.edit_format.specs.declared.style.Delimiters.TheVariants.{Keep}
use Rattle.edit_entries.proofs.ElementFacts.{NotOpened, before, brace_before, one_byte, parted, quote_before}

-- a text that begins and ends with an ASCII character is these two and the text between them
enclosed : {u a b v : Place} (c d : ℕ) → c < 128 → d < 128 → CharAt u c a → Ahead a b → CharAt b d v
    → between u v ≡ c ∷ (between a b ++ d ∷ [])
enclosed {u} {a} {b} {v} c d small small' opens inside closes =
    let over = ahead_then inside (ahead_char closes) in
    let within : v.at ≤ length v.text = char_within closes in
    let at_u : v.at ≤ length u.text = omega (arith, within, ap length over.text, ap length opens.same) in
    let at_a : v.at ≤ length a.text = omega (arith, within, ap length over.text) in
    parted (ahead_char opens) over at_u ∙ ap (λ t. t ++ between a v) (one_byte c small opens)
    ∙ ap (λ t. c ∷ t)
    (parted inside (ahead_char closes) at_a ∙ ap (λ t. between a b ++ t) (one_byte d small' closes))

choice : (b q : Bool) (x y z t : List ℕ) → b ≡ false → q ≡ true → y ≡ t → cond b x (cond q y z) ≡ t
choice b q x y z t no_brace quote is = ap (λ c. cond c x (cond q y z)) no_brace ∙ ap (λ c. cond c y z) quote ∙ is

neither : (b q : Bool) (x y z : List ℕ) → b ≡ false → q ≡ false → cond b x (cond q y z) ≡ z
neither b q x y z no_brace no_quote = ap (λ c. cond c x (cond q y z)) no_brace ∙ ap (λ c. cond c y z) no_quote

-- a piece that keeps its delimiters is written as in the file if neither an opening brace nor a quote is directly before it
pub element_written : {u v : Place} {e : Piece} → Element longest u e v → NotOpened u → piece_as_written Keep u.text e ≡ between u v
element_written (element.number n) opened = neither _ _ _ _ _ opened.no_brace opened.no_quote
element_written (element.named none i) opened = ap (λ p. p.text) i.reading
element_written {u} {v} (element.braced b) opened =
    let same : piece_as_written Keep b.inside.text (literal (part b.inside b.following)) ≡ between u v =
    ap
    (λ c.
    cond c (123 ∷ (between b.inside b.following ++ 125 ∷ []))
    (cond (ends_with eqb (before b.inside) (codes "\"")) (34 ∷ (between b.inside b.following ++ 34 ∷ []))
    (between b.inside b.following))) (brace_before b.opens)
    ∙ sym (enclosed 123 125 (omega arith) (omega arith) b.opens (ahead_parts b.parts) b.closes) in
    ap (λ p. piece_as_written Keep u.text (literal p)) b.reading
    ∙ ap (λ t. piece_as_written Keep t (literal (part b.inside b.following))) (sym b.opens.same) ∙ same
element_written {u} {v} (element.quoted q) opened =
    let is = quote_before q.opens in
    let same : piece_as_written Keep q.inside.text (literal (part q.inside q.following)) ≡ between u v =
    choice _ _ (123 ∷ (between q.inside q.following ++ 125 ∷ [])) (34 ∷ (between q.inside q.following ++ 34 ∷ []))
    (between q.inside q.following) (between u v) is.0 is.1
    (sym (enclosed 34 34 (omega arith) (omega arith) q.opens (ahead_quoted_parts q.parts) q.closes)) in
    ap (λ p. piece_as_written Keep u.text (literal p)) q.reading
    ∙ ap (λ t. piece_as_written Keep t (literal (part q.inside q.following))) (sym q.opens.same) ∙ same
