-- The text outside braces, character by character.
use Rattle.std.proofs.Common.{◌≡◌, ℕ, List, [], ◌++◌, ◌+◌, ◌<◌, ◌≤◌, ◌==◌, length, get_or, drop, sym, ap, ◌∙◌, append_assoc, append-nil, arith, cond}
use Rattle.std.specs.Prelude.{encode_utf8_all}
use Rattle.std.proofs.lemmas.List.{drop_all}
use Rattle.std.proofs.lemmas.Str.{encodes-append}
use Rattle.bib_text.proofs.ListFacts.{drop_is}
use Rattle.bib_findings.specs.Outside.{open_braces_after, outside, shown}

-- whether `text` and then the text of the characters after the first `count`, if `depth` braces are open there, are the text outside
-- braces; `depth` is at most `count`
pub record IsOutside (characters : List ℕ) (count depth : ℕ) (text : List ℕ) : Type 0 where
  pub small : depth ≤ count
  pub left : encode_utf8_all (outside 0 characters) ≡ text ++ encode_utf8_all (outside depth (drop count characters))

-- the bytes that a character adds to the text outside braces
abbrev pub added : ℕ → ℕ → List ℕ
added depth c = cond (depth == 0) (shown c) []

-- the text of the remaining characters is the bytes that the next one adds, and then the text of those after it
outside_drop : (characters : List ℕ) (count c depth : ℕ) → count < length characters → c ≡ get_or characters count c
    → encode_utf8_all (outside depth (drop count characters))
    ≡ encode_utf8_all (added depth c) ++ encode_utf8_all (outside (open_braces_after depth c) (drop (count + 1) characters))
outside_drop characters count c depth within is =
    ap (λ l. encode_utf8_all (outside depth l)) (drop_is characters count c within is)
    ∙ encodes-append (added depth c) (outside (open_braces_after depth c) (drop (count + 1) characters))

-- the next character extends the text by the bytes that it adds
pub outside_next : (characters : List ℕ) (count c depth next : ℕ) (text more : List ℕ) → IsOutside characters count depth text
    → count < length characters → c ≡ get_or characters count c → more ≡ text ++ encode_utf8_all (added depth c)
    → next ≡ open_braces_after depth c → next ≤ depth + 1 → IsOutside characters (count + 1) next more
outside_next characters count c depth next text more before within is more_is next_is small = record {
  small = let known : depth ≤ count = before.small in omega arith;
  left =
      before.left
      ∙ ap (λ l. text ++ l) (outside_drop characters count c depth within is)
      ∙ sym
      (append_assoc text (encode_utf8_all (added depth c))
      (encode_utf8_all (outside (open_braces_after depth c) (drop (count + 1) characters))))
      ∙ ap (λ l. l ++ encode_utf8_all (outside (open_braces_after depth c) (drop (count + 1) characters))) (sym more_is)
      ∙ ap (λ d. more ++ encode_utf8_all (outside d (drop (count + 1) characters))) (sym next_is);
}

-- after the last character, the text is the text outside braces of all characters
pub outside_end : (characters : List ℕ) (count depth : ℕ) (text : List ℕ) → IsOutside characters count depth text
    → count ≡ length characters → text ≡ encode_utf8_all (outside 0 characters)
outside_end characters count depth text before all =
    sym
    (before.left ∙ ap (λ l. text ++ encode_utf8_all (outside depth l)) (drop_all count characters (omega arith)) ∙ append-nil text)
