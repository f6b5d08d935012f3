-- The byte offsets of entries in a text.
use Rattle.std.proofs.Common.{◌≡◌, ◌≤◌, ◌<◌, ◌+◌, ℕ, List, [], ◌∷◌, ◌++◌, drop, length, get_or, refl, sym, ap, subst, ◌∙◌, arith}
use Rattle.std.specs.Char.{len_utf8}
use Rattle.std.specs.Str.{IsUtf8, IsCharBoundary}
use Rattle.std.proofs.lemmas.List.{get_or-drop}
use Rattle.std.proofs.lemmas.Str.{IsCharBoundary-before_ascii, IsCharBoundary-after_ascii, encode_ascii, len_utf8_bounds}
use Rattle.bib_text.specs.Places.{Place, CharAt}
use Rattle.bib_text.proofs.PlaceFacts.{Ahead, ahead_then, ahead_char, ahead_run, char_left}
use Rattle.bib_syntax.specs.Grammar.{BlockKind, Body, longest}
use Rattle.bib_syntax.specs.Grammar.Body.{comment, preamble, strings, entry}
use Rattle.bib_syntax.specs.Reading.{EntryReading, FileReading, Part}
use Rattle.bib_syntax.specs.Recovery.{IsBlockOf}
use Rattle.bib_syntax.proofs.FieldFacts.{ahead_fields, ahead_gap, ahead_identifier}

-- the place of the closing brace of an entry, with `u` as the start of its body
record ClosesAt (u : Place) (e : EntryReading) : Type 0 where
  brace : Place
  after : Place
  stands : CharAt brace 125 after
  is : brace.at ≡ e.end
  ahead : Ahead u brace

end_of : List EntryReading → ℕ
end_of [] = 0
end_of (e ∷ rest) = e.end

closes : {start u v : Place} {name : Part} {kind : BlockKind} {says : FileReading} {e : EntryReading}
    → Body longest start name kind u says v
    → says.entries ≡ e ∷ [] → ClosesAt u e
unfolding end_of
closes (comment v chars sign) is = absurd (cc)
closes (preamble q w c b) is = absurd (cc)
closes (strings f c) is = absurd (cc)
closes (entry v key white comma gap fields sign) is = record {
  brace = _;
  after = _;
  stands = sign;
  is = ap end_of is;
  ahead =
      ahead_then (ahead_run key.run)
      (ahead_then (ahead_run white.run)
      (ahead_then (ahead_char comma) (ahead_then (ahead_gap gap) (ahead_fields fields))));
}

-- if an ASCII character is at a place, the byte at the place's offset is this character
byte_here : {u v : Place} (c : ℕ) → c < 128 → CharAt u c v → (u.at < length u.text) × (get_or u.text u.at 0 ≡ c)
byte_here {u} {v} c small char =
    let width : 1 ≤ len_utf8 c = (len_utf8_bounds c).0 in (
      omega (arith, char_left char, width),
      sym (ap (λ n. get_or u.text n 0) (omega arith)) ∙ sym (get_or-drop u.at u.text 0 0)
          ∙ ap (λ t. get_or t 0 0) (char.here ∙ ap (λ t. t ++ drop v.at u.text) (encode_ascii c small)),
    )

-- whether the source text of an entry may be cut out of its text
pub record CanBeCut (text : List ℕ) (e : EntryReading) : Type 0 where
  pub ordered : e.start ≤ e.end
  pub within : e.end < length text
  pub start : IsCharBoundary text e.start
  pub end : IsCharBoundary text (e.end + 1)

-- if an entry is a block of a UTF-8 text, its source text may be cut out
pub can_be_cut : (text : List ℕ) (e : EntryReading) → IsUtf8 text → IsBlockOf text e → CanBeCut text e
can_be_cut text e utf8 block =
    let sign = block.1.head.sign in
    let brace = closes block.1.body refl in
    let to_name = ahead_then (ahead_identifier block.1.head.name) (ahead_run block.1.head.white.run) in
    let to_body =
    ahead_then (ahead_char sign)
    (ahead_then to_name (ahead_then (ahead_char block.1.head.opens) (ahead_run block.1.head.white'.run))) in
    let to_brace = ahead_then to_body brace.ahead in
    let at_sign = byte_here 64 (omega arith) sign in
    let at_brace = byte_here 125 (omega arith) brace.stands in
    let same : brace.brace.text ≡ text = to_brace.text in
    let there : e.end < length text = subst (λ t. e.end < length t) same (subst (λ n. n < length brace.brace.text) brace.is at_brace.0) in
    let byte : get_or text e.end 0 ≡ 125 =
    subst (λ t. get_or t e.end 0 ≡ 125) same (subst (λ n. get_or brace.brace.text n 0 ≡ 125) brace.is at_brace.1) in
    record {
      ordered = omega (arith, to_brace.at, brace.is);
      within = there;
      start = IsCharBoundary-before_ascii text e.start at_sign.0 (omega (arith, at_sign.1));
      end = IsCharBoundary-after_ascii text e.end utf8 there (omega (arith, byte));
    }
