-- The preambles of a file: each is a text in quotes, and a text in quotes ends at its first quote that no backslash hides.
use Rattle.std.proofs.Common.{◌≡◌, ◌≤◌, ◌<◌, ◌+◌, ◌-◌, ℕ, zero, suc, Bool, true, false, not, cond, List, [], ◌∷◌, ◌++◌, drop, take, length, length-drop, get_or, Option, Some, None, refl, sym, ap, subst, ◌∙◌, arith, append_assoc, append-nil, length-append}
use Rattle.std.specs.Prelude.{◌==◌, ◌&&◌, codes, encode_utf8, eqb, is_some}
use Rattle.std.specs.Char.{len_utf8}
use Rattle.std.specs.Option.{option_map_or}
use Rattle.std.specs.List.{AllByRecursion, flat_map, starts_with}
use Rattle.std.proofs.lemmas.Bool.{eq-eqb, eqb-true, false≢true, ne_eqb}
use Rattle.std.proofs.lemmas.Bool.Decides.{Decides-eqb}
use Rattle.std.proofs.lemmas.Slice.Eq.{starts_is}
use Rattle.std.proofs.lemmas.List.{take_at, drop_at}
use Rattle.std.proofs.lemmas.Str.{encode_ascii, inside_one, length-encode, len_utf8_bounds}
use Rattle.bib_text.specs.Places.{Place, CharAt, between}
use Rattle.bib_text.proofs.ListFacts.{begins, some_same}
use Rattle.bib_text.proofs.PlaceFacts.{test_clash}
use Rattle.bib_syntax.specs.Grammar.{BlockKind, Body, Quoted, QuotedParts, longest}
use Rattle.bib_syntax.specs.Grammar.{Body as body}
use Rattle.bib_syntax.specs.Grammar.{QuotedParts as quotes}
use Rattle.bib_syntax.specs.Reading.{FileReading, Part, joined_preambles}
use Rattle.bib_syntax.specs.Recovery.{Recovered}
use Rattle.bib_syntax.specs.Recovery.{Keeps as keep}
use Rattle.bib_syntax.specs.Recovery.{Recovered as recovered}
use Rattle.bib_syntax.specs.declared.raw.recovery.SkippedBlock.{SkippedBlock}
use Rattle.bib_syntax.proofs.WordFacts.{quotable_differs}
use Rattle.bib_queries.specs.Lines.{text_after_prefix}
use Rattle.bib_queries.specs.Preambles.{ArePreambles, CanBeQuoted, are_quotes_hidden, quoted_text, joined_quotes, preamble_line}

-- ---- bytes between two places

record Spans (u : Place) (bytes : List ℕ) (v : Place) : Type 0 where
  here : drop u.at u.text ≡ bytes ++ drop v.at v.text
  next : v.at ≡ u.at + length bytes

spans_none : (u : Place) → Spans u [] u
spans_none u = record { here = refl; next = omega arith }

spans_char : {u v : Place} {c : ℕ} → CharAt u c v → Spans u (encode_utf8 c) v
spans_char {u} {v} {c} char = record {
  here = char.here ∙ ap (λ t. encode_utf8 c ++ drop v.at t) (sym char.same);
  next = char.next ∙ ap (λ n. u.at + n) (sym (length-encode c));
}

spans_then : {u v w : Place} {xs ys : List ℕ} → Spans u xs v → Spans v ys w → Spans u (xs ++ ys) w
spans_then {u} {v} {w} {xs} {ys} first second = record {
  here = first.here ∙ ap (λ t. xs ++ t) second.here ∙ sym (append_assoc xs ys (drop w.at w.text));
  next = omega (arith, first.next, second.next, length-append xs ys);
}

spans_between : {u v : Place} {bytes : List ℕ} → Spans u bytes v → between u v ≡ bytes
spans_between {u} {v} {bytes} s =
    let size : length bytes ≡ v.at - u.at = omega (arith, s.next) in
    ap (take (v.at - u.at)) s.here ∙ take_at bytes (drop v.at v.text) (v.at - u.at) size

-- ---- quotes that are hidden

-- a byte that is neither a quote nor a backslash doesn't change whether all quotes are hidden
other_sign : (b : ℕ) (bs : List ℕ) → (b ≡ 92 → ⊥) → (b ≡ 34 → ⊥) → are_quotes_hidden false (b ∷ bs) ≡ are_quotes_hidden false bs
other_sign b bs no_slash no_quote =
    ap (λ x. cond x (are_quotes_hidden true bs) (not (b == 34) && are_quotes_hidden false bs)) (ne_eqb b 92 no_slash)
    ∙ ap (λ x. not x && are_quotes_hidden false bs) (ne_eqb b 34 no_quote)

-- bytes that are neither a quote nor a backslash don't change whether all quotes are hidden
other_signs : (bs rest : List ℕ) → ((k : ℕ) → k < length bs → get_or bs k 0 ≡ 92 → ⊥)
    → ((k : ℕ) → k < length bs → get_or bs k 0 ≡ 34 → ⊥)
    → are_quotes_hidden false (bs ++ rest) ≡ are_quotes_hidden false rest
other_signs [] rest no_slash no_quote = refl
other_signs (b ∷ bs) rest no_slash no_quote =
    other_sign b (bs ++ rest) (no_slash 0 (omega arith)) (no_quote 0 (omega arith))
    ∙ other_signs bs rest (λ k below. no_slash (suc k) (omega (arith, below))) (λ k below. no_quote (suc k) (omega (arith, below)))

-- if a byte of an encoded character is an ASCII byte, the character is this byte
sole : (c d k : ℕ) → d < 128 → k < length (encode_utf8 c) → get_or (encode_utf8 c) k 0 ≡ d → c ≡ d
sole c d k small below is =
    inside_one c [] (encode_utf8 c) k (sym (append-nil (encode_utf8 c))) below (omega (arith, is, small)) ∙ is

past_other : (c : ℕ) (rest : List ℕ) → (c ≡ 92 → ⊥) → (c ≡ 34 → ⊥)
    → are_quotes_hidden false (encode_utf8 c ++ rest) ≡ are_quotes_hidden false rest
past_other c rest no_slash no_quote =
    other_signs (encode_utf8 c) rest (λ k below is. no_slash (sole c 92 k (omega arith) below is))
    (λ k below is. no_quote (sole c 34 k (omega arith) below is))

-- no byte of an encoded character after its first byte is ASCII
not_first : (c d k : ℕ) → d < 128 → suc k < length (encode_utf8 c) → get_or (encode_utf8 c) (suc k) 0 ≡ d → ⊥
not_first c d k small below is =
    let same : c ≡ d = sole c d (suc k) small below is in
    let short : length (encode_utf8 c) ≡ 1 = ap length (encode_ascii c (omega (arith, same, small))) in
    omega (arith, short, below)

past_hidden : (c : ℕ) (rest : List ℕ) → are_quotes_hidden true (encode_utf8 c ++ rest) ≡ are_quotes_hidden false rest
past_hidden c rest = by (encode_utf8 c) (length-encode c) (λ k below. not_first c 92 k (omega arith) below)
    (λ k below. not_first c 34 k (omega arith) below) where
      by : (bs : List ℕ) → length bs ≡ len_utf8 c → ((k : ℕ) → suc k < length bs → get_or bs (suc k) 0 ≡ 92 → ⊥)
          → ((k : ℕ) → suc k < length bs → get_or bs (suc k) 0 ≡ 34 → ⊥)
          → are_quotes_hidden true (bs ++ rest) ≡ are_quotes_hidden false rest
      by [] size no_slash no_quote = absurd (omega (arith, size, (len_utf8_bounds c).0))
      by (b ∷ bs) size no_slash no_quote =
          other_signs bs rest (λ k below. no_slash k (omega (arith, below))) (λ k below. no_quote k (omega (arith, below)))

past_slash : (rest : List ℕ) → are_quotes_hidden false (encode_utf8 92 ++ rest) ≡ are_quotes_hidden true rest
past_slash rest = ap (λ t. are_quotes_hidden false (t ++ rest)) (encode_ascii 92 (omega arith))

-- the bytes of quoted parts can be between quotes
record PartsInside (u v : Place) : Type 0 where
  bytes : List ℕ
  spans : Spans u bytes v
  inside : CanBeQuoted bytes

parts_inside : {u v : Place} → QuotedParts u v → PartsInside u v
parts_inside {u} quotes.none = record { bytes = []; spans = spans_none u; inside = refl }
parts_inside (quotes.plain {c = c} char passes rest) =
    let others = parts_inside rest in
    record {
      bytes = encode_utf8 c ++ others.bytes;
      spans = spans_then (spans_char char) others.spans;
      inside = past_other c others.bytes (quotable_differs 92 passes refl) (quotable_differs 34 passes refl) ∙ others.inside;
    }
parts_inside (quotes.hidden {c = c} slash char rest) =
    let others = parts_inside rest in
    record {
      bytes = encode_utf8 92 ++ (encode_utf8 c ++ others.bytes);
      spans = spans_then (spans_char slash) (spans_then (spans_char char) others.spans);
      inside = past_slash (encode_utf8 c ++ others.bytes) ∙ past_hidden c others.bytes ∙ others.inside;
    }

-- ---- the preambles of a reading

-- the text of a preamble is a text in quotes
quoted_preamble : {u v : Place} {p : Part} → Quoted u p v → (inside : List ℕ) × (between u v ≡ quoted_text inside) × CanBeQuoted inside
quoted_preamble q =
    let parts = parts_inside q.parts in (
      parts.bytes,
      spans_between (spans_then (spans_char q.opens) (spans_then parts.spans (spans_char q.closes)))
          ∙ ap (λ t. t ++ (parts.bytes ++ t)) (encode_ascii 34 (omega arith)),
      parts.inside,
    )

none_joined : ArePreambles [] []
none_joined = record { each = _; is = refl }

-- joining one more preamble before others puts its text before theirs
joined_more : (first rest : List ℕ) (inside : List ℕ) (insides : List (List ℕ)) → first ≡ quoted_text inside → CanBeQuoted inside
    → ArePreambles rest insides → ArePreambles (joined_preambles first rest) (inside ∷ insides)
joined_more first rest inside [] is hidden others = record {
  each = (hidden, others.each);
  is = ap (λ t. joined_preambles first t) others.is ∙ ap (λ t. joined_preambles t []) is;
}
joined_more first rest inside (next ∷ []) is hidden others = record {
  each = (hidden, others.each);
  is =
      ap (λ t. joined_preambles first t) others.is ∙ ap (λ t. joined_preambles t (quoted_text next)) is
      ∙ append_assoc (quoted_text inside) (codes " # ") (quoted_text next);
}
joined_more first rest inside (next ∷ (other ∷ more)) is hidden others = record {
  each = (hidden, others.each);
  is =
      ap (λ t. joined_preambles first t) others.is
      ∙ ap (λ t. joined_preambles t (joined_quotes (next ∷ (other ∷ more)))) is
      ∙ append_assoc (quoted_text inside) (codes " # ") (joined_quotes (next ∷ (other ∷ more)));
}

-- the preambles of a block and of the blocks after it are texts in quotes
block_preambles : {start u v : Place} {p : Part} {k : BlockKind} {first : FileReading} (rest : List ℕ) → Body longest start p k u first v
    → (insides : List (List ℕ)) × ArePreambles rest insides
    → (insides : List (List ℕ)) × ArePreambles (joined_preambles first.preamble rest) insides
block_preambles rest (body.comment v inside close) others = others
block_preambles rest (body.preamble {u = u} {v = v} quoted white close is_close) others =
    let one = quoted_preamble quoted in
    (one.0 ∷ others.0, joined_more (between u v) rest one.0 others.0 one.1 one.2 others.1)
block_preambles rest (body.strings fs close) others = others
block_preambles rest (body.entry v key white comma gap fs close) others = others

-- the preambles that are recovered from a text are texts in quotes
pub preambles_stand : {u : Place} {says : FileReading} {errors : List SkippedBlock} → Recovered false u says errors
    → (insides : List (List ℕ)) × ArePreambles says.preamble insides
preambles_stand (recovered.end end) = ([], none_joined)
preambles_stand (recovered.skipped char passes x) = preambles_stand x
preambles_stand (recovered.line_comment m x) = preambles_stand x
preambles_stand (recovered.block {rest = rest} b x) = block_preambles rest.preamble b.body (preambles_stand x)
preambles_stand (recovered.unread sign none on keep.nothing x) = preambles_stand x

-- ---- the quote that closes a text

-- a quote that no backslash hides closes the text
pub closes_here : (inside rest : List ℕ) (at : ℕ) → at ≤ length inside → are_quotes_hidden false (drop at inside) ≡ true
    → get_or (inside ++ 34 ∷ rest) at 0 ≡ 34 → at ≡ length inside
closes_here [] rest zero within hidden is = refl
closes_here [] rest (suc at) within hidden is = absurd (omega (arith, within))
closes_here (b ∷ inside) rest zero within hidden is = absurd (test_clash (are_quotes_hidden false (34 ∷ inside))
    (subst (λ c. are_quotes_hidden false (c ∷ inside) ≡ true) is hidden) refl)
closes_here (b ∷ inside) rest (suc at) within hidden is =
    let here : at ≡ length inside = closes_here inside rest at (omega (arith, within)) hidden is in omega (arith, here)

-- whether a byte hides the next one
abbrev hides : Bool → ℕ → Bool
hides is_hidden b = not is_hidden && b == 92

hidden_next : (b : ℕ) (bs : List ℕ) → (b ≡ 34 → ⊥) → are_quotes_hidden false (b ∷ bs) ≡ true → are_quotes_hidden (b == 92) bs ≡ true
hidden_next b bs no_quote hidden = by (b == 92) refl where
  by : (slash : Bool) → (b == 92) ≡ slash → are_quotes_hidden (b == 92) bs ≡ true
  by true is =
      ap (λ x. are_quotes_hidden x bs) is
      ∙ sym (ap (λ x. cond x (are_quotes_hidden true bs) (not (b == 34) && are_quotes_hidden false bs)) is) ∙ hidden
  by false is =
      ap (λ x. are_quotes_hidden x bs) is
      ∙ sym
      (ap (λ x. cond x (are_quotes_hidden true bs) (not (b == 34) && are_quotes_hidden false bs)) is
      ∙ ap (λ x. not x && are_quotes_hidden false bs) (ne_eqb b 34 no_quote)) ∙ hidden

pub goes_on : (inside rest : List ℕ) (is_hidden : Bool) (at : ℕ) → at ≤ length inside
    → are_quotes_hidden is_hidden (drop at inside) ≡ true
    → (is_hidden ≡ false → get_or (inside ++ 34 ∷ rest) at 0 ≡ 34 → ⊥)
    → (at + 1 ≤ length inside)
    × (are_quotes_hidden (hides is_hidden (get_or (inside ++ 34 ∷ rest) at 0)) (drop (at + 1) inside) ≡ true)
goes_on [] rest true zero within hidden other = absurd (test_clash false hidden refl)
goes_on [] rest false zero within hidden other = absurd (other refl refl)
goes_on [] rest is_hidden (suc at) within hidden other = absurd (omega (arith, within))
goes_on (b ∷ inside) rest true zero within hidden other = (omega arith, hidden)
goes_on (b ∷ inside) rest false zero within hidden other = (omega arith, hidden_next b inside (other refl) hidden)
goes_on (b ∷ inside) rest is_hidden (suc at) within hidden other =
    let next = goes_on inside rest is_hidden at (omega (arith, within)) hidden other in
    let one : suc (at + 1) ≡ suc at + 1 = omega arith in (
      omega (arith, next.0),
      subst
          (λ n. are_quotes_hidden (hides is_hidden (get_or (inside ++ 34 ∷ rest) at 0)) (drop n (b ∷ inside)) ≡ true) one next.1,
    )

-- whether `at` is an offset in the text of a preamble or its end, and all quotes from there on are hidden
abbrev pub IsAt : List ℕ → Bool → ℕ → Type 0
IsAt inside is_hidden at = (at ≤ length inside) × (are_quotes_hidden is_hidden (drop at inside) ≡ true)

-- if the test finds the closing quote at an offset, the text of the preamble ends there
pub closed_at : (text inside rest : List ℕ) (is_hidden : Bool) (at : ℕ) → text ≡ inside ++ 34 ∷ rest
    → (not is_hidden && get_or text at 0 == 34) ≡ true → IsAt inside is_hidden at → at ≡ length inside
closed_at text inside rest true at is closes here = absurd (test_clash false closes refl)
closed_at text inside rest false at is closes here =
    closes_here inside rest at here.0 here.1 (sym (ap (λ t. get_or t at 0) is) ∙ eqb-true (get_or text at 0) 34 closes)

-- if the test doesn't find the closing quote at an offset, the next offset is in the text of the preamble
pub open_at : (text inside rest : List ℕ) (is_hidden hides_next : Bool) (at : ℕ) → text ≡ inside ++ 34 ∷ rest
    → (not is_hidden && get_or text at 0 == 34) ≡ false → hides_next ≡ (not is_hidden && get_or text at 0 == 92)
    → IsAt inside is_hidden at → IsAt inside hides_next (at + 1)
open_at text inside rest is_hidden hides_next at is open_here hides here =
    let byte : get_or text at 0 ≡ get_or (inside ++ 34 ∷ rest) at 0 = ap (λ t. get_or t at 0) is in
    let other : is_hidden ≡ false → get_or (inside ++ 34 ∷ rest) at 0 ≡ 34 → ⊥ = λ shown quote.
    test_clash (not is_hidden && get_or text at 0 == 34)
    (ap (λ b. not b && get_or text at 0 == 34) shown ∙ eq-eqb (get_or text at 0) 34 (byte ∙ quote)) open_here in
    let next = goes_on inside rest is_hidden at here.0 here.1 other in (
      next.0,
      subst (λ b. are_quotes_hidden b (drop (at + 1) inside) ≡ true)
          (sym (hides ∙ ap (λ b. not is_hidden && b == 92) byte)) next.1,
    )

-- the closing quote is before the end of the text
pub past_end : {A : Type 0} (text inside rest : List ℕ) (at : ℕ) → text ≡ inside ++ 34 ∷ rest → length text ≤ at
    → at ≤ length inside → A
past_end text inside rest at is long within =
    absurd (omega (arith, ap length is, length-append inside (34 ∷ rest), long, within))

-- ---- one preamble after another

-- if a text begins with a prefix, the text after the prefix is found
after_begins : (prefix rest : List ℕ) → text_after_prefix prefix (prefix ++ rest) ≡ Some rest
after_begins prefix rest =
    ap (λ b. cond b (Some (drop (length prefix) (prefix ++ rest))) None) (begins prefix (prefix ++ rest) rest refl)
    ∙ ap Some (drop_at prefix rest (length prefix) refl)

-- if the text after a prefix is found, the text is the prefix and that text
after_is : (prefix text rest : List ℕ) → text_after_prefix prefix text ≡ Some rest → text ≡ prefix ++ rest
after_is prefix text rest is = by (starts_with eqb text prefix) refl where
  by : (b : Bool) → starts_with eqb text prefix ≡ b → text ≡ prefix ++ rest
  by true begun =
      let same : drop (length prefix) text ≡ rest =
      some_same (sym (ap (λ b. cond b (Some (drop (length prefix) text)) None) begun) ∙ is) in
      (starts_is Decides-eqb text prefix (starts_with eqb text prefix) refl).0 begun ∙ ap (λ t. prefix ++ t) same
  by false begun =
      let none : None ≡ Some rest = sym (ap (λ b. cond b (Some (drop (length prefix) text)) None) begun) ∙ is in
      absurd (false≢true (ap is_some none))

-- the text after a closing quote and ` # `, or the empty text if these are missing
abbrev joint : List ℕ → List ℕ
joint text = option_map_or (λ rest. rest) (text_after_prefix (codes "\" # ") text) []

joint_shorter : (text : List ℕ) → length (joint text) ≤ length text
joint_shorter text = by (text_after_prefix (codes "\" # ") text) refl where
  by : (o : Option (List ℕ)) → text_after_prefix (codes "\" # ") text ≡ o → length (joint text) ≤ length text
  by None is = omega (arith, ap length (ap (λ o. option_map_or (λ (rest : List ℕ). rest) o []) is))
  by (Some rest) is =
      omega (
        arith,
        ap length (ap (λ o. option_map_or (λ (rest : List ℕ). rest) o []) is),
        ap length (after_is (codes "\" # ") text rest is),
      )

-- after one more preamble, the remaining text is shorter
pub joint_smaller : (rest opened closed rest' : List ℕ) (n : ℕ) → text_after_prefix (codes "\"") rest ≡ Some opened
    → closed ≡ drop n opened → rest' ≡ joint closed → length rest' < length rest
joint_smaller rest opened closed rest' n is cut next =
    omega (
      arith,
      ap length (after_is (codes "\"") rest opened is),
      ap length cut,
      length-drop n opened,
      ap length next,
      joint_shorter closed,
    )

-- the preambles that are still to be printed: after them, the output is `whole`
pub record IsLeft (line_end rest printed whole : List ℕ) : Type 0 where
  pub left : List (List ℕ)
  pub are : ArePreambles rest left
  pub same : printed ++ flat_map (preamble_line line_end) left ≡ whole

-- at first, all preambles are still to be printed
pub left_first : (line_end joined printed : List ℕ) (insides : List (List ℕ)) → ArePreambles joined insides
    → IsLeft line_end joined printed (printed ++ flat_map (preamble_line line_end) insides)
left_first line_end joined printed insides are = record { left = insides; are = are; same = refl }

-- the text of the first preamble, the text after its closing quote, and the texts of the other preambles
record FirstPreamble (opened : List ℕ) (insides : List (List ℕ)) : Type 0 where
  inside : List ℕ
  tail : List ℕ
  others : List (List ℕ)
  parts : insides ≡ inside ∷ others
  hidden : CanBeQuoted inside
  text : opened ≡ inside ++ 34 ∷ tail
  are : ArePreambles (joint (34 ∷ tail)) others

first_preamble : (rest opened : List ℕ) (insides : List (List ℕ)) → rest ≡ 34 ∷ opened → AllByRecursion CanBeQuoted insides
    → rest ≡ joined_quotes insides → FirstPreamble opened insides
first_preamble rest opened [] is each joined = absurd (omega (arith, ap length is, ap length joined))
first_preamble rest opened (inside ∷ []) is each joined = record {
  inside = inside;
  tail = [];
  others = [];
  parts = refl;
  hidden = each.0;
  text = ap (drop 1) (sym is ∙ joined);
  are = none_joined;
}
first_preamble rest opened (inside ∷ (next ∷ more)) is each joined =
    let others : List ℕ = joined_quotes (next ∷ more) in
    record {
      inside = inside;
      tail = codes " # " ++ others;
      others = next ∷ more;
      parts = refl;
      hidden = each.0;
      text = ap (drop 1) (sym is ∙ joined) ∙ append_assoc inside (34 ∷ []) (codes " # " ++ others);
      are = record { each = each.1; is = ap (λ o. option_map_or (λ (t : List ℕ). t) o []) (after_begins (codes "\" # ") others) };
    }

-- after one more preamble is printed, the other ones are still to be printed
pub left_next : (line_end rest opened inside' closed rest' printed printed' whole : List ℕ) (n : ℕ)
    → text_after_prefix (codes "\"") rest ≡ Some opened
    → ((inside tail : List ℕ) → CanBeQuoted inside → opened ≡ inside ++ 34 ∷ tail → n ≡ length inside)
    → inside' ≡ take n opened → closed ≡ drop n opened → rest' ≡ joint closed → printed' ≡ printed ++ preamble_line line_end inside'
    → IsLeft line_end rest printed whole → IsLeft line_end rest' printed' whole
left_next line_end rest opened inside' closed rest' printed printed' whole n is at front back next made before =
    let first = first_preamble rest opened before.left (after_is (codes "\"") rest opened is) before.are.each before.are.is in
    let size : n ≡ length first.inside = at first.inside first.tail first.hidden first.text in
    let inside_is : inside' ≡ first.inside =
    front ∙ ap (take n) first.text ∙ take_at first.inside (34 ∷ first.tail) n (sym size) in
    let closed_is : closed ≡ 34 ∷ first.tail =
    back ∙ ap (drop n) first.text ∙ drop_at first.inside (34 ∷ first.tail) n (sym size) in
    record {
      left = first.others;
      are = subst (λ t. ArePreambles t first.others) (sym (next ∙ ap joint closed_is)) first.are;
      same =
          ap (λ t. t ++ flat_map (preamble_line line_end) first.others) (made ∙ ap (λ t. printed ++ preamble_line line_end t) inside_is)
          ∙ append_assoc printed (preamble_line line_end first.inside) (flat_map (preamble_line line_end) first.others)
          ∙ ap (λ l. printed ++ flat_map (preamble_line line_end) l) (sym first.parts) ∙ before.same;
    }

-- if no text after a quote is found, the text doesn't begin with a quote
begun : (rest more : List ℕ) → text_after_prefix (codes "\"") rest ≡ None → rest ≡ 34 ∷ more → ⊥
begun rest more none is =
    false≢true (ap is_some (sym none ∙ ap (text_after_prefix (codes "\"")) is ∙ after_begins (codes "\"") more))

-- if the remaining text doesn't begin with a quote, the output is complete
pub left_last : (line_end rest printed whole : List ℕ) → text_after_prefix (codes "\"") rest ≡ None
    → IsLeft line_end rest printed whole → printed ≡ whole
left_last line_end rest printed whole none before = by before.left before.are.is before.same where
  by : (left : List (List ℕ)) → rest ≡ joined_quotes left → printed ++ flat_map (preamble_line line_end) left ≡ whole → printed ≡ whole
  by [] joined same = sym (append-nil printed) ∙ same
  by (inside ∷ []) joined same = absurd (begun rest (inside ++ 34 ∷ []) none joined)
  by (inside ∷ (next ∷ more)) joined same =
      absurd (begun rest ((inside ++ 34 ∷ []) ++ (codes " # " ++ joined_quotes (next ∷ more))) none joined)
