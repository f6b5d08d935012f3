-- Known bytes between two places of a text.
use Rattle.std.proofs.Common.{◌≡◌, ℕ, ◌+◌, ◌-◌, ◌≤◌, Bool, true, List, [], ◌∷◌, ◌++◌, length, length-append, take, drop, refl, sym, ap, ◌∙◌, subst, arith, append_assoc}
use Rattle.std.specs.Prelude.{encode_utf8, encode_utf8_all}
use Rattle.std.specs.Char.{len_utf8}
use Rattle.std.specs.List.{list_all}
use Rattle.std.proofs.lemmas.Bool.{and_parts, and_from}
use Rattle.std.proofs.lemmas.List.{drop-append-le, drop-drop, drop_at, take_at, append-nil, drop_all}
use Rattle.std.specs.Str.{chars, IsUtf8}
use Rattle.std.proofs.Math.Utf8.{scalars}
use Rattle.std.proofs.lemmas.Str.{length-encode, IsUtf8-past_char, scalars-chars}
use Rattle.bib_text.proofs.TextFacts.{chars_past}
use Rattle.bib_text.specs.Places.{Place, place, CharAt, Run, between}
use Rattle.bib_text.specs.Places.Run.{stop, step}
use Rattle.bib_text.specs.Braces.{is_plain, Parts, IsParts}
use Rattle.bib_text.specs.Braces.Parts.{none, plain, hidden, nested}
use Rattle.bib_text.proofs.PlaceFacts.{same_place, char_left}

-- these are the bytes from one place to the other
pub record Stands (u : Place) (bs : List ℕ) (v : Place) : Type 0 where
  pub same : v.text ≡ u.text
  pub here : drop u.at u.text ≡ bs ++ drop v.at u.text
  pub next : v.at ≡ u.at + length bs

-- a text is the bytes from its start to its end
pub stands_whole : (text : List ℕ) → Stands (place text 0) text (place text (length text))
stands_whole text = record {
  same = refl;
  here = sym (append-nil text) ∙ ap (λ bs. text ++ bs) (sym (drop_all (length text) text (omega arith)));
  next = omega arith;
}

-- two places with no bytes between them are equal
pub stands_none : {u v : Place} → Stands u [] v → v ≡ u
stands_none {u} {v} stands = same_place stands.same (omega (arith, stands.next))

-- the bytes from one place to the other are the text between them
pub stands_between : {u v : Place} {bs : List ℕ} → Stands u bs v → between u v ≡ bs
stands_between {u} {v} {bs} stands =
    let size : length bs ≡ v.at - u.at = omega (arith, stands.next) in
    ap (take (v.at - u.at)) stands.here ∙ take_at bs (drop v.at u.text) (v.at - u.at) size

-- a concatenation of bytes can be split at a place
pub stands_split : (xs ys : List ℕ) {u w : Place} → Stands u (xs ++ ys) w → (v : Place) × Stands u xs v × Stands v ys w
stands_split xs ys {u} {w} stands =
    let whole : drop u.at u.text ≡ xs ++ (ys ++ drop w.at u.text) = stands.here ∙ append_assoc xs ys (drop w.at u.text) in
    let cut : drop (u.at + length xs) u.text ≡ ys ++ drop w.at u.text =
    sym (drop-drop (length xs) u.at u.text) ∙ ap (drop (length xs)) whole
    ∙ drop_at xs (ys ++ drop w.at u.text) (length xs) refl in
    let sizes : length (xs ++ ys) ≡ length xs + length ys = length-append xs ys in (
      place u.text (u.at + length xs),
      record { same = refl; here = whole ∙ ap (λ bs. xs ++ bs) (sym cut); next = refl },
      record { same = stands.same; here = cut; next = omega (arith, stands.next, sizes) },
    )

-- the first character can be split off
pub stands_char : (c : ℕ) (bs : List ℕ) {u w : Place} → Stands u (encode_utf8 c ++ bs) w → (v : Place) × CharAt u c v × Stands v bs w
stands_char c bs {u} stands =
    let parts = stands_split (encode_utf8 c) bs stands in
    let char : CharAt u c parts.0 = record {
      same = parts.1.same;
      here = parts.1.here;
      next = parts.1.next ∙ ap (λ n. u.at + n) (length-encode c);
    } in
    (parts.0, char, parts.2)

-- the first of several characters can be split off
pub stands_chars : (c : ℕ) (cs : List ℕ) {u w : Place} → Stands u (encode_utf8_all (c ∷ cs)) w
    → (v : Place) × CharAt u c v × Stands v (encode_utf8_all cs) w
stands_chars c cs stands = stands_char c (encode_utf8_all cs) stands

-- characters that pass a test are a run
pub stands_run : (test : ℕ → Bool) (cs : List ℕ) {u v : Place} → list_all test cs ≡ true → Stands u (encode_utf8_all cs) v → Run test u v
stands_run test [] {u} {v} all stands = subst (λ p. Run test u p) (sym (stands_none stands)) stop
stands_run test (c ∷ cs) all stands =
    let first = stands_chars c cs stands in
    let parts = and_parts (test c) (list_all test cs) all in
    step first.1 parts.0 (stands_run test cs parts.1 first.2)

-- a place of a text that occurs at `u`, as a place of the text around it
abbrev pub moved : Place → Place → Place
moved u p = place u.text (u.at + p.at)

-- a character of a text occurs wherever the text occurs
pub char_moved : {t : List ℕ} {u v p q : Place} {c : ℕ} → Stands u t v → p.text ≡ t → CharAt p c q → CharAt (moved u p) c (moved u q)
char_moved {t} {u} {v} {p} {q} {c} stands is char =
    let whole : p.at + len_utf8 c ≤ length p.text = char_left char in
    let size : length p.text ≡ length t = ap length is in
    let sums : q.at ≡ p.at + len_utf8 c = char.next in
    let width : q.at ≤ length t = omega arith in
    let start : p.at ≤ length t = omega arith in
    let rest = drop v.at u.text in
    let at_p : drop (u.at + p.at) u.text ≡ drop p.at t ++ rest =
    sym (drop-drop p.at u.at u.text) ∙ ap (drop p.at) stands.here ∙ drop-append-le p.at t rest start in
    let at_q : drop (u.at + q.at) u.text ≡ drop q.at t ++ rest =
    sym (drop-drop q.at u.at u.text) ∙ ap (drop q.at) stands.here ∙ drop-append-le q.at t rest width in
    let inside : drop p.at t ≡ encode_utf8 c ++ drop q.at t =
    ap (drop p.at) (sym is) ∙ char.here ∙ ap (λ x. encode_utf8 c ++ drop q.at x) is in
    record {
      same = refl;
      here =
          at_p ∙ ap (λ bs. bs ++ rest) inside ∙ append_assoc (encode_utf8 c) (drop q.at t) rest
          ∙ ap (λ bs. encode_utf8 c ++ bs) (sym at_q);
      next = omega arith;
    }

-- a run of a text occurs wherever the text occurs
pub run_moved : {t : List ℕ} {test : ℕ → Bool} {u v p q : Place} → Stands u t v → p.text ≡ t → Run test p q
    → Run test (moved u p) (moved u q)
run_moved stands is stop = stop
run_moved stands is (step char passes rest) = step (char_moved stands is char) passes (run_moved stands (char.same ∙ is) rest)

parts_text : {u v : Place} → Parts u v → v.text ≡ u.text
parts_text none = refl
parts_text (plain char passes rest) = parts_text rest ∙ char.same
parts_text (hidden slash char rest) = parts_text rest ∙ char.same ∙ slash.same
parts_text (nested opens inner closes rest) = parts_text rest ∙ closes.same ∙ parts_text inner ∙ opens.same

-- balanced text inside a text is balanced wherever the text occurs
pub parts_moved : {t : List ℕ} {u v p q : Place} → Stands u t v → p.text ≡ t → Parts p q → Parts (moved u p) (moved u q)
parts_moved stands is none = none
parts_moved stands is (plain char passes rest) = plain (char_moved stands is char) passes (parts_moved stands (char.same ∙ is) rest)
parts_moved stands is (hidden slash char rest) =
    hidden (char_moved stands is slash) (char_moved stands (slash.same ∙ is) char) (parts_moved stands (char.same ∙ slash.same ∙ is) rest)
parts_moved stands is (nested opens inner closes rest) =
    let inside = parts_text inner ∙ opens.same ∙ is in
    nested (char_moved stands is opens) (parts_moved stands (opens.same ∙ is) inner) (char_moved stands inside closes)
    (parts_moved stands (closes.same ∙ inside) rest)

-- text with balanced braces is balanced wherever it occurs
pub parts_stand : {t : List ℕ} {u v : Place} → Stands u t v → IsParts t → Parts u v
parts_stand {t} {u} {v} stands parts =
    let first : moved u (place t 0) ≡ u = same_place {u = moved u (place t 0)} {v = u} refl (omega arith) in
    let last : moved u (place t (length t)) ≡ v =
    same_place {u = moved u (place t (length t))} {v = v} (sym stands.same) (sym stands.next) in
    subst (λ p. Parts p v) first (subst (λ p. Parts (moved u (place t 0)) p) last (parts_moved stands refl parts))

-- balanced text followed by balanced text is balanced
pub parts_append : {u v w : Place} → Parts u v → Parts v w → Parts u w
parts_append none more = more
parts_append (plain char passes rest) more = plain char passes (parts_append rest more)
parts_append (hidden slash char rest) more = hidden slash char (parts_append rest more)
parts_append (nested opens inner closes rest) more = nested opens inner closes (parts_append rest more)

-- characters that are neither braces nor backslashes are balanced
pub parts_plain : (cs : List ℕ) {u v : Place} → list_all is_plain cs ≡ true → Stands u (encode_utf8_all cs) v → Parts u v
parts_plain [] {u} {v} all stands = subst (λ p. Parts u p) (sym (stands_none stands)) none
parts_plain (c ∷ cs) all stands =
    let first = stands_chars c cs stands in
    let parts = and_parts (is_plain c) (list_all is_plain cs) all in
    plain first.1 parts.0 (parts_plain cs parts.1 first.2)

-- the text after a character is valid UTF-8 if the text that begins with it is
pub utf8_char : {u v : Place} {c : ℕ} → CharAt u c v → IsUtf8 (drop u.at u.text) → IsUtf8 (drop v.at v.text)
utf8_char {u} {v} {c} char utf8 =
    IsUtf8-past_char (drop u.at u.text) (drop v.at v.text) c utf8
    (char.here ∙ ap (λ t. encode_utf8 c ++ drop v.at t) (sym char.same))

-- the text after a run is valid UTF-8 if the text that begins with it is
pub utf8_run : {test : ℕ → Bool} {u v : Place} → Run test u v → IsUtf8 (drop u.at u.text) → IsUtf8 (drop v.at v.text)
utf8_run stop utf8 = utf8
utf8_run (step char passes rest) utf8 = utf8_run rest (utf8_char char utf8)

scalars_prefix : (xs ys : List ℕ) → scalars (xs ++ ys) ≡ true → scalars xs ≡ true
scalars_prefix [] ys all = refl
scalars_prefix (x ∷ xs) ys all =
    let parts = and_parts _ (scalars (xs ++ ys)) all in
    and_from _ _ parts.0 (scalars_prefix xs ys parts.1)

-- characters in a valid text are valid UTF-8, and so is the text after them
pub utf8_spells : (cs : List ℕ) {u v : Place} → Stands u (encode_utf8_all cs) v → IsUtf8 (drop u.at u.text)
    → IsUtf8 (encode_utf8_all cs) × IsUtf8 (drop v.at v.text)
utf8_spells cs {u} {v} stands utf8 =
    let past = chars_past cs (drop u.at u.text) (drop v.at u.text) utf8 stands.here in
    let all : scalars (cs ++ chars (drop v.at u.text)) ≡ true =
    subst (λ x. scalars x ≡ true) past.0 (scalars-chars (drop u.at u.text) utf8) in
    ((cs, (scalars_prefix cs (chars (drop v.at u.text)) all, refl)), subst (λ t. IsUtf8 (drop v.at t)) (sym stands.same) past.1)
