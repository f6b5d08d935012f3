-- Bytes in a text from one place to another.
use Rattle.std.proofs.Common.{◌≡◌, inr, ℕ, zero, suc, ◌+◌, ◌-◌, ◌<◌, ◌≤◌, true, List, [], ◌∷◌, ◌++◌, length, take, drop, refl, sym, ap, ◌∙◌, subst, arith, append_assoc, length-append, length-drop}
use Rattle.std.specs.Prelude.{encode_utf8, replicate}
use Rattle.std.specs.Char.{is_whitespace}
use Rattle.std.specs.List.{AllByRecursion}
use Rattle.std.proofs.lemmas.List.{take_at, drop-drop, take-append-drop, length-take-le}
use Rattle.std.proofs.lemmas.Str.{encode_ascii, length-encode}
use Rattle.bib_text.specs.Places.{Place, place, CharAt, Run, between}
use Rattle.bib_text.specs.Places.Run.{stop, step}
use Rattle.bib_text.proofs.PlaceFacts.{Ahead, same_place}
use Rattle.bib_text.proofs.BoundaryFacts.{Border, not_over}
use Rattle.edit_entries.proofs.EditFacts.{text_stands}
use Rattle.edit_entries.proofs.ZoneFacts.{Frame, Zone, Inside, there}

pub record Stands (u : Place) (bytes : List ℕ) (v : Place) : Type 0 where
  pub same : v.text ≡ u.text
  pub here : drop u.at u.text ≡ bytes ++ drop v.at u.text
  pub next : v.at ≡ u.at + length bytes

-- the place after some bytes
abbrev pub past : Place → List ℕ → Place
past u bytes = place u.text (u.at + length bytes)

whole : {u v : Place} (xs ys : List ℕ) → Stands u (xs ++ ys) v → drop u.at u.text ≡ xs ++ (ys ++ drop v.at u.text)
whole {u} {v} xs ys s = s.here ∙ append_assoc xs ys (drop v.at u.text)

pub first_part : {u v : Place} (xs ys : List ℕ) → Stands u (xs ++ ys) v → Stands u xs (past u xs)
first_part {u} {v} xs ys s = record {
  same = refl;
  here = whole xs ys s ∙ ap (λ t. xs ++ t) (sym (text_stands u.text xs (ys ++ drop v.at u.text) u.at (whole xs ys s)));
  next = refl;
}

pub last_part : {u v : Place} (xs ys : List ℕ) → Stands u (xs ++ ys) v → Stands (past u xs) ys v
last_part {u} {v} xs ys s = record {
  same = s.same;
  here = text_stands u.text xs (ys ++ drop v.at u.text) u.at (whole xs ys s);
  next = omega (arith, s.next, length-append xs ys);
}

pub char_stands : {u v : Place} (c : ℕ) → Stands u (encode_utf8 c) v → CharAt u c v
char_stands {u} {v} c s = record { same = s.same; here = s.here; next = s.next ∙ ap (λ n. u.at + n) (length-encode c) }

pub ascii : {u v : Place} (c : ℕ) → c < 128 → Stands u (c ∷ []) v → CharAt u c v
ascii {u} {v} c small s = char_stands c (subst (λ bs. Stands u bs v) (sym (encode_ascii c small)) s)

pub nothing : {u v : Place} → Stands u [] v → u ≡ v
nothing {u} {v} s = same_place {u = u} {v = v} (sym s.same) (omega (arith, s.next))

pub ahead_stands : {u v : Place} (bytes : List ℕ) → Stands u bytes v → Ahead u v
ahead_stands bytes s = record { text = s.same; at = omega (arith, s.next) }

-- ---- white space

abbrev pub AreWhite : List ℕ → Type 0
AreWhite bytes = AllByRecursion (λ b. (b < 128) × (is_whitespace b ≡ true)) bytes

pub white_append : (xs ys : List ℕ) → AreWhite xs → AreWhite ys → AreWhite (xs ++ ys)
white_append [] ys all others = others
white_append (x ∷ xs) ys all others = (all.0, white_append xs ys all.1 others)

pub spaces_white : (n : ℕ) → AreWhite (replicate n 32)
spaces_white zero = _
spaces_white (suc n) = ((omega arith, refl), spaces_white n)

pub run_white : {u v : Place} (bytes : List ℕ) → AreWhite bytes → Stands u bytes v → Run is_whitespace u v
run_white {u} {v} [] all s = subst (λ p. Run is_whitespace u p) (nothing s) stop
run_white {u} {v} (b ∷ bs) all s =
    step (ascii b all.0.0 (first_part (b ∷ []) bs s)) all.0.1
    (run_white {u = past u (b ∷ [])} {v = v} bs all.1 (last_part (b ∷ []) bs s))

-- ---- the text between two places

pub between_stands : {u v : Place} (bytes : List ℕ) → Stands u bytes v → between u v ≡ bytes
between_stands {u} {v} bytes s =
    let size : v.at - u.at ≡ length bytes = omega (arith, s.next) in
    ap (λ n. take n (drop u.at u.text)) size ∙ ap (take (length bytes)) s.here ∙ take_at bytes (drop v.at u.text) (length bytes) refl

pub stands_between : {u v : Place} → Ahead u v → v.at ≤ length u.text → Stands u (between u v) v
stands_between {u} {v} ahead within =
    let left : drop (v.at - u.at) (drop u.at u.text) ≡ drop v.at u.text =
    let sum : u.at + (v.at - u.at) ≡ v.at = omega (arith, ahead.at) in
    drop-drop (v.at - u.at) u.at u.text ∙ ap (λ n. drop n u.text) sum in
    record {
      same = ahead.text;
      here = sym (take-append-drop (v.at - u.at) (drop u.at u.text)) ∙ ap (λ t. between u v ++ t) left;
      next =
          let size : length (between u v) ≡ v.at - u.at =
          length-take-le (v.at - u.at) (drop u.at u.text) (omega (arith, length-drop u.at u.text)) in
          omega (arith, ahead.at);
    }

pub stands_char : {u v : Place} {c : ℕ} → CharAt u c v → Stands u (encode_utf8 c) v
stands_char {u} {v} {c} char = record { same = char.same; here = char.here; next = char.next ∙ ap (λ n. u.at + n) (sym (length-encode c)) }

pub joined : {u v w : Place} (xs ys : List ℕ) → Stands u xs v → Stands v ys w → Stands u (xs ++ ys) w
joined {u} {v} {w} xs ys first rest =
    let last : drop v.at u.text ≡ ys ++ drop w.at u.text = subst (λ t. drop v.at t ≡ ys ++ drop w.at t) first.same rest.here in
    record {
      same = rest.same ∙ first.same;
      here = first.here ∙ ap (λ t. xs ++ t) last ∙ sym (append_assoc xs ys (drop w.at u.text));
      next = omega (arith, first.next, rest.next, length-append xs ys);
    }

-- ---- bytes of another text

-- the zone between `a` and `b`, which is moved to `u`
abbrev pub copy_frame : Place → Place → Place → Frame
copy_frame a b u = record { old = a.text; new = u.text; move = λ n. n - a.at + u.at; from = a.at; to = u.at; end = b.at }

pub record Copy (a b u v : Place) : Type 0 where
  pub zone : Zone (copy_frame a b u)
  pub start : Inside (copy_frame a b u) a
  pub end : Inside (copy_frame a b u) b
  pub goes_start : there (copy_frame a b u) a ≡ u
  pub goes_end : there (copy_frame a b u) b ≡ v

pub copied : {a b u v : Place} → Ahead a b → b.at ≤ length a.text → Stands u (between a b) v
    → ((x y : Place) (c : ℕ) → x.text ≡ u.text → CharAt x c y → x.at < v.at → y.at ≤ v.at) → Copy a b u v
copied {a} {b} {u} {v} ahead within s cut =
    let size : length (between a b) ≡ b.at - a.at =
    length-take-le (b.at - a.at) (drop a.at a.text) (omega (arith, length-drop a.at a.text)) in
    let ends : v.at ≡ u.at + (b.at - a.at) = omega (arith, s.next) in
    record {
      zone = record {
        moves = λ n from below. omega arith;
        same = sym (ap (take (b.at - a.at)) s.here ∙ take_at (between a b) (drop v.at u.text) (b.at - a.at) size);
        cut = λ {u = x} {v = y} {c = d} same char below. omega (arith, ends, ahead.at, cut x y d same char (omega (arith, ends, ahead.at)));
      };
      start = record { text = refl; start = omega arith; end = ahead.at; moved = omega arith };
      end = record { text = ahead.text; start = ahead.at; end = omega arith; moved = omega (arith, ahead.at) };
      goes_start = same_place refl (omega arith);
      goes_end = same_place (sym s.same) (omega (arith, ends, ahead.at));
    }

-- the bytes between two places are copied to a place if a character follows them there
pub copied_before : {a b u v w : Place} {c : ℕ} → Ahead a b → b.at ≤ length a.text → Stands u (between a b) v → CharAt v c w → Copy a b u v
copied_before {a} {b} {u} {v} {w} {c} ahead within s following =
    let border : Border (place u.text v.at) =
    inr (
      c,
      w,
      subst (λ t. CharAt (place t v.at) c w) s.same
          (record { same = following.same; here = following.here; next = following.next }),
    ) in
    copied ahead within s (λ x y d same char below. not_over u.text v.at border same char below)
