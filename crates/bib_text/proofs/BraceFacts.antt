-- Facts about texts with balanced braces.
use Rattle.std.proofs.Common.{◌≡◌, ℕ, zero, suc, ◌<◌, ◌≤◌, true, false, refl, sym, ap, subst, arith, inl, inr, ⊎_elim, MatchBool, nat_eq}
use Rattle.std.specs.Prelude.{◌⊎◌, ◌↔◌}
use Rattle.std.proofs.lemmas.Bool.{both_ways, ne_eqb}
use Rattle.std.proofs.lemmas.Str.{len_utf8_bounds}
use Rattle.bib_text.specs.Places.{Place, CharAt, AtEnd}
use Rattle.bib_text.specs.Braces.{Parts, is_plain}
use Rattle.bib_text.specs.Braces.Parts.{none, plain, hidden, nested}
use Rattle.bib_text.specs.OpenBraces.{ClosesOpen}
use Rattle.bib_text.specs.OpenBraces.ClosesOpen.{last, level}
use Rattle.bib_text.proofs.PlaceFacts.{Ahead, ahead_char, ahead_here, ahead_then, char_clash, no_char_at_end, pass_clash, same_char, test_clash}

-- a character that is neither a brace nor a backslash is plain
pub is_plain_from : (c : ℕ) → (c ≡ 123 → ⊥) → (c ≡ 125 → ⊥) → (c ≡ 92 → ⊥) → is_plain c ≡ true
is_plain_from c no_open no_close no_slash = rw (ne_eqb c 123 no_open, ne_eqb c 125 no_close, ne_eqb c 92 no_slash) refl

-- a plain character differs from each character that isn't plain
pub plain_is : {c : ℕ} (d : ℕ) → is_plain c ≡ true → is_plain d ≡ false → c ≡ d → ⊥
plain_is d passes fails same = test_clash (is_plain d) (subst (λ x. is_plain x ≡ true) same passes) fails

-- parts that begin at a closing brace are empty
pub no_parts : {u v x : Place} → CharAt u 125 v → Parts u x → u ≡ x
no_parts close none = refl
no_parts close (plain char passes parts) = absurd (pass_clash is_plain char passes close refl)
no_parts close (hidden slash any parts) = absurd (char_clash close slash refl)
no_parts close (nested brace inner close' rest) = absurd (char_clash close brace refl)

-- parts that begin at the end of a text are empty
pub parts_end : {u x : Place} → AtEnd u → Parts u x → u ≡ x
parts_end end none = refl
parts_end end (plain char passes parts) = absurd (no_char_at_end end char)
parts_end end (hidden slash any parts) = absurd (no_char_at_end end slash)
parts_end end (nested brace inner close rest) = absurd (no_char_at_end end brace)

pub ahead_parts : {u v : Place} → Parts u v → Ahead u v
ahead_parts {u} none = ahead_here u
ahead_parts (plain char passes rest) = ahead_then (ahead_char char) (ahead_parts rest)
ahead_parts (hidden slash char rest) = ahead_then (ahead_char slash) (ahead_then (ahead_char char) (ahead_parts rest))
ahead_parts (nested opens inner closes rest) =
    ahead_then (ahead_char opens) (ahead_then (ahead_parts inner) (ahead_then (ahead_char closes) (ahead_parts rest)))

closes_onward : {n : ℕ} {u e : Place} → ClosesOpen n u e → u.at ≤ e.at
closes_onward (last parts) = (ahead_parts parts).at
closes_onward (level parts close rest) = omega (arith, (ahead_parts parts).at, (ahead_char close).at, closes_onward rest)

-- parts from a plain character are empty, or have this character first
pub parts_plain : {u v w : Place} {c : ℕ} → CharAt u c v → is_plain c ≡ true → Parts u w → (u ≡ w) ⊎ Parts v w
parts_plain char passes none = inl refl
parts_plain {w = w} char passes (plain other also rest) = inr (subst (λ p. Parts p w) (same_char other char).1 rest)
parts_plain char passes (hidden other next rest) = absurd (both_ways _ refl (rw (same_char char other).0 at passes))
parts_plain char passes (nested other inner close rest) = absurd (both_ways _ refl (rw (same_char char other).0 at passes))

-- parts from a backslash are empty, or have the backslash and the character after it first
pub parts_hidden : {u v w x : Place} {c : ℕ} → CharAt u 92 v → CharAt v c w → Parts u x → (u ≡ x) ⊎ Parts w x
parts_hidden slash char none = inl refl
parts_hidden slash char (plain other also rest) = absurd (both_ways _ refl (rw (sym (same_char slash other).0) at also))
parts_hidden {x = x} slash char (hidden {w = z} {c = d} other next rest) =
    let here = subst (λ p. CharAt p d z) (same_char other slash).1 next in
    inr (subst (λ p. Parts p x) (same_char here char).1 rest)
parts_hidden slash char (nested other inner close rest) = absurd (omega (arith, (same_char slash other).0))

-- parts from a backslash are empty, or go on after it
parts_slash : {u v x : Place} → CharAt u 92 v → Parts u x → (u ≡ x) ⊎ (v.at < x.at)
parts_slash slash none = inl refl
parts_slash slash (plain other also rest) = absurd (both_ways _ refl (rw (sym (same_char slash other).0) at also))
parts_slash slash (hidden {c = c} other next rest) =
    inr
    (omega
    (arith, slash.next, other.next, next.next, (len_utf8_bounds c).0, (ahead_parts rest).at))
parts_slash slash (nested other inner close rest) = absurd (omega (arith, (same_char slash other).0))

-- parts that begin at an opening brace are empty, or begin with a pair of braces
pub parts_open : {u v x : Place} → CharAt u 123 v → Parts u x
    → (u ≡ x) ⊎ ((w : Place) × (y : Place) × Parts v w × CharAt w 125 y × Parts y x)
parts_open char none = inl refl
parts_open char (plain other also rest) = absurd (both_ways _ refl (rw (sym (same_char char other).0) at also))
parts_open char (hidden other next rest) = absurd (omega (arith, (same_char char other).0))
parts_open char (nested {w = w} {x = y} other inner close rest) =
    inr (w, y, subst (λ p. Parts p w) (same_char other char).1 inner, close, rest)

-- the place of a character isn't one at or after its end
not_last : {u v e : Place} {c : ℕ} → v.at ≤ e.at → CharAt u c v → u ≡ e → ⊥
not_last {c = c} within char end = omega (arith, within, char.next, (len_utf8_bounds c).0, ap (λ p. p.at) end)

-- Suppose that non-empty parts from `u` are parts from `v`, and that parts from `v` are parts from `u`. If the character at `u` isn't
-- a closing brace, the same open braces are closed from `u` and from `v`.
closes_after : (n : ℕ) (e : Place) {u v y : Place} {c : ℕ} → y.at ≤ e.at → CharAt u c y → (c ≡ 125 → ⊥)
    → ((x : Place) → Parts u x → (u ≡ x) ⊎ Parts v x) → ((x : Place) → Parts v x → Parts u x)
    → ClosesOpen n u e ↔ ClosesOpen n v e
closes_after n e {u} {v} {y} {c} within char other first back = (there, here)
  where
    there : {m : ℕ} → ClosesOpen m u e → ClosesOpen m v e
    there (last p) = last (⊎_elim (λ end. absurd (not_last within char end)) (λ q. q) (first e p))
    there (level {v = w} {w = x} p close rest) =
        level
        (⊎_elim (λ end. absurd (other (same_char char (subst (λ z. CharAt z 125 x) (sym end) close)).0)) (λ q. q) (first w p))
        close rest

    here : {m : ℕ} → ClosesOpen m v e → ClosesOpen m u e
    here (last p) = last (back e p)
    here (level {v = w} p close rest) = level (back w p) close rest

-- a plain character does not change how many braces close up to the end
pub closes_plain : (n : ℕ) (e : Place) {u v : Place} {c : ℕ} → v.at ≤ e.at → CharAt u c v → is_plain c ≡ true
    → (c ≡ 125 → ⊥) → ClosesOpen n u e ↔ ClosesOpen n v e
closes_plain n e within char passes other =
    closes_after n e within char other (λ x. parts_plain char passes) (λ x rest. plain char passes rest)

-- nor do a backslash and the character after it
pub closes_hidden : (n : ℕ) (e : Place) {u v w : Place} {c : ℕ} → v.at ≤ e.at → CharAt u 92 v → CharAt v c w
    → ClosesOpen n u e ↔ ClosesOpen n w e
closes_hidden n e within slash char =
    closes_after n e within slash (λ same. omega (arith, same)) (λ x. parts_hidden slash char)
    (λ x rest. hidden slash char rest)

-- nothing closes from a backslash up to its end
pub closes_slash_end : (n : ℕ) (e : Place) {u v : Place} → CharAt u 92 v → v ≡ e → ClosesOpen n u e → ⊥
closes_slash_end n e {u} {v} slash end (last parts) =
    let same_at : v.at ≡ e.at = ap (λ p. p.at) end in
    ⊎_elim (λ same. not_last (omega (arith, same_at)) slash same) (λ more. omega (arith, more, same_at)) (parts_slash slash parts)
closes_slash_end n e {u} {v} slash end (level {v = w} {w = x} parts close rest) =
    ⊎_elim
    (λ same. let clash = (same_char slash (subst (λ p. CharAt p 125 x) (sym same) close)).0 in omega (arith, clash))
    (λ more. omega (arith, more, ap (λ p. p.at) end, (ahead_char close).at, closes_onward rest))
    (parts_slash slash parts)

-- a pair of braces before a text that closes open braces
opened_there : {n : ℕ} {u v w x e : Place} → CharAt u 123 v → Parts v w → CharAt w 125 x → ClosesOpen n x e → ClosesOpen n u e
opened_there brace inner close (last parts) = last (nested brace inner close parts)
opened_there brace inner close (level parts other rest) = level (nested brace inner close parts) other rest

-- if the text after an opening brace closes `suc n` open braces, the text from this brace on closes `n`
pub closes_suc : {n : ℕ} {u v e : Place} → CharAt u 123 v → ClosesOpen (suc n) v e → ClosesOpen n u e
closes_suc brace (level parts close rest) = opened_there brace parts close rest

-- if the text from an opening brace on closes `n` open braces and isn't empty, the text after this brace closes `suc n`
pub opened_back : {n : ℕ} {u v e : Place} → (u ≡ e → ⊥) → CharAt u 123 v → ClosesOpen n u e → ClosesOpen (suc n) v e
opened_back some char (last parts) =
    ⊎_elim (λ end. absurd (some end)) (λ (w, x, inner, close, rest). level inner close (last rest)) (parts_open char parts)
opened_back some char (level {w = x} parts close rest) =
    ⊎_elim (λ end. let same = (same_char char (subst (λ p. CharAt p 125 x) (sym end) close)).0 in absurd (omega (arith, same)))
    (λ (y, z, inner, inner_close, more). level inner inner_close (level more close rest))
    (parts_open char parts)

-- before an opening brace one brace less is to be closed than after it
pub closes_open : (n : ℕ) (e : Place) {u v : Place} → v.at ≤ e.at → CharAt u 123 v → ClosesOpen n u e ↔ ClosesOpen (suc n) v e
closes_open n e within char = (opened_back (not_last within char) char, closes_suc char)

-- if the text from a closing brace on closes `suc n` open braces, the text after this brace closes `n`
pub closed_back : {n : ℕ} {u v e : Place} → CharAt u 125 v → ClosesOpen (suc n) u e → ClosesOpen n v e
closed_back {n} {u} {v} {e} char (level {w = x} parts close rest) =
    subst (λ p. ClosesOpen n p e)
    (sym (same_char char (subst (λ p. CharAt p 125 x) (sym (no_parts char parts)) close)).1) rest

-- before a closing brace one brace more is to be closed than after it
pub closes_close : (n : ℕ) (e : Place) {u v : Place} → CharAt u 125 v → ClosesOpen (suc n) u e ↔ ClosesOpen n v e
closes_close n e char = (closed_back char, λ rest. level none char rest)

-- a text that closes no open brace is parts
pub closes_zero : {u e : Place} → ClosesOpen zero u e → Parts u e
closes_zero (last parts) = parts

-- a text that begins with a closing brace is not parts, since no brace is open before it
pub closes_close_none : (e : Place) {u v : Place} → v.at ≤ e.at → CharAt u 125 v → ClosesOpen zero u e → ⊥
closes_close_none e within char (last parts) = not_last within char (no_parts char parts)

-- at the end all braces are closed exactly if none is open
pub closes_end : (n : ℕ) (e : Place) {u : Place} → u ≡ e → MatchBool (nat_eq n 0) (ClosesOpen n u e) (ClosesOpen n u e → ⊥)
closes_end zero e {u} same = last (subst (λ p. Parts u p) same none)
closes_end (suc n) e {u} same = rw (ne_eqb (suc n) 0 (λ zero_open. omega (arith, zero_open))) some_open
  where
    some_open : ClosesOpen (suc n) u e → ⊥
    some_open (level parts close rest) = omega (arith, ap (λ p. p.at) same, (ahead_parts parts).at, close.next, closes_onward rest)
