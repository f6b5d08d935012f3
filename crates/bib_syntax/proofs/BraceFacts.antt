-- How a parser moves past the parts of a braced text one by one, with a count of the open braces.
use Rattle.std.proofs.Common.{◌≡◌, ◌-◌, ⊎_elim, arith, ℕ, zero, suc, true, refl, sym, subst, MatchOption, Option, None, Some}
use Rattle.bib_text.specs.Places.{Place, CharAt, Run, Stops, AtEnd}
use Rattle.bib_text.specs.Places.Run.{stop, step}
use Rattle.bib_text.specs.Braces.{Parts, is_plain}
use Rattle.bib_text.specs.Braces.Parts.{none, plain, hidden, nested}
use Rattle.bib_text.specs.OpenBraces.{ClosesOpen}
use Rattle.bib_text.specs.OpenBraces.ClosesOpen.{last, level}
use Rattle.bib_syntax.specs.OpenBraces.{SameBraced}
use Rattle.bib_text.proofs.PlaceFacts.{same_char, char_clash, pass_clash, no_char_at_end}
use Rattle.bib_text.proofs.BraceFacts.{closed_back, closes_suc, closes_zero, opened_back, parts_end, parts_hidden, parts_open, parts_plain, plain_is}

pub same_braced : (n : ℕ) (u : Place) → SameBraced n u n u
same_braced n u = record { there = λ x y p c. p; back = λ x y p c. p }

-- `SameBraced` is transitive
pub braced_then : {n m k : ℕ} {u v w : Place} → SameBraced n u m v → SameBraced m v k w → SameBraced n u k w
braced_then first second = record {
  there = λ x y p c. first.there x y (second.there x y p c) c;
  back = λ x y p c. second.back x y (first.back x y p c) c;
}

-- if parts from `u` up to a closing brace are also parts from `v`, the same is true of text that closes `n` open braces
closes_map : {n : ℕ} {u v x y : Place} → ((a b : Place) → Parts u a → CharAt a 125 b → Parts v a) → ClosesOpen n u x
    → CharAt x 125 y → ClosesOpen n v x
closes_map change (last parts) brace = last (change _ _ parts brace)
closes_map change (level parts close rest) brace = level (change _ _ parts close) close rest

run_there : {u v x : Place} → Run is_plain u v → Parts v x → Parts u x
run_there stop parts = parts
run_there (step char passes rest) parts = plain char passes (run_there rest parts)

-- parts from a character other than a closing brace up to a closing brace aren't empty
not_closed : {u v x y : Place} {c : ℕ} → CharAt u c v → (c ≡ 125 → ⊥) → CharAt x 125 y → u ≡ x → ⊥
not_closed {y = y} char other brace same = other (same_char char (subst (λ p. CharAt p 125 y) (sym same) brace)).0

-- parts from a plain character up to a closing brace are also parts from the place after this character
pub plain_back : {u v x y : Place} {c : ℕ} → CharAt u c v → is_plain c ≡ true → Parts u x → CharAt x 125 y → Parts v x
plain_back char passes parts brace =
    ⊎_elim (λ same. absurd (not_closed char (plain_is 125 passes refl) brace same)) (λ q. q) (parts_plain char passes parts)

run_back : {u v x y : Place} → Run is_plain u v → Parts u x → CharAt x 125 y → Parts v x
run_back stop parts brace = parts
run_back (step char passes rest) parts brace = run_back rest (plain_back char passes parts brace) brace

-- moving past a run of plain characters closes and opens no brace
pub braced_run : {u v : Place} (n : ℕ) → Run is_plain u v → SameBraced n u n v
braced_run n run = record {
  there = λ x y p c. closes_map (λ a b parts close. run_there run parts) p c;
  back = λ x y p c. closes_map (λ a b parts close. run_back run parts close) p c;
}

-- in parts that begin with an opening brace and end before a closing brace, the opening brace has its own closing brace
pub opened_parts : {u v x y : Place} → CharAt u 123 v → Parts u x → CharAt x 125 y
    → (w : Place) × (z : Place) × Parts v w × CharAt w 125 z × Parts z x
opened_parts char parts brace =
    ⊎_elim (λ same. absurd (not_closed char (λ clash. omega (arith, clash)) brace same)) (λ q. q) (parts_open char parts)

-- moving past an opening brace opens one brace
pub braced_open : {u v : Place} (n : ℕ) → CharAt u 123 v → SameBraced n u (suc n) v
braced_open n brace = record {
  there = λ x y p c. closes_suc brace p;
  back = λ x y p c. opened_back (not_closed brace (λ clash. omega (arith, clash)) c) brace p;
}

-- moving past a closing brace closes one brace
pub braced_close : {u v : Place} (n : ℕ) → CharAt u 125 v → SameBraced (suc n) u n v
braced_close n close = record { there = λ x y p c. level none close p; back = λ x y p c. closed_back close p }

pub closes_end : {n : ℕ} {u x y : Place} → AtEnd u → ClosesOpen n u x → CharAt x 125 y → ⊥
closes_end {n} {u} {x} {y} end (last parts) closing = no_char_at_end end (subst (λ p. CharAt p 125 y) (sym (parts_end end parts)) closing)
closes_end {n} {u} {x} {y} end (level {w = w} parts close rest) closing =
    no_char_at_end end (subst (λ p. CharAt p 125 w) (sym (parts_end end parts)) close)

-- parts from a backslash up to a closing brace are parts from the place after the character that it escapes
pub hidden_back : {u v w x y : Place} {c : ℕ} → CharAt u 92 v → CharAt v c w → Parts u x → CharAt x 125 y → Parts w x
hidden_back slash char parts brace =
    ⊎_elim (λ same. absurd (not_closed slash (λ clash. omega (arith, clash)) brace same)) (λ q. q) (parts_hidden slash char parts)

hidden_end : {u v x y : Place} → CharAt u 92 v → AtEnd v → Parts u x → CharAt x 125 y → ⊥
hidden_end slash end none brace = char_clash slash brace refl
hidden_end slash end (plain char passes parts) brace = pass_clash is_plain char passes slash refl
hidden_end slash end (hidden {w = w'} {c = c'} slash' char' parts) brace =
    no_char_at_end end (subst (λ p. CharAt p c' w') (same_char slash' slash).1 char')
hidden_end slash end (nested open' inner close rest) brace = char_clash slash open' refl

closes_hidden_end : {n : ℕ} {u v x y : Place} → CharAt u 92 v → AtEnd v → ClosesOpen n u x → CharAt x 125 y → ⊥
closes_hidden_end slash end (last parts) brace = hidden_end slash end parts brace
closes_hidden_end slash end (level parts close rest) brace = hidden_end slash end parts close

-- moving past a backslash and the character after it, if there is one, closes and opens no brace
pub braced_hidden : {u v w : Place} (n : ℕ) (taken : Option ℕ) → CharAt u 92 v
    → MatchOption taken (AtEnd v × (w ≡ v)) (λ c. CharAt v c w) → SameBraced n u n w
braced_hidden {u} {v} {w} n None slash ended = record {
  there = λ x y p c. absurd (closes_end ended.0 (subst (λ q. ClosesOpen n q x) ended.1 p) c);
  back = λ x y p c. absurd (closes_hidden_end slash ended.0 p c);
}
braced_hidden n (Some c) slash char = record {
  there = λ x y p q. closes_map (λ a b parts close. hidden slash char parts) p q;
  back = λ x y p q. closes_map (λ a b parts close. hidden_back slash char parts close) p q;
}

parts_stuck : {u x y : Place} → Stops is_plain u → ((v : Place) → CharAt u 123 v → ⊥)
    → ((v : Place) → CharAt u 125 v → ⊥) → ((v : Place) → CharAt u 92 v → ⊥) → Parts u x → CharAt x 125 y → ⊥
parts_stuck stops brace close slash none closing = close _ closing
parts_stuck stops brace close slash (plain char passes parts) closing = pass_clash is_plain char passes char (stops _ _ char)
parts_stuck stops brace close slash (hidden char any parts) closing = slash _ char
parts_stuck stops brace close slash (nested char inner end rest) closing = brace _ char

-- from a place without a plain character, a brace or a backslash, no closing brace can be reached
pub braced_stuck : {n : ℕ} {u x y : Place} → Stops is_plain u → ((v : Place) → CharAt u 123 v → ⊥)
    → ((v : Place) → CharAt u 125 v → ⊥) → ((v : Place) → CharAt u 92 v → ⊥) → ClosesOpen n u x → CharAt x 125 y → ⊥
braced_stuck stops brace close slash (last parts) closing = parts_stuck stops brace close slash parts closing
braced_stuck stops brace close slash (level parts end rest) closing = parts_stuck stops brace close slash parts end

-- if no brace is open at a closing brace, the text up to this brace is parts of a braced text
pub found_parts : {u v w : Place} {n : ℕ} → SameBraced zero u n v → n ≡ 0 → CharAt v 125 w → Parts u v
found_parts {u} {v} {w} {n} same none_open close =
    closes_zero (same.there v w (subst (λ k. ClosesOpen k v v) (sym none_open) (last none)) close)

-- `SameBraced` up to a place also holds up to an equal place
pub braced_same : {n m : ℕ} {u v w : Place} → SameBraced n u m v → w ≡ v → SameBraced n u m w
braced_same {n} {m} {u} {v} {w} all same = subst (λ p. SameBraced n u m p) (sym same) all

-- after a closing brace, one brace less is open, if at least one was open
pub braced_less : {n : ℕ} {u v w : Place} (m : ℕ) → SameBraced n u m v → (m ≡ 0 → ⊥) → CharAt v 125 w → SameBraced n u (m - 1) w
braced_less {n} {u} {v} {w} m all some close =
    let open' : m ≡ suc (m - 1) = omega arith in
    braced_then (subst (λ k. SameBraced n u k v) open' all) (braced_close (m - 1) close)
