-- The characters from a place to the end of its text, and the outcomes of rules there.
use Rattle.std.proofs.Common.{◌≡◌, ◌⊎◌, ℕ, zero, suc, ◌+◌, ◌<◌, ◌≤◌, arith, length, drop, Bool, true, List, [], ◌∷◌, inl, inr, sym, ap, subst}
use Rattle.std.specs.Prelude.{◌==◌, encode_utf8_all}
use Rattle.std.specs.Char.{len_utf8}
use Rattle.std.specs.Str.{IsUtf8}
use Rattle.std.proofs.lemmas.Str.{drop_past_char}
use Rattle.std.proofs.lemmas.List.{length-drop}
use Rattle.std.proofs.lemmas.Bool.{cases_Bool, eqb-true}
use Rattle.bib_text.specs.Places.{Place, place, CharAt, Stops, Longest, AtEnd}
use Rattle.bib_text.specs.Places.Run.{stop, step}
use Rattle.bib_text.proofs.PlaceFacts.{char_here, char_left, stops_at, stops_at_end}
use Rattle.bib_syntax.specs.declared.raw.ParseErrorKind.{ParseErrorKind}

-- the text from a place to its end has at most this number of characters
pub data Left : ℕ → Place → Type 0 where
  none : {n : ℕ} {u : Place} → AtEnd u → Left n u
  more : {n : ℕ} {u v : Place} {c : ℕ} → CharAt u c v → Left n v → Left (suc n) u

-- a place with `Left` is the end of its text, or a character is there
pub end_or_char : {n : ℕ} {u : Place} → Left n u → AtEnd u ⊎ ((c : ℕ) × (v : Place) × CharAt u c v)
end_or_char (Left.none end) = inl end
end_or_char (Left.more char rest) = inr (_, _, char)

-- if the rest of a text from an offset encodes `cs`, at most as many characters are left there as `cs` has
spelled : (cs text : List ℕ) (at : ℕ) → at ≤ length text → drop at text ≡ encode_utf8_all cs → Left (length cs) (place text at)
spelled [] text at within rest =
    let left : length (drop at text) ≡ 0 = ap length rest in
    Left.none (omega (arith, within, left, length-drop at text))
spelled (c ∷ cs) text at within rest =
    let char = char_here text (encode_utf8_all cs) at c rest in
    Left.more char (spelled cs text (at + len_utf8 c) (char_left char) (drop_past_char text (encode_utf8_all cs) at c rest))

-- the number of characters of a UTF-8 text has a bound
pub text_left : (text : List ℕ) → IsUtf8 text → (n : ℕ) × Left n (place text 0)
text_left text utf8 = (_, spelled utf8.0 text 0 (omega arith) (sym utf8.1.1))

-- a place at which this rule ends, with at most `n` characters after it
pub record RuleEnd (n : ℕ) (Rule : Place → Type 0) : Type 0 where
  pub left : ℕ
  pub place : Place
  pub rest : Left left place
  pub fits : left ≤ n
  pub rule : Rule place

-- a rule that ends at a place with at most `n` characters left
pub found_at : {m n : ℕ} {u : Place} {Rule : Place → Type 0} → m ≤ n → Left m u → Rule u → RuleEnd n Rule
found_at {m} {n} {u} fits rest rule = record { left = m; place = u; rest = rest; fits = fits; rule = rule }

-- a rule that ends at the place of another one
pub found_as : {m n : ℕ} {Rule Other : Place → Type 0} → m ≤ n → (f : RuleEnd m Rule) → Other f.place → RuleEnd n Other
found_as fits f rule = found_at (omega (arith, fits, f.fits)) f.rest rule

-- a rule matches or fails
pub data Outcome (n : ℕ) (Rule : Place → Type 0) (Fails : ParseErrorKind → Place → Type 0) : Type 0 where
  read : RuleEnd n Rule → Outcome n Rule Fails
  fails : {kind : ParseErrorKind} {v : Place} → Fails kind v → Outcome n Rule Fails

-- the same outcome with a greater bound on the characters left
pub outcome_within : {m n : ℕ} {Rule : Place → Type 0} {Fails : ParseErrorKind → Place → Type 0} → m ≤ n
    → Outcome m Rule Fails → Outcome n Rule Fails
outcome_within fits (Outcome.read f) = Outcome.read (found_as fits f f.rule)
outcome_within fits (Outcome.fails f) = Outcome.fails f

-- a longest run matches at each place with `Left`
pub run_found : (test : ℕ → Bool) {n : ℕ} {u : Place} → Left n u → RuleEnd n (Longest test u)
run_found test (Left.none end) = found_at (omega arith) (Left.none {n = zero} end) (record { run = stop; stops = stops_at_end test end })
run_found test {u = u} (Left.more {c = c} char rest) =
    let following = run_found test rest in
    elim (cases_Bool (test c)) [
      | inl pass ↦
          let longer : Longest test u following.place = record { run = step char pass following.rule.run; stops = following.rule.stops } in
          found_as (omega arith) following longer
      | inr fail ↦ found_at (omega arith) (Left.more char rest) (record { run = stop; stops = stops_at test char fail })
    ]

-- the character at a place passes the test, or no passing character is there
pub data First (test : ℕ → Bool) (n : ℕ) (u : Place) : Type 0 where
  passes : {m c : ℕ} {v : Place} → CharAt u c v → test c ≡ true → Left m v → m < n → First test n u
  stops : Stops test u → First test n u

-- one of these two cases applies
pub first : (test : ℕ → Bool) {n : ℕ} {u : Place} → Left n u → First test n u
first test (Left.none end) = First.stops (stops_at_end test end)
first test (Left.more {c = c} char rest) = elim (cases_Bool (test c)) [
  | inl pass ↦ First.passes char pass rest (omega arith)
  | inr fail ↦ First.stops (stops_at test char fail)
]

-- the character `k` is at a place, or it is missing there
pub data Sign (k n : ℕ) (u : Place) : Type 0 where
  here : {m : ℕ} {v : Place} → CharAt u k v → Left m v → m < n → Sign k n u
  missing : Stops (λ c. c == k) u → Sign k n u

-- a character that equals `k` is `k`
pub is_sign : (k : ℕ) {u v : Place} {c : ℕ} → CharAt u c v → c == k ≡ true → CharAt u k v
is_sign k {u} {v} {c} char same = subst (λ x. CharAt u x v) (eqb-true c k same) char

-- a character that passes the test for `k` is `k`
sign_first : (k : ℕ) {n : ℕ} {u : Place} → First (λ c. c == k) n u → Sign k n u
sign_first k (First.passes char same rest less) = Sign.here (is_sign k char same) rest less
sign_first k (First.stops absent) = Sign.missing absent

-- one of these two cases applies to `k`
pub sign : (k : ℕ) {n : ℕ} {u : Place} → Left n u → Sign k n u
sign k left = sign_first k (first (λ c. c == k) left)
