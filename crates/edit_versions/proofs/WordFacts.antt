-- The words of a text.
use Rattle.std.proofs.Common.{◌≡◌, ℕ, ◌+◌, ◌-◌, Bool, true, false, List, [], ◌∷◌, ◌++◌, append-nil, append_assoc, subst, refl, sym, ap, ◌∙◌}
use Rattle.std.specs.Prelude.{encode_utf8, encode_utf8_all, if◌then◌else◌}
use Rattle.std.specs.Char.{is_ascii_whitespace}
use Rattle.std.proofs.lemmas.Str.{encodes-append}
use Rattle.bib_queries.specs.EqualValues.{with_single_spaces}

-- ---- words

-- the words of these characters so far are these bytes, and `is_after` is whether white space is directly before the next character
pub record AreWords (seen : List ℕ) (bytes : List ℕ) (is_after : Bool) : Type 0 where
  pub done : List ℕ
  pub written : bytes ≡ encode_utf8_all done
  pub more : (rest : List ℕ) → with_single_spaces true (seen ++ rest) ≡ done ++ with_single_spaces is_after rest

pub words_none : (bytes : List ℕ) → bytes ≡ [] → AreWords [] bytes true
words_none bytes empty = record { done = []; written = empty; more = λ rest. refl }

-- what the words get for a character
abbrev pub written_for : Bool → Bool → ℕ → List ℕ
written_for true true c = []
written_for true false c = 32 ∷ []
written_for false after c = c ∷ []

-- the words that begin with a character, by two tests
abbrev single_by : Bool → Bool → ℕ → List ℕ → List ℕ
single_by white after c rest =
    if white
    then if after then with_single_spaces true rest else 32 ∷ with_single_spaces true rest
    else c ∷ with_single_spaces false rest

single_step : (white after : Bool) (c : ℕ) (rest : List ℕ) → is_ascii_whitespace c ≡ white
    → with_single_spaces after (c ∷ rest) ≡ written_for white after c ++ with_single_spaces white rest
single_step true true c rest is = ap (λ b. single_by b true c rest) is
single_step true false c rest is = ap (λ b. single_by b false c rest) is
single_step false after c rest is = ap (λ b. single_by b after c rest) is

-- the words after one more character
pub words_more : {seen bytes new : List ℕ} {after : Bool} (white : Bool) (c : ℕ) → AreWords seen bytes after → is_ascii_whitespace c ≡ white
    → new ≡ bytes ++ encode_utf8_all (written_for white after c) → AreWords (seen ++ c ∷ []) new white
words_more {seen} {after = after} white c so_far is pushed = record {
  done = so_far.done ++ written_for white after c;
  written = pushed ∙ ap (λ b. b ++ encode_utf8_all (written_for white after c)) so_far.written
      ∙ sym (encodes-append so_far.done (written_for white after c));
  more = λ rest.
      ap (with_single_spaces true) (append_assoc seen (c ∷ []) rest) ∙ so_far.more (c ∷ rest)
      ∙ ap (λ t. so_far.done ++ t) (single_step white after c rest is)
      ∙ sym (append_assoc so_far.done (written_for white after c) (with_single_spaces white rest));
}

-- a character that isn't white space is written
pub words_char : {seen bytes new : List ℕ} {after : Bool} (white : Bool) (c : ℕ) → AreWords seen bytes after → white ≡ is_ascii_whitespace c
    → white ≡ false → new ≡ bytes ++ encode_utf8 c → AreWords (seen ++ c ∷ []) new white
words_char {seen} {bytes} {new} white c so_far value fails pushed =
    subst (AreWords (seen ++ c ∷ []) new) (sym fails)
    (words_more false c so_far (sym value ∙ fails) (pushed ∙ ap (λ t. bytes ++ t) (sym (append-nil (encode_utf8 c)))))

-- white space after a character that isn't becomes a space
pub words_space : {seen bytes new : List ℕ} {after : Bool} (white : Bool) (c : ℕ) → AreWords seen bytes after
    → white ≡ is_ascii_whitespace c
    → white ≡ true → after ≡ false → new ≡ bytes ++ encode_utf8 32 → AreWords (seen ++ c ∷ []) new white
words_space {seen} {bytes} {new} white c so_far value passes first pushed =
    subst (AreWords (seen ++ c ∷ []) new) (sym passes)
    (words_more true c so_far (sym value ∙ passes) (pushed ∙ ap (λ t. bytes ++ t) (sym (append-nil (encode_utf8 32)))
    ∙ ap (λ a. bytes ++ encode_utf8_all (written_for true a c)) (sym first)))

-- white space after white space is left out
pub words_same : {seen bytes : List ℕ} {after : Bool} (white : Bool) (c : ℕ) → AreWords seen bytes after → white ≡ is_ascii_whitespace c
    → white ≡ true → after ≡ true → AreWords (seen ++ c ∷ []) bytes white
words_same {seen} {bytes} white c so_far value passes more =
    subst (AreWords (seen ++ c ∷ []) bytes) (sym passes)
    (words_more true c so_far (sym value ∙ passes)
    (sym (append-nil bytes) ∙ ap (λ a. bytes ++ encode_utf8_all (written_for true a c)) (sym more)))

-- the words of a text, given those of its characters and the space after them
words_end : {seen bytes : List ℕ} {after : Bool} → AreWords seen bytes after
    → bytes ++ encode_utf8_all (with_single_spaces after (32 ∷ [])) ≡ encode_utf8_all (with_single_spaces true (seen ++ 32 ∷ []))
words_end {after = after} so_far =
    ap (λ b. b ++ encode_utf8_all (with_single_spaces after (32 ∷ []))) so_far.written
    ∙ sym (encodes-append so_far.done (with_single_spaces after (32 ∷ []))) ∙ ap encode_utf8_all (sym (so_far.more (32 ∷ [])))

-- at the end a space is written, unless there is one
pub words_ended : {seen bytes new : List ℕ} {after : Bool} → AreWords seen bytes after → after ≡ false → new ≡ bytes ++ encode_utf8 32
    → new ≡ encode_utf8_all (with_single_spaces true (seen ++ 32 ∷ []))
words_ended {bytes = bytes} so_far none pushed =
    pushed ∙ ap (λ t. bytes ++ t) (sym (append-nil (encode_utf8 32)))
    ∙ ap (λ a. bytes ++ encode_utf8_all (with_single_spaces a (32 ∷ []))) (sym none) ∙ words_end so_far

pub words_done : {seen bytes : List ℕ} {after : Bool} → AreWords seen bytes after → after ≡ true
    → bytes ≡ encode_utf8_all (with_single_spaces true (seen ++ 32 ∷ []))
words_done {bytes = bytes} so_far ended =
    sym (append-nil bytes) ∙ ap (λ a. bytes ++ encode_utf8_all (with_single_spaces a (32 ∷ []))) (sym ended) ∙ words_end so_far
