-- Facts about formatted texts.
use Rattle.std.proofs.Common.{◌≡◌, ℕ, ◌+◌, ◌<◌, Bool, true, false, cond, not, List, [], ◌∷◌, ◌++◌, length, get_or, drop, refl, sym, ap, ◌∙◌, arith, Option, None, Some}
use Rattle.std.specs.Prelude.{encode_utf8, encode_utf8_all, option_to_list}
use Rattle.std.specs.Char.{is_whitespace}
use Rattle.std.specs.List.{list_all, flat_map}
use Rattle.std.specs.Char.Unicode.ToLowercase.{to_lowercase}
use Rattle.std.specs.Str.{chars, IsUtf8}
use Rattle.std.proofs.lemmas.Bool.{cond-true, cond-false, not-true, not-false, and_parts}
use Rattle.std.proofs.lemmas.List.{drop_more, append-nil}
use Rattle.std.proofs.lemmas.Str.{chars_past_char, encodes-chars, chars-nil}
use Rattle.bib_chunks.specs.declared.chunk.Chunk.{Chunk}
use Rattle.bib_chunks.specs.declared.chunk.Chunk.TheVariants.{Verbatim}
use Rattle.bib_text.specs.declared.spanned.Spanned.{Spanned}
use Rattle.bib_text.specs.Places.{Place, CharAt, Run, Longest, AtEnd, between}
use Rattle.bib_chunks.specs.Formatted.{is_break, ends_in_space, char_on_line, flowing, space_after, formatted_chunk, formatted_chars_after, upper_or_lower, sentence_case, sentence_after, is_unbroken}
use Rattle.bib_text.proofs.TextFacts.{ahead, MovesPast, passed_char, passed_run, passed_between, written_more, written_all, chars_at_end, chars_past, chars_whole}

-- the replacement of a line break
abbrev pub gap : Bool → List ℕ
gap space = cond space [] (32 ∷ [])

-- appended texts end in white space if the second one does; if it is empty, the first one decides
pub ends-append : (empty : Bool) (xs ys : List ℕ) → ends_in_space empty (xs ++ ys) ≡ ends_in_space (ends_in_space empty xs) ys
ends-append empty [] ys = refl
ends-append empty (x ∷ xs) ys = ends-append (is_whitespace x) xs ys

-- the last character of a UTF-8 text decides whether the text ends in white space
pub ends_at_char : (empty answer : Bool) (bs leading_run : List ℕ) (c : ℕ) → IsUtf8 bs → IsUtf8 leading_run
    → bs ≡ leading_run ++ encode_utf8 c → answer ≡ is_whitespace c → answer ≡ ends_in_space empty (chars bs)
ends_at_char empty answer bs leading_run c utf8 prefix_utf8 ends decides =
    let past =
    chars_past (chars leading_run) bs (encode_utf8 c) utf8
    (ends ∙ ap (λ xs. xs ++ encode_utf8 c) (sym (encodes-chars leading_run prefix_utf8))) in
    let one : chars (encode_utf8 c) ≡ c ∷ [] =
    chars_past_char (encode_utf8 c) [] c past.1 (sym (append-nil _)) ∙ ap (λ xs. c ∷ xs) chars-nil in
    decides
    ∙ sym
    (ap (ends_in_space empty) (past.0 ∙ ap (λ xs. chars leading_run ++ xs) one)
    ∙ ends-append empty (chars leading_run) (c ∷ []))

-- for a text without bytes, `ends_in_space` is its default
pub ends_of_none : (empty : Bool) (bs : List ℕ) → length bs ≡ 0 → empty ≡ ends_in_space empty (chars bs)
ends_of_none empty [] none = sym (ap (ends_in_space empty) chars-nil)
ends_of_none empty (b ∷ bs) none = absurd (omega arith)

-- a run without line breaks is unchanged
pub flowing_run : (space : Bool) (cs rest : List ℕ) → list_all is_unbroken cs ≡ true
    → flowing space (cs ++ rest) ≡ cs ++ flowing (ends_in_space space cs) rest
flowing_run space [] rest all = refl
flowing_run space (c ∷ cs) rest all =
    let parts = and_parts (is_unbroken c) (list_all is_unbroken cs) all in
    let stays : char_on_line space c ≡ c ∷ [] = cond-false (is_break c) _ _ (not-true (is_break c) parts.0) in
    ap (λ xs. xs ++ flowing (ends_in_space space xs) (cs ++ rest)) stays ∙ ap (λ xs. c ∷ xs) (flowing_run (is_whitespace c) cs rest parts.1)

-- after the replacement of a line break, the last character is white space
gap_ends : (space : Bool) → ends_in_space space (gap space) ≡ true
gap_ends true = refl
gap_ends false = refl

-- a line break is replaced, and the character before the next one is white space
pub flowing_break : (space : Bool) (c : ℕ) (rest : List ℕ) → is_break c ≡ true → flowing space (c ∷ rest) ≡ gap space ++ flowing true rest
flowing_break space c rest breaks =
    let becomes : char_on_line space c ≡ gap space = cond-true (is_break c) _ _ breaks in
    ap (λ xs. xs ++ flowing (ends_in_space space xs) rest) becomes ∙ ap (λ b. gap space ++ flowing b rest) (gap_ends space)

-- a run of UTF-8 text was written
run_written : (out one total run : List ℕ) {u w : Place} (space after ends : Bool) → Run is_unbroken u w → IsUtf8 (ahead u)
    → IsUtf8 run → run ≡ between u w
    → one ≡ out ++ run → after ≡ ends_in_space space (chars run)
    → out ++ encode_utf8_all (flowing space (chars (ahead u))) ≡ total → ends_in_space space (flowing space (chars (ahead u))) ≡ ends
    → (w.text ≡ u.text) × IsUtf8 (ahead w) × (one ++ encode_utf8_all (flowing after (chars (ahead w))) ≡ total)
    × (ends_in_space after (flowing after (chars (ahead w))) ≡ ends)
run_written out one total run {u} {w} space after ends runs utf8 run_utf8 is_run first decides before before_ends =
    let (cs, passed, all) = passed_run runs utf8 in
    let spells : run ≡ encode_utf8_all cs = is_run ∙ passed_between passed in
    let state : after ≡ ends_in_space space cs = decides ∙ ap (ends_in_space space) (chars_whole cs run run_utf8 spells) in
    let cut : flowing space (chars (ahead u)) ≡ cs ++ flowing after (chars (ahead w)) =
    ap (flowing space) passed.spelt ∙ flowing_run space cs (chars (ahead w)) all
    ∙ ap (λ b. cs ++ flowing b (chars (ahead w))) (sym state) in (
      passed.same,
      passed.utf8,
      written_more out one total cs _ _ (first ∙ ap (λ bs. out ++ bs) spells) cut before,
      ap (λ b. ends_in_space b (flowing after (chars (ahead w)))) state
          ∙ sym (ends-append space cs (flowing after (chars (ahead w)))) ∙ ap (ends_in_space space) (sym cut)
          ∙ before_ends,
    )

-- a run of UTF-8 text was written, and then the replacement of a line break
pub flowing_step : (out one two total run : List ℕ) {u w x : Place} {c : ℕ} (space after ends : Bool)
    → Longest is_unbroken u w → IsUtf8 (ahead u) → IsUtf8 run → run ≡ between u w → CharAt w c x
    → one ≡ out ++ run → after ≡ ends_in_space space (chars run) → two ≡ one ++ encode_utf8_all (gap after)
    → out ++ encode_utf8_all (flowing space (chars (ahead u))) ≡ total → ends_in_space space (flowing space (chars (ahead u))) ≡ ends
    → (x.text ≡ u.text) × IsUtf8 (ahead x) × (two ++ encode_utf8_all (flowing true (chars (ahead x))) ≡ total)
    × (ends_in_space true (flowing true (chars (ahead x))) ≡ ends)
flowing_step out one two total run {u} {w} {x} {c} space after ends longest utf8 run_utf8 is_run char first decides
    second before before_ends =
    let (same, w_utf8, middle, middle_ends) =
    run_written out one total run space after ends longest.run utf8 run_utf8 is_run first decides before before_ends in
    let passed : MovesPast w (c ∷ []) x = passed_char char w_utf8 in
    let breaks : is_break c ≡ true = not-false (is_break c) (longest.stops c x char) in
    let cut : flowing after (chars (ahead w)) ≡ gap after ++ flowing true (chars (ahead x)) =
    ap (flowing after) passed.spelt ∙ flowing_break after c (chars (ahead x)) breaks in (
      passed.same ∙ same,
      passed.utf8,
      written_more one two total (gap after) _ _ second cut middle,
      ap (λ b. ends_in_space b (flowing true (chars (ahead x)))) (sym (gap_ends after))
          ∙ sym (ends-append after (gap after) (flowing true (chars (ahead x)))) ∙ ap (ends_in_space after) (sym cut)
          ∙ middle_ends,
    )

-- a run of UTF-8 text was written, and the text ends
pub flowing_end : (out one total run : List ℕ) {u w : Place} (space after ends : Bool) → Longest is_unbroken u w
    → IsUtf8 (ahead u) → IsUtf8 run → run ≡ between u w → AtEnd w
    → one ≡ out ++ run → after ≡ ends_in_space space (chars run)
    → out ++ encode_utf8_all (flowing space (chars (ahead u))) ≡ total → ends_in_space space (flowing space (chars (ahead u))) ≡ ends
    → (one ≡ total) × (after ≡ ends)
flowing_end out one total run {u} {w} space after ends longest utf8 run_utf8 is_run end first decides before before_ends =
    let (same, w_utf8, middle, middle_ends) =
    run_written out one total run space after ends longest.run utf8 run_utf8 is_run first decides before before_ends in
    let nothing : flowing after (chars (ahead w)) ≡ [] = ap (flowing after) (chars_at_end w end) in
    (written_all one total (flowing after (chars (ahead w))) nothing middle, sym (ap (ends_in_space after) nothing) ∙ middle_ends)

-- a verbatim chunk was written
pub formatted_verbatim : (recased : List ℕ → List ℕ) (space : Bool) (chunk : Chunk) (text bytes : List ℕ)
    → chunk ≡ Verbatim text → bytes ≡ text → bytes ≡ encode_utf8_all (chars bytes)
    → bytes ≡ encode_utf8_all (formatted_chunk recased space chunk)
formatted_verbatim recased space chunk text bytes is same spells =
    spells ∙ ap (λ t. encode_utf8_all (chars t)) same
    ∙ ap (λ x. encode_utf8_all (formatted_chunk recased space x)) (sym is)

-- one chunk was written
pub formatted_part : (space following : Bool) (chunks : List (Spanned Chunk)) (i : ℕ) (x : Spanned Chunk)
    (out more total : List ℕ) → i < length chunks → x ≡ get_or chunks i x
    → more ≡ out ++ encode_utf8_all (formatted_chunk (λ cs. cs) space x.v) → following ≡ space_after space x.v
    → out ++ encode_utf8_all (formatted_chars_after space (drop i chunks)) ≡ total
    → more ++ encode_utf8_all (formatted_chars_after following (drop (i + 1) chunks)) ≡ total
formatted_part space following chunks i x out more total within is written decides before =
    let split : drop i chunks ≡ x ∷ drop (i + 1) chunks = drop_more chunks i x within ∙ ap (λ y. y ∷ drop (i + 1) chunks) (sym is) in
    let part = formatted_chunk (λ cs. cs) space x.v in
    let cut : formatted_chars_after space (drop i chunks) ≡ part ++ formatted_chars_after following (drop (i + 1) chunks) =
    ap (formatted_chars_after space) split ∙ ap (λ b. part ++ formatted_chars_after b (drop (i + 1) chunks)) (sym decides) in
    written_more out more total part _ _ written cut before

-- a text that doesn't begin a sentence is in lower case, character by character
goes_lower : (cs : List ℕ) → flat_map to_lowercase cs ≡ sentence_case false cs
goes_lower [] = refl
goes_lower (c ∷ cs) = refl

-- a character of UTF-8 text was consumed that is replaced by nothing
pub sentence_skip : (out total : List ℕ) {u x : Place} {c : ℕ} (first space ends : Bool) (r : Option ℕ) → CharAt u c x
    → IsUtf8 (ahead u) → r ≡ None → option_to_list r ≡ char_on_line space c
    → out ++ encode_utf8_all (sentence_case first (flowing space (chars (ahead u)))) ≡ total
    → ends_in_space space (flowing space (chars (ahead u))) ≡ ends
    → (x.text ≡ u.text) × IsUtf8 (ahead x)
    × (out ++ encode_utf8_all (sentence_case first (flowing space (chars (ahead x)))) ≡ total)
    × (ends_in_space space (flowing space (chars (ahead x))) ≡ ends)
sentence_skip out total {u} {x} {c} first space ends r char utf8 none becomes before before_ends =
    let passed : MovesPast u (c ∷ []) x = passed_char char utf8 in
    let nothing : char_on_line space c ≡ [] = sym becomes ∙ ap option_to_list none in
    let same : flowing space (chars (ahead u)) ≡ flowing space (chars (ahead x)) =
    ap (flowing space) passed.spelt ∙ ap (λ ys. ys ++ flowing (ends_in_space space ys) (chars (ahead x))) nothing in (
      passed.same,
      passed.utf8,
      ap (λ ys. out ++ encode_utf8_all (sentence_case first ys)) (sym same) ∙ before,
      ap (ends_in_space space) (sym same) ∙ before_ends,
    )

-- a character of UTF-8 text was consumed, and its replacement was written
pub sentence_step : (out more total : List ℕ) {u x : Place} {c : ℕ} (d : ℕ) (first space after ends : Bool)
    (r : Option ℕ) → CharAt u c x → IsUtf8 (ahead u) → r ≡ Some d → option_to_list r ≡ char_on_line space c
    → more ≡ out ++ encode_utf8_all (upper_or_lower first d) → after ≡ is_whitespace d
    → out ++ encode_utf8_all (sentence_case first (flowing space (chars (ahead u)))) ≡ total
    → ends_in_space space (flowing space (chars (ahead u))) ≡ ends
    → (x.text ≡ u.text) × IsUtf8 (ahead x)
    × (more ++ encode_utf8_all (sentence_case false (flowing after (chars (ahead x)))) ≡ total)
    × (ends_in_space after (flowing after (chars (ahead x))) ≡ ends)
sentence_step out more total {u} {x} {c} d first space after ends r char utf8 some becomes written decides before before_ends =
    let passed : MovesPast u (c ∷ []) x = passed_char char utf8 in
    let one : char_on_line space c ≡ d ∷ [] = sym becomes ∙ ap option_to_list some in
    let cut : flowing space (chars (ahead u)) ≡ d ∷ flowing after (chars (ahead x)) =
    ap (flowing space) passed.spelt ∙ ap (λ ys. ys ++ flowing (ends_in_space space ys) (chars (ahead x))) one
    ∙ ap (λ b. d ∷ flowing b (chars (ahead x))) (sym decides) in
    let cased_cut : sentence_case first (flowing space (chars (ahead u)))
    ≡ upper_or_lower first d ++ sentence_case false (flowing after (chars (ahead x))) =
    ap (sentence_case first) cut ∙ ap (λ ys. upper_or_lower first d ++ ys) (goes_lower (flowing after (chars (ahead x)))) in (
      passed.same,
      passed.utf8,
      written_more out more total (upper_or_lower first d) _ _ written cased_cut before,
      ap (λ b. ends_in_space b (flowing after (chars (ahead x)))) decides ∙ sym (ap (ends_in_space space) cut) ∙ before_ends,
    )

-- the text ends
pub sentence_end : (out total : List ℕ) (u : Place) (first space ends : Bool) → AtEnd u
    → out ++ encode_utf8_all (sentence_case first (flowing space (chars (ahead u)))) ≡ total
    → ends_in_space space (flowing space (chars (ahead u))) ≡ ends
    → (out ≡ total) × (space ≡ ends)
sentence_end out total u first space ends end before before_ends =
    let nothing : chars (ahead u) ≡ [] = chars_at_end u end in (
      written_all out total (sentence_case first (flowing space (chars (ahead u))))
          (ap (λ cs. sentence_case first (flowing space cs)) nothing) before,
      sym (ap (λ cs. ends_in_space space (flowing space cs)) nothing) ∙ before_ends,
    )

-- one chunk of a sentence was written
pub sentence_part : (begins space following : Bool) (chunks : List (Spanned Chunk)) (i : ℕ) (x : Spanned Chunk)
    (out more total : List ℕ) → i < length chunks → x ≡ get_or chunks i x
    → more ≡ out ++ encode_utf8_all (formatted_chunk (sentence_case begins) space x.v) → following ≡ space_after space x.v
    → out ++ encode_utf8_all (sentence_after begins space (drop i chunks)) ≡ total
    → more ++ encode_utf8_all (sentence_after false following (drop (i + 1) chunks)) ≡ total
sentence_part begins space following chunks i x out more total within is written decides before =
    let split : drop i chunks ≡ x ∷ drop (i + 1) chunks = drop_more chunks i x within ∙ ap (λ y. y ∷ drop (i + 1) chunks) (sym is) in
    let part = formatted_chunk (sentence_case begins) space x.v in
    let cut : sentence_after begins space (drop i chunks) ≡ part ++ sentence_after false following (drop (i + 1) chunks) =
    ap (sentence_after begins space) split
    ∙ ap (λ b. part ++ sentence_after false b (drop (i + 1) chunks)) (sym decides) in
    written_more out more total part _ _ written cut before
