-- Facts about written texts.
use Rattle.std.proofs.Common.{◌≡◌, ℕ, ◌+◌, ◌<◌, Bool, true, false, cond, ◌||◌, List, [], ◌∷◌, ◌++◌, length, get_or, drop, refl, sym, ap, ◌∙◌, not}
use Rattle.std.specs.Prelude.{encode_utf8_all, codes, nat_eq}
use Rattle.std.specs.Str.{chars, IsUtf8}
use lib.Utf8.{encode}
use Rattle.std.proofs.lemmas.Bool.{false≢true, eq-eqb, ne_eqb}
use Rattle.std.proofs.lemmas.List.Concat.{flat_map-append}
use Rattle.bib_text.specs.Places.{Place, CharAt, Run, AtEnd, between}
use Rattle.std.proofs.lemmas.List.{drop_more}
use Rattle.bib_chunks.specs.declared.chunk.Chunk.{Chunk}
use Rattle.bib_chunks.specs.declared.chunk.Chunk.TheVariants.{Normal, Verbatim, Math}
use Rattle.bib_text.specs.declared.spanned.Spanned.{Spanned}
use Rattle.bib_chunks.specs.Written.{is_grouping, is_reserved, char_spelling, spelling, lead, trail, is_open_after, written_chunk, written_chunks}
use Rattle.bib_chunks.specs.Writing.{is_bare}
use Rattle.bib_text.proofs.TextFacts.{ahead, MovesPast, passed_char, passed_run, passed_between, flat_map_same, written_more, written_all, chars_at_end, three_parts}

-- how a character is written, in each of the cases of `char_spelling`
pub spelled_grouping : (v : Bool) (c : ℕ) → is_grouping c ≡ true → char_spelling v c ≡ 92 ∷ c ∷ []
unfolding char_spelling
spelled_grouping v c grouping = rw grouping refl

pub spelled_verbatim : (v : Bool) (c : ℕ) → is_grouping c ≡ false → v ≡ true → char_spelling v c ≡ c ∷ []
unfolding char_spelling
spelled_verbatim v c other verbatim = rw (other, verbatim) refl

pub spelled_reserved : (v : Bool) (c : ℕ) → is_grouping c ≡ false → v ≡ false → is_reserved c ≡ true → char_spelling v c ≡ 92 ∷ c ∷ []
unfolding char_spelling
spelled_reserved v c other normal reserved = rw (other, normal, reserved) refl

pub spelled_tilde : (v : Bool) (c : ℕ) → is_grouping c ≡ false → v ≡ false → is_reserved c ≡ false → c ≡ 126
    → char_spelling v c ≡ codes "\\textasciitilde{}"
unfolding char_spelling
spelled_tilde v c other normal free tilde = rw (other, normal, free, eq-eqb c 126 tilde) refl

pub spelled_circumflex : (v : Bool) (c : ℕ) → is_grouping c ≡ false → v ≡ false → is_reserved c ≡ false → (c ≡ 126 → ⊥)
    → c ≡ 94 → char_spelling v c ≡ codes "\\textasciicircum{}"
unfolding char_spelling
spelled_circumflex v c other normal free no_tilde circumflex = rw (other, normal, free, ne_eqb c 126 no_tilde, eq-eqb c 94 circumflex) refl

pub spelled_other : (v : Bool) (c : ℕ) → is_grouping c ≡ false → v ≡ false → is_reserved c ≡ false → (c ≡ 126 → ⊥)
    → (c ≡ 94 → ⊥) → char_spelling v c ≡ c ∷ []
unfolding char_spelling
spelled_other v c other normal free no_tilde no_circumflex = rw (other, normal, free, ne_eqb c 126 no_tilde, ne_eqb c 94 no_circumflex) refl

-- a bare character is written unchanged, by the results of the tests of `char_spelling`
bare_cases : (v grouping reserved tilde circumflex : Bool) (c : ℕ)
    → cond grouping false (cond v true (not (reserved || tilde || circumflex))) ≡ true
    → cond grouping (92 ∷ c ∷ [])
    (cond v (c ∷ [])
    (cond reserved (92 ∷ c ∷ [])
    (cond tilde (codes "\\textasciitilde{}") (cond circumflex (codes "\\textasciicircum{}") (c ∷ [])))))
    ≡ c ∷ []
bare_cases v true reserved tilde circumflex c bare = absurd (false≢true bare)
bare_cases true false reserved tilde circumflex c bare = refl
bare_cases false false true tilde circumflex c bare = absurd (false≢true bare)
bare_cases false false false true circumflex c bare = absurd (false≢true bare)
bare_cases false false false false true c bare = absurd (false≢true bare)
bare_cases false false false false false c bare = refl

-- a bare character is written unchanged
pub spelled_bare : (v : Bool) (c : ℕ) → is_bare v c ≡ true → char_spelling v c ≡ c ∷ []
unfolding is_bare char_spelling
spelled_bare v c bare = bare_cases v (is_grouping c) (is_reserved c) (nat_eq c 126) (nat_eq c 94) c bare

-- the two commands are ASCII
pub tilde_bytes : codes "\\textasciitilde{}" ≡ encode_utf8_all (codes "\\textasciitilde{}")
unfolding encode
tilde_bytes = refl

pub circumflex_bytes : codes "\\textasciicircum{}" ≡ encode_utf8_all (codes "\\textasciicircum{}")
unfolding encode
circumflex_bytes = refl

-- a run of bare characters of UTF-8 text was written, and then one character
pub written_run_char : (out one two total : List ℕ) {u w x : Place} {c : ℕ} (v : Bool) → Run (is_bare v) u w
    → IsUtf8 (ahead u) → CharAt w c x
    → one ≡ out ++ between u w → two ≡ one ++ encode_utf8_all (char_spelling v c)
    → out ++ encode_utf8_all (spelling v (chars (ahead u))) ≡ total
    → (x.text ≡ u.text) × IsUtf8 (ahead x) × (two ++ encode_utf8_all (spelling v (chars (ahead x))) ≡ total)
written_run_char out one two total {u} {w} {x} {c} v run utf8 char first second before =
    let (cs, passed, all) = passed_run run utf8 in
    let following : MovesPast w (c ∷ []) x = passed_char char passed.utf8 in
    let run_spelling : spelling v cs ≡ cs = flat_map_same (is_bare v) (char_spelling v) (spelled_bare v) cs all in
    let cut : spelling v (chars (ahead u)) ≡ cs ++ spelling v (chars (ahead w)) =
    ap (spelling v) passed.spelt ∙ flat_map-append (char_spelling v) cs _
    ∙ ap (λ xs. xs ++ spelling v (chars (ahead w))) run_spelling in
    let after : one ++ encode_utf8_all (spelling v (chars (ahead w))) ≡ total =
    written_more out one total cs _ _ (first ∙ ap (λ bs. out ++ bs) (passed_between passed)) cut before in (
      following.same ∙ passed.same,
      following.utf8,
      written_more one two total (char_spelling v c) _ _ second (ap (spelling v) following.spelt) after,
    )

-- a run of bare characters of UTF-8 text was written, and the text ends
pub written_run_end : (out one total : List ℕ) {u w : Place} (v : Bool) → Run (is_bare v) u w → IsUtf8 (ahead u) → AtEnd w
    → one ≡ out ++ between u w
    → out ++ encode_utf8_all (spelling v (chars (ahead u))) ≡ total
    → one ≡ total
written_run_end out one total {u} {w} v run utf8 end first before =
    let (cs, passed, all) = passed_run run utf8 in
    let run_spelling : spelling v cs ≡ cs = flat_map_same (is_bare v) (char_spelling v) (spelled_bare v) cs all in
    let cut : spelling v (chars (ahead u)) ≡ cs ++ spelling v (chars (ahead w)) =
    ap (spelling v) passed.spelt ∙ flat_map-append (char_spelling v) cs _
    ∙ ap (λ xs. xs ++ spelling v (chars (ahead w))) run_spelling in
    let after : one ++ encode_utf8_all (spelling v (chars (ahead w))) ≡ total =
    written_more out one total cs _ _ (first ∙ ap (λ bs. out ++ bs) (passed_between passed)) cut before in
    written_all one total (spelling v (chars (ahead w))) (ap (spelling v) (chars_at_end w end)) after

-- math outside verbatim fields is written as its characters
pub written_math : (v : Bool) (chunk : Chunk) (text bytes : List ℕ) → v ≡ false → chunk ≡ Math text → bytes ≡ text
    → written_chunk chunk v ≡ chars bytes
written_math v chunk text bytes normal is same =
    ap (λ b. written_chunk chunk b) normal ∙ ap (λ x. written_chunk x false) is ∙ ap chars (sym same)

-- the texts before and after a chunk are ASCII
pub lead_bytes : (o : Bool) (chunk : Chunk) → lead o chunk ≡ encode_utf8_all (lead o chunk)
unfolding encode
lead_bytes true (Normal text) = refl
lead_bytes false (Normal text) = refl
lead_bytes true (Verbatim text) = refl
lead_bytes false (Verbatim text) = refl
lead_bytes o (Math text) = refl

pub trail_bytes : (chunk : Chunk) → trail chunk ≡ encode_utf8_all (trail chunk)
unfolding encode
trail_bytes (Normal text) = refl
trail_bytes (Verbatim text) = refl
trail_bytes (Math text) = refl

-- one chunk of a value was written
pub written_part : (v o following : Bool) (chunks : List (Spanned Chunk)) (i : ℕ) (x : Spanned Chunk)
    (out more total : List ℕ) → i < length chunks → x ≡ get_or chunks i x
    → more ≡ out ++ encode_utf8_all (lead o x.v ++ written_chunk x.v v ++ trail x.v) → following ≡ is_open_after o x.v
    → out ++ encode_utf8_all (written_chunks v o (drop i chunks)) ≡ total
    → more ++ encode_utf8_all (written_chunks v following (drop (i + 1) chunks)) ≡ total
written_part v o following chunks i x out more total within is written closes before =
    let split : drop i chunks ≡ x ∷ drop (i + 1) chunks = drop_more chunks i x within ∙ ap (λ y. y ∷ drop (i + 1) chunks) (sym is) in
    let part = lead o x.v ++ written_chunk x.v v ++ trail x.v in
    let cut : written_chunks v o (drop i chunks) ≡ part ++ written_chunks v following (drop (i + 1) chunks) =
    ap (written_chunks v o) split ∙ ap (λ b. part ++ written_chunks v b (drop (i + 1) chunks)) (sym closes) in
    written_more out more total part _ _ written cut before
