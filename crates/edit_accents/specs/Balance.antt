-- Machinery: words of private contracts and of proofs.
-- Braces and quotes of characters and of signs, as the file grammar counts them. The first flag says whether the text is in quotes. There,
-- braces don't count. The second flag says whether a backslash escapes the first character.
use Rattle.std.specs.Prelude.{◌==◌, ◌&&◌, not, ℕ, suc, ◌-◌, Bool, true, false, cond, nat_lt, List, [], ◌∷◌}
use Rattle.bib_text.specs.Characters as char
use Rattle.edit_accents.specs.Accents.{is_beyond_ascii}
use Rattle.edit_accents.specs.declared.signs.Sign.{Sign}
use Rattle.edit_accents.specs.declared.signs.Sign.TheVariants.{Command, Opening, Closing, Plain, Composed, Grouped}
use Rattle.edit_accents.specs.declared.signs.Stretch.{Stretch}
use Rattle.edit_accents.specs.declared.signs.Stretch.TheVariants.{Text, Accent, Math, Address}

-- the number of open braces in an address or a key; an optional argument counts as one. 0 in other stretches
abbrev pub open_count : Stretch → ℕ
open_count Text = 0
open_count Accent = 0
open_count Math = 0
open_count (Address depth) = depth

-- the number of open braces after an opening brace, given the number before it
abbrev pub depth_opened : Bool → ℕ → ℕ
depth_opened true depth = depth
depth_opened false depth = suc depth

-- the number of open braces after a closing brace, given the number before it
abbrev pub depth_closed : Bool → ℕ → ℕ
depth_closed true depth = depth
depth_closed false depth = depth - 1

-- whether a closing brace may come: in quotes always, otherwise only if a brace is open
abbrev pub can_close : Bool → ℕ → Bool
can_close true depth = true
can_close false depth = nat_lt 0 depth

-- whether the unescaped braces of a text close this number of open braces, and all that the text opens. In quotes, whether this number is
-- 0, and the text has no unescaped quote. No unescaped backslash may be at the end
abbrev pub text_fits : Bool → Bool → ℕ → List ℕ → Bool
text_fits quoted is_escaped depth [] = not is_escaped && depth == 0
text_fits quoted true depth (c ∷ cs) = text_fits quoted false depth cs
text_fits quoted false depth (c ∷ cs) =
    cond (c == char.backslash) (text_fits quoted true depth cs)
    (cond (c == char.quote) (not quoted && text_fits quoted false depth cs)
    (cond (c == char.open_brace) (text_fits quoted false (depth_opened quoted depth) cs)
    (cond (c == char.close_brace) (can_close quoted depth && text_fits quoted false (depth_closed quoted depth) cs)
    (text_fits quoted false depth cs))))

-- whether a plain character is neither a brace nor, in quotes, a quote
abbrev pub is_neutral : Bool → ℕ → Bool
is_neutral quoted c = not (c == char.open_brace) && not (c == char.close_brace) && not (quoted && c == char.quote)

-- the condition `text_fits`, for signs; composed and grouped characters must be beyond ASCII
abbrev pub fit : Bool → Bool → ℕ → List Sign → Bool
fit quoted is_escaped depth [] = not is_escaped && depth == 0
fit quoted true depth (Plain c ∷ ss) = fit quoted false depth ss
fit quoted true depth (s ∷ ss) = false
fit quoted false depth (Command ∷ ss) = fit quoted true depth ss
fit quoted false depth (Opening ∷ ss) = fit quoted false (depth_opened quoted depth) ss
fit quoted false depth (Closing ∷ ss) = can_close quoted depth && fit quoted false (depth_closed quoted depth) ss
fit quoted false depth (Plain c ∷ ss) =
    cond (c == char.backslash) (fit quoted true depth ss) (is_neutral quoted c && fit quoted false depth ss)
fit quoted false depth (Composed c ∷ ss) = is_beyond_ascii c && fit quoted false depth ss
fit quoted false depth (Grouped c ∷ ss) = is_beyond_ascii c && fit quoted false depth ss
