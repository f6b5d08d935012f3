-- The table of Windows-1252 has no character twice.
use Rattle.std.proofs.Common.{◌≡◌, ℕ, ◌<◌, Bool, true, List, [], ◌∷◌, refl, sym, ap, ◌∙◌, arith, get_or, length, ⊎_elim}
use Rattle.std.specs.Prelude.{◌==◌, map}
use Rattle.std.specs.Option.{unwrap_or}
use Rattle.std.specs.List.{AllByRecursion, find, list_all, range_with_len}
use Rattle.std.proofs.lemmas.Bool.{eqb-true, both_ways, cases_Bool}
use Rattle.std.proofs.lemmas.List.Folds.{list_all_at}
use Rattle.std.proofs.lemmas.Str.{encodes_same}
use Rattle.std.proofs.lemmas.List.FromFn.{get_or-range_with_len, length-range_with_len}
use Rattle.bib_source.specs.Encoding.{windows_1252, windows_1252_text}

-- all bytes
abbrev bytes : List ℕ
bytes = range_with_len 0 256

-- the first byte with the character; 0 if there is none
byte_of : ℕ → ℕ
byte_of c = unwrap_or (find (λ b. windows_1252 b == c) bytes) 0

-- whether a byte is the first one that decodes to its character
abbrev is_own : ℕ → Bool
is_own b = byte_of (windows_1252 b) == b

-- each byte is the first with its character, so no two have the same
table : list_all is_own bytes ≡ true
unfolding byte_of windows_1252
table = refl

read_back : (b : ℕ) → b < 256 → byte_of (windows_1252 b) ≡ b
read_back b below =
    let here : get_or bytes b 0 ≡ b = get_or-range_with_len 0 256 b 0 below ∙ omega arith in
    let within : b < length bytes = omega (arith, length-range_with_len 0 256) in
    ⊎_elim
    (λ passes. eqb-true _ _ passes)
    (λ fails. absurd (both_ways _ (list_all_at is_own bytes b 0 within (ap is_own here ∙ fails)) table))
    (cases_Bool (is_own b))

-- bytes with the same character are the same
pub own_character : (b d : ℕ) → b < 256 → d < 256 → windows_1252 b ≡ windows_1252 d → b ≡ d
own_character b d b_below d_below same = sym (read_back b b_below) ∙ ap byte_of same ∙ read_back d d_below

own_characters : (bs ds : List ℕ) → AllByRecursion (λ b. b < 256) bs → AllByRecursion (λ b. b < 256) ds
    → map windows_1252 bs ≡ map windows_1252 ds → bs ≡ ds
own_characters [] [] bs_below ds_below same = refl
own_characters [] (d ∷ ds) bs_below ds_below same = absurd (cc)
own_characters (b ∷ bs) [] bs_below ds_below same = absurd (cc)
own_characters (b ∷ bs) (d ∷ ds) bs_below ds_below same =
    let first_same : windows_1252 b ≡ windows_1252 d = cc in
    let rest_same : map windows_1252 bs ≡ map windows_1252 ds = cc in
    let first = own_character b d bs_below.0 ds_below.0 first_same in
    let others = own_characters bs ds bs_below.1 ds_below.1 rest_same in
    cc

-- files with the same text in Windows-1252 are the same
pub own_text : (bs ds : List ℕ) → AllByRecursion (λ b. b < 256) bs → AllByRecursion (λ b. b < 256) ds
    → windows_1252_text bs ≡ windows_1252_text ds → bs ≡ ds
own_text bs ds bs_below ds_below same = own_characters bs ds bs_below ds_below (encodes_same _ _ same)
