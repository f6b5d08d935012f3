-- Names of tags and of character references.
use Rattle.std.proofs.Common.{◌≡◌, ℕ, ◌<◌, Bool, true, false, cond, List, [], ◌∷◌, refl, subst, sym, arith}
use Rattle.std.specs.List.{All, take_while}
use Rattle.std.specs.Str.{IsUtf8}
use Rattle.std.proofs.lemmas.Bool.Decides.{nat_tests}
use Rattle.std.proofs.lemmas.List.Elements.{All-nil, All-cons}
use Rattle.std.proofs.lemmas.List.Sums.{take_while-cons}
use Rattle.std.proofs.lemmas.Str.{IsUtf8-from_ascii}
use Rattle.std.proofs.lemmas.Str.Ascii.{IsAscii-from_all}
use Rattle.bib_findings.specs.Html.{is_html_name_byte}

-- a byte that may occur in a name is ASCII
name_byte_is_ascii : (b : ℕ) → is_html_name_byte b ≡ true → b < 128
name_byte_is_ascii b passes = grind (arith, nat_tests)

name_bytes_are_ascii : (bytes : List ℕ) → All (λ b. b < 128) (take_while is_html_name_byte bytes)
name_bytes_are_ascii [] = All-nil (λ b. b < 128)
name_bytes_are_ascii (b ∷ bytes) =
    subst (All (λ c. c < 128)) (sym (take_while-cons is_html_name_byte b bytes))
    (by (is_html_name_byte b) refl (name_bytes_are_ascii bytes))
  where
    by : (passes : Bool) → is_html_name_byte b ≡ passes → All (λ c. c < 128) (take_while is_html_name_byte bytes)
        → All (λ c. c < 128) (cond passes (b ∷ take_while is_html_name_byte bytes) [])
    by true passes rest = All-cons (λ c. c < 128) b (take_while is_html_name_byte bytes) (name_byte_is_ascii b passes) rest
    by false fails rest = All-nil (λ c. c < 128)

-- the bytes at the start that may occur in a name are UTF-8
pub name_is_utf8 : (bytes : List ℕ) → IsUtf8 (take_while is_html_name_byte bytes)
name_is_utf8 bytes =
    let name : List ℕ = take_while is_html_name_byte bytes in IsUtf8-from_ascii name (IsAscii-from_all name (name_bytes_are_ascii bytes))
