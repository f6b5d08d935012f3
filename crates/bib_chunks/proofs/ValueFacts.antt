-- Facts about single chunks and their texts.
use Rattle.std.proofs.Common.{◌≡◌, ℕ, Bool, true, false, ◌&&◌, List, [], ◌∷◌, refl, sym, ap, ◌∙◌, arith, append-nil, nat_lt, zero, suc}
use Rattle.std.specs.Prelude.{encode_utf8_all, Some}
use Rattle.std.specs.List.{list_all}
use Rattle.std.specs.Str.{chars, IsUtf8, IsAscii}
use Rattle.std.proofs.lemmas.Str.{encodes-chars, chars-IsAscii, encodes-IsAscii}
use Rattle.std.proofs.lemmas.Bool.{and_parts}
use Rattle.std.proofs.lemmas.Bool.Decides.{nat_tests}
use Rattle.bib_chunks.specs.declared.chunk.Chunk.TheVariants.{Normal, Verbatim}
use Rattle.bib_chunks.specs.Formatted.{flowing, is_unbroken}
use Rattle.bib_chunks.proofs.FormattedFacts.{flowing_run}
use Rattle.bib_chunks.specs.Values.{text, alone}

-- a verbatim chunk of UTF-8 text formats to its text
pub verbatim_text : (t : List ℕ) → IsUtf8 t → text (alone (Verbatim t)) ≡ t
verbatim_text t utf8 = ap encode_utf8_all (append-nil (chars t)) ∙ encodes-chars t utf8

-- whether a byte is ASCII and not a line break
abbrev pub is_simple : ℕ → Bool
is_simple b = nat_lt b 128 && is_unbroken b

pub simple_ascii : (t : List ℕ) → list_all is_simple t ≡ true → IsAscii t
simple_ascii [] all k = omega arith
simple_ascii (b ∷ t) all zero =
    let parts = and_parts (is_simple b) (list_all is_simple t) all in
    let small : nat_lt b 128 ≡ true = (and_parts (nat_lt b 128) (is_unbroken b) parts.0).0 in
    grind (arith, nat_tests)
simple_ascii (b ∷ t) all (suc k) = simple_ascii t (and_parts (is_simple b) (list_all is_simple t) all).1 k

-- simple bytes are no line breaks
simple_goes : (t : List ℕ) → list_all is_simple t ≡ true → list_all is_unbroken t ≡ true
simple_goes [] all = refl
simple_goes (b ∷ t) all =
    let parts = and_parts (is_simple b) (list_all is_simple t) all in
    let both = and_parts (nat_lt b 128) (is_unbroken b) parts.0 in
    rw both.1 (simple_goes t parts.1)

-- a text without line breaks is unchanged on one line
pub flowing_whole : (space : Bool) (cs : List ℕ) → list_all is_unbroken cs ≡ true → flowing space cs ≡ cs
flowing_whole space cs all = ap (flowing space) (sym (append-nil cs)) ∙ flowing_run space cs [] all ∙ append-nil cs

-- a normal chunk of such bytes formats to its text
pub simple_text : (t : List ℕ) → list_all is_simple t ≡ true → text (alone (Normal t)) ≡ t
simple_text t all =
    let ascii : IsAscii t = simple_ascii t all in
    let whole : chars t ≡ t = chars-IsAscii t ascii in
    ap encode_utf8_all
    (append-nil (flowing false (chars t)) ∙ ap (flowing false) whole ∙ flowing_whole false t (simple_goes t all))
    ∙ encodes-IsAscii t ascii

-- the formatted text of a verbatim chunk is the UTF-8 text that it was made of
pub string_survives : (t : List ℕ) → IsUtf8 t → Some (text (alone (Verbatim t))) ≡ Some t
string_survives t utf8 = ap (λ x. Some x) (verbatim_text t utf8)
