-- The bytes of a file and its byte order mark.
use Rattle.std.proofs.Common.{◌≡◌, ℕ, Bool, true, false, cond, List, [], ◌∷◌, ◌++◌, take, drop, refl, sym, ap, ◌∙◌, subst}
use lib.Utf8.{encode}
use Rattle.std.specs.Prelude.{nat_eq}
use Rattle.std.specs.Cmp.Lexicographic.{same_text}
use Rattle.std.specs.List.{starts_with}
use Rattle.std.specs.Str.{IsUtf8}
use Rattle.std.proofs.lemmas.List.{take-append-drop}
use Rattle.std.proofs.lemmas.Str.{IsUtf8-append}
use Rattle.bib_source.specs.Encoding.{byte_order_mark, without_byte_order_mark}

-- the byte order mark is UTF-8
mark_utf8 : IsUtf8 byte_order_mark
unfolding encode
mark_utf8 = (0xFEFF ∷ [], (refl, refl))

-- bytes are UTF-8 if they are UTF-8 after an optional byte order mark
pub whole_utf8 : (bytes : List ℕ) → IsUtf8 (without_byte_order_mark bytes) → IsUtf8 bytes
whole_utf8 bytes utf8 = by (starts_with nat_eq bytes byte_order_mark) refl utf8
  where
    by : (b : Bool) → starts_with nat_eq bytes byte_order_mark ≡ b → IsUtf8 (drop (cond b 3 0) bytes) → IsUtf8 bytes
    by true is rest =
        let mark : byte_order_mark ≡ take 3 bytes = same_text byte_order_mark (take 3 bytes) (sym is) in
        subst IsUtf8 (ap (λ m. m ++ drop 3 bytes) mark ∙ take-append-drop 3 bytes)
        (IsUtf8-append byte_order_mark (drop 3 bytes) mark_utf8 rest)
    by false is rest = rest
