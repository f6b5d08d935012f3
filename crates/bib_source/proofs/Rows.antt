-- Examples of the definitions, computed.
use Rattle.std.proofs.Common.{◌≡◌, ℕ, ◌-◌, List, [], ◌∷◌, ◌++◌, take, refl, subst, arith, lit≤, lit<}
use Rattle.std.specs.Prelude.{codes, encode_utf8, encode_utf8_all, map}
use Rattle.std.specs.List.{range_with_len}
use Rattle.std.specs.Str.{IsUtf8, is_utf8, chars}
use Rattle.std.proofs.lemmas.Bool.{false≢true}
use Rattle.std.proofs.lemmas.List.{take_all}
use Rattle.std.proofs.lemmas.Str.{IsUtf8-from_is_utf8, is_utf8-from_IsUtf8}
use Rattle.bib_source.specs.Encoding.{byte_order_mark, without_byte_order_mark, windows_1252, windows_1252_text, IsFirstInvalid}

-- the byte order mark is U+FEFF in UTF-8
mark_is_encoded : byte_order_mark ≡ encode_utf8 0xFEFF
unfolding lib.Utf8.encode
mark_is_encoded = refl

mark_before_text : without_byte_order_mark (byte_order_mark ++ codes "@misc") ≡ codes "@misc"
mark_before_text = refl

second_mark : without_byte_order_mark (byte_order_mark ++ byte_order_mark) ≡ byte_order_mark
second_mark = refl

mark_after_text : without_byte_order_mark (0x20 ∷ byte_order_mark) ≡ 0x20 ∷ byte_order_mark
mark_after_text = refl

-- the first two bytes of a mark are no mark
cut_mark : without_byte_order_mark (0xEF ∷ 0xBB ∷ []) ≡ 0xEF ∷ 0xBB ∷ []
cut_mark = refl

-- the 27 bytes that aren't the code point of their character
assigned : map windows_1252 (0x80 ∷ (range_with_len 0x82 11 ++ 0x8E ∷ (range_with_len 0x91 12 ++ 0x9E ∷ 0x9F ∷ [])))
    ≡ codes "€‚ƒ„…†‡ˆ‰Š‹ŒŽ‘’“”•–—˜™š›œžŸ"
unfolding windows_1252
assigned = refl

-- the other bytes from 80 to 9F keep their code point
not_assigned : map windows_1252 (0x81 ∷ 0x8D ∷ 0x8F ∷ 0x90 ∷ 0x9D ∷ []) ≡ 0x81 ∷ 0x8D ∷ 0x8F ∷ 0x90 ∷ 0x9D ∷ []
unfolding windows_1252
not_assigned = refl

-- so do the bytes below 80
below_the_table : map windows_1252 (range_with_len 0 0x80) ≡ range_with_len 0 0x80
unfolding windows_1252
below_the_table = refl

-- so do the bytes from A0 on
above_the_table : map windows_1252 (range_with_len 0xA0 0x60) ≡ range_with_len 0xA0 0x60
unfolding windows_1252
above_the_table = refl

mark_in_windows_1252 : windows_1252_text (byte_order_mark ++ 0x80 ∷ []) ≡ encode_utf8_all (codes "ï»¿€")
unfolding windows_1252 lib.Utf8.encode
mark_in_windows_1252 = refl

-- after a mark and one ASCII letter, the byte E9 is the first invalid one, at index 4
latin_after_mark : IsFirstInvalid (byte_order_mark ++ 0x61 ∷ 0xE9 ∷ []) 4
unfolding is_utf8 chars lib.Utf8.encode
latin_after_mark = record {
  after_mark = lit≤ tt;
  within = lit< tt;
  valid = IsUtf8-from_is_utf8 (0x61 ∷ []) refl;
  longest = λ end after utf8.
      let rest : List ℕ = 0x61 ∷ 0xE9 ∷ [] in
      let whole : take (end - 3) rest ≡ rest = take_all (end - 3) rest (omega arith) in
      false≢true (is_utf8-from_IsUtf8 rest (subst IsUtf8 whole utf8));
}
