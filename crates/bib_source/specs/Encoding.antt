-- Meaning: words of public contracts.
-- UTF-8 with its byte order mark, as Unicode defines them, and Windows-1252, as the WHATWG Encoding Standard defines it.
use Rattle.std.specs.Prelude.{ℕ, ◌<◌, ◌≤◌, List, [], ◌∷◌, length, drop, map, slice_range, nat_eq, encode_utf8_all, if◌then◌else◌, ◌==◌}
use Rattle.std.specs.List.{starts_with}
use Rattle.std.specs.Str.{IsUtf8}

-- the byte order mark U+FEFF in UTF-8
abbrev pub byte_order_mark : List ℕ
byte_order_mark = 0xEF ∷ 0xBB ∷ 0xBF ∷ []

-- the length in bytes of the UTF-8 byte order mark at the start of a file; 0 if it has none
abbrev pub mark_length : List ℕ → ℕ
mark_length bytes = if starts_with nat_eq bytes byte_order_mark then length byte_order_mark else 0

-- the bytes of a file after its UTF-8 byte order mark; all bytes if it has none
abbrev pub without_byte_order_mark : List ℕ → List ℕ
without_byte_order_mark bytes = drop (mark_length bytes) bytes

-- The byte at `index` is the first invalid one of a file. The bytes after the UTF-8 mark and before `index` are UTF-8,
-- and no longer part after the mark is. The bytes of the mark are counted in `index`. No UTF-8 character begins at `index`.
pub record IsFirstInvalid (bytes : List ℕ) (index : ℕ) : Type 0 where
  pub after_mark : mark_length bytes ≤ index
  pub within : index < length bytes
  pub valid : IsUtf8 (slice_range bytes (mark_length bytes) index)
  pub longest : (end : ℕ) → index < end → ¬ (IsUtf8 (slice_range bytes (mark_length bytes) end))

-- the character of a byte in Windows-1252: its code point is the byte, except for 27 of the bytes from 80 to 9F
unfoldable pub windows_1252 : ℕ → ℕ
windows_1252 byte =
    if byte == 0x80 then 0x20AC else if byte == 0x82 then 0x201A else if byte == 0x83 then 0x0192 else
    if byte == 0x84 then 0x201E else if byte == 0x85 then 0x2026 else if byte == 0x86 then 0x2020 else
    if byte == 0x87 then 0x2021 else if byte == 0x88 then 0x02C6 else if byte == 0x89 then 0x2030 else
    if byte == 0x8A then 0x0160 else if byte == 0x8B then 0x2039 else if byte == 0x8C then 0x0152 else
    if byte == 0x8E then 0x017D else if byte == 0x91 then 0x2018 else if byte == 0x92 then 0x2019 else
    if byte == 0x93 then 0x201C else if byte == 0x94 then 0x201D else if byte == 0x95 then 0x2022 else
    if byte == 0x96 then 0x2013 else if byte == 0x97 then 0x2014 else if byte == 0x98 then 0x02DC else
    if byte == 0x99 then 0x2122 else if byte == 0x9A then 0x0161 else if byte == 0x9B then 0x203A else
    if byte == 0x9C then 0x0153 else if byte == 0x9E then 0x017E else if byte == 0x9F then 0x0178 else byte

-- the text of `bytes` decoded as Windows-1252, encoded in UTF-8
abbrev pub windows_1252_text : List ℕ → List ℕ
windows_1252_text bytes = encode_utf8_all (map windows_1252 bytes)
