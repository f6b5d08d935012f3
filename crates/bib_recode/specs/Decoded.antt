-- Meaning: words of public contracts.
-- Decoded texts, and the reasons why bytes can't be decoded.
use Rattle.std.specs.Prelude.{◌≡◌, ◌+◌, ◌*◌, ◌%◌, ⊤, ℕ, Bool, true, false, List, encode_utf8_all, length}
use Rattle.std.specs.Str.{IsUtf8}
use Rattle.std.specs.String.{IsUtf16Of}
use Rattle.bib_source.specs.Encoding.{IsFirstInvalid, windows_1252_text}
use Rattle.bib_recode.specs.Encodings.{after_mark, length_of_mark}
use Rattle.bib_recode.specs.Units.{IsFirstUnpaired, units_of}
use Rattle.bib_recode.specs.declared.decoding.DecodeError.{DecodeError}
use Rattle.bib_recode.specs.declared.decoding.DecodeError.TheVariants.{NotUtf8, UnpairedSurrogate, OddByte, OutOfMemory}
use Rattle.bib_recode.specs.declared.encoding.Encoding.{Encoding}
use Rattle.bib_recode.specs.declared.encoding.Encoding.TheVariants.{Utf8, Utf16LittleEndian, Utf16BigEndian, Windows1252, Latin1}

-- the bytes are valid UTF-8, and `text` is these bytes
pub record IsUtf8Text (bytes text : List ℕ) : Type 0 where
  pub utf8 : IsUtf8 bytes
  pub is : text ≡ bytes

-- `text` in UTF-8 and bytes in UTF-16 spell the same characters; the flag says whether the high byte of each unit is first
pub record IsUtf16Text (is_big_endian : Bool) (bytes text : List ℕ) : Type 0 where
  pub even : length bytes % 2 ≡ 0
  pub spells : IsUtf16Of (units_of is_big_endian bytes) text

-- `text` is the text of a file in an encoding
abbrev pub IsDecoded : Encoding → List ℕ → List ℕ → Type 0
IsDecoded Utf8 bytes text = IsUtf8Text (after_mark Utf8 bytes) text
IsDecoded Utf16LittleEndian bytes text = IsUtf16Text false (after_mark Utf16LittleEndian bytes) text
IsDecoded Utf16BigEndian bytes text = IsUtf16Text true (after_mark Utf16BigEndian bytes) text
IsDecoded Windows1252 bytes text = text ≡ windows_1252_text bytes
IsDecoded Latin1 bytes text = text ≡ encode_utf8_all bytes

-- the number of bytes from the offset `start` is odd, and `at` is the offset of the last of them
pub record IsOddByte (start : ℕ) (bytes : List ℕ) (at : ℕ) : Type 0 where
  pub odd : length bytes % 2 ≡ 1
  pub last : at + 1 ≡ start + length bytes

-- the number of bytes from the offset `start` is even, and `at` is the offset of the first surrogate without a partner
pub record IsUnpairedAt (is_big_endian : Bool) (start : ℕ) (bytes : List ℕ) (at : ℕ) : Type 0 where
  pub index : ℕ
  pub even : length bytes % 2 ≡ 0
  pub first : IsFirstUnpaired (units_of is_big_endian bytes) index
  pub offset : at ≡ start + 2 * index

-- bytes of UTF-16 from the offset `start` can't be decoded for this reason, or memory runs out
abbrev pub IsUtf16Refused : Bool → ℕ → List ℕ → DecodeError → Type 0
IsUtf16Refused is_big_endian start bytes (NotUtf8 at) = ⊥
IsUtf16Refused is_big_endian start bytes (UnpairedSurrogate at) = IsUnpairedAt is_big_endian start bytes at
IsUtf16Refused is_big_endian start bytes (OddByte at) = IsOddByte start bytes at
IsUtf16Refused is_big_endian start bytes OutOfMemory = ⊤

-- a file in UTF-8 can't be decoded for this reason, or memory runs out
abbrev pub IsUtf8Refused : List ℕ → DecodeError → Type 0
IsUtf8Refused bytes (NotUtf8 at) = IsFirstInvalid bytes at
IsUtf8Refused bytes (UnpairedSurrogate at) = ⊥
IsUtf8Refused bytes (OddByte at) = ⊥
IsUtf8Refused bytes OutOfMemory = ⊤

-- a file in an encoding can't be decoded for this reason, or memory runs out
abbrev pub IsRefused : Encoding → List ℕ → DecodeError → Type 0
IsRefused Utf8 bytes why = IsUtf8Refused bytes why
IsRefused Utf16LittleEndian bytes why =
    IsUtf16Refused false (length_of_mark Utf16LittleEndian bytes) (after_mark Utf16LittleEndian bytes) why
IsRefused Utf16BigEndian bytes why = IsUtf16Refused true (length_of_mark Utf16BigEndian bytes) (after_mark Utf16BigEndian bytes) why
IsRefused Windows1252 bytes why = why ≡ OutOfMemory
IsRefused Latin1 bytes why = why ≡ OutOfMemory
