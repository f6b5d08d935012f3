-- Facts about the first invalid byte of a file.
use Rattle.std.proofs.Common.{◌≡◌, ℕ, ◌+◌, ◌-◌, ◌<◌, ◌≤◌, List, ◌++◌, length, take, drop, sym, ap, ◌∙◌, subst, arith, ⊎_elim}
use Rattle.std.specs.Char.{IsScalar, len_utf8}
use Rattle.std.specs.Str.{IsUtf8, IsValidUpTo, StartsWithNoChar}
use Rattle.std.specs.Prelude.{encode_utf8, slice_range}
use Rattle.std.proofs.Math.Seq.{take-add}
use Rattle.std.proofs.lemmas.List.{drop-drop, length-drop, take-append-le, take_all}
use Rattle.std.proofs.lemmas.Bool.{cases_order}
use Rattle.std.proofs.lemmas.Str.{IsUtf8-append, IsUtf8-encode, length-encode, len_utf8_bounds}
use Rattle.bib_source.specs.Encoding.{mark_length, without_byte_order_mark, IsFirstInvalid}

-- the bytes from `m` to `m + n` are the first `n` bytes after the first `m`
part : (bytes : List ℕ) (m n end : ℕ) → end ≡ m + n → slice_range bytes m end ≡ take n (drop m bytes)
part bytes m n end is = let size : end - m ≡ n = omega arith in ap (λ k. take k (drop m bytes)) size

to_the_end : (bytes : List ℕ) (m : ℕ) → slice_range bytes m (length bytes) ≡ drop m bytes
to_the_end bytes m = take_all (length bytes - m) (drop m bytes) (omega (arith, length-drop m bytes))

-- the byte at `index` is the first invalid one after the first `m` bytes, which are counted in `index`
record IsValidAfter (bytes : List ℕ) (m index : ℕ) : Type 0 where
  pub after_mark : m ≤ index
  pub within : index < length bytes
  pub valid : IsUtf8 (slice_range bytes m index)
  pub longest : (end : ℕ) → index < end → IsUtf8 (slice_range bytes m end) → ⊥

-- the length of the valid part after a mark of `m` bytes, as an index that counts the mark
valid_after : (bytes : List ℕ) (m n : ℕ) → IsValidUpTo (drop m bytes) n → IsValidAfter bytes m (m + n)
valid_after bytes m n valid = record {
  after_mark = omega arith;
  within = omega (arith, valid.short, length-drop m bytes);
  valid = subst IsUtf8 (sym (part bytes m n (m + n) (omega arith))) valid.front;
  longest = λ end after utf8. valid.longest (end - m) (omega arith) utf8;
}

-- the first invalid byte of a file comes after its mark and the valid bytes after the mark
pub from_rest : (bytes : List ℕ) (start n reported : ℕ) → start ≡ mark_length bytes → reported ≡ n
    → IsValidUpTo (slice_range bytes start (length bytes)) n → IsFirstInvalid bytes (start + reported)
from_rest bytes start n reported is same valid =
    let to_end : slice_range bytes start (length bytes) ≡ drop start bytes = to_the_end bytes start in
    let after = subst (λ k. IsValidUpTo (drop start bytes) k) (sym same) (subst (λ rest. IsValidUpTo rest n) to_end valid) in
    let found = subst (λ m. IsValidAfter bytes m (start + reported)) is (valid_after bytes start reported after) in
    record { after_mark = found.after_mark; within = found.within; valid = found.valid; longest = found.longest }

-- a file has at most one first invalid byte
pub one_index : (bytes : List ℕ) (i j : ℕ) → IsFirstInvalid bytes i → IsFirstInvalid bytes j → i ≡ j
one_index bytes i j first second =
    ⊎_elim (λ same. same)
    (λ apart. ⊎_elim
    (λ before. absurd (first.longest j before second.valid))
    (λ after. absurd (second.longest i after first.valid))
    apart)
    (cases_order i j)

-- a file with a first invalid byte isn't UTF-8 after its mark
pub not_utf8 : (bytes : List ℕ) (i : ℕ) → IsFirstInvalid bytes i → IsUtf8 (without_byte_order_mark bytes) → ⊥
not_utf8 bytes i first utf8 =
    first.longest (length bytes) first.within (subst IsUtf8 (sym (to_the_end bytes (mark_length bytes))) utf8)

-- a UTF-8 part with the character after it is UTF-8
longer : (bytes rest : List ℕ) (m n c : ℕ) → IsScalar c → drop (m + n) bytes ≡ encode_utf8 c ++ rest
    → IsUtf8 (take n (drop m bytes)) → IsUtf8 (take (n + len_utf8 c) (drop m bytes))
longer bytes rest m n c scalar begins utf8 =
    let size : length (encode_utf8 c) ≡ len_utf8 c = length-encode c in
    let next : take (len_utf8 c) (drop n (drop m bytes)) ≡ encode_utf8 c =
    ap (take (len_utf8 c)) (drop-drop n m bytes ∙ begins)
    ∙ take-append-le (len_utf8 c) (encode_utf8 c) rest (omega arith)
    ∙ take_all (len_utf8 c) (encode_utf8 c) (omega arith) in
    subst IsUtf8 (sym (take-add n (len_utf8 c) (drop m bytes) ∙ ap (λ r. take n (drop m bytes) ++ r) next))
    (IsUtf8-append _ _ utf8 (IsUtf8-encode c scalar))

-- no character begins at the first invalid byte
pub no_character : (bytes : List ℕ) (i : ℕ) → IsFirstInvalid bytes i → StartsWithNoChar (drop i bytes)
no_character bytes i first c rest scalar begins =
    let m = mark_length bytes in
    let n = i - m in
    let at : i ≡ m + n = omega (arith, first.after_mark) in
    let follows : drop (m + n) bytes ≡ encode_utf8 c ++ rest = ap (λ k. drop k bytes) (sym at) ∙ begins in
    let end : i + len_utf8 c ≡ m + (n + len_utf8 c) = omega arith in
    first.longest (i + len_utf8 c) (omega (arith, len_utf8_bounds c))
    (subst IsUtf8 (sym (part bytes m (n + len_utf8 c) (i + len_utf8 c) end)) (longer bytes rest m n c scalar follows first.valid))
