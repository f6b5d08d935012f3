-- Suffixes and their numbers.
use Rattle.std.proofs.Common.{◌≡◌, ◌≢◌, ℕ, ◌+◌, ◌-◌, ◌*◌, ◌/◌, ◌%◌, List, [], ◌∷◌, ◌++◌, sym, ◌∙◌, ap, subst, append-nil, append_assoc, arith}
use Rattle.bib_keys.specs.Keys.{IsSuffix, HasSuffix}

-- with the suffix of the number 0, a text is unchanged
pub no_suffix : (n : ℕ) (text : List ℕ) → n ≡ 0 → HasSuffix n text text
no_suffix n text zero = record {
  suffix = [];
  numbered = subst (λ m. IsSuffix m []) (sym zero) IsSuffix.none;
  is = sym (append-nil text);
}

-- the suffix of a number other than 0 is that of a smaller number, with one more letter
pub more_suffix : (n : ℕ) (text key longer : List ℕ) → n ≢ 0 → HasSuffix ((n - 1) / 26) text key
    → longer ≡ key ++ ((97 + (n - 1) % 26) ∷ []) → HasSuffix n text longer
more_suffix n text key longer some has is =
    let k : ℕ = (n - 1) % 26 in
    let number : 26 * ((n - 1) / 26) + k + 1 ≡ n = omega arith in
    record {
      suffix = has.suffix ++ ((97 + k) ∷ []);
      numbered = subst (λ m. IsSuffix m (has.suffix ++ ((97 + k) ∷ []))) number (IsSuffix.more k (omega arith) has.numbered);
      is = is ∙ ap (λ l. l ++ ((97 + k) ∷ [])) has.is ∙ append_assoc text has.suffix ((97 + k) ∷ []);
    }
