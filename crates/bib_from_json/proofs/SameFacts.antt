-- Lists whose elements are compared one by one.
use Rattle.std.proofs.Common.{◌≡◌, ◌+◌, ◌<◌, ◌≤◌, ℕ, zero, suc, List, [], ◌∷◌, length, take, get_or, map, sym, ap, ◌∙◌, arith}
use Rattle.std.specs.List.{AllByRecursion, AllZip}
use Rattle.std.specs.Prelude.{encode_utf8_all}
use Rattle.std.specs.Str.{chars, IsUtf8}
use Rattle.std.proofs.lemmas.Str.{encodes-chars}
use Rattle.std.proofs.lemmas.List.{get_or-map, take_more}
use Rattle.bib_text.proofs.ListFacts.{all_zip_length, all_zip_push}

-- texts in UTF-8 with the same characters are the same
pub same_chars : (s t : List ℕ) → IsUtf8 s → IsUtf8 t → chars s ≡ chars t → s ≡ t
same_chars s t left right is = sym (encodes-chars s left) ∙ (ap (λ cs. encode_utf8_all cs) is ∙ encodes-chars t right)

-- a property of all elements holds of each
pub all_at : {A : Type 0} (P : A → Type 0) (xs : List A) (k : ℕ) (d : A) → k < length xs → AllByRecursion P xs → P (get_or xs k d)
all_at P [] k d within all = absurd (omega (arith, within))
all_at P (x ∷ xs) zero d within all = all.0
all_at P (x ∷ xs) (suc k) d within all = all_at P xs k d (omega (arith, within)) all.1

-- a relation of all elements of two lists holds of those at each index
pub zip_at : {A B : Type 0} (R : A → B → Type 0) (xs : List A) (ys : List B) (k : ℕ) (d : A) (e : B) → k < length xs
    → AllZip R xs ys → R (get_or xs k d) (get_or ys k e)
zip_at R [] ys k d e within all = absurd (omega (arith, within))
zip_at R (x ∷ xs) [] k d e within all = absurd all
zip_at R (x ∷ xs) (y ∷ ys) zero d e within all = all.0
zip_at R (x ∷ xs) (y ∷ ys) (suc k) d e within all = zip_at R xs ys k d e (omega (arith, within)) all.1

-- lists with the same images have the same image at each index
pub image_at : {A B : Type 0} (f : A → B) (xs ys : List A) (k : ℕ) (d : A) → k < length xs → k < length ys → map f xs ≡ map f ys
    → f (get_or xs k d) ≡ f (get_or ys k d)
image_at f xs ys k d left right is =
    sym (get_or-map f xs k d (f d) left) ∙ (ap (λ l. get_or l k (f d)) is ∙ get_or-map f ys k d (f d) right)

-- lists that are related have the same length
pub too_few : {A B : Type 0} (R : A → B → Type 0) (xs : List A) (ys : List B) (k : ℕ) → k < length xs → length ys ≤ k → AllZip R xs ys → ⊥
too_few R xs ys k within few all = omega (arith, all_zip_length R xs ys all, within, few)

pub too_many : {A B : Type 0} (R : A → B → Type 0) (xs : List A) (ys : List B) (k : ℕ) → length xs ≤ k → k < length ys → AllZip R xs ys → ⊥
too_many R xs ys k few within all = omega (arith, all_zip_length R xs ys all, within, few)

-- if the first elements are related, and the next ones are, then so are these together
pub zip_more : {A B : Type 0} (R : A → B → Type 0) (xs : List A) (ys : List B) (k : ℕ) (d : A) (e : B) → k < length xs → k < length ys
    → AllZip R (take k xs) (take k ys) → R (get_or xs k d) (get_or ys k e) → AllZip R (take (k + 1) xs) (take (k + 1) ys)
zip_more R xs ys k d e left right all here =
    rw (take_more xs k d left) (rw (take_more ys k e right)
    (all_zip_push R (take k xs) (take k ys) (get_or xs k d) (get_or ys k e) all here))
