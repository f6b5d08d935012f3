-- Facts about fields and lists.
use Rattle.std.proofs.Common.{◌≡◌, ℕ, ◌+◌, ◌<◌, true, false, List, [], ◌∷◌, ◌++◌, Option, Some, cond, get_or, length, map, take, refl, sym, ap, subst, ◌∙◌}
use Rattle.std.specs.Prelude.{bytes_eq, find, option_map, reverse}
use Rattle.std.specs.List.{AllZip}
use Rattle.std.proofs.lemmas.Cmp.{nat_list_eq_equiv}
use Rattle.std.proofs.lemmas.List.{map_push, reverse-append, take_more}
use Rattle.bib_syntax.specs.Reading.{FieldReading, Piece}
use Rattle.bib_syntax.specs.Views.{field_of}
use Rattle.bib_syntax.specs.declared.raw.Pair.{Pair}
use Rattle.bib_abbreviations.specs.Abbreviations.{Definitions, IsReadable}
use Rattle.bib_chunks.specs.Values.{Value}
use Rattle.bib_syntax.specs.Views.{piece_of}
use Rattle.bib_syntax.specs.declared.raw.RawChunk.{RawChunk}
use Rattle.bib_text.specs.declared.spanned.Spanned.{Spanned}
use Rattle.bib_text.proofs.ListFacts.{all_zip_push}
use Rattle.edit_orders.specs.Fields.{AreContentsOf, plain_contents}
use Rattle.edit_orders.specs.Fields.AreContentsOf.{plain}

-- the texts of pieces are the contents of a field that can't be parsed
pub contents_plain : (definitions : Definitions) (pieces : List Piece) (raw : List (Spanned RawChunk)) (chunks : Value)
    → map piece_of raw ≡ pieces → (IsReadable definitions false pieces → ⊥) → chunks ≡ plain_contents (map piece_of raw)
    → AreContentsOf definitions pieces chunks
contents_plain definitions pieces raw chunks same unread is =
    subst (AreContentsOf definitions pieces) (sym (is ∙ ap plain_contents same)) (plain unread)

-- a list related to the elements before an index is, with a new last element that is related to the element at the index, related to the
-- elements up to it
pub AllZip-more : {A B : Type 0} (R : A → B → Type 0) (xs : List A) (i : ℕ) (d : A) (ys new : List B) (y : B) → i < length xs
    → AllZip R (take i xs) ys → R (get_or xs i d) y → new ≡ ys ++ y ∷ [] → AllZip R (take (i + 1) xs) new
AllZip-more R xs i d ys new y within all last is =
    subst (λ l. AllZip R l new) (sym (take_more xs i d within))
    (subst (AllZip R (take i xs ++ get_or xs i d ∷ [])) (sym is) (all_zip_push R (take i xs) ys (get_or xs i d) y all last))

-- the same for mapped elements
pub AllZip-more_of : {A B C : Type 0} (R : C → B → Type 0) (f : A → C) (xs : List A) (i : ℕ) (d : A) (ys new : List B)
    (y : B) → i < length xs
    → AllZip R (map f (take i xs)) ys → R (f (get_or xs i d)) y → new ≡ ys ++ y ∷ [] → AllZip R (map f (take (i + 1) xs)) new
AllZip-more_of R f xs i d ys new y within all last is =
    subst (λ l. AllZip R l new) (sym (ap (map f) (take_more xs i d within) ∙ map_push f (take i xs) (get_or xs i d)))
    (subst (AllZip R (map f (take i xs) ++ f (get_or xs i d) ∷ [])) (sym is)
    (all_zip_push R (map f (take i xs)) ys (f (get_or xs i d)) y all last))
