-- Loading entries from raw entries.
use Rattle.std.proofs.Common.{◌≡◌, ℕ, ◌<◌, true, false, cond, List, [], ◌∷◌, ◌++◌, length, reverse, take, drop, get_or, Option, Some, None, refl, inl, inr, ◌⊎◌, ◌+◌, sym, ap, subst, ◌∙◌, suc}
use Rattle.std.proofs.Math.Seq.{drop-cons}
use mathlib.Core.List.{reverse_aux}
use Rattle.std.specs.Prelude.{find, bytes_eq, option_map, MatchOption}
use Rattle.std.specs.List.{AllZip}
use Rattle.std.specs.Ordering.{is_eq}
use Rattle.std.specs.Cmp.Lexicographic.{nat_list_eq_equiv}
use Rattle.std.specs.FinMap as by_name
use Rattle.std.specs.FinMap.{get-from_entries}
use Rattle.std.proofs.lemmas.Cmp.{nat_list_cmp_total}
use Rattle.std.proofs.lemmas.List.{reverse-append, take_more, take-append-drop}
use Rattle.std.proofs.lemmas.Map.Text.{is_eq-slice_cmp}
use Rattle.bib_chunks.specs.declared.chunk.Chunk.{Chunk}
use Rattle.bib_text.specs.declared.spanned.Spanned.{Spanned}
use Rattle.bib_text.proofs.ListFacts.{all_zip_push}
use Rattle.bib_abbreviations.specs.Abbreviations.{Definitions}
use Rattle.bib_syntax.specs.Errors.{out_of_memory}
use Rattle.bib_syntax.specs.Reading.{Piece}
use Rattle.bib_syntax.specs.declared.raw.Pair.{Pair}
use Rattle.bib_syntax.specs.declared.raw.ParseError.{ParseError}
use Rattle.bib_file_entries.specs.Loading.{AreReadable, IsFieldOf, IsFieldsError, IsRead, field_name, last_field}
use Rattle.bib_file_entries.specs.Reading.{IsFieldError}
use Rattle.bib_collections.specs.Sorted.{by_bytes}

module _ {A B : Type 0} (R : A → B → Type 0) where
  turned_onto : (xs xs₂ : List A) (ys ys₂ : List B) → AllZip R xs ys → AllZip R xs₂ ys₂ → AllZip R (reverse_aux xs xs₂) (reverse_aux ys ys₂)
  turned_onto [] xs₂ [] ys₂ all onto = onto
  turned_onto [] xs₂ (b ∷ ys) ys₂ all onto = absurd all
  turned_onto (a ∷ xs) xs₂ [] ys₂ all onto = absurd all
  turned_onto (a ∷ xs) xs₂ (b ∷ ys) ys₂ all onto = turned_onto xs (a ∷ xs₂) ys (b ∷ ys₂) all.1 (all.0, onto)

  -- two lists related element by element stay so after reversing both
  pub AllZip-reverse : (xs : List A) (ys : List B) → AllZip R xs ys → AllZip R (reverse xs) (reverse ys)
  AllZip-reverse xs ys all = turned_onto xs [] ys [] all tt

module _ (definitions : Definitions) where
  -- parsed fields can be parsed
  pub are_readable : (ps : List Pair) (pairs : List (List ℕ × List (Spanned Chunk)))
      → AllZip (IsRead definitions) ps pairs → AreReadable definitions ps
  are_readable [] [] all = tt
  are_readable [] (pair ∷ pairs) all = absurd all
  are_readable (p ∷ ps) [] all = absurd all
  are_readable (p ∷ ps) (pair ∷ pairs) all = (all.0.readable, are_readable ps pairs all.1)

  -- the first error of the fields after parsed fields is the first error of all
  pub error_after : (ps : List Pair) (pairs : List (List ℕ × List (Spanned Chunk))) (rest : List Pair) (e : ParseError)
      → AllZip (IsRead definitions) ps pairs → IsFieldsError definitions rest e → IsFieldsError definitions (ps ++ rest) e
  error_after [] [] rest e all error = error
  error_after [] (pair ∷ pairs) rest e all error = absurd all
  error_after (p ∷ ps) [] rest e all error = absurd all
  error_after (p ∷ ps) (pair ∷ pairs) rest e all error = IsFieldsError.following all.0.readable (error_after ps pairs rest e all.1 error)

  -- the error of the field at an index after parsed fields is the first error
  pub error_at_field : (fields : List Pair) (i : ℕ) (d : Pair) (pairs : List (List ℕ × List (Spanned Chunk)))
      (e : ParseError) → i < length fields
      → AllZip (IsRead definitions) (take i fields) pairs → IsFieldError definitions (get_or fields i d) e
      → IsFieldsError definitions fields e
  error_at_field fields i d pairs e within all error =
      subst (λ l. IsFieldsError definitions l e)
      (ap (λ l. take i fields ++ l) (sym (drop-cons fields i d within)) ∙ take-append-drop i fields)
      (error_after (take i fields) pairs (get_or fields i d ∷ drop (suc i) fields) e all (IsFieldsError.here error.0 error.1))

  -- the same, if the error may also be out of memory
  pub refused_at : (fields : List Pair) (i : ℕ) (p : Pair) (pairs : List (List ℕ × List (Spanned Chunk)))
      (e : ParseError) → i < length fields → p ≡ get_or fields i p
      → AllZip (IsRead definitions) (take i fields) pairs → (e ≡ out_of_memory) ⊎ IsFieldError definitions p e
      → (e ≡ out_of_memory) ⊎ IsFieldsError definitions fields e
  refused_at fields i p pairs e within here all (inl memory) = inl memory
  refused_at fields i p pairs e within here all (inr error) =
      inr (error_at_field fields i p pairs e within all (subst (λ q. IsFieldError definitions q e) here error))

  -- if the next field is parsed too, the fields up to it are parsed
  pub read_more : (fields : List Pair) (i : ℕ) (p : Pair) (pairs more : List (List ℕ × List (Spanned Chunk)))
      (pair : List ℕ × List (Spanned Chunk)) → i < length fields → p ≡ get_or fields i p
      → AllZip (IsRead definitions) (take i fields) pairs → IsRead definitions p pair → more ≡ pairs ++ pair ∷ []
      → AllZip (IsRead definitions) (take (i + 1) fields) more
  read_more fields i p pairs more pair within here all read pushed =
      subst (λ l. AllZip (IsRead definitions) l more) (ap (λ q. take i fields ++ q ∷ []) here ∙ sym (take_more fields i p within))
      (subst (AllZip (IsRead definitions) (take i fields ++ p ∷ [])) (sym pushed)
      (all_zip_push (IsRead definitions) (take i fields) pairs p pair all read))

  -- `value` is the contents of the raw field of a name, or none if there is no such field
  abbrev pub IsFound : List ℕ → Option Pair → Option (List (Spanned Chunk)) → Type 0
  IsFound name field value =
      MatchOption field (value ≡ None)
      (λ p. (chunks : List (Spanned Chunk)) × (value ≡ Some chunks) × IsFieldOf definitions p chunks)

  found_first : (name : List ℕ) (ps : List Pair) (pairs : List (List ℕ × List (Spanned Chunk))) → AllZip (IsRead definitions) ps pairs
      → IsFound name (find (λ p. bytes_eq name (field_name p)) ps) (by_name.find by_bytes name pairs)
  found_first name [] [] all = refl
  found_first name [] (pair ∷ pairs) all = absurd all
  found_first name (p ∷ ps) [] all = absurd all
  found_first name (p ∷ ps) (pair ∷ pairs) all =
      let same : bytes_eq name (field_name p) ≡ is_eq (by_bytes name pair.0) =
      sym (is_eq-slice_cmp name (field_name p)) ∙ ap (λ n. is_eq (by_bytes name n)) (sym all.0.name) in
      elim (is_eq (by_bytes name pair.0)) as
      (λ b.
      bytes_eq name (field_name p) ≡ b
      → IsFound name
      (cond (bytes_eq name (field_name p)) (Some p) (find (λ q. bytes_eq name (field_name q)) ps))
      (cond b (Some pair.1) (by_name.find by_bytes name pairs))) [
        | true ↦
            λ e.
            subst (λ b. IsFound name (cond b (Some p) (find (λ q. bytes_eq name (field_name q)) ps)) (Some pair.1))
            (sym e) (pair.1, refl, all.0.value)
        | false ↦
            λ e.
            subst
            (λ b.
            IsFound name (cond b (Some p) (find (λ q. bytes_eq name (field_name q)) ps))
            (by_name.find by_bytes name pairs)) (sym e) (found_first name ps pairs all.1)
      ] same

  -- each name has the contents of the last field with it
  pub found_last : (name : List ℕ) (fields : List Pair) (pairs : List (List ℕ × List (Spanned Chunk)))
      → AllZip (IsRead definitions) fields pairs
      → IsFound name (last_field fields name) (by_name.get (by_name.from_entries {R = by_bytes} (reverse pairs)) name)
  found_last name fields pairs all =
      subst (IsFound name (last_field fields name)) (sym (get-from_entries nat_list_cmp_total (reverse pairs) name))
      (found_first name (reverse fields) (reverse pairs) (AllZip-reverse (IsRead definitions) fields pairs all))
