-- Compiling a condition: its errors, and lists that are related element by element.
use Rattle.std.proofs.Common.{◌<◌, ◌+◌, ℕ, List, [], ◌∷◌, ◌++◌, length, take, get_or, map, sym, subst}
use Rattle.std.specs.List.{Any, AllZip}
use Rattle.std.proofs.lemmas.List.{map_more, length-map, get_or-map}
use Rattle.bib_text.proofs.ListFacts.{all_zip_push}
use Rattle.bib_select.specs.Compiled.{IsCompileError}
use Rattle.bib_select.specs.declared.errors.SelectionError.{SelectionError}
use Rattle.bib_select.specs.declared.errors.SelectionError.TheVariants.{Malformed, OutOfMemory}
use Rattle.bib_select.specs.declared.errors.SelectionErrorKind.TheVariants as kind

-- an error of compiling a condition is also one of a condition that has all of its regular expressions
pub error_of_more : {Has More : List ℕ → ℕ → Type 0} (e : SelectionError) → ((source : List ℕ) (at : ℕ) → Has source at → More source at)
    → IsCompileError Has e → IsCompileError More e
error_of_more OutOfMemory more is = tt
error_of_more (Malformed (kind.Regex cause) at) more is = record {
  source = is.source;
  here = more is.source at is.here;
  failure = is.failure;
  no_memory = is.no_memory;
  no_internal = is.no_internal;
}
error_of_more (Malformed kind.UnclosedQuote at) more is = is
error_of_more (Malformed kind.MissingTest at) more is = is
error_of_more (Malformed kind.MissingField at) more is = is
error_of_more (Malformed kind.MissingOperator at) more is = is
error_of_more (Malformed kind.MissingTypeOperator at) more is = is
error_of_more (Malformed kind.MissingYearOperator at) more is = is
error_of_more (Malformed kind.MissingText at) more is = is
error_of_more (Malformed kind.MissingYear at) more is = is
error_of_more (Malformed kind.MissingJoint at) more is = is

-- lists related element by element stay so with one more pair, if the first list is that of the images of the elements before an index
pub all_zip_more : {A B C : Type 0} (R : B → C → Type 0) (f : A → B) (xs : List A) (ys : List C) (index : ℕ) (d : A) (y : C)
    → index < length xs → AllZip R (map f (take index xs)) ys → R (f (get_or xs index d)) y
    → AllZip R (map f (take (index + 1) xs)) (ys ++ y ∷ [])
all_zip_more R f xs ys index d y within all one =
    subst (λ l. AllZip R l (ys ++ y ∷ []))
    (sym (map_more f xs index d within))
    (all_zip_push R (map f (take index xs)) ys (f (get_or xs index d)) y all one)

-- if the image of the element at an index has a property, some image has it
pub some_at : {A B : Type 0} (P : B → Type 0) (f : A → B) (xs : List A) (index : ℕ) (d : A) → index < length xs
    → P (f (get_or xs index d)) → Any P (map f xs)
some_at P f xs index d within holds = (
  index,
  f (get_or xs index d),
  rw length-map within,
  get_or-map f xs index d (f (get_or xs index d)) within,
  holds,
)
