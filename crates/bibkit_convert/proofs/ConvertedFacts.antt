-- Entries that are printed one after another.
use Rattle.std.proofs.Common.{◌≡◌, ℕ, Bool, List, [], ◌∷◌, ◌++◌, Result, Err, IfOk, Option, Ok, inl, inr, ◌⊎◌, refl, ap, sym, ◌∙◌, append_assoc}
use Rattle.std.proofs.lemmas.List.{append-nil}
use Rattle.bib_syntax.specs.Errors.{out_of_memory}
use Rattle.bib_syntax.specs.declared.raw.ParseError.{ParseError}
use Rattle.bib_syntax.specs.declared.raw.ParseErrorKind.{ParseErrorKind}
use Rattle.bib_syntax.specs.declared.raw.ParseErrorKind.TheVariants as kind
use Rattle.std.specs.Io.KnownBytes.{Appends}
use Rattle.biblatex.specs.Headline.{IsAcceptedText, IsBibliographyOf, IsErrorOf}
use Rattle.biblatex.specs.Syntax.{Bibliography, Entry}
use Rattle.bibkit_convert.specs.Converted.{ConvertFails, IsExported}
use Rattle.bibkit_convert.specs.Converting.{file_error, unless_of_memory}
use Rattle.bibkit_convert.specs.declared.converting.ConvertError.TheVariants.{File}
use Rattle.bibkit_convert.specs.Converted.{texts_after, text_after, is_first_after, is_still_first}
use Rattle.bibkit_convert.specs.declared.target.Target.{Target}

-- the texts of entries grow by the text of one more entry
pub text_push : (target : Target) (is_first : Bool) (es : List Entry) (e : Entry)
    → texts_after target is_first (es ++ e ∷ []) ≡ texts_after target is_first es ++ text_after target (is_first_after target is_first es) e
text_push target is_first [] e = append-nil (text_after target is_first e)
text_push target is_first (x ∷ es) e =
    ap (λ text. text_after target is_first x ++ text) (text_push target (is_still_first target is_first x) es e)
    ∙ sym
    (append_assoc (text_after target is_first x) (texts_after target (is_still_first target is_first x) es)
    (text_after target (is_first_after target (is_still_first target is_first x) es) e))

-- after entries and one more, the output still has no entry exactly if it has none after them, and the format doesn't have that one
pub first_push : (target : Target) (is_first : Bool) (es : List Entry) (e : Entry)
    → is_first_after target is_first (es ++ e ∷ []) ≡ is_still_first target (is_first_after target is_first es) e
first_push target is_first [] e = refl
first_push target is_first (x ∷ es) e = first_push target (is_still_first target is_first x) es e

-- ---- texts that aren't converted

-- parsing a text may fail with this error: out of memory, or the text isn't accepted and has this error
abbrev IsUnread : List ℕ → ParseError → Type 0
IsUnread text e = (e ≡ out_of_memory) ⊎ (IsErrorOf text e × (IsAcceptedText text → ⊥))

module _ {K : Type 0} (refusals : K → ℕ) (text : List ℕ) (output : K) where
  of_text : (e : ParseError) → (e.kind ≡ kind.OutOfMemory → ⊥) → IsUnread text e
      → IsErrorOf text e × (IsAcceptedText text → ⊥) × (output ≡ output)
  of_text e other (inl out) = absurd (other (ap (λ e. e.kind) out))
  of_text e other (inr error) = (error.0, error.1, refl)

  by_kind : (e : ParseError) (k : ParseErrorKind) → e.kind ≡ k → IsUnread text e
      → ConvertFails refusals text output output (unless_of_memory k (File e))
  by_kind e kind.OutOfMemory is unread = refl
  by_kind e kind.UnexpectedEof is unread = of_text e (λ out. let clash : kind.UnexpectedEof ≡ kind.OutOfMemory = sym is ∙ out in cc) unread
  by_kind e (kind.Unexpected t) is unread = of_text e (λ out. let clash : kind.Unexpected t ≡ kind.OutOfMemory = sym is ∙ out in cc) unread
  by_kind e (kind.Expected t) is unread = of_text e (λ out. let clash : kind.Expected t ≡ kind.OutOfMemory = sym is ∙ out in cc) unread
  by_kind e (kind.UnknownAbbreviation n) is unread =
      of_text e (λ out. let clash : kind.UnknownAbbreviation n ≡ kind.OutOfMemory = sym is ∙ out in cc) unread
  by_kind e kind.MalformedCommand is unread =
      of_text e (λ out. let clash : kind.MalformedCommand ≡ kind.OutOfMemory = sym is ∙ out in cc) unread
  by_kind e (kind.DuplicateKey n) is unread =
      of_text e (λ out. let clash : kind.DuplicateKey n ≡ kind.OutOfMemory = sym is ∙ out in cc) unread
  by_kind e (kind.ResolutionError t) is unread =
      of_text e (λ out. let clash : kind.ResolutionError t ≡ kind.OutOfMemory = sym is ∙ out in cc) unread
  by_kind e (kind.AbbreviationCycle n) is unread =
      of_text e (λ out. let clash : kind.AbbreviationCycle n ≡ kind.OutOfMemory = sym is ∙ out in cc) unread
  by_kind e (kind.ReferenceCycle n) is unread =
      of_text e (λ out. let clash : kind.ReferenceCycle n ≡ kind.OutOfMemory = sym is ∙ out in cc) unread

  -- a text that can't be parsed isn't converted, and nothing is printed
  pub unread_fails : (e : ParseError) → IsUnread text e → ConvertFails refusals text output output (file_error e)
  unread_fails e unread = by_kind e e.kind refl unread

-- ---- texts that are converted

-- if the entries of the bibliography of a text are printed, the text is exported
pub converted_text : {K E : Type 0} (taken : K → Option (List ℕ)) (target : Target) (is_first : Bool) (text : List ℕ)
    (old new : K) (b : Bibliography) (r : Result Bool E) → IsBibliographyOf text b
    → IfOk r (λ next. Appends (taken old) (taken new) (texts_after target is_first b.entries))
    → IfOk r (λ next. next ≡ is_first_after target is_first b.entries)
    → IfOk r (IsExported taken target is_first text old new)
converted_text taken target is_first text old new b (Err e) of_text printed next = _
converted_text taken target is_first text old new b (Ok first') of_text printed next = record {
  bibliography = b;
  of_text = of_text;
  printed = printed;
  next = next;
}
