-- The output of the program follows from the results of its parts.
use Rattle.std.specs.Str.{bytes_eq}
use Rattle.std.proofs.lemmas.Slice.Eq.{bytes_eq-Decides}
use Rattle.biblatex.specs.Syntax.{Refuses, IsFile, IsReported, ParseError, OutOfMemory, out_of_memory}
use Rattle.std.specs.Str.{IsUtf8}
use Rattle.biblatex.specs.Headline.{IsAcceptedText, IsErrorOf}
use Rattle.biblatex.specs.Syntax.{Bibliography}
use Rattle.bib.specs.Answering.{IsParseAnswer}
use Rattle.bib.specs.Output.{IsCommandAnswer, IsKeysAnswer, IsQuotingLine, line, IsBibliographyAnswer, ShowsError, ShowsNoBibliography, not_utf8}
use Rattle.bib.specs.declared.run.Command.{Command}
use Rattle.bib.specs.declared.run.Command.TheVariants.{Keys, Biblatex, Bibtex, Check, Settled}
use Rattle.bib.specs.Output.IsKeysAnswer.{no_file}
use Rattle.bib.specs.declared.run.Answer.{Answer}
use Rattle.bib.specs.declared.run.SourceError.{SourceError}
use Rattle.bib.specs.declared.run.SourceError.TheVariants as source
use Rattle.std.specs.Prelude.{◌⊎◌, ◌++◌, IfOk, IfSome, codes, string_bytes, ◌≢◌}
use Rattle.std.specs.Fmt.{debug_str, decimal}
use Rattle.std.specs.declared.ops.Range.{Range}
use Rattle.std.specs.declared.string.String.{String}
use Rattle.std.proofs.Common.{Result, Ok, Err, inl, inr, ◌≡◌, ◌<◌, ◌≤◌, ℕ, Bool, true, List, [], ◌∷◌, length, get_or, map, sym, ap, ◌∙◌, subst, arith}

-- mapping a list with one element gives the image of this element
pub one_item : {X Y : Type 0} (f : X → Y) (xs : List X) (x : X) → 1 ≤ length xs → length xs < 2 → x ≡ get_or xs 0 x → map f xs ≡ f x ∷ []
one_item f [] x least most is = absurd (omega arith)
one_item f (y ∷ []) x least most is = ap (λ z. f z ∷ []) (sym is)
one_item f (y ∷ z ∷ zs) x least most is = absurd (omega arith)

-- comparing the only argument with a name decides whether the arguments are this name
pub decides_one : (b : Bool) (word text : List ℕ) (words : List (List ℕ)) (named : List ℕ) → b ≡ bytes_eq text named
    → words ≡ word ∷ [] → text ≡ word
    → (b ≡ true → words ≡ named ∷ []) × (words ≡ named ∷ [] → b ≡ true)
decides_one b word text words named tests one same =
    let decides = bytes_eq-Decides text named in (
      λ yes. one ∙ ap (λ w. w ∷ []) (sym same ∙ decides.0 (sym tests ∙ yes)),
      λ is. tests ∙ decides.1 (same ∙ head_same (sym one ∙ is)),
    ) where
      head_same : {x y : List ℕ} → x ∷ [] ≡ y ∷ [] → x ≡ y
      head_same e = cc

-- for UTF-8 bytes, the line that shows a syntax error is an answer of `keys` with status 1, unless the error is out of memory
pub error_reported : {bytes text : List ℕ} {e : ParseError} → IsUtf8 bytes → Refuses bytes e (IsFile bytes → ⊥)
    → (e ≡ out_of_memory) ⊎ IsReported bytes e → (e.kind ≡ OutOfMemory → ⊥) → ShowsError e text
    → IsKeysAnswer bytes text 1
error_reported utf8 (inl memory) reported other listed = absurd (other (ap (λ x. x.kind) memory))
error_reported utf8 (inr error_answer) (inl memory) other listed = absurd (other (ap (λ x. x.kind) memory))
error_reported utf8 (inr error_answer) (inr reported) other listed = no_file utf8 reported error_answer.1 listed

-- for UTF-8 bytes, the line printed for an error is an answer of `keys`, unless the error is out of memory
pub error_answered : {E : Type 0} {bytes : List ℕ} (e : ParseError) (r : Result Answer E)
    → IfOk r (λ answer. (e.kind ≢ OutOfMemory) × ShowsError e (string_bytes answer.text) × (answer.status ≡ 1))
    → IsUtf8 bytes → Refuses bytes e (IsFile bytes → ⊥) → (e ≡ out_of_memory) ⊎ IsReported bytes e
    → IfOk r (λ answer. IsKeysAnswer bytes (string_bytes answer.text) answer.status)
error_answered e (Ok answer) listed utf8 refused reported = rw listed.2 (error_reported utf8 refused reported listed.0 listed.1)
error_answered e (Err x) listed utf8 refused reported = tt

-- the line for an error of parsing other than out of memory satisfies `ShowsNoBibliography`
pub no_bibliography : {bytes text : List ℕ} {e : ParseError}
    → (e ≡ out_of_memory) ⊎ (IsErrorOf bytes e × (IsAcceptedText bytes → ⊥)) → (e.kind ≡ OutOfMemory → ⊥)
    → ShowsError e text
    → ShowsNoBibliography bytes text
no_bibliography (inl memory) other listed = absurd (other (ap (λ x. x.kind) memory))
no_bibliography {e = e} (inr error_answer) other listed = record {
  error = e;
  of_text = error_answer.0;
  refused = error_answer.1;
  listed = listed;
}

-- the line printed for a UTF-8 text without a bibliography is an answer of a command that needs one
pub no_bibliography_shown : {shows : Bibliography → List ℕ → ℕ → Type 0} {bytes : List ℕ}
    (found : Result Bibliography Answer) (answer : Answer) → IsUtf8 bytes → IsParseAnswer bytes found
    → found ≡ Err answer → IsBibliographyAnswer shows bytes (string_bytes answer.text) answer.status
no_bibliography_shown {shows} {bytes} found answer utf8 is same =
    let listed : IsParseAnswer bytes (Err answer) = subst (IsParseAnswer bytes) same is in
    subst (λ status. IsBibliographyAnswer shows bytes (string_bytes answer.text) status) (sym listed.1)
    (IsBibliographyAnswer.no_bibliography utf8 listed.0)

-- the output that a command shows for a bibliography is its output for a UTF-8 text with this bibliography
pub bibliography_shown : {shows : Bibliography → List ℕ → ℕ → Type 0} {bytes text : List ℕ} {status : ℕ}
    (found : Result Bibliography Answer) (bibliography : Bibliography) → IsUtf8 bytes → IsParseAnswer bytes found
    → found ≡ Ok bibliography → shows bibliography text status
    → IsBibliographyAnswer shows bytes text status
bibliography_shown {shows} {bytes} found bibliography utf8 is same shown =
    let read : IsParseAnswer bytes (Ok bibliography) = subst (IsParseAnswer bytes) same is in
    IsBibliographyAnswer.shown utf8 read shown

-- the output of any command for bytes that are not UTF-8
pub no_text_shown : (command : Command) (bytes : List ℕ) → (IsUtf8 bytes → ⊥) → IsCommandAnswer command bytes not_utf8 1
no_text_shown Keys bytes none = IsKeysAnswer.no_text none
no_text_shown Biblatex bytes none = IsBibliographyAnswer.no_text none
no_text_shown Bibtex bytes none = IsBibliographyAnswer.no_text none
no_text_shown Check bytes none = IsBibliographyAnswer.no_text none
no_text_shown Settled bytes none = IsBibliographyAnswer.no_text none

-- out of memory is not a failed input
pub lacking_apart : {A : Type 0} {e : SourceError} → e ≡ source.OutOfMemory
    → (let r : Result A SourceError = Err e in r) ≡ Err source.Failed → ⊥
lacking_apart is same = apart (sym is ∙ inner same) where
  inner : {A : Type 0} {e f : SourceError} → (let r : Result A SourceError = Err e in r) ≡ Err f → e ≡ f
  inner same = cc

  apart : (let e : SourceError = source.OutOfMemory in e) ≡ source.Failed → ⊥
  apart same = cc

-- a line of these parts is the line of an error that quotes a name
pub quoted_line : {Z E : Type 0} (r : Result (String Z) E) (said : List ℕ × List ℕ) (span : Range ℕ) (quoted : List ℕ)
    → IfSome (debug_str said.1) (λ listed. quoted ≡ listed)
    → IfOk r
    (λ text.
    string_bytes text
    ≡ codes "error: "
    ++
    (said.0
    ++
    (quoted
    ++ (codes ": " ++ (decimal span.start ++ (codes "-" ++ line (decimal span.end)))))))
    → IfOk r (λ text. IsQuotingLine said span (string_bytes text))
quoted_line (Ok text) said span quoted exact is = record { quoted = quoted; exact = exact; is = is }
quoted_line (Err e) said span quoted exact is = tt
