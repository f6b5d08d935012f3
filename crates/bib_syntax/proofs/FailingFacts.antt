-- Offsets from which parsing fields fails with the same error as from a later place.
use Rattle.std.proofs.Common.{◌≡◌, ◌≢◌, ℕ, Bool, true, false, cond, List, [], ◌∷◌, ◌++◌, Some, IfSome, BTreeMap, nat_cmp, refl, sym, subst, inl, inr}
use Rattle.std.specs.BTreeMap as tree
use Rattle.std.proofs.lemmas.List.Elements.{All-push, All-nil, All-same}
use Rattle.std.proofs.lemmas.Map.Lookups.{exact_unsigned}
use Rattle.std.proofs.lemmas.Map.Views.{tells_apart}
use Rattle.bib_text.specs.Places.{Place, place}
use Rattle.bib_text.proofs.PlaceFacts.{same_place, Ahead}
use Rattle.bib_syntax.specs.Errors.{IsSyntaxError, Refuses, out_of_memory}
use Rattle.bib_syntax.specs.Failures.{FailsAt, AllFail}
use Rattle.bib_syntax.specs.SyntaxErrors.{FieldsFails, Reports}
use Rattle.bib_syntax.specs.declared.raw.ParseError.{ParseError}
use Rattle.bib_syntax.specs.declared.raw.ParseErrorKind.{ParseErrorKind}
use Rattle.bib_syntax.proofs.ErrorFacts.{reports_as}

-- if parsing fields fails at `here` and from each of `before` with one error of the grammar, it does so from each of `starts`
pub record FailBefore (text : List ℕ) (before starts : List ℕ) (here : Place) : Type 0 where
  pub each : (e : ParseError) → IsSyntaxError text e → Reports (FieldsFails here) e → AllFail text e before → AllFail text e starts

-- at first, the offsets are the ones in `before`
pub none_more : (text before : List ℕ) (here : Place) → FailBefore text before before here
none_more text before here = record { each = λ e error fails all. all }

-- parsing fields fails from the offset of a place as it does from the place
fails_at : {text : List ℕ} {here : Place} {e : ParseError} (at : ℕ) → here.text ≡ text → at ≡ here.at
    → IsSyntaxError text e → Reports (FieldsFails here) e → FailsAt text e at
fails_at {text} {here} {e} at same is error fails =
    record { error = error; fails = subst (λ u. Reports (FieldsFails u) e) (same_place {u = here} {v = place text at} same (sym is)) fails }

-- the offset of the current place can be added
pub here_fails : {text before starts : List ℕ} {here : Place} (at : ℕ) → FailBefore text before starts here
    → here.text ≡ text → at ≡ here.at
    → FailBefore text before (starts ++ at ∷ []) here
here_fails {text} {starts = starts} at read same is = record {
  each = λ e error fails all. All-push (FailsAt text e) starts at (read.each e error fails all) (fails_at at same is error fails);
}

-- the current place can move to another one if each failure from there is a failure from here
pub further_fails : {text before starts : List ℕ} {here there : Place} → FailBefore text before starts here
    → ((kind : ParseErrorKind) (v : Place) → FieldsFails there kind v → FieldsFails here kind v) → FailBefore text before starts there
further_fails read implies = record { each = λ e error fails all. read.each e error (reports_as implies fails) all }

-- if parsing fails at `here` and from each of `before` with an error that isn't out of memory, it does so from each of `starts`
pub each_fails : {text before starts : List ℕ} {here : Place} {e : ParseError} (P : Type 0)
    → FailBefore text before starts here → here.text ≡ text → (P → Reports (FieldsFails here) e)
    → Refuses here.text e P → e ≢ out_of_memory → AllFail text e before → AllFail text e starts
each_fails P read same implies (inl memory) some all = absurd (some memory)
each_fails {e = e} P read same implies (inr refused) some all =
    read.each e (subst (λ t. IsSyntaxError t e) same refused.0) (implies refused.1) all

-- failures in the text of a place ahead are failures in the text of the place
pub each_back : {u v : Place} {e : ParseError} (before starts : List ℕ) → Ahead u v
    → (e ≢ out_of_memory → AllFail v.text e before → AllFail v.text e starts)
    → e ≢ out_of_memory → AllFail u.text e before → AllFail u.text e starts
each_back {e = e} before starts ahead each some = subst (λ t. AllFail t e before → AllFail t e starts) ahead.text (each some)

-- if `before` is empty, the failures from `starts` in the text of a place ahead are failures in the text of the place
pub each_of_none : {u v : Place} {e : ParseError} (before starts : List ℕ) → before ≡ [] → Ahead u v
    → (e ≢ out_of_memory → AllFail v.text e before → AllFail v.text e starts)
    → e ≢ out_of_memory → AllFail u.text e starts
each_of_none {u} {e = e} before starts none ahead each some =
    each_back before starts ahead each some (All-same (FailsAt u.text e) before [] none (All-nil (FailsAt u.text e)))

-- if parsing fields fails from the offset of a place, it fails with the same error from the place
pub reports_here : {here : Place} {e : ParseError} → FailsAt here.text e here.at → Reports (FieldsFails here) e
reports_here {here} {e} failure =
    subst (λ u. Reports (FieldsFails u) e) (same_place {u = place here.text here.at} {v = here} refl refl) failure.fails

-- all known failures stay true after the error of one more offset is added
pub failure_remembered : (text : List ℕ) (m n : BTreeMap ℕ ParseError) (start : ℕ) (e : ParseError)
    → tree.Updates nat_cmp m n start (Some e) → FailsAt text e start
    → ((at : ℕ) → IfSome (tree.get nat_cmp m at) (λ x. FailsAt text x at)) → (at : ℕ)
    → IfSome (tree.get nat_cmp n at) (λ x. FailsAt text x at)
failure_remembered text m n start e updates fails before at =
    subst (λ found. IfSome found (λ x. FailsAt text x at)) (sym (updates.0 at))
    (either (tree.is_at (nat_cmp start) at) refl) where
      either : (b : Bool) → tree.is_at (nat_cmp start) at ≡ b → IfSome (cond b (Some e) (tree.get nat_cmp m at)) (λ x. FailsAt text x at)
      either true is = subst (FailsAt text e) (tells_apart exact_unsigned start at is) fails
      either false is = before at
