-- Facts about the output for findings one after another.
use Rattle.std.proofs.Common.{◌≡◌, ◌+◌, ◌<◌, ◌==◌, ◌&&◌, ℕ, Bool, true, false, cond, List, [], ◌∷◌, ◌++◌, min, refl, sym, ap, subst, ◌∙◌, arith, append_assoc, append-nil}
use Rattle.std.proofs.lemmas.Bool.Decides.{nat_tests}
use Rattle.std.specs.Prelude.{string_bytes}
use Rattle.std.proofs.lemmas.List.Elements.{filter-append}
use Rattle.std.proofs.lemmas.List.Sums.{fold-append}
use Rattle.bib_findings.specs.Codes.{severity_of}
use Rattle.bib_findings.specs.declared.codes.Severity.{Severity}
use Rattle.bib_findings.specs.declared.codes.Severity.TheVariants.{Error, Warning, Info}
use Rattle.bib_findings.specs.declared.finding.Finding.{Finding}
use Rattle.bibkit_core.specs.declared.lint.Printed.{Printed}
use Rattle.bibkit_core.specs.declared.regions.Region.{Region}
use Rattle.bibkit_core.specs.declared.request.Style.{Style}
use Rattle.bibkit_core.specs.declared.selection.Selection.{Selection}
use Rattle.bibkit_core.specs.declared.tally.Tally.{Tally}
use Rattle.bibkit_core.specs.Asked.{is_asked, selected_findings}
use Rattle.bibkit_core.specs.Adding.{IsAdded, IsPrintedOne}
use Rattle.bibkit_core.specs.Conditions.{AreReportedFindings, findings_of_no_entry}
use Rattle.bib_source.specs.declared.decoding.Decoded.{Decoded}
use Rattle.bib_findings.specs.Findings.{AreFindings}
use Rattle.bibkit_core.specs.declared.request.Lint.{Lint}
use Rattle.bibkit_core.specs.OwnNames.{without_own}
use Rattle.bibkit_core.specs.declared.rules.Rule.{Rule}
use Rattle.bibkit_core.specs.Encodings.{byte_findings}
use Rattle.bibkit_core.specs.Linted.{IsPrintedKept, AreShown, ArePrinted, IsPrintedFile, off_in, tally_after}
use Rattle.bibkit_core.specs.Linted.AreShown.{none, next}
use Rattle.bibkit_core.specs.Regions.{region_at}
use Rattle.bibkit_core.specs.Printed.{IsShown, has_no_finding, one_more}
use Rattle.std.proofs.Math.Bool.{and-false}

-- whether the next finding after a list of findings is the first of all; the Boolean says whether the list begins with the first
pub is_first_after : {X : Type 0} → Bool → List X → Bool
is_first_after b [] = b
is_first_after b (x ∷ xs) = false

-- if a list of findings doesn't begin with the first of all, the next finding after it isn't the first of all
never_first : {X : Type 0} (xs : List X) → is_first_after false xs ≡ false
unfolding is_first_after
never_first [] = refl
never_first (x ∷ xs) = refl

-- a number above zero is not zero
pub not_zero : (n : ℕ) → 0 < n → (n == 0) ≡ false
not_zero n above = grind (arith, nat_tests)

-- after one more finding, the counts aren't all zero
not_none : (t : Tally) (s : Severity) → has_no_finding (one_more t s) ≡ false
not_none t Error =
    let above : 0 < min (t.errors + 1) 18446744073709551615 = omega arith in
    ap (λ b. (b && (t.warnings == 0)) && (t.infos == 0)) (not_zero (min (t.errors + 1) 18446744073709551615) above)
not_none t Warning =
    let above : 0 < min (t.warnings + 1) 18446744073709551615 = omega arith in
    ap (λ b. ((t.errors == 0) && b) && (t.infos == 0)) (not_zero (min (t.warnings + 1) 18446744073709551615) above)
    ∙ ap (λ b. b && (t.infos == 0)) (and-false (t.errors == 0))
not_none t Info =
    let above : 0 < min (t.infos + 1) 18446744073709551615 = omega arith in
    ap (λ b. ((t.errors == 0) && (t.warnings == 0)) && b) (not_zero (min (t.infos + 1) 18446744073709551615) above)
    ∙ and-false ((t.errors == 0) && (t.warnings == 0))

-- the counts after these findings are all zero exactly if the next finding is the first of all
none_counted : (t : Tally) (xs : List Finding) → has_no_finding (tally_after t xs) ≡ is_first_after (has_no_finding t) xs
unfolding is_first_after
none_counted t [] = refl
none_counted t (f ∷ rest) =
    none_counted (one_more t (severity_of f.code)) rest
    ∙ ap (λ b. is_first_after b rest) (not_none t (severity_of f.code)) ∙ never_first rest

-- the text of findings, followed by the text of one more finding, is the text of all of them
shown_more : {style : Style} {name bytes : List ℕ} {is_first : Bool} {xs : List Finding} {t : List ℕ} (f : Finding)
    (u : List ℕ) → AreShown style name bytes is_first xs t
    → IsShown style (is_first_after is_first xs) name (region_at bytes f.span) f u
    → AreShown style name bytes is_first (xs ++ f ∷ []) (t ++ u)
unfolding is_first_after
shown_more {style} {name} {bytes} {is_first} f u none shown =
    subst (λ t. AreShown style name bytes is_first (f ∷ []) t) (append-nil u) (next u shown none)
shown_more {style} {name} {bytes} {is_first} f u (next {f = g} {rest = rest} text {texts} s more) shown =
    let later : IsShown style (is_first_after false rest) name (region_at bytes f.span) f u
    = subst (λ b. IsShown style b name (region_at bytes f.span) f u) (sym (never_first rest)) shown in
    subst (λ t. AreShown style name bytes is_first (g ∷ (rest ++ f ∷ [])) t) (sym (append_assoc text texts u))
    (next text s (shown_more f u more later))

-- the output for findings, followed by the output for one more finding, is the output for all of them
pub one_added : {style : Style} {name bytes : List ℕ} {xs : List Finding} {a b c : Printed} (f : Finding)
    → IsAdded (ArePrinted style name bytes xs) a b
    → IsAdded (IsPrintedOne style name (region_at bytes f.span) f) b c → IsAdded (ArePrinted style name bytes (xs ++ f ∷ [])) a c
one_added {style} {name} {bytes} {xs} {a} {b} {c} f before one = record {
  text = before.text ++ one.text;
  are = record {
    shown =
        shown_more f one.text before.are.shown
        (subst (λ d. IsShown style d name (region_at bytes f.span) f one.text)
        (ap has_no_finding before.are.tally ∙ none_counted a.tally xs) one.are.shown);
    tally =
        one.are.tally ∙ ap (λ t. one_more t (severity_of f.code)) before.are.tally
        ∙ sym (fold-append (λ t g. one_more t (severity_of g.code)) a.tally xs (f ∷ []));
  };
  printed = one.printed ∙ ap (λ t. t ++ one.text) before.printed ∙ append_assoc (string_bytes a.text) before.text one.text;
}

-- the output for no findings is empty
pub none_added : {style : Style} {name bytes : List ℕ} (a : Printed) → IsAdded (ArePrinted style name bytes []) a a
none_added a = record { text = []; are = record { shown = none; tally = refl }; printed = sym (append-nil (string_bytes a.text)) }

-- a finding that is selected is appended to the selected findings
pub asked_more : (s : Selection) (off : List Rule) (xs : List Finding) (f : Finding) → is_asked s off f ≡ true
    → selected_findings s off (xs ++ f ∷ []) ≡ selected_findings s off xs ++ f ∷ []
asked_more s off xs f is = filter-append (is_asked s off) xs (f ∷ []) ∙ ap (λ b. selected_findings s off xs ++ cond b (f ∷ []) []) is

-- a finding that isn't selected leaves the selected findings unchanged
pub asked_same : (s : Selection) (off : List Rule) (xs : List Finding) (f : Finding) → is_asked s off f ≡ false
    → selected_findings s off (xs ++ f ∷ []) ≡ selected_findings s off xs
asked_same s off xs f isnt =
    filter-append (is_asked s off) xs (f ∷ []) ∙ ap (λ b. selected_findings s off xs ++ cond b (f ∷ []) []) isnt
    ∙ append-nil (selected_findings s off xs)

-- after a turn of the loop with a selected finding, the output is that for the selected findings including this one
pub step_printed : {style : Style} {name bytes : List ℕ} (s : Selection) (off : List Rule) (xs more : List Finding) (f : Finding)
    (region : Region) {a b c d : Printed} → more ≡ xs ++ f ∷ [] → is_asked s off f ≡ true
    → region ≡ region_at bytes f.span → IsAdded (ArePrinted style name bytes (selected_findings s off xs)) a b
    → IsAdded (IsPrintedOne style name region f) b c → d ≡ c → IsAdded (ArePrinted style name bytes (selected_findings s off more)) a d
step_printed {style} {name} {bytes} s off xs more f region {a} {b} {c} {d} grows is at before one same =
    subst (λ p. IsAdded (ArePrinted style name bytes (selected_findings s off more)) a p) (sym same)
    (subst (λ ys. IsAdded (ArePrinted style name bytes ys) a c) (sym (ap (selected_findings s off) grows ∙ asked_more s off xs f is))
    (one_added f before (subst (λ p. IsAdded (IsPrintedOne style name p f) b c) at one)))

-- after a turn of the loop with a finding that isn't selected, the output is that for the selected findings
pub step_passed : {style : Style} {name bytes : List ℕ} (s : Selection) (off : List Rule) (xs more : List Finding) (f : Finding)
    {a b d : Printed} → more ≡ xs ++ f ∷ [] → is_asked s off f ≡ false
    → IsAdded (ArePrinted style name bytes (selected_findings s off xs)) a b → d ≡ b
    → IsAdded (ArePrinted style name bytes (selected_findings s off more)) a d
step_passed {style} {name} {bytes} s off xs more f {a} {b} {d} grows isnt before same =
    subst (λ p. IsAdded (ArePrinted style name bytes (selected_findings s off more)) a p) (sym same)
    (subst (λ ys. IsAdded (ArePrinted style name bytes ys) a b) (sym (ap (selected_findings s off) grows ∙ asked_same s off xs f isnt))
    before)

-- the output for the findings of a file's bytes, followed by the output for the findings of its text, is that for the file
pub kept_added : {lint : Lint} {name bytes : List ℕ} {decoded : Decoded} (kept : List Finding) {a b c : Printed}
    → IsAdded
    (ArePrinted lint.style name bytes
    (selected_findings lint.selection (off_in lint (string_bytes decoded.text))
    (findings_of_no_entry lint.conditions.items (byte_findings bytes decoded.invalid)))) a b
    → IsAdded
    (ArePrinted lint.style name (string_bytes decoded.text)
    (selected_findings lint.selection (off_in lint (string_bytes decoded.text)) kept)) b c
    → IsAdded (IsPrintedKept lint name bytes decoded kept) a c
kept_added kept {a} {b} {c} first second = record {
  text = first.text ++ second.text;
  are = record {
    between = b.tally;
    first = first.text;
    second = second.text;
    of_bytes = first.are;
    of_text = second.are;
    is = refl;
  };
  printed = second.printed ∙ ap (λ t. t ++ second.text) first.printed ∙ append_assoc (string_bytes a.text) first.text second.text;
}

-- the output for the reported findings of a file, except those that report a name of the project as unknown, is that for the file
pub file_added : {lint : Lint} {name bytes : List ℕ} {decoded : Decoded} (found kept : List Finding) {a c : Printed}
    → AreFindings (string_bytes decoded.text) found
    → AreReportedFindings lint.conditions.items (string_bytes decoded.text) found kept
    → IsAdded (IsPrintedKept lint name bytes decoded (without_own lint.own kept)) a c
    → IsAdded (IsPrintedFile lint name bytes decoded) a c
file_added found kept are reported printed = record {
  text = printed.text;
  are = record { found = found; are = are; kept = kept; reported = reported; printed = printed.are };
  printed = printed.printed;
}

-- if a text was empty, the text that was appended to it is the whole text
pub added_alone : {Are : Tally → List ℕ → Tally → Type 0} {a b : Printed} → string_bytes a.text ≡ [] → IsAdded Are a b
    → Are a.tally (string_bytes b.text) b.tally
added_alone {Are} {a} {b} empty added = subst (λ t. Are a.tally t b.tally) (sym (added.printed ∙ ap (λ s. s ++ added.text) empty)) added.are
