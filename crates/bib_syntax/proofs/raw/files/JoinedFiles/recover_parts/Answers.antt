use Rattle.std.proofs.Common.{◌≡◌, ◌∙◌, ◌-◌, arith, ap, sym, subst, drop, take, get_or, [], ◌++◌, append_assoc, append-nil}
use Rattle.std.specs.Prelude.{true}
use Rattle.std.specs.Str.{IsCharBoundary}
use Rattle.std.specs.String.{string_bytes}
use Rattle.std.proofs.lemmas.Str.{IsCharBoundary-start}
use Rattle.std.proofs.lemmas.Option.{slice_get_within}
use Rattle.bib_text.specs.Places.{place}
use Rattle.bib_syntax.specs.Files.{AreFiles, RecoveredFrom}
use Rattle.bib_syntax.specs.Files.{RecoveredFrom as recovered}
use Rattle.bib_syntax.specs.Reading.{empty_reading, then}
use Rattle.bib_syntax.specs.Recovery.{Recovered}
use Rattle.bib_syntax.specs.Views.{file_of}
use Rattle.bib_syntax.proofs.FileFacts.{then-then, then-empty_reading}
use Rattle.bib_syntax.proofs.FilesFacts.{boundary_cut, drop_all, end_boundary, next_boundary, next_file, this_file}
use Rattle.bib_syntax.proofs.raw.files.JoinedFiles.recover_parts.Goals as goal
use Rattle.bib_syntax.proofs.raw.files.JoinedFiles.recover_parts.Goals.{After-range}

-- the text up to the end of this file
cut : (c : After-range) → c.range.result.now ≡ take (get_or c.deref-end-items.result.now c.files.end-index 0) c.text-text.result.now
cut c =
    let end = get_or c.deref-end-items.result.now c.files.end-index 0 in
    let all : end - 0 ≡ end = omega arith in
    c.range.ensures.value ∙ ap (λ n. take n c.text-text.result.now) all

pub files-init : goal.files-init
files-init c =
    let text = c.text-text.result.now in
    let ends = c.deref-end-items.result.now in
    let same : string_bytes c.self.inside.text ≡ text = ap (λ files. files.text) c.self.view_is ∙ sym c.text-text.ensures in (
      (λ says errors x.
          subst (λ r. RecoveredFrom text 0 ends (then r says) (c.nothing-found.result.skipped.items ++ errors))
          (sym c.nothing-found.ensures.content)
          (subst (λ xs. RecoveredFrom text 0 ends (then empty_reading says) (xs ++ errors)) (sym c.nothing-found.ensures.skipped) x)),
      subst (λ t. AreFiles t 0 ends) same
          (subst (AreFiles (string_bytes c.self.inside.text) 0) (sym c.deref-end-items.ensures.value) c.self.invariant),
      IsCharBoundary-start text c.text-text.utf8,
    )

pub range-requires-clause-end_boundary : goal.range-requires-clause-end_boundary
range-requires-clause-end_boundary c =
    let text = c.text-text.result.now in
    let ends = c.deref-end-items.result.now in
    let are = this_file text ends c.files.start c.files.end-index c.files-test.true c.files.invariant.1 in
    end_boundary text (get_or ends c.files.end-index 0) are.1

pub recover-requires : goal.recover-requires
recover-requires c =
    let at = goal.at.recover-requires c in
    let text = c.text-text.result.now in
    let ends = c.deref-end-items.result.now in
    let end = get_or ends c.files.end-index 0 in
    let are = this_file text ends c.files.start c.files.end-index c.files-test.true c.files.invariant.1 in
    let within = slice_get_within text end 37 are.1 in
    subst (λ t. IsCharBoundary t c.files.start) (sym (cut at.After-range))
    (boundary_cut text c.files.start end (omega (arith, within)) are.0 c.files.invariant.2)

pub files-preserved : goal.files-preserved
files-preserved c =
    let at = goal.at.files-preserved c in
    let text = c.text-text.result.now in
    let ends = c.deref-end-items.result.now in
    let end = get_or ends c.files.end-index 0 in
    let are = this_file text ends c.files.start c.files.end-index c.files-test.true c.files.invariant.1 in
    let found = c.in_ok-recover.field-0 in
    let file : Recovered true (place (take end text) c.files.start) (file_of found.raw) found.skipped.items =
    subst (λ t. Recovered true (place t c.files.start) (file_of found.raw) found.skipped.items)
    (cut at.After-range) c.in_ok-recover.ensures in (
      (λ says errors x.
          let here = subst (λ xs. RecoveredFrom text c.files.start xs
          (then (file_of c.in_ok-recover.field-0.raw) says) (c.in_ok-recover.field-0.skipped.items ++ errors))
          (sym (next_file ends c.files.end-index c.files-test.true)) (recovered.file file x) in
          let all = c.files.invariant.0 _ _ here in
          subst (λ r. RecoveredFrom text 0 ends r (c.append.new.self.skipped.items ++ errors))
          (sym (ap (λ r. then r says) c.in_ok-append.ensures.content
          ∙ then-then (file_of c.files.found.raw) (file_of c.in_ok-recover.field-0.raw) says))
          (subst (λ xs. RecoveredFrom text 0 ends
          (then (file_of c.files.found.raw) (then (file_of c.in_ok-recover.field-0.raw) says)) xs)
          (sym (ap (λ xs. xs ++ errors) c.in_ok-append.ensures.skipped
          ∙ append_assoc c.files.found.skipped.items c.in_ok-recover.field-0.skipped.items errors)) all)),
      are.3,
      next_boundary text end c.text-text.utf8 are.2,
    )

pub returns : goal.returns
returns c =
    let text = c.text-text.result.now in
    let ends = c.deref-end-items.result.now in
    let same : text ≡ c.args.self.now.text = c.text-text.ensures in
    let ends_are : ends ≡ c.args.self.now.ends = c.deref-end-items.ensures.value ∙ ap (λ files. files.ends) c.self.view_is in
    let none : RecoveredFrom text c.files.start (drop c.files.end-index ends) empty_reading [] =
    subst (λ xs. RecoveredFrom text c.files.start xs empty_reading [])
    (sym (drop_all ends c.files.end-index (omega (arith, c.files-test.false)))) recovered.none in
    let all = c.files.invariant.0 empty_reading [] none in
    subst (λ t. RecoveredFrom t 0 c.args.self.now.ends (file_of c.files.found.raw) c.files.found.skipped.items) same
    (subst (λ xs. RecoveredFrom text 0 xs (file_of c.files.found.raw) c.files.found.skipped.items) ends_are
    (subst (λ r. RecoveredFrom text 0 ends r c.files.found.skipped.items) (then-empty_reading (file_of c.files.found.raw))
    (subst (RecoveredFrom text 0 ends (then (file_of c.files.found.raw) empty_reading)) (append-nil c.files.found.skipped.items) all)))
