use Rattle.std.proofs.Common.{◌≡◌, ◌<◌, ◌≤◌, ◌+◌, ℕ, suc, List, Some, get_or, length, map, sym, ap, subst, arith}
use Rattle.std.specs.Prelude.{slice_get}
use Rattle.std.specs.Option.{option_map_or}
use Rattle.std.proofs.lemmas.List.{length-map}
use Rattle.std.proofs.lemmas.Option.{slice_get_past}
use Rattle.bib_syntax.specs.Views.{field_of}
use Rattle.bib_syntax.specs.declared.raw.Pair.{Pair}
use Rattle.edit_entries.proofs.PositionFacts.{slice_get-map}
use Rattle.edit_entries.proofs.removing.field_limit.Goals as goal

limit_next : (fields : List Pair) (index end : ℕ) (next : Pair) → index + 1 < length fields
    → next ≡ get_or fields (index + 1) next
    → (field_of next).name.start ≡ option_map_or (λ f. f.name.start) (slice_get (map field_of fields) (suc index)) end
limit_next fields index end next within is =
    let following : index + 1 ≡ suc index = omega arith in
    let found =
    subst (λ k. slice_get (map field_of fields) k ≡ Some (field_of next)) following
    (slice_get-map field_of fields (index + 1) next within is) in
    sym (ap (λ o. option_map_or (λ f. f.name.start) o end) found)

limit_last : (fields : List Pair) (index end : ℕ) → length fields ≤ index + 1
    → end ≡ option_map_or (λ f. f.name.start) (slice_get (map field_of fields) (suc index)) end
limit_last fields index end past =
    sym
    (ap (λ o. option_map_or (λ f. f.name.start) o end)
    (slice_get_past (map field_of fields) (suc index) (omega (arith, length-map fields field_of))))

pub returns-in-Some : goal.returns-in-Some
returns-in-Some c =
    let found = c.in-Some.ensures.lookup in
    subst
    (λ fs.
    c.in-Some.next.now.key.span.start
    ≡ option_map_or (λ f. f.name.start) (slice_get (map field_of fs) (suc c.args.index))
    c.args.entry.now.span.end) c.deref.ensures.value
    (limit_next c.deref.result.now c.args.index c.args.entry.now.span.end c.in-Some.next.now found.3.0 found.1)

pub returns-in-None : goal.returns-in-None
returns-in-None c =
    subst
    (λ fs.
    c.args.entry.now.span.end
    ≡ option_map_or (λ f. f.name.start) (slice_get (map field_of fs) (suc c.args.index))
    c.args.entry.now.span.end) c.deref.ensures.value
    (limit_last c.deref.result.now c.args.index c.args.entry.now.span.end c.in-None.ensures.lookup.3)
