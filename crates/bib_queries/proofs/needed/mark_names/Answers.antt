use Rattle.std.proofs.Common.{◌≡◌, ◌<◌, ◌∙◌, ◌+◌, ℕ, List, [], ◌∷◌, ◌++◌, length, get_or, map, take, ap, sym, subst, arith}
use Rattle.std.specs.Borrow.{Bor}
use Rattle.std.specs.List.{All, Contains}
use Rattle.std.proofs.lemmas.List.{take_more, map-append}
use Rattle.bib_queries.specs.Searching.{AreHoldersIn, LooksUp, holders_in}
use Rattle.bib_queries.proofs.SearchFacts.{among_at, holder_before, left_below, marks_then, marks_weaker, one_looked_up}
use Rattle.bib_queries.proofs.needed.mark_names.Goals as goal

pub mark_name-requires : goal.mark_name-requires
mark_name-requires c = λ other.
    subst (λ n. All (λ i. i < n) (holders_in c.names.holders other)) (sym c.names.invariant.length)
    (left_below c.args.holders.now c.names.holders _ c.names.marks (length c.args.marks.now) c.names.invariant.expands c.requires other)

pub names-preserved : goal.names-preserved
names-preserved c =
    let nobody : Bor (List ℕ) = record { ref_ptr = (0, 0); now = [] } in
    let names = c.args.names.now in
    let i : ℕ = c.names.name-index in
    let within : i < length names = omega arith in
    let name : List ℕ = (get_or names i nobody).now in
    let done : List (List ℕ) = map (λ n. n.now) (take i names) in
    let says = c.in_ok-mark_name.ensures in
    let next : map (λ n. n.now) (take (i + 1) names) ≡ done ++ name ∷ [] =
    ap (map (λ n. n.now)) (take_more names i nobody within)
    ∙ map-append (λ n. n.now) (take i names) (get_or names i nobody ∷ []) in
    record {
      length = says.length ∙ c.names.invariant.length;
      marks =
          marks_then (AreHoldersIn c.args.holders.now (map (λ n. n.now) names)) c.args.marks.now
          c.args.pending.now.items c.names.marks c.names.pending.items c.mark_name.new.marks
          c.mark_name.new.pending.items c.names.invariant.marks
          (marks_weaker (Contains (holders_in c.names.holders name)) (AreHoldersIn c.args.holders.now (map (λ n. n.now) names))
          (λ k held. (
            name,
            among_at names i nobody within,
            holder_before c.args.holders.now c.names.holders done c.names.marks name k c.names.invariant.expands
                held,
          ))
          c.names.marks c.names.pending.items c.mark_name.new.marks c.mark_name.new.pending.items says.marks);
      expands = subst (λ l. LooksUp c.args.holders.now l c.mark_name.new.marks c.mark_name.new.holders) (sym next)
          (one_looked_up c.args.holders.now c.names.holders c.mark_name.new.holders done name c.names.marks
          c.mark_name.new.marks c.names.invariant.expands says.marks.kept says.all says.left);
    }
